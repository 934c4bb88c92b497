use Rattle.std.proofs.Common.{sym, ◌∙◌}
use Rattle.serde_json.specs.View.{view}
use Rattle.rr_graphfile.specs.Items.{items_in}
use Rattle.rr_graphfile.specs.Known.{known_meaning}
use Rattle.rr_graphfile.proofs.StatedLemmas.{words_are_none}
use Rattle.rr_graphfile.proofs.file.GraphFileEventFile.key_words.Goals as goal

pub returns : goal.returns
returns c =
    let file = c.args.self.now in
    c.of.ensures ∙ rw c.new.ensures.items (sym (words_are_none (known_meaning file.zones) file.offset (items_in (view file.value)) c.args._indexes.now))
