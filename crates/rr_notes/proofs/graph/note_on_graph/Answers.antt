use Rattle.std.proofs.Common.{rules}
use Rattle.serde_json.specs.View.{view}
use Rattle.rr_notes.proofs.GraphLemmas.{no_note, read_note}
use Rattle.rr_notes.proofs.graph.note_on_graph.Goals as goal

pub returns-in-Ok : goal.returns-in-Ok
returns-in-Ok c =
    read_note c.args.text.now (view c.in-Ok.value) _ c.in-Ok.ensures.ok.0 c.in-Ok.ensures.ok.1 c.note_on_value.ensures

pub returns-in-Err-2 : goal.returns-in-Err-2
returns-in-Err-2 c = no_note c.args.text.now (c.in-Err.ensures.err (search rules))
