use Rattle.std.proofs.Common.{sym, subst}
use Rattle.std.specs.Str.{IsUtf8}
use Rattle.rr_graph.proofs.JsonLemmas.{unmarked}
use Rattle.rr_graph.proofs.reading.read_text.Goals as goal

pub json_object-requires : goal.json_object-requires
json_object-requires c = subst IsUtf8 (sym c.without_mark.ensures) (unmarked c.args.text.now c.requires)
