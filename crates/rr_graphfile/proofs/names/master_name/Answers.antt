use Rattle.std.proofs.Common.{sym, ap}
use Rattle.serde_json.specs.View.{view}
use Rattle.rr_graphfile.proofs.NameLemmas.{kept_name, text_of}
use Rattle.rr_graphfile.proofs.names.master_name.Goals as goal

pub returns-in-Some-get : goal.returns-in-Some-get
returns-in-Some-get c = λ items is.
    kept_name c.args.names.now items (view c.args.event.now) c.in-Some.id.now c.in-Some-get.name.now.now (sym c.in-Some.ensures)
    (ap text_of (rw c.as_bytes.ensures.value at c.in-Some-get.ensures.value)) is
