use Rattle.std.proofs.Common.{ℕ, List, sym, ap, ◌∙◌}
use Rattle.std.specs.Prelude.{Some}
use Rattle.rr_canon.proofs.least_seq.LeastSeqDaySeq.times.Goals as goal

pub returns : goal.returns
returns c = c.times.ensures ∙ ap (λ (x : List ℕ). Some x) (sym c.as_slice.ensures.same)
