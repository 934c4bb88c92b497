use Rattle.std.proofs.Common.{pos}
use Rattle.rr_model.specs.Rule.Candidate.{allows_signed}
use Rattle.rr_expand.specs.LeftOut.{IsNextIn}
use Rattle.rr_expand.proofs.left_out.next_listed.Given as goal

abbrev pub invariant-loop-next : goal.invariant-loop-next
invariant-loop-next l = IsNextIn (λ i. allows_signed l.numbers (pos i) (pos l.many)) l.k l.many l.next
