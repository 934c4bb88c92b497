use Rattle.std.proofs.Common.{◌≤◌, ◌*◌}
use Rattle.rr_drill.specs.Folds.{stands}
use Rattle.rr_drill.specs.Asked.{IsYes}
use Rattle.rr_drill.proofs.CountLemmas.{PairsOn}
use Rattle.rr_drill.proofs.counting.yes_in_pairs.Given as goal

abbrev pub invariant-loop-place : goal.invariant-loop-place
invariant-loop-place l =
    (l.count ≤ 100 * l.place) × PairsOn (λ a b. IsYes l.asked (stands a) (stands b)) l.list l.place l.count
