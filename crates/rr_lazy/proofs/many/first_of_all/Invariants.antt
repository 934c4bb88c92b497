use Rattle.std.proofs.Common.{◌≡◌, ◌⊎◌, ◌<◌, ◌-◌, ℕ, [], length, get_or, ◌≤ℤ◌}
use Rattle.std.specs.Option.{ForSome}
use Rattle.rr_lazy.specs.Ahead.{day_seen}
use Rattle.rr_lazy.specs.Many.{GaveDaySome}
use Rattle.rr_lazy.proofs.many.first_of_all.Given as goal

abbrev pub invariant-loop-index : goal.invariant-loop-index
invariant-loop-index g l = (l.first ≤ℤ l.from)
    × ((k : ℕ) (d : _) → k < l.index → k < length l.parts → ForSome (day_seen [] (get_or l.parts k d).ahead) (λ f. l.first ≤ℤ f.day))
    × ((l.first ≡ l.from) ⊎ GaveDaySome (λ p. day_seen [] p.ahead) l.parts l.first)

abbrev pub decreases-loop-index : goal.decreases-loop-index
decreases-loop-index g l = length l.parts - l.index
