use Rattle.std.proofs.Common.{◌-◌, ◌≤◌, length}
use Rattle.std.specs.Option.{ForSome}
use Rattle.rr_shapes.specs.Tables.{Extends}
use Rattle.rr_lazy.specs.Ahead.{IsGivenOn}
use Rattle.rr_lazy.specs.Many.{IsGivenBySome}
use Rattle.rr_lazy.proofs.many.all_on.Given as goal

abbrev pub invariant-loop-index : goal.invariant-loop-index
invariant-loop-index g l = (l.index ≤ length l.parts) × Extends l.fn.sets l.sets × ForSome l.given (IsGivenOn l.sets)
    × IsGivenBySome l.fn.sets (λ p. p.ahead) l.parts l.index l.day l.sets l.given

abbrev pub decreases-loop-index : goal.decreases-loop-index
decreases-loop-index g l = length l.parts - l.index
