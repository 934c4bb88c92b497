use Rattle.std.proofs.Common.{◌-◌, ℕ, List, length}
use Rattle.std.specs.Option.{ForSome}
use Rattle.std.specs.List.{All}
use Rattle.rr_lazy.specs.Ahead.{day_seen}
use Rattle.rr_lazy.specs.Many.{IsLeftBy}
use Rattle.rr_lazy.specs.Next.{IsInTable}
use Rattle.rr_lazy.proofs.many.forget_all.Given as goal

abbrev pub invariant-loop-index : goal.invariant-loop-index
invariant-loop-index g l = (sets : List (List ℕ)) → IsLeftBy (λ p. day_seen sets p.ahead) (λ p. p.lazy) l.fn.parts.items l.day l.index l.parts.items
    × (All (λ p. ForSome p.ahead (IsInTable sets)) l.fn.parts.items → All (λ p. ForSome p.ahead (IsInTable sets)) l.parts.items)

abbrev pub decreases-loop-index : goal.decreases-loop-index
decreases-loop-index g l = length l.parts.items - l.index
