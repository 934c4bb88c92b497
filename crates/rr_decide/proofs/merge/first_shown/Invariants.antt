use Rattle.std.proofs.Common.{ℕ, ◌+◌, length}
use Rattle.std.specs.Prelude.{nat_lt}
use Rattle.rr_model.specs.Rising.{Rises}
use Rattle.rr_model.specs.declared.verdict.Side.{Side}
use Rattle.rr_decide.specs.Question.{IsFirstShown, ShowsNone, shown_by}
use Rattle.rr_decide.proofs.merge.first_shown.Given as goal

-- what the seconds that are left show is what the whole lists show
abbrev pub invariant-loop-next : goal.invariant-loop-next
invariant-loop-next l =
    Rises nat_lt l.rest_a
    × Rises nat_lt l.rest_b
    × (ShowsNone (shown_by l.question) l.rest_a l.rest_b → ShowsNone (shown_by l.question) l.xs l.ys)
    × ((w : ℕ) (r : Side) → IsFirstShown (shown_by l.question) l.rest_a l.rest_b w r → IsFirstShown (shown_by l.question) l.xs l.ys w r)

abbrev pub decreases-loop-next : goal.decreases-loop-next
decreases-loop-next l = length l.rest_a + length l.rest_b
