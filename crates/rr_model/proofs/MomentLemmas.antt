-- A moment is a day and a second.
use Rattle.std.proofs.Common.{◌≡◌, ℕ, ◌<◌, ℤ, refl, sym}
use Rattle.rr_model.specs.Moment.{day_part, second_part, moment_at}
use Rattle.rr_model.specs.declared.kind.Kind.{Kind}
use Rattle.rr_model.specs.declared.kind.Kind.TheVariants.{Days, Moments}
use Rattle.rr_model.proofs.WholeLemmas.{floor_only}

pub day_part-moment_at : (day : ℤ) (second : ℕ) → second < 86_400 → day_part Moments (moment_at Moments day second) ≡ day
day_part-moment_at day second h = (floor_only (moment_at Moments day second) day 86_400 second h refl).0

pub second_part-moment_at : (day : ℤ) (second : ℕ) → second < 86_400 → second_part Moments (moment_at Moments day second) ≡ second
second_part-moment_at day second h = (floor_only (moment_at Moments day second) day 86_400 second h refl).1

-- of either kind: a date has the second 0
pub parts_of_moment : (k : Kind) (day : ℤ) (x : ℕ) → x < 86_400 → (k ≡ Days → x ≡ 0)
    → (day_part k (moment_at k day x) ≡ day) × (second_part k (moment_at k day x) ≡ x)
parts_of_moment Days day x lt z = (refl, sym (z refl))
parts_of_moment Moments day x lt z = floor_only (moment_at Moments day x) day 86_400 x lt refl
