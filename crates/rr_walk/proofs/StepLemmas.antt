-- A call of an iterator over a rule: from the start's day on at least.
use Rattle.std.proofs.Common.{◌≡◌, ◌⊎◌, ℕ, ◌<◌, true, false, ◌&&◌, ℤ, pos, ◌+ℤ◌, ◌≤ℤ◌, ◌<ℤ◌, refl, inl, inr, arith}
use Rattle.std.specs.Prelude.{Some, None, int_le}
use Rattle.std.proofs.lemmas.Int.{ints, clamps, by_lt_z}
use Rattle.std.specs.Int.{int_max, int_min}
use Rattle.rr_model.specs.Moment.{day_part, moment_at}
use Rattle.rr_model.specs.Rule.Chosen.{is_chosen}
use Rattle.rr_model.specs.declared.kind.Kind.{Kind}
use Rattle.rr_model.specs.declared.kind.Kind.TheVariants.{Days, Moments}
use Rattle.rr_model.specs.declared.rule.Rule.{Rule}
use Rattle.rr_model.proofs.WholeLemmas.{floor_whole}
use Rattle.rr_model.specs.Sets.Tree.{Tree, chosen_of, has_second, stands_at}
use Rattle.rr_lazy.specs.Next.{HasNone, IsFirstOccupied}
use Rattle.rr_lazy.specs.DayTimes.{DayTimes}
use Rattle.rr_lazy.proofs.TreeLemmas.{has_second_below}
use Rattle.rr_walk.specs.Walk.{IsFirstUpTo}

early : (kind : Kind) (start d : ℤ) (s : ℕ) → s < 86_400 → d <ℤ day_part kind start → int_le start (moment_at kind d s) ≡ false
early Days start d s l h = grind (arith, ints)
early Moments start d s l h =
    let w = floor_whole start 86_400 (omega arith) in
    let m : moment_at Moments d s <ℤ start = omega (arith, ints, w, l, h) in
    grind (arith, ints)

-- nothing stands before the start's day
pub before_start : (rule : Rule) (kind : Kind) (start d : ℤ) (s : ℕ) → d <ℤ day_part kind start → stands_at (chosen_of rule kind start) d s ≡ false
before_start rule kind start d s h =
    elim (has_second kind s) as (λ b. has_second kind s ≡ b
    → (b && (is_chosen rule kind start (moment_at kind d s) && int_le start (moment_at kind d s))) ≡ false) [
      | false ↦ λ e. refl
      | true ↦ λ e. rw (early kind start d s (has_second_below kind s e) h)
          (elim (is_chosen rule kind start (moment_at kind d s)) as (λ b. (b && false) ≡ false) [ true ↦ refl | false ↦ refl ])
    ] refl

module _ (rule : Rule) (kind : Kind) (start position from to : ℤ) (within : (from ≡ position) ⊎ (from ≡ day_part kind start)) (late : position ≤ℤ from) where
  abbrev tree : Tree
  tree = chosen_of rule kind start

  skipped : (d : ℤ) (s : ℕ) → d <ℤ from → position ≤ℤ d → stands_at tree d s ≡ false
  skipped d s l h = elim within [ inl e ↦ absurd (omega (arith, ints, e, l, h)) | inr e ↦ before_start rule kind start d s (omega (arith, ints, e, l)) ]

  pub step_none : IsFirstUpTo tree from to None → HasNone tree position (to +ℤ pos 1)
  step_none none d s l h = by_lt_z {P = stands_at tree d s ≡ false} d from (λ m. skipped d s m l) (λ g. none d s g h)

  pub step_some : (found : DayTimes) → IsFirstUpTo tree from to (Some found) → IsFirstOccupied tree position found.day found.times
  step_some found f = record {
    late = omega (arith, ints, late, f.0.late);
    before = λ d s l h. by_lt_z {P = stands_at tree d s ≡ false} d from (λ m. skipped d s m l) (λ g. f.0.before d s g h);
    some = f.0.some;
    all = f.0.all;
  }

-- the later of two days is one of them
pub later_is : (a b m : ℤ) → m ≡ int_max a b → (m ≡ a) ⊎ (m ≡ b)
later_is a b m e = let P : Type 0 = (m ≡ a) ⊎ (m ≡ b) in
    by_lt_z {P = P} a b (λ l. inr (omega (arith, ints, clamps, l, e))) (λ g. inl (omega (arith, ints, clamps, g, e)))

pub earlier_is : (a b m : ℤ) → m ≡ int_min a b → (m ≡ a) ⊎ (m ≡ b)
earlier_is a b m e = let P : Type 0 = (m ≡ a) ⊎ (m ≡ b) in
    by_lt_z {P = P} a b (λ l. inl (omega (arith, ints, clamps, l, e))) (λ g. inr (omega (arith, ints, clamps, g, e)))
