-- The months that may give a day are its own and the one before that.
use Rattle.std.proofs.Common.{◌≡◌, ◌⊎◌, ◌↔◌, ℕ, ◌≤◌, Bool, true, false, cond, All, ℤ, pos, ◌+ℤ◌, ◌-ℤ◌, ◌≤ℤ◌, refl, sym, subst, inl, inr, arith}
use Rattle.std.specs.Prelude.{IsTrue, int_le}
use Rattle.std.specs.Ordering.{int_eq}
use Rattle.std.proofs.lemmas.Int.{ints, by_lt_z}
use Rattle.std.proofs.lemmas.Bool.{false≢true, and_parts, or_cases, or_left, or_right}
use Rattle.std.proofs.lemmas.Bool.Decides.{Decides-int_eq}
use Rattle.std.proofs.lemmas.List.Folds.{Any-from_list_any}
use Rattle.rr_model.specs.Moment.Units.{month_number, first_day_of_month}
use Rattle.rr_skip.specs.Laws.{ChosenIsGiven, SomeMonthGives}
use Rattle.rr_skip.specs.Months.{length_of_month, is_due, is_offset_of_lacking, falls_at, some_falls_on, gives_day, is_day_chosen}
use Rattle.rr_skip.specs.declared.schedule.Schedule.{Schedule}
use Rattle.rr_skip.specs.declared.series.Skip.{Skip}
use Rattle.rr_skip.specs.declared.series.Skip.TheVariants.{Omit, Backward, Forward}
use Rattle.rr_skip.proofs.MonthLemmas.{month_ends, length_bounds, in_month}

-- ---- a day falls in the month, or on the first day after it

lacking_within : (skip : Skip) (size : ℕ) (offset : ℤ) → 1 ≤ size → is_offset_of_lacking skip size offset ≡ true → (pos 0 ≤ℤ offset) × (offset ≤ℤ pos size)
lacking_within Omit size offset some h = absurd (false≢true h)
lacking_within Backward size offset some h =
    let e = (Decides-int_eq (offset +ℤ pos 1) (pos size)).0 h in (omega (arith, ints, e), omega (arith, ints, e))
lacking_within Forward size offset some h =
    let e = (Decides-int_eq offset (pos size)).0 h in (omega (arith, ints, e), omega (arith, ints, e))

pub falls_within : (skip : Skip) (size : ℕ) (offset k : ℤ) → 1 ≤ size → pos 1 ≤ℤ k → falls_at skip size offset k ≡ true
    → (pos 0 ≤ℤ offset) × (offset ≤ℤ pos size)
falls_within skip size offset k some front h = by (int_le k (pos size)) refl h
  where
    by : (b : Bool) → int_le k (pos size) ≡ b → cond b (int_eq (offset +ℤ pos 1) k) (is_offset_of_lacking skip size offset) ≡ true
        → (pos 0 ≤ℤ offset) × (offset ≤ℤ pos size)
    by true low e = let f = (Decides-int_eq (offset +ℤ pos 1) k).0 e in (omega (arith, ints, f), omega (arith, ints, f, low))
    by false low e = lacking_within skip size offset some e

-- ---- the month that gives a day

module _ (schedule : Schedule) (d : ℤ) (front : All (λ k. pos 1 ≤ℤ k) schedule.days) where
  given_near : (n : ℤ) → gives_day schedule n d ≡ true → (first_day_of_month n ≤ℤ d) × (d ≤ℤ first_day_of_month (n +ℤ pos 1))
  given_near n h =
      let p = and_parts (is_due schedule n) (some_falls_on schedule n d) h in
      let offset : ℤ = d -ℤ first_day_of_month n in
      let any = Any-from_list_any (λ k. falls_at schedule.skip (length_of_month n) offset k) schedule.days p.1 in
      let own : pos 1 ≤ℤ any.1 = subst (λ z. pos 1 ≤ℤ z) any.3 (front any.0 any.1 any.2) in
      let w = falls_within schedule.skip (length_of_month n) offset any.1 (omega (arith, length_bounds n)) own any.4 in
      (omega (arith, ints, w.0), omega (arith, ints, w.1, month_ends n))

  month_of_given : (n : ℤ) → gives_day schedule n d ≡ true → (n ≡ month_number d) ⊎ (n ≡ month_number d -ℤ pos 1)
  month_of_given n h =
      let near = given_near n h in
      by_lt_z {P = (n ≡ month_number d) ⊎ (n ≡ month_number d -ℤ pos 1)} d (first_day_of_month (n +ℤ pos 1))
      (λ l. inl (sym ((in_month d n).1 (near.0, l))))
      (λ g. (let e = (in_month d (n +ℤ pos 1)).1 (omega (arith, ints, g), omega (arith, ints, near.1, month_ends (n +ℤ pos 1), length_bounds (n +ℤ pos 1))) in
      inr (omega (arith, ints, e))))

  pub chosen_given : IsTrue (is_day_chosen schedule d) ↔ SomeMonthGives schedule d
  unfolding is_day_chosen
  chosen_given =
      let a = gives_day schedule (month_number d) d in
      let b = gives_day schedule (month_number d -ℤ pos 1) d in (
        λ h. elim (or_cases a b h) [ inl x ↦ (month_number d, x) | inr y ↦ (month_number d -ℤ pos 1, y) ],
        λ g. elim (month_of_given g.0 g.1) [
          | inl e ↦ or_left a b (subst (λ n. gives_day schedule n d ≡ true) e g.1)
          | inr e ↦ or_right a b (subst (λ n. gives_day schedule n d ≡ true) e g.1)
        ],
      )

pub chosen_is_given : ChosenIsGiven
chosen_is_given schedule d front = chosen_given schedule d front
