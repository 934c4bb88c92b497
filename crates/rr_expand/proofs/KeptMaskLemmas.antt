-- Masks that are kept, and the days that they tell.
use Rattle.std.proofs.Common.{◌≡◌, ℕ, zero, suc, ◌+◌, ◌<◌, true, false, Vec, Global, List, [], ◌∷◌, ◌++◌, length, get_or, set, ℤ, pos, ◌+ℤ◌, ◌-ℤ◌, ◌≤ℤ◌}
use Rattle.std.proofs.Common.{◌<ℤ◌, inl, inr, refl, sym, ◌∙◌, subst, arith}
use Rattle.std.specs.Prelude.{Option, Some, None, nat_abs, nat_lt}
use Rattle.std.proofs.lemmas.Bool.{cases_eq}
use Rattle.std.proofs.lemmas.Bool.Decides.{nat_tests}
use Rattle.std.proofs.lemmas.Int.{ints, by_lt_z}
use Rattle.std.proofs.lemmas.List.{get_or-set_other, get_or-set_same, length-append, length-set}
use Rattle.std.specs.Int.{int_min}
use Rattle.rr_model.specs.Calendar.{IsDayWithin, days_in_year, first_day_of_year, year_of}
use Rattle.rr_model.proofs.CalendarLemmas.{first_day_of_year_bounds, first_day_of_year-next, days_in_year_bounds, IsInYear-year_of}
use Rattle.rr_expand.specs.Years.{Filling, IsFirstAllowed, IsFirstBit, IsYearMask, allows_day, mask_key}
use Rattle.rr_expand.specs.KeptMasks.{AreMasks, AreKeptMasks, IsFirstMarked}
use Rattle.rr_expand.specs.declared.allowed_days.KeptMasks.{KeptMasks}
use Rattle.rr_expand.specs.declared.allowed_days.MaskedYear.{MaskedYear}
use Rattle.rr_expand.specs.declared.year_masks.YearMask.{YearMask}
use Rattle.rr_expand.proofs.KeyWeekLemmas.{equal_keys_have_equal_masks}

-- ---- how far years reach

-- the number of a year whose first day is near enough
pub year_near : (y : ℤ) → IsDayWithin 1000 (first_day_of_year y) → IsDayWithin 0 y
year_near y near = let b = first_day_of_year_bounds y in (omega (arith, ints, near.0, b.1), omega (arith, ints, near.1, b.0))

-- the year of a day
pub year_reaches : (d : ℤ) → IsDayWithin 400 d
    → IsDayWithin 1000 (first_day_of_year (year_of d)) × IsDayWithin 1000 (first_day_of_year (year_of d +ℤ pos 1))
    × (first_day_of_year (year_of d) ≤ℤ d) × (d <ℤ (first_day_of_year (year_of d) +ℤ pos (days_in_year (year_of d))))
year_reaches d near =
    let i = IsInYear-year_of d in
    let next = first_day_of_year-next (year_of d) in
    let long = days_in_year_bounds (year_of d) in (
      (omega (arith, ints, near.0, i.not_over, next, long.1), omega (arith, ints, near.1, i.begun)),
      (omega (arith, ints, near.0, i.not_over), omega (arith, ints, near.1, i.begun, next, long.1)),
      i.begun,
      omega (arith, ints, i.not_over, next),
    )

-- a year by one of its first 365 days
pub year_follows : (d y : ℤ) → IsDayWithin 400 d → first_day_of_year y ≤ℤ d → d <ℤ (first_day_of_year y +ℤ pos 365)
    → IsDayWithin 0 y × IsDayWithin 1000 (first_day_of_year y) × IsDayWithin 1000 (first_day_of_year (y +ℤ pos 1)) × (d <ℤ first_day_of_year (y +ℤ pos 1))
year_follows d y near begun below =
    let next = first_day_of_year-next y in
    let long = days_in_year_bounds y in
    let first : IsDayWithin 1000 (first_day_of_year y) = (omega (arith, ints, near.0, below), omega (arith, ints, near.1, begun)) in (
      year_near y first,
      first,
      (omega (arith, ints, near.0, begun, next, below, long.0), omega (arith, ints, near.1, begun, next, long.1)),
      omega (arith, ints, below, next, long.0),
    )

-- ---- masks that are kept

none_more : {X : Type 0} (xs : List (Option X)) → ((k : ℕ) → get_or xs k None ≡ None) → (k : ℕ) → get_or (xs ++ None ∷ []) k None ≡ None
none_more [] none zero = refl
none_more [] none (suc k) = refl
none_more (x ∷ xs) none zero = none 0
none_more (x ∷ xs) none (suc k) = none_more xs (λ j. none (suc j)) k

-- n keys and no mask
pub record AreKeys (count : ℕ) (kept : List (Option YearMask)) : Type 0 where
  pub keys : length kept ≡ count
  pub none : (k : ℕ) → get_or kept k None ≡ None

pub no_keys : (kept : List (Option YearMask)) → kept ≡ [] → AreKeys 0 kept
no_keys kept e = rw e (record { keys = refl; none = λ k. refl })

pub keys_more : (kept more : List (Option YearMask)) (count : ℕ) → more ≡ kept ++ None ∷ [] → AreKeys count kept → AreKeys (count + 1) more
keys_more kept more count e are = rw e (record { keys = simp length-append (omega (arith, are.keys)); none = none_more kept are.none })

pub no_masks : (f : Filling) (kept : List (Option YearMask)) → AreKeys 56 kept → AreMasks f kept
no_masks f kept are = record {
  keys = are.keys;
  masks = λ year mask e. (let none = are.none (mask_key f.rule year) in absurd (cc));
}

-- a mask is that of every year of its key
same_key : (f : Filling) (year other : ℤ) (words : List ℕ) → mask_key f.rule year ≡ mask_key f.rule other
    → IsYearMask f year words → IsYearMask f other words
same_key f year other words e is k low = is k low ∙ equal_keys_have_equal_masks f year other e k

-- one more is kept at its key
pub masks_more : (f : Filling) (kept : List (Option YearMask)) (year : ℤ) (mask : YearMask) (key : ℕ) → key ≡ mask_key f.rule year
    → key < 56 → IsYearMask f year mask.bits → AreMasks f kept → AreMasks f (set kept key (Some mask))
masks_more f kept year mask key at low is are = record {
  keys = length-set kept key (Some mask) ∙ are.keys;
  masks = λ other m e. elim (cases_eq (mask_key f.rule other) key) [
    | inl same ↦
        (let put : get_or (set kept key (Some mask)) (mask_key f.rule other) None ≡ Some mask =
        rw same (get_or-set_same kept key (Some mask) None (omega (arith, low, are.keys))) in
        let one : mask ≡ m = cc in
        subst (λ n. IsYearMask f other n.bits) one (same_key f year other mask.bits (sym at ∙ sym same) is))
    | inr apart ↦ are.masks other m (sym (get_or-set_other kept key (mask_key f.rule other) (Some mask) None apart) ∙ e)
  ];
}

-- ---- one year

epoch : first_day_of_year (pos 1_970) ≡ pos 0
unfolding first_day_of_year
epoch = refl

-- no year is looked at yet
pub no_year : (f : Filling) (kept : Vec (Option YearMask) Global) → AreMasks f kept.items
    → AreKeptMasks f (record { kept = kept; year = record { number = pos 1_969; first = pos 0; next = pos 0; mask = record { bits = 0 ∷ 0 ∷ 0 ∷ 0 ∷ 0 ∷ 0 ∷ [] } } })
no_year f kept are = record {
  kept = are;
  year = record {
    near = (omega (arith, ints), omega (arith, ints));
    ordered = omega (arith, ints);
    short = omega (arith, ints);
    of_next = sym epoch;
  };
  marked = λ d low high. absurd (omega (arith, ints, low, high));
}

-- the year of a mask is looked at
pub year_known : (f : Filling) (y : ℤ) (masks : KeptMasks) → masks.year.number ≡ y → masks.year.first ≡ first_day_of_year y
    → masks.year.next ≡ first_day_of_year y +ℤ pos (days_in_year y) → IsDayWithin 1000 (first_day_of_year y) → AreMasks f masks.kept.items
    → IsYearMask f y masks.year.mask.bits → AreKeptMasks f masks
year_known f y masks number begins ends near are is =
    let long = days_in_year_bounds y in
    record {
      kept = are;
      year = record {
        near = rw begins near;
        ordered = omega (arith, ints, begins, ends);
        short = omega (arith, ints, begins, ends, long.1);
        of_next = rw number (ends ∙ sym (first_day_of_year-next y));
      };
      marked = λ d low high. (
          let k : ℕ = nat_abs (d -ℤ masks.year.first) in
          let inside : k < days_in_year y = omega (arith, ints, begins, ends, low, high) in
          let within : nat_lt k (days_in_year y) ≡ true = grind (arith, nat_tests) in
          let day : first_day_of_year y +ℤ pos k ≡ d = omega (arith, ints, begins, low) in
          is k (omega (arith, ints, begins, ends, low, high, long.1)) ∙ rw (within, day) refl);
    }

-- ---- the first day of a year whose bit is set

module _ (year : MaskedYear) (from end last : ℤ) (i j : ℕ) (at : year.first +ℤ pos i ≡ from) (till : year.first +ℤ pos j ≡ last) where
  pub none_marked : ((d : ℤ) → d <ℤ end → d <ℤ year.next → d <ℤ last) → IsFirstBit year.mask.bits i j None → IsFirstMarked year from end None
  none_marked within none d low below before =
      none (nat_abs (d -ℤ year.first)) (omega (arith, ints, at, low)) (omega (arith, ints, at, low, till, within d below before))

  pub one_marked : (bit : ℕ) (day : ℤ) → last ≤ℤ end → last ≤ℤ year.next → day ≡ year.first +ℤ pos bit → IsFirstBit year.mask.bits i j (Some bit)
      → IsFirstMarked year from end (Some day)
  one_marked bit day early before is found =
      let same : nat_abs (day -ℤ year.first) ≡ bit = omega (arith, ints, is) in (
        omega (arith, ints, at, is, found.0),
        omega (arith, ints, till, is, found.1, early),
        omega (arith, ints, till, is, found.1, before),
        rw same found.2,
        λ d low less. found.3 (nat_abs (d -ℤ year.first)) (omega (arith, ints, at, low)) (omega (arith, ints, at, low, is, less)),
      )

-- what is below both is below the lesser
pub below_lesser : (a b m : ℤ) → m ≡ int_min a b → (d : ℤ) → d <ℤ a → d <ℤ b → d <ℤ m
below_lesser a b m e d l r = grind (arith, ints)

-- ---- year by year

-- no day from one on and before another is allowed, but for days that are not before the end
pub record IsPassed (f : Filling) (from end day : ℤ) : Type 0 where
  pub begun : from ≤ℤ day
  pub near : IsDayWithin 1000 day
  pub none : (d : ℤ) → from ≤ℤ d → d <ℤ day → d <ℤ end → allows_day f d ≡ false

module _ (f : Filling) (from end : ℤ) where
  pub passed_first : IsDayWithin 400 from → IsPassed f from end from
  passed_first near = record {
    begun = omega (arith, ints);
    near = (omega (arith, ints, near.0), omega (arith, ints, near.1));
    none = λ d low high before. absurd (omega (arith, ints, low, high));
  }

  pub passed_near : (day : ℤ) → IsDayWithin 400 from → IsDayWithin 400 end → IsPassed f from end day → day <ℤ end → IsDayWithin 400 day
  passed_near day first last passed before = (omega (arith, ints, first.0, passed.begun), omega (arith, ints, last.1, before))

  pub passed_all : (day : ℤ) → end ≤ℤ day → IsPassed f from end day → IsFirstAllowed f from end None
  passed_all day over passed d low before = passed.none d low (omega (arith, ints, before, over)) before

  module _ (masks : KeptMasks) (day : ℤ) (are : AreKeptMasks f masks) (begun : masks.year.first ≤ℤ day) (passed : IsPassed f from end day) where
    pub passed_year : day <ℤ masks.year.next → day <ℤ end → IsDayWithin 400 end → IsFirstMarked masks.year day end None
        → IsPassed f from end masks.year.next
    passed_year not_over before near none =
        let y = are.year in
        record {
          begun = omega (arith, ints, passed.begun, not_over);
          near = (omega (arith, ints, passed.near.0, not_over), omega (arith, ints, y.short, begun, before, near.1));
          none = λ d low high early. by_lt_z {P = allows_day f d ≡ false} d day (λ l. passed.none d low l early)
              (λ g. sym (are.marked d (omega (arith, ints, begun, g)) high) ∙ none d g early high);
        }

    pub passed_found : (found : ℤ) → IsFirstMarked masks.year day end (Some found) → IsFirstAllowed f from end (Some found)
    passed_found found first = (
      omega (arith, ints, passed.begun, first.0),
      first.1,
      sym (are.marked found (omega (arith, ints, begun, first.0)) first.2) ∙ first.3,
      λ d low high. by_lt_z {P = allows_day f d ≡ false} d day (λ l. passed.none d low l (omega (arith, ints, high, first.1)))
          (λ g. sym (are.marked d (omega (arith, ints, begun, g)) (omega (arith, ints, high, first.2))) ∙ first.4 d g high),
    )
