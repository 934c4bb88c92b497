-- A list of allowed days, found one after another.
use Rattle.std.proofs.Common.{◌≡◌, ℕ, false, List, [], ◌∷◌, ◌++◌, ℤ, pos, ◌+◌, ◌+ℤ◌, ◌≤◌, ◌≤ℤ◌, ◌<ℤ◌, inl, inr, refl, sym, ◌∙◌, subst, arith}
use Rattle.std.specs.Prelude.{◌⊎◌, Option, Some, None, IsTrue, int_lt, true}
use Rattle.std.proofs.lemmas.Bool.{false≢true}
use Rattle.std.proofs.lemmas.Int.{ints, by_lt_z}
use Rattle.rr_model.proofs.RisingSetLemmas.{set_same, set_push, set_empty}
use Rattle.rr_expand.specs.Years.{Filling, IsFirstAllowed, IsFirstBit, allows_day}
use Rattle.rr_expand.specs.KeptMasks.{IsFirstMarked, ListAllowed, TellsYear}
use Rattle.rr_expand.specs.declared.allowed_days.MaskedYear.{MaskedYear}
use Rattle.rr_expand.proofs.KeptMaskLemmas.{none_marked, one_marked}

module _ (f : Filling) (first : ℤ) where
  -- an allowed day from the first one on and before another
  abbrev IsAllowedBefore : ℤ → ℤ → Type 0
  IsAllowedBefore from d = (first ≤ℤ d) × (d <ℤ from) × IsTrue (allows_day f d)

  pub listed_none : (days : List ℤ) → days ≡ [] → ListAllowed f first first days
  listed_none days e = rw e (set_empty int_lt (IsAllowedBefore first) (λ d h. omega (arith, ints, h.0, h.1)))

  -- an allowed day before a later one is the one between them, or before
  split : (from day d : ℤ) → ((e : ℤ) → from ≤ℤ e → e <ℤ day → allows_day f e ≡ false) → IsAllowedBefore (day +ℤ pos 1) d
      → IsAllowedBefore from d ⊎ (day ≡ d)
  split from day d none h =
      let P : Type 0 = IsAllowedBefore from d ⊎ (day ≡ d) in
      by_lt_z {P = P} d from (λ l. inl (h.0, l, h.2))
      (λ g. by_lt_z {P = P} d day (λ l. absurd (false≢true (sym (none d g l) ∙ h.2))) (λ m. inr (omega (arith, ints, m, h.1))))

  pub listed_more : (end from day next : ℤ) (days more : List ℤ) → first ≤ℤ from → next ≡ day +ℤ pos 1 → IsFirstAllowed f from end (Some day)
      → more ≡ days ++ day ∷ [] → ListAllowed f first from days → ListAllowed f first next more
  listed_more end from day next days more low is found e listed =
      rw (is, e) (set_same int_lt (λ d. IsAllowedBefore from d ⊎ (day ≡ d)) (IsAllowedBefore (day +ℤ pos 1)) (days ++ day ∷ [])
      (set_push int_lt (IsAllowedBefore from) days day listed (λ d h. (let l = h.1 in let m = found.0 in grind (arith, ints))))
      (λ d. (
        (λ p. elim p [
          | inl h ↦ (h.0, omega (arith, ints, h.1, found.0), h.2)
          | inr s ↦ (omega (arith, ints, s, low, found.0), omega (arith, ints, s), subst (λ z. IsTrue (allows_day f z)) s found.2)
        ]),
        split from day d found.3,
      )))

  pub listed_all : (end from : ℤ) (days : List ℤ) → from ≤ℤ end → IsFirstAllowed f from end None → ListAllowed f first from days → ListAllowed f first end days
  listed_all end from days within none listed =
      set_same int_lt (IsAllowedBefore from) (IsAllowedBefore end) days listed
      (λ d. (
        (λ h. (h.0, omega (arith, ints, h.1, within), h.2)),
        (λ h. by_lt_z {P = IsAllowedBefore from d} d from (λ l. (h.0, l, h.2)) (λ g. absurd (false≢true (sym (none d g h.1) ∙ h.2)))),
      ))

  -- if each day is allowed
  pub listed_next : ((d : ℤ) → allows_day f d ≡ true) → (from next : ℤ) (days more : List ℤ) → first ≤ℤ from → next ≡ from +ℤ pos 1
      → more ≡ days ++ from ∷ [] → ListAllowed f first from days → ListAllowed f first next more
  listed_next all from next days more low is e listed =
      listed_more next from from next days more low is
      (omega (arith, ints), omega (arith, ints, is), all from, λ d l h. absurd (omega (arith, ints, l, h))) e listed

-- ---- the days of a year

module _ (f : Filling) (year : MaskedYear) (from end : ℤ) (begun : year.first ≤ℤ from) (not_over : end ≤ℤ year.next) (tells : TellsYear f year) where
  -- the first day whose bit is set is the first that is allowed
  first_allowed : (r : Option ℤ) → IsFirstMarked year from end r → IsFirstAllowed f from end r
  first_allowed None none =
      λ d l h. sym (tells d (omega (arith, ints, begun, l)) (omega (arith, ints, not_over, h))) ∙ none d l h (omega (arith, ints, not_over, h))
  first_allowed (Some day) found = (
    found.0,
    found.1,
    sym (tells day (omega (arith, ints, begun, found.0)) found.2) ∙ found.3,
    λ d l h. sym (tells d (omega (arith, ints, begun, l)) (omega (arith, ints, h, found.2))) ∙ found.4 d l h,
  )

  module _ (i j : ℕ) (at : year.first +ℤ pos i ≡ from) (till : year.first +ℤ pos j ≡ end) where
    pub none_allowed : IsFirstBit year.mask.bits i j None → IsFirstAllowed f from end None
    none_allowed none = first_allowed None (none_marked year from end end i j at till (λ d h l. h) none)

    pub one_allowed : (bit : ℕ) (day : ℤ) → day ≡ year.first +ℤ pos bit → IsFirstBit year.mask.bits i j (Some bit) → IsFirstAllowed f from end (Some day)
    one_allowed bit day is found =
        first_allowed (Some day) (one_marked year from end end i j at till bit day (omega (arith, ints)) not_over is found)

-- a list of the days before bit i becomes that of those before bit j
module _ (f : Filling) (year : MaskedYear) (tells : TellsYear f year) (first : ℤ) (i j : ℕ) (low : first ≤ℤ (year.first +ℤ pos i))
    (over : (year.first +ℤ pos j) ≤ℤ year.next) (days : List ℤ) (listed : ListAllowed f first (year.first +ℤ pos i) days) where
  -- if no bit between is set
  pub listed_rest : i ≤ j → IsFirstBit year.mask.bits i j None → ListAllowed f first (year.first +ℤ pos j) days
  listed_rest up none =
      listed_all f first (year.first +ℤ pos j) (year.first +ℤ pos i) days (omega (arith, ints, up))
      (none_allowed f year (year.first +ℤ pos i) (year.first +ℤ pos j) (omega (arith, ints)) over tells i j refl refl none) listed

  -- and of those up to the first one that is set, with that one
  pub listed_bit : (bit : ℕ) (more : List ℤ) → IsFirstBit year.mask.bits i j (Some bit) → more ≡ days ++ (year.first +ℤ pos bit) ∷ []
      → ListAllowed f first (year.first +ℤ pos (bit + 1)) more
  listed_bit bit more found e =
      listed_more f first (year.first +ℤ pos j) (year.first +ℤ pos i) (year.first +ℤ pos bit) (year.first +ℤ pos (bit + 1)) days more low
      (omega (arith, ints))
      (one_allowed f year (year.first +ℤ pos i) (year.first +ℤ pos j) (omega (arith, ints)) over tells i j refl refl bit (year.first +ℤ pos bit) refl found)
      e listed
