-- Which moments of UTC a local time names.
use Rattle.std.proofs.Common.{◌≡◌, inl, inr, ℕ, zero, suc, Bool, true, false, not, ◌||◌, ℤ, pos, neg_ℤ, ◌+ℤ◌, ◌-ℤ◌, ◌≤ℤ◌, ◌<ℤ◌, refl, ap, sym, ◌∙◌, arith}
use Rattle.std.specs.Ordering.{int_eq}
use Rattle.std.proofs.lemmas.Bool.{true≢false}
use Rattle.std.proofs.lemmas.Int.{by_lt_z, ints}
use Rattle.rr_model.specs.Moment.Years.{IsInYears}
use Rattle.rr_model.specs.declared.kind.Kind.TheVariants.{Moments}
use Rattle.rr_model.proofs.WholeLemmas.{floor_whole, floor_mod_below}
use Rattle.rr_model.proofs.YearLemmas.{year_1, year_10000}
use Rattle.rr_true.specs.Changes.{IsBelowDay}
use Rattle.rr_true.specs.Moments.{IsOffset, IsTrueMoment, local_at}
use Rattle.rr_true.specs.Near.{IsNear}
use Rattle.rr_graphfile.specs.Turning.{is_named, is_shown_before}

-- a moment of the years 1 to 9999 is near
within : (t : ℤ) → IsInYears Moments t → (neg_ℤ (pos 62_135_596_800) ≤ℤ t) × (t <ℤ pos 253_402_300_800)
within t h =
    let w = floor_whole t 86_400 (omega arith) in
    let b = floor_mod_below t 86_400 (omega arith) in
    (omega (arith, ints, w, b, year_1, h.0), omega (arith, ints, w, b, year_10000, h.1))

pub years_near : (t : ℤ) → IsInYears Moments t → IsNear t
years_near t h = let w = within t h in (omega (arith, ints, w.0), omega (arith, ints, w.1))

-- and so is its local time
pub local_near : (t offset : ℤ) → IsInYears Moments t → IsBelowDay offset → IsNear (t +ℤ offset)
local_near t offset h below = let w = within t h in (omega (arith, ints, w.0, below.0), omega (arith, ints, w.1, below.1))

-- ---- moments before one

is_same : (x y : ℤ) → x ≡ y → int_eq x y ≡ true
is_same x y e = grind (arith, ints)

is_other : (x y : ℤ) → (x ≡ y → ⊥) → int_eq x y ≡ false
is_other x y n = grind (arith, ints)

module _ (ahead : ℤ → ℤ) (t : ℤ) where
  -- no earlier moment has this local time
  pub none_before : (n : ℕ) (u : ℤ) → ((v : ℤ) → v <ℤ u → local_at ahead v ≡ t → ⊥) → is_shown_before ahead t u n ≡ false
  unfolding is_shown_before
  none_before zero u none = refl
  none_before (suc n) u none =
      ap (λ (b : Bool). b || is_shown_before ahead t (u -ℤ pos 1) n)
      (is_other (local_at ahead (u -ℤ pos 1)) t (none (u -ℤ pos 1) (omega (arith, ints))))
      ∙ none_before n (u -ℤ pos 1) (λ v l. none v (omega (arith, ints, l)))

  -- one of the n moments before has it
  pub some_before : (n : ℕ) (u v : ℤ) → v <ℤ u → u ≤ℤ (v +ℤ pos n) → local_at ahead v ≡ t → is_shown_before ahead t u n ≡ true
  unfolding is_shown_before
  some_before zero u v l m e = absurd (omega (arith, ints, l, m))
  some_before (suc n) u v l m e = by (int_eq (local_at ahead (u -ℤ pos 1)) t) refl (λ k. some_before n (u -ℤ pos 1) v k (omega (arith, ints, m)) e)
    where
      apart : int_eq (local_at ahead (u -ℤ pos 1)) t ≡ false → v ≡ u -ℤ pos 1 → ⊥
      apart is same = true≢false (sym (is_same (local_at ahead (u -ℤ pos 1)) t (ap (local_at ahead) (sym same) ∙ e)) ∙ is)

      by : (b : Bool) → int_eq (local_at ahead (u -ℤ pos 1)) t ≡ b → (v <ℤ (u -ℤ pos 1) → is_shown_before ahead t (u -ℤ pos 1) n ≡ true)
          → (int_eq (local_at ahead (u -ℤ pos 1)) t || is_shown_before ahead t (u -ℤ pos 1) n) ≡ true
      by true is rest = ap (λ (b : Bool). b || is_shown_before ahead t (u -ℤ pos 1) n) is
      by false is rest =
          let other = apart is in
          ap (λ (b : Bool). b || is_shown_before ahead t (u -ℤ pos 1) n) is
          ∙ rest (by_lt_z {P = v <ℤ (u -ℤ pos 1)} v (u -ℤ pos 1) (λ k. k) (λ k. absurd (other (omega (arith, ints, k, l)))))

-- the moment that a local time names is the one whose local time it is, exactly if that has no earlier one
pub named_by : (ahead : ℤ → ℤ) (u w : ℤ) → IsOffset ahead → IsTrueMoment ahead (local_at ahead u) w → int_eq w u ≡ is_named ahead u
named_by ahead u w bounds (inl named) = by_lt_z {P = int_eq w u ≡ is_named ahead u} w u sooner (λ m. at_once (later m))
  where
    later : u ≤ℤ w → w ≡ u
    later m = by_lt_z {P = w ≡ u} u w (λ l. absurd (named.first u l refl)) (λ k. omega (arith, ints, m, k))

    at_once : w ≡ u → int_eq w u ≡ is_named ahead u
    at_once e =
        is_same w u e ∙ ap not (sym (none_before ahead (local_at ahead u) 172_800 u (λ v l h. named.first v (omega (arith, ints, l, e)) h)))

    sooner : w <ℤ u → int_eq w u ≡ is_named ahead u
    sooner l =
        let a = bounds u in
        let b = bounds w in
        is_other w u (λ e. omega (arith, ints, l, e))
        ∙ ap not (sym (some_before ahead (local_at ahead u) 172_800 u w l (omega (arith, ints, a.0, b.1, named.has)) named.has))
named_by ahead u w bounds (inr skipped) = absurd (skipped.none u refl)
