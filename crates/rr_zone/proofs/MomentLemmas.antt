-- Moments of local times.
use Rattle.std.proofs.Common.{◌≡◌, ◌∙◌, ℤ, pos, neg_ℤ, ◌+ℤ◌, ◌-ℤ◌, ◌≤ℤ◌, ◌<ℤ◌, List, Option, None, Some, Result, Bool, true, false, refl, ap, sym, subst, arith}
use Rattle.std.specs.Option.{is_some}
use Rattle.std.specs.Prelude.{IfOk, IfSome, if◌then◌else◌, int_le}
use Rattle.std.proofs.lemmas.Int.{ints}
use Rattle.rr_model.specs.Moment.Years.{IsInYears, is_in_years}
use Rattle.rr_model.specs.declared.kind.Kind.TheVariants.{Moments}
use Rattle.rr_model.proofs.YearLemmas.{year_1, year_10000}
use Rattle.rr_zone.specs.Clocks.{offset_from}
use Rattle.rr_zone.specs.Moments.{is_over, moment_about, moment_at_offset, moment_by, offset_about, utc_moment}
use Rattle.rr_zone.specs.Onsets.{first_of_zone, last_of_zone}
use Rattle.rr_zone.specs.declared.clock.Onset.{Onset}
use Rattle.rr_zone.specs.declared.observance.Observance.{Observance}
use Rattle.rr_zone.proofs.ZoneLemmas.{day_of}

-- a moment of the years 1 to 9999
pub year_moments : (at : ℤ) → IsInYears Moments at → (neg_ℤ (pos 62_135_596_800) ≤ℤ at) × (at <ℤ pos 253_402_300_800)
year_moments at years =
    let d = day_of at in
    let y = year_1 in
    let z = year_10000 in
    let low = years.0 in
    let high = years.1 in
    (omega (arith, ints, d.0, low, y), omega (arith, ints, d.1, high, z))

-- later by nothing
pub with_nothing : (u : ℤ) → (if is_in_years Moments (u +ℤ pos 0) then Some (u +ℤ pos 0) else None) ≡ (if is_in_years Moments u then Some u else None)
with_nothing u =
    let same : u +ℤ pos 0 ≡ u = omega (arith, ints) in
    ap (λ (v : ℤ). if is_in_years Moments v then Some v else None) same

-- a moment between two of the years 1 to 9999 is one of them
pub between-years : (a b u : ℤ) → IsInYears Moments a → IsInYears Moments b → a ≤ℤ u → u ≤ℤ b → IsInYears Moments u
between-years a b u p q l h =
    let da = day_of a in
    let db = day_of b in
    let du = day_of u in
    let low = p.0 in
    let high = q.1 in
    (omega (arith, ints, da.0, du.1, low, l), omega (arith, ints, db.1, du.0, high, h))

-- the moment by an offset
pub at_offset : (r : Option ℤ) (x t offset : ℤ) → x ≡ t -ℤ offset → r ≡ (if is_in_years Moments (x +ℤ pos 0) then Some (x +ℤ pos 0) else None)
    → r ≡ moment_at_offset t offset
at_offset r x t offset e h = h ∙ with_nothing x ∙ ap (λ (v : ℤ). if is_in_years Moments v then Some v else None) e

module _ (first previous : Option Onset) (onset : Onset) (t x : ℤ) (e : x ≡ t -ℤ pos 86_400) where
  over-is : (b : Bool) → is_over x previous ≡ b → is_over (t -ℤ pos 86_400) previous ≡ b
  over-is b h = ap (λ (v : ℤ). is_over v previous) (sym e) ∙ h

  -- the clock is set twice
  pub about-none : is_over x previous ≡ false → None ≡ moment_about first previous onset t
  about-none h =
      ap (λ (b : Bool). if b then moment_at_offset t (offset_about (offset_from previous first) onset t) else None) (sym (over-is false h))

  -- the clock is set once
  pub about-some : (r : Option ℤ) (before offset : ℤ) → is_over x previous ≡ true → before ≡ offset_from previous first
      → offset ≡ offset_about before onset t → r ≡ moment_at_offset t offset → r ≡ moment_about first previous onset t
  about-some r before offset h b o is =
      is ∙ ap (moment_at_offset t) (o ∙ ap (λ (v : ℤ). offset_about v onset t) b)
      ∙ ap (λ (b : Bool). if b then moment_at_offset t (offset_about (offset_from previous first) onset t) else None) (sym (over-is true h))

module _ (zone : List Observance) (t x : ℤ) (onset : Onset) (e : x ≡ t -ℤ pos 86_400) where
  le-is : (b : Bool) → int_le onset.at x ≡ b → int_le onset.at (t -ℤ pos 86_400) ≡ b
  le-is b h = ap (λ (v : ℤ). int_le onset.at v) (sym e) ∙ h

  abbrev by_last : Bool → Option ℤ
  by_last b = if b then moment_at_offset t onset.to else moment_about (first_of_zone None zone) (last_of_zone None zone (onset.at -ℤ pos 1)) onset t

  -- the clock was set long before
  pub by-early : (r : Option ℤ) → int_le onset.at x ≡ true → r ≡ moment_at_offset t onset.to → r ≡ moment_by zone t (Some onset)
  by-early r h is = is ∙ ap by_last (sym (le-is true h))

  -- it is set about the local time
  pub by-late : (r : Option ℤ) (first previous : Option Onset) → int_le onset.at x ≡ false → first ≡ first_of_zone None zone
      → previous ≡ last_of_zone None zone (onset.at -ℤ pos 1) → r ≡ moment_about first previous onset t → r ≡ moment_by zone t (Some onset)
  by-late r first previous h f p is =
      is ∙ ap (λ (o : Option Onset). moment_about o previous onset t) f
      ∙ ap (λ (o : Option Onset). moment_about (first_of_zone None zone) o onset t) p ∙ ap by_last (sym (le-is false h))

-- ---- a moment that lies in the years 1 to 9999, if it does

abbrev if_in_years : Bool → ℤ → Option ℤ
if_in_years b z = if b then Some z else None

pub years-of : (y z x : ℤ) → Some y ≡ (if is_in_years Moments z then Some z else None) → z ≡ x → (y ≡ x) × (is_in_years Moments x ≡ true)
years-of y z x h e = by (is_in_years Moments z) refl h
  where
    by : (b : Bool) → is_in_years Moments z ≡ b → Some y ≡ if_in_years b z → (y ≡ x) × (is_in_years Moments x ≡ true)
    by true q k = let same : y ≡ z = cc in (same ∙ e, ap (is_in_years Moments) (sym e) ∙ q)
    by false q k = absurd (cc)

pub some-years : (y z x : ℤ) → Some y ≡ (if is_in_years Moments z then Some z else None) → z ≡ x → IsInYears Moments y → IsInYears Moments x
some-years y z x h e p = subst (IsInYears Moments) (years-of y z x h e).0 p

pub early-of : (r : Option ℤ) (z x : ℤ) → r ≡ (if is_in_years Moments z then Some z else None) → is_some r ≡ true → z ≡ x → is_in_years Moments x ≡ true
early-of None z x h n e = absurd (cc)
early-of (Some y) z x h n e = (years-of y z x h e).1

pub early-years : (r : Option ℤ) (z x : ℤ) → r ≡ (if is_in_years Moments z then Some z else None) → is_some r ≡ true → z ≡ x → IfSome r (IsInYears Moments)
    → IsInYears Moments x
early-years None z x h n e p = absurd (cc)
early-years (Some y) z x h n e p = some-years y z x h e p

pub moment-is : {E : Type 0} (r : Result (Option ℤ) E) (zone : List Observance) (t : ℤ) (last : Option Onset) → is_in_years Moments (t -ℤ pos 86_400) ≡ true
    → is_in_years Moments (t +ℤ pos 86_400) ≡ true → last ≡ last_of_zone None zone (t +ℤ pos 86_400) → IfOk r (λ m. m ≡ moment_by zone t last)
    → IfOk r (λ m. m ≡ utc_moment zone t)
moment-is r zone t last e l o h = rw (e, l) (rw o at h)
