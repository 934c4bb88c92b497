-- A zone of one offset is fixed.
use Rattle.std.proofs.Common.{◌≡◌, ℕ, zero, suc, Bool, true, false, ℤ, pos, nat_abs, ◌+◌, ◌+ℤ◌, ◌-ℤ◌, ◌≤ℤ◌, List, [], ◌∷◌, All, Option, None, Some, refl, arith}
use Rattle.std.specs.Prelude.{IfSome, if◌then◌else◌, int_le, int_lt, option_map}
use Rattle.std.proofs.lemmas.Int.{ints}
use Rattle.rr_zone.specs.Clocks.{local_by, local_from}
use Rattle.rr_zone.specs.Onsets.{earlier, first_moment, first_of_zone, first_onset, is_onset, last_of_zone, last_onset, last_passing, last_up_to, later, with_last}
use Rattle.rr_zone.specs.ZoneLaws.{HasOffset, OneOffsetIsFixed}
use Rattle.rr_zone.specs.declared.clock.LocalTime.TheVariants.{Once}
use Rattle.rr_zone.specs.declared.clock.Onset.{Onset}
use Rattle.rr_zone.specs.declared.observance.Observance.{Observance}

-- ---- the last onset is not after the moment

passing_early : (test : ℤ → Bool) (n : ℕ) (t top : ℤ) → t ≤ℤ top → IfSome (last_passing test t n) (λ u. u ≤ℤ top)
passing_early test zero t top l = tt
passing_early test (suc n) t top l = by (test t) (passing_early test n (t -ℤ pos 1) top (omega (arith, ints, l)))
  where
    by : (b : Bool) → IfSome (last_passing test (t -ℤ pos 1) n) (λ u. u ≤ℤ top)
        → IfSome (if b then Some t else last_passing test (t -ℤ pos 1) n) (λ u. u ≤ℤ top)
    by true p = l
    by false p = p

up_to_early : (test : ℤ → Bool) (t : ℤ) → IfSome (last_up_to test t) (λ u. u ≤ℤ t)
up_to_early test t = by (int_le first_moment t) (passing_early test (nat_abs (t -ℤ first_moment) + 1) t t (omega (arith, ints)))
  where
    by : (b : Bool) → IfSome (last_passing test t (nat_abs (t -ℤ first_moment) + 1)) (λ u. u ≤ℤ t)
        → IfSome (if b then last_passing test t (nat_abs (t -ℤ first_moment) + 1) else None) (λ u. u ≤ℤ t)
    by true p = p
    by false p = tt

less : (from at : ℤ) (last : Option ℤ) → IfSome last (λ u. u ≤ℤ (at +ℤ from)) → IfSome (option_map (λ t. t -ℤ from) last) (λ u. u ≤ℤ at)
less from at None p = tt
less from at (Some u) p = omega (arith, ints, p)

onset_early : (o : Observance) (at : ℤ) → IfSome (last_onset o at) (λ u. u ≤ℤ at)
onset_early o at = less o.from at (last_up_to (is_onset o.series) (at +ℤ o.from)) (up_to_early (is_onset o.series) (at +ℤ o.from))

-- ---- one offset

module _ (offset at : ℤ) where
  -- an onset that is not after the moment and changes nothing
  record IsFixed (onset : Onset) : Type 0 where
    from : onset.from ≡ offset
    to : onset.to ≡ offset
    early : onset.at ≤ℤ at

  chosen : (b : Bool) (x y : Onset) → IsFixed x → IsFixed y → IsFixed (if b then x else y)
  chosen true x y p q = p
  chosen false x y p q = q

  later-is : (a : Option Onset) (b : Onset) → IfSome a IsFixed → IsFixed b → IsFixed (later a b)
  later-is None b p q = q
  later-is (Some a) b p q = chosen (int_le b.at a.at) a b p q

  with_last-is : (found : Option Onset) (from to : ℤ) (last : Option ℤ) → IfSome found IsFixed → from ≡ offset → to ≡ offset
      → IfSome last (λ u. u ≤ℤ at) → IfSome (with_last found from to last) IsFixed
  with_last-is found from to None p e f l = p
  with_last-is found from to (Some u) p e f l =
      later-is found (record { at = u; from = from; to = to }) p (record { from = e; to = f; early = l })

  last-is : (found : Option Onset) (os : List Observance) → IfSome found IsFixed → All (HasOffset offset) os → IfSome (last_of_zone found os at) IsFixed
  last-is found [] p all = p
  last-is found (o ∷ os) p all =
      let both = all 0 o (omega arith) in
      last-is (with_last found o.from o.to (last_onset o at)) os
      (with_last-is found o.from o.to (last_onset o at) p both.0 both.1 (onset_early o at)) (λ k d l. all (suc k) d (omega (arith, l)))

  -- the first onset of some observances, which there is
  record HasFirst (found : Option Onset) : Type 0 where
    onset : Onset
    is : found ≡ Some onset
    has : onset.from ≡ offset

  earlier-is : (b : Bool) (x y : Onset) → x.from ≡ offset → y.from ≡ offset → (if b then x else y).from ≡ offset
  earlier-is true x y p q = p
  earlier-is false x y p q = q

  first-is : (x : Onset) (os : List Observance) → x.from ≡ offset → All (HasOffset offset) os → HasFirst (first_of_zone (Some x) os)
  first-is x [] p all = record { onset = x; is = refl; has = p }
  first-is x (o ∷ os) p all =
      let next : Onset = record { at = first_onset o; from = o.from; to = o.to } in
      first-is (earlier (Some x) next) os (earlier-is (int_le x.at next.at) x next p (all 0 o (omega arith)).0)
      (λ k d l. all (suc k) d (omega (arith, l)))

  from-is : (x : Onset) → IsFixed x → local_from x at ≡ Once (at +ℤ offset)
  from-is x f =
      let same : int_lt (at +ℤ offset) (x.at +ℤ offset) ≡ false = grind (arith, ints, f.early) in
      rw (f.from, f.to, same) refl

  either : (a b : Option Onset) → IfSome a IsFixed → HasFirst b → local_by a b at ≡ Once (at +ℤ offset)
  either (Some x) b p f = from-is x p
  either None b p f = rw (f.is, f.has) refl

pub one_offset_is_fixed : OneOffsetIsFixed
one_offset_is_fixed offset o os at all =
    let first : Onset = record { at = first_onset o; from = o.from; to = o.to } in
    either offset at (last_of_zone None (o ∷ os) at) (first_of_zone None (o ∷ os)) (last-is offset at None (o ∷ os) tt all)
    (first-is offset at first os (all 0 o (omega arith)).0 (λ k d l. all (suc k) d (omega (arith, l))))
