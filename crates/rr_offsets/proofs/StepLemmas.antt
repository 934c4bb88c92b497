-- The offset of a zone from one second to the next.
use Rattle.std.proofs.Common.{◌≡◌, ℕ, zero, suc, ◌+◌, Bool, true, false, ◌&&◌, ℤ, pos, nat_abs, ◌+ℤ◌, ◌-ℤ◌, ◌≤ℤ◌, ◌<ℤ◌, List, [], ◌∷◌, Option, None, Some, refl, sym, ap, ◌∙◌, arith}
use Rattle.std.specs.Prelude.{IfSome, if◌then◌else◌, int_le, option_map, unwrap_or}
use Rattle.std.proofs.lemmas.Int.{ints, by_lt_z}
use Rattle.rr_zone.specs.Onsets.{first_moment, first_of_zone, is_onset, last_of_zone, last_onset, last_passing, last_up_to, with_last}
use Rattle.rr_zone.specs.declared.clock.Onset.{Onset}
use Rattle.rr_zone.specs.declared.observance.Observance.{Observance}
use Rattle.rr_offsets.specs.Offsets.{begins, new_offset, offset_at, offset_from}

-- ---- the last moment that passes a test

module _ (test : ℤ → Bool) (t : ℤ) where
  -- one second back
  passing_back : (n m : ℕ) → m ≡ suc n → last_passing test t m ≡ (if test t then Some t else last_passing test (t -ℤ pos 1) n)
  passing_back n m e = rw e refl

  -- the last one up to a second earlier, as it is looked for from the second on
  rest : first_moment ≤ℤ t → last_up_to test (t -ℤ pos 1) ≡ last_passing test (t -ℤ pos 1) (nat_abs (t -ℤ first_moment))
  rest l = by_lt_z {P = last_up_to test (t -ℤ pos 1) ≡ last_passing test (t -ℤ pos 1) (nat_abs (t -ℤ first_moment))} first_moment t more none
    where
      more : first_moment <ℤ t → last_up_to test (t -ℤ pos 1) ≡ last_passing test (t -ℤ pos 1) (nat_abs (t -ℤ first_moment))
      more h =
          let e : int_le first_moment (t -ℤ pos 1) ≡ true = grind (arith, ints, h) in
          let n : nat_abs ((t -ℤ pos 1) -ℤ first_moment) + 1 ≡ nat_abs (t -ℤ first_moment) = omega (arith, ints, h) in
          rw (e, n) refl

      none : t ≤ℤ first_moment → last_up_to test (t -ℤ pos 1) ≡ last_passing test (t -ℤ pos 1) (nat_abs (t -ℤ first_moment))
      none h =
          let e : int_le first_moment (t -ℤ pos 1) ≡ false = grind (arith, ints, h) in
          let n : nat_abs (t -ℤ first_moment) ≡ 0 = omega (arith, ints, h, l) in
          rw (e, n) refl

  -- the last one up to a moment is the moment, or the last one up to a second earlier
  pub up_to_back : last_up_to test t ≡ (if int_le first_moment t && test t then Some t else last_up_to test (t -ℤ pos 1))
  up_to_back = by (int_le first_moment t) refl
    where
      early : int_le first_moment t ≡ false → last_up_to test (t -ℤ pos 1) ≡ None
      early e = (let f : int_le first_moment (t -ℤ pos 1) ≡ false = grind (arith, ints, e) in rw f refl)

      by : (b : Bool) → int_le first_moment t ≡ b
          → (if b then last_passing test t (nat_abs (t -ℤ first_moment) + 1) else None) ≡ (if b && test t then Some t else last_up_to test (t -ℤ pos 1))
      by true e =
          passing_back (nat_abs (t -ℤ first_moment)) (nat_abs (t -ℤ first_moment) + 1) (omega arith)
          ∙ ap (λ x. if test t then Some t else x) (sym (rest (omega (arith, ints, e))))
      by false e = sym (early e)

-- ---- one observance

module _ (o : Observance) (at : ℤ) where
  -- an onset here, or the last one up to a second earlier
  pub onset_back : last_onset o at ≡ (if begins o at then Some at else last_onset o (at -ℤ pos 1))
  onset_back =
      let e : (at +ℤ o.from) -ℤ pos 1 ≡ (at -ℤ pos 1) +ℤ o.from = omega (arith, ints) in
      ap (option_map (λ t. t -ℤ o.from)) (up_to_back (is_onset o.series) (at +ℤ o.from)) ∙ by (begins o at) ((at +ℤ o.from) -ℤ pos 1) e
    where
      by : (b : Bool) (t : ℤ) → t ≡ (at -ℤ pos 1) +ℤ o.from
          → option_map (λ t. t -ℤ o.from) (if b then Some (at +ℤ o.from) else last_up_to (is_onset o.series) t)
          ≡ (if b then Some at else last_onset o (at -ℤ pos 1))
      by true t e = (let f : (at +ℤ o.from) -ℤ o.from ≡ at = omega (arith, ints) in ap Some f)
      by false t e = rw e refl

-- ---- what is found is not after the moment

passing_early : (test : ℤ → Bool) (n : ℕ) (t top : ℤ) → t ≤ℤ top → IfSome (last_passing test t n) (λ u. u ≤ℤ top)
passing_early test zero t top l = tt
passing_early test (suc n) t top l = by (test t) (passing_early test n (t -ℤ pos 1) top (omega (arith, ints, l)))
  where
    by : (b : Bool) → IfSome (last_passing test (t -ℤ pos 1) n) (λ u. u ≤ℤ top)
        → IfSome (if b then Some t else last_passing test (t -ℤ pos 1) n) (λ u. u ≤ℤ top)
    by true p = l
    by false p = p

up_to_early : (test : ℤ → Bool) (t : ℤ) → IfSome (last_up_to test t) (λ u. u ≤ℤ t)
up_to_early test t = by (int_le first_moment t) (passing_early test (nat_abs (t -ℤ first_moment) + 1) t t (omega (arith, ints)))
  where
    by : (b : Bool) → IfSome (last_passing test t (nat_abs (t -ℤ first_moment) + 1)) (λ u. u ≤ℤ t)
        → IfSome (if b then last_passing test t (nat_abs (t -ℤ first_moment) + 1) else None) (λ u. u ≤ℤ t)
    by true p = p
    by false p = tt

less : (from at : ℤ) (last : Option ℤ) → IfSome last (λ u. u ≤ℤ (at +ℤ from)) → IfSome (option_map (λ t. t -ℤ from) last) (λ u. u ≤ℤ at)
less from at None p = tt
less from at (Some u) p = omega (arith, ints, p)

onset_early : (o : Observance) (at : ℤ) → IfSome (last_onset o at) (λ u. u ≤ℤ at)
onset_early o at = less o.from at (last_up_to (is_onset o.series) (at +ℤ o.from)) (up_to_early (is_onset o.series) (at +ℤ o.from))

-- ---- all observances

-- what is found is before the moment
abbrev IsBefore : ℤ → Option Onset → Type 0
IsBefore at found = IfSome found (λ x. x.at <ℤ at)

module _ (at : ℤ) where
  -- one that is not later is left out
  kept : (x : Onset) (from to : ℤ) (last : Option ℤ) → x.at ≡ at → IfSome last (λ u. u ≤ℤ at) → with_last (Some x) from to last ≡ Some x
  kept x from to None e l = refl
  kept x from to (Some u) e l = (let m : int_le u x.at ≡ true = grind (arith, ints, e, l) in rw m refl)

  stays : (x : Onset) (os : List Observance) → x.at ≡ at → last_of_zone (Some x) os at ≡ Some x
  stays x [] e = refl
  stays x (o ∷ os) e = ap (λ f. last_of_zone f os at) (kept x o.from o.to (last_onset o at) e (onset_early o at)) ∙ stays x os e

  -- an onset here is later than all before
  here : (found : Option Onset) (from to : ℤ) → IsBefore at found → with_last found from to (Some at) ≡ Some (record { at = at; from = from; to = to })
  here None from to b = refl
  here (Some x) from to b = (let m : int_le at x.at ≡ false = grind (arith, ints, b) in rw m refl)

  chosen_before : (b : Bool) (x y : Onset) → x.at <ℤ at → y.at <ℤ at → (if b then x else y).at <ℤ at
  chosen_before true x y p q = p
  chosen_before false x y p q = q

  before : (found : Option Onset) (from to : ℤ) (last : Option ℤ) → IsBefore at found → IfSome last (λ u. u ≤ℤ (at -ℤ pos 1))
      → IsBefore at (with_last found from to last)
  before found from to None b l = b
  before None from to (Some u) b l = omega (arith, ints, l)
  before (Some x) from to (Some u) b l =
      chosen_before (int_le u x.at) x (record { at = u; from = from; to = to }) b (omega (arith, ints, l))

  last_back : (found first : Option Onset) (zone : List Observance) → IsBefore at found
      → offset_from (last_of_zone found zone at) first ≡ unwrap_or (new_offset zone at) (offset_from (last_of_zone found zone (at -ℤ pos 1)) first)
  last_back found first [] b = refl
  last_back found first (o ∷ os) b =
      ap (λ l. offset_from (last_of_zone (with_last found o.from o.to l) os at) first) (onset_back o at) ∙ by (begins o at) (
      last_back (with_last found o.from o.to (last_onset o (at -ℤ pos 1))) first os
      (before found o.from o.to (last_onset o (at -ℤ pos 1)) b (onset_early o (at -ℤ pos 1))))
    where
      by : (c : Bool)
          → offset_from (last_of_zone (with_last found o.from o.to (last_onset o (at -ℤ pos 1))) os at) first
          ≡ unwrap_or (new_offset os at) (offset_from (last_of_zone (with_last found o.from o.to (last_onset o (at -ℤ pos 1))) os (at -ℤ pos 1)) first)
          → offset_from (last_of_zone (with_last found o.from o.to (if c then Some at else last_onset o (at -ℤ pos 1))) os at) first
          ≡ unwrap_or (if c then Some o.to else new_offset os at)
          (offset_from (last_of_zone (with_last found o.from o.to (last_onset o (at -ℤ pos 1))) os (at -ℤ pos 1)) first)
      by true rest =
          ap (λ f. offset_from (last_of_zone f os at) first) (here found o.from o.to b)
          ∙ ap (λ f. offset_from f first) (stays (record { at = at; from = o.from; to = o.to }) os refl)
      by false rest = rest

-- From one second to the next the offset changes where an observance begins, to that of the first in the text that does.
pub offset_back : (zone : List Observance) (at : ℤ) → offset_at zone at ≡ unwrap_or (new_offset zone at) (offset_at zone (at -ℤ pos 1))
unfolding offset_at
offset_back zone at = last_back at None (first_of_zone None zone) zone tt
