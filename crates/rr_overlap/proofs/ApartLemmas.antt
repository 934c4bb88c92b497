-- Beginnings, looked at one after another.
use Rattle.std.proofs.Common.{ℕ, ◌≤◌, ℤ, pos, ◌+ℤ◌, ◌≤ℤ◌, ◌<ℤ◌, arith}
use Rattle.std.specs.Prelude.{Option, None, Some}
use Rattle.std.proofs.lemmas.Int.{ints, by_lt_z}
use Rattle.rr_model.specs.declared.sketch.Sketch.{Sketch}
use Rattle.rr_overlap.specs.Apart.{AreApartBefore, BeginsAt, IsLastBefore, Meet, NoneBetween, StillRuns}

module _ (s : Sketch) where
  -- what begins at a second is the last before the next
  pub last_here : (t : ℤ) → BeginsAt s t → IsLastBefore s (t +ℤ pos 1) (Some t)
  last_here t b = (b, omega (arith, ints), λ x h l. omega (arith, ints))

  -- if nothing begins the last beginning stays
  pub last_kept : (z y : ℤ) (last : Option ℤ) → IsLastBefore s z last → z ≤ℤ y → NoneBetween s z y → IsLastBefore s y last
  last_kept z y None h l none = λ x b m. by_lt_z {P = ⊥} x z (λ c. h x b c) (λ c. none x b c m)
  last_kept z y (Some t) h l none =
      let before = h.1 in (
        h.0,
        omega (arith, ints),
        (λ x b m. by_lt_z {P = x ≤ℤ t} x z (λ c. h.2 x b c) (λ c. absurd (none x b c m))),
      )

module _ (s : Sketch) (d : ℕ) (u : Sketch) (e : ℕ) where
  -- if nothing begins no two meet
  pub apart_kept : (z y : ℤ) → AreApartBefore s d u e z → NoneBetween s z y → NoneBetween u z y → AreApartBefore s d u e y
  apart_kept z y apart ns nu x w bx bw lx lw =
      by_lt_z {P = Meet d e x w → ⊥} x z
      (λ cx. by_lt_z {P = Meet d e x w → ⊥} w z (λ cw. apart x w bx bw cx cw) (λ cw. absurd (nu w bw cw lw)))
      (λ cx. absurd (ns x bx cx lx))

  -- two that meet, the later of which begins at this second: what began last runs then
  later_meets : (t x w a b : ℤ) → 1 ≤ d → 1 ≤ e → x ≤ℤ t → w ≤ℤ t → (x <ℤ t → w <ℤ t → ⊥) → Meet d e x w → x ≤ℤ a → w ≤ℤ b
      → (t <ℤ (a +ℤ pos d)) × (t <ℤ (b +ℤ pos e))
  later_meets t x w a b hd he lx lw late meet la lb =
      let m = meet.0 in
      let n = meet.1 in
      by_lt_z {P = (t <ℤ (a +ℤ pos d)) × (t <ℤ (b +ℤ pos e))} x t
      (λ cx. by_lt_z {P = (t <ℤ (a +ℤ pos d)) × (t <ℤ (b +ℤ pos e))} w t (λ cw. absurd (late cx cw)) (λ cw. (omega (arith, ints), omega (arith, ints))))
      (λ cx. (omega (arith, ints), omega (arith, ints)))

  -- one second further
  pub apart_step : (t : ℤ) (first second : Option ℤ) → 1 ≤ d → 1 ≤ e → AreApartBefore s d u e t → IsLastBefore s (t +ℤ pos 1) first
      → IsLastBefore u (t +ℤ pos 1) second → (StillRuns first d t → StillRuns second e t → ⊥) → AreApartBefore s d u e (t +ℤ pos 1)
  apart_step t None second hd he apart hf hs not x w bx bw lx lw meet = hf x bx lx
  apart_step t (Some a) None hd he apart hf hs not x w bx bw lx lw meet = hs w bw lw
  apart_step t (Some a) (Some b) hd he apart hf hs not x w bx bw lx lw meet =
      let run = later_meets t x w a b hd he (omega (arith, ints)) (omega (arith, ints)) (λ cx cw. apart x w bx bw cx cw meet) meet
      (hf.2 x bx lx) (hs.2 w bw lw) in
      not run.0 run.1
