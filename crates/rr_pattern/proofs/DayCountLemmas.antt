-- Moments at one second of the day are counted by their days.
use Rattle.std.proofs.Common.{◌≡◌, ℕ, zero, suc, ◌+◌, ◌-◌, ◌*◌, ◌<◌, ◌==◌, Bool, false, ◌&&◌, ℤ, pos, nat_abs, ◌+ℤ◌, ◌-ℤ◌, ◌*ℤ◌, ◌≤ℤ◌}
use Rattle.std.proofs.Common.{◌<ℤ◌, refl, sym, ap, ◌∙◌, arith}
use Rattle.std.proofs.lemmas.Int.{ints}
use Rattle.std.proofs.lemmas.Bool.{eq-eqb, ne_eqb}
use Rattle.rr_model.specs.Whole.Count.{count_from}
use Rattle.rr_model.specs.Moment.{day_part, second_part, moment_at}
use Rattle.rr_model.specs.declared.kind.Kind.{Kind}
use Rattle.rr_model.specs.declared.kind.Kind.TheVariants.{Days, Moments}
use Rattle.rr_model.proofs.CountLemmas.{one, count_from-zero, count_from-suc, count_from-first, count_from-split, count_from-empty}
use Rattle.rr_model.proofs.WholeLemmas.{floor_only, floor_whole, floor_mod_below}

-- ---- moments at the second s of the days that pass

module _ (p : ℤ → Bool) (s : ℕ) (low : s < 86_400) where
  -- the test of a moment
  abbrev pub at_second : ℤ → Bool
  at_second t = (second_part Moments t == s) && p (day_part Moments t)

  hit : (d : ℤ) → at_second ((d *ℤ pos 86_400) +ℤ pos s) ≡ p d
  hit d =
      let f = floor_only ((d *ℤ pos 86_400) +ℤ pos s) d 86_400 s low refl in
      rw (f.0, f.1, eq-eqb s s refl) refl

  miss : (d : ℤ) (k : ℕ) → k < 86_400 → (k ≡ s → ⊥) → (t : ℤ) → t ≡ (d *ℤ pos 86_400) +ℤ pos k → at_second t ≡ false
  miss d k l other t e =
      let f = floor_only t d 86_400 k l e in
      rw (f.1, ne_eqb k s other) refl

  -- the part of a day before the second
  before : (d : ℤ) → count_from at_second (d *ℤ pos 86_400) s ≡ 0
  before d = count_from-empty at_second (d *ℤ pos 86_400) s (λ t l h.
      miss d (nat_abs (t -ℤ (d *ℤ pos 86_400))) (omega (arith, ints, l, h, low)) (λ z. omega (arith, ints, z, l, h)) t (omega (arith, ints, l)))

  -- the part of a day from the second on
  pub from_second : (d : ℤ) (rest : ℕ) → s + suc rest ≡ 86_400 → count_from at_second ((d *ℤ pos 86_400) +ℤ pos s) (suc rest) ≡ one (p d)
  from_second d rest e =
      let q = (d *ℤ pos 86_400) +ℤ pos s in
      count_from-first at_second q rest
      ∙ omega (
        arith,
        ap one (hit d),
        count_from-empty at_second (q +ℤ pos 1) rest (λ t l h.
            miss d (nat_abs (t -ℤ (d *ℤ pos 86_400))) (omega (arith, ints, l, h, e)) (λ z. omega (arith, ints, z, l)) t (omega (arith, ints, l))),
      )

  -- the part of a day up to the second
  upto : (d : ℤ) → count_from at_second (d *ℤ pos 86_400) (s + 1) ≡ one (p d)
  upto d =
      let z : ((d *ℤ pos 86_400) +ℤ pos s) +ℤ pos 0 ≡ (d *ℤ pos 86_400) +ℤ pos s = omega (arith, ints) in
      let q = (d *ℤ pos 86_400) +ℤ pos s in
      count_from-split at_second (d *ℤ pos 86_400) s 1
      ∙ omega (arith, before d, count_from-suc at_second q 0, count_from-zero at_second q, ap (λ t. one (at_second t)) z, ap one (hit d))

  whole : (d : ℤ) → count_from at_second (d *ℤ pos 86_400) 86_400 ≡ one (p d)
  whole d =
      let rest = 86_400 - s - 1 in
      let e : s + suc rest ≡ 86_400 = omega arith in
      ap (count_from at_second (d *ℤ pos 86_400)) (sym e) ∙ count_from-split at_second (d *ℤ pos 86_400) s (suc rest)
      ∙ omega (arith, before d, from_second d rest e)

  pub whole_days : (a : ℤ) (n : ℕ) → count_from at_second (a *ℤ pos 86_400) (n * 86_400) ≡ count_from p a n
  whole_days a zero = count_from-zero at_second (a *ℤ pos 86_400) ∙ sym (count_from-zero p a)
  whole_days a (suc n) =
      let e : suc n * 86_400 ≡ n * 86_400 + 86_400 = omega arith in
      let f : (a *ℤ pos 86_400) +ℤ pos (n * 86_400) ≡ (a +ℤ pos n) *ℤ pos 86_400 = omega (arith, ints) in
      ap (count_from at_second (a *ℤ pos 86_400)) e ∙ count_from-split at_second (a *ℤ pos 86_400) (n * 86_400) 86_400
      ∙ omega (arith, whole_days a n, ap (λ q. count_from at_second q 86_400) f, whole (a +ℤ pos n), count_from-suc p a n)

  -- from the first second of a day up to the second of the day n later
  pub days_up_to_second : (a : ℤ) (n : ℕ) → count_from at_second (a *ℤ pos 86_400) (n * 86_400 + (s + 1)) ≡ count_from p a (suc n)
  days_up_to_second a n =
      let f : (a *ℤ pos 86_400) +ℤ pos (n * 86_400) ≡ (a +ℤ pos n) *ℤ pos 86_400 = omega (arith, ints) in
      count_from-split at_second (a *ℤ pos 86_400) (n * 86_400) (s + 1)
      ∙ omega (arith, whole_days a n, ap (λ q. count_from at_second q (s + 1)) f, upto (a +ℤ pos n), count_from-suc p a n)

  -- from the second of a day on, to the end of the day n later
  pub days_from_second : (d : ℤ) (n rest : ℕ) → s + suc rest ≡ 86_400
      → count_from at_second ((d *ℤ pos 86_400) +ℤ pos s) (suc rest + n * 86_400) ≡ count_from p d (suc n)
  days_from_second d n rest e =
      let q = (d *ℤ pos 86_400) +ℤ pos s in
      let f : q +ℤ pos (suc rest) ≡ (d +ℤ pos 1) *ℤ pos 86_400 = omega (arith, ints) in
      count_from-split at_second q (suc rest) (n * 86_400)
      ∙ omega (arith, from_second d rest e, ap (λ t. count_from at_second t (n * 86_400)) f, whole_days (d +ℤ pos 1) n, count_from-first p d n)

  -- from the second of a day up to the second of the day n later
  pub days_between : (d : ℤ) (n : ℕ) → count_from at_second ((d *ℤ pos 86_400) +ℤ pos s) (suc (n * 86_400)) ≡ count_from p d (suc n)
  days_between d zero =
      let q = (d *ℤ pos 86_400) +ℤ pos s in
      count_from-first at_second q 0
      ∙ omega (arith, count_from-zero at_second (q +ℤ pos 1), ap one (hit d), count_from-first p d 0, count_from-zero p (d +ℤ pos 1))
  days_between d (suc n) =
      let q = (d *ℤ pos 86_400) +ℤ pos s in
      let rest = 86_400 - s - 1 in
      let e : s + suc rest ≡ 86_400 = omega arith in
      let g : suc (suc n * 86_400) ≡ suc rest + (n * 86_400 + (s + 1)) = omega arith in
      let f : q +ℤ pos (suc rest) ≡ (d +ℤ pos 1) *ℤ pos 86_400 = omega (arith, ints) in
      ap (count_from at_second q) g ∙ count_from-split at_second q (suc rest) (n * 86_400 + (s + 1))
      ∙ omega (
        arith,
        from_second d rest e,
        ap (λ t. count_from at_second t (n * 86_400 + (s + 1))) f,
        days_up_to_second (d +ℤ pos 1) n,
        count_from-first p d (suc n),
      )

-- ---- the same of either kind

-- moments at the start's second, on days that pass
abbrev pub at_start_second : (ℤ → Bool) → Kind → ℤ → ℤ → Bool
at_start_second p kind start t = (second_part kind t == second_part kind start) && p (day_part kind t)

pub count_to_moment : (p : ℤ → Bool) (kind : Kind) (start a t : ℤ) → second_part kind t ≡ second_part kind start → a ≤ℤ day_part kind t
    → count_from (at_start_second p kind start) (moment_at kind a 0) (nat_abs ((t -ℤ moment_at kind a 0) +ℤ pos 1))
    ≡ count_from p a (nat_abs ((day_part kind t -ℤ a) +ℤ pos 1))
count_to_moment p Days start a t e l = refl
count_to_moment p Moments start a t e l =
    let s = second_part Moments start in
    let low : s < 86_400 = floor_mod_below start 86_400 (omega arith) in
    let n = nat_abs (day_part Moments t -ℤ a) in
    let w = floor_whole t 86_400 (omega arith) in
    let first : moment_at Moments a 0 ≡ a *ℤ pos 86_400 = omega (arith, ints) in
    let many : nat_abs ((t -ℤ moment_at Moments a 0) +ℤ pos 1) ≡ n * 86_400 + (s + 1) = omega (arith, ints, w, e, l) in
    let days : nat_abs ((day_part Moments t -ℤ a) +ℤ pos 1) ≡ suc n = omega (arith, ints, l) in
    ap (count_from (at_start_second p Moments start) (moment_at Moments a 0)) many
    ∙ ap (λ q. count_from (at_start_second p Moments start) q (n * 86_400 + (s + 1))) first
    ∙ days_up_to_second p s low a n ∙ ap (count_from p a) (sym days)

pub count_from_moment : (p : ℤ → Bool) (kind : Kind) (start t b : ℤ) → second_part kind t ≡ second_part kind start → day_part kind t <ℤ b
    → count_from (at_start_second p kind start) t (nat_abs (moment_at kind b 0 -ℤ t)) ≡ count_from p (day_part kind t) (nat_abs (b -ℤ day_part kind t))
count_from_moment p Days start t b e l = refl
count_from_moment p Moments start t b e l =
    let s = second_part Moments start in
    let low : s < 86_400 = floor_mod_below start 86_400 (omega arith) in
    let d = day_part Moments t in
    let n = nat_abs ((b -ℤ d) -ℤ pos 1) in
    let w = floor_whole t 86_400 (omega arith) in
    let rest = 86_400 - s - 1 in
    let f : s + suc rest ≡ 86_400 = omega arith in
    let first : t ≡ (d *ℤ pos 86_400) +ℤ pos s = omega (arith, ints, w, e) in
    let many : nat_abs (moment_at Moments b 0 -ℤ t) ≡ suc rest + n * 86_400 = omega (arith, ints, w, e, l) in
    let days : nat_abs (b -ℤ d) ≡ suc n = omega (arith, ints, l) in
    ap (count_from (at_start_second p Moments start) t) many ∙ ap (λ q. count_from (at_start_second p Moments start) q (suc rest + n * 86_400)) first
    ∙ days_from_second p s low d n rest f ∙ ap (count_from p d) (sym days)

-- from the start itself to a later moment at its second
pub count_between : (p : ℤ → Bool) (kind : Kind) (start t : ℤ) → second_part kind t ≡ second_part kind start → start ≤ℤ t
    → count_from (at_start_second p kind start) start (nat_abs ((t -ℤ start) +ℤ pos 1))
    ≡ count_from p (day_part kind start) (nat_abs ((day_part kind t -ℤ day_part kind start) +ℤ pos 1))
count_between p Days start t e l = refl
count_between p Moments start t e l =
    let s = second_part Moments start in
    let low : s < 86_400 = floor_mod_below start 86_400 (omega arith) in
    let d = day_part Moments start in
    let n = nat_abs (day_part Moments t -ℤ d) in
    let w = floor_whole t 86_400 (omega arith) in
    let v = floor_whole start 86_400 (omega arith) in
    let many : nat_abs ((t -ℤ start) +ℤ pos 1) ≡ suc (n * 86_400) = omega (arith, ints, w, v, e, l) in
    let days : nat_abs ((day_part Moments t -ℤ d) +ℤ pos 1) ≡ suc n = omega (arith, ints, w, v, e, l) in
    ap (count_from (at_start_second p Moments start) start) many ∙ ap (λ q. count_from (at_start_second p Moments start) q (suc (n * 86_400))) v
    ∙ days_between p s low d n ∙ ap (count_from p d) (sym days)
