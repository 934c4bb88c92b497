-- Two numbers differ by whole intervals if they leave one remainder.
use Rattle.std.proofs.Common.{◌≡◌, ℕ, ◌≤◌, ◌==◌, inl, inr, ℤ, pos, ◌+ℤ◌, ◌-ℤ◌, ◌*ℤ◌, sym, ap, ◌∙◌, arith}
use Rattle.std.proofs.lemmas.Int.{ints}
use Rattle.std.proofs.lemmas.Bool.{cases_eq, eq-eqb, ne_eqb}
use Rattle.rr_model.specs.Whole.{floor_div, floor_mod, divides}
use Rattle.rr_model.proofs.WholeLemmas.{floor_only, floor_whole}
use Rattle.rr_model.proofs.FloorLemmas.{*ℤ-add, floor_mod-add}

-- two numbers with one remainder differ by whole turns
turns_between : (a b : ℤ) (n : ℕ) → 1 ≤ n → floor_mod a n ≡ floor_mod b n → floor_mod (b -ℤ a) n ≡ 0
turns_between a b n h same =
    let p = floor_div a n in
    let q = floor_div b n in
    let back : (q -ℤ p) +ℤ p ≡ q = omega (arith, ints) in
    let parts = *ℤ-add (q -ℤ p) p n in
    let whole = ap (λ z. z *ℤ pos n) back in
    (floor_only (b -ℤ a) (q -ℤ p) n 0 (omega arith) (omega (arith, ints, floor_whole a n h, floor_whole b n h, same, parts, whole))).1

-- and two that differ by whole turns have one remainder
same_turn : (a b : ℤ) (n : ℕ) → 1 ≤ n → floor_mod (b -ℤ a) n ≡ 0 → floor_mod a n ≡ floor_mod b n
same_turn a b n h none =
    let q = floor_div (b -ℤ a) n in
    let e : b ≡ a +ℤ (q *ℤ pos n) = omega (arith, ints, floor_whole (b -ℤ a) n h, none) in
    sym (ap (λ z. floor_mod z n) e ∙ floor_mod-add a q n h)

pub congruent : (a b : ℤ) (n : ℕ) → 1 ≤ n → (floor_mod a n == floor_mod b n) ≡ divides n (b -ℤ a)
congruent a b n h =
    elim (cases_eq (floor_mod a n) (floor_mod b n)) [
      | inl same ↦ eq-eqb (floor_mod a n) (floor_mod b n) same ∙ sym (eq-eqb (floor_mod (b -ℤ a) n) 0 (turns_between a b n h same))
      | inr other ↦ ne_eqb (floor_mod a n) (floor_mod b n) other ∙ sym (ne_eqb (floor_mod (b -ℤ a) n) 0 (λ z. other (same_turn a b n h z)))
    ]
