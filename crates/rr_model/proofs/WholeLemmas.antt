-- Division that rounds down: quotient and remainder are the only ones.
use Rattle.std.proofs.Common.{◌≡◌, ℕ, ◌+◌, ◌-◌, ◌*◌, ◌/◌, ◌%◌, ◌<◌, ℤ, pos, negsuc, ◌+ℤ◌, ◌*ℤ◌, ap, ◌∙◌, arith}
use Rattle.std.proofs.lemmas.Int.{ints}
use Rattle.std.proofs.lemmas.Nat.{div-mul-add, mod-mul-add, mod_below, div-add-mod'}
use Rattle.rr_model.specs.Whole.{floor_div, floor_mod}

pub floor_only : (z q : ℤ) (n r : ℕ) → r < n → z ≡ (q *ℤ pos n) +ℤ pos r → (floor_div z n ≡ q) × (floor_mod z n ≡ r)
floor_only (pos a) (pos b) n r lt e =
    let f : a ≡ b * n + r = omega (arith, ints) in
    (ap pos (ap (λ x. x / n) f ∙ div-mul-add b n r lt), ap (λ x. x % n) f ∙ mod-mul-add b n r lt)
floor_only (pos a) (negsuc b) n r lt e = absurd (omega (arith, ints))
floor_only (negsuc a) (pos b) n r lt e = absurd (omega (arith, ints))
floor_only (negsuc a) (negsuc b) n r lt e =
    let f : a ≡ b * n + (n - 1 - r) = omega (arith, ints) in
    let l : n - 1 - r < n = omega arith in
    let m : a % n ≡ n - 1 - r = ap (λ x. x % n) f ∙ mod-mul-add b n (n - 1 - r) l in
    (ap negsuc (ap (λ x. x / n) f ∙ div-mul-add b n (n - 1 - r) l), omega (arith, m))

pub floor_mod_below : (z : ℤ) (n : ℕ) → 0 < n → floor_mod z n < n
floor_mod_below (pos a) n h = mod_below a n h
floor_mod_below (negsuc a) n h = omega arith

pub floor_whole : (z : ℤ) (n : ℕ) → 0 < n → z ≡ (floor_div z n *ℤ pos n) +ℤ pos (floor_mod z n)
floor_whole (pos a) n h = omega (arith, ints, div-add-mod' a n)
floor_whole (negsuc a) n h = omega (arith, ints, div-add-mod' a n, mod_below a n h)
