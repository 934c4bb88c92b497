-- Bits of two masks that are alike.
use Rattle.std.proofs.Common.{◌≡◌, ℕ, ◌<◌, ◌≤◌, List}
use Rattle.rr_expand.specs.Years.{is_bit_set}

-- from one bit on and before another all bits below 384 are set alike
abbrev pub AreAlikeBelow : List ℕ → List ℕ → ℕ → ℕ → Type 0
AreAlikeBelow a b from end = (k : ℕ) → from ≤ k → k < end → k < 384 → is_bit_set a k ≡ is_bit_set b k
