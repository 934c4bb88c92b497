-- Bits of words: what a shift, a write and one test more tell of them.
use Rattle.std.proofs.Common.{◌≡◌, ◌≢◌, ◌∙◌, sym, ap, refl, ℕ, ◌+◌, ◌-◌, ◌*◌, ◌/◌, ◌%◌, ◌^◌, ◌<◌, ◌≤◌, Bool, true, false, ◌&&◌, List, [], ◌∷◌, replicate, length, get_or, inl, inr, w64, arith}
use Rattle.std.specs.Prelude.{◌==◌, bit_or, nat_lt, slice_set, Some, None}
use Rattle.std.specs.Prelude.{bit_and}
use Rattle.std.specs.Int.{bit_at, trailing_zeros}
use Rattle.std.proofs.Math.Nat.{div-div-eq-div-mul, div-le_self}
use Rattle.std.proofs.lemmas.Bool.{and_parts, cases_eq, cases_lt, le-ltb, lt-ltb, ltb-true}
use Rattle.std.proofs.lemmas.Bool.Decides.{nat_tests}
use Rattle.std.proofs.lemmas.List.{get_or-replicate, get_or-set_other, get_or-set_same}
use Rattle.std.proofs.lemmas.Nat.{pow-add}
use Rattle.std.proofs.lemmas.Nat.Bits.{bit_at-lt, bit_at-trailing_zeros, bit_at-zero, bit_at_above, bit_at_and, bit_at_ones, bit_at_ones_above}
use Rattle.std.proofs.lemmas.Nat.Bits.{bit_at_set_same, bit_at_set_other, ones_shr}
use Rattle.rr_expand.specs.Years.{AreBitsBetween, IsFirstBit, is_bit_set}

-- the bits of `n >> j` are those of n from j on
pub bit_at_shr : (n j i : ℕ) → bit_at (n / 2 ^ j) i ≡ bit_at n (j + i)
bit_at_shr n j i = ap (λ m. m % 2) (div-div-eq-div-mul n (2 ^ j) (2 ^ i) ∙ ap (λ m. n / m) (sym (pow-add 2 j i)))

module _ (words : List ℕ) (from i : ℕ) (word : i ≡ from / 64) where
  -- what is left of the word of a bit without the bits below it
  abbrev pub rest_of_word : ℕ
  rest_of_word = get_or words i 0 / 2 ^ (from % 64)

  at_rest : (k : ℕ) → from ≤ k → k < (from / 64 + 1) * 64 → is_bit_set words k ≡ (bit_at rest_of_word (k - from) == 1)
  at_rest k low high =
      let same : k / 64 ≡ i = omega arith in
      let bit : k % 64 ≡ from % 64 + (k - from) = omega arith in
      rw (same, bit) (ap (λ b. b == 1) (sym (bit_at_shr (get_or words i 0) (from % 64) (k - from))))

  -- if nothing is left no bit is set
  pub no_bit_in_word : rest_of_word ≡ 0 → IsFirstBit words from ((from / 64 + 1) * 64) None
  no_bit_in_word none k low high = at_rest k low high ∙ ap (λ b. b == 1) (ap (λ n. bit_at n (k - from)) none ∙ bit_at-zero (k - from))

  -- and otherwise the lowest that is left is the first
  pub first_bit_in_word : get_or words i 0 < 2 ^ 64 → 0 < rest_of_word → IsFirstBit words from ((from / 64 + 1) * 64) (Some (from + trailing_zeros w64 rest_of_word))
  first_bit_in_word fits some =
      let t = trailing_zeros w64 rest_of_word in
      let all = get_or words i 0 in
      let bound : rest_of_word < 2 ^ 64 = omega (arith, div-le_self all (2 ^ (from % 64))) in
      let lowest = bit_at-trailing_zeros w64 rest_of_word some bound in
      let within : from % 64 + t < 64 = elim (cases_lt (from % 64 + t) 64) [
        | inl l ↦ l
        | inr g ↦ absurd (omega (arith, lowest.1, bit_at_shr all (from % 64) t, bit_at_above all 64 (from % 64 + t) fits g))
      ] in
      let high : from + t < (from / 64 + 1) * 64 = omega arith in
      let low : from ≤ from + t = omega arith in
      let back : from + t - from ≡ t = omega arith in (
        low,
        high,
        at_rest (from + t) low high ∙ ap (λ j. bit_at rest_of_word j == 1) back ∙ ap (λ b. b == 1) lowest.1,
        (λ k least below. at_rest k least (omega arith) ∙ ap (λ b. b == 1) (lowest.2 (k - from) (omega arith))),
      )

  -- what is left of the word up to another bit
  pub bits_of_word : (end : ℕ) → from < end → end ≤ (from / 64 + 1) * 64
      → AreBitsBetween words from end (bit_and rest_of_word ((2 ^ 64 - 1) / 2 ^ (64 - (end - from))))
  bits_of_word end some within k =
      let mask : (2 ^ 64 - 1) / 2 ^ (64 - (end - from)) ≡ 2 ^ (end - from) - 1 =
      ones_shr 64 (64 - (end - from)) (omega arith) ∙ ap (λ m. 2 ^ m - 1) (let e : 64 - (64 - (end - from)) ≡ end - from = omega arith in e) in
      let both = bit_at_and rest_of_word (2 ^ (end - from) - 1) k in
      rw mask (elim (cases_lt (from + k) end) [
        | inl l ↦
            (let same : bit_at (bit_and rest_of_word (2 ^ (end - from) - 1)) k ≡ bit_at rest_of_word k =
            omega (arith, both, bit_at_ones (end - from) k (omega arith), bit_at-lt rest_of_word k) in
            let back : from + k - from ≡ k = omega arith in
            rw (same, lt-ltb (from + k) end l)
            (sym (at_rest (from + k) (omega arith) (omega arith) ∙ ap (λ j. bit_at rest_of_word j == 1) back)))
        | inr g ↦
            (let none : bit_at (bit_and rest_of_word (2 ^ (end - from) - 1)) k ≡ 0 =
            omega (arith, both, bit_at_ones_above (end - from) k (omega arith)) in
            rw (none, le-ltb (from + k) end g) refl)
      ])

-- the bits of a word, taken from the lowest on
module _ (words : List ℕ) (from end rest : ℕ) (bits : AreBitsBetween words from end rest) where
  at_bit : (k : ℕ) → from ≤ k → k < end → is_bit_set words k ≡ (bit_at rest (k - from) == 1)
  at_bit k low high =
      let on : from + (k - from) ≡ k = omega arith in
      sym (bits (k - from) ∙ rw (on, lt-ltb k end high) refl)

  -- if nothing is left no bit is set
  pub no_bit_between : rest ≡ 0 → IsFirstBit words from end None
  no_bit_between none k low high = at_bit k low high ∙ ap (λ b. b == 1) (ap (λ n. bit_at n (k - from)) none ∙ bit_at-zero (k - from))

  module _ (some : 0 < rest) (fits : rest < 2 ^ 64) where
    abbrev lowest : ℕ
    lowest = trailing_zeros w64 rest

    set_there : (nat_lt (from + lowest) end ≡ true) × (is_bit_set words (from + lowest) ≡ true)
    set_there = and_parts (nat_lt (from + lowest) end) (is_bit_set words (from + lowest))
        (sym (bits lowest) ∙ ap (λ b. b == 1) (bit_at-trailing_zeros w64 rest some fits).1)

    -- the lowest bit that is left is the first
    pub first_bit_between : IsFirstBit words from end (Some (from + lowest))
    first_bit_between = (
      omega arith,
      ltb-true (from + lowest) end set_there.0,
      set_there.1,
      λ k least below. at_bit k least (omega (arith, below, ltb-true (from + lowest) end set_there.0))
          ∙ ap (λ b. b == 1) ((bit_at-trailing_zeros w64 rest some fits).2 (k - from) (omega arith)),
    )

    -- and what is left without it and the bits below are those from the next one on
    pub bits_after : AreBitsBetween words (from + lowest + 1) end (rest / 2 ^ lowest / 2 ^ 1)
    bits_after k =
        let on : from + (lowest + (1 + k)) ≡ from + lowest + 1 + k = omega arith in
        let same : bit_at (rest / 2 ^ lowest / 2 ^ 1) k ≡ bit_at rest (lowest + (1 + k)) =
        bit_at_shr (rest / 2 ^ lowest) 1 k ∙ bit_at_shr rest lowest (1 + k) in
        rw same (bits (lowest + (1 + k)) ∙ ap (λ n. nat_lt n end && is_bit_set words n) on)

    pub less_after : rest / 2 ^ lowest / 2 ^ 1 < rest
    less_after = let half = div-le_self rest (2 ^ lowest) in omega arith

module _ (words : List ℕ) (bit i : ℕ) (word : i ≡ bit / 64) (within : i < length words) where
  -- the words after `words[i] |= 1 << (bit % 64)`
  abbrev pub with_bit : List ℕ
  with_bit = slice_set words i (bit_or (get_or words i 0) (1 * 2 ^ (bit % 64) % 2 ^ 64))

  below : bit % 64 < 64
  below = omega arith

  pub is_bit_set-with_bit : is_bit_set with_bit bit ≡ true
  is_bit_set-with_bit =
      let e : bit / 64 ≡ i = sym word in
      rw (e, get_or-set_same) (ap (λ b. b == 1) (bit_at_set_same w64 (get_or words i 0) (bit % 64) below))

  pub is_bit_set-with_other : (k : ℕ) → k ≢ bit → is_bit_set with_bit k ≡ is_bit_set words k
  is_bit_set-with_other k ne = elim (cases_eq (k / 64) i) [
    | inl e ↦
        (let apart : k % 64 ≢ bit % 64 = λ s. ne (omega arith) in
        rw (e, get_or-set_same) (ap (λ b. b == 1) (bit_at_set_other w64 (get_or words i 0) (bit % 64) below (k % 64) apart)))
    | inr n ↦ rw get_or-set_other refl
  ]

-- one test more: the bit at n is the test's, the others are as before
pub bits_more : (words others : List ℕ) (test : ℕ → Bool) (n : ℕ) → ((k : ℕ) → k < 384 → is_bit_set words k ≡ (nat_lt k n && test k))
    → is_bit_set others n ≡ test n → ((k : ℕ) → k ≢ n → is_bit_set others k ≡ is_bit_set words k)
    → (k : ℕ) → k < 384 → is_bit_set others k ≡ (nat_lt k (n + 1) && test k)
bits_more words others test n before here other k h = elim (cases_eq k n) [
  | inl e ↦ rw e (grind (arith, nat_tests, here))
  | inr ne ↦ other k ne ∙ before k h ∙ ap (λ b. b && test k) (let t : nat_lt k n ≡ nat_lt k (n + 1) = grind (arith, nat_tests) in t)
]

-- the same if the bit at n is not set yet and the test does not pass
pub bits_same : (words : List ℕ) (test : ℕ → Bool) (n : ℕ) → n < 384 → ((k : ℕ) → k < 384 → is_bit_set words k ≡ (nat_lt k n && test k))
    → test n ≡ false → (k : ℕ) → k < 384 → is_bit_set words k ≡ (nat_lt k (n + 1) && test k)
bits_same words test n below before fails =
    let none : nat_lt n n ≡ false = grind (arith, nat_tests) in
    bits_more words words test n before (before n below ∙ ap (λ b. b && test n) none ∙ sym fails) (λ k ne. refl)

-- tests that fail leave the bits as they are
pub bits_on : (words : List ℕ) (test : ℕ → Bool) (n m : ℕ) → n ≤ m → ((k : ℕ) → k < 384 → is_bit_set words k ≡ (nat_lt k n && test k))
    → ((k : ℕ) → n ≤ k → k < m → test k ≡ false) → (k : ℕ) → k < 384 → is_bit_set words k ≡ (nat_lt k m && test k)
bits_on words test n m on before fails k h = elim (cases_lt k n) [
  | inl low ↦ before k h ∙ ap (λ b. b && test k) (let t : nat_lt k n ≡ nat_lt k m = grind (arith, nat_tests) in t)
  | inr high ↦ elim (cases_lt k m) [
    | inl below ↦ (let none = fails k high below in
        let past : nat_lt k n ≡ false = grind (arith, nat_tests) in
        let short : nat_lt k m ≡ true = grind (arith, nat_tests) in
        before k h ∙ rw (past, short, none) refl)
    | inr over ↦ before k h ∙ ap (λ b. b && test k) (let t : nat_lt k n ≡ nat_lt k m = grind (arith, nat_tests) in t)
  ]
]

-- with no test made no bit is set
pub bits_none : (test : ℕ → Bool) (k : ℕ) → k < 384 → is_bit_set (0 ∷ 0 ∷ 0 ∷ 0 ∷ 0 ∷ 0 ∷ []) k ≡ (nat_lt k 0 && test k)
bits_none test k h =
    let zero : ℕ = 0 in
    let none : get_or (replicate 6 zero) (k / 64) zero ≡ zero = get_or-replicate 6 (k / 64) zero zero (omega arith) in
    let low : nat_lt k 0 ≡ false = grind (arith, nat_tests) in
    rw (none, low) (ap (λ b. b == 1) (bit_at-zero (k % 64)))
