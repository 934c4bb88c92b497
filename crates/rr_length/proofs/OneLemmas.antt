-- There is one first occurrence with two lengths at most.
use Rattle.std.proofs.Common.{◌≡◌, ℤ, ◌<ℤ◌, sym, ap, ◌∙◌, arith}
use Rattle.std.proofs.lemmas.Int.{ints, by_lt_z}
use Rattle.rr_length.specs.Lengths.{FirstOtherIsOne, IsFirstOther, Lengths, length_at, occurs_in}
use Rattle.rr_length.specs.declared.length.Length.{Length}
use Rattle.rr_length.specs.declared.other.OtherLength.{OtherLength}

-- an occurrence with two lengths is told by its moment and the two
abbrev made : ℤ → Length → Length → OtherLength
made at l m = record { at = at; a = l; b = m }

one_other : (one two : OtherLength) → one.at ≡ two.at → one.a ≡ two.a → one.b ≡ two.b → one ≡ two
one_other one two e f g = ap (λ t. made t one.a one.b) e ∙ ap (λ l. made two.at l one.b) f ∙ ap (λ m. made two.at two.a m) g

module _ (P : ℤ → Type 0) (a b : Lengths) where
  -- none of two comes before the other
  not_before : (one two : OtherLength) → IsFirstOther P a b one → IsFirstOther P a b two → one.at <ℤ two.at → ⊥
  not_before one two x y l = x.differs (x.of_a ∙ y.first one.at x.occurs l ∙ sym x.of_b)

  pub first_is_one : (one two : OtherLength) → IsFirstOther P a b one → IsFirstOther P a b two → one ≡ two
  first_is_one one two x y =
      let same : one.at ≡ two.at =
      by_lt_z {P = one.at ≡ two.at} one.at two.at (λ l. absurd (not_before one two x y l)) (λ l.
      by_lt_z {P = one.at ≡ two.at} two.at one.at (λ m. absurd (not_before two one y x m)) (λ m. omega (arith, ints, l, m))) in
      one_other one two same (x.of_a ∙ ap (length_at a) same ∙ sym y.of_a) (x.of_b ∙ ap (length_at b) same ∙ sym y.of_b)

pub first_other_is_one : FirstOtherIsOne
first_other_is_one s a b one two x y = first_is_one (occurs_in s) a b one two x y
