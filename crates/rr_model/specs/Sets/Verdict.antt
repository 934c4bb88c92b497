-- The answers to questions about two sets of occurrences, over all whole numbers.
use Rattle.std.specs.Prelude.{◌≡◌, ◌↔◌, ℤ}
use Rattle.rr_model.specs.Moment.{Before, Occurrences}
use Rattle.rr_model.specs.declared.kind.Kind.{Kind}
use Rattle.rr_model.specs.declared.verdict.Side.{Side}
use Rattle.rr_model.specs.declared.verdict.Side.TheVariants.{A, B, Both}
use Rattle.rr_model.specs.declared.verdict.Verdict.{Verdict}
use Rattle.rr_model.specs.declared.verdict.Verdict.TheVariants.{Yes, No}

-- the two have equal occurrences
abbrev pub HaveEqualOccurrences : Occurrences → Occurrences → Type 0
HaveEqualOccurrences P Q = (k : Kind) (t : ℤ) → P k t ↔ Q k t

-- exactly one of two facts holds, that of this side
abbrev pub HoldsOnlyOf : Side → Type 0 → Type 0 → Type 0
HoldsOnlyOf A P Q = P × (Q → ⊥)
HoldsOnlyOf B P Q = Q × (P → ⊥)
HoldsOnlyOf Both P Q = ⊥

-- of two facts the first alone holds (A), the second alone (B), or both
abbrev pub HoldsOn : Side → Type 0 → Type 0 → Type 0
HoldsOn A P Q = P × (Q → ⊥)
HoldsOn B P Q = Q × (P → ⊥)
HoldsOn Both P Q = P × Q

-- Yes if the two have equal occurrences; no with the first that exactly one has, and its side.
abbrev pub IsEqualVerdict : Occurrences → Occurrences → Verdict → Type 0
IsEqualVerdict P Q Yes = HaveEqualOccurrences P Q
IsEqualVerdict P Q (No k t side) = HoldsOnlyOf side (P k t) (Q k t) × ((l : Kind) (u : ℤ) → Before l u k t → P l u ↔ Q l u)

-- Yes if each occurrence of the first is one of the second; no with the first that the second lacks.
abbrev pub IsWithinVerdict : Occurrences → Occurrences → Verdict → Type 0
IsWithinVerdict P Q Yes = (k : Kind) (t : ℤ) → P k t → Q k t
IsWithinVerdict P Q (No k t side) =
    (side ≡ A) × P k t × (Q k t → ⊥) × ((l : Kind) (u : ℤ) → Before l u k t → P l u → Q l u)

-- Yes if the two have no common occurrence; no with the first.
abbrev pub IsDisjointVerdict : Occurrences → Occurrences → Verdict → Type 0
IsDisjointVerdict P Q Yes = (k : Kind) (t : ℤ) → P k t → Q k t → ⊥
IsDisjointVerdict P Q (No k t side) =
    (side ≡ Both) × P k t × Q k t × ((l : Kind) (u : ℤ) → Before l u k t → P l u → Q l u → ⊥)
