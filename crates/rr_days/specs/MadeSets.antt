-- Sets of seconds that are made of two sets, and their numbers.
use Rattle.std.specs.Prelude.{◌≡◌, ◌⊎◌, ℕ, ◌<◌, ◌≤◌, List, [], All, Contains, get_or, length, nat_lt, ⊤, Result, Ok, Err}
use Rattle.rr_model.specs.Rising.Sets.{IsSetOf}
use Rattle.rr_model.specs.declared.refusal.Fault.{Fault}
use Rattle.rr_model.specs.declared.refusal.Fault.TheVariants.{Refused, NoMemory}
use Rattle.rr_model.specs.declared.refusal.Refusal.TheVariants.{TooManyMoments}
use Rattle.rr_shapes.specs.Numbering.{IsNumbering}
use Rattle.rr_shapes.specs.Placing.{IsPlaced, IsTooMany}
use Rattle.rr_shapes.specs.declared.pair_numbers.Pair.{Pair}
use Rattle.rr_days.specs.declared.combined_sets.CombinedSets.{CombinedSets}
use Rattle.rr_days.specs.declared.op.Op.{Op}
use Rattle.rr_days.specs.declared.op.Op.TheVariants.{Union, Common, Minus}

-- what the operation asks of two facts: that one holds (Union), that both hold (Common), or that the first alone holds (Minus)
abbrev pub HoldsFor : Op → Type 0 → Type 0 → Type 0
HoldsFor Union P Q = P ⊎ Q
HoldsFor Common P Q = P × Q
HoldsFor Minus P Q = P × (Q → ⊥)

-- the third list has what is in either of the first two, in both, or in the first alone, in rising order
abbrev pub IsMadeOf : Op → List ℕ → List ℕ → List ℕ → Type 0
IsMadeOf op xs ys both = IsSetOf nat_lt both (λ s. HoldsFor op (Contains xs s) (Contains ys s))

-- the set of this number is made of these two
pub record IsNumberOf (op : Op) (xs ys : List ℕ) (sets : List (List ℕ)) (number : ℕ) : Type 0 where
  pub within : number < length sets
  pub made : IsMadeOf op xs ys (get_or sets number [])

-- the number of each pair is one of 32 bits
abbrev pub AreSetNumbers : List (Pair × ℕ) → Type 0
AreSetNumbers known = All (λ k. k.1 ≤ 4_294_967_295) known

-- the number of each pair is one of 32 bits, and its set is made of those that the pair names in two lists of sets
abbrev pub AreKnown : Op → List (List ℕ) → List (List ℕ) → List (List ℕ) → List (Pair × ℕ) → Type 0
AreKnown op one other sets known =
    All (λ k. (k.1 ≤ 4_294_967_295) × IsNumberOf op (get_or one k.0.a []) (get_or other k.0.b []) sets k.1) known

-- the set that is made of two has this number, and no other set has come
pub record IsMadeSet (op : Op) (xs ys : List ℕ) (old new : List (List ℕ)) (number : ℕ) : Type 0 where
  pub times : List ℕ
  pub made : IsMadeOf op xs ys times
  pub placed : IsPlaced times old new number

-- if a pair names these two sets in two lists, and all that was known is true of these lists, so is what is known now
abbrev pub KeepsKnown : Op → Pair → List ℕ → List ℕ → CombinedSets → CombinedSets → Type 0
KeepsKnown op pair xs ys old new =
    (one other : List (List ℕ)) → get_or one pair.a [] ≡ xs → get_or other pair.b [] ≡ ys → AreKnown op one other old.shapes old.known
    → AreKnown op one other new.shapes new.known

-- beside these distinct sets the one that is made of two lists would be too many
pub record IsOneTooMany (op : Op) (xs ys : List ℕ) (sets : List (List ℕ)) : Type 0 where
  pub times : List ℕ
  pub made : IsMadeOf op xs ys times
  pub many : IsTooMany times sets
  pub numbering : IsNumbering sets

-- too many moments are refused only if this holds
abbrev pub RefusedOnlyWhere : {X : Type 0} → Type 0 → Result X Fault → Type 0
RefusedOnlyWhere P (Ok x) = ⊤
RefusedOnlyWhere P (Err (Refused refusal)) = (refusal ≡ TooManyMoments) × P
RefusedOnlyWhere P (Err NoMemory) = ⊤

-- out of memory: no other set has come than one that is made of these two, and no other pair than this one has come to be known
pub record IsLeftOutOfMemory (op : Op) (pair : Pair) (xs ys : List ℕ) (old new : CombinedSets) : Type 0 where
  pub sets : (new.shapes ≡ old.shapes) ⊎ ((number : ℕ) × IsMadeSet op xs ys old.shapes new.shapes number)
  pub known : (known : Pair × ℕ) → Contains new.known known → Contains old.known known ⊎ (known.0 ≡ pair)

-- too many moments leave all as it was
abbrev pub IsLeftOnErr : {X : Type 0} → Op → Pair → List ℕ → List ℕ → CombinedSets → CombinedSets → Result X Fault → Type 0
IsLeftOnErr op pair xs ys old new (Ok x) = ⊤
IsLeftOnErr op pair xs ys old new (Err (Refused refusal)) = new ≡ old
IsLeftOnErr op pair xs ys old new (Err NoMemory) = IsLeftOutOfMemory op pair xs ys old new
