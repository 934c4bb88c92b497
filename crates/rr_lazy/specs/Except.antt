-- What is left of one part once the occurrences of another are taken out.
use Rattle.std.specs.Prelude.{◌≡◌, ◌≢◌, ◌↔◌, ℕ, true, false, List, [], Contains, Result, Ok, Err, Option, Some, None, ℤ, pos, ◌+ℤ◌, ◌≤ℤ◌, ◌<ℤ◌}
use Rattle.std.specs.Option.{ForSome, ForNone}
use Rattle.rr_model.specs.Calendar.{first_day_of_year}
use Rattle.rr_model.specs.declared.refusal.NoMemory.{NoMemory}
use Rattle.rr_model.specs.Sets.Tree.{Tree, except, stands_at, IsOfOneKind}
use Rattle.rr_shapes.specs.Tables.{Extends}
use Rattle.rr_lazy.specs.declared.occupied_day.OccupiedDay.{OccupiedDay}
use Rattle.rr_lazy.specs.Next.{HasNone, IsNextIn, IsSoundLazy, with_set}
use Rattle.rr_lazy.specs.Ahead.{IsAheadIn, IsGivenOn}
use Rattle.rr_lazy.specs.Parts.{AskedPart, Part}
use Rattle.rr_lazy.specs.Tables.{ahead_more}

-- what is known of a part from some day on that is not after this one
pub record IsAheadUpTo (sets : List (List ℕ)) (part : Part) (day : ℤ) : Type 0 where
  pub from : ℤ
  pub early : from ≤ℤ day
  pub known : IsAheadIn sets part.tree part.own from part.ahead

-- What is known of two parts from a position on: the day that the first one gave, from some day on, before which nothing is left once
-- the second one is taken out; and of the second one at least as much.
pub record KnowsBoth (sets : List (List ℕ)) (a b : Part) (position : ℤ) : Type 0 where
  pub from : ℤ
  pub order : position ≤ℤ from
  pub passed : HasNone (except a.tree b.tree) position from
  pub known : IsAheadIn sets a.tree a.own from a.ahead
  pub out : IsAheadUpTo sets b from

-- from some position that is not before 0001-01-01 on, both parts are known
abbrev pub KnowsBothFromSome : List (List ℕ) → Part → Part → Type 0
KnowsBothFromSome sets a b = (position : ℤ) × (first_day_of_year (pos 1) ≤ℤ position) × KnowsBoth sets a b position

-- the seconds of a day that one part gave and another, which gave the day too, lacks; None if it lacks none
abbrev pub IsLacking : List (List ℕ) → OccupiedDay → OccupiedDay → List (List ℕ) → Option OccupiedDay → Type 0
IsLacking old a b new None = (s : ℕ) → Contains ((with_set old a).times) s → ¬ ¬ Contains ((with_set old b).times) s
IsLacking old a b new (Some found) =
    (found.day ≡ a.day) × IsGivenOn new found × (((with_set new found).times) ≢ [])
    × ((s : ℕ) → Contains ((with_set new found).times) s ↔ (Contains ((with_set old a).times) s × ¬ Contains ((with_set old b).times) s))

-- what is left of a day once what stands in a tree is taken out; None if nothing is
abbrev pub IsLeftBy : List (List ℕ) → Tree → OccupiedDay → List (List ℕ) → Option OccupiedDay → Type 0
IsLeftBy old out given new None = (s : ℕ) → Contains ((with_set old given).times) s → stands_at out given.day s ≡ true
IsLeftBy old out given new (Some found) =
    (found.day ≡ given.day) × IsGivenOn new found × (((with_set new found).times) ≢ [])
    × ((s : ℕ) → Contains ((with_set new found).times) s ↔ (Contains ((with_set old given).times) s × (stands_at out given.day s ≡ false)))

-- What is given up to a day once the second part is taken out, by what was known of both before and is known after: a day of which
-- something is left, and no such day was passed over; or nothing, if what is known of the first part after it lies past the day.
abbrev pub IsNextOfBoth : List (List ℕ) → List (List ℕ) → Part → Part → Part → Part → ℤ → Result (Option OccupiedDay) NoMemory → Type 0
IsNextOfBoth old new a a' b b' to (Ok (Some found)) =
    (position : ℤ) → KnowsBoth old a b position
    → IsNextIn new (except a.tree b.tree) position to (Ok (Some found)) (found.day +ℤ pos 1) × KnowsBoth new a' b' (found.day +ℤ pos 1)
IsNextOfBoth old new a a' b b' to (Ok None) =
    ForSome a'.ahead (λ f. to <ℤ f.day) × ForNone a'.ahead (to <ℤ a'.own)
    × ((position : ℤ) → KnowsBoth old a b position → KnowsBoth new a' b' position)
IsNextOfBoth old new a a' b b' to (Err e) = (position : ℤ) → KnowsBoth old a b position → KnowsBoth new a' b' position

-- what two parts give together up to a day once both were asked: a day of the first of which something is left once the second is taken out
abbrev pub IsNextOfAsked : List (List ℕ) → List (List ℕ) → AskedPart → AskedPart → ℤ → Result (Option OccupiedDay) NoMemory → Type 0
IsNextOfAsked old new a b to result = IsNextOfBoth old new a.before a.after b.before b.after to result

pub up_to_more : (old new : List (List ℕ)) (part : Part) (day : ℤ) → Extends old new → IsAheadUpTo old part day → IsAheadUpTo new part day
up_to_more old new part day more k =
    record { from = k.from; early = k.early; known = ahead_more old new part.tree part.own k.from part.ahead more k.known }

pub knows_both_more : (old new : List (List ℕ)) (a b : Part) (position : ℤ) → Extends old new → KnowsBoth old a b position → KnowsBoth new a b position
knows_both_more old new a b position more k = record {
  from = k.from;
  order = k.order;
  passed = k.passed;
  known = ahead_more old new a.tree a.own k.from a.ahead more k.known;
  out = up_to_more old new b k.from more k.out;
}

pub sound_except : (a b : Tree) (position : ℤ) → IsOfOneKind (except a b) → first_day_of_year (pos 1) ≤ℤ position → IsSoundLazy (except a b) position
sound_except a b position k s = record { of_kind = k; in_years = s }
