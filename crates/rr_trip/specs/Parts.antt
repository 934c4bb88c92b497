-- The events of two calendars that are taken as the same by their key: by a name, but not by a place in a file.
use Rattle.std.specs.Prelude.{◌≡◌, Bool, true, false, List, [], ◌∷◌, ◌++◌}
use Rattle.rr_groups.specs.declared.group.Group.{Group}
use Rattle.rr_seam.specs.declared.key.Key.{Key}
use Rattle.rr_seam.specs.declared.key.Key.TheVariants.{Line, Number, Uid}

-- the key is a name, and not a place in its file
abbrev pub is_name : Key → Bool
is_name (Line number) = false
is_name (Number number) = false
is_name (Uid uid) = true

-- both calendars have events of a key that is a place in each file
pub record IsAtOnePlace (group : Group) : Type 0 where
  pub unnamed : is_name group.key ≡ false
  pub in_a : group.a.items ≡ [] → ⊥
  pub in_b : group.b.items ≡ [] → ⊥

-- the events of a group in A alone
pub record IsPartOfA (group part : Group) : Type 0 where
  pub key : part.key ≡ group.key
  pub a : part.a.items ≡ group.a.items
  pub b : part.b.items ≡ []

-- the events of a group in B alone
pub record IsPartOfB (group part : Group) : Type 0 where
  pub key : part.key ≡ group.key
  pub a : part.a.items ≡ []
  pub b : part.b.items ≡ group.b.items

-- Events of both calendars that have no name, and stand at one place in their files, are not taken as the same by that: a group of such
-- events is two.
pub data ArePartsOf : List Group → List Group → Type 0 where
  none : ArePartsOf [] []
  whole : (group : Group) (groups parts : List Group) → (IsAtOnePlace group → ⊥) → ArePartsOf groups parts → ArePartsOf (group ∷ groups) (group ∷ parts)
  parted : (group part_a part_b : Group) (groups parts : List Group) → IsAtOnePlace group → IsPartOfA group part_a → IsPartOfB group part_b
      → ArePartsOf groups parts → ArePartsOf (group ∷ groups) (part_a ∷ part_b ∷ parts)

-- the two parts of a group are put behind others
pub record ArePutApart (group : Group) (old new : List Group) : Type 0 where
  pub part_a : Group
  pub part_b : Group
  pub of_a : IsPartOfA group part_a
  pub of_b : IsPartOfB group part_b
  pub put : new ≡ old ++ part_a ∷ part_b ∷ []

-- The groups that have lines: as they are, if events are to be found by their UID alone, and by their place without one.
abbrev pub ArePartsIf : Bool → List Group → List Group → Type 0
ArePartsIf true groups parts = parts ≡ groups
ArePartsIf false groups parts = ArePartsOf groups parts
