-- Sorted entries, run by run of one key.
use Rattle.std.specs.Prelude.{◌≡◌, List, [], ◌∷◌, take_while, drop, length}
use Rattle.rr_seam.specs.declared.key.Key.{Key}
use Rattle.rr_groups.specs.Entries.{after_a, front_of_a, has_key, indexes_in}
use Rattle.rr_groups.specs.declared.entry.Entry.{Entry}
use Rattle.rr_groups.specs.declared.group.Group.{Group}

-- entries begin with this run of one key, that of the first
pub record IsRunAt (entries : List Entry) (first : Entry) (run : List Entry) : Type 0 where
  pub more : List Entry
  pub begins : entries ≡ first ∷ more
  pub run_is : run ≡ take_while (has_key first.key) entries

-- the group of the entries of one key, those of A first
pub record IsGroupOf (key : Key) (run : List Entry) (group : Group) : Type 0 where
  pub of_key : group.key ≡ key
  pub of_a : group.a.items ≡ indexes_in (front_of_a run)
  pub of_b : group.b.items ≡ indexes_in (after_a run)

-- the groups of entries, run by run of one key
pub data AreGroupsOf : List Entry → List Group → Type 0 where
  none : AreGroupsOf [] []
  next : (entries run : List Entry) (first : Entry) (group : Group) (groups : List Group)
      → IsRunAt entries first run → IsGroupOf first.key run group → AreGroupsOf (drop (length run) entries) groups
      → AreGroupsOf entries (group ∷ groups)
