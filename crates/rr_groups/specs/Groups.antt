-- The events of two calendars, key by key.
use Rattle.std.specs.Prelude.{◌≡◌, ℕ, ◌+◌, Bool, if◌then◌else◌, All, List, [], ◌∷◌, ◌++◌, map}
use Rattle.std.specs.List.{Contains}
use Rattle.rr_model.specs.Rising.{Rises}
use Rattle.rr_seam.specs.Keys.{is_same_key, key_lt}
use Rattle.rr_seam.specs.declared.key.Key.{Key}
use Rattle.rr_groups.specs.declared.group.Group.{Group}

-- the indexes, from this one on, of the keys that pass a test
abbrev pub indexes_from : (Key → Bool) → ℕ → List Key → List ℕ
indexes_from test n [] = []
indexes_from test n (k ∷ ks) = if test k then n ∷ indexes_from test (n + 1) ks else indexes_from test (n + 1) ks

-- the indexes of the keys that are this one
abbrev pub indexes_of : Key → List Key → List ℕ
indexes_of key keys = indexes_from (λ k. is_same_key k key) 0 keys

-- the keys of groups
abbrev pub keys_of : List Group → List Key
keys_of groups = map (λ (group : Group). group.key) groups

-- each key of two lists has one group, in their order, which has the indexes of the key in both
pub record AreGroups (a b : List Key) (groups : List Group) : Type 0 where
  pub rises : Rises key_lt (keys_of groups)
  pub every : All (Contains (keys_of groups)) (a ++ b)
  pub none_else : All (λ (group : Group). Contains (a ++ b) group.key) groups
  pub of_a : All (λ (group : Group). group.a.items ≡ indexes_of group.key a) groups
  pub of_b : All (λ (group : Group). group.b.items ≡ indexes_of group.key b) groups
