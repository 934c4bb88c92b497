-- What names mean, one after another.
use Rattle.std.proofs.Common.{◌≡◌, ℕ, ℤ, ◌+◌, ◌<◌, ◌≤◌, true, false, List, length, get_or, drop, map, Bor, Option, Some, None, option_map, MatchOption, refl, sym, ap, subst}
use Rattle.std.specs.Bool.{⊤}
use Rattle.std.specs.Option.{is_some, option_or}
use Rattle.std.proofs.lemmas.Bool.{false≢true}
use Rattle.std.proofs.lemmas.List.{at_drop_all, drop_more}
use Rattle.rr_true.specs.Names.{Means}
use Rattle.rr_compare.specs.Names.{first_meaning}

-- the texts of names
abbrev pub texts : List (Bor (List ℕ)) → List (List ℕ)
texts names = map (λ (name : Bor (List ℕ)). name.now) names

-- offsets that are found are not none
not_none : (g : ℤ → ℤ) → Some g ≡ None → ⊥
not_none g h = subst (λ (o : Option (ℤ → ℤ)). MatchOption o ⊥ (λ _. ⊤)) h tt

module _ {Z : Type 0} (offset_of : Z → ℤ → ℤ) (m other : Option (ℤ → ℤ)) where
  -- offsets that a name means are those of it or of another name
  pub means_first : (found : Option Z) → is_some found ≡ true → Means m (option_map offset_of found)
      → Means (option_or m other) (option_map offset_of found)
  means_first None e h = absurd (false≢true e)
  means_first (Some zone) e h = first_by m zone h
    where
      first_by : (m : Option (ℤ → ℤ)) (zone : Z) → Means m (Some (offset_of zone)) → Means (option_or m other) (Some (offset_of zone))
      first_by None zone h = absurd (not_none (offset_of zone) h)
      first_by (Some f) zone h = h

  -- a name of which none are found means nothing, so that the other name decides
  pub means_other : (found : Option Z) → is_some found ≡ false → Means m (option_map offset_of found) → option_or m other ≡ other
  means_other None e h = other_by m h
    where
      other_by : (m : Option (ℤ → ℤ)) → Means m None → option_or m other ≡ other
      other_by None h = refl
      other_by (Some f) h = absurd h
  means_other (Some zone) e h = absurd (false≢true (sym e))

module _ (means : List ℕ → Option (ℤ → ℤ)) (names : List (Bor (List ℕ))) (i : ℕ) where
  -- what the names from here on mean, by the first of them
  pub next_meaning : (d : Bor (List ℕ)) → i < length names
      → first_meaning means (texts (drop i names)) ≡ option_or (means (get_or names i d).now) (first_meaning means (texts (drop (i + 1) names)))
  next_meaning d h = ap (λ (ns : List (Bor (List ℕ))). first_meaning means (texts ns)) (drop_more names i d h)

  -- no names are left
  pub no_meaning : length names ≤ i → first_meaning means (texts (drop i names)) ≡ None
  no_meaning h = at_drop_all (λ (ns : List (Bor (List ℕ))). first_meaning means (texts ns)) names i h
