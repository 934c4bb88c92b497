-- What is kept of the names of zones, name by name.
use Rattle.std.proofs.Common.{◌≡◌, ℕ, ◌+◌, ◌<◌, ◌≤◌, ℤ, Bool, true, false, cond, List, [], ◌∷◌, length, get_or, take}
use Rattle.std.proofs.Common.{Option, None, Some, option_map, refl, sym, ap, subst, ◌∙◌}
use Rattle.std.specs.Prelude.{All, bytes_eq, map}
use Rattle.std.specs.BTreeMap.{get_by_text}
use Rattle.std.specs.Option.{is_some}
use Rattle.std.proofs.lemmas.Bool.{false≢true}
use Rattle.std.proofs.lemmas.List.{take_all}
use Rattle.std.proofs.lemmas.List.Elements.{All-map, All-more}
use Rattle.std.proofs.lemmas.Slice.Eq.{bytes_eq-Decides}
use Rattle.serde_json.specs.View.{view}
use Rattle.serde_json.specs.declared.value.Value.{Value}
use Rattle.rr_true.specs.Changes.{ZoneOffsets, offset_of}
use Rattle.rr_true.specs.Names.{Means}
use Rattle.rr_graphfile.specs.Known.{AreMeant, HasName, HasZoneOf, IsTurnedAlike, Keeps, KeepsNames, ZoneMap, kept_meaning, known_meaning}
use Rattle.rr_graphfile.specs.Turning.{Meaning, meaning_of}

-- offsets that are found are those that the name means
same_meaning : (m found : Option (ℤ → ℤ)) → Means m found → found ≡ m
same_meaning None found h = h
same_meaning (Some f) None h = absurd h
same_meaning (Some f) (Some g) h = λ i. Some (λ (u : ℤ). h u i)

same_bytes : (xs ys : List ℕ) → bytes_eq xs ys ≡ true → xs ≡ ys
same_bytes xs ys e = (rw e at (bytes_eq-Decides xs ys)).0 refl

itself : (xs : List ℕ) → bytes_eq xs xs ≡ true
itself xs = (bytes_eq-Decides xs xs).1 refl

-- ---- one name more

module _ (means : Meaning) (old new : ZoneMap) (name : List ℕ) (offsets : Option ZoneOffsets) (keeps : Keeps old name offsets new) where
  pub meant_more : AreMeant means old → Means (means name) (option_map offset_of offsets) → AreMeant means new
  meant_more so_far is other found e = by (bytes_eq name other) refl
    where
      by : (b : Bool) → bytes_eq name other ≡ b → Means (means other) (option_map offset_of found)
      by true same =
          let got : Some offsets ≡ Some found = sym (keeps other ∙ ap (λ (b : Bool). cond b (Some offsets) (get_by_text old other)) same) ∙ e in
          subst (λ (n : List ℕ). Means (means n) (option_map offset_of found)) (same_bytes name other same)
          (subst (λ (o : Option ZoneOffsets). Means (means name) (option_map offset_of o)) (cc) is)
      by false apart =
          so_far other found (sym (keeps other ∙ ap (λ (b : Bool). cond b (Some offsets) (get_by_text old other)) apart) ∙ e)

  pub names_stay : KeepsNames old new
  names_stay [] has = tt
  names_stay (b ∷ bs) has = by (bytes_eq name (b ∷ bs)) refl
    where
      by : (same : Bool) → bytes_eq name (b ∷ bs) ≡ same → is_some (get_by_text new (b ∷ bs)) ≡ true
      by true e = ap is_some (keeps (b ∷ bs) ∙ ap (λ (same : Bool). cond same (Some offsets) (get_by_text old (b ∷ bs))) e)
      by false e = ap is_some (keeps (b ∷ bs) ∙ ap (λ (same : Bool). cond same (Some offsets) (get_by_text old (b ∷ bs))) e) ∙ has

pub name_there : (old new : ZoneMap) (name : List ℕ) (offsets : Option ZoneOffsets) → Keeps old name offsets new → HasName new name
name_there old new [] offsets keeps = tt
name_there old new (b ∷ bs) offsets keeps =
    ap is_some (keeps (b ∷ bs) ∙ ap (λ (same : Bool). cond same (Some offsets) (get_by_text old (b ∷ bs))) (itself (b ∷ bs)))

-- a name that is kept is there
pub name_kept : (zones : ZoneMap) (name : List ℕ) → is_some (get_by_text zones name) ≡ true → HasName zones name
name_kept zones [] e = tt
name_kept zones (b ∷ bs) e = e

-- what a name means by what is found of it
pub told_of : (zones : ZoneMap) (name : List ℕ) (found : Option (Option ZoneOffsets)) → (name ≡ [] → ⊥) → found ≡ get_by_text zones name
    → kept_meaning found ≡ meaning_of (known_meaning zones) name
told_of zones [] found some e = absurd (some refl)
told_of zones (b ∷ bs) found some e = ap kept_meaning e

-- ---- all names

-- a name that is kept means the same by what is kept
pub known_alike : (means : Meaning) (zones : ZoneMap) → AreMeant means zones → (name : List ℕ) → HasName zones name
    → meaning_of (known_meaning zones) name ≡ meaning_of means name
known_alike means zones meant [] has = refl
known_alike means zones meant (b ∷ bs) has = by (get_by_text zones (b ∷ bs)) refl
  where
    by : (kept : Option (Option ZoneOffsets)) → get_by_text zones (b ∷ bs) ≡ kept → kept_meaning (get_by_text zones (b ∷ bs)) ≡ means (b ∷ bs)
    by None e = absurd (false≢true (ap is_some (sym e) ∙ has))
    by (Some offsets) e = ap kept_meaning e ∙ same_meaning (means (b ∷ bs)) (option_map offset_of offsets) (meant (b ∷ bs) offsets e)

-- ---- all events

-- with one event more the names of all so far are kept
pub more_names : (old new : ZoneMap) (items : List Value) (i : ℕ) (event : Value) → i < length items → event ≡ get_or items i event → KeepsNames old new
    → HasZoneOf new (view event) → All (λ (v : Value). HasZoneOf old (view v)) (take i items) → All (λ (v : Value). HasZoneOf new (view v)) (take (i + 1) items)
more_names old new items i event l e keeps has so_far =
    All-more (λ (v : Value). HasZoneOf new (view v)) items i event l (λ k d m. keeps _ (so_far k d m)) (subst (λ (v : Value). HasZoneOf new (view v)) e has)

-- if the names of all events are kept, each means the same by what is kept
pub all_names : (means : Meaning) (zones : ZoneMap) (items : List Value) (i : ℕ) → length items ≤ i → AreMeant means zones
    → All (λ (v : Value). HasZoneOf zones (view v)) (take i items) → All (IsTurnedAlike (known_meaning zones) means) (map view items)
all_names means zones items i end meant has =
    All-map (IsTurnedAlike (known_meaning zones) means) view items
    (λ k d l. known_alike means zones meant _ (subst (All (λ (v : Value). HasZoneOf zones (view v))) (take_all i items end) has k d l))
