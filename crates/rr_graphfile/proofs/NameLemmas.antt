-- The names of events by their ids, event by event.
use Rattle.std.proofs.Common.{◌≡◌, ℕ, ◌+◌, ◌<◌, Bool, true, false, cond, if◌then◌else◌, List, [], ◌∷◌, length, drop, get_or, map, refl, sym, ap, ◌∙◌}
use Rattle.std.proofs.Common.{Option, None, Some, option_map, unwrap_or}
use Rattle.std.specs.Prelude.{bytes_eq, codes}
use Rattle.std.specs.Borrow.{Bor}
use Rattle.std.specs.BTreeMap.{get_by}
use Rattle.std.specs.Cmp.Lexicographic.{slice_cmp}
use Rattle.std.specs.Map.{update}
use Rattle.std.specs.Option.{is_some, option_or}
use Rattle.std.specs.Ordering.{nat_cmp}
use Rattle.std.proofs.lemmas.List.{at_drop_more}
use Rattle.std.proofs.lemmas.Slice.Eq.{bytes_eq-Decides}
use Rattle.serde_json.specs.Data.{Data}
use Rattle.serde_json.specs.View.{view}
use Rattle.serde_json.specs.declared.value.Value.{Value}
use Rattle.rr_model.specs.Graph.Members.{text_in}
use Rattle.rr_graphfile.specs.Items.{has_id, is_text, master_by_id, master_name, name_by_id, own_name}
use Rattle.rr_graphfile.specs.Names.{IsNameMap, NameMap, Notes, name_under}

or_none : (x : Option (List ℕ)) → x ≡ option_or x None
or_none None = refl
or_none (Some x) = refl

or_some : (x y : Option (List ℕ)) → is_some x ≡ true → x ≡ option_or x y
or_some None y e = absurd (cc)
or_some (Some x) y e = refl

abbrev pub found_at : NameMap → List ℕ → Option (Bor (List ℕ))
found_at names id = get_by (λ (key : Bor (List ℕ)). slice_cmp nat_cmp id key.now) names

abbrev pub text_of : Option (Bor (List ℕ)) → Option (List ℕ)
text_of found = option_map (λ (name : Bor (List ℕ)). name.now) found

some_text : (found : Option (Bor (List ℕ))) → is_some found ≡ true → is_some (text_of found) ≡ true
some_text None e = absurd (cc)
some_text (Some x) e = refl

none_text : (found : Option (Bor (List ℕ))) → is_some found ≡ false → text_of found ≡ None
none_text None e = refl
none_text (Some x) e = absurd (cc)

same_bytes : (xs ys : List ℕ) → bytes_eq xs ys ≡ true → xs ≡ ys
same_bytes xs ys e = (rw e at (bytes_eq-Decides xs ys)).0 refl

-- what an event alone states under an id
alone : (event : Data) (id : List ℕ) (is : Bool) → has_id id event ≡ is → name_by_id id (event ∷ []) ≡ (if is then Some (own_name event) else None)
alone event id true e = rw e refl
alone event id false e = rw e refl

-- an event without this id
not_first : (old : NameMap) (event : Data) (id : List ℕ) → has_id id event ≡ false → name_under old id ≡ option_or (name_under old id) (name_by_id id (event ∷ []))
not_first old event id e = or_none (name_under old id) ∙ ap (option_or (name_under old id)) (sym (alone event id false e))

pub none_noted : (old : NameMap) (event : Data) → text_in (codes "id") event ≡ None → Notes old event old
none_noted old event none id = not_first old event id (ap (is_text id) none)

module _ (event : Data) (own : List ℕ) (is : text_in (codes "id") event ≡ Some own) where
  tested : (id : List ℕ) → has_id id event ≡ bytes_eq own id
  tested id = ap (is_text id) is

  pub known_noted : (old : NameMap) → is_some (found_at old own) ≡ true → Notes old event old
  known_noted old known id = by (bytes_eq own id) refl
    where
      by : (same : Bool) → bytes_eq own id ≡ same → name_under old id ≡ option_or (name_under old id) (name_by_id id (event ∷ []))
      by true e =
          or_some (name_under old id) (name_by_id id (event ∷ []))
          (ap (λ (u : List ℕ). is_some (text_of (found_at old u))) (sym (same_bytes own id e)) ∙ some_text (found_at old own) known)
      by false e = not_first old event id (tested id ∙ e)

  -- an id that is new is kept with the name of its event
  pub new_noted : (old new : NameMap) (name : Bor (List ℕ)) → is_some (found_at old own) ≡ false → name.now ≡ own_name event
      → ((id : List ℕ) → found_at new id ≡ update bytes_eq (found_at old) own (Some name) id) → Notes old event new
  new_noted old new name unknown named updates id = by (bytes_eq own id) refl
    where
      by : (same : Bool) → bytes_eq own id ≡ same → name_under new id ≡ option_or (name_under old id) (name_by_id id (event ∷ []))
      by true e =
          let there : found_at new id ≡ Some name = updates id ∙ ap (λ (b : Bool). cond b (Some name) (found_at old id)) e in
          let none : name_under old id ≡ None =
          ap (λ (u : List ℕ). text_of (found_at old u)) (sym (same_bytes own id e)) ∙ none_text (found_at old own) unknown in
          ap text_of there ∙ ap Some named ∙ sym (alone event id true (tested id ∙ e))
          ∙ ap (λ (x : Option (List ℕ)). option_or x (name_by_id id (event ∷ []))) (sym none)
      by false e =
          ap text_of (updates id ∙ ap (λ (b : Bool). cond b (Some name) (found_at old id)) e) ∙ not_first old event id (tested id ∙ e)

-- ---- one event more

or_more : (x y z : Option (List ℕ)) → option_or (option_or x y) z ≡ option_or x (option_or y z)
or_more None y z = refl
or_more (Some x) y z = refl

one_more : (id : List ℕ) (event : Data) (events : List Data) → name_by_id id (event ∷ events) ≡ option_or (name_by_id id (event ∷ [])) (name_by_id id events)
one_more id event events = by (has_id id event) refl
  where
    by : (is : Bool) → has_id id event ≡ is → name_by_id id (event ∷ events) ≡ option_or (name_by_id id (event ∷ [])) (name_by_id id events)
    by true e = rw e refl
    by false e = rw e refl

-- what the events from an index on state, by the event there
from-event : (items : List Value) (i : ℕ) (event : Value) (id : List ℕ) → i < length items → event ≡ get_or items i event
    → name_by_id id (map view (drop i items)) ≡ name_by_id id (view event ∷ map view (drop (i + 1) items))
from-event items i event id h e =
    at_drop_more (λ (ds : List Value). name_by_id id (map view ds)) items i event h
    ∙ ap (λ (d : Value). name_by_id id (view d ∷ map view (drop (i + 1) items))) (sym e)

pub event-noted : (items : List Value) (i : ℕ) (event : Value) (old new : NameMap) (all : List ℕ → Option (List ℕ)) → i < length items
    → event ≡ get_or items i event → Notes old (view event) new
    → ((id : List ℕ) → option_or (name_under old id) (name_by_id id (map view (drop i items))) ≡ all id)
    → (id : List ℕ) → option_or (name_under new id) (name_by_id id (map view (drop (i + 1) items))) ≡ all id
event-noted items i event old new all h e notes so_far id =
    let rest = name_by_id id (map view (drop (i + 1) items)) in
    ap (λ (x : Option (List ℕ)). option_or x rest) (notes id) ∙ or_more (name_under old id) (name_by_id id (view event ∷ [])) rest
    ∙ ap (option_or (name_under old id)) (sym (one_more id (view event) (map view (drop (i + 1) items))))
    ∙ ap (option_or (name_under old id)) (sym (from-event items i event id h e)) ∙ so_far id

-- ---- the name of a series

pub kept_name : (names : NameMap) (items : List Data) (event : Data) (id name : List ℕ) → text_in (codes "seriesMasterId") event ≡ Some id
    → Some name ≡ name_under names id → IsNameMap names items → name ≡ master_name items event
kept_name names items event id name is found kept =
    let there : name_by_id id items ≡ Some name = sym (kept id) ∙ sym found in
    sym (ap (master_by_id items (own_name event)) is ∙ ap (λ (n : Option (List ℕ)). unwrap_or n (own_name event)) there)
