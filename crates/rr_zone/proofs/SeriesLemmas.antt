-- The starts of series by their UIDs, event by event.
use Rattle.std.proofs.Common.{◌≡◌, ℕ, ◌+◌, ◌<◌, Bool, true, false, ◌&&◌, not, cond, if◌then◌else◌, List, [], ◌∷◌, length, drop, get_or, map, refl, sym, ap, ◌∙◌}
use Rattle.std.proofs.Common.{Option, None, Some, option_map, unwrap_or}
use Rattle.std.specs.Prelude.{bytes_eq}
use Rattle.std.specs.Borrow.{Bor}
use Rattle.std.specs.BTreeMap.{get_by}
use Rattle.std.specs.Cmp.Lexicographic.{slice_cmp}
use Rattle.std.specs.Map.{update}
use Rattle.std.specs.Option.{is_some, option_or}
use Rattle.std.specs.Ordering.{nat_cmp}
use Rattle.std.proofs.lemmas.List.{at_drop_more}
use Rattle.std.proofs.lemmas.Slice.Eq.{bytes_eq-Decides}
use Rattle.rr_model.specs.Rule.Validity.{is_absent}
use Rattle.rr_zone.specs.Events.{series_named, start_of_series, turning_start}
use Rattle.rr_zone.specs.Parts.{events_in, part_in, with_event}
use Rattle.rr_zone.specs.Series.{Notes, NotesPart, StartMap, series_start, start_under}
use Rattle.rr_zone.specs.declared.event.EventFacts.{EventFacts}
use Rattle.rr_zone.specs.declared.event.Start.{Start}
use Rattle.rr_zone.specs.declared.part.Content.{Content}
use Rattle.rr_zone.specs.declared.part.Content.TheVariants.{Event, Zone, Other}
use Rattle.rr_zone.specs.declared.part.Part.{Part}

abbrev OptionalStart : Type 0
OptionalStart = Option Start

or_none : (x : OptionalStart) → x ≡ option_or x None
or_none None = refl
or_none (Some x) = refl

-- an event that is no first series of its UID
not_first : (old : StartMap) (event : EventFacts) (uid : List ℕ) → series_start uid (event ∷ []) ≡ None → start_under old uid ≡ option_or (start_under old uid) (series_start uid (event ∷ []))
not_first old event uid none = or_none (start_under old uid) ∙ ap (option_or (start_under old uid)) (sym none)

-- what an event alone states under a UID
alone : (event : EventFacts) (uid : List ℕ) (is : Bool) → (not event.is_instance && not (is_absent uid) && bytes_eq event.uid uid) ≡ is
    → series_start uid (event ∷ []) ≡ (if is then Some event.start else None)
alone event uid true e = rw e refl
alone event uid false e = rw e refl

pub instance_noted : (old : StartMap) (event : EventFacts) → event.is_instance ≡ true → Notes old event old
instance_noted old event is uid = not_first old event uid (alone event uid false (rw is refl))

none_empty : (is_instance : Bool) (uid : List ℕ) → (not is_instance && not (is_absent uid) && bytes_eq [] uid) ≡ false
none_empty true [] = refl
none_empty false [] = refl
none_empty true (b ∷ bs) = refl
none_empty false (b ∷ bs) = refl

pub empty_noted : (old : StartMap) (event : EventFacts) → event.uid ≡ [] → Notes old event old
empty_noted old event none uid = not_first old event uid (alone event uid false (rw none (none_empty event.is_instance uid)))

-- ---- by the test of UIDs

same_bytes : (xs ys : List ℕ) → bytes_eq xs ys ≡ true → xs ≡ ys
same_bytes xs ys e = (rw e at (bytes_eq-Decides xs ys)).0 refl

never : (a : Bool) → (a && false) ≡ false
never true = refl
never false = refl

or_some : (x y : OptionalStart) → is_some x ≡ true → x ≡ option_or x y
or_some None y e = absurd (cc)
or_some (Some x) y e = refl

abbrev pub found_at : StartMap → List ℕ → Option (Bor Start)
found_at zones uid = get_by (λ (key : Bor (List ℕ)). slice_cmp nat_cmp uid key.now) zones

abbrev pub texts : Option (Bor Start) → OptionalStart
texts found = option_map (λ (start : Bor Start). start.now) found

some_texts : (found : Option (Bor Start)) → is_some found ≡ true → is_some (texts found) ≡ true
some_texts None e = absurd (cc)
some_texts (Some x) e = refl

none_texts : (found : Option (Bor Start)) → is_some found ≡ false → texts found ≡ None
none_texts None e = refl
none_texts (Some x) e = absurd (cc)

pub known_noted : (old : StartMap) (event : EventFacts) → is_some (found_at old event.uid) ≡ true → Notes old event old
known_noted old event known uid = by (bytes_eq event.uid uid) refl
  where
    by : (is : Bool) → bytes_eq event.uid uid ≡ is → start_under old uid ≡ option_or (start_under old uid) (series_start uid (event ∷ []))
    by true e =
        or_some (start_under old uid) (series_start uid (event ∷ []))
        (ap (λ (u : List ℕ). is_some (texts (found_at old u))) (sym (same_bytes event.uid uid e)) ∙ some_texts (found_at old event.uid) known)
    by false e = not_first old event uid (alone event uid false (rw e (never (not event.is_instance && not (is_absent uid)))))

both : (a : Bool) (uid : List ℕ) → a ≡ false → is_absent uid ≡ false → (not a && not (is_absent uid) && true) ≡ true
both a uid e f = rw (e, f) refl

-- a UID that is new is kept with the start of its event
pub new_noted : (old new : StartMap) (event : EventFacts) (value : Bor Start) → event.is_instance ≡ false → is_absent event.uid ≡ false
    → is_some (found_at old event.uid) ≡ false → value.now ≡ event.start
    → ((uid : List ℕ) → found_at new uid ≡ update bytes_eq (found_at old) event.uid (Some value) uid) → Notes old event new
new_noted old new event value series some unknown zone updates uid = by (bytes_eq event.uid uid) refl
  where
    by : (is : Bool) → bytes_eq event.uid uid ≡ is → start_under new uid ≡ option_or (start_under old uid) (series_start uid (event ∷ []))
    by true e =
        let same = same_bytes event.uid uid e in
        let there : found_at new uid ≡ Some value = updates uid ∙ ap (λ (b : Bool). cond b (Some value) (found_at old uid)) e in
        let none : start_under old uid ≡ None = ap (λ (u : List ℕ). texts (found_at old u)) (sym same) ∙ none_texts (found_at old event.uid) unknown in
        let test : (not event.is_instance && not (is_absent uid) && bytes_eq event.uid uid) ≡ true =
        rw e (both event.is_instance uid series (ap is_absent (sym same) ∙ some)) in
        ap texts there ∙ ap Some zone ∙ sym (alone event uid true test) ∙ ap (λ (x : OptionalStart). option_or x (series_start uid (event ∷ []))) (sym none)
    by false e =
        ap texts (updates uid ∙ ap (λ (b : Bool). cond b (Some value) (found_at old uid)) e)
        ∙ not_first old event uid (alone event uid false (rw e (never (not event.is_instance && not (is_absent uid)))))

-- ---- one part more

or_more : (x y z : OptionalStart) → option_or (option_or x y) z ≡ option_or x (option_or y z)
or_more None y z = refl
or_more (Some x) y z = refl

one_more : (uid : List ℕ) (event : EventFacts) (events : List EventFacts)
    → series_start uid (event ∷ events) ≡ option_or (series_start uid (event ∷ [])) (series_start uid events)
one_more uid event events = by (not event.is_instance && not (is_absent uid) && bytes_eq event.uid uid) refl
  where
    by : (is : Bool) → (not event.is_instance && not (is_absent uid) && bytes_eq event.uid uid) ≡ is
        → series_start uid (event ∷ events) ≡ option_or (series_start uid (event ∷ [])) (series_start uid events)
    by true e = rw e refl
    by false e = rw e refl

-- what the events from a part on state
abbrev pub events_from : List Part → ℕ → List EventFacts
events_from parts i = events_in (map part_in (drop i parts))

from-part : (parts : List Part) (i : ℕ) (part : Part) → i < length parts → part ≡ get_or parts i part
    → events_from parts i ≡ with_event part.content (events_from parts (i + 1))
from-part parts i part h e =
    at_drop_more (λ (ps : List Part). events_in (map part_in ps)) parts i part h
    ∙ ap (λ (p : Part). with_event p.content (events_from parts (i + 1))) (sym e)

content_more : (uid : List ℕ) (content : Content) (events : List EventFacts)
    → series_start uid (with_event content events) ≡ option_or (series_start uid (with_event content [])) (series_start uid events)
content_more uid (Event event) events = one_more uid event events
content_more uid Zone events = refl
content_more uid Other events = refl

-- a part that is no event changes nothing
pub other_noted : (old : StartMap) → NotesPart old Other old
other_noted old uid = or_none (start_under old uid)

pub zone_noted : (old : StartMap) → NotesPart old Zone old
zone_noted old uid = or_none (start_under old uid)

pub part-noted : (parts : List Part) (i : ℕ) (part : Part) (old new : StartMap) (all : List ℕ → OptionalStart) → i < length parts → part ≡ get_or parts i part
    → NotesPart old part.content new
    → ((uid : List ℕ) → option_or (start_under old uid) (series_start uid (events_from parts i)) ≡ all uid)
    → (uid : List ℕ) → option_or (start_under new uid) (series_start uid (events_from parts (i + 1))) ≡ all uid
part-noted parts i part old new all h e notes so_far uid =
    let rest = series_start uid (events_from parts (i + 1)) in
    ap (λ (x : OptionalStart). option_or x rest) (notes uid) ∙ or_more (start_under old uid) (series_start uid (with_event part.content [])) rest
    ∙ ap (option_or (start_under old uid)) (sym (content_more uid part.content (events_from parts (i + 1))))
    ∙ ap (λ (es : List EventFacts). option_or (start_under old uid) (series_start uid es)) (sym (from-part parts i part h e)) ∙ so_far uid

-- ---- the start of a series

pub turned : (found : Option EventFacts) (kept : OptionalStart) (event : EventFacts) → kept ≡ option_map (λ (it : EventFacts). it.start) found
    → start_of_series found event ≡ unwrap_or kept event.start
turned None None event e = refl
turned None (Some x) event e = absurd (cc)
turned (Some it) None event e = absurd (cc)
turned (Some it) (Some x) event e = let same : x ≡ it.start = cc in sym same

pub instance_start : (events : List EventFacts) (event : EventFacts) → event.is_instance ≡ true
    → turning_start events event ≡ start_of_series (series_named event.uid events) event
instance_start events event e = ap (λ (b : Bool). if b then start_of_series (series_named event.uid events) event else event.start) e
