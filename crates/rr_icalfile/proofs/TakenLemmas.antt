-- Which events of a key are taken.
use Rattle.std.proofs.Common.{◌≡◌, ℕ, ◌+◌, ◌<◌, length, drop, get_or, Bool, true, false, cond, not, ◌&&◌, ◌||◌, if◌then◌else◌, List, [], ◌∷◌, ◌++◌, map, Option, None, Some, refl, sym, ap, ◌∙◌}
use Rattle.std.proofs.lemmas.List.{append_assoc, drop_more}
use Rattle.rr_model.specs.declared.line.Line.{Line}
use Rattle.rr_seam.specs.Words.{are_same_lines}
use Rattle.rr_icalfile.specs.Event.{event_of}
use Rattle.rr_icalfile.specs.Parts.{lines_of}
use Rattle.rr_icalfile.specs.Taken.{alone_or_beside, first_series, has_two_series, is_series, kept_of, once, series_words, states_again, taken, without_again}
use Rattle.rr_icalfile.specs.Words.{event_words}
use Rattle.rr_icalfile.specs.declared.event.Event.{Event}
use Rattle.rr_icalfile.specs.declared.part.Part.{Part}

-- ---- the events that are kept, one after another

-- what is kept of events behind the first series, or of events none before which is one
abbrev pub kept_behind : Option (List (List ℕ)) → List (List Line) → List (List Line)
kept_behind None texts = once texts
kept_behind (Some words) texts = without_again words texts

kept-next : (first : Option (List (List ℕ))) (lines : List Line) (texts : List (List Line))
    → kept_behind first (lines ∷ texts)
    ≡ kept_of (states_again first (series_words lines)) lines ++ kept_behind (first_series first (series_words lines)) texts
kept-next None lines texts = by (is_series lines)
  where
    by : (b : Bool) → lines ∷ (if b then without_again (event_words lines) texts else once texts)
        ≡ kept_of (states_again None (if b then Some (event_words lines) else None)) lines
        ++ kept_behind (first_series None (if b then Some (event_words lines) else None)) texts
    by true = refl
    by false = refl
kept-next (Some first) lines texts = by (is_series lines)
  where
    same : (s : Bool) → cond (not s) (lines ∷ without_again first texts) (without_again first texts) ≡ kept_of s lines ++ without_again first texts
    same true = refl
    same false = refl

    by : (b : Bool) → cond (not (b && are_same_lines first (event_words lines))) (lines ∷ without_again first texts) (without_again first texts)
        ≡ kept_of (states_again (Some first) (if b then Some (event_words lines) else None)) lines ++ without_again first texts
    by true = same (are_same_lines first (event_words lines))
    by false = refl

-- one event more is looked at
kept_step : (all kept new : List (List Line)) (first : Option (List (List ℕ))) (lines : List Line) (texts : List (List Line))
    → new ≡ kept ++ kept_of (states_again first (series_words lines)) lines → kept ++ kept_behind first (lines ∷ texts) ≡ all
    → new ++ kept_behind (first_series first (series_words lines)) texts ≡ all
kept_step all kept new first lines texts put so_far =
    let here = kept_of (states_again first (series_words lines)) lines in
    let rest = kept_behind (first_series first (series_words lines)) texts in
    ap (λ (xs : List (List Line)). xs ++ rest) put ∙ append_assoc kept here rest
    ∙ ap (λ (xs : List (List Line)). kept ++ xs) (sym (kept-next first lines texts)) ∙ so_far

-- the part of this index is looked at
pub kept_at : (parts : List Part) (i : ℕ) (part : Part) (kept new : List Part) (first words after : Option (List (List ℕ))) (again : Bool) → i < length parts
    → part ≡ get_or parts i part → words ≡ series_words (lines_of part) → again ≡ states_again first words
    → map lines_of new ≡ map lines_of kept ++ kept_of again (lines_of part) → after ≡ first_series first words
    → map lines_of kept ++ kept_behind first (map lines_of (drop i parts)) ≡ once (map lines_of parts)
    → map lines_of new ++ kept_behind after (map lines_of (drop (i + 1) parts)) ≡ once (map lines_of parts)
kept_at parts i part kept new first words after again within is read asked put next so_far =
    let lines = lines_of part in
    let rest = map lines_of (drop (i + 1) parts) in
    let here : map lines_of (drop i parts) ≡ lines ∷ rest = ap (map lines_of) (drop_more parts i part within ∙ ap (λ (p : Part). p ∷ drop (i + 1) parts) (sym is)) in
    let puts : map lines_of new ≡ map lines_of kept ++ kept_of (states_again first (series_words lines)) lines =
    put ∙ ap (λ (b : Bool). map lines_of kept ++ kept_of b lines) (asked ∙ ap (states_again first) read) in
    ap (λ (f : Option (List (List ℕ))). map lines_of new ++ kept_behind f rest) (next ∙ ap (first_series first) read)
    ∙ kept_step (once (map lines_of parts)) (map lines_of kept) (map lines_of new) first lines rest puts
    (ap (λ (ts : List (List Line)). map lines_of kept ++ kept_behind first ts) (sym here) ∙ so_far)

-- ---- a key without two series

none_again : (words : List (List ℕ)) (texts : List (List Line)) → has_two_series true (map event_of texts) ≡ false → without_again words texts ≡ texts
none_again words [] h = refl
none_again words (lines ∷ texts) h = by (is_series lines) (none_again words texts) h
  where
    by : (b : Bool) → (has_two_series true (map event_of texts) ≡ false → without_again words texts ≡ texts)
        → (if b then true || has_two_series true (map event_of texts) else has_two_series true (map event_of texts)) ≡ false
        → cond (not (b && are_same_lines words (event_words lines))) (lines ∷ without_again words texts) (without_again words texts) ≡ lines ∷ texts
    by true more e = absurd (cc)
    by false more e = ap (λ (ts : List (List Line)). lines ∷ ts) (more e)

once_same : (texts : List (List Line)) → has_two_series false (map event_of texts) ≡ false → once texts ≡ texts
once_same [] h = refl
once_same (lines ∷ texts) h = by (is_series lines) (once_same texts) h
  where
    by : (b : Bool) → (has_two_series false (map event_of texts) ≡ false → once texts ≡ texts)
        → (if b then false || has_two_series true (map event_of texts) else has_two_series false (map event_of texts)) ≡ false
        → lines ∷ (if b then without_again (event_words lines) texts else once texts) ≡ lines ∷ texts
    by true more e = ap (λ (ts : List (List Line)). lines ∷ ts) (none_again (event_words lines) texts e)
    by false more e = ap (λ (ts : List (List Line)). lines ∷ ts) (more e)

taken_as_read : (texts : List (List Line)) → has_two_series false (alone_or_beside texts) ≡ false → alone_or_beside texts ≡ taken texts
taken_as_read [] h = refl
taken_as_read (lines ∷ []) h = by (is_series lines)
  where
    by : (b : Bool) → alone_or_beside (lines ∷ []) ≡ alone_or_beside (lines ∷ (if b then without_again (event_words lines) [] else once []))
    by true = refl
    by false = refl
taken_as_read (lines ∷ next ∷ texts) h = ap alone_or_beside (sym (once_same (lines ∷ next ∷ texts) h))

-- events that were read are taken, unless two of them are series
pub taken_by : (texts : List (List Line)) (events : List Event) → events ≡ alone_or_beside texts → has_two_series false events ≡ false → events ≡ taken texts
taken_by texts events is none = is ∙ taken_as_read texts (ap (has_two_series false) (sym is) ∙ none)
