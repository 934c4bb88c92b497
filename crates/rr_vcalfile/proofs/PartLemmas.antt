-- The lines of an event are those of its part of the text.
use Rattle.std.proofs.Common.{◌≡◌, ℕ, ◌+◌, ◌==◌, ◌&&◌, not, Bool, true, false, if◌then◌else◌, List, [], ◌∷◌, ◌++◌, length, map, refl, sym, ap, ◌∙◌}
use Rattle.std.specs.List.{onto_first}
use Rattle.std.proofs.lemmas.List.{map-append}
use Rattle.rr_model.specs.Rule.Validity.{is_absent}
use Rattle.rr_model.specs.Text.Lines.{begins_blank, continuation, onto_last, physical_lines, with_physical_line, with_physical_lines}
use Rattle.rr_model.specs.declared.line.Line.{Line}
use Rattle.rr_events.specs.Cutting.{raw_texts}
use Rattle.rr_events.specs.RawLines.{bytes_of, first_line, raw_lines_at, raw_lines_from}
use Rattle.rr_events.specs.Segments.{Section, section_in}
use Rattle.rr_events.specs.declared.segment.Segment.{Segment}
use Rattle.rr_vcalfile.specs.Events.{events_in, kept_lines, lines_of_event}
use Rattle.rr_vcalfile.specs.Parts.{lines_in}
use Rattle.rr_vcalfile.specs.declared.part.Part.{Part}

-- ---- the bytes of the lines of a text are the text

abbrev joined : List (List ℕ) → List ℕ
joined [] = []
joined (bytes ∷ more) = bytes ++ joined more

onto-joined : (b : ℕ) (texts : List (List ℕ)) → joined (onto_first b texts) ≡ b ∷ joined texts
onto-joined b [] = refl
onto-joined b (bytes ∷ more) = refl

texts-by : (ends : Bool) (b : ℕ) (bs : List ℕ) → joined (raw_texts bs) ≡ bs → joined (if ends then (b ∷ []) ∷ raw_texts bs else onto_first b (raw_texts bs)) ≡ b ∷ bs
texts-by true b bs e = ap (λ (t : List ℕ). b ∷ t) e
texts-by false b bs e = onto-joined b (raw_texts bs) ∙ ap (λ (t : List ℕ). b ∷ t) e

texts-joined : (text : List ℕ) → joined (raw_texts text) ≡ text
texts-joined [] = refl
texts-joined (b ∷ bs) = texts-by ((b == 10) && not (begins_blank bs)) b bs (texts-joined bs)

bytes-joined : (number : ℕ) (texts : List (List ℕ)) → bytes_of (raw_lines_from number texts) ≡ joined texts
bytes-joined number [] = refl
bytes-joined number (bytes ∷ more) = ap (λ (t : List ℕ). bytes ++ t) (bytes-joined (number + length (physical_lines bytes)) more)

-- ---- the first of its lines has the first number

-- lines of which the first has this number
record Begins (number : ℕ) (lines : List Line) : Type 0 where
  pub line : Line
  pub others : List Line
  pub is : lines ≡ line ∷ others
  pub numbered : line.number ≡ number

onto-begins : (number : ℕ) (line : Line) (others : List Line) (text : List ℕ) → line.number ≡ number → Begins number (onto_last (line ∷ others) text)
onto-begins number line [] text e = record { line = record { number = line.number; text = line.text ++ text }; others = []; is = refl; numbered = e }
onto-begins number line (next ∷ lines) text e = record { line = line; others = onto_last (next ∷ lines) text; is = refl; numbered = e }

more-begins : (number at : ℕ) (line : Line) (others : List Line) (text : List ℕ) → line.number ≡ number
    → Begins number (with_physical_line false at (line ∷ others) text)
more-begins number at line others text e = by (begins_blank text && not (is_absent (line ∷ others)))
  where
    by : (b : Bool) → Begins number (if b then onto_last (line ∷ others) (continuation false text) else (line ∷ others) ++ record { number = at; text = text } ∷ [])
    by true = onto-begins number line others (continuation false text) e
    by false = record { line = line; others = others ++ record { number = at; text = text } ∷ []; is = refl; numbered = e }

all-begin : (number at other : ℕ) (line : Line) (others : List Line) (texts : List (List ℕ)) → line.number ≡ number
    → (first_line other (with_physical_lines false at (line ∷ others) texts)).number ≡ number
all-begin number at other line others [] e = e
all-begin number at other line others (text ∷ texts) e =
    let more = more-begins number at line others text e in
    ap (λ (lines : List Line). (first_line other (with_physical_lines false (at + 1) lines texts)).number) more.is
    ∙ all-begin number (at + 1) other more.line more.others texts more.numbered

first-begins : (number : ℕ) (texts : List (List ℕ)) → (first_line number (with_physical_lines false number [] texts)).number ≡ number
first-begins number [] = refl
first-begins number (text ∷ texts) = by (begins_blank text)
  where
    by : (b : Bool)
        → (first_line number (with_physical_lines false (number + 1)
        (if b && false then onto_last [] (continuation false text) else [] ++ record { number = number; text = text } ∷ []) texts)).number ≡ number
    by true = all-begin number (number + 1) number (record { number = number; text = text }) [] texts refl
    by false = all-begin number (number + 1) number (record { number = number; text = text }) [] texts refl

-- ---- the lines of an event

none-kept : (number at : ℕ) → kept_lines number [] ≡ kept_lines at []
unfolding physical_lines
none-kept number at = refl

kept-by : (number : ℕ) (text : List ℕ) (texts : List (List ℕ)) → joined texts ≡ text → lines_of_event (raw_lines_from number texts) ≡ kept_lines number text
kept-by number text [] e = none-kept 0 number ∙ ap (kept_lines number) e
kept-by number text (bytes ∷ more) e =
    ap (λ (n : ℕ). kept_lines n (bytes_of (raw_lines_from number (bytes ∷ more)))) (first-begins number (physical_lines bytes))
    ∙ ap (kept_lines number) (bytes-joined number (bytes ∷ more) ∙ e)

pub lines_kept : (number : ℕ) (text : List ℕ) → lines_of_event (raw_lines_at number text) ≡ kept_lines number text
lines_kept number text = kept-by number text (raw_texts text) (texts-joined text)

-- ---- the events among segments

pub component-event : (segment : Segment) → segment.is_component ≡ true
    → events_in (section_in segment ∷ []) ≡ kept_lines segment.piece.first segment.piece.text.now ∷ []
component-event segment e =
    ap (λ (b : Bool). if b then lines_of_event (raw_lines_at segment.piece.first segment.piece.text.now) ∷ [] else []) e
    ∙ ap (λ (lines : List Line). lines ∷ []) (lines_kept segment.piece.first segment.piece.text.now)

-- a segment that is an event is put
pub event-put : (old new : List Part) (part : Part) (segment : Segment) → new ≡ old ++ part ∷ []
    → lines_in part ≡ kept_lines segment.piece.first segment.piece.text.now → segment.is_component ≡ true
    → map lines_in new ≡ map lines_in old ++ events_in (section_in segment ∷ [])
event-put old new part segment e same is =
    ap (map lines_in) e ∙ map-append lines_in old (part ∷ [])
    ∙ ap (λ (lines : List Line). map lines_in old ++ lines ∷ []) same
    ∙ ap (λ (events : List (List Line)). map lines_in old ++ events) (sym (component-event segment is))

pub no-event : (segment : Segment) → segment.is_component ≡ false → events_in (section_in segment ∷ []) ≡ []
no-event segment e = ap (λ (b : Bool). if b then lines_of_event (raw_lines_at segment.piece.first segment.piece.text.now) ∷ [] else []) e

pub more-events : (section : Section) (sections : List Section) → events_in (section ∷ sections) ≡ events_in (section ∷ []) ++ events_in sections
more-events section sections = by section.is_component
  where
    by : (b : Bool) → (if b then lines_of_event section.lines ∷ events_in sections else events_in sections)
        ≡ (if b then lines_of_event section.lines ∷ [] else []) ++ events_in sections
    by true = refl
    by false = refl
