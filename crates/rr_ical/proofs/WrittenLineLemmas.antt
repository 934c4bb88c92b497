-- Lines that are written are the used lines of the event that is read (RFC 5545, sections 3.1 and 3.6).
use Rattle.std.proofs.Common.{◌≡◌, ℕ, Bool, true, false, List, [], ◌∷◌, ◌++◌, length, take, map, None, Some, Result, Ok, refl, ap, ◌∙◌}
use Rattle.std.specs.Prelude.{not, codes}
use Rattle.std.specs.List.{list_all, list_any, AllByRecursion}
use Rattle.std.specs.Str.{is_utf8}
use Rattle.rr_model.specs.Text.Event.{Left, left_with, left_by, no_components, used_line, after_used, scan_from, scan_of, is_bare_text, event_scan}
use Rattle.rr_model.specs.Text.Lines.{physical_lines, begins_blank, unfolded_lines}
use Rattle.rr_model.specs.Text.UsedLines.{is_named, value_of_line, line_kind, trim}
use Rattle.rr_model.specs.Text.Written.{folded_line, lines_of, value_type}
use Rattle.rr_model.specs.declared.kind.Kind.{Kind}
use Rattle.rr_model.specs.declared.kind.Kind.TheVariants.{Days, Moments}
use Rattle.rr_model.specs.declared.line.Line.{Line}
use Rattle.rr_model.specs.declared.refusal.Refusal.{Refusal}
use Rattle.rr_model.specs.declared.used.LineKind.TheVariants.{Property}
use Rattle.rr_model.specs.declared.used.LineName.{LineName}
use Rattle.rr_model.specs.declared.used.LineName.TheVariants.{Dtstart, Rrule, Rdate, Exdate, Exrule}
use Rattle.rr_model.specs.declared.used.UsedLine.{UsedLine}
use Rattle.rr_text.proofs.FoldedLineLemmas.{AreLines, number_after, numbered, folded_lines_unfold}
use Rattle.rr_text.proofs.PlainTextLemmas.{trim-plain, unbroken-plain, folded_lines-utf8}
use Rattle.rr_text.proofs.WrittenByteLemmas.{is_line_byte, list_all-both}

-- a written line: its text, and the name and the value that it has
pub record WrittenLine : Type 0 where
  pub text : List ℕ
  pub name : LineName
  pub value : List ℕ

-- it states this property, and begins no component
pub record StatesProperty (line : WrittenLine) : Type 0 where
  pub kind : line_kind line.text ≡ Property line.name
  pub stated : value_of_line line.text ≡ Some line.value
  pub no_begin : is_named line.text (codes "BEGIN") ≡ false

-- it does so, can be folded and unfolded, and has only bytes of a line
pub record IsPropertyLine (line : WrittenLine) : Type 0 where
  pub states : StatesProperty line
  pub no_blank : begins_blank (take 75 line.text) ≡ false
  pub bytes : list_all is_line_byte line.text ≡ true

abbrev pub texts_of : List WrittenLine → List (List ℕ)
texts_of lines = map (λ (l : WrittenLine). l.text) lines

-- ---- the scan

left_by-property : (k : ℕ) (l : WrittenLine) → StatesProperty l
    → left_by true no_components (record { number = k; text = l.text }) ≡ Ok (left_with no_components (Some (used_line k l.name l.value)))
unfolding left_by
left_by-property k l h = rw (h.kind, h.stated) refl

-- Each x is written as a line, and `after` gives the number that comes after that of a line with this text.
module _ {X : Type 0} (line_of : X → WrittenLine) (after : ℕ → List ℕ → ℕ) where
  -- the lines of a text, the first of this number
  abbrev pub lines_from : ℕ → List X → List Line
  lines_from k [] = []
  lines_from k (x ∷ xs) = record { number = k; text = (line_of x).text } ∷ lines_from (after k (line_of x).text) xs

  -- the used lines that they are
  abbrev pub used_lines_from : ℕ → List X → List UsedLine
  used_lines_from k [] = []
  used_lines_from k (x ∷ xs) = used_line k (line_of x).name (line_of x).value ∷ used_lines_from (after k (line_of x).text) xs

  module _ (P : X → Type 0) (states : (x : X) → P x → StatesProperty (line_of x)) where
    scanned-written : (k last : ℕ) (xs : List X) → AllByRecursion P xs
        → scan_of true last no_components (lines_from k xs) ≡ record { used = used_lines_from k xs; stop = None }
    scanned-written k last [] h = refl
    scanned-written k last (x ∷ xs) h =
        ap (λ (m : Result Left Refusal). scan_from m (λ next. scan_of true last next (lines_from (after k (line_of x).text) xs)))
        (left_by-property k (line_of x) (states x h.0))
        ∙ ap (after_used (Some (used_line k (line_of x).name (line_of x).value))) (scanned-written (after k (line_of x).text) last xs h.1)

    no_begins : (k : ℕ) (xs : List X) → AllByRecursion P xs
        → list_any (λ (l : Line). is_named l.text (codes "BEGIN")) (lines_from k xs) ≡ false
    no_begins k [] h = refl
    no_begins k (x ∷ xs) h =
        let is = states x h.0 in
        rw is.no_begin (no_begins (after k (line_of x).text) xs h.1)

    -- if these are the lines of a text, all are used, and nothing stops their reading
    pub event_scan-written : (keeps_blank : Bool) (bytes : List ℕ) (xs : List X) → unfolded_lines keeps_blank bytes ≡ lines_from 1 xs → AllByRecursion P xs
        → event_scan keeps_blank bytes ≡ record { used = used_lines_from 1 xs; stop = None }
    unfolding event_scan
    event_scan-written keeps_blank bytes xs e h =
        ap (λ (ls : List Line). scan_of (is_bare_text ls) (length (physical_lines bytes)) no_components ls) e
        ∙ ap (λ b. scan_of (not b) (length (physical_lines bytes)) no_components (lines_from 1 xs)) (no_begins 1 xs h)
        ∙ scanned-written 1 (length (physical_lines bytes)) xs h

-- ---- folded lines

-- the used lines that folded lines are, the first of this number
abbrev pub used_from : ℕ → List WrittenLine → List UsedLine
used_from k lines = used_lines_from (λ (l : WrittenLine). l) number_after k lines

-- the number of the line after them
abbrev pub number_behind : ℕ → List WrittenLine → ℕ
number_behind k [] = k
number_behind k (l ∷ ls) = number_behind (number_after k l.text) ls

pub used_from-append : (k : ℕ) (ls ms : List WrittenLine) → used_from k (ls ++ ms) ≡ used_from k ls ++ used_from (number_behind k ls) ms
used_from-append k [] ms = refl
used_from-append k (l ∷ ls) ms = ap (λ (us : List UsedLine). used_line k l.name l.value ∷ us) (used_from-append (number_after k l.text) ls ms)

numbered-texts : (k : ℕ) (lines : List WrittenLine) → numbered k (texts_of lines) ≡ lines_from (λ (l : WrittenLine). l) number_after k lines
numbered-texts k [] = refl
numbered-texts k (l ∷ ls) = ap (λ (rest : List Line). record { number = k; text = l.text } ∷ rest) (numbered-texts (number_after k l.text) ls)

are_lines : (lines : List WrittenLine) → AllByRecursion IsPropertyLine lines → AreLines (texts_of lines)
are_lines [] h = tt
are_lines (l ∷ ls) h = (unbroken-plain l.text h.0.bytes, h.0.no_blank, are_lines ls h.1)

-- Lines that are folded and written one after the other are all used, and nothing stops their reading.
pub event_scan-folded : (lines : List WrittenLine) → AllByRecursion IsPropertyLine lines
    → event_scan false (lines_of folded_line (texts_of lines)) ≡ record { used = used_from 1 lines; stop = None }
event_scan-folded lines h =
    event_scan-written (λ (l : WrittenLine). l) number_after IsPropertyLine (λ l is. is.states) false (lines_of folded_line (texts_of lines)) lines
    (folded_lines_unfold (texts_of lines) (are_lines lines h) ∙ numbered-texts 1 lines) h

all_bytes : (lines : List WrittenLine) → AllByRecursion IsPropertyLine lines
    → AllByRecursion (λ (t : List ℕ). list_all is_line_byte t ≡ true) (texts_of lines)
all_bytes [] h = tt
all_bytes (l ∷ ls) h = (h.0.bytes, all_bytes ls h.1)

-- and they are UTF-8
pub written_lines-utf8 : (lines : List WrittenLine) → AllByRecursion IsPropertyLine lines → is_utf8 (lines_of folded_line (texts_of lines)) ≡ true
written_lines-utf8 lines h = folded_lines-utf8 (texts_of lines) (all_bytes lines h)

-- ---- what stands before a value

-- a line that begins so has this name, and what follows is its value
pub record IsFront (front : List ℕ) (name : LineName) : Type 0 where
  pub kind : (value : List ℕ) → line_kind (front ++ value) ≡ Property name
  pub stated : (value : List ℕ) → value_of_line (front ++ value) ≡ Some (trim value)
  pub no_begin : (value : List ℕ) → is_named (front ++ value) (codes "BEGIN") ≡ false
  pub no_blank : (value : List ℕ) → begins_blank (take 75 (front ++ value)) ≡ false
  pub bytes : list_all is_line_byte front ≡ true

pub IsPropertyLine-from : (front value : List ℕ) (name : LineName) → IsFront front name → list_all is_line_byte value ≡ true
    → IsPropertyLine (record { text = front ++ value; name = name; value = value })
IsPropertyLine-from front value name f plain = record {
  states = record { kind = f.kind value; stated = f.stated value ∙ ap Some (trim-plain value plain); no_begin = f.no_begin value };
  no_blank = f.no_blank value;
  bytes = list_all-both is_line_byte front value f.bytes plain;
}

-- a date's line, which says so if it is of whole days
abbrev pub date_front : List ℕ → Kind → List ℕ
date_front word kind = word ++ value_type kind ++ codes ":"

pub start_front : (kind : Kind) → IsFront (date_front (codes "DTSTART") kind) Dtstart
unfolding line_kind value_of_line
start_front Days = record { kind = λ v. refl; stated = λ v. refl; no_begin = λ v. refl; no_blank = λ v. refl; bytes = refl }
start_front Moments = record { kind = λ v. refl; stated = λ v. refl; no_begin = λ v. refl; no_blank = λ v. refl; bytes = refl }

pub plus_front : (kind : Kind) → IsFront (date_front (codes "RDATE") kind) Rdate
unfolding line_kind value_of_line
plus_front Days = record { kind = λ v. refl; stated = λ v. refl; no_begin = λ v. refl; no_blank = λ v. refl; bytes = refl }
plus_front Moments = record { kind = λ v. refl; stated = λ v. refl; no_begin = λ v. refl; no_blank = λ v. refl; bytes = refl }

pub minus_front : (kind : Kind) → IsFront (date_front (codes "EXDATE") kind) Exdate
unfolding line_kind value_of_line
minus_front Days = record { kind = λ v. refl; stated = λ v. refl; no_begin = λ v. refl; no_blank = λ v. refl; bytes = refl }
minus_front Moments = record { kind = λ v. refl; stated = λ v. refl; no_begin = λ v. refl; no_blank = λ v. refl; bytes = refl }

pub rule_front : IsFront (codes "RRULE:") Rrule
unfolding line_kind value_of_line
rule_front = record { kind = λ v. refl; stated = λ v. refl; no_begin = λ v. refl; no_blank = λ v. refl; bytes = refl }

pub excluded_rule_front : IsFront (codes "EXRULE:") Exrule
unfolding line_kind value_of_line
excluded_rule_front = record { kind = λ v. refl; stated = λ v. refl; no_begin = λ v. refl; no_blank = λ v. refl; bytes = refl }
