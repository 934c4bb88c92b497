-- Lines that are written are the used lines of the event that is read (vCalendar 1.0, sections 2.1.1 and 2.1.3).
use Rattle.std.proofs.Common.{◌≡◌, ℕ, ◌+◌, true, false, List, [], ◌∷◌, ◌++◌, reverse, map, Some, None}
use Rattle.std.proofs.Common.{refl, sym, ap, ◌∙◌, append_assoc, append-nil}
use Rattle.std.specs.Prelude.{codes}
use Rattle.std.specs.List.{list_all, AllByRecursion}
use Rattle.rr_model.specs.Text.Event.{event_scan}
use Rattle.rr_model.specs.Text.Lines.{physical_lines, begins_blank, with_physical_line, with_physical_lines, unfolded_lines}
use Rattle.rr_model.specs.Text.UsedLines.{is_named, trim, value_of_line, line_kind}
use Rattle.rr_model.specs.Text.Written.{line_break, lines_of}
use Rattle.rr_model.specs.Vcal.Written.{vcal_line}
use Rattle.rr_model.specs.declared.line.Line.{Line}
use Rattle.rr_model.specs.declared.used.LineKind.TheVariants.{Property}
use Rattle.rr_model.specs.declared.used.LineName.{LineName}
use Rattle.rr_model.specs.declared.used.LineName.TheVariants.{Dtstart, Rrule, Rdate, Exdate, Exrule}
use Rattle.rr_model.specs.declared.used.UsedLine.{UsedLine}
use Rattle.rr_ical.proofs.WrittenLineLemmas.{WrittenLine as LineWithText, StatesProperty, lines_from, used_lines_from, event_scan-written}
use Rattle.rr_text.proofs.FoldedLineLemmas.{IsUnbroken, line_ends}
use Rattle.rr_text.proofs.WrittenByteLemmas.{list_all-weaker, list_all-both}
use Rattle.rr_vcal.proofs.TrimLemmas.{IsSolid, trimmed_start, trimmed_end, begins-solid, ends-solid, present}
use Rattle.rr_vcal.proofs.ByteLemmas.{is_written, is_solid, written-solid, unbroken-written}

-- a written line: its name and its value
pub record WrittenLine : Type 0 where
  pub name : LineName
  pub value : List ℕ

-- a name as it is written
unfoldable pub name_text : LineName → List ℕ
name_text Dtstart = codes "DTSTART"
name_text Rrule = codes "RRULE"
name_text Rdate = codes "RDATE"
name_text Exdate = codes "EXDATE"
name_text Exrule = codes "EXRULE"

-- the line, without and with its end
abbrev pub line_text : WrittenLine → List ℕ
line_text l = name_text l.name ++ codes ":" ++ l.value

abbrev pub written_line : WrittenLine → List ℕ
written_line l = vcal_line (name_text l.name) l.value

-- a value without line breaks, and without blanks around it
pub record IsValue (text : List ℕ) : Type 0 where
  pub written : list_all is_written text ≡ true
  pub begins : begins_blank text ≡ false
  pub ends : begins_blank (reverse text) ≡ false

pub value-trimmed : (text : List ℕ) → IsValue text → trim text ≡ text
value-trimmed text h = rw (trimmed_start text h.begins) (trimmed_end text h.ends)

pub value-solid : (text : List ℕ) → IsSolid text → IsValue text
value-solid text h = record {
  written = list_all-weaker is_solid is_written written-solid text h.1;
  begins = ap begins_blank (sym (append-nil text)) ∙ begins-solid text [] (present text h.0) h.1;
  ends = ends-solid [] text h;
}

abbrev pub HaveValues : List WrittenLine → Type 0
HaveValues lines = AllByRecursion (λ (l : WrittenLine). IsValue l.value) lines

-- ---- one line

line_kind-written : (name : LineName) (value : List ℕ) → line_kind (name_text name ++ codes ":" ++ value) ≡ Property name
unfolding name_text line_kind
line_kind-written Dtstart value = refl
line_kind-written Rrule value = refl
line_kind-written Rdate value = refl
line_kind-written Exdate value = refl
line_kind-written Exrule value = refl

no_begin : (name : LineName) (value : List ℕ) → is_named (name_text name ++ codes ":" ++ value) (codes "BEGIN") ≡ false
unfolding name_text
no_begin Dtstart value = refl
no_begin Rrule value = refl
no_begin Rdate value = refl
no_begin Exdate value = refl
no_begin Exrule value = refl

value-written : (name : LineName) (value : List ℕ) → value_of_line (name_text name ++ codes ":" ++ value) ≡ Some (trim value)
unfolding name_text value_of_line
value-written Dtstart value = refl
value-written Rrule value = refl
value-written Rdate value = refl
value-written Exdate value = refl
value-written Exrule value = refl

no_blank-before : (name : LineName) (value : List ℕ) → begins_blank (name_text name ++ codes ":" ++ value) ≡ false
unfolding name_text
no_blank-before Dtstart value = refl
no_blank-before Rrule value = refl
no_blank-before Rdate value = refl
no_blank-before Exdate value = refl
no_blank-before Exrule value = refl

name-written : (name : LineName) → list_all is_written (name_text name ++ codes ":") ≡ true
unfolding name_text
name-written Dtstart = refl
name-written Rrule = refl
name-written Rdate = refl
name-written Exdate = refl
name-written Exrule = refl

line-unbroken : (l : WrittenLine) → IsValue l.value → IsUnbroken (line_text l)
line-unbroken l h =
    unbroken-written (line_text l) (list_all-both is_written (name_text l.name ++ codes ":") l.value (name-written l.name) h.written)

-- ---- the lines of a text

physical-written : (lines : List WrittenLine) → HaveValues lines → physical_lines (lines_of written_line lines) ≡ map line_text lines
unfolding physical_lines
physical-written [] h = refl
physical-written (l ∷ ls) h =
    ap physical_lines (append_assoc (line_text l) line_break (lines_of written_line ls))
    ∙ line_ends (line_text l) (lines_of written_line ls) (line-unbroken l h.0)
    ∙ ap (λ (ts : List (List ℕ)). line_text l ∷ ts) (physical-written ls h.1)

-- the line with its text
abbrev pub with_text : WrittenLine → LineWithText
with_text l = record { text = line_text l; name = l.name; value = l.value }

-- the number of the next line: each is one physical line
abbrev pub next_number : ℕ → List ℕ → ℕ
next_number k text = k + 1

-- the lines, and the used lines that they are, the first of this number
abbrev numbered : ℕ → List WrittenLine → List Line
numbered k lines = lines_from with_text next_number k lines

abbrev pub used_from : ℕ → List WrittenLine → List UsedLine
used_from k lines = used_lines_from with_text next_number k lines

one_more : (k : ℕ) (done : List Line) (text : List ℕ) → begins_blank text ≡ false
    → with_physical_line true k done text ≡ done ++ record { number = k; text = text } ∷ []
one_more k done text h = rw h refl

unfolded-written : (k : ℕ) (done : List Line) (lines : List WrittenLine) → with_physical_lines true k done (map line_text lines) ≡ done ++ numbered k lines
unfolded-written k done [] = sym (append-nil done)
unfolded-written k done (l ∷ ls) =
    ap (λ (ds : List Line). with_physical_lines true (k + 1) ds (map line_text ls)) (one_more k done (line_text l) (no_blank-before l.name l.value))
    ∙ unfolded-written (k + 1) (done ++ record { number = k; text = line_text l } ∷ []) ls
    ∙ append_assoc done (record { number = k; text = line_text l } ∷ []) (numbered (k + 1) ls)

lines-written : (lines : List WrittenLine) → HaveValues lines → unfolded_lines true (lines_of written_line lines) ≡ numbered 1 lines
unfolding unfolded_lines
lines-written lines h = ap (with_physical_lines true 1 []) (physical-written lines h) ∙ unfolded-written 1 [] lines

-- ---- the scan

line-states : (l : WrittenLine) → IsValue l.value → StatesProperty (with_text l)
line-states l h = record {
  kind = line_kind-written l.name l.value;
  stated = value-written l.name l.value ∙ ap Some (value-trimmed l.value h);
  no_begin = no_begin l.name l.value;
}

-- Lines that are written one after the other are all used, and nothing stops their reading.
pub event_scan-unfolded : (lines : List WrittenLine) → HaveValues lines
    → event_scan true (lines_of written_line lines) ≡ record { used = used_from 1 lines; stop = None }
event_scan-unfolded lines h =
    event_scan-written with_text next_number (λ (l : WrittenLine). IsValue l.value) line-states true (lines_of written_line lines) lines
    (lines-written lines h) h
