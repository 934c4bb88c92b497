-- The answer to a file; no piece of a text has a number past its bytes.
use Rattle.std.proofs.Common.{◌≡◌, ℕ, zero, suc, ◌<◌, ◌^◌, ℤ, Bool, true, false, cond, List, [], ◌∷◌, length, take, drop, map, get_or}
use Rattle.std.proofs.Common.{nat_lt, Option, Result, Ok, Err, sym, refl, ap, ◌∙◌, arith}
use Rattle.std.specs.Prelude.{IfOk}
use Rattle.std.specs.List.{All}
use Rattle.std.proofs.lemmas.List.Elements.{All-weaker}
use Rattle.rr_model.specs.Text.Lines.{without_mark}
use Rattle.rr_model.specs.declared.refusal.Fault.{Fault}
use Rattle.rr_model.specs.declared.refusal.Fault.TheVariants as fault
use Rattle.rr_events.specs.Begin.{has_begin}
use Rattle.rr_events.specs.Events.{events_of}
use Rattle.rr_events.specs.Finding.{IsFound, IsPlaced, lines_in}
use Rattle.rr_events.specs.declared.find.Piece.{Piece}
use Rattle.rr_seam.specs.Files.{AnswersCalendar, IsCalendar}
use Rattle.rr_seam.specs.declared.key.Key.{Key}
use Rattle.rr_seam.specs.declared.file.FileFault.{FileFault}
use Rattle.rr_seam.specs.declared.file.FileFault.TheVariants as file
use Rattle.rr_icalfile.specs.Calendar.{calendar, calendar_by_events, calendar_in, calendar_of}
use Rattle.rr_icalfile.specs.Files.{AnswersFile, IsNumberedPiece, events_or_refusal, file_events, file_fault, text_events}
use Rattle.rr_icalfile.specs.Keys.{key_of}
use Rattle.rr_seam.specs.declared.file.FileRefusal.TheVariants.{NoEvents, TooLong}
use Rattle.rr_seam.specs.declared.file.TheConstants.{MAX_FILE}

pub numbered : (text : List ℕ) (pieces : List Piece) → length text < 2 ^ 62 → All (IsPlaced text) pieces → All IsNumberedPiece pieces
numbered text pieces short all = All-weaker (IsPlaced text) IsNumberedPiece (λ piece h. omega arith) pieces all

-- ---- the answer to a file

pub too_long : (bytes : List ℕ) → nat_lt MAX_FILE (length bytes) ≡ true → file_events bytes ≡ Err TooLong
too_long bytes e = ap (λ b. cond b (Err TooLong) (text_events (without_mark bytes))) e

short_enough : (bytes : List ℕ) → nat_lt MAX_FILE (length bytes) ≡ false → file_events bytes ≡ text_events (without_mark bytes)
short_enough bytes e = ap (λ b. cond b (Err TooLong) (text_events (without_mark bytes))) e

pub no_events : (bytes text : List ℕ) → text ≡ without_mark bytes → nat_lt MAX_FILE (length bytes) ≡ false → has_begin text ≡ false
    → file_events bytes ≡ Err NoEvents
no_events bytes text is e none =
    short_enough bytes e ∙ ap text_events (sym is) ∙ ap (λ b. cond b (events_or_refusal (events_of text)) (Err NoEvents)) none

events_by : (bytes text : List ℕ) → text ≡ without_mark bytes → nat_lt MAX_FILE (length bytes) ≡ false → has_begin text ≡ true
    → file_events bytes ≡ events_or_refusal (events_of text)
events_by bytes text is e some =
    short_enough bytes e ∙ ap text_events (sym is) ∙ ap (λ b. cond b (events_or_refusal (events_of text)) (Err NoEvents)) some

pub events_found : (bytes text : List ℕ) (pieces : List Piece) → text ≡ without_mark bytes → nat_lt MAX_FILE (length bytes) ≡ false → has_begin text ≡ true
    → events_of text ≡ Ok (map lines_in pieces) → file_events bytes ≡ Ok (map lines_in pieces)
events_found bytes text pieces is e some found = events_by bytes text is e some ∙ ap events_or_refusal found

pub fault_found : (bytes text : List ℕ) (f : Fault) → text ≡ without_mark bytes → nat_lt MAX_FILE (length bytes) ≡ false → has_begin text ≡ true
    → IsFound text (Err f) → AnswersFile bytes (Err (file_fault f))
fault_found bytes text (fault.Refused r) is e some found = events_by bytes text is e some ∙ ap events_or_refusal found
fault_found bytes text fault.NoMemory is e some found = tt

-- ---- the calendar of a file

pub calendar_read : (offset : Option ℤ) (lenient : Bool) (bytes : List ℕ) (pieces : List Piece) → file_events bytes ≡ Ok (map lines_in pieces)
    → IsCalendar (calendar offset lenient bytes) (calendar_of offset lenient (map lines_in pieces))
calendar_read offset lenient bytes pieces h = record {
  of_file = calendar_of offset lenient (map lines_in pieces);
  reads = ap (calendar_by_events offset lenient) h;
  keys = refl;
  stated = λ indexes. refl;
  titles = λ index. refl;
}

pub calendar_refused : (offset : Option ℤ) (lenient : Bool) (bytes : List ℕ) (f : FileFault) → AnswersFile bytes (Err f)
    → AnswersCalendar calendar_in (calendar offset lenient bytes) (Err f)
calendar_refused offset lenient bytes (file.Refused r) h = ap (calendar_by_events offset lenient) h
calendar_refused offset lenient bytes file.NoMemory h = tt

-- the key of the event of an index
pub key-there : (pieces : List Piece) (index : ℕ) (d : Piece) → index < length pieces
    → take 1 (drop index (map key_of (map lines_in pieces))) ≡ key_of (lines_in (get_or pieces index d)) ∷ []
key-there [] index d h = absurd (omega (arith, h))
key-there (p ∷ ps) zero d h = refl
key-there (p ∷ ps) (suc n) d h = key-there ps n d (omega (arith, h))

pub key-put : {E : Type 0} (pieces : List Piece) (index : ℕ) (d : Piece) (r : Result Key E) → index < length pieces
    → IfOk r (λ key. key ≡ key_of (lines_in (get_or pieces index d)))
    → IfOk r (λ key. take 1 (drop index (map key_of (map lines_in pieces))) ≡ key ∷ [])
key-put pieces index d (Ok key) within h = key-there pieces index d within ∙ ap (λ (k : Key). k ∷ []) (sym h)
key-put pieces index d (Err e) within h = tt
