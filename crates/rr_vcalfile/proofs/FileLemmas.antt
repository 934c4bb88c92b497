-- The calendar of a file.
use Rattle.std.proofs.Common.{◌≡◌, ℕ, ℤ, List, length, nat_lt, map, Bool, true, false, cond, Option, Ok, Err, refl, sym, ap, ◌∙◌}
use Rattle.rr_model.specs.Text.Lines.{without_mark}
use Rattle.rr_seam.specs.Files.{AnswersCalendar}
use Rattle.rr_seam.specs.declared.file.FileFault.{FileFault}
use Rattle.rr_seam.specs.declared.file.FileFault.TheVariants.{Refused, NoMemory}
use Rattle.rr_seam.specs.declared.file.FileRefusal.TheVariants.{TooLong}
use Rattle.rr_seam.specs.declared.file.TheConstants.{MAX_FILE}
use Rattle.rr_vcalfile.specs.Events.{file_events, text_events}
use Rattle.rr_vcalfile.specs.Files.{calendar, calendar_in, calendar_or}
use Rattle.rr_vcalfile.specs.Parts.{AnswersEvents, lines_in}
use Rattle.rr_vcalfile.specs.Stated.{calendar_of, key_of, stated_in}
use Rattle.rr_vcalfile.specs.declared.file.VcalFile.{VcalFile}

pub too_long : (bytes : List ℕ) → nat_lt MAX_FILE (length bytes) ≡ true → file_events bytes ≡ Err TooLong
too_long bytes e = ap (λ (b : Bool). cond b (Err TooLong) (text_events (without_mark bytes))) e

pub short_enough : (bytes text : List ℕ) → text ≡ without_mark bytes → nat_lt MAX_FILE (length bytes) ≡ false → text_events text ≡ file_events bytes
short_enough bytes text is e = ap text_events is ∙ sym (ap (λ (b : Bool). cond b (Err TooLong) (text_events (without_mark bytes))) e)

pub calendar_read : (offset : Option ℤ) (bytes : List ℕ) (file : VcalFile) → file.offset ≡ offset → file_events bytes ≡ Ok (map lines_in file.parts.items)
    → file.keys.items ≡ map key_of (map lines_in file.parts.items) → AnswersCalendar calendar_in (calendar offset bytes) (Ok file)
calendar_read offset bytes file is reads keys = record {
  of_file = calendar_of offset (map lines_in file.parts.items);
  reads = ap (calendar_or offset) reads;
  keys = keys;
  stated = λ indexes. ap (λ (o : Option ℤ). stated_in o (map lines_in file.parts.items) indexes) is;
  titles = λ index. refl;
}

pub calendar_refused : (offset : Option ℤ) (bytes : List ℕ) (fault : FileFault) → AnswersEvents (file_events bytes) (Err fault)
    → AnswersCalendar calendar_in (calendar offset bytes) (Err fault)
calendar_refused offset bytes (Refused r) h = ap (calendar_or offset) h
calendar_refused offset bytes NoMemory h = tt
