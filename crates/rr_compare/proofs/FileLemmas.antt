-- A file of one language is a file of any.
use Rattle.std.proofs.Common.{◌≡◌, Bool, true, false, Err, ap, refl}
use Rattle.std.specs.Prelude.{Result}
use Rattle.rr_lenient.specs.Stated.{series_read, stated_if}
use Rattle.rr_seam.specs.Files.{AnswersCalendar, IsCalendar}
use Rattle.rr_seam.specs.Stated.{AnswersStated, Calendar, Stated}
use Rattle.rr_seam.specs.declared.file.FileFault.{FileFault}
use Rattle.rr_seam.specs.declared.file.FileFault.TheVariants as file_fault
use Rattle.rr_seam.specs.declared.file.FileRefusal.{FileRefusal}
use Rattle.rr_seam.specs.declared.refusal.KeyFault.{KeyFault}
use Rattle.rr_seam.specs.declared.refusal.KeyFault.TheVariants as key_fault
use Rattle.rr_seam.specs.declared.refusal.KeyRefusal.{KeyRefusal}
use Rattle.rr_compare.specs.Calendars.{calendar_read, read_if}

module _ (wanted : Result Calendar FileRefusal) where
  -- the fault of a language's own file is that of the file
  pub fault_as : {F G : Type 0} (f : F → Calendar) (g : G → Calendar) (fault : FileFault) → AnswersCalendar f wanted (Err fault)
      → AnswersCalendar g wanted (Err fault)
  fault_as f g (file_fault.Refused r) h = h
  fault_as f g file_fault.NoMemory h = tt

-- ---- a file that is read leniently or not

module _ (lenient : Bool) where
  -- the calendar that is read
  pub read_so : (wanted : Result Calendar FileRefusal) (c : Calendar) → IsCalendar wanted c → IsCalendar (read_if lenient wanted) (calendar_read lenient c)
  read_so wanted c is = record {
    of_file = calendar_read lenient is.of_file;
    reads = ap (read_if lenient) is.reads;
    keys = is.keys;
    stated = λ indexes. ap (stated_if lenient) (is.stated indexes);
    titles = is.titles;
  }

  -- the fault of its file
  pub fault_so : {F G : Type 0} (f : F → Calendar) (g : G → Calendar) (wanted : Result Calendar FileRefusal) (fault : FileFault)
      → AnswersCalendar f wanted (Err fault) → AnswersCalendar g (read_if lenient wanted) (Err fault)
  fault_so f g wanted (file_fault.Refused r) h = ap (read_if lenient) h
  fault_so f g wanted file_fault.NoMemory h = tt

-- what is refused is refused, however it is read
refused_so : (lenient : Bool) (stated : Stated) (r : KeyRefusal) → stated.series ≡ Err r → (stated_if lenient stated).series ≡ Err r
refused_so true stated r h = ap series_read h
refused_so false stated r h = h

pub not_stated_so : (lenient : Bool) (stated : Stated) (fault : KeyFault) → AnswersStated stated (Err fault) → AnswersStated (stated_if lenient stated) (Err fault)
not_stated_so lenient stated (key_fault.Refused r) h = refused_so lenient stated r h
not_stated_so lenient stated key_fault.NoMemory h = tt

-- words are as they stand, however they are read
pub words_so : (lenient : Bool) (stated : Stated) → (stated_if lenient stated).words ≡ stated.words
words_so true stated = refl
words_so false stated = refl
