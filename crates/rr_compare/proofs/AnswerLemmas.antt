-- What is answered over two files.
use Rattle.std.proofs.Common.{◌≡◌, ℕ, ℤ, List, Option, Some, None, Ok, Err, ap, sym, subst, ◌∙◌}
use Rattle.std.specs.Prelude.{Result}
use Rattle.rr_model.specs.declared.verdict.Side.TheVariants.{A, B}
use Rattle.rr_seam.specs.Files.{AnswersCalendar, IsCalendar}
use Rattle.rr_seam.specs.Stated.{Calendar}
use Rattle.rr_seam.specs.declared.file.FileFault.{FileFault}
use Rattle.rr_seam.specs.declared.file.FileFault.TheVariants as file_fault
use Rattle.rr_seam.specs.declared.file.FileRefusal.{FileRefusal}
use Rattle.rr_facts.specs.Facts.{Facts}
use Rattle.rr_compare.specs.Answer.{Answer, IsCompared, IsComparedWith, IsFaultAnswer, IsNamed, IsOfBoth, IsReported}
use Rattle.rr_trip.specs.Zoned.{ZonedCalendar, zoned}
use Rattle.rr_compare.specs.Calendars.{calendar_in, with_meaning}
use Rattle.rr_compare.specs.Words.{Request}
use Rattle.rr_compare.specs.declared.file.ReadFile.{ReadFile}

-- ---- a file that is read

-- two calendars with the same keys, whose events state the same and have the same titles, are one
same_calendar : (c d : Calendar) → c.keys ≡ d.keys → ((indexes : List ℕ) → c.stated indexes ≡ d.stated indexes)
    → ((index : ℕ) → c.titles index ≡ d.titles index) → c ≡ d
same_calendar c d keys stated titles = λ i. record { keys = keys i; stated = λ (indexes : List ℕ). stated indexes i; titles = λ (index : ℕ). titles index i }

-- a calendar is the one that is wanted
pub is_read : (wanted : Result Calendar FileRefusal) (c : Calendar) → IsCalendar wanted c → wanted ≡ Ok c
is_read wanted c is = is.reads ∙ ap Ok (sym (same_calendar c is.of_file is.keys is.stated is.titles))

module _ (request : Request) (facts : Facts) (wanted : Result Calendar FileRefusal) (means : List ℕ → Option (ℤ → ℤ)) (answer : Answer) where
  -- the file that is wanted, with what the names of its zones mean
  abbrev pub file : Result ZonedCalendar FileRefusal
  file = with_meaning wanted means

  -- it is this calendar
  is_zoned : (c : Calendar) → IsCalendar wanted c → file ≡ Ok (zoned c means)
  is_zoned c is = ap (λ (w : Result Calendar FileRefusal). with_meaning w means) (is_read wanted c is)

  -- it is refused so
  is_refused : (r : FileRefusal) → wanted ≡ Err r → file ≡ Err r
  is_refused r e = ap (λ (w : Result Calendar FileRefusal). with_meaning w means) e

  pub read_a : (a : Calendar) (b : Result ZonedCalendar FileRefusal) → IsCalendar wanted a → IsComparedWith request facts (zoned a means) b answer
      → IsCompared request facts file b answer
  read_a a b is h = subst (λ (w : Result ZonedCalendar FileRefusal). IsCompared request facts w b answer) (sym (is_zoned a is)) h

  pub read_b : (a : ZonedCalendar) (b : Calendar) → IsCalendar wanted b → IsOfBoth request.show request facts a (zoned b means) answer
      → IsComparedWith request facts a file answer
  read_b a b is h = subst (λ (w : Result ZonedCalendar FileRefusal). IsComparedWith request facts a w answer) (sym (is_zoned b is)) h

  pub refused_a : (b : Result ZonedCalendar FileRefusal) (fault : FileFault) → AnswersCalendar {F = ReadFile} calendar_in wanted (Err fault)
      → IsFaultAnswer request.form facts A fault answer → IsCompared request facts file b answer
  refused_a b (file_fault.Refused r) is h =
      subst (λ (w : Result ZonedCalendar FileRefusal). IsCompared request facts w b answer) (sym (is_refused r is)) h
  refused_a b file_fault.NoMemory is h = absurd h

  pub refused_b : (a : ZonedCalendar) (fault : FileFault) → AnswersCalendar {F = ReadFile} calendar_in wanted (Err fault)
      → IsFaultAnswer request.form facts B fault answer → IsComparedWith request facts a file answer
  refused_b a (file_fault.Refused r) is h =
      subst (λ (w : Result ZonedCalendar FileRefusal). IsComparedWith request facts a w answer) (sym (is_refused r is)) h
  refused_b a file_fault.NoMemory is h = absurd h

-- ---- two calendars

module _ (request : Request) (facts : Facts) (a b : ZonedCalendar) (answer : Answer) (show : Option (List ℕ)) where
  -- what is answered if no name is asked for, and if one is
  pub none_of_both : show ≡ None → IsReported request facts a b answer → IsOfBoth show request facts a b answer
  none_of_both e h = subst (λ (s : Option (List ℕ)). IsOfBoth s request facts a b answer) (sym e) h

  pub some_of_both : (name : List ℕ) → show ≡ Some name → IsNamed name request.by_uid request.titles a b answer
      → IsOfBoth show request facts a b answer
  some_of_both name e h = subst (λ (s : Option (List ℕ)). IsOfBoth s request facts a b answer) (sym e) h
