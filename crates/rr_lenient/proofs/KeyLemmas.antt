-- What is read of a key.
use Rattle.std.proofs.Common.{◌≡◌, Bool, false, Result, Ok, Err, ap, refl, sym, subst, ◌∙◌}
use Rattle.rr_model.specs.declared.rule.Series.{Series}
use Rattle.rr_seam.specs.Marks.{marks_of_both}
use Rattle.rr_seam.specs.Stated.{IsKeyStated, Stated}
use Rattle.rr_seam.specs.declared.file.KeySeries.{KeySeries}
use Rattle.rr_seam.specs.declared.marks.Marks.{Marks}
use Rattle.rr_seam.specs.declared.refusal.KeyRefusal.{KeyRefusal}
use Rattle.rr_lenient.specs.Lenient.{IsLenient}
use Rattle.rr_lenient.specs.LenientLaws.{LenientIsOne}
use Rattle.rr_lenient.specs.Read.{ReadSeries, read_of}
use Rattle.rr_lenient.specs.Stated.{IsReadKey, ReadKeyIsStated, marks_of, marks_read, series_read}
use Rattle.rr_lenient.proofs.ReadLemmas.{read_is_lenient}

-- what is read leniently is what the function has
pub read_is : LenientIsOne → (given read : Series) (until start : Bool) → IsLenient given read until start
    → (read ≡ (read_of given).series) × (until ≡ (read_of given).until) × (start ≡ (read_of given).start)
read_is one given read until start h =
    one given read (read_of given).series until (read_of given).until start (read_of given).start h (read_is_lenient given)

pub marks_are : (until start : Bool) (marks : Marks) (read : ReadSeries) → until ≡ read.until → start ≡ read.start
    → marks_of_both marks (record { until = until; start = start; day = false }) ≡ marks_of_both marks (marks_of read)
marks_are until start marks read u s =
    ap (λ b. marks_of_both marks (record { until = b; start = start; day = false })) u
    ∙ ap (λ b. marks_of_both marks (record { until = read.until; start = b; day = false })) s

pub read_key_is_stated : ReadKeyIsStated
read_key_is_stated stated given read is h = record {
  states = ap series_read is.states ∙ ap Ok (sym h.series);
  valid = h.valid;
  at = h.place ∙ is.at;
  zones = ap (λ zs. zs.items) h.zones ∙ is.zones;
  lengths = h.lengths ∙ is.lengths;
  marks = h.marks ∙ ap (λ m. marks_of_both m (marks_of (read_of given.series))) is.marks
      ∙ ap (λ (s : Result Series KeyRefusal). marks_read s stated.marks) (sym is.states);
}
