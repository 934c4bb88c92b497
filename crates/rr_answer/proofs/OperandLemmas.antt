-- What is read of an operand: there is one, and it is what calls answer.
use Rattle.std.proofs.Common.{◌≡◌, inl, inr, ℕ, ◌<◌, ◌≤◌, ℤ, List, length, Option, refl, sym, ap, ◌∙◌, arith}
use Rattle.std.specs.Prelude.{Result, Ok, Err}
use Rattle.rr_model.specs.Answers.{Answers}
use Rattle.rr_model.specs.declared.limits.TheConstants.{MAX_INPUT}
use Rattle.rr_model.specs.declared.refusal.Fault.{Fault}
use Rattle.rr_model.specs.declared.refusal.Fault.TheVariants.{NoMemory, Refused}
use Rattle.rr_model.specs.declared.refusal.Refusal.{Refusal}
use Rattle.rr_model.specs.declared.refusal.Refusal.TheVariants.{TooLong}
use Rattle.rr_model.specs.declared.rule.Series.{Series}
use Rattle.rr_answer.specs.OperandReading.{AnswersRead, AreDaysStatedIn, IsDescriptorRead, IsStatedIn, IsTextRead, series_in}
use Rattle.rr_answer.specs.Subjects.{Subject, as_subject, of_series, of_sketch, of_skipping}
use Rattle.rr_model.specs.Text.Lines.{without_mark}
use Rattle.rr_answer.specs.declared.command.Language.{Language}
use Rattle.rr_answer.specs.declared.command.Language.TheVariants as language
use Rattle.rr_answer.specs.declared.command.DayLanguage.{DayLanguage}
use Rattle.rr_answer.specs.declared.command.DayLanguage.TheVariants.{Canon, Rscale, ZonedRscale}
use Rattle.rr_answer.specs.declared.command.SeriesLanguage.{SeriesLanguage}
use Rattle.rr_answer.proofs.DescriptorLemmas.{descriptor_is_one}

-- ---- there is one reading

abbrev pub IsOne : (Result Subject Refusal → Type 0) → Type 0
IsOne reads = (x y : Result Subject Refusal) → reads x → reads y → x ≡ y

descriptor_read_is_one : (text : List ℕ) → IsOne (IsDescriptorRead text)
descriptor_read_is_one text (Ok (of_sketch s)) (Ok (of_sketch u)) p q = ap (λ z. Ok (of_sketch z)) (descriptor_is_one text s u p q)
descriptor_read_is_one text (Ok (of_sketch s)) (Ok (of_series u)) p q = absurd q
descriptor_read_is_one text (Ok (of_sketch s)) (Ok (of_skipping u)) p q = absurd q
descriptor_read_is_one text (Ok (of_series s)) y p q = absurd p
descriptor_read_is_one text (Ok (of_skipping s)) y p q = absurd p
descriptor_read_is_one text (Ok (of_sketch s)) (Err refusal) p q = absurd (q.1 s p)
descriptor_read_is_one text (Err refusal) (Ok (of_sketch u)) p q = absurd (p.1 u q)
descriptor_read_is_one text (Err refusal) (Ok (of_series u)) p q = absurd q
descriptor_read_is_one text (Err refusal) (Ok (of_skipping u)) p q = absurd q
descriptor_read_is_one text (Err refusal) (Err other) p q = ap Err (p.0 ∙ sym q.0)

days_are_one : (language : DayLanguage) (offset : Option ℤ) (bytes : List ℕ) → IsOne (AreDaysStatedIn language offset bytes)
days_are_one Canon offset bytes x y p q = descriptor_read_is_one (without_mark bytes) x y p q
days_are_one Rscale offset bytes x y p q = p ∙ sym q
days_are_one ZonedRscale offset bytes x y p q = p ∙ sym q

stated_is_one : (language : Language) (offset : Option ℤ) (bytes : List ℕ) → IsOne (IsStatedIn language offset bytes)
stated_is_one (language.Series l) offset bytes x y p q = p ∙ sym q
stated_is_one (language.Days l) offset bytes x y p q = days_are_one l offset bytes x y p q

pub text_read_is_one : (language : Language) (offset : Option ℤ) (bytes : List ℕ) → IsOne (IsTextRead language offset bytes)
unfolding IsTextRead
text_read_is_one language offset bytes x y (inl p) (inl q) = p.1 ∙ sym q.1
text_read_is_one language offset bytes x y (inl p) (inr q) = absurd (omega (arith, p.0, q.0))
text_read_is_one language offset bytes x y (inr p) (inl q) = absurd (omega (arith, p.0, q.0))
text_read_is_one language offset bytes x y (inr p) (inr q) = stated_is_one language offset bytes x y p.1 q.1

-- ---- what calls answer

answers_stated :
    (wanted : Result Series Refusal) (result : Result Series Fault) → Answers wanted result → AnswersRead (λ read. read ≡ as_subject wanted) result
answers_stated wanted (Ok series) h = sym (ap as_subject h)
answers_stated wanted (Err (Refused refusal)) h = sym (ap as_subject h)
answers_stated wanted (Err NoMemory) h = tt

module _ (language : Language) (offset : Option ℤ) (bytes : List ℕ) where
  answers_within :
      (result : Result Series Fault) → length bytes ≤ MAX_INPUT → AnswersRead (IsStatedIn language offset bytes) result
      → AnswersRead (IsTextRead language offset bytes) result
  unfolding IsTextRead
  answers_within (Ok series) few h = inr (few, h)
  answers_within (Err (Refused refusal)) few h = inr (few, h)
  answers_within (Err NoMemory) few h = tt

  -- what is stated is read, if the text is not too long
  pub read_within : length bytes ≤ MAX_INPUT → (r : Result Subject Refusal) → IsStatedIn language offset bytes r → IsTextRead language offset bytes r
  unfolding IsTextRead
  read_within few r h = inr (few, h)

  pub too_long : MAX_INPUT < length bytes → IsTextRead language offset bytes (Err TooLong)
  unfolding IsTextRead
  too_long many = inl (many, refl)

-- a call that reads the series of a language answers what is read of the text
pub series_answered :
    (l : SeriesLanguage) (offset : Option ℤ) (bytes : List ℕ) (result : Result Series Fault) → length bytes ≤ MAX_INPUT
    → Answers (series_in l offset bytes) result → AnswersRead (IsTextRead (language.Series l) offset bytes) result
series_answered l offset bytes result few h =
    answers_within (language.Series l) offset bytes result few (answers_stated (series_in l offset bytes) result h)
