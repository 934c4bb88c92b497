-- Written numbers, weekdays and frequencies of a rule are read back (RFC 5545, section 3.3.10).
use Rattle.std.proofs.Common.{◌≡◌, ℕ, zero, suc, ◌^◌, ◌<◌, ◌≤◌, true, ℤ, nat_abs, length}
use Rattle.std.proofs.Common.{Some, Ok, refl, arith}
use Rattle.std.specs.Prelude.{nat_le, int_lt}
use Rattle.std.specs.Fmt.{decimal, signed_decimal}
use Rattle.std.specs.List.{list_all}
use Rattle.std.proofs.lemmas.Bool.Decides.{nat_tests}
use Rattle.std.proofs.lemmas.Int.{ints}
use Rattle.rr_model.specs.Rising.{day_item_lt}
use Rattle.rr_model.specs.Text.RuleValues.{freq_named, weekday_named, number_up_to}
use Rattle.rr_model.specs.Text.Written.{freq_text, weekday_text}
use Rattle.rr_model.specs.declared.rule.Freq.{Freq}
use Rattle.rr_model.specs.declared.rule.Freq.TheVariants.{Secondly, Minutely, Hourly, Daily, Weekly, Monthly, Yearly}
use Rattle.rr_text.proofs.WrittenByteLemmas.{is_word_byte, has_no, signed_decimal-words, no_comma-from_words}
use Rattle.rr_text.proofs.WrittenLemmas.{digits_value-decimal, is_number-decimal}
use Rattle.rr_text.proofs.WrittenListLemmas.{IsTransitive}

-- ---- words

pub freq-written : (freq : Freq) → freq_named (freq_text freq) ≡ Some freq
unfolding freq_named freq_text
freq-written Secondly = refl
freq-written Minutely = refl
freq-written Hourly = refl
freq-written Daily = refl
freq-written Weekly = refl
freq-written Monthly = refl
freq-written Yearly = refl

pub freq_text-words : (freq : Freq) → list_all is_word_byte (freq_text freq) ≡ true
unfolding freq_text
freq_text-words Secondly = refl
freq_text-words Minutely = refl
freq_text-words Hourly = refl
freq_text-words Daily = refl
freq_text-words Weekly = refl
freq_text-words Monthly = refl
freq_text-words Yearly = refl

-- what a written weekday is: two letters, read back
pub record IsWeekdayText (d : ℕ) : Type 0 where
  pub named : weekday_named (weekday_text d) ≡ Some d
  pub two : length (weekday_text d) ≡ 2
  pub words : list_all is_word_byte (weekday_text d) ≡ true

pub weekday-written : (d : ℕ) → d < 7 → IsWeekdayText d
unfolding weekday_named weekday_text
weekday-written zero h = record { named = refl; two = refl; words = refl }
weekday-written (suc zero) h = record { named = refl; two = refl; words = refl }
weekday-written (suc (suc zero)) h = record { named = refl; two = refl; words = refl }
weekday-written (suc (suc (suc zero))) h = record { named = refl; two = refl; words = refl }
weekday-written (suc (suc (suc (suc zero)))) h = record { named = refl; two = refl; words = refl }
weekday-written (suc (suc (suc (suc (suc zero))))) h = record { named = refl; two = refl; words = refl }
weekday-written (suc (suc (suc (suc (suc (suc zero)))))) h = record { named = refl; two = refl; words = refl }
weekday-written (suc (suc (suc (suc (suc (suc (suc d))))))) h = absurd (omega arith)

-- ---- numbers

pub number_up_to-written : (line most n : ℕ) → n < 2 ^ 64 → 1 ≤ n → n ≤ most → number_up_to line most (decimal n) ≡ Ok n
unfolding number_up_to
number_up_to-written line most n h low high =
    let is = is_number-decimal n h in
    let value = digits_value-decimal n h in
    let from : nat_le 1 n ≡ true = grind (arith, nat_tests) in
    let to : nat_le n most ≡ true = grind (arith, nat_tests) in
    rw (is, value, from, to) refl

pub signed_decimal-no_comma : (z : ℤ) → nat_abs z < 2 ^ 64 → has_no 44 (signed_decimal z) ≡ true
signed_decimal-no_comma z h = no_comma-from_words (signed_decimal z) (signed_decimal-words z h)

pub int_lt-transitive : IsTransitive int_lt
int_lt-transitive a b c h k = grind (arith, ints)

pub day_item_lt-transitive : IsTransitive day_item_lt
day_item_lt-transitive a b c h k = grind (arith, ints, nat_tests)
