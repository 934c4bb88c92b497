-- The number of a text lies in its range, and so does the weekday that one names.
use Rattle.std.proofs.Common.{◌≡◌, ℕ, ◌<◌, ◌≤◌, ◌&&◌, Some, List, Ok, arith}
use Rattle.std.specs.Prelude.{nat_le}
use Rattle.std.proofs.lemmas.Bool.Decides.{nat_tests}
use Rattle.rr_model.specs.Text.Digits.{digits_value}
use Rattle.rr_model.specs.Text.RuleValues.{is_number, weekday_named, up_to, number_up_to}
use Rattle.rr_text.proofs.StepLemmas.{passed}

pub number_up_to-lies : (line most : ℕ) (text : List ℕ) (n : ℕ) → number_up_to line most text ≡ Ok n → (1 ≤ n) × (n ≤ most)
unfolding number_up_to
number_up_to-lies line most text n h =
    let form = passed (is_number text) (up_to line most (digits_value text)) _ n h in
    let size = passed (nat_le 1 (digits_value text) && nat_le (digits_value text) most) (Ok (digits_value text)) _ n form.1 in
    let value : digits_value text ≡ n = cc in
    (grind (arith, nat_tests, size.0, value), grind (arith, nat_tests, size.0, value))

pub weekday_named-below : (text : List ℕ) (d : ℕ) → weekday_named text ≡ Some d → d < 7
unfolding weekday_named
weekday_named-below text d h = grind (arith, nat_tests)
