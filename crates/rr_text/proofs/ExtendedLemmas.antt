-- A text that ends before the seconds is no extended moment.
use Rattle.std.proofs.Common.{◌≡◌, ℕ, ◌<◌, ◌==◌, ◌&&◌, false, List, length, take, drop, slice_index, None, refl}
use Rattle.std.proofs.Common.{arith}
use Rattle.std.proofs.lemmas.Bool.Decides.{nat_tests}
use Rattle.std.proofs.lemmas.Grind.{common_steps}
use Rattle.rr_model.specs.Text.Moments.{basic_time, is_letter_t}
use Rattle.rr_model.specs.Text.ExtendedMoments.{time_digits, extended_date_of, extended_time_of, extended_moment_of}
use Rattle.rr_text.proofs.StepLemmas.{where_none}
use Rattle.rr_text.proofs.MomentTextLemmas.{moment_of-no_time}

time-short : (text : List ℕ) → length text < 8 → extended_time_of text ≡ None
unfolding extended_time_of
time-short text h =
    let e : (length text == 8) ≡ false = grind (arith, nat_tests) in
    rw e refl

pub extended_moment-short : (text : List ℕ) → length text < 19 → extended_moment_of text ≡ None
unfolding extended_moment_of
extended_moment-short text h =
    let time : extended_time_of (take 8 (drop 11 text)) ≡ None = time-short (take 8 (drop 11 text)) (grind (arith, common_steps)) in
    where_none (is_letter_t (slice_index text 10)) _ (rw time (moment_of-no_time _ _))
