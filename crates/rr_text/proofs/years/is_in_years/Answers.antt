use Rattle.std.proofs.Common.{◌≡◌, pos, neg_ℤ, true, false, refl, sym, ◌∙◌, w64}
use Rattle.std.specs.Prelude.{int_le}
use Rattle.std.proofs.lemmas.Int.{to_z-of_z}
use Rattle.rr_model.proofs.YearLemmas.{is_in_years-seconds}
use Rattle.rr_text.proofs.years.is_in_years.Goals as goal

pub returns-then-at-geminus62135596800 : goal.returns-then-at-geminus62135596800
returns-then-at-geminus62135596800 c =
    let back = to_z-of_z w64 c.args.at c.ranges.at in
    let low : int_le (neg_ℤ (pos 62_135_596_800)) c.args.at ≡ true = rw back at c.if-at-geminus62135596800.true in
    (rw (back, low) refl) ∙ sym (is_in_years-seconds c.args.at)

pub returns-else-at-geminus62135596800 : goal.returns-else-at-geminus62135596800
returns-else-at-geminus62135596800 c =
    let back = to_z-of_z w64 c.args.at c.ranges.at in
    let low : int_le (neg_ℤ (pos 62_135_596_800)) c.args.at ≡ false = rw back at c.if-at-geminus62135596800.false in
    (rw (back, low) refl) ∙ sym (is_in_years-seconds c.args.at)
