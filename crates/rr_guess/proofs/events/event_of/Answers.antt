use Rattle.std.proofs.Common.{◌≡◌, sym, ◌∙◌, w64, to_z, of_z, FitsSigned}
use Rattle.std.proofs.lemmas.Int.{to_z-of_z}
use Rattle.rr_model.specs.Moment.{day_part}
use Rattle.rr_model.specs.declared.kind.Kind.TheVariants.{Days}
use Rattle.rr_model.proofs.StartLemmas.{IsDayWithin-start}
use Rattle.rr_model.proofs.YearLemmas.{years_are_tested}
use Rattle.rr_guess.proofs.events.event_of.Goals as goal

pub moment_at-requires : goal.moment_at-requires
moment_at-requires c =
    let d = to_z w64 (of_z w64 c.args.day) in
    let years = (years_are_tested Days d).0 (sym c.has_four_digit_year.ensures ∙ c.if-not-has_four_digit_year.false) in
    IsDayWithin-start 1000 Days d years

pub returns : goal.returns
returns c =
    let d = to_z w64 (of_z w64 c.args.day) in
    let years = (years_are_tested Days d).0 (sym c.has_four_digit_year.ensures ∙ c.if-not-has_four_digit_year.false) in
    let fits : FitsSigned w64 c.moment_at.result = record { sfits = c.moment_at.type_inv } in
    let same = to_z-of_z w64 c.moment_at.result fits in
    let day : day_part c.args.kind (to_z w64 (of_z w64 c.moment_at.result)) ≡ d = rw same (c.moment_at.ensures.day c.if-second-ge86400.false) in record {
      start = rw day years;
      repeats = (
        c.is_valid.ensures c.if-not-is_valid.false,
        c.is_end.ensures c.if-not-is_end.false,
        sym day,
        (c.in_ok-first_repeat_day.field-0, sym c.first_repeat_day.ensures ∙ c.in_ok-first_repeat_day.was),
      );
    }
