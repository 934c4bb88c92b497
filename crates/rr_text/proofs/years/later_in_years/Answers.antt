use Rattle.std.proofs.Common.{sym, ◌∙◌, ◌≡◌, ◌+ℤ◌, false, rules, w64, FitsSigned, to_z, of_z, to_z-of_z}
use Rattle.rr_model.specs.Moment.Years.{is_in_years}
use Rattle.rr_model.specs.declared.kind.Kind.TheVariants.{Moments}
use Rattle.rr_model.proofs.YearLemmas.{years_are_tested}
use Rattle.rr_text.proofs.YearLemmas.{beyond}
use Rattle.rr_text.proofs.years.later_in_years.Goals as goal

pub returns-in_err-later-clause-value : goal.returns-in_err-later-clause-value
returns-in_err-later-clause-value c =
    let offset_fits : FitsSigned w64 c.from.result = search rules in
    let offset_is : c.from.result ≡ c.args.offset = search rules in
    let out : is_in_years Moments (c.args.at +ℤ c.args.offset) ≡ false = beyond (c.args.at +ℤ c.args.offset)
    (λ fits. c.in_err-later.ensures (rw (to_z-of_z c.ranges.at, to_z-of_z offset_fits, offset_is) fits)) in
    rw out c.from_residual.ensures

pub returns-then-is_in_years-clause-years : goal.returns-then-is_in_years-clause-years
returns-then-is_in_years-clause-years c =
    (years_are_tested Moments (to_z w64 (of_z w64 c.in_ok-later.later))).0 (sym c.is_in_years.ensures ∙ c.if-is_in_years.true)
