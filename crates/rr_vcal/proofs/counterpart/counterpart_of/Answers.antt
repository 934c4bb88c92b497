use Rattle.std.proofs.Common.{sym, subst}
use Rattle.std.specs.Prelude.{All}
use Rattle.rr_vcal_laws.specs.Numbers.{HasDayOfYear}
use Rattle.rr_vcal_laws.proofs.ValidRuleLemmas.{days_of_year}
use Rattle.rr_vcal.proofs.counterpart.counterpart_of.Goals as goal

pub year_days_of-requires : goal.year_days_of-requires
year_days_of-requires c =
    let rule = c.args.rule.now in
    subst (All HasDayOfYear) (sym c.as_slice-items.ensures) (days_of_year rule.family rule.items c.requires.rule.items)
