use Rattle.rr_ical.proofs.KeptLemmas.{start-in_years}
use Rattle.rr_ical.proofs.passes.kept_event.Goals as goal

pub second_pass-requires : goal.second_pass-requires
second_pass-requires g c =
    start-in_years g.L.RuleLanguage.language c.as_slice.result.now c.in_ok-read.read c.in-Some-start.start c.in_ok-read.ensures c.in-Some-start.is
