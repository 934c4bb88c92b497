use Rattle.std.proofs.Common.{inr, refl, subst}
use Rattle.rr_find.specs.Found.{IsFound}
use Rattle.rr_model.specs.Series.Occurrences.{Occurs}
use Rattle.rr_translate.proofs.SetLemmas.{first_rule_of, no_rule_of}
use Rattle.rr_translate.proofs.single.first_series.Goals as goal

pub returns-in-None : goal.returns-in-None
returns-in-None c =
    let none = subst (IsFound _) c.in-None.is c.in_ok-find.ensures in
    inr (c.in_ok-days.ensures.judged, no_rule_of _ (Occurs c.args.series.now) c.in_ok-days.ensures.stands none, refl)

pub returns : goal.returns
returns c = (
  c.in_ok-days.ensures.judged,
  record {
    rule = c.in-Some.found.rule;
    kind = c.in-Some.found.kind;
    start = c.in-Some.found.start;
    is_first =
        first_rule_of _ (Occurs c.args.series.now) c.in_ok-days.ensures.stands c.in-Some.found.rule c.in-Some.found.kind c.in-Some.found.start
        (subst (IsFound _) c.in-Some.is c.in_ok-find.ensures);
    same = c.in_ok-series_of-in-Some.ensures;
  },
)
