use Rattle.rr_trip.specs.Report.{stated_in}
use Rattle.rr_trip.proofs.DetailLemmas.{difference_is}
use Rattle.rr_trip.proofs.SaidLemmas.{sound}
use Rattle.rr_trip.proofs.ShownLemmas.{ok_each}
use Rattle.rr_trip.specs.Details.{IsDifferenceOfJudged}
use Rattle.rr_trip.proofs.detail.difference_between.Goals as goal

pub difference_of-requires : goal.difference_of-requires
difference_of-requires g c = sound _ _ c.in_ok-judged.judged c.in_ok-judged.ensures

pub returns : goal.returns
returns g c =
    ok_each {P = IsDifferenceOfJudged c.in_ok-judged.judged} c.difference_of.result c.difference_of.ensures
    (λ difference tells. difference_is (stated_in (g.A.EventFile.stated c.args.a.now) c.args.in_a.now) (stated_in (g.B.EventFile.stated c.args.b.now) c.args.in_b.now)
    c.in_ok-judged.judged difference c.in_ok-judged.ensures tells)
