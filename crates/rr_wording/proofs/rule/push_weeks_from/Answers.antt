use Rattle.std.proofs.Common.{codes}
use Rattle.rr_wording.specs.Dates.{weekday_name}
use Rattle.rr_wording.specs.Rules.{weeks_from}
use Rattle.rr_wording.proofs.PutLemmas.{put_last}
use Rattle.rr_wording.proofs.rule.push_weeks_from.Goals as goal

pub returns : goal.returns
unfolding weeks_from
returns c =
    put_last c.push-2.result c.push-2.new.out.items c.push.new.out.items c.args.out.now.items (codes ", weeks beginning on ") (weekday_name c.args.weekday)
    c.in_ok-push.ensures (rw c.weekday_name.ensures at c.push-2.ensures)
