use Rattle.std.proofs.Common.{w64, ap, ◌∙◌}
use Rattle.std.proofs.lemmas.Int.{to_z-of_z}
use Rattle.rr_canon.specs.Kept.{number_kept}
use Rattle.rr_canon.proofs.KeptLemmas.{stretch_kept}
use Rattle.rr_canon.proofs.least_seq.LeastSeqDaySeq.stretch.Goals as goal

pub returns : goal.returns
returns c =
    let l = c.args.self.now in
    stretch_kept l.kind l.sets l.before l.settled l.period l.cycle c.args.day c.number_on.result
    (c.number_on.ensures.number ∙ ap (number_kept l.before l.settled l.period l.cycle) (to_z-of_z w64 c.args.day c.ranges.day)) c.number_on.ensures.within
