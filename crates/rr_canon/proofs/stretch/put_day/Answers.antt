use Rattle.std.proofs.Common.{refl}
use Rattle.rr_canon.proofs.NumberedStretchLemmas.{seconds_of_day}
use Rattle.rr_canon.proofs.stretch.put_day.Goals as goal

pub put_own-requires-clause-of_day : goal.put_own-requires-clause-of_day
put_own-requires-clause-of_day g c = seconds_of_day (g.A.DaySeq.sketch c.args.seq.now) _ _ (g.met.A.DaySeq.bounded c.args.seq.now).valid refl
