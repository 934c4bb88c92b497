use Rattle.std.proofs.Common.{take}
use Rattle.std.specs.Prelude.{All}
use Rattle.rr_offsets.specs.Past.{IsLaterPast, LiesBefore}
use Rattle.rr_offsets.proofs.past.after_dates.Given as goal

abbrev pub invariant-loop-date : goal.invariant-loop-date
invariant-loop-date l = record {
  past : IsLaterPast l.past l.last;
  dates : All (LiesBefore l.from l.last) (take l.date-index l.dates);
}
