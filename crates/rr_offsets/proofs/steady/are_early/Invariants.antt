use Rattle.std.proofs.Common.{◌≡◌, drop}
use Rattle.std.specs.List.{list_all}
use Rattle.rr_offsets.specs.Steady.{is_early}
use Rattle.rr_offsets.proofs.steady.are_early.Given as goal

abbrev pub invariant-loop-date : goal.invariant-loop-date
invariant-loop-date l = list_all is_early (drop l.date-index l.dates) ≡ list_all is_early l.dates
