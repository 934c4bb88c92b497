use Rattle.std.proofs.Common.{◌≡◌, ℕ, List, map}
use Rattle.std.specs.Option.{option_or}
use Rattle.rr_zone.specs.Parts.{events_in, part_in}
use Rattle.rr_zone.specs.Series.{series_start, start_under}
use Rattle.rr_zone.proofs.SeriesLemmas.{events_from}
use Rattle.rr_zone.proofs.series.series_starts.Given as goal

abbrev pub invariant-loop-part : goal.invariant-loop-part
invariant-loop-part l =
    (uid : List ℕ) → option_or (start_under l.starts uid) (series_start uid (events_from l.parts l.part-index)) ≡ series_start uid (events_in (map part_in l.parts))
