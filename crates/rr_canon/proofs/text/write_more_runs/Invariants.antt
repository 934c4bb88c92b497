use Rattle.std.specs.Prelude.{◌≡◌, ◌≤◌, ◌+◌, ◌++◌, ℕ, List, drop}
use Rattle.std.specs.Io.KnownBytes.{Appends}
use Rattle.rr_model.specs.Sets.Descriptor.{runs_of}
use Rattle.rr_canon.specs.Said.{steps_by_number, text_of_runs, with_run}
use Rattle.rr_canon.proofs.text.write_more_runs.Given as goal

-- what was written, the open run and the days that follow are the whole
abbrev pub invariant-loop-day : goal.invariant-loop-day
invariant-loop-day g l =
    ((bytes : List ℕ) × Appends (g.W.Write.contents l.fn.out) (g.W.Write.contents l.out) bytes
    × (bytes ++ text_of_runs l.letter
    (with_run (record { gap = l.current.gap; set = l.current.set; count = l.current.count }) (runs_of (steps_by_number l.last (drop l.day-index l.days))))
    ≡ text_of_runs l.letter
    (with_run (record { gap = l.fn.run.gap; set = l.fn.run.set; count = l.fn.run.count }) (runs_of (steps_by_number l.fn.from l.days)))))
    × (l.current.count ≤ l.day-index + 1)
