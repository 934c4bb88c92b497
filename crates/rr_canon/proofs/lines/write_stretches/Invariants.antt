use Rattle.std.specs.Prelude.{◌≡◌, ◌∷◌, ◌++◌, ◌≤◌, ◌-◌, ℕ, List, length, drop}
use Rattle.std.specs.Io.KnownBytes.{Appends}
use Rattle.rr_model.specs.Sets.Stretches.{items_text, stretches}
use Rattle.rr_canon.proofs.lines.write_stretches.Given as goal

-- what was written and the items of the seconds that follow are the whole
abbrev pub invariant-loop-from : goal.invariant-loop-from
invariant-loop-from g l =
    ((bytes : List ℕ) × Appends (g.W.Write.contents l.fn.out) (g.W.Write.contents l.out) bytes
    × (bytes ++ items_text (stretches (drop l.from l.times)) ≡ 116 ∷ items_text (stretches l.times)))
    × (l.from ≤ length l.times)

abbrev pub decreases-loop-from : goal.decreases-loop-from
decreases-loop-from g l = length l.times - l.from
