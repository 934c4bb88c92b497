use Rattle.std.specs.Prelude.{◌≡◌, flat_map, take}
use Rattle.rr_answer.specs.Differing.{difference_line}
use Rattle.rr_answer.proofs.differing.lines_of.Given as goal

-- the differences so far have their lines
abbrev pub invariant-loop-one : goal.invariant-loop-one
invariant-loop-one l = l.text.items ≡ flat_map difference_line (take l.one-index l.differences)
