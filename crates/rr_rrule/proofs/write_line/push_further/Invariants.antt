use Rattle.std.specs.Prelude.{◌≡◌, ◌++◌, length}
use Rattle.rr_model.specs.Text.Written.{folded_rest}
use Rattle.rr_rrule.proofs.write_line.push_further.Given as goal

-- the rest is left
abbrev pub invariant-loop-rest : goal.invariant-loop-rest
invariant-loop-rest l = l.out.items ++ folded_rest (length l.rest) l.rest ≡ l.fn.out.items ++ folded_rest (length l.text) l.text

abbrev pub decreases-loop-rest : goal.decreases-loop-rest
decreases-loop-rest l = length l.rest
