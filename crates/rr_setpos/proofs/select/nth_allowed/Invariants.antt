use Rattle.std.specs.Prelude.{◌≡◌, ◌+◌}
use Rattle.rr_model.specs.Sets.Counting.{count_seconds}
use Rattle.rr_parts.specs.Numbers.{number_allowed}
use Rattle.rr_setpos.proofs.select.nth_allowed.Given as goal

abbrev pub invariant-loop-n : goal.invariant-loop-n
invariant-loop-n l = l.left + count_seconds (λ m. number_allowed l.is_wanted l.part l.own m) l.n ≡ l.rank
