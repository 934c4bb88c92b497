use Rattle.std.specs.Prelude.{◌≡◌, ◌++◌, drop}
use Rattle.rr_trip.specs.Likeness.{numbers_text}
use Rattle.rr_trip.proofs.likeness.push_numbers.Given as goal

-- the others are left
abbrev pub invariant-loop-number : goal.invariant-loop-number
invariant-loop-number l = l.out.items ++ numbers_text (drop l.number-index l.numbers) ≡ l.fn.out.items ++ numbers_text l.numbers
