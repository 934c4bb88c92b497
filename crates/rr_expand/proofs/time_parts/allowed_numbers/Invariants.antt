use Rattle.std.specs.Prelude.{◌<◌, IsTrue, nat_lt, pos}
use Rattle.rr_model.specs.Rule.Candidate.{allows}
use Rattle.rr_model.specs.Rule.Filled.{filled_part}
use Rattle.rr_model.specs.Rising.Sets.{IsSetOf}
use Rattle.rr_expand.proofs.time_parts.allowed_numbers.Given as goal

abbrev pub invariant-loop-n : goal.invariant-loop-n
invariant-loop-n l = IsSetOf nat_lt l.numbers.items (λ m. (m < l.n) × IsTrue (allows (filled_part l.is_wanted l.part (pos l.own)) (pos m)))
