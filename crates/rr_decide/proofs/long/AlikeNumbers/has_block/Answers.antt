use Rattle.std.proofs.Common.{ℕ, get_or, Some, refl, sym, ap}
use Rattle.rr_decide.proofs.long.AlikeNumbers.has_block.Goals as goal

pub returns-in-Some : goal.returns-in-Some
returns-in-Some c = λ t k low high.
    let of = c.has_numbers.ensures t k low high in
    (get_or c.args.xs.now k 0, of.0, of.1, refl, ap (λ (x : ℕ). Some x) (sym (c.in-Some.ensures.equal k low high)))
