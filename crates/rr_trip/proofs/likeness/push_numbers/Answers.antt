use Rattle.std.proofs.Common.{◌++◌, ◌∙◌, FitsSigned, w64, to_z-of_z, refl, get_or, pos, ap, rules}
use Rattle.rr_trip.specs.Likeness.{number_text, numbers_text}
use Rattle.rr_trip.proofs.PrintLemmas.{all_printed, one_printed}
use Rattle.rr_trip.proofs.likeness.push_numbers.Goals as goal

pub loop-number-preserved : goal.loop-number-preserved
loop-number-preserved c =
    let numbers = c.args.numbers.now in
    let i = c.loop-number.number-index in
    let fits : FitsSigned w64 (get_or numbers i (pos 0)) = search rules in
    one_printed numbers_text number_text (λ x xs. refl) c.loop-number.out.items c.push_signed.new.out.items _ numbers i (get_or numbers i (pos 0)) (pos 0)
    c.loop-number-test.true refl c.loop-number.invariant
    (c.in_ok-push_signed.ensures ∙ ap (λ z. c.loop-number.out.items ++ number_text z) (to_z-of_z fits))

pub returns : goal.returns
returns c =
    all_printed numbers_text c.loop-number.out.items _ c.args.numbers.now c.loop-number.number-index refl c.loop-number-test.false c.loop-number.invariant
