use Rattle.std.proofs.Common.{◌≡◌, [], refl, arith}
use Rattle.std.proofs.lemmas.List.{nil_from_length}
use Rattle.rr_answer.proofs.help.help_page.Goals as goal

pub returns-in-empty : goal.returns-in-empty
returns-in-empty c =
    let none : c.args.words.now ≡ [] = nil_from_length c.args.words.now (omega (arith, c.in-empty.len_below)) in
    rw none refl
