use Rattle.std.proofs.Common.{refl, arith}
use Rattle.std.proofs.lemmas.List.{length-drop, take_all}
use Rattle.rr_canon.proofs.OwnNumberLemmas.{first_left}
use Rattle.rr_canon.proofs.stretch.next_stretch.Goals as goal

pub returns-in-len1-up : goal.returns-in-len1-up
returns-in-len1-up g c =
    first_left (g.A.DaySeq.sets c.args.seq.now) (g.A.DaySeq.sketch c.args.seq.now) c.args.day c.args.rest.now _ _ (omega arith) refl
    (take_all _ _ (omega (arith, length-drop 1 c.args.rest.now))) c.requires.rest
