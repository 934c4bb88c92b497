use Rattle.std.proofs.Common.{◌≡◌, not, subst, ap, ◌∙◌, ◌==◌, get_or, w64}
use Rattle.std.specs.Prelude.{◌↔◌, IsTrue}
use Rattle.std.proofs.lemmas.Int.{to_z-of_z}
use Rattle.rr_model.specs.Rule.Validity.{is_absent}
use Rattle.rr_model.specs.Sets.Sketch.{times_on}
use Rattle.rr_family.specs.Lasting.{at_second}
use Rattle.rr_family.proofs.WalkLemmas.{at_length_one}
use Rattle.rr_family.proofs.window.is_at_second.Goals as goal

pub returns-in-len1 : goal.returns-in-len1
returns-in-len1 g c =
    let day = to_z-of_z w64 c.args.day c.ranges.day in
    subst (λ xs. IsTrue (get_or c.at.result.now 0 0 == c.args.second) ↔ (xs ≡ at_second c.args.second (not (is_absent xs))))
    (c.at.ensures ∙ ap (times_on (g.A.DaySeq.sketch c.args.seq.now)) day)
    (at_length_one c.args.second c.at.result.now c.in-len1.len_at_least c.in-len1.len_below)
