use Rattle.std.proofs.Common.{◌∷◌, [], refl}
use Rattle.std.specs.Fmt.{decimal}
use Rattle.std.proofs.lemmas.Result.{on_ok_weaker}
use Rattle.rr_canon.proofs.AppendLemmas.{appended_as, four_appended}
use Rattle.rr_canon.proofs.LineLemmas.{settled_text}
use Rattle.rr_canon.proofs.lines.write_settled.Goals as goal

pub returns : goal.returns
returns g c =
    let contents = g.W.Write.contents in
    let day = c.args.day.now in
    let period = 32 ∷ decimal c.args.period in
    on_ok_weaker c.write_all-3.result
    (λ e. appended_as _ _ _ _ (settled_text 113 c.args.period day [] _ _ _ refl refl refl)
    (four_appended (contents c.args.out.now) (contents c.write_all.new.self) (contents c.write_all-2.new.self) (contents c.write_part.new.out)
    (contents c.write_all-3.new.self) (113 ∷ 32 ∷ []) day period (10 ∷ [])
    c.in_ok-write_all.ensures.bytes c.in_ok-write_all-2.ensures.bytes c.in_ok-write_part.ensures e))
    c.write_all-3.ensures.bytes
