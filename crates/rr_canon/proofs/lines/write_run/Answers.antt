use Rattle.std.proofs.Common.{◌∷◌, [], ap, refl}
use Rattle.std.specs.Fmt.{decimal}
use Rattle.std.proofs.lemmas.Result.{on_ok_weaker}
use Rattle.rr_canon.proofs.AppendLemmas.{appended_as, five_appended}
use Rattle.rr_canon.proofs.LineLemmas.{run_text}
use Rattle.rr_canon.proofs.lines.write_run.Goals as goal

pub returns : goal.returns
returns g c =
    let contents = g.W.Write.contents in
    let run = c.args.run in
    let letter = c.args.letter ∷ [] in
    let set = ap (λ n. 32 ∷ decimal n) c.from.ensures in
    on_ok_weaker c.write_all-2.result
    (λ e. appended_as _ _ _ _ (run_text c.args.letter run.gap run.set run.count [] _ _ _ _ _ refl refl refl refl refl)
    (five_appended (contents c.args.out.now) (contents c.write_all.new.self) (contents c.write_part.new.out) (contents c.write_part-2.new.out)
    (contents c.write_part-3.new.out) (contents c.write_all-2.new.self) letter (32 ∷ decimal run.gap) (32 ∷ decimal run.set) (32 ∷ decimal run.count) (10 ∷ [])
    c.in_ok-write_all.ensures.bytes c.in_ok-write_part.ensures (appended_as _ _ _ _ set c.in_ok-write_part-2.ensures) c.in_ok-write_part-3.ensures e))
    c.write_all-2.ensures.bytes
