use Rattle.std.proofs.Common.{rules, ◌≡◌, FitsSigned, w64, to_z-of_z}
use Rattle.rr_answer.proofs.NumberLemmas.{rank_moved}
use Rattle.rr_answer.proofs.numbers.rank_in.Goals as goal

pub returns : goal.returns
returns g c =
    let fits : FitsSigned w64 c.get-moment.result.at = search rules in
    let same : c.args.days.now ≡ c.in_ok-ranked.ranked = search rules in
    rw (same, ← c.get-moment.ensures.value) (rank_moved _ c.get-moment.result.kind _ _ c.rank.result (to_z-of_z fits) c.rank.ensures.rank)
