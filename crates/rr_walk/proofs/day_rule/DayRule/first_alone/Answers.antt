use Rattle.std.proofs.Common.{◌≡◌, ◌≤◌, ℤ, pos, ◌≤ℤ◌, ◌∷◌, [], refl, sym, ◌∙◌, arith, rules, get_or, length, w64, to_z, of_z, to_z-of_z, FitsSigned}
use Rattle.std.specs.Prelude.{Some, nat_lt}
use Rattle.std.proofs.lemmas.Int.{ints}
use Rattle.std.proofs.lemmas.Option.{same_Some}
use Rattle.rr_model.specs.Rising.Sets.{IsSetOf}
use Rattle.rr_model.specs.Rule.DaysAndTimes.{IsCandidateTime}
use Rattle.rr_model.specs.Sets.Tree.{chosen_of}
use Rattle.rr_model.proofs.RisingSetLemmas.{one_list_of_seconds}
use Rattle.rr_walk.specs.Ruling.{Ruling}
use Rattle.rr_walk.specs.SetPositions.{IsNextRank}
use Rattle.rr_walk.proofs.AloneRankLemmas.{on_chosen}
use Rattle.rr_walk.proofs.DayListLemmas.{passed_found}
use Rattle.rr_walk.proofs.PositionDayLemmas.{few_days, passed_next, passed_parted}
use Rattle.rr_walk.proofs.day_rule.DayRule.first_alone.Goals as goal

pub next_rank-requires-clause-count : goal.next_rank-requires-clause-count
next_rank-requires-clause-count c =
    let u = rw c.self.view_is at c.self.invariant in
    few_days c.args.self.now c.args.days.now u.freq c.requires.days

pub returns : goal.returns
returns c shown times is set =
    let i = c.self.inside in
    let r : Ruling = record { rule = i.rule; kind = i.kind; start = i.start; kept = i.number ∷ [] } in
    let known = c.self.invariant in
    let days = c.args.days.now in
    let from = c.args.from in
    let rank = c.count_before-rank.result in
    let found = c.in_ok-found.found in
    let x : ℤ = get_or days found (pos 0) in
    let fits : FitsSigned w64 x = search rules in
    let day : ℤ = to_z w64 (of_z w64 x) in
    let said : day ≡ shown = same_Some day shown is in
    let unit_days = rw (sym c.self.view_is) at c.requires.days in
    let stands = rw (sym c.self.view_is) at c.requires.positions in
    let own : IsSetOf nat_lt times (IsCandidateTime i.rule i.kind i.start) = rw (sym c.self.view_is) at set in
    let same : c.as_slice-times.result.now ≡ times =
    c.as_slice-times.ensures.same ∙ one_list_of_seconds (IsCandidateTime i.rule i.kind i.start) i.times times known.of_times own in
    let one : length times ≡ 1 = rw same at c.if-times-ne1.false in
    let late : c.first_second.result ≤ get_or times 0 0 = rw same at c.if-first_second-times.false in
    let at : IsNextRank i.rule.by_set_pos (length times) (length days) rank (Some found) = rw one c.in_ok-found.ensures in
    let counted = to_z-of_z c.ranges.from in
    let before = passed_parted (chosen_of i.rule i.kind i.start) days from rank (rw counted at c.count_before-rank.ensures.before) in
    let after : from ≤ℤ x = (rw counted at c.count_before-rank.ensures.not_before) found at.0 at.1 in
    let passed = passed_next r known.freq stands times own days unit_days from rank before found at in
    let first = rw (sym c.self.view_is) at c.first_second.ensures in
    let on = on_chosen r known.freq stands times own one (get_or times 0 0) refl days unit_days found at.1 at.2 day (to_z-of_z fits) c.first_second.result
    first late in
    rw (← said, ← c.self.view_is)
    (passed_found (chosen_of i.rule i.kind i.start) days from found day (record { day = day; times = times }) unit_days.1.rises at.1 (to_z-of_z fits)
    (omega (arith, ints, after, to_z-of_z fits)) on passed)
