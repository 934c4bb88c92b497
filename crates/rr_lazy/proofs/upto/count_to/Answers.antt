use Rattle.std.proofs.Common.{rules, ◌≡◌, ℕ, List, [], arith, get_or, take, ltb, ltb-true, to_z-of_z, sym, subst, ◌∙◌, FitsSigned, w64}
use Rattle.std.proofs.lemmas.List.{length-take-le}
use Rattle.std.proofs.lemmas.Int.{ints}
use Rattle.rr_model.specs.Moment.{day_part}
use Rattle.rr_lazy.specs.Upto.{IsSecondsTo, IsUpTo}
use Rattle.std.proofs.lemmas.Bool.{ltb-false}
use Rattle.std.proofs.lemmas.Option.{get_or_from_slice_get}
use Rattle.std.proofs.lemmas.List.Sorted.{IsPartitionPoint-from_clause, IsPartitionedBy-ltb, IsNonDecreasingBy-from_default}
use Rattle.rr_times.specs.Split.{SplitsAt}
use Rattle.rr_times.proofs.SplitLemmas.{rising_le}
use Rattle.rr_lazy.proofs.FirstLemmas.{take_less}
use Rattle.rr_lazy.proofs.UptoLemmas.{cut_before, cut_to}
use Rattle.rr_lazy.proofs.upto.count_to.Goals as goal

pub returns-clause-seconds : goal.returns-clause-seconds
returns-clause-seconds c =
    let whole : List ℕ = get_or c.args.sets.now c.args.found.number.index [] in
    let times : List ℕ = take c.args.found.count whole in
    let same : c.as_slice.result.now ≡ whole =
    c.as_slice.ensures.same ∙ sym (get_or_from_slice_get c.args.sets.now c.args.found.number.index c.times.result.now [] c.times.ensures) in
    let within = rw same at c.partition_point.ensures.bound in
    let parted = rw same at c.partition_point.ensures.partitioned in
    let sorted = IsPartitionedBy-ltb (λ s. s) times c.seconds_to-bound.result
    (IsNonDecreasingBy-from_default (λ s. s) times 0 (rising_le times c.requires.of_day.rises)) in
    let point = IsPartitionPoint-from_clause (λ s. ltb s c.seconds_to-bound.result) _ _ parted sorted (λ a r q k. search rules) in
    let split : SplitsAt times c.partition_point.result c.seconds_to-bound.result = record {
      within = within;
      below = λ k h. ltb-true _ _ (point.0 k 0 (omega arith) h);
      from = λ k h l. ltb-false _ _ (point.1 k 0 h l);
    } in
    let fits : FitsSigned w64 c.args.found.day = search rules in
    let until : IsSecondsTo c.args.kind c.args.at c.args.found.day c.seconds_to-bound.result =
    rw (to_z-of_z c.ranges.at, to_z-of_z fits) at c.seconds_to-bound.ensures in
    subst (λ xs. IsUpTo c.args.kind c.args.at c.args.found.day times xs)
    (take_less c.partition_point.result c.args.found.count whole (omega (arith, within, length-take-le c.args.found.count whole c.requires.within.1)))
    (cut_to c.args.kind c.args.at c.args.found.day times c.requires.of_day c.seconds_to-bound.result c.partition_point.result until split)

pub returns-then-found-day_part-clause-seconds : goal.returns-then-found-day_part-clause-seconds
returns-then-found-day_part-clause-seconds c =
    let fits : FitsSigned w64 c.args.found.day = search rules in
    let last : FitsSigned w64 c.day_part.result = record { sfits = c.day_part.type_inv } in
    let e : c.day_part.result ≡ day_part c.args.kind c.args.at = rw (to_z-of_z c.ranges.at) at c.day_part.ensures in
    cut_before c.args.kind c.args.at c.args.found.day (take c.args.found.count (get_or c.args.sets.now c.args.found.number.index [])) c.requires.of_day
    (omega (arith, ints, to_z-of_z fits, to_z-of_z last, e, c.if-found-day_part.true))
