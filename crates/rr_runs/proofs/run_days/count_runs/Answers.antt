use Rattle.std.proofs.Common.{◌≡◌, ◌<◌, ℕ, List, ap, drop, length, length-drop, sym, ◌∙◌, take, to_z, of_z, w64, arith}
use Rattle.std.proofs.lemmas.Int.{ints, to_z-of_z}
use Rattle.std.proofs.lemmas.List.{get_or-drop, take_all}
use Rattle.rr_runs.specs.Runs.{days_of, run_count}
use Rattle.rr_runs.proofs.RunLemmas.{count_is, day_more}
use Rattle.rr_runs.proofs.run_days.count_runs.Goals as goal

pub loop-index-preserved : goal.loop-index-preserved
loop-index-preserved c =
    let row = drop c.args.skipped c.args.row.now in
    let within : c.loop-index.index < length row = omega (arith, c.len.ensures.value, length-drop c.args.skipped c.args.row.now) in (
      day_more (to_z w64 (of_z w64 c.args.first)) _ row c.loop-index.index c.number_at.result c.loop-index.count c.count_told-count.result
          within (c.number_at.ensures ∙ sym (get_or-drop c.args.skipped c.args.row.now c.loop-index.index 0)) (omega (arith, ints))
          c.count_told-count.ensures.counted c.loop-index.invariant.0,
      (λ some. omega (arith, ints, c.count_told-count.ensures.last some)),
      c.count_told-count.ensures.near,
      omega (arith, c.count_told-count.ensures.few, c.loop-index.invariant.3),
    )

pub returns : goal.returns
returns c =
    let row = drop c.args.skipped c.args.row.now in
    let first = to_z-of_z w64 c.args.first c.ranges.first in
    let whole : take c.loop-index.index row ≡ row =
    take_all c.loop-index.index row (omega (arith, c.len.ensures.value, length-drop c.args.skipped c.args.row.now)) in
    count_is (days_of (to_z w64 (of_z w64 c.args.first)) (take c.loop-index.index row)) c.loop-index.count c.loop-index.invariant.0
    ∙ ap (λ (l : List ℕ). run_count (days_of (to_z w64 (of_z w64 c.args.first)) l)) whole
    ∙ ap (λ d. run_count (days_of d row)) first
