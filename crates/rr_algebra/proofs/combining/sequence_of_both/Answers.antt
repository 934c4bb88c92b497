use Rattle.std.proofs.Common.{◌≡◌, w64, to_z, of_z, sym, subst, arith}
use Rattle.std.specs.Prelude.{IfSome}
use Rattle.std.specs.Int.{◌∣◌}
use Rattle.std.proofs.lemmas.Int.{ints}
use Rattle.rr_model.specs.Whole.Divisors.{IsLcm}
use Rattle.rr_algebra.specs.Combining.{AreTogether}
use Rattle.rr_algebra.proofs.TogetherLemmas.{multiple_some, none_early}
use Rattle.rr_algebra.proofs.combining.sequence_of_both.Goals as goal

pub combined_days-requires-clause-together : goal.combined_days-requires-clause-together
combined_days-requires-clause-together g c =
    let s = g.A.DaySeq.sketch c.args.one.now in
    let u = g.B.DaySeq.sketch c.args.other.now in
    let begin = c.earlier_day-begin.result in
    let middle = c.earlier_day.result in
    let settled = c.later_day-settled.result in
    let period = c.unwrap-period.result in
    let nb = c.earlier_day-begin.ensures.near in
    let nm = c.earlier_day.ensures.near in
    let nq = c.later_day-settled.ensures.near in
    let b : to_z w64 (of_z w64 begin) ≡ begin = omega (arith, ints, nb.0, nb.1) in
    let m : to_z w64 (of_z w64 middle) ≡ middle = omega (arith, ints, nm.0, nm.1) in
    let q : to_z w64 (of_z w64 settled) ≡ settled = omega (arith, ints, nq.0, nq.1) in
    let na = c.settled.ensures.near in
    let nc = c.settled-2.ensures.near in
    let sa : to_z w64 (of_z w64 c.settled.result) ≡ s.settled = omega (arith, ints, na.0, na.1, c.settled.ensures.value) in
    let sc : to_z w64 (of_z w64 c.settled-2.result) ≡ u.settled = omega (arith, ints, nc.0, nc.1, c.settled-2.ensures.value) in
    let multiple : IsLcm c.period.result c.period-2.result period =
    subst (λ o. IfSome o (IsLcm c.period.result c.period-2.result)) c.unwrap-period.ensures c.lcm_within.ensures.least in
    let together : AreTogether s u begin settled period = record {
      order = (let x = c.earlier_day-begin.ensures.not_after in let y = c.earlier_day.ensures.not_after in omega (arith, ints, x, y, m, q));
      some = multiple_some c.period.result c.period-2.result period c.period.ensures.some c.period-2.ensures.some multiple;
      first = (let x = c.later_day-settled.ensures.first in omega (arith, ints, x, sa));
      second = (let x = c.later_day-settled.ensures.second in omega (arith, ints, x, sc));
      of_first = subst (λ p. p ∣ period) c.period.ensures.value multiple.0;
      of_second = subst (λ p. p ∣ period) c.period-2.ensures.value multiple.1;
      none_first = none_early s c.first.result begin c.first.ensures.first c.earlier_day-begin.ensures.not_first;
      none_second = λ d l. none_early u c.first-2.result middle c.first-2.ensures.first c.earlier_day.ensures.not_first d
          (let x = c.earlier_day-begin.ensures.not_after in omega (arith, ints, x, m, l));
    } in
    subst (λ z. AreTogether s u z (to_z w64 (of_z w64 settled)) period) (sym b) (subst (λ z. AreTogether s u begin z period) (sym q) together)
