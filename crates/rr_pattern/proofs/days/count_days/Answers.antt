use Rattle.std.proofs.Common.{arith, sym, ap, ◌∙◌, ◌≡◌, refl, ◌+◌, pos, ◌+ℤ◌, w64, to_z, of_z}
use Rattle.std.proofs.lemmas.Int.{ints}
use Rattle.rr_model.proofs.CountLemmas.{count_from-zero, from_more, from_same}
use Rattle.rr_model.specs.Graph.Occurrences.{is_day_in}
use Rattle.rr_model.specs.Graph.Counterpart.{has_weekday}
use Rattle.rr_pattern.proofs.days.count_days.Goals.{then-is_day_in, else-is_day_in}
use Rattle.rr_pattern.proofs.days.count_days.Goals as goal

pub loop-k-init : goal.loop-k-init
loop-k-init c = (sym (count_from-zero (is_day_in c.args.days) (to_z w64 (of_z w64 c.args.first))), omega arith)

pub loop-k-preserved : goal.loop-k-preserved
loop-k-preserved c =
    let q = to_z w64 (of_z w64 c.args.first) in
    let x = to_z w64 (of_z w64 (q +ℤ to_z w64 (of_z w64 c.from.result))) in
    let k = c.loop-k.k in
    let at : q +ℤ pos k ≡ x = omega (arith, ints, c.from.ensures, c.requires.near.0, c.requires.near.1) in
    let test : is_day_in c.args.days (q +ℤ pos k) ≡ c.is_day_in.result =
    ap (is_day_in c.args.days) at ∙ ap (has_weekday c.args.days) (sym c.weekday.ensures.value) ∙ sym c.is_day_in.ensures in
    elim c.if-is_day_in.branch [
      | then-is_day_in w ↦ (
        w.count-is ∙ ap (λ n. n + 1) c.loop-k.invariant.0 ∙ sym (from_more (is_day_in c.args.days) q k (q +ℤ pos k) refl (test ∙ w.if-is_day_in.true)),
        omega (arith, w.count-is, c.loop-k.invariant.1),
      )
      | else-is_day_in w ↦ (
        w.count-is ∙ c.loop-k.invariant.0 ∙ sym (from_same (is_day_in c.args.days) q k (q +ℤ pos k) refl (test ∙ w.if-is_day_in.false)),
        omega (arith, w.count-is, c.loop-k.invariant.1),
      )
    ]
