use Rattle.std.proofs.Common.{◌∙◌, sym, ℕ, Bool, arith}
use Rattle.rr_model.proofs.CountLemmas.{count_seconds-zero, count_seconds-le, below_more, below_same}
use Rattle.rr_parts.specs.Numbers.{number_allowed}
use Rattle.rr_setpos.proofs.time_counts.count_allowed.Goals as goal
use Rattle.rr_setpos.proofs.time_counts.count_allowed.Goals.{then-allows_filled, else-allows_filled}

pub loop-n-init : goal.loop-n-init
loop-n-init c = sym (count_seconds-zero (λ m. number_allowed c.args.is_wanted c.args.part.now c.args.own m))

pub overflow_add-count : goal.overflow_add-count
overflow_add-count c = omega (
  arith,
  c.loop-n.invariant,
  count_seconds-le
      (λ m. number_allowed c.args.is_wanted c.args.part.now c.args.own m) c.loop-n.n,
  c.loop-n.auto.n-end,
)

pub loop-n-preserved : goal.loop-n-preserved
loop-n-preserved c =
    let test : ℕ → Bool = λ m. number_allowed c.args.is_wanted c.args.part.now c.args.own m in
    elim c.if-allows_filled.branch [
      | then-allows_filled w ↦ omega (
        arith,
        w.count-is,
        c.loop-n.invariant,
        below_more test c.loop-n.n (sym c.allows_filled.ensures ∙ w.if-allows_filled.true),
        count_seconds-le test c.loop-n.n,
        c.loop-n.auto.n-end,
      )
      | else-allows_filled w ↦ omega
          (arith, w.count-is, c.loop-n.invariant, below_same test c.loop-n.n (sym c.allows_filled.ensures ∙ w.if-allows_filled.false))
    ]

pub returns-clause-few : goal.returns-clause-few
returns-clause-few c = omega (
  arith,
  c.loop-n.invariant,
  count_seconds-le
      (λ m. number_allowed c.args.is_wanted c.args.part.now c.args.own m) c.loop-n.n,
  c.loop-n.auto.n-end,
)
