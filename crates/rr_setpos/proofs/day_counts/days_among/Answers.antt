use Rattle.std.proofs.Common.{◌≡◌, ◌∙◌, sym, ℤ, Bool, pos, ◌+ℤ◌, w64, to_z, of_z, arith}
use Rattle.std.proofs.lemmas.Int.{ints}
use Rattle.rr_model.specs.Rule.Candidate.{date_parts_hold}
use Rattle.rr_model.specs.Rule.Filled.{filled_rule}
use Rattle.rr_model.specs.declared.kind.Kind.TheVariants.{Days}
use Rattle.rr_model.proofs.CountLemmas.{count_from-zero, count_from-le, from_more, from_same}
use Rattle.rr_setpos.proofs.day_counts.days_among.Goals as goal
use Rattle.rr_setpos.proofs.day_counts.days_among.Goals.{then-date_parts_hold, else-date_parts_hold}

pub loop-k-init : goal.loop-k-init
loop-k-init c = sym (count_from-zero (date_parts_hold (filled_rule c.args.rule.now Days c.args.start.now.number)) (to_z w64 (of_z w64 c.args.first)))

pub overflow_add-days : goal.overflow_add-days
overflow_add-days c = omega (
  arith,
  c.loop-k.invariant,
  count_from-le (date_parts_hold (filled_rule c.args.rule.now Days c.args.start.now.number))
      (to_z w64 (of_z w64 c.args.first)) c.loop-k.k,
  c.loop-k.auto.k-end,
)

pub loop-k-preserved : goal.loop-k-preserved
loop-k-preserved c =
    let first = to_z w64 (of_z w64 c.args.first) in
    let test : ℤ → Bool = date_parts_hold (filled_rule c.args.rule.now Days c.args.start.now.number) in
    let n = c.loop-k.k in
    let x = c.new.result.number in
    let at : x ≡ first +ℤ pos n = omega (arith, ints, c.new.ensures, c.from.ensures, c.requires.first) in
    elim c.if-date_parts_hold.branch [
      | then-date_parts_hold w ↦ omega (
        arith,
        w.days-is,
        c.loop-k.invariant,
        from_more test first n x at (sym c.date_parts_hold.ensures ∙ w.if-date_parts_hold.true),
        count_from-le test first n,
        c.loop-k.auto.k-end,
      )
      | else-date_parts_hold w ↦ omega
          (arith, w.days-is, c.loop-k.invariant, from_same test first n x at (sym c.date_parts_hold.ensures ∙ w.if-date_parts_hold.false))
    ]

pub returns-clause-few : goal.returns-clause-few
returns-clause-few c = omega (
  arith,
  c.loop-k.invariant,
  count_from-le (date_parts_hold (filled_rule c.args.rule.now Days c.args.start.now.number))
      (to_z w64 (of_z w64 c.args.first)) c.loop-k.k,
  c.loop-k.auto.k-end,
)
