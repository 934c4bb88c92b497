use Rattle.std.proofs.Common.{◌≡◌, ◌∙◌, sym, ap, subst, arith, ℤ, Bool, pos, ◌+ℤ◌, w64, to_z, of_z, to_z-of_z}
use Rattle.std.proofs.lemmas.Int.{ints}
use Rattle.std.specs.Prelude.{int_lt}
use Rattle.rr_model.specs.Rising.Sets.{IsSetOf}
use Rattle.rr_model.specs.Rule.Candidate.{date_parts_hold}
use Rattle.rr_model.specs.Rule.Filled.{filled_rule}
use Rattle.rr_model.specs.declared.kind.Kind.TheVariants.{Days}
use Rattle.rr_expand.specs.Expansion.{IsAllowedDay}
use Rattle.rr_expand.proofs.DaySets.{days_more, days_same}
use Rattle.rr_expand.proofs.unit_days.days_from.Goals as goal
use Rattle.rr_expand.proofs.unit_days.days_from.Goals.{then-date_parts_hold+in_ok-put, else-date_parts_hold}

pub loop-k-preserved : goal.loop-k-preserved
loop-k-preserved c =
    let first = to_z w64 (of_z w64 c.args.first) in
    let test : ℤ → Bool = date_parts_hold (filled_rule c.args.rule.now Days c.args.start.now.number) in
    let n = c.loop-k.k in
    elim c.if-date_parts_hold.branch [
      | then-date_parts_hold+in_ok-put w ↦
          let x = to_z w64 (of_z w64 c.new-day.result.number) in
          let at : x ≡ first +ℤ pos n = omega (arith, ints, c.new-day.ensures, c.from.ensures, c.requires.first) in
          let same : x ≡ c.new-day.result.number = omega (arith, ints, c.new-day.ensures) in
          let passes = ap test same ∙ sym c.date_parts_hold.ensures ∙ w.if-date_parts_hold.true in
          rw w.days-is (days_more first test c.loop-k.days w.put.new.self n x at c.loop-k.invariant passes w.in_ok-put.ensures.ok)
      | else-date_parts_hold w ↦
          let x = c.new-day.result.number in
          let at : x ≡ first +ℤ pos n = omega (arith, ints, c.new-day.ensures, c.from.ensures, c.requires.first) in
          rw w.days-is (days_same first test c.loop-k.days n x at c.loop-k.invariant (sym c.date_parts_hold.ensures ∙ w.if-date_parts_hold.false))
    ]

pub returns : goal.returns
returns c =
    let last : c.loop-k.k ≡ c.args.count = omega (arith, c.loop-k.auto.k-end, c.loop-k-test.false) in
    subst (λ n. IsSetOf int_lt c.loop-k.days (IsAllowedDay c.args.rule.now c.args.start.now.number c.args.first n)) last
    (rw (to_z-of_z c.ranges.first) at c.loop-k.invariant)
