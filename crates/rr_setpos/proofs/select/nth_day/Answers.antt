use Rattle.std.proofs.Common.{◌≡◌, ◌∙◌, sym, ap, ℤ, Bool, pos, ◌+ℤ◌, w64, to_z, of_z, arith}
use Rattle.std.proofs.lemmas.Int.{ints}
use Rattle.rr_model.specs.Rule.Candidate.{date_parts_hold}
use Rattle.rr_model.specs.Rule.Filled.{filled_rule}
use Rattle.rr_model.specs.declared.kind.Kind.TheVariants.{Days}
use Rattle.rr_model.proofs.CountLemmas.{count_from-zero, from_more, from_same}
use Rattle.rr_setpos.proofs.select.nth_day.Goals as goal
use Rattle.rr_setpos.proofs.select.nth_day.Goals.{then-date_parts_hold+else-left-eq0, else-date_parts_hold}

pub loop-k-init : goal.loop-k-init
loop-k-init c = omega (arith, count_from-zero (date_parts_hold (filled_rule c.args.rule.now Days c.args.start.now.number)) (to_z w64 (of_z w64 c.args.first)))

pub returns-then-left-eq0-clause-holds : goal.returns-then-left-eq0-clause-holds
returns-then-left-eq0-clause-holds c =
    let at : c.new.result.number ≡ c.args.first +ℤ pos c.loop-k.k = omega (arith, ints, c.new.ensures, c.from.ensures, c.requires.first) in
    ap (date_parts_hold (filled_rule c.args.rule.now Days c.args.start.now.number)) (sym at) ∙ sym c.date_parts_hold.ensures ∙ c.if-date_parts_hold.true

pub loop-k-preserved : goal.loop-k-preserved
loop-k-preserved c =
    let first = to_z w64 (of_z w64 c.args.first) in
    let test : ℤ → Bool = date_parts_hold (filled_rule c.args.rule.now Days c.args.start.now.number) in
    let n = c.loop-k.k in
    let x = c.new.result.number in
    let at : x ≡ first +ℤ pos n = omega (arith, ints, c.new.ensures, c.from.ensures, c.requires.first) in
    elim c.if-date_parts_hold.branch [
      | then-date_parts_hold+else-left-eq0 w ↦ omega
          (arith, w.left-is, w.if-left-eq0.false, c.loop-k.invariant, from_more test first n x at (sym c.date_parts_hold.ensures ∙ w.if-date_parts_hold.true))
      | else-date_parts_hold w ↦ omega
          (arith, w.left-is, c.loop-k.invariant, from_same test first n x at (sym c.date_parts_hold.ensures ∙ w.if-date_parts_hold.false))
    ]
