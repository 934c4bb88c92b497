use Rattle.std.proofs.Common.{◌≡◌, ◌∷◌, ◌++◌, ◌∙◌, pos, rules, w64, to_z, of_z}
use Rattle.std.specs.Fmt.{signed_decimal}
use Rattle.rr_rrule.proofs.PushLemmas.{after_comma, all_written, first_written}
use Rattle.rr_rrule.proofs.part_text.push_numbers.Goals as goal

pub loop-other-preserved : goal.loop-other-preserved
loop-other-preserved c =
    after_comma signed_decimal c.loop-other.line.items c.push.new.self.items c.push_number-in-loop-other.new.out.items _ c.args.others.now
    c.loop-other.other-index (to_z w64 (of_z w64 c.from-in-loop-other.result)) (pos 0) c.loop-other-test.true (search rules)
    c.loop-other.invariant c.in_ok-push.ensures.items c.in_ok-push_number-2.ensures.ok

pub returns : goal.returns
returns c =
    let first : c.push_number.new.out.items ≡ c.args.line.now.items ++ signed_decimal c.args.first = search rules in
    all_written (λ n. 44 ∷ signed_decimal n) c.loop-other.line.items _ c.args.others.now c.loop-other.other-index c.loop-other-test.false
    c.loop-other.invariant
    ∙ first_written signed_decimal c.args.line.now.items c.push_number.new.out.items c.args.first c.args.others.now first
