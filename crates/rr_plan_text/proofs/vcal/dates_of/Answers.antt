use Rattle.std.proofs.Common.{rules, get_or, pos, w64, to_z, of_z, arith}
use Rattle.std.proofs.lemmas.List.{drop_all}
use Rattle.rr_plan_text.proofs.RisingLemmas.{all_put, none_put, one_put}
use Rattle.rr_plan_text.proofs.vcal.dates_of.Goals as goal

pub loop-value-init : goal.loop-value-init
loop-value-init c = none_put c.new-dates.result c.args.values.now c.new-dates.ensures c.requires

pub loop-value-preserved : goal.loop-value-preserved
loop-value-preserved c =
    one_put c.loop-value.dates c.put.new.self c.args.values.now c.loop-value.value-index
    (to_z w64 (of_z w64 (get_or c.args.values.now c.loop-value.value-index (pos 0)))) (pos 0) c.loop-value-test.true (search rules)
    c.loop-value.invariant c.in_ok-put.ensures.ok

pub returns : goal.returns
returns c =
    all_put c.loop-value.dates c.args.values.now c.loop-value.value-index
    (drop_all c.loop-value.value-index c.args.values.now (omega (arith, c.loop-value-test.false))) c.loop-value.invariant
