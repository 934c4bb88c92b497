use Rattle.std.proofs.Common.{take_all, ap, ◌∙◌, arith}
use Rattle.std.specs.Prelude.{flat_map}
use Rattle.rr_answer.specs.Differing.{difference_line}
use Rattle.rr_answer.proofs.DifferingLemmas.{one_more_difference}
use Rattle.rr_answer.proofs.differing.lines_of.Goals as goal

pub push_difference-requires : goal.push_difference-requires
push_difference-requires c = c.requires c.loop-one.one-index _ c.loop-one-test.true

pub loop-one-preserved : goal.loop-one-preserved
loop-one-preserved c =
    one_more_difference c.args.differences.now c.loop-one.one-index _ c.loop-one.text.items c.push_difference.new.out.items c.loop-one-test.true
    c.loop-one.invariant c.in_ok-push_difference.ensures

pub returns : goal.returns
returns c =
    c.loop-one.invariant ∙ ap (flat_map difference_line) (take_all c.loop-one.one-index c.args.differences.now (omega (arith, c.loop-one-test.false)))
