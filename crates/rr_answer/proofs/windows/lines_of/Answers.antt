use Rattle.std.proofs.Common.{rules, ◌≡◌, w64, to_z, of_z, pos, get_or, take_all, ap, ◌∙◌, arith}
use Rattle.rr_answer.specs.Listing.{listed_text}
use Rattle.rr_answer.proofs.WindowSaidLemmas.{one_more_time}
use Rattle.rr_answer.proofs.windows.lines_of.Goals as goal

pub push_occurrence-requires : goal.push_occurrence-requires
push_occurrence-requires c =
    let time = get_or c.args.times.now c.loop-time.time-index (pos 0) in
    let e : to_z w64 (of_z w64 time) ≡ time = search rules in
    rw e (c.requires c.loop-time.time-index (pos 0) c.loop-time-test.true)

pub loop-time-preserved : goal.loop-time-preserved
loop-time-preserved c =
    one_more_time c.args.kind c.args.times.now c.loop-time.time-index (pos 0)
    (to_z w64 (of_z w64 (get_or c.args.times.now c.loop-time.time-index (pos 0)))) c.loop-time.text.items c.push_occurrence.new.out.items
    c.loop-time-test.true (search rules) c.loop-time.invariant c.in_ok-push_occurrence.ensures

pub returns : goal.returns
returns c =
    c.loop-time.invariant ∙ ap (listed_text c.args.kind) (take_all c.loop-time.time-index c.args.times.now (omega (arith, c.loop-time-test.false)))
