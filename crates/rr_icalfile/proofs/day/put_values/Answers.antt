use Rattle.std.proofs.Common.{rules, tests, length, arith}
use Rattle.std.specs.List.{slice_split}
use Rattle.std.proofs.lemmas.Iterator.Consumers.{YieldsList-turn, YieldsList-end}
use Rattle.std.proofs.lemmas.Iterator.Splits.{YieldsList-from_slice_split}
use Rattle.std.proofs.lemmas.List.{length_push}
use Rattle.rr_model.specs.Text.Calendars.{is_comma}
use Rattle.rr_icalfile.specs.Days.{value_line}
use Rattle.rr_icalfile.proofs.DayLemmas.{put_last, put_next}
use Rattle.rr_icalfile.proofs.day.put_values.Goals as goal

pub loop-text-preserved : goal.loop-text-preserved
loop-text-preserved c =
    let turn = YieldsList-turn (YieldsList-from_slice_split _ is_comma c.args.value.now (cc) (cc) (cc) (λ x b q k. search (rules, tests)))
    c.loop-text.yielded _ c.loop-text.yielded_by _ _ c.in-Some.text c.in-Some.is c.next.ensures.steps in
    put_next (value_line c.args.time.now c.args.line.now) (slice_split is_comma c.args.value.now) c.loop-text.used _ _ (length c.loop-text.yielded) _
    c.in-Some.text.now turn (length_push c.loop-text.yielded c.in-Some.text) (search rules) c.loop-text.invariant

pub returns : goal.returns
returns c =
    let end = YieldsList-end (YieldsList-from_slice_split _ is_comma c.args.value.now (cc) (cc) (cc) (λ x b q k. search (rules, tests)))
    c.loop-text.yielded _ c.loop-text.yielded_by _ _ c.in-None.is c.next.ensures.steps in
    put_last (value_line c.args.time.now c.args.line.now) (slice_split is_comma c.args.value.now) c.loop-text.used _ (length c.loop-text.yielded)
    (omega (arith, end.1)) c.loop-text.invariant
