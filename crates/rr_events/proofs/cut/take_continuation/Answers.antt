use Rattle.std.proofs.Common.{sym, ◌∙◌}
use Rattle.std.proofs.lemmas.List.{take_rest}
use Rattle.rr_events.proofs.PartLemmas.{blank-some, first-blank}
use Rattle.rr_events.proofs.cut.take_continuation.Goals as goal

pub slice_bounds-result-count : goal.slice_bounds-result-count
slice_bounds-result-count c =
    blank-some c.in-Some.line.now
    (first-blank c.args.text.now c.in-Some.line.now _ c.in-Some.ensures.lines ∙ sym c.begins_blank.ensures ∙ c.if-not-begins_blank.false)

pub returns : goal.returns
returns c = record {
  line = c.in-Some.line.now;
  cut = c.in-Some.ensures;
  blank = first-blank c.args.text.now c.in-Some.line.now _ c.in-Some.ensures.lines ∙ sym c.begins_blank.ensures ∙ c.if-not-begins_blank.false;
  adds = take_rest c.in-Some.line.now 1;
}

pub slice_bounds-result-start : goal.slice_bounds-result-start
slice_bounds-result-start c =
    blank-some c.in-Some.line.now
    (first-blank c.args.text.now c.in-Some.line.now _ c.in-Some.ensures.lines ∙ sym c.begins_blank.ensures ∙ c.if-not-begins_blank.false)
