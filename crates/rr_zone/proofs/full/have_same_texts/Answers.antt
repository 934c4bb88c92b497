use Rattle.std.proofs.Common.{◌&&◌, ap, arith, sym, ◌∙◌}
use Rattle.rr_events.specs.RawLines.{lines_of}
use Rattle.rr_events.proofs.LineLemmas.{cut-of, no-cut}
use Rattle.rr_zone.specs.Zones.{have_same_texts, raw_lines_in}
use Rattle.rr_zone.proofs.FullLemmas.{both_ended, first_ended, texts_ended, texts_first}
use Rattle.rr_zone.proofs.full.have_same_texts.Goals as goal

pub returns-in_default-2 : goal.returns-in_default-2
returns-in_default-2 c =
    let rest = c.loop-cut.rest in
    let other = c.loop-cut.other in
    sym (texts_ended rest.first other.first rest.text.now other.text.now c.in-Some.cut.line c.in-Some.cut.after.now c.in-Some.cut.next
    (cut-of rest.first rest.text.now _ c.in-Some.cut c.in-Some.is c.in_ok-cut.ensures)
    (no-cut other.first other.text.now _ c.in_default-2.is c.in_ok-beside.ensures)) ∙ c.loop-cut.invariant.same

pub returns-then-not-has_same_text : goal.returns-then-not-has_same_text
returns-then-not-has_same_text c =
    let rest = c.loop-cut.rest in
    let other = c.loop-cut.other in
    sym (texts_first rest.first other.first rest.text.now other.text.now c.in-Some.cut.line c.in-Some-2.beside.line c.in-Some.cut.after.now
    c.in-Some-2.beside.after.now c.in-Some.cut.next c.in-Some-2.beside.next
    (cut-of rest.first rest.text.now _ c.in-Some.cut c.in-Some.is c.in_ok-cut.ensures)
    (cut-of other.first other.text.now _ c.in-Some-2.beside c.in-Some-2.is c.in_ok-beside.ensures)
    ∙ ap (λ b. b && have_same_texts (lines_of (raw_lines_in (record { text = c.in-Some.cut.after; first = c.in-Some.cut.next })))
    (lines_of (raw_lines_in (record { text = c.in-Some-2.beside.after; first = c.in-Some-2.beside.next }))))
    (sym c.has_same_text.ensures ∙ c.if-not-has_same_text.true)) ∙ c.loop-cut.invariant.same

pub loop-cut-preserved : goal.loop-cut-preserved
loop-cut-preserved c =
    let rest = c.loop-cut.rest in
    let other = c.loop-cut.other in
    let cut = cut-of rest.first rest.text.now _ c.in-Some.cut c.in-Some.is c.in_ok-cut.ensures in
    let beside = cut-of other.first other.text.now _ c.in-Some-2.beside c.in-Some-2.is c.in_ok-beside.ensures in
    record {
      same =
          sym (texts_first rest.first other.first rest.text.now other.text.now c.in-Some.cut.line c.in-Some-2.beside.line c.in-Some.cut.after.now
          c.in-Some-2.beside.after.now c.in-Some.cut.next c.in-Some-2.beside.next cut beside
          ∙ ap (λ b. b && have_same_texts (lines_of (raw_lines_in (record { text = c.in-Some.cut.after; first = c.in-Some.cut.next })))
          (lines_of (raw_lines_in (record { text = c.in-Some-2.beside.after; first = c.in-Some-2.beside.next }))))
          (sym c.has_same_text.ensures ∙ c.if-not-has_same_text.false)) ∙ c.loop-cut.invariant.same;
      few = omega (arith, cut.one.few, c.loop-cut.invariant.few);
      few_others = omega (arith, beside.one.few, c.loop-cut.invariant.few_others);
    }

pub returns : goal.returns
returns c =
    let rest = c.loop-cut.rest in
    let other = c.loop-cut.other in
    sym (first_ended rest.first other.first rest.text.now other.text.now _ _ _ (no-cut rest.first rest.text.now _ c.in_default.is c.in_ok-cut.ensures)
    (cut-of other.first other.text.now _ _ c.in-Some-3.is c.in_ok-_more.ensures)) ∙ c.loop-cut.invariant.same

pub returns-in_default-3 : goal.returns-in_default-3
returns-in_default-3 c =
    let rest = c.loop-cut.rest in
    let other = c.loop-cut.other in
    sym (both_ended rest.first other.first rest.text.now other.text.now (no-cut rest.first rest.text.now _ c.in_default.is c.in_ok-cut.ensures)
    (no-cut other.first other.text.now _ c.in_default-3.is c.in_ok-_more.ensures)) ∙ c.loop-cut.invariant.same
