use Rattle.std.proofs.Common.{ap, ◌∙◌, inl, refl}
use Rattle.std.specs.Prelude.{not}
use Rattle.std.proofs.lemmas.Result.{IfOk-weaker}
use Rattle.rr_days.specs.Sequence.{sketch}
use Rattle.rr_days.specs.declared.op.Op.TheVariants.{Union}
use Rattle.rr_algebra.proofs.JudgedLemmas.{alike_first, alike_second, judged_so, not_empty}
use Rattle.rr_algebra.proofs.TogetherLemmas.{first_is_empty, none_of, second_is_empty}
use Rattle.rr_algebra.proofs.combining.union_apart.Goals as goal

pub returns-then-is_none-clause-stands : goal.returns-then-is_none-clause-stands
returns-then-is_none-clause-stands g c =
    let s = g.A.DaySeq.sketch c.args.one.now in
    let u = g.B.DaySeq.sketch c.args.other.now in
    let none = none_of s c.first.result c.first.ensures.first (c.is_none.ensures ∙ ap not c.if-is_none.true) in
    IfOk-weaker c.with_itself.result _ _ (λ f h. first_is_empty s u (sketch f) none h) c.with_itself.ensures.stands

pub returns-then-is_none-2-clause-stands : goal.returns-then-is_none-2-clause-stands
returns-then-is_none-2-clause-stands g c =
    let s = g.A.DaySeq.sketch c.args.one.now in
    let u = g.B.DaySeq.sketch c.args.other.now in
    let none = none_of u c.first-2.result c.first-2.ensures.first (c.is_none-2.ensures ∙ ap not c.if-is_none-2.true) in
    IfOk-weaker c.with_itself-then-is_none-2.result _ _ (λ f h. second_is_empty s u (sketch f) none h) c.with_itself-then-is_none-2.ensures.stands

pub returns-then-is_none-clause-judged : goal.returns-then-is_none-clause-judged
returns-then-is_none-clause-judged g c =
    let s = g.A.DaySeq.sketch c.args.one.now in
    let u = g.B.DaySeq.sketch c.args.other.now in
    let none = none_of s c.first.result c.first.ensures.first (c.is_none.ensures ∙ ap not c.if-is_none.true) in
    judged_so Union s u Union u u (alike_second s u none) c.with_itself.result (λ mixed. mixed.first none) c.with_itself.ensures.refused

pub returns-then-is_none-2-clause-judged : goal.returns-then-is_none-2-clause-judged
returns-then-is_none-2-clause-judged g c =
    let s = g.A.DaySeq.sketch c.args.one.now in
    let u = g.B.DaySeq.sketch c.args.other.now in
    let none = none_of u c.first-2.result c.first-2.ensures.first (c.is_none-2.ensures ∙ ap not c.if-is_none-2.true) in
    judged_so Union s u Union s s (alike_first s u none) c.with_itself-then-is_none-2.result (λ mixed. mixed.second none)
    c.with_itself-then-is_none-2.ensures.refused

pub returns-clause-judged : goal.returns-clause-judged
returns-clause-judged g c =
    let s = g.A.DaySeq.sketch c.args.one.now in
    let u = g.B.DaySeq.sketch c.args.other.now in
    inl (
      refl,
      record {
        first = not_empty s c.first.result c.first.ensures.first (c.is_none.ensures ∙ ap not c.if-is_none.false);
        second = not_empty u c.first-2.result c.first-2.ensures.first (c.is_none-2.ensures ∙ ap not c.if-is_none-2.false);
        kinds = c.requires.apart;
      },
    )
