use Rattle.std.proofs.Common.{◌≡◌, [], length, inl, inr, refl, sym, ap, subst, ◌∙◌, arith}
use Rattle.std.specs.Prelude.{Some, None, option_map}
use Rattle.std.proofs.lemmas.Bool.{false≢true}
use Rattle.std.proofs.lemmas.Result.{IfOk-weaker}
use Rattle.rr_model.specs.Sets.DescriptorText.{text_of_lines}
use Rattle.rr_days.specs.Sequence.{sketch}
use Rattle.rr_algebra.specs.Expanded.{AreExpandable}
use Rattle.rr_algebra.specs.Found.{begins_with}
use Rattle.rr_algebra.specs.Parts.{parts_in, parts_lines}
use Rattle.rr_algebra.specs.Stated.{BeginsReadKindSets, parts_of}
use Rattle.rr_algebra.proofs.ItemLemmas.{refused_result, refused_weaker}
use Rattle.rr_algebra.proofs.StatedLemmas.{all_parts_found, kind_found, none_begins, one_parts, sets_begin, sets_found, said_few, said_is, says_no_none}
use Rattle.rr_algebra.proofs.read.read_days.Goals as goal

pub returns-then-begins_with-clause-days : goal.returns-then-begins_with-clause-days
returns-then-begins_with-clause-days c = record {
  none = λ n. c.in_ok-empty_sequence.ensures.days;
  some = λ d says. absurd (false≢true (sym (says_no_none c.args.body.now d says) ∙ sym c.begins_with.ensures ∙ c.if-begins_with.true));
}

pub returns-clause-days : goal.returns-clause-days
returns-clause-days c =
    let body = c.args.body.now in
    let kind = c.take_kind-kind.result.0 in
    let rest0 = c.take_kind-kind.result.1.now in
    let shapes = c.take_kind_sets.new.shapes in
    let found = c.in-Ok.found in
    IfOk-weaker c.sequence_of_parts.result _ _
    (λ f e. record {
      none = λ n. absurd (false≢true (sym c.if-begins_with.false ∙ c.begins_with.ensures ∙ ap (begins_with 110) n ∙ none_begins));
      some = λ d says.
          let sets = sets_found body kind rest0 shapes found.1.now d says c.take_kind-kind.ensures c.in-Ok.ensures.found in
          let all = all_parts_found body kind rest0 shapes found.1.now d says c.take_kind-kind.ensures c.in-Ok.ensures.found
          (option_map parts_in c.in_ok-parts.field-0) c.in_ok-parts.ensures in
          let parts = one_parts (parts_in c.in-Some.parts) (parts_of d) (ap (option_map parts_in) (sym c.in-Some.is) ∙ all) in (
            said_is body d says kind found.0 shapes (parts_in c.in-Some.parts) (sketch f)
                (kind_found body kind rest0 shapes found.1.now d says c.take_kind-kind.ensures) sets.0 parts e,
            said_few body d says kind found.0 shapes (parts_in c.in-Some.parts) (sketch f)
                (kind_found body kind rest0 shapes found.1.now d says c.take_kind-kind.ensures) sets.0 parts c.in-Ok.ensures.room,
          );
    }) c.sequence_of_parts.ensures.expanded

pub returns-clause-refused : goal.returns-clause-refused
returns-clause-refused c =
    let body = c.args.body.now in
    let kind = c.take_kind-kind.result.0 in
    let rest0 = c.take_kind-kind.result.1.now in
    let shapes = c.take_kind_sets.new.shapes in
    let found = c.in-Ok.found in
    refused_result (AreExpandable found.0 (parts_in c.in-Some.parts)) _ c.sequence_of_parts.result
    (λ q. elim q [
      | inl n ↦ absurd (false≢true (sym c.if-begins_with.false ∙ c.begins_with.ensures ∙ ap (begins_with 110) n ∙ none_begins))
      | inr a ↦ (
          let says = a.says in
          let sets = sets_found body kind rest0 shapes found.1.now a.said says c.take_kind-kind.ensures c.in-Ok.ensures.found in
          let all = all_parts_found body kind rest0 shapes found.1.now a.said says c.take_kind-kind.ensures c.in-Ok.ensures.found
          (option_map parts_in c.in_ok-parts.field-0) c.in_ok-parts.ensures in
          let parts = one_parts (parts_in c.in-Some.parts) (parts_of a.said) (ap (option_map parts_in) (sym c.in-Some.is) ∙ all) in
          subst (AreExpandable found.0) (sym parts) (a.expandable found.0 (omega (arith, c.in-Ok.ensures.has.whole, ap length sets.0))))
    ]) c.sequence_of_parts.ensures.refused

pub returns-in-Err-clause-refused : goal.returns-in-Err-clause-refused
returns-in-Err-clause-refused c =
    let body = c.args.body.now in
    let kind = c.take_kind-kind.result.0 in
    let rest0 = c.take_kind-kind.result.1.now in
    refused_weaker (BeginsReadKindSets kind rest0) _ c.in-Err.fault
    (λ q. elim q [
      | inl n ↦ absurd (false≢true (sym c.if-begins_with.false ∙ c.begins_with.ensures ∙ ap (begins_with 110) n ∙ none_begins))
      | inr a ↦ record {
        sets = a.said.sets;
        rest = text_of_lines (parts_lines (parts_of a.said));
        begins = sets_begin body kind rest0 [] [] a.said a.says c.take_kind-kind.ensures;
        read = a.read;
      }
    ]) c.in-Err.ensures.refused

pub returns-in_default-clause-refused : goal.returns-in_default-clause-refused
returns-in_default-clause-refused c =
    let body = c.args.body.now in
    let kind = c.take_kind-kind.result.0 in
    let rest0 = c.take_kind-kind.result.1.now in
    let shapes = c.take_kind_sets.new.shapes in
    let found = c.in-Ok.found in (
      refl,
      (λ q. elim q [
        | inl n ↦ absurd (false≢true (sym c.if-begins_with.false ∙ c.begins_with.ensures ∙ ap (begins_with 110) n ∙ none_begins))
        | inr a ↦ (
            let all = all_parts_found body kind rest0 shapes found.1.now a.said a.says c.take_kind-kind.ensures c.in-Ok.ensures.found
            (option_map parts_in c.in_ok-parts.field-0) c.in_ok-parts.ensures in
            let none : None ≡ Some (parts_of a.said) = ap (option_map parts_in) (sym c.in_default.is) ∙ all in
            absurd (cc))
      ]),
    )
