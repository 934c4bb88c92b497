use Rattle.std.proofs.Common.{◌∙◌, sym, ap, [], rules, FitsSigned, w64, to_z-of_z}
use Rattle.std.specs.Prelude.{nat_lt}
use Rattle.std.proofs.lemmas.Result.{IfOk-weaker}
use Rattle.rr_model.specs.Moment.{day_part}
use Rattle.rr_model.specs.Rising.Sets.{IsSetOf}
use Rattle.rr_model.specs.declared.kind.Kind.TheVariants.{Moments}
use Rattle.rr_expand.specs.Expansion.{IsCandidateSecond, IsFittingSecond}
use Rattle.rr_expand.proofs.SetLemmas.{ok_set}
use Rattle.rr_expand.proofs.FinerLemmas.{dates_are, candidate_seconds, no_candidate_seconds}
use Rattle.rr_expand.proofs.finer.seconds_on.Goals as goal

pub returns-then-not-date_parts_hold : goal.returns-then-not-date_parts_hold
returns-then-not-date_parts_hold c =
    let fits : FitsSigned w64 c.day_part.result = search rules in
    let start_day = c.new-start_day.ensures ∙ to_z-of_z fits ∙ c.day_part.ensures ∙ ap (day_part Moments) (to_z-of_z c.ranges.start) in
    let day = c.new.ensures ∙ to_z-of_z c.ranges.day in
    let dates = dates_are c.args.rule.now c.args.start c.args.day _ _ _ start_day day c.date_parts_hold.ensures in
    ok_set (IsCandidateSecond c.args.rule.now c.args.start c.args.day) [] c.of.result
    (no_candidate_seconds c.args.rule.now c.args.start c.args.day (sym dates ∙ c.if-not-date_parts_hold.true)) c.of.ensures

pub returns : goal.returns
returns c =
    let fits : FitsSigned w64 c.day_part.result = search rules in
    let start_day = c.new-start_day.ensures ∙ to_z-of_z fits ∙ c.day_part.ensures ∙ ap (day_part Moments) (to_z-of_z c.ranges.start) in
    let day = c.new.ensures ∙ to_z-of_z c.ranges.day in
    let dates = dates_are c.args.rule.now c.args.start c.args.day _ _ _ start_day day c.date_parts_hold.ensures in
    let found = rw (to_z-of_z c.ranges.start, to_z-of_z c.ranges.day) at c.fitting_seconds.ensures in
    IfOk-weaker c.fitting_seconds.result (λ t. IsSetOf nat_lt t (IsFittingSecond c.args.rule.now c.args.start c.args.day))
    (λ t. IsSetOf nat_lt t (IsCandidateSecond c.args.rule.now c.args.start c.args.day))
    (λ t h. candidate_seconds c.args.rule.now c.args.start c.args.day t (sym dates ∙ c.if-not-date_parts_hold.false) h) found
