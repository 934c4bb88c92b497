use Rattle.std.proofs.Common.{rules, ◌≡◌, inl, inr, ap, subst, ◌∙◌, get_or, pos, w64, to_z, of_z, sym, arith}
use Rattle.std.proofs.lemmas.Bool.{cases_lt}
use Rattle.std.proofs.lemmas.List.{get_or_default}
use Rattle.rr_model.specs.Moment.Years.{IsInYears}
use Rattle.rr_model.proofs.YearLemmas.{years_are_tested}
use Rattle.rr_split.proofs.years.are_in_years.Goals as goal

pub loop-time-preserved : goal.loop-time-preserved
loop-time-preserved c k d l = elim (cases_lt k c.loop-time.time-index) [
  | inl before ↦ c.loop-time.invariant k d before
  | inr from ↦ (
      let times = c.args.times.now in
      let i = c.loop-time.time-index in
      let here : i ≡ k = omega (arith, l, from) in
      let back : to_z w64 (of_z w64 (get_or times i (pos 0))) ≡ get_or times i (pos 0) = search rules in
      let tested = sym c.is_in_years.ensures ∙ c.if-not-is_in_years.false in
      let lies = (years_are_tested c.args.kind (to_z w64 (of_z w64 (get_or times i (pos 0))))).0 tested in
      subst (IsInYears c.args.kind) (back ∙ get_or_default times i (pos 0) d c.loop-time-test.true ∙ ap (λ n. get_or times n d) here) lies)
]

pub returns-clause-all : goal.returns-clause-all
returns-clause-all c = λ e k d l. c.loop-time.invariant k d (let end = c.loop-time-test.false in omega (arith, l, end))
