use Rattle.std.proofs.Common.{◌≡◌, arith, sym, subst, ◌∙◌, w64, to_z, of_z}
use Rattle.std.specs.Prelude.{Some}
use Rattle.std.proofs.lemmas.Int.{ints}
use Rattle.rr_model.specs.Sets.Sketch.{IsFirstDay}
use Rattle.rr_model.specs.declared.kind.Kind.TheVariants.{Days}
use Rattle.rr_model.proofs.YearLemmas.{years_are_tested}
use Rattle.rr_family.specs.Windows.{IsWindowOf}
use Rattle.rr_family.proofs.WalkLemmas.{has_window, no_second}
use Rattle.rr_family.proofs.window.window_of.Goals as goal

pub returns-in_err-second-clause-window : goal.returns-in_err-second-clause-window
returns-in_err-second-clause-window g c =
    let s = g.A.DaySeq.sketch c.args.seq.now in
    let near = c.in_ok-first.ensures.near in
    let back : c.in_ok-first.first ≡ to_z w64 (of_z w64 c.in_ok-first.first) = omega (arith, ints, near.0, near.1) in
    subst (λ r. IsWindowOf s r) (sym c.from_residual-in_err-second.ensures) (λ kind start years is.
    no_second s (to_z w64 (of_z w64 c.in_ok-first.first)) kind start (subst (λ z. IsFirstDay s (Some z)) back c.in_ok-first.ensures.first)
    c.in_err-second.ensures is)

pub returns-clause-window : goal.returns-clause-window
returns-clause-window g c =
    has_window (g.A.DaySeq.sketch c.args.seq.now) c.kind.result c.in_ok-second.second (to_z w64 (of_z w64 c.in_ok-first.first)) c.day_after_first.result
    c.end_of.result (g.met.A.DaySeq.bounded c.args.seq.now).valid c.kind.ensures c.in_ok-second.ensures
    ((years_are_tested Days (to_z w64 (of_z w64 c.in_ok-first.first))).0 (sym c.has_four_digit_year.ensures ∙ c.if-not-has_four_digit_year.false))
    c.day_after_first.ensures.next c.end_of.ensures.end
