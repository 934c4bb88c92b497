use Rattle.std.proofs.Common.{rules, ◌≡◌, ◌∙◌, FitsSigned, w64, to_z, of_z, to_z-of_z, ap}
use Rattle.std.proofs.lemmas.Option.{IfSome_then}
use Rattle.rr_model.specs.Moment.{moment_at}
use Rattle.rr_model.specs.declared.verdict.Side.TheVariants.{A, B}
use Rattle.rr_differ.proofs.FurtherLemmas.{ends_apart, ends_of_one, late_of_next, late_of_one, none_then, of_next_a, of_next_b}
use Rattle.rr_differ.proofs.further.difference_from.Given.{Over}
use Rattle.rr_differ.proofs.further.difference_from.Goals.{After-moment_at, After-moment_at-2, After-moment_at-in-None}
use Rattle.rr_differ.proofs.further.difference_from.Goals as goal

-- the number is that of the first second of the day
begins : (g : Over) (c : After-moment_at g) → to_z w64 (of_z w64 c.moment_at.result) ≡ moment_at (g.A.DaySeq.sketch c.args.a.now).kind c.args.day 0
begins g c =
    let fits : FitsSigned w64 c.moment_at.result = record { sfits = c.moment_at.type_inv } in
    to_z-of_z fits ∙ c.moment_at.ensures.value ∙ ap (λ k. moment_at k (to_z w64 (of_z w64 c.args.day)) 0) c.kind-then-eq.ensures
    ∙ ap (λ d. moment_at (g.A.DaySeq.sketch c.args.a.now).kind d 0) (to_z-of_z c.ranges.day)

begins_a : (g : Over) (c : After-moment_at-2 g) → to_z w64 (of_z w64 c.moment_at-2.result) ≡ moment_at (g.A.DaySeq.sketch c.args.a.now).kind c.args.day 0
begins_a g c =
    let fits : FitsSigned w64 c.moment_at-2.result = record { sfits = c.moment_at-2.type_inv } in
    to_z-of_z fits ∙ c.moment_at-2.ensures.value ∙ ap (λ k. moment_at k (to_z w64 (of_z w64 c.args.day)) 0) c.kind-3.ensures
    ∙ ap (λ d. moment_at (g.A.DaySeq.sketch c.args.a.now).kind d 0) (to_z-of_z c.ranges.day)

begins_b : (g : Over) (c : After-moment_at-in-None g)
    → to_z w64 (of_z w64 c.moment_at-in-None.result) ≡ moment_at (g.B.DaySeq.sketch c.args.b.now).kind c.args.day 0
begins_b g c =
    let fits : FitsSigned w64 c.moment_at-in-None.result = record { sfits = c.moment_at-in-None.type_inv } in
    to_z-of_z fits ∙ c.moment_at-in-None.ensures.value ∙ ap (λ k. moment_at k (to_z w64 (of_z w64 c.args.day)) 0) c.kind-in-None.ensures
    ∙ ap (λ d. moment_at (g.B.DaySeq.sketch c.args.b.now).kind d 0) (to_z-of_z c.ranges.day)

pub returns-then-eq-clause-none : goal.returns-then-eq-clause-none
returns-then-eq-clause-none g c =
    let s = g.A.DaySeq.sketch c.args.a.now in
    let u = g.B.DaySeq.sketch c.args.b.now in
    let same : s.kind ≡ u.kind = search rules in
    none_then c.next_from.result c.next_from.ensures.none
    (ends_of_one s u c.args.day (g.met.A.DaySeq.bounded c.args.a.now).valid (g.met.B.DaySeq.bounded c.args.b.now).valid same
    (to_z w64 (of_z w64 c.moment_at.result)) (begins g (goal.at.returns-then-eq-clause-none g c).After-moment_at))

pub returns-then-eq-clause-some : goal.returns-then-eq-clause-some
returns-then-eq-clause-some g c = IfSome_then c.next_from.result c.next_from.ensures.some (λ d next. next.differs)

pub returns-then-eq-clause-late : goal.returns-then-eq-clause-late
returns-then-eq-clause-late g c =
    let s = g.A.DaySeq.sketch c.args.a.now in
    let u = g.B.DaySeq.sketch c.args.b.now in
    let same : s.kind ≡ u.kind = search rules in
    IfSome_then c.next_from.result c.next_from.ensures.some
    (λ d next. late_of_one s u c.args.day (g.met.A.DaySeq.bounded c.args.a.now).valid (g.met.B.DaySeq.bounded c.args.b.now).valid same
    (to_z w64 (of_z w64 c.moment_at.result)) (begins g (goal.at.returns-then-eq-clause-late g c).After-moment_at) d next)

pub returns-in-Some-clause-some : goal.returns-in-Some-clause-some
returns-in-Some-clause-some g c =
    let s = g.A.DaySeq.sketch c.args.a.now in
    let u = g.B.DaySeq.sketch c.args.b.now in
    let apart : s.kind ≡ u.kind → ⊥ = search rules in
    of_next_a s u apart (to_z w64 (of_z w64 c.moment_at-2.result)) c.in-Some.one c.in-Some.ensures.some

pub returns-in-Some-clause-late : goal.returns-in-Some-clause-late
returns-in-Some-clause-late g c =
    late_of_next (g.A.DaySeq.sketch c.args.a.now) A c.args.day (to_z w64 (of_z w64 c.moment_at-2.result)) c.in-Some.one
    (begins_a g (goal.at.returns-in-Some-clause-late g c).After-moment_at-2) c.in-Some.ensures.some

pub returns-in-None-clause-none : goal.returns-in-None-clause-none
returns-in-None-clause-none g c =
    none_then c.one_from-in-None.result c.one_from-in-None.ensures.none
    (ends_apart (g.A.DaySeq.sketch c.args.a.now) (g.B.DaySeq.sketch c.args.b.now) c.args.day (to_z w64 (of_z w64 c.moment_at-2.result))
    (to_z w64 (of_z w64 c.moment_at-in-None.result)) (begins_a g (goal.at.returns-in-None-clause-none g c).After-moment_at-2)
    (begins_b g (goal.at.returns-in-None-clause-none g c).After-moment_at-in-None) c.in-None.ensures.none)

pub returns-in-None-clause-some : goal.returns-in-None-clause-some
returns-in-None-clause-some g c =
    let s = g.A.DaySeq.sketch c.args.a.now in
    let u = g.B.DaySeq.sketch c.args.b.now in
    let apart : s.kind ≡ u.kind → ⊥ = search rules in
    IfSome_then c.one_from-in-None.result c.one_from-in-None.ensures.some
    (λ d one. of_next_b s u apart (to_z w64 (of_z w64 c.moment_at-in-None.result)) d one)

pub returns-in-None-clause-late : goal.returns-in-None-clause-late
returns-in-None-clause-late g c =
    IfSome_then c.one_from-in-None.result c.one_from-in-None.ensures.some
    (λ d one. late_of_next (g.B.DaySeq.sketch c.args.b.now) B c.args.day (to_z w64 (of_z w64 c.moment_at-in-None.result)) d
    (begins_b g (goal.at.returns-in-None-clause-late g c).After-moment_at-in-None) one)
