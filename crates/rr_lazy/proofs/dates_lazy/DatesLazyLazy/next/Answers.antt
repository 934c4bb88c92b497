use Rattle.std.proofs.Common.{rules, ◌≡◌, ◌+ℤ◌, pos, arith, w64, to_z, of_z, to_z-of_z, FitsSigned, length, ap, subst, sym}
use Rattle.std.specs.Prelude.{Some, None}
use Rattle.std.proofs.lemmas.Int.{ints}
use Rattle.rr_model.specs.Sets.Tree.{dates_of}
use Rattle.rr_lazy.specs.Next.{IsFirstOccupied}
use Rattle.rr_lazy.specs.Stretch.{IsFirstDate}
use Rattle.rr_lazy.proofs.FirstLemmas.{first_day_is}
use Rattle.rr_lazy.proofs.AheadLemmas.{day_fits}
use Rattle.rr_lazy.proofs.StretchLemmas.{dates_none, dates_some, placed}
use Rattle.rr_lazy.proofs.dates_lazy.DatesLazyLazy.next.Goals as goal

pub returns-in-None-clause-next : goal.returns-in-None-clause-next
returns-in-None-clause-next c =
    let s = c.args.self.now in
    let r = c.position_past-self.result in
    let fits : FitsSigned w64 s.position = search rules in
    let f = to_z-of_z fits in
    let t = to_z-of_z c.ranges.to in
    let q : to_z w64 (of_z w64 r) ≡ r = (let fr : FitsSigned w64 r = record { sfits = c.position_past-self.type_inv } in to_z-of_z fr) in
    let one = rw (f, t) at c.position_past-self.ensures.one in
    let none : IsFirstDate s.kind s.dates s.position c.args.to None = rw (c.in-None.is, f, t, c.as_slice.ensures.value) at c.first_date.ensures in
    rw q (dates_none s.kind s.dates s.position c.args.to r none one, rw f at c.position_past-self.ensures.kept, rw t at c.position_past-self.ensures.past, one)

pub invariant_of-self-in-Some : goal.invariant_of-self-in-Some
invariant_of-self-in-Some c =
    let s = c.args.self.now in
    let fits : FitsSigned w64 s.position = search rules in
    let f = to_z-of_z fits in
    let t = to_z-of_z c.ranges.to in
    let d : IsFirstDate s.kind s.dates s.position c.args.to (Some c.in-Some.day) = rw (f, t, c.as_slice.ensures.value) at c.in-Some.ensures in
    let n = day_fits s.position c.in-Some.day c.args.to (rw first_day_is at s.begun) d.0 d.1 c.requires.high in
    let q : to_z w64 (of_z w64 (to_z w64 (of_z w64 c.in-Some.day) +ℤ pos 1)) ≡ c.in-Some.day +ℤ pos 1 = rw n.0 n.1 in
    record { begun = omega (arith, ints, q, d.0, s.begun); in_years = s.in_years }

pub returns-in_ok-number-in-Some-clause-next : goal.returns-in_ok-number-in-Some-clause-next
returns-in_ok-number-in-Some-clause-next c =
    let s = c.args.self.now in
    let fits : FitsSigned w64 s.position = search rules in
    let f = to_z-of_z fits in
    let t = to_z-of_z c.ranges.to in
    let d : IsFirstDate s.kind s.dates s.position c.args.to (Some c.in-Some.day) = rw (f, t, c.as_slice.ensures.value) at c.in-Some.ensures in
    let n = day_fits s.position c.in-Some.day c.args.to (rw first_day_is at s.begun) d.0 d.1 c.requires.high in
    let p = placed c.place.new.self (to_z w64 (of_z w64 c.in-Some.day)) c.in_ok-number-in-Some.number.index (length c.as_slice-count.result.now)
    c.in_ok-times-in-Some.times c.in_ok-number-in-Some.ensures.placed (ap length c.as_slice-count.ensures.same) in
    let first = dates_some s.kind s.dates s.position c.args.to c.in-Some.day c.in_ok-times-in-Some.times d
    (rw (n.0, c.as_slice-in-Some.ensures.value) at c.in_ok-times-in-Some.ensures) in (
      p.0,
      (
        subst (λ xs. IsFirstOccupied (dates_of s.kind s.dates) s.position (to_z w64 (of_z w64 c.in-Some.day)) xs) (sym p.1) (rw n.0 first),
        rw n.0 d.1,
        rw n.0 n.1,
      ),
    )
