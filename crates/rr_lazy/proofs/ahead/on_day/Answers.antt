use Rattle.std.proofs.Common.{◌≡◌, inl, inr, List, ℕ, ℤ, Option, Some, None, refl, sym, to_z-of_z}
use Rattle.rr_lazy.specs.declared.occupied_day.OccupiedDay.{OccupiedDay}
use Rattle.rr_lazy.specs.Ahead.{GaveDay, IsOfDay, day_seen}
use Rattle.rr_lazy.proofs.AheadLemmas.{given_first, this_day}
use Rattle.rr_lazy.proofs.ahead.on_day.Goals as goal

other_day : (sets : List (List ℕ)) (ahead result : Option OccupiedDay) (day : ℤ) → result ≡ None → IsOfDay ahead day result
    → GaveDay (day_seen sets ahead) day → ⊥
other_day sets None result day e w g = g
other_day sets (Some f) result day e w g = elim w [ inl m ↦ absurd (cc) | inr m ↦ m.1 f refl g ]

pub union_of-requires-clause-a : goal.union_of-requires-clause-a
union_of-requires-clause-a c = c.requires.a c.in-Some-Some.x (this_day c.args.a c.of_day.result _ c.in-Some-Some.x c.in-Some-Some.is-0 c.of_day.ensures).0

pub union_of-requires-clause-b : goal.union_of-requires-clause-b
union_of-requires-clause-b c = c.requires.b c.in-Some-Some.y (this_day c.args.b c.of_day-2.result _ c.in-Some-Some.y c.in-Some-Some.is-1 c.of_day-2.ensures).0

pub returns-in-Some-None-clause-given : goal.returns-in-Some-None-clause-given
returns-in-Some-None-clause-given c =
    let sets = c.args.sets.now in
    let x = c.in-Some-None.x in
    let of_a = rw (to_z-of_z c.ranges.day) at c.of_day.ensures in
    let of_b = rw (to_z-of_z c.ranges.day) at c.of_day-2.ensures in
    let is = this_day c.args.a c.of_day.result c.args.day x c.in-Some-None.is-0 of_a in
    let not_b = other_day sets c.args.b c.of_day-2.result c.args.day c.in-Some-None.is-1 of_b in
    rw (is.0, sym is.1) (given_first sets c.args.b x (c.requires.a x is.0) (rw (sym is.1) at not_b))
