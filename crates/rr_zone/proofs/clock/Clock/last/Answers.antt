use Rattle.std.proofs.Common.{◌≡◌, ◌∙◌, ◌+ℤ◌, ◌<ℤ◌, FitsSigned, List, None, ℤ, ap, arith, pos, subst, sym, to_z-of_z, w64}
use Rattle.std.proofs.lemmas.Int.{ints}
use Rattle.rr_model.specs.Moment.{day_part}
use Rattle.rr_model.specs.declared.kind.Kind.TheVariants.{Moments}
use Rattle.rr_model.proofs.YearLemmas.{year_1}
use Rattle.rr_zone.specs.Onsets.{last_of_zone}
use Rattle.rr_zone.specs.Tables.{AreListed}
use Rattle.rr_zone.specs.declared.clock.Clock.TheInside.{Inside}
use Rattle.rr_zone.specs.declared.observance.Observance.{Observance}
use Rattle.rr_zone.proofs.NearLemmas.{last-up_to, years-near}
use Rattle.rr_zone.proofs.ZoneLemmas.{lasts_are}
use Rattle.rr_zone.proofs.clock.Clock.last.Goals.{After-deref-2, then-self-day+in_ok-self-inside, else-self-day}
use Rattle.rr_zone.proofs.clock.Clock.last.Goals as goal

-- the tables reach behind a day
record Reached (zone : List Observance) (day : ℤ) (inside : Inside) : Type 0 where
  listed : AreListed zone inside.tables.items inside.last
  late : day <ℤ inside.last

reached : (c : After-deref-2) → Reached c.self.inside.zone c.day_part-day.result c.if-self-day.self-inside
reached c =
    let day : FitsSigned w64 c.day_part-day.result = record { sfits = c.day_part-day.type_inv } in
    elim c.if-self-day.branch [
      | then-self-day+in_ok-self-inside w ↦
          (let last : FitsSigned w64 w.last_to_list-last.result = record { sfits = w.last_to_list-last.type_inv } in
          subst (Reached c.self.inside.zone c.day_part-day.result) (sym w.self-inside-is) (record {
            listed = rw w.as_slice.ensures.value at w.in_ok-self-inside.ensures;
            late = omega (arith, ints, to_z-of_z day, to_z-of_z last, w.last_to_list-last.ensures.beyond);
          }))
      | else-self-day w ↦
          subst (Reached c.self.inside.zone c.day_part-day.result) (sym w.self-inside-is) (record {
            listed = c.self.invariant;
            late = omega (arith, ints, year_1, to_z-of_z day, c.self.invariant.day.late, c.self.invariant.day.early, w.if-self-day.false);
          })
    ]

pub returns-clause-up_to : goal.returns-clause-up_to
returns-clause-up_to c =
    let inside = c.if-self-day.self-inside in
    rw (c.last_of_all.ensures, c.deref-2.ensures.value, to_z-of_z c.ranges.at)
    (last-up_to c.args.at (years-near c.args.at c.requires) (inside.last +ℤ pos 1) c.self.inside.zone inside.tables.items None
    (reached (goal.at.returns-clause-up_to c).After-deref-2).listed.each tt)

pub returns-clause-onset : goal.returns-clause-onset
returns-clause-onset c =
    let inside = c.if-self-day.self-inside in
    let r = reached (goal.at.returns-clause-onset c).After-deref-2 in
    let day : c.day_part-day.result ≡ day_part Moments c.args.at = rw (to_z-of_z c.ranges.at) at c.day_part-day.ensures in
    let late : day_part Moments c.args.at <ℤ inside.last = rw (← day) r.late in
    (rw (c.deref-2.ensures.value, to_z-of_z c.ranges.at) at c.last_of_all.ensures)
    ∙ lasts_are inside.last c.args.at late c.self.inside.zone inside.tables.items r.listed.each None
    ∙ ap (λ zone. last_of_zone None zone c.args.at) c.self.view_is
