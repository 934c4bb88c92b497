use Rattle.std.proofs.Common.{rules, FitsSigned, [], ◌∷◌, ◌∙◌, w64, to_z-of_z}
use Rattle.rr_walk.specs.Ruling.{Ruling}
use Rattle.rr_walk.proofs.PositionDayLemmas.{asked_unrolled}
use Rattle.rr_walk.proofs.day_rule.DayRule.last_unit.Goals as goal
use Rattle.rr_walk.proofs.day_rule.DayRule.last_unit.Goals.{then-self-to, else-self-to}

pub invariant_of-self : goal.invariant_of-self
invariant_of-self c = elim c.if-self-to.branch [
  | then-self-to w ↦ (
      let i = c.self.inside in
      let r : Ruling = record { rule = i.rule; kind = i.kind; start = i.start; kept = i.number ∷ [] } in
      let fits : FitsSigned w64 w.unit_of.result = search rules in
      rw w.self-inside-is
      (asked_unrolled r i.start_day i.start_second i.times i.allowed i.own_unit i.last _ i.unit i.is_held i.days.items c.self.invariant
      (to_z-of_z fits ∙ w.unit_of.ensures)))
  | else-self-to w ↦ rw w.self-inside-is c.self.invariant
]
