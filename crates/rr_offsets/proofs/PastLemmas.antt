-- A moment after all that a zone states but for its endless rules.
use Rattle.std.proofs.Common.{◌≡◌, ℕ, ◌+◌, ◌<◌, true, ℤ, pos, ◌+ℤ◌, ◌-ℤ◌, ◌≤ℤ◌, List, length, get_or, take, All, arith}
use Rattle.std.proofs.lemmas.Int.{ints}
use Rattle.std.proofs.lemmas.List.Elements.{All-more}
use Rattle.rr_model.specs.Moment.{day_part}
use Rattle.rr_model.specs.Whole.{floor_mod}
use Rattle.rr_model.specs.declared.kind.Kind.TheVariants.{Moments}
use Rattle.rr_model.specs.declared.rule.End.{End}
use Rattle.rr_model.specs.declared.rule.End.TheVariants.{Never, Until, Count, Both}
use Rattle.rr_model.specs.declared.rule.Rule.{Rule}
use Rattle.rr_model.proofs.WholeLemmas.{floor_mod_below, floor_whole}
use Rattle.rr_model.proofs.YearLemmas.{year_1}
use Rattle.rr_offsets.specs.Past.{AreOver, EndsBefore, HaveEnds, IsDayAfterCycle, IsLaterPast, IsOver, IsPastMoment, LiesBefore, zone_cycle}
use Rattle.rr_offsets.specs.Steady.{is_early}
use Rattle.rr_zone.specs.Offsets.{IsBelowDay}
use Rattle.rr_zone.specs.declared.observance.Observance.{Observance}

-- ---- one moment

pub moved_on : (past from at r : ℤ) → IsPastMoment past → IsBelowDay from → is_early at ≡ true → (past +ℤ from) ≤ℤ at → r ≡ at -ℤ (from -ℤ pos 1)
    → IsLaterPast past r
moved_on past from at r p b e l f = record {
  from = omega (arith, ints, l, f);
  moment = record { late = omega (arith, ints, l, f, p.late); early = omega (arith, ints, e, f, b.low) };
}

pub same_past : (past : ℤ) → IsPastMoment past → IsLaterPast past past
same_past past p = record { from = omega (arith, ints); moment = p }

pub later_past : (a b c : ℤ) → IsLaterPast a b → IsLaterPast b c → IsLaterPast a c
later_past a b c x y = record { from = omega (arith, ints, x.from, y.from); moment = y.moment }

-- ---- what is over stays over

module _ (old new : ℤ) (later : old ≤ℤ new) where
  pub date_over : (from t : ℤ) → LiesBefore from old t → LiesBefore from new t
  date_over from t l = omega (arith, ints, l, later)

  pub dates_over : (from : ℤ) (dates : List ℤ) → All (LiesBefore from old) dates → All (LiesBefore from new) dates
  dates_over from dates all = λ k d l. date_over from (get_or dates k d) (all k d l)

  end_over : (from : ℤ) (end : End) → EndsBefore from old end → EndsBefore from new end
  end_over from Never e = e
  end_over from (Until kind at) e = date_over from at e
  end_over from (Count count) e = e
  end_over from (Both kind at count) e = date_over from at e

  pub ends_over : (from : ℤ) (rules : List Rule) → HaveEnds from old rules → HaveEnds from new rules
  ends_over from rules all = λ k d l. end_over from (get_or rules k d).end (all k d l)

  observance_over : (o : Observance) → IsOver old o → IsOver new o
  observance_over o x = record {
    start = date_over o.from o.series.start x.start;
    plus = dates_over o.from o.series.plus x.plus;
    rules = ends_over o.from o.series.rules x.rules;
  }

  zone_over : (zone : List Observance) → AreOver old zone → AreOver new zone
  zone_over zone all = λ k d l. observance_over (get_or zone k d) (all k d l)

  -- ---- one more

  pub one_date : (from : ℤ) (dates : List ℤ) (i : ℕ) (d : ℤ) → i < length dates → All (LiesBefore from old) (take i dates)
      → LiesBefore from new (get_or dates i d) → All (LiesBefore from new) (take (i + 1) dates)
  one_date from dates i d l all here = All-more (LiesBefore from new) dates i d l (dates_over from (take i dates) all) here

  pub one_rule : (from : ℤ) (rules : List Rule) (i : ℕ) (d : Rule) → i < length rules → HaveEnds from old (take i rules)
      → EndsBefore from new (get_or rules i d).end → HaveEnds from new (take (i + 1) rules)
  one_rule from rules i d l all here = All-more (λ rule. EndsBefore from new rule.end) rules i d l (ends_over from (take i rules) all) here

  pub one_observance : (zone : List Observance) (i : ℕ) (d : Observance) → i < length zone → AreOver old (take i zone) → IsOver new (get_or zone i d)
      → AreOver new (take (i + 1) zone)
  one_observance zone i d l all here = All-more (IsOver new) zone i d l (zone_over (take i zone) all) here

-- ---- the day to list up to

pub day_after_past : (p day : ℤ) → IsPastMoment p → day ≡ day_part Moments (p +ℤ pos zone_cycle) +ℤ pos 1 → IsDayAfterCycle p day
day_after_past p day m e =
    let t = p +ℤ pos zone_cycle in
    let w = floor_whole t 86_400 (omega arith) in
    let b : floor_mod t 86_400 < 86_400 = floor_mod_below t 86_400 (omega arith) in
    let y = year_1 in
    record {
      last = record { late = omega (arith, ints, e, w, b, y, m.late); early = omega (arith, ints, e, w, b, m.early) };
      late = omega (arith, ints, e, w, b);
      low = omega (arith, ints, e, w, b, m.late);
      early = omega (arith, ints, e, w, b, m.early);
    }
