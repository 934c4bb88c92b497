use Rattle.std.proofs.Common.{◌≡◌, ◌≤ℤ◌, ℤ, pos, refl, arith, subst, sym, to_z-of_z, to_z, of_z, w64}
use Rattle.std.specs.Prelude.{None, false}
use Rattle.std.proofs.lemmas.Int.{ints}
use Rattle.rr_model.specs.Bounds.{first_day_of_all}
use Rattle.rr_model.specs.declared.kind.Kind.{Kind}
use Rattle.rr_model.specs.declared.kind.Kind.TheVariants.{Moments}
use Rattle.rr_model.specs.declared.rule.Rule.{Rule}
use Rattle.rr_model.specs.Moment.Units.{is_whole_days}
use Rattle.rr_model.specs.Moment.Years.{IsInYears}
use Rattle.rr_model.specs.Rule.Validity.{IsValidRule}
use Rattle.rr_model.specs.Moment.{day_part, second_part}
use Rattle.rr_model.proofs.DaysAndTimesLemmas.{only_moments}
use Rattle.rr_walk.proofs.WalkLemmas.{start_near}
use Rattle.rr_walk.proofs.UnitOffsetLemmas.{knows_none}
use Rattle.rr_walk.proofs.fine_rule.FineRuleRuleWalk.new.Goals as goal

-- the start is a moment of the years 1 to 9999, on this day
record IsStartOn (kind : Kind) (start day : ℤ) : Type 0 where
  moments : kind ≡ Moments
  in_years : IsInYears Moments start
  of_day : day ≡ day_part Moments start
  low : first_day_of_all ≤ℤ day
  high : day ≤ℤ pos 2_932_896

start_of : (rule : Rule) (kind : Kind) (start day : ℤ) → IsValidRule kind rule → is_whole_days rule.freq ≡ false → IsInYears kind start
    → day ≡ day_part kind start → IsStartOn kind start day
start_of rule kind start day valid fine in_years of_day =
    let near = start_near kind start day of_day in_years in
    let moments = only_moments rule.freq kind valid.start fine in
    record {
      moments = moments;
      in_years = subst (λ k. IsInYears k start) moments in_years;
      of_day = subst (λ k. day ≡ day_part k start) moments of_day;
      low = near.0;
      high = near.1;
    }

pub new-requires-2 : goal.new-requires-2
new-requires-2 c =
    let s = start_of c.args.rule.now c.args.kind c.args.start c.day_part-start_day.result c.requires.valid c.requires.freq c.requires.in_years
    (rw (to_z-of_z c.ranges.start) at c.day_part-start_day.ensures) in
    (omega (arith, ints, s.low, s.high), omega (arith, ints, s.low, s.high))

pub unit_of-requires-clause-near : goal.unit_of-requires-clause-near
unit_of-requires-clause-near c =
    let s = start_of c.args.rule.now c.args.kind c.args.start c.day_part-start_day.result c.requires.valid c.requires.freq c.requires.in_years
    (rw (to_z-of_z c.ranges.start) at c.day_part-start_day.ensures) in
    rw (to_z-of_z c.ranges.start) (omega (arith, ints, s.low, s.of_day), omega (arith, ints, s.high, s.of_day))

pub invariant_of-result : goal.invariant_of-result
invariant_of-result c =
    let s = start_of c.args.rule.now c.args.kind c.args.start c.day_part-start_day.result c.requires.valid c.requires.freq c.requires.in_years
    (rw (to_z-of_z c.ranges.start) at c.day_part-start_day.ensures) in
    let is : to_z w64 (of_z w64 c.day_part-start_day.result) ≡ day_part Moments c.args.start = omega (arith, ints, s.of_day, s.low, s.high) in
    let unit = c.unit_of.ensures in
    let own : to_z w64 (of_z w64 c.unit_of.result) ≡ c.unit_of.result = omega (arith, ints, unit.near.0, unit.near.1) in
    rw (c.in_ok-copy.ensures, to_z-of_z c.ranges.start) (record {
      freq = c.requires.freq;
      valid = record { valid = subst (λ k. IsValidRule k c.args.rule.now) s.moments c.requires.valid; in_years = s.in_years };
      of_day = is;
      of_second = subst (λ k. c.second_part.result ≡ second_part k c.args.start) s.moments (rw (to_z-of_z c.ranges.start) at c.second_part.ensures.value);
      of_own = rw own (rw (to_z-of_z c.ranges.start) at (unit.value c.args.rule.now.week_start));
      own_near = rw own unit.near;
      of_offsets = rw (to_z-of_z c.ranges.start) at c.in_ok-chosen_offsets.ensures;
      of_times = rw (to_z-of_z c.ranges.start) at c.in_ok-times.ensures;
      of_allowed = rw is at c.in_ok-new.ensures;
    })

pub returns-clause-keeps : goal.returns-clause-keeps
returns-clause-keeps c sets =
    let stored = c.resize.new.self.ok.0 in
    knows_none (record { rule = c.in_ok-copy.field-0; kind = Moments; start = to_z w64 (of_z w64 c.args.start); kept = c.resize.new.self.items }) sets
    (λ k l. c.in_ok-resize.ensures.by_index.1 k None refl (omega (arith, c.new-numbers.ensures.len)) (omega (arith, l, stored, c.in_ok-resize.ensures.len)))

pub returns-clause-same : goal.returns-clause-same
returns-clause-same c =
    record {
      rule = c.in_ok-copy.ensures;
      kind = sym (only_moments c.args.rule.now.freq c.args.kind c.requires.valid.start c.requires.freq);
      start = to_z-of_z c.ranges.start;
    }
