-- A shift that keeps the parts of a rule and carries units onto units keeps candidates, their positions and chosen moments.
use Rattle.std.proofs.Common.{◌≡◌, ℤ, pos, nat_abs, ◌+ℤ◌, ◌-ℤ◌, refl, ap, ◌∙◌, arith}
use Rattle.std.proofs.lemmas.Int.{ints}
use Rattle.rr_model.specs.Whole.{divides}
use Rattle.rr_model.specs.Moment.{day_part}
use Rattle.rr_model.specs.Moment.Units.{unit_number, unit_start}
use Rattle.rr_model.specs.Rule.Filled.{filled_rule}
use Rattle.rr_model.specs.Rule.Candidate.{date_parts_hold, time_parts_hold, is_candidate}
use Rattle.rr_model.specs.Rule.Chosen.{unit_begin, unit_end, position_from_front, position_from_back, is_chosen}
use Rattle.rr_model.specs.declared.kind.Kind.{Kind}
use Rattle.rr_model.specs.declared.rule.Rule.{Rule}
use Rattle.rr_model.proofs.CountLemmas.{count_from-shift}

-- s later lies the same moment of the unit that is n units later, at a whole number of intervals, and the parts hold as before
pub record KeepsRule (rule : Rule) (kind : Kind) (start s units : ℤ) : Type 0 where
  pub number : (t : ℤ) → unit_number rule.freq rule.week_start kind (t +ℤ s) ≡ unit_number rule.freq rule.week_start kind t +ℤ units
  pub begin : (u : ℤ) → unit_start rule.freq rule.week_start kind (u +ℤ units) ≡ unit_start rule.freq rule.week_start kind u +ℤ s
  pub interval : (x : ℤ) → divides rule.interval (x +ℤ units) ≡ divides rule.interval x
  pub date_parts : (t : ℤ) → date_parts_hold (filled_rule rule kind start) (day_part kind (t +ℤ s)) ≡ date_parts_hold (filled_rule rule kind start) (day_part kind t)
  pub time_parts : (t : ℤ) → time_parts_hold (filled_rule rule kind start) kind (t +ℤ s) ≡ time_parts_hold (filled_rule rule kind start) kind t

module _ (rule : Rule) (kind : Kind) (start s units : ℤ) (keeps : KeepsRule rule kind start s units) where
  same_interval : (t : ℤ) → divides rule.interval (unit_number rule.freq rule.week_start kind (t +ℤ s) -ℤ unit_number rule.freq rule.week_start kind start)
      ≡ divides rule.interval (unit_number rule.freq rule.week_start kind t -ℤ unit_number rule.freq rule.week_start kind start)
  same_interval t =
      let u = unit_number rule.freq rule.week_start kind t in
      let v = unit_number rule.freq rule.week_start kind start in
      let e : unit_number rule.freq rule.week_start kind (t +ℤ s) -ℤ v ≡ (u -ℤ v) +ℤ units = omega (arith, ints, keeps.number t) in
      ap (divides rule.interval) e ∙ keeps.interval (u -ℤ v)

  pub is_candidate-shift : (t : ℤ) → is_candidate rule kind start (t +ℤ s) ≡ is_candidate rule kind start t
  unfolding is_candidate
  is_candidate-shift t = rw (same_interval t, keeps.date_parts t, keeps.time_parts t) refl

  begin-shift : (t : ℤ) → unit_begin rule kind (t +ℤ s) ≡ unit_begin rule kind t +ℤ s
  begin-shift t =
      ap (unit_start rule.freq rule.week_start kind) (keeps.number t) ∙ keeps.begin (unit_number rule.freq rule.week_start kind t)

  end-shift : (t : ℤ) → unit_end rule kind (t +ℤ s) ≡ unit_end rule kind t +ℤ s
  end-shift t =
      let u = unit_number rule.freq rule.week_start kind t in
      let e : unit_number rule.freq rule.week_start kind (t +ℤ s) +ℤ pos 1 ≡ (u +ℤ pos 1) +ℤ units = omega (arith, ints, keeps.number t) in
      ap (unit_start rule.freq rule.week_start kind) e ∙ keeps.begin (u +ℤ pos 1)

  front-shift : (t : ℤ) → position_from_front rule kind start (t +ℤ s) ≡ position_from_front rule kind start t
  front-shift t =
      let b = begin-shift t in
      let e : nat_abs (((t +ℤ s) -ℤ unit_begin rule kind (t +ℤ s)) +ℤ pos 1) ≡ nat_abs ((t -ℤ unit_begin rule kind t) +ℤ pos 1) = omega (arith, ints, b) in
      rw (e, b) (count_from-shift (is_candidate rule kind start) (is_candidate rule kind start) s is_candidate-shift (unit_begin rule kind t)
      (nat_abs ((t -ℤ unit_begin rule kind t) +ℤ pos 1)))

  back-shift : (t : ℤ) → position_from_back rule kind start (t +ℤ s) ≡ position_from_back rule kind start t
  back-shift t =
      let e : nat_abs (unit_end rule kind (t +ℤ s) -ℤ (t +ℤ s)) ≡ nat_abs (unit_end rule kind t -ℤ t) = omega (arith, ints, end-shift t) in
      rw e (count_from-shift (is_candidate rule kind start) (is_candidate rule kind start) s is_candidate-shift t (nat_abs (unit_end rule kind t -ℤ t)))

  pub is_chosen-shift : (t : ℤ) → is_chosen rule kind start (t +ℤ s) ≡ is_chosen rule kind start t
  unfolding is_chosen
  is_chosen-shift t = rw (is_candidate-shift t, front-shift t, back-shift t) refl
