-- Which occurrences of a rule repeat, and which come to an end.
use Rattle.std.proofs.Common.{◌≡◌, ℕ, true, false, ℤ, pos, ◌+ℤ◌, ◌≤ℤ◌, ◌<ℤ◌, refl, arith}
use Prim.Native.Nat.{◌∣◌}
use Rattle.std.specs.Prelude.{int_le}
use Rattle.std.proofs.lemmas.Int.{ints}
use Rattle.std.proofs.lemmas.Bool.{false_from_ne_true, and_parts}
use Rattle.rr_model.specs.Moment.{day_part, moment_at}
use Rattle.rr_model.specs.Moment.Years.{IsInYears}
use Rattle.rr_model.specs.Rule.Cycle.{rule_cycle}
use Rattle.rr_model.specs.Rule.Member.{IsMember}
use Rattle.rr_model.specs.Rule.Repetition.{days_in}
use Rattle.rr_model.specs.Rule.Validity.{IsValidRule}
use Rattle.rr_model.specs.Series.Soundness.{EndsNotBefore}
use Rattle.rr_model.specs.Series.Tree.{up_to_end, members_of}
use Rattle.rr_model.specs.Sets.Tree.{chosen_of, upto, has_second, stands_at, stands_in}
use Rattle.rr_model.specs.declared.kind.Kind.{Kind}
use Rattle.rr_model.specs.declared.kind.Kind.TheVariants.{Days, Moments}
use Rattle.rr_model.specs.declared.rule.End.{End}
use Rattle.rr_model.specs.declared.rule.End.TheVariants.{Never, Until, Count, Both}
use Rattle.rr_model.specs.declared.rule.Rule.{Rule}
use Rattle.rr_model.proofs.WholeLemmas.{floor_whole, floor_mod_below}
use Rattle.rr_check.proofs.RepetitionLemmas.{chosen_repeats_by}
use Rattle.rr_lazy.proofs.StretchLemmas.{moment_day, moment_second}
use Rattle.rr_lazy.proofs.AgreeLemmas.{members_agree}

-- ---- the chosen moments of a rule

moment_later : (kind : Kind) (d : ℤ) (n s : ℕ) → moment_at kind (d +ℤ pos n) s ≡ moment_at kind d s +ℤ days_in kind (pos n)
moment_later Days d n s = refl
moment_later Moments d n s = omega (arith, ints)

-- a moment comes before each second of a later day
pub before_later_day : (kind : Kind) (t d : ℤ) (s : ℕ) → day_part kind t <ℤ d → t <ℤ moment_at kind d s
before_later_day Days t d s l = l
before_later_day Moments t d s l = omega (arith, ints, l, floor_whole t 86_400 (omega arith), floor_mod_below t 86_400 (omega arith))

pub after_start : (kind : Kind) (start d : ℤ) (s : ℕ) → day_part kind start <ℤ d → int_le start (moment_at kind d s) ≡ true
after_start kind start d s l = let m = before_later_day kind start d s l in grind (arith, ints)

module _ (rule : Rule) (kind : Kind) (start : ℤ) where
  -- after its start's day a rule chooses the same seconds as a multiple of its cycle later
  pub chosen_later : IsValidRule kind rule → (n : ℕ) (d : ℤ) (s : ℕ) → rule_cycle rule ∣ n → day_part kind start <ℤ d
      → stands_at (chosen_of rule kind start) (d +ℤ pos n) s ≡ stands_at (chosen_of rule kind start) d s
  chosen_later valid n d s div l =
      let c = chosen_repeats_by rule kind start (moment_at kind d s) valid n div in
      let a = after_start kind start d s l in
      let b = after_start kind start (d +ℤ pos n) s (omega (arith, ints, l)) in
      rw (b, a, moment_later kind d n s, c) refl

  -- ---- rules that end

  -- a second that stands is one of the kind
  leaf_second : (end : End) (d : ℤ) (s : ℕ) → stands_at (up_to_end kind end (chosen_of rule kind start)) d s ≡ true → has_second kind s ≡ true
  leaf_second Never d s h = (and_parts _ _ h).0
  leaf_second (Until other at) d s h = (and_parts _ _ (and_parts (stands_at (chosen_of rule kind start) d s) _ h).0).0
  leaf_second (Count count) d s h = (and_parts _ _ (and_parts (stands_at (chosen_of rule kind start) d s) _ h).0).0
  leaf_second (Both other at count) d s h =
      let until = (and_parts (stands_at (upto (chosen_of rule kind start) kind at) d s) _ h).0 in
      (and_parts _ _ (and_parts (stands_at (chosen_of rule kind start) d s) _ until).0).0

  module _ (in_years : IsInYears kind start) (fits : EndsNotBefore kind start rule.end) where
    -- a second that stands on a day is a member
    pub member_at : (d : ℤ) (s : ℕ) → stands_at (members_of kind start rule) d s ≡ true
        → IsMember rule kind start (moment_at kind d s) × (day_part kind (moment_at kind d s) ≡ d)
    member_at d s h =
        let second = leaf_second rule.end d s h in
        let day = moment_day kind d s second in
        let i : stands_in (members_of kind start rule) kind (moment_at kind d s) ≡ true = rw (day, moment_second kind d s second) h in
        ((members_agree rule kind start (moment_at kind d s) in_years fits).0 i, day)

    -- nothing stands in the tree of a rule that has ended
    pub none_ended : (settled d : ℤ) (s : ℕ) → ((t : ℤ) → IsMember rule kind start t → day_part kind t <ℤ settled) → settled ≤ℤ d
        → stands_at (members_of kind start rule) d s ≡ false
    none_ended settled d s before l = false_from_ne_true (stands_at (members_of kind start rule) d s) (λ e.
        (let m = member_at d s e in
        let early = before (moment_at kind d s) m.0 in
        absurd (omega (arith, ints, early, m.1, l))))
