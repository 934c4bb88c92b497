-- The days of a unit on which set positions are.
use Rattle.std.proofs.Common.{◌≡◌, ℕ, suc, ◌+◌, ◌*◌, ◌/◌, ◌%◌, ◌<◌, ◌≤◌, Bool, true, false, List, [], length, get_or, ℤ, pos, ◌≤ℤ◌, ◌<ℤ◌, refl, sym, ap, ◌∙◌, subst, inl, inr, arith}
use Rattle.std.specs.Prelude.{◌⊎◌, Option, Some, None, int_lt, nat_lt}
use Rattle.std.specs.Option.{is_some}
use Rattle.std.proofs.lemmas.Bool.{cases_lt, false≢true}
use Rattle.std.proofs.lemmas.Int.{ints}
use Rattle.std.proofs.Math.Nat.{suc-mul, mul-zero, mul-le-mul_right, mod-add-div, mul_comm}
use Rattle.rr_model.specs.Moment.{day_part, moment_at}
use Rattle.rr_model.specs.Moment.Units.{is_whole_days, unit_number}
use Rattle.rr_model.specs.Rising.{Rises}
use Rattle.rr_model.specs.Rising.Sets.{IsSetOf}
use Rattle.rr_model.specs.Rule.Chosen.{is_chosen}
use Rattle.rr_model.specs.Rule.DaysAndTimes.{IsCandidateDay, IsCandidateTime}
use Rattle.rr_model.specs.Rule.Validity.{is_absent}
use Rattle.rr_model.specs.Sets.Tree.{Tree, chosen_of, stands_at}
use Rattle.rr_model.specs.declared.kind.Kind.{Kind}
use Rattle.rr_model.specs.declared.kind.Kind.TheVariants.{Days}
use Rattle.rr_model.specs.declared.rule.Rule.{Rule}
use Rattle.rr_model.proofs.RisingSetLemmas.{Contains-none, set_empty}
use Rattle.rr_setpos.specs.Nth.{IsPositionOf, IsRankOf}
use Rattle.rr_expand.specs.Years.{Filling}
use Rattle.rr_lazy.specs.Next.{with_set}
use Rattle.rr_lazy.specs.declared.occupied_day.OccupiedDay.{OccupiedDay}
use Rattle.rr_walk.specs.Ruling.{AreUnitDays, IsSameRuling, IsUnrolled, IsWholeUnit, Ruling}
use Rattle.rr_walk.specs.declared.day_rule.DayInUnit.{DayInUnit}
use Rattle.rr_walk.specs.declared.day_rule.WholeUnit.{WholeUnit}
use Rattle.rr_walk.specs.SetPositions.{HasOneOn, HasPositionOn, IsAtSome, IsDayOfPosition, IsNextRank, IsPositionOn}
use Rattle.rr_walk.specs.Walk.{IsFirstInIn, IsFirstOf, IsFirstOfIn, IsOnDay, IsOnDayIn}
use Rattle.rr_walk.proofs.DayListLemmas.{PassedDays, passed_all, passed_found}
use Rattle.rr_walk.proofs.SetPositionLemmas.{candidate_at, chosen_at_positions, few_of_unit, one_rank}
use Rattle.rr_walk.proofs.WalkLemmas.{first_of_unit, none_chosen}

module _ (each count : ℕ) where
  -- the times of a day come before those of later days
  next_row : (j k r : ℕ) → j < k → r < each → j * each + r < k * each
  next_row j k r l m = let next : suc j ≤ k = omega (arith, l) in omega (arith, m, suc-mul j each, mul-le-mul_right each next)

  -- a rank is that of a time of its day
  row_of : (rank : ℕ) → 0 < each → rank ≡ rank / each * each + rank % each
  row_of rank some = omega (arith, mod-add-div rank each, mul_comm (rank / each) each)

  -- a position is on one day
  one_day : (position : ℤ) (j k : ℕ) → j < count → k < count → IsPositionOn position each count j → IsPositionOn position each count k → j ≡ k
  one_day position j k l m a b =
      let e = one_rank position (count * each) (j * each + a.0) (k * each + b.0) (next_row j count a.0 l a.1.0) (next_row k count b.0 m b.1.0) a.1.1 b.1.1 in
      elim (cases_lt j k) [
        | inl n ↦ absurd (omega (arith, e, next_row j k a.0 n a.1.0))
        | inr n ↦ elim (cases_lt k j) [ inl o ↦ absurd (omega (arith, e, next_row k j b.0 o b.1.0)) | inr o ↦ omega (arith, n, o) ]
      ]

  pub day_of_none : (position : ℤ) → IsRankOf position (count * each) None → IsDayOfPosition position each count None
  day_of_none position none k l at = none (k * each + at.0) (next_row k count at.0 l at.1.0) at.1.1

  some_times : (rank : ℕ) → rank < count * each → 0 < each
  some_times rank low = elim (cases_lt 0 each) [
    | inl l ↦ l
    | inr g ↦ (let e : each ≡ 0 = omega (arith, g) in absurd (omega (arith, low, ap (λ n. count * n) e, mul-zero count)))
  ]

  pub day_of_some : (position : ℤ) (rank : ℕ) → IsRankOf position (count * each) (Some rank) → IsDayOfPosition position each count (Some (rank / each))
  day_of_some position rank at =
      let some = some_times rank at.0 in
      let e = row_of rank some in (
        elim (cases_lt (rank / each) count) [
          | inl l ↦ l
          | inr g ↦ absurd (omega (arith, e, at.0, mul-le-mul_right each g))
        ],
        (rank % each, (omega (arith, some), subst (IsPositionOf position (count * each)) e at.1)),
      )

-- Of the days from one on and before another none has one of the first i positions, and the day at the end has one, unless it is past all.
pub record IsSearched (positions : List ℤ) (each count from i end : ℕ) : Type 0 where
  pub within : end ≤ count
  pub some : end < count → (from ≤ end) × HasOneOn positions i each count end
  pub none : (k : ℕ) → from ≤ k → k < end → HasOneOn positions i each count k → ⊥

module _ (positions : List ℤ) (each count from : ℕ) where
  pub searched_none : (end : ℕ) → end ≡ count → IsSearched positions each count from 0 end
  searched_none end e = record {
    within = omega (arith, e);
    some = λ l. absurd (omega (arith, e, l));
    none = λ k g l h. omega (arith, h.1.0);
  }

  module _ (i end : ℕ) (position : ℤ) (is : position ≡ get_or positions i (pos 0)) (at : IsSearched positions each count from i end) where
    one_more : (k : ℕ) → HasOneOn positions (i + 1) each count k → HasOneOn positions i each count k ⊎ IsPositionOn position each count k
    one_more k h = elim (cases_lt h.0 i) [
      | inl l ↦ inl (h.0, (l, h.1.1))
      | inr g ↦ (let e : h.0 ≡ i = omega (arith, g, h.1.0) in inr (subst (λ p. IsPositionOn p each count k) (ap (λ j. get_or positions j (pos 0)) e ∙ sym is) h.1.1))
    ]

    kept : (k : ℕ) → HasOneOn positions i each count k → HasOneOn positions (i + 1) each count k
    kept k h = (h.0, (omega (arith, h.1.0), h.1.1))

    -- a position that is on none of these days
    pub searched_more : ((k : ℕ) → from ≤ k → k < end → IsPositionOn position each count k → ⊥) → IsSearched positions each count from (i + 1) end
    searched_more other = record {
      within = at.within;
      some = λ l. (let s = at.some l in (s.0, kept end s.1));
      none = λ k g l h. elim (one_more k h) [ inl m ↦ at.none k g l m | inr m ↦ other k g l m ];
    }

    -- one that is on no day of the unit
    pub searched_nowhere : IsDayOfPosition position each count None → IsSearched positions each count from (i + 1) end
    searched_nowhere none = searched_more (λ k g l h. none k (omega (arith, l, at.within)) h)

    -- one that is on a day
    pub searched_other : (rank : ℕ) → IsDayOfPosition position each count (Some rank) → (from ≤ rank → rank < end → ⊥)
        → IsSearched positions each count from (i + 1) end
    searched_other rank on other = searched_more (λ k g l h. (
        let e = one_day each count position rank k on.0 (omega (arith, l, at.within)) on.1 h in other (omega (arith, e, g)) (omega (arith, e, l))))

    pub searched_found : (rank : ℕ) → IsDayOfPosition position each count (Some rank) → from ≤ rank → rank < end
        → IsSearched positions each count from (i + 1) rank
    searched_found rank on late low = record {
      within = omega (arith, on.0);
      some = λ l. (late, (i, (omega arith, subst (λ p. IsPositionOn p each count rank) is on.1)));
      none = λ k g l h. elim (one_more k h) [
        | inl m ↦ at.none k g (omega (arith, l, low)) m
        | inr m ↦ (let e = one_day each count position rank k on.0 (omega (arith, l, low, at.within)) on.1 m in omega (arith, e, l))
      ];
    }

  module _ (i end : ℕ) (last : i ≡ length positions) (at : IsSearched positions each count from i end) where
    pub searched_some : end < count → IsNextRank positions each count from (Some end)
    searched_some l = let s = (rw last at at).some l in (s.0, l, s.1, (rw last at at).none)

    pub searched_all : count ≤ end → IsNextRank positions each count from None
    searched_all g k h l one = (rw last at at).none k h (omega (arith, l, g)) one

-- ---- the days of a unit, walked from position to position

-- a unit has at most 366 candidate days
pub few_days : (r : Ruling) (days : List ℤ) → is_whole_days r.rule.freq ≡ true → AreUnitDays r days → length days ≤ 366
few_days r days coarse u = elim (cases_lt 0 (length days)) [
  | inl l ↦ (let day : ℤ = get_or days 0 (pos 0) in
      let at = candidate_at r days day 0 0 (length days) u l refl refl refl in
      omega (arith, at.all, few_of_unit r.rule (day_part r.kind r.start) day coarse))
  | inr g ↦ omega (arith, g)
]

-- a day is not occupied
pub none_on_day : (sets : List (List ℕ)) (tree : Tree) (day : ℤ) (r : Option OccupiedDay) → is_some r ≡ false → IsOnDayIn sets tree day r → IsOnDay tree day None
none_on_day sets tree day None e on = on
none_on_day sets tree day (Some f) e on = absurd (cc)

-- the first day that is
pub first_on_day : (sets : List (List ℕ)) (tree : Tree) (days : List ℤ) (from : ℤ) (i : ℕ) (day : ℤ) (r : Option OccupiedDay) → is_some r ≡ true → Rises int_lt days
    → i < length days → day ≡ get_or days i (pos 0) → from ≤ℤ day → IsOnDayIn sets tree day r → PassedDays tree days from i → IsFirstOfIn sets tree days from r
first_on_day sets tree days from i day None e rises l is late on passed = absurd (cc)
first_on_day sets tree days from i day (Some f) e rises l is late on passed =
    (on.0, passed_found tree days from i day (with_set sets f) rises l is late on.1 passed)

-- the first days are before one, the others are not
pub passed_parted : (tree : Tree) (days : List ℤ) (from : ℤ) (i : ℕ) → ((k : ℕ) → k < i → get_or days k (pos 0) <ℤ from) → PassedDays tree days from i
passed_parted tree days from i early k s l h = absurd (omega (arith, ints, early k l, h))

module _ (r : Ruling) (coarse : is_whole_days r.rule.freq ≡ true) (stands : is_absent r.rule.by_set_pos ≡ false) (times : List ℕ)
    (set : IsSetOf nat_lt times (IsCandidateTime r.rule r.kind r.start)) (days : List ℤ) (unit_days : AreUnitDays r days) where
  abbrev tree : Tree
  tree = chosen_of r.rule r.kind r.start

  abbrev positions : List ℤ
  positions = r.rule.by_set_pos

  -- a day on which no position is is not occupied
  none_on : (k s : ℕ) → k < length days → (HasPositionOn positions (length times) (length days) k → ⊥) → stands_at tree (get_or days k (pos 0)) s ≡ false
  none_on k s low off =
      let day : ℤ = get_or days k (pos 0) in
      let at = candidate_at r days day k k (length days) unit_days low refl refl refl in
      let empty = chosen_at_positions r.rule r.kind r.start day coarse at.candidate times [] k (length days) stands set at.before at.all
      (set_empty nat_lt (IsAtSome times (k * length times) (length days * length times) positions (length positions))
      (λ t h. off (h.0, (h.1.0, (h.1.1.0, (h.1.1.1.0, h.1.1.1.2)))))) in
      none_chosen r.rule r.kind r.start coarse day s
      (λ t l. elim (is_chosen r.rule r.kind r.start (moment_at r.kind day t)) as
      (λ b. is_chosen r.rule r.kind r.start (moment_at r.kind day t) ≡ b → is_chosen r.rule r.kind r.start (moment_at r.kind day t) ≡ false) [
        | true ↦ λ e. absurd (Contains-none t ((empty.exact t).1 (l, e)))
        | false ↦ λ e. e
      ] refl)

  module _ (from : ℤ) (rank : ℕ) (passed : PassedDays tree days from rank) where
    -- up to the next day on which one is
    passed_over : (next : ℕ) → next ≤ length days
        → ((k : ℕ) → rank ≤ k → k < next → HasPositionOn positions (length times) (length days) k → ⊥) → PassedDays tree days from next
    passed_over next low none k s l h = elim (cases_lt k rank) [ inl m ↦ passed k s m h | inr g ↦ none_on k s (omega (arith, l, low)) (none k g l) ]

    pub passed_next : (found : ℕ) → IsNextRank positions (length times) (length days) rank (Some found) → PassedDays tree days from found
    passed_next found n = passed_over found (omega (arith, n.1)) n.3

    -- none is on a day that is left
    pub passed_rest : IsNextRank positions (length times) (length days) rank None → IsFirstOf tree days from None
    passed_rest n = passed_all tree days from (length days) (omega arith) (passed_over (length days) (omega arith) n)

-- ---- the unit that is held

-- the days that are allowed are the same
pub allowed_unrolled : (r : Ruling) (start_day : ℤ) (start_second : ℕ) (times : List ℕ) (allowed other : Filling) (own_unit : ℤ) (last : DayInUnit)
    (unit : WholeUnit) (is_held : Bool) (days : List ℤ) → IsUnrolled r start_day start_second times allowed own_unit last unit is_held days
    → other ≡ allowed → IsUnrolled r start_day start_second times other own_unit last unit is_held days
allowed_unrolled r start_day start_second times allowed other own_unit last unit is_held days u e =
    subst (λ a. IsUnrolled r start_day start_second times a own_unit last unit is_held days) (sym e) u

-- a rule is the same as itself
pub same_is : (new old : Ruling) → new ≡ old → IsSameRuling new old
same_is new old e = record { rule = ap (λ r. r.rule) e; kind = ap (λ r. r.kind) e; start = ap (λ r. r.start) e }

-- another day and its unit are kept
pub asked_unrolled : (r : Ruling) (start_day : ℤ) (start_second : ℕ) (times : List ℕ) (allowed : Filling) (own_unit : ℤ)
    (last next : DayInUnit) (unit : WholeUnit) (is_held : Bool) (days : List ℤ)
    → IsUnrolled r start_day start_second times allowed own_unit last unit is_held days
    → next.unit ≡ unit_number r.rule.freq r.rule.week_start Days next.day
    → IsUnrolled r start_day start_second times allowed own_unit next unit is_held days
asked_unrolled r start_day start_second times allowed own_unit last next unit is_held days u e = record {
  freq = u.freq;
  valid = u.valid;
  of_day = u.of_day;
  of_second = u.of_second;
  of_times = u.of_times;
  of_allowed = u.of_allowed;
  of_own = u.of_own;
  of_last = e;
  of_unit = u.of_unit;
  held = u.held;
}

-- another unit is entered
pub entered_unrolled : (r : Ruling) (start_day : ℤ) (start_second : ℕ) (times : List ℕ) (allowed listed : Filling) (own_unit : ℤ)
    (last : DayInUnit) (unit next : WholeUnit) (is_held : Bool) (days made : List ℤ)
    → IsUnrolled r start_day start_second times allowed own_unit last unit is_held days → listed ≡ allowed → IsWholeUnit r.rule.freq r.rule.week_start next
    → IsUnrolled r start_day start_second times listed own_unit last next false made
entered_unrolled r start_day start_second times allowed listed own_unit last unit next is_held days made u e at = record {
  freq = u.freq;
  valid = u.valid;
  of_day = u.of_day;
  of_second = u.of_second;
  of_times = u.of_times;
  of_allowed = e ∙ u.of_allowed;
  of_own = u.of_own;
  of_last = u.of_last;
  of_unit = at;
  held = λ h. absurd (false≢true h);
}

-- its days are put in place of those of another
pub held_unrolled : (r : Ruling) (start_day : ℤ) (start_second : ℕ) (times : List ℕ) (allowed listed : Filling) (own_unit : ℤ)
    (last : DayInUnit) (unit next : WholeUnit) (is_held : Bool) (days made : List ℤ)
    → IsUnrolled r start_day start_second times allowed own_unit last unit is_held days → listed ≡ allowed
    → IsWholeUnit r.rule.freq r.rule.week_start next
    → IsSetOf int_lt made (IsCandidateDay r.rule (day_part r.kind r.start) next.number)
    → IsUnrolled r start_day start_second times listed own_unit last next true made
held_unrolled r start_day start_second times allowed listed own_unit last unit next is_held days made u e at set = record {
  freq = u.freq;
  valid = u.valid;
  of_day = u.of_day;
  of_second = u.of_second;
  of_times = u.of_times;
  of_allowed = e ∙ u.of_allowed;
  of_own = u.of_own;
  of_last = u.of_last;
  of_unit = at;
  held = λ h. set;
}

-- the first occupied one of them is that of the unit
pub first_in_unit : (rule : Rule) (kind : Kind) (start : ℤ) (sets : List (List ℕ)) (days : List ℤ) (unit from : ℤ) (r : Option OccupiedDay)
    → is_whole_days rule.freq ≡ true → IsSetOf int_lt days (IsCandidateDay rule (day_part kind start) unit) → IsFirstOfIn sets (chosen_of rule kind start) days from r
    → IsFirstInIn sets (chosen_of rule kind start) rule unit from r
first_in_unit rule kind start sets days unit from None coarse set f = first_of_unit rule kind start coarse days unit from None set f
first_in_unit rule kind start sets days unit from (Some found) coarse set f =
    (f.0, first_of_unit rule kind start coarse days unit from (Some (with_set sets found)) set f.1)

-- ---- the walk from unit to unit

-- a rule that is the same as one that is the same
pub same_ruling : (new between old : Ruling) → IsSameRuling new between → IsSameRuling between old → IsSameRuling new old
same_ruling new between old a b = record { rule = a.rule ∙ b.rule; kind = a.kind ∙ b.kind; start = a.start ∙ b.start }
