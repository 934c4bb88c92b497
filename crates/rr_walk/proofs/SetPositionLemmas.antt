-- The seconds that set positions choose.
use Rattle.std.proofs.Common.{◌≡◌, ℕ, suc, ◌+◌, ◌-◌, ◌*◌, ◌<◌, ◌≤◌, Bool, true, false, cond, ◌&&◌, List, [], ◌∷◌, length, get_or, Contains, Some, None, inl}
use Rattle.std.proofs.Common.{inr, ℤ, pos, neg_ℤ, nat_abs, ◌+ℤ◌, ◌-ℤ◌, refl, sym, ap, ◌∙◌, subst, arith}
use Rattle.std.specs.Prelude.{◌⊎◌, ◌↔◌, ◌||◌, IsTrue, nat_lt}
use Rattle.std.specs.List.{list_any}
use Rattle.std.specs.Ordering.{int_eq}
use Rattle.std.proofs.lemmas.Int.{ints}
use Rattle.std.proofs.lemmas.Bool.{cases_lt, false≢true, and_parts}
use Rattle.std.proofs.lemmas.Bool.Decides.{nat_tests}
use Rattle.std.proofs.lemmas.List.{get_or_default}
use Rattle.std.proofs.lemmas.List.Elements.{Contains-get_or}
use Rattle.std.proofs.lemmas.List.Folds.{list_any_at}
use Rattle.rr_model.specs.Whole.Count.{count_from}
use Rattle.rr_model.specs.Moment.{day_part, moment_at}
use Rattle.rr_model.specs.Moment.Units.{is_whole_days, unit_number}
use Rattle.rr_model.specs.Rule.Filled.{filled_rule}
use Rattle.rr_model.specs.Rule.Validity.{is_absent, takes_start}
use Rattle.rr_model.specs.Rule.Candidate.{lists, interval_holds, date_parts_hold, is_candidate}
use Rattle.rr_model.specs.Rule.Chosen.{is_chosen}
use Rattle.rr_model.specs.Rule.DaysAndTimes.{IsCandidateTime, seconds_of, day_holds, time_holds}
use Rattle.rr_model.specs.Rising.{with_value}
use Rattle.rr_model.specs.Rising.Sets.{IsSetOf, IsSecondsOfDay}
use Rattle.rr_model.specs.Sets.Counting.{count_seconds}
use Rattle.rr_model.specs.declared.kind.Kind.{Kind}
use Rattle.rr_model.specs.declared.kind.Kind.TheVariants.{Days}
use Rattle.rr_model.specs.declared.rule.Freq.{Freq}
use Rattle.rr_model.specs.declared.rule.Freq.TheVariants.{Secondly, Minutely, Hourly, Daily, Weekly, Monthly, Yearly}
use Rattle.rr_model.specs.declared.rule.Rule.{Rule}
use Rattle.rr_model.proofs.CountLemmas.{one, count_from-first, count_from-le, count_from-split, count_seconds-same, below_more}
use Rattle.rr_model.proofs.RisingLemmas.{Rises-with_value, All-with_value}
use Rattle.rr_model.proofs.RisingSetLemmas.{Contains-head, Contains-tail, Contains-none, Contains-cons_cases, length-le_bound, set_same, set_empty}
use Rattle.std.proofs.Math.Nat.{mul-le-mul_right}
use Rattle.rr_model.proofs.DaysAndTimesLemmas.{candidates_are_days_and_times, day_at, second_at}
use Rattle.rr_cal.proofs.DayUnitLemmas.{unit_length}
use Rattle.rr_setpos.specs.Ranks.{times_before, days_before, days_of_unit, first_of_unit, next_of_unit, rank_by_parts, size_by_parts, is_rank_listed}
use Rattle.rr_setpos.specs.Nth.{IsPositionOf, IsRankOf}
use Rattle.rr_model.proofs.ChoiceLemmas.{is_chosen-plain}
use Rattle.rr_setpos.proofs.PositionLemmas.{chosen_candidate, chosen_no_candidate}
use Rattle.rr_setpos.proofs.UnitDayLemmas.{in_unit}
use Rattle.rr_lazy.proofs.CountingLemmas.{seconds_to, seconds_whole}
use Rattle.rr_walk.specs.Ruling.{Ruling, AreUnitDays, IsCandidateAt}
use Rattle.rr_walk.specs.SetPositions.{IsAtPosition, IsTimeAt, IsAtSome}
use Rattle.rr_walk.proofs.RankLemmas.{ranks_are_counts}

-- ---- a value put into a set

module _ (v : ℕ) where
  keeps : (xs : List ℕ) (x : ℕ) → Contains xs x → Contains (with_value nat_lt xs v) x
  keeps [] x c = absurd (Contains-none x c)
  keeps (y ∷ ys) x c = elim (nat_lt y v) as (λ b. Contains (cond b (y ∷ with_value nat_lt ys v) (cond (nat_lt v y) (v ∷ y ∷ ys) (y ∷ ys))) x) [
    | true ↦ elim (Contains-cons_cases y ys x c) [
      | inl e ↦ subst (Contains (y ∷ with_value nat_lt ys v)) e
          (Contains-head y (with_value nat_lt ys v))
      | inr d ↦ Contains-tail y (with_value nat_lt ys v) x (keeps ys x d)
    ]
    | false ↦ elim (nat_lt v y) as (λ b. Contains (cond b (v ∷ y ∷ ys) (y ∷ ys)) x) [ true ↦ Contains-tail v (y ∷ ys) x c | false ↦ c ]
  ]

  has_own : (xs : List ℕ) → Contains (with_value nat_lt xs v) v
  has_own [] = Contains-head v []
  has_own (y ∷ ys) = elim (nat_lt y v) as (λ b. nat_lt y v ≡ b → Contains (cond b (y ∷ with_value nat_lt ys v) (cond (nat_lt v y) (v ∷ y ∷ ys) (y ∷ ys))) v) [
    | true ↦ λ e. Contains-tail y (with_value nat_lt ys v) v (has_own ys)
    | false ↦ λ e. elim (nat_lt v y) as (λ b. nat_lt v y ≡ b → Contains (cond b (v ∷ y ∷ ys) (y ∷ ys)) v) [
      | true ↦ λ f. Contains-head v (y ∷ ys)
      | false ↦ λ f. (let same : y ≡ v = grind (arith, nat_tests) in subst (Contains (y ∷ ys)) same (Contains-head y ys))
    ] refl
  ] refl

  only : (xs : List ℕ) (x : ℕ) → Contains (with_value nat_lt xs v) x → Contains xs x ⊎ (v ≡ x)
  only xs x (k, l, e) =
      let all = All-with_value (λ y. Contains xs y ⊎ (v ≡ y)) nat_lt xs v (λ i d h. inl (Contains-get_or xs i d h)) (inr refl) k x l in
      subst (λ y. Contains xs y ⊎ (v ≡ y)) e all

  pub set_with_value : (P : ℕ → Type 0) (xs : List ℕ) → IsSetOf nat_lt xs P → IsSetOf nat_lt (with_value nat_lt xs v) (λ x. P x ⊎ (v ≡ x))
  set_with_value P xs set = record {
    rises = Rises-with_value nat_lt xs v set.rises;
    exact = λ x. (
      (λ c. elim (only xs x c) [ inl d ↦ inl ((set.exact x).0 d) | inr e ↦ inr e ]),
      (λ p. elim p [ inl q ↦ keeps xs x ((set.exact x).1 q) | inr e ↦ subst (Contains (with_value nat_lt xs v)) e (has_own xs) ]),
    );
  }

-- ---- positions and ranks

-- a position is that of one rank
pub one_rank : (position : ℤ) (size m n : ℕ) → m < size → n < size → IsPositionOf position size m → IsPositionOf position size n → m ≡ n
one_rank position size m n low few p q = elim p [
  | inl e ↦ elim q [ inl f ↦ omega (arith, ints, e, f) | inr f ↦ absurd (omega (arith, ints, e, f, few)) ]
  | inr e ↦ elim q [ inl f ↦ absurd (omega (arith, ints, e, f, low)) | inr f ↦ omega (arith, ints, e, f, low, few) ]
]

-- a list that has an element which passes has it at an index
any_at : {X : Type 0} (p : X → Bool) (xs : List X) (d : X) → list_any p xs ≡ true → (i : ℕ) × ((i < length xs) × (p (get_or xs i d) ≡ true))
any_at p [] d e = absurd (false≢true e)
any_at p (x ∷ xs) d e = elim (p x) as (λ b. p x ≡ b → (i : ℕ) × ((i < length (x ∷ xs)) × (p (get_or (x ∷ xs) i d) ≡ true))) [
  | true ↦ λ h. (0, (omega arith, h))
  | false ↦ λ h. (let r = any_at p xs d (sym (ap (λ b. b || list_any p xs) h) ∙ e) in (suc r.0, (omega (arith, r.1.0), r.1.1)))
] refl

same_number : (m n : ℤ) → m ≡ n → int_eq m n ≡ true
same_number m n e = grind (arith, ints)

number_same : (m n : ℤ) → int_eq m n ≡ true → m ≡ n
number_same m n e = grind (arith, ints)

or_cases : (a b : Bool) → (a || b) ≡ true → (a ≡ true) ⊎ (b ≡ true)
or_cases true b e = inl refl
or_cases false b e = inr e

or_left : (a b c : Bool) → b ≡ true → ((a || b) || c) ≡ true
or_left true b c e = refl
or_left false b c e = rw e refl

or_right : (a b c : Bool) → c ≡ true → ((a || b) || c) ≡ true
or_right true b c e = refl
or_right false true c e = refl
or_right false false c e = e

-- a rank is listed exactly if one of the positions is its own
pub listed_is : (rule : Rule) (rank size : ℕ) → is_absent rule.by_set_pos ≡ false
    → (is_rank_listed rule rank size ≡ true) ↔ ((i : ℕ) × ((i < length rule.by_set_pos) × IsPositionOf (get_or rule.by_set_pos i (pos 0)) size rank))
listed_is rule rank size stands =
    let positions = rule.by_set_pos in (
      λ e. elim (or_cases (is_absent positions || lists positions (pos (rank + 1))) (lists positions (neg_ℤ (pos (size - rank)))) e) [
        | inl f ↦ elim (or_cases (is_absent positions) (lists positions (pos (rank + 1))) f) [
          | inl g ↦ absurd (false≢true (sym stands ∙ g))
          | inr g ↦ (let r = any_at (λ x. int_eq x (pos (rank + 1))) positions (pos 0) g in (r.0, (r.1.0, inl (number_same _ _ r.1.1))))
        ]
        | inr f ↦ (let r = any_at (λ x. int_eq x (neg_ℤ (pos (size - rank)))) positions (pos 0) f in (r.0, (r.1.0, inr (number_same _ _ r.1.1))))
      ],
      λ h. elim h.1.1 [
        | inl e ↦ or_left (is_absent positions) (lists positions (pos (rank + 1))) (lists positions (neg_ℤ (pos (size - rank))))
            (list_any_at (λ x. int_eq x (pos (rank + 1))) positions h.0 (pos 0) h.1.0 (same_number _ _ e))
        | inr e ↦ or_right (is_absent positions) (lists positions (pos (rank + 1))) (lists positions (neg_ℤ (pos (size - rank))))
            (list_any_at (λ x. int_eq x (neg_ℤ (pos (size - rank)))) positions h.0 (pos 0) h.1.0 (same_number _ _ e))
      ],
    )

module _ (times : List ℕ) (before size : ℕ) (room : before + length times ≤ size) where
  -- the position is none of the unit
  pub time_at_none : (position : ℤ) → IsRankOf position size None → IsTimeAt times before size position None
  time_at_none position none = λ s h. none (before + h.0) (omega (arith, h.1.0, room)) h.1.2

  -- it is one of another day
  pub time_at_other : (position : ℤ) (rank : ℕ) → rank < size → IsPositionOf position size rank → (before ≤ rank → rank - before < length times → ⊥)
      → IsTimeAt times before size position None
  time_at_other position rank few is other = λ s h.
      let e : rank ≡ before + h.0 = one_rank position size rank (before + h.0) few (omega (arith, h.1.0, room)) is h.1.2 in
      other (omega (arith, e)) (omega (arith, e, h.1.0))

  -- it is this day's
  pub time_at_some : (position : ℤ) (rank s : ℕ) → before ≤ rank → rank - before < length times → IsPositionOf position size rank
      → s ≡ get_or times (rank - before) 0 → IsTimeAt times before size position (Some s)
  time_at_some position rank s late low is at =
      let e : rank ≡ before + (rank - before) = omega (arith, late) in
      (rank - before, (low, sym at, subst (IsPositionOf position size) e is))

  -- ---- the list's positions, one after another

  pub none_yet : (positions : List ℤ) (xs : List ℕ) → xs ≡ [] → IsSetOf nat_lt xs (IsAtSome times before size positions 0)
  none_yet positions xs e = subst (λ ys. IsSetOf nat_lt ys (IsAtSome times before size positions 0)) (sym e)
      (set_empty nat_lt (IsAtSome times before size positions 0) (λ s h. omega (arith, h.1.0)))

  more : (positions : List ℤ) (k s : ℕ) → IsAtSome times before size positions (k + 1) s
      → IsAtSome times before size positions k s ⊎ IsAtPosition times before size (get_or positions k (pos 0)) s
  more positions k s h = elim (cases_lt h.0 k) [
    | inl l ↦ inl (h.0, (l, h.1.1))
    | inr g ↦ (let e : h.0 ≡ k = omega (arith, g, h.1.0) in inr (subst (λ i. IsAtPosition times before size (get_or positions i (pos 0)) s) e h.1.1))
  ]

  pub one_more_none : (positions : List ℤ) (k : ℕ) (position : ℤ) (xs : List ℕ) → position ≡ get_or positions k (pos 0) → IsTimeAt times before size position None
      → IsSetOf nat_lt xs (IsAtSome times before size positions k) → IsSetOf nat_lt xs (IsAtSome times before size positions (k + 1))
  one_more_none positions k position xs is none set =
      set_same nat_lt (IsAtSome times before size positions k) (IsAtSome times before size positions (k + 1)) xs set
      (λ s. (
        (λ h. (h.0, (omega (arith, h.1.0), h.1.1))),
        (λ h. elim (more positions k s h) [ inl m ↦ m | inr m ↦ absurd (none s (subst (λ p. IsAtPosition times before size p s) (sym is) m)) ]),
      ))

  -- a position has one time
  one_time : (position : ℤ) (v s : ℕ) → IsAtPosition times before size position v → IsAtPosition times before size position s → v ≡ s
  one_time position v s a b =
      let e = one_rank position size (before + a.0) (before + b.0) (omega (arith, a.1.0, room)) (omega (arith, b.1.0, room)) a.1.2 b.1.2 in
      let f : a.0 ≡ b.0 = omega (arith, e) in
      sym a.1.1 ∙ ap (λ r. get_or times r 0) f ∙ b.1.1

  pub one_more_some : (positions : List ℤ) (k : ℕ) (position : ℤ) (xs ys : List ℕ) (v : ℕ) → position ≡ get_or positions k (pos 0)
      → IsTimeAt times before size position (Some v) → ys ≡ with_value nat_lt xs v
      → IsSetOf nat_lt xs (IsAtSome times before size positions k) → IsSetOf nat_lt ys (IsAtSome times before size positions (k + 1))
  one_more_some positions k position xs ys v is at made set =
      let own = subst (λ p. IsAtPosition times before size p v) is at in
      subst (λ zs. IsSetOf nat_lt zs (IsAtSome times before size positions (k + 1))) (sym made)
      (set_same nat_lt (λ s. IsAtSome times before size positions k s ⊎ (v ≡ s)) (IsAtSome times before size positions (k + 1)) (with_value nat_lt xs v)
      (set_with_value v (IsAtSome times before size positions k) xs set)
      (λ s. (
        (λ p. elim p [
          | inl h ↦ (h.0, (omega (arith, h.1.0), h.1.1))
          | inr e ↦
              (k, (omega arith, subst (IsAtPosition times before size (get_or positions k (pos 0))) e own))
        ]),
        (λ h. elim (more positions k s h) [ inl m ↦ inl m | inr m ↦ inr (one_time (get_or positions k (pos 0)) v s own m) ]),
      )))

-- what seconds of a day have at positions are seconds of a day
pub positions_of_day : (times xs : List ℕ) (before size : ℕ) (positions : List ℤ) (k : ℕ) → IsSecondsOfDay times
    → IsSetOf nat_lt xs (IsAtSome times before size positions k) → IsSecondsOfDay xs
positions_of_day times xs before size positions k day set = record {
  rises = set.rises;
  below_a_day = λ i d l. (let h = (set.exact (get_or xs i d)).0 (Contains-get_or xs i d l) in
      subst (λ s. s < 86_400) h.1.1.1.1 (day.below_a_day h.1.1.0 0 h.1.1.1.0));
}

-- ---- the rank of a time among those of its day

module _ (times : List ℕ) (test : ℕ → Bool) (bound : ℕ) (set : IsSetOf nat_lt times (λ s. (s < bound) × IsTrue (test s))) where
  -- the test and the bound as one test
  abbrev bounded : ℕ → Bool
  bounded s = nat_lt s bound && test s

  bounded_set : IsSetOf nat_lt times (λ s. IsTrue (nat_lt s bound && test s))
  bounded_set = set_same nat_lt (λ s. (s < bound) × IsTrue (test s)) (λ s. IsTrue (nat_lt s bound && test s)) times set
      (λ s. (
        (λ h. (let e : nat_lt s bound ≡ true = (let l = h.0 in grind (arith, nat_tests)) in rw (e, h.1) refl)),
        (λ h. (let both = and_parts (nat_lt s bound) (test s) h in let e = both.0 in (grind (arith, nat_tests), both.1))),
      ))

  counts_same : (n : ℕ) → n ≤ bound → count_seconds (λ s. nat_lt s bound && test s) n ≡ count_seconds test n
  counts_same n few = count_seconds-same (λ s. nat_lt s bound && test s) test n
      (λ s l. (let m : s < bound = omega (arith, l, few) in let e : nat_lt s bound ≡ true = grind (arith, nat_tests) in rw e refl))

  -- the index of a time is its rank
  pub rank_at : (r : ℕ) → r < length times → (get_or times r 0 < bound) × IsTrue (test (get_or times r 0)) × (count_seconds test (get_or times r 0) ≡ r)
  rank_at r low =
      let x : ℕ = get_or times r 0 in
      let own = (set.exact x).0 (Contains-get_or times r 0 low) in
      let to = seconds_to (λ s. nat_lt s bound && test s) times bounded_set r low in
      (own.0, own.1, omega (arith, to, counts_same (x + 1) (omega (arith, own.0)), below_more test x own.1))

  pub count_is_length : count_seconds test bound ≡ length times
  count_is_length = sym (counts_same bound (omega arith)) ∙ seconds_whole (λ s. nat_lt s bound && test s) times bounded_set bound
      (λ k d l. ((set.exact (get_or times k d)).0 (Contains-get_or times k d l)).0)

  -- the times at the listed positions are those whose rank is listed
  pub at_some_is : (rule : Rule) (before size : ℕ) → is_absent rule.by_set_pos ≡ false → (s : ℕ)
      → IsAtSome times before size rule.by_set_pos (length rule.by_set_pos) s
      ↔ ((s < bound) × IsTrue (test s) × IsTrue (is_rank_listed rule (before + count_seconds test s) size))
  at_some_is rule before size stands s = (
    λ h. (let at = h.1.1 in
        let own = rank_at at.0 at.1.0 in
        let e : get_or times at.0 0 ≡ s = at.1.1 in
        let rank : count_seconds test s ≡ at.0 = ap (count_seconds test) (sym e) ∙ own.2 in (
          subst (λ x. x < bound) e own.0,
          subst (λ x. IsTrue (test x)) e own.1,
          rw rank
              ((listed_is rule (before + at.0) size stands).1 (h.0, (h.1.0, at.1.2))),
        )),
    λ h. (let c = (set.exact s).1 (h.0, h.1) in
        let e : get_or times c.0 0 ≡ s = get_or_default times c.0 0 s c.1 ∙ c.2 in
        let rank : count_seconds test s ≡ c.0 = ap (count_seconds test) (sym e) ∙ (rank_at c.0 c.1).2 in
        let r = (listed_is rule (before + c.0) size stands).0 (rw rank at h.2) in
        (r.0, (r.1.0, (c.0, (c.1, e, r.1.1))))),
  )

-- ---- the chosen seconds of a candidate day

pub coarse_taken : (freq : Freq) (kind : Kind) → is_whole_days freq ≡ true → IsTrue (takes_start freq kind)
coarse_taken Secondly kind e = absurd (cc)
coarse_taken Minutely kind e = absurd (cc)
coarse_taken Hourly kind e = absurd (cc)
coarse_taken Daily kind e = refl
coarse_taken Weekly kind e = refl
coarse_taken Monthly kind e = refl
coarse_taken Yearly kind e = refl

-- a part that is absent has no values
pub absent_is : (xs : List ℤ) → is_absent xs ≡ true → xs ≡ []
absent_is [] e = refl
absent_is (x ∷ xs) e = absurd (false≢true e)

time_decides : (a b : Bool) → a ≡ true → (a && b) ≡ b
time_decides a b e = rw e refl

module _ (rule : Rule) (kind : Kind) (start d : ℤ) (coarse : is_whole_days rule.freq ≡ true) (candidate : day_holds rule (day_part kind start) d ≡ true) where
  candidate_is : (s : ℕ) → s < seconds_of kind → is_candidate rule kind start (moment_at kind d s) ≡ time_holds rule kind start s
  candidate_is s low = candidates_are_days_and_times rule kind start d s coarse low ∙ time_decides _ _ candidate

  parts_at : (s : ℕ) → s < seconds_of kind
      → (rank_by_parts rule kind start (moment_at kind d s) ≡ days_before rule (day_part kind start) d * times_before rule kind start
      (seconds_of kind) + times_before rule kind start s)
      × (size_by_parts rule kind start (moment_at kind d s) ≡ days_of_unit rule (day_part kind start) d * times_before rule kind start (seconds_of kind))
  parts_at s low = (rw (coarse, day_at kind d s low, second_at kind d s low) refl, rw (coarse, day_at kind d s low) refl)

  -- the day itself comes after those before it
  pub more_on_day : days_before rule (day_part kind start) d + 1 ≤ days_of_unit rule (day_part kind start) d
  more_on_day =
      let first = first_of_unit rule d in
      let next = next_of_unit rule d in
      let within = in_unit rule d coarse in
      let test : ℤ → Bool = λ z. date_parts_hold (filled_rule rule Days (day_part kind start)) z in
      let holds : test d ≡ true =
      (and_parts (interval_holds rule Days (day_part kind start) d) (date_parts_hold (filled_rule rule Days (day_part kind start)) d) candidate).1 in
      let n : ℕ = nat_abs (d -ℤ first) in
      let m : ℕ = nat_abs (next -ℤ d) - 1 in
      let e : nat_abs (next -ℤ first) ≡ n + suc m = omega (arith, ints, within.0, within.1) in
      let at : first +ℤ pos n ≡ d = omega (arith, ints, within.0) in
      omega (
        arith,
        ap (count_from test first) e,
        count_from-split test first n (suc m),
        ap (λ z. count_from test z (suc m)) at,
        count_from-first test d m,
        ap one holds,
      )

  -- a second of the day is chosen exactly if the time parts allow it and its rank is listed
  pub chosen_is_listed : (s : ℕ) → s < seconds_of kind
      → IsTrue (is_chosen rule kind start (moment_at kind d s))
      ↔ (IsTrue (time_holds rule kind start s) × IsTrue
      (is_rank_listed rule (days_before rule (day_part kind start) d * times_before rule kind start (seconds_of kind)
      + times_before rule kind start s) (days_of_unit rule (day_part kind start) d * times_before rule kind start (seconds_of kind))))
  chosen_is_listed s low =
      let parts = parts_at s low in (
        λ h. elim (is_candidate rule kind start (moment_at kind d s)) as
            (λ b. is_candidate rule kind start (moment_at kind d s) ≡ b → IsTrue (time_holds rule kind start s)
            × IsTrue (is_rank_listed rule
            (days_before rule (day_part kind start) d * times_before rule kind start (seconds_of kind) + times_before rule kind start s)
            (days_of_unit rule (day_part kind start) d * times_before rule kind start (seconds_of kind)))) [
              | true ↦ λ e. (
                sym (candidate_is s low) ∙ e,
                rw (parts.0, parts.1) at
                    (sym (chosen_candidate rule kind start (moment_at kind d s) (coarse_taken rule.freq kind coarse) e) ∙ h),
              )
              | false ↦ λ e. absurd (false≢true (sym (chosen_no_candidate rule kind start (moment_at kind d s) e) ∙ h))
            ] refl,
        λ h. chosen_candidate rule kind start (moment_at kind d s) (coarse_taken rule.freq kind coarse) (candidate_is s low ∙ h.0) ∙ rw (parts.0, parts.1) h.1,
      )

  -- so the times of each day of its unit at the listed positions are its chosen seconds
  pub chosen_at_positions : (times chosen : List ℕ) (rank count : ℕ) → is_absent rule.by_set_pos ≡ false → IsSetOf nat_lt times (IsCandidateTime rule kind start)
      → rank ≡ days_before rule (day_part kind start) d → count ≡ days_of_unit rule (day_part kind start) d
      → IsSetOf nat_lt chosen (IsAtSome times (rank * length times) (count * length times) rule.by_set_pos (length rule.by_set_pos))
      → IsSetOf nat_lt chosen (λ s. (s < seconds_of kind) × IsTrue (is_chosen rule kind start (moment_at kind d s)))
  chosen_at_positions times chosen rank count stands set before all at =
      let each : times_before rule kind start (seconds_of kind) ≡ length times = count_is_length times (time_holds rule kind start) (seconds_of kind) set in
      set_same nat_lt _ (λ s. (s < seconds_of kind) × IsTrue (is_chosen rule kind start (moment_at kind d s))) chosen at
      (λ s. (let is = at_some_is times (time_holds rule kind start) (seconds_of kind) set rule (rank * length times) (count * length times) stands s in (
        (λ h. (let m = is.0 h in (m.0, (chosen_is_listed s m.0).1 (m.1, rw (each, sym before, sym all) m.2)))),
        (λ h. (let m = (chosen_is_listed s h.0).0 h.1 in is.1 (h.0, m.0, rw (each, sym before, sym all) at m.1))),
      )))

  -- without set positions all are chosen
  pub chosen_plain : (times : List ℕ) → rule.by_set_pos ≡ [] → IsSetOf nat_lt times (IsCandidateTime rule kind start)
      → IsSetOf nat_lt times (λ s. (s < seconds_of kind) × IsTrue (is_chosen rule kind start (moment_at kind d s)))
  chosen_plain times plain set =
      set_same nat_lt (IsCandidateTime rule kind start) (λ s. (s < seconds_of kind) × IsTrue (is_chosen rule kind start (moment_at kind d s))) times set
      (λ s. (
        (λ h. (h.0, is_chosen-plain rule kind start (moment_at kind d s) plain ∙ candidate_is s h.0 ∙ h.1)),
        (λ h. (h.0, sym (candidate_is s h.0) ∙ sym (is_chosen-plain rule kind start (moment_at kind d s) plain) ∙ h.1)),
      ))

-- ---- the days of a unit by their ranks

pub candidate_at : (r : Ruling) (days : List ℤ) (day : ℤ) (i rank count : ℕ) → AreUnitDays r days → i < length days → day ≡ get_or days i (pos 0)
    → rank ≡ i → count ≡ length days → IsCandidateAt r day rank count
candidate_at r days day i rank count u low at same all =
    let p = ranks_are_counts r.rule (day_part r.kind r.start) u.0 days i u.1 low in
    rw at (record {
      candidate = ((u.1.exact (get_or days i (pos 0))).0 (Contains-get_or days i (pos 0) low)).1;
      before = same ∙ sym p.0;
      all = all ∙ sym p.1;
    })

-- a unit has at most 366 candidate days
pub few_of_unit : (rule : Rule) (start_day d : ℤ) → is_whole_days rule.freq ≡ true → days_of_unit rule start_day d ≤ 366
few_of_unit rule start_day d coarse =
    let u = unit_number rule.freq rule.week_start Days d in
    let n = unit_length rule.freq rule.week_start u coarse in
    omega (
      arith,
      ints,
      n.1,
      n.2,
      count_from-le (date_parts_hold (filled_rule rule Days start_day)) (first_of_unit rule d)
          (nat_abs (next_of_unit rule d -ℤ first_of_unit rule d)),
    )

-- a day comes among those of its unit
pub rank_low : (r : Ruling) (day : ℤ) (rank count : ℕ) → is_whole_days r.rule.freq ≡ true → IsCandidateAt r day rank count → (rank < count) × (count ≤ 366)
rank_low r day rank count coarse at = (
  omega (arith, at.before, at.all, more_on_day r.rule r.kind r.start day coarse at.candidate),
  omega
      (arith, at.all, few_of_unit r.rule (day_part r.kind r.start) day coarse),
)

-- the candidates of some days of a unit are not many
pub few_candidates : (days : ℕ) (times shown : List ℕ) → days ≤ 366 → shown ≡ times → IsSecondsOfDay times → days * length shown ≤ 31_622_400
few_candidates days times shown few e day =
    let n = length-le_bound times 86_400 day.rises day.below_a_day in
    omega (arith, mul-le-mul_right (length shown) few, ap length e, n)
