-- A list of onsets grows by the days that an iterator gives.
use Rattle.std.proofs.Common.{◌≡◌, ◌⊎◌, ℕ, ◌+◌, ◌<◌, true, false, ℤ, pos, ◌+ℤ◌, ◌-ℤ◌, ◌≤ℤ◌, ◌<ℤ◌, List, [], ◌∷◌, length, get_or, drop, All, Contains, inl, inr, sym, ap, subst, ◌∙◌, arith}
use Rattle.std.specs.Prelude.{if◌then◌else◌, int_lt, suc}
use Rattle.std.proofs.lemmas.Bool.{false≢true}
use Rattle.std.proofs.lemmas.Int.{ints, by_lt_z}
use Rattle.std.proofs.lemmas.List.{at_drop_more}
use Rattle.std.proofs.lemmas.List.Elements.{All-contains}
use Rattle.rr_model.specs.Calendar.{first_day_of_year}
use Rattle.rr_model.specs.Moment.{day_part, moment_at, second_part}
use Rattle.rr_model.specs.Rising.{Rises, with_value}
use Rattle.rr_model.specs.Rising.Sets.{IsSetOf}
use Rattle.rr_model.specs.Moment.Years.{IsInYears}
use Rattle.rr_model.specs.Series.Tree.{dates_with_start, members_of, members_of_all, tree_of_given}
use Rattle.rr_model.specs.Series.Validity.{IsValidSeries}
use Rattle.rr_model.specs.Sets.Tree.{Tree, AreOfKind, IsOfKind, IsOfOneKind, dates_of, many, stands_at, union}
use Rattle.rr_model.specs.declared.rule.Rule.{Rule}
use Rattle.rr_model.specs.declared.rule.Series.{Series}
use Rattle.rr_model.specs.declared.kind.Kind.TheVariants.{Moments}
use Rattle.rr_model.proofs.RisingLemmas.{All-with_value, Rises-with_value}
use Rattle.rr_model.proofs.RisingSetLemmas.{Contains-cons_cases, Contains-head, Contains-none, Contains-tail}
use Rattle.rr_model.proofs.WithValueLemmas.{with_value-has, with_value-keeps, with_value-only}
use Rattle.rr_model.proofs.MomentLemmas.{day_part-moment_at, second_part-moment_at}
use Rattle.rr_iter.specs.Ends.{IsSoundRule}
use Rattle.rr_iter.proofs.RulesLemmas.{members_of_kind}
use Rattle.rr_lazy.proofs.KindLemmas.{of_one_kind}
use Rattle.rr_lazy.proofs.StretchLemmas.{of_day}
use Rattle.rr_lazy.specs.Next.{HasNone, IsFirstOccupied}
use Rattle.rr_zone.specs.Tables.{IsListed, with_moments}

-- ---- the seconds of one day

module _ (from day : ℤ) where
  -- a second of the day, as a moment of UTC
  abbrev at : ℕ → ℤ
  at s = moment_at Moments day s -ℤ from

  pub moments_rise : (dates : List ℤ) (ss : List ℕ) → Rises int_lt dates → Rises int_lt (with_moments dates from day ss)
  moments_rise dates [] r = r
  moments_rise dates (s ∷ ss) r = moments_rise (with_value int_lt dates (at s)) ss (Rises-with_value int_lt dates (at s) r)

  pub moments_keep : (dates : List ℤ) (ss : List ℕ) (u : ℤ) → Contains dates u → Contains (with_moments dates from day ss) u
  moments_keep dates [] u c = c
  moments_keep dates (s ∷ ss) u c = moments_keep (with_value int_lt dates (at s)) ss u (with_value-keeps (at s) dates u c)

  pub moments_have : (dates : List ℤ) (ss : List ℕ) (s : ℕ) → Contains ss s → Contains (with_moments dates from day ss) (at s)
  moments_have dates [] s c = absurd (Contains-none s c)
  moments_have dates (r ∷ rs) s c = elim (Contains-cons_cases r rs s c) [
    | inl e ↦ moments_keep (with_value int_lt dates (at r)) rs (at s)
        (subst (λ x. Contains (with_value int_lt dates (at r)) (at x)) e (with_value-has (at r) dates))
    | inr d ↦ moments_have (with_value int_lt dates (at r)) rs s d
  ]

  -- a date was there, or is a second of the day
  abbrev Came : List ℤ → List ℕ → ℤ → Type 0
  Came dates ss u = Contains dates u ⊎ ((s : ℕ) × Contains ss s × (at s ≡ u))

  pub moments_only : (dates : List ℤ) (ss : List ℕ) (u : ℤ) → Contains (with_moments dates from day ss) u → Came dates ss u
  moments_only dates [] u c = inl c
  moments_only dates (s ∷ ss) u c = elim (moments_only (with_value int_lt dates (at s)) ss u c) [
    | inl d ↦ elim (with_value-only (at s) dates u d) [
      | inl e ↦ inl e
      | inr e ↦ inr (s, Contains-head s ss, e)
    ]
    | inr d ↦ inr (d.0, Contains-tail s ss d.0 d.1, d.2)
  ]

  -- one second more is put
  pub second_put : (old new : List ℤ) (ss : List ℕ) (i : ℕ) (all : List ℤ) → i < length ss
      → new ≡ with_value int_lt old (at (get_or ss i 0)) → with_moments old from day (drop i ss) ≡ all → with_moments new from day (drop (i + 1) ss) ≡ all
  second_put old new ss i all h e so_far =
      ap (λ x. with_moments x from day (drop (i + 1) ss)) e ∙ sym (at_drop_more (λ xs. with_moments old from day xs) ss i 0 h) ∙ so_far

-- ---- one day more

-- what the list has so far
abbrev pub IsListTo : Tree → ℤ → ℤ → List ℤ → Type 0
IsListTo tree from position onsets = IsSetOf int_lt onsets (IsListed tree from position)

module _ (tree : Tree) (from : ℤ) where
  -- before the year 1 nothing is listed
  pub nothing_listed : (position : ℤ) → position ≡ first_day_of_year (pos 1) → IsListTo tree from position []
  nothing_listed position e = record {
    rises = tt;
    exact = λ u. ((λ c. absurd (Contains-none u c)), (λ l. absurd (omega (arith, ints, e, l.late, l.early))));
  }

  module _ (position day : ℤ) (onsets : List ℤ) (times : List ℕ) (list : IsListTo tree from position onsets) (found : IsFirstOccupied tree position day times)
      (low : first_day_of_year (pos 1) ≤ℤ position) (below : All (λ s. s < 86_400) times) where
    -- a second of the day is listed
    here : (s : ℕ) (u : ℤ) → Contains times s → (moment_at Moments day s -ℤ from) ≡ u → IsListed tree from (day +ℤ pos 1) u
    here s u c e =
        let small : s < 86_400 = All-contains (λ x. x < 86_400) times s below c in
        let back : u +ℤ from ≡ moment_at Moments day s = omega (arith, ints, e) in
        let d : day_part Moments (u +ℤ from) ≡ day = ap (day_part Moments) back ∙ day_part-moment_at day s small in
        let t : second_part Moments (u +ℤ from) ≡ s = ap (second_part Moments) back ∙ second_part-moment_at day s small in
        let stands : stands_at tree day s ≡ true = (found.all.exact s).0 c in
        record {
          late = rw d (omega (arith, ints, low, found.late));
          early = rw d (omega (arith, ints));
          stands = rw (d, t) stands;
        }

    -- what was listed is listed
    earlier : (u : ℤ) → IsListed tree from position u → IsListed tree from (day +ℤ pos 1) u
    earlier u l = record { late = l.late; early = omega (arith, ints, l.early, found.late); stands = l.stands }

    back : (u : ℤ) → IsListed tree from (day +ℤ pos 1) u → Contains (with_moments onsets from day times) u
    back u l =
        by_lt_z {P = Contains (with_moments onsets from day times) u} (day_part Moments (u +ℤ from)) position
        (λ early. moments_keep from day onsets times u ((list.exact u).1 (record { late = l.late; early = early; stands = l.stands })))
        (λ after. by_lt_z {P = Contains (with_moments onsets from day times) u} (day_part Moments (u +ℤ from)) day
        (λ before. absurd (false≢true (sym (found.before (day_part Moments (u +ℤ from)) (second_part Moments (u +ℤ from)) after before) ∙ l.stands)))
        (λ late. (
        let d : day_part Moments (u +ℤ from) ≡ day = omega (arith, ints, late, l.early) in
        let c : Contains times (second_part Moments (u +ℤ from)) = (found.all.exact (second_part Moments (u +ℤ from))).1
        (subst (λ x. stands_at tree x (second_part Moments (u +ℤ from)) ≡ true) d l.stands) in
        let m : u +ℤ from ≡ moment_at Moments day (second_part Moments (u +ℤ from)) = (of_day Moments (u +ℤ from) day d).0 in
        let e : (moment_at Moments day (second_part Moments (u +ℤ from)) -ℤ from) ≡ u = omega (arith, ints, m) in
        subst (Contains (with_moments onsets from day times)) e (moments_have from day onsets times (second_part Moments (u +ℤ from)) c))))

    -- the day that was found is listed too
    pub day_listed : IsListTo tree from (day +ℤ pos 1) (with_moments onsets from day times)
    day_listed = record {
      rises = moments_rise from day onsets times list.rises;
      exact = λ u. (
        (λ c. elim (moments_only from day onsets times u c) [ inl d ↦ earlier u ((list.exact u).0 d) | inr d ↦ here d.0 u d.1 d.2 ]),
        back u,
      );
    }

  -- if no further day is found all is listed
  pub all_listed : (position after end : ℤ) (onsets : List ℤ) → IsListTo tree from position onsets → position ≤ℤ end → HasNone tree position after
      → end ≤ℤ after → IsListTo tree from end onsets
  all_listed position after end onsets list within none past = record {
    rises = list.rises;
    exact = λ u. (
      (λ c. (let l = (list.exact u).0 c in record { late = l.late; early = omega (arith, ints, l.early, within); stands = l.stands })),
      (λ l. (list.exact u).1 (record { late = l.late; early = early u l; stands = l.stands })),
    );
  }
    where
      early : (u : ℤ) → IsListed tree from end u → day_part Moments (u +ℤ from) <ℤ position
      early u l =
          by_lt_z {P = day_part Moments (u +ℤ from) <ℤ position} (day_part Moments (u +ℤ from)) position (λ m. m)
          (λ g. absurd (false≢true (sym (none (day_part Moments (u +ℤ from)) (second_part Moments (u +ℤ from)) g (omega (arith, ints, l.early, past))) ∙ l.stands)))

-- ---- the tree of an observance

dates_in_years : (series : Series) → series.kind ≡ Moments → IsValidSeries series → All (IsInYears Moments) (dates_with_start series)
dates_in_years series kind valid =
    subst (λ k. All (IsInYears k) (dates_with_start series)) kind
    (elim series.start_counts as (λ b. All (IsInYears series.kind) (if b then with_value int_lt series.plus series.start else series.plus)) [
      | true ↦ All-with_value (IsInYears series.kind) int_lt series.plus series.start valid.plus valid.start
      | false ↦ valid.plus
    ])

forest_kind : (start : ℤ) (rules : List Rule) → All (λ rule. IsOfKind Moments (members_of Moments start rule)) rules
    → AreOfKind Moments (members_of_all Moments start rules)
forest_kind start [] all = tt
forest_kind start (rule ∷ rules) all = (all 0 rule (omega arith), forest_kind start rules (λ k d l. all (suc k) d (omega (arith, l))))

pub given_dates : (series : Series) (dates : List ℤ) → series.kind ≡ Moments → IsValidSeries series → dates ≡ dates_with_start series
    → All (IsInYears Moments) dates
given_dates series dates kind valid e = subst (All (IsInYears Moments)) (sym e) (dates_in_years series kind valid)

pub given_kind : (series : Series) (a b : Tree) → series.kind ≡ Moments → IsValidSeries series → All (IsSoundRule Moments series.start) series.rules
    → a ≡ dates_of Moments (dates_with_start series) → b ≡ many (members_of_all Moments series.start series.rules) → IsOfOneKind (union a b)
given_kind series a b kind valid rules e f =
    rw (e, f) (of_one_kind Moments (union (dates_of Moments (dates_with_start series)) (many (members_of_all Moments series.start series.rules)))
    (((λ i. Moments), dates_in_years series kind valid), forest_kind series.start series.rules (members_of_kind Moments series.start series.rules rules)))

pub given_tree : (series : Series) (a b t : Tree) → series.kind ≡ Moments → a ≡ dates_of Moments (dates_with_start series)
    → b ≡ many (members_of_all Moments series.start series.rules) → t ≡ union a b → t ≡ tree_of_given series
given_tree series a b t kind e f g =
    g ∙ ap (λ x. union x b) e ∙ ap (union (dates_of Moments (dates_with_start series))) f
    ∙ ap (λ k. union (dates_of k (dates_with_start series)) (many (members_of_all k series.start series.rules))) (sym kind)
