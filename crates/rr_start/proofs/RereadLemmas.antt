-- What occurs in a series that is restated, and that it is not refused.
use Rattle.std.proofs.Common.{◌≡◌, ◌↔◌, ◌⊎◌, ℕ, ◌+◌, ◌≤◌, Bool, true, false, cond, Option, None, Some, List, [], ◌∷◌, All, Contains, length}
use Rattle.std.proofs.Common.{ℤ, ◌≤ℤ◌, ◌<ℤ◌, int_lt, refl, sym, ap, subst, ◌∙◌, inl, inr, arith}
use Rattle.std.specs.Option.{option_or}
use Rattle.std.proofs.lemmas.Bool.{false≢true}
use Rattle.std.proofs.lemmas.Int.{ints, by_lt_z}
use Rattle.std.proofs.lemmas.List.Elements.{All-head}
use Rattle.rr_model.specs.Moment.Years.{IsInYears}
use Rattle.rr_model.specs.Rising.{with_value}
use Rattle.rr_model.specs.Rule.Chosen.{is_chosen}
use Rattle.rr_model.specs.Rule.Member.{IsMember, IsWithinEnd, members_to}
use Rattle.rr_model.specs.Rule.Validity.{IsValidRule}
use Rattle.rr_model.specs.Series.Occurrences.{IsMemberOfSome, Occurs}
use Rattle.rr_model.specs.Series.Soundness.{choice_refusal, end_refusal, ends_refusal, first_refusal, rule_refusal, rules_refusal}
use Rattle.rr_model.specs.Series.Validity.{IsValidSeries}
use Rattle.rr_model.specs.declared.kind.Kind.{Kind}
use Rattle.rr_model.specs.declared.kind.Kind.TheVariants.{Days, Moments}
use Rattle.rr_model.specs.declared.refusal.Refusal.TheVariants.{NotSynchronised}
use Rattle.rr_model.specs.declared.rule.End.{End}
use Rattle.rr_model.specs.declared.rule.End.TheVariants.{Never, Until, Count, Both}
use Rattle.rr_model.specs.declared.rule.Rule.{Rule}
use Rattle.rr_model.specs.declared.rule.Series.{Series}
use Rattle.rr_model.proofs.RisingLemmas.{All-with_value, Rises-with_value}
use Rattle.rr_model.proofs.WithValueLemmas.{with_value-has, with_value-keeps, with_value-only}
use Rattle.rr_start.specs.Laws.{OffIsNotSynchronised, RereadIsOne, RereadIsTaken, RereadOccurs, TakenIsNotOff}
use Rattle.rr_start.specs.Start.{IsFirstChosen, IsReread, IsStartOff, ReachesUncounted, restated}
use Rattle.rr_start.proofs.LaterLemmas.{later_starts}

-- ---- ends

-- an end that has no COUNT asks for no number
any_number : (end : End) (kind : Kind) (u t : ℤ) (m n : ℕ) → ReachesUncounted kind u end → IsWithinEnd end kind t m → IsWithinEnd end kind t n
any_number Never kind u t m n r w = tt
any_number (Until other at) kind u t m n r w = w
any_number (Count count) kind u t m n r w = absurd r
any_number (Both other at count) kind u t m n r w = absurd r

-- it reaches what is earlier
pub reaches_earlier : (end : End) (kind : Kind) (t u : ℤ) → t ≤ℤ u → ReachesUncounted kind u end → ReachesUncounted kind t end
reaches_earlier Never kind t u l r = tt
reaches_earlier (Until other at) kind t u l r = (r.0, omega (arith, ints, l, r.1))
reaches_earlier (Count count) kind t u l r = absurd r
reaches_earlier (Both other at count) kind t u l r = absurd r

until_reached : (t at : ℤ) → t ≤ℤ at → int_lt at t ≡ false
until_reached t at l = grind (arith, ints)

-- it is not refused beside a start that it reaches
end_reached : (end : End) (kind : Kind) (t : ℤ) → ReachesUncounted kind t end → end_refusal kind t end ≡ None
end_reached Never kind t r = refl
end_reached (Until Days at) Days t r = rw (until_reached t at r.1) refl
end_reached (Until Moments at) Days t r = absurd (cc)
end_reached (Until Days at) Moments t r = absurd (cc)
end_reached (Until Moments at) Moments t r = rw (until_reached t at r.1) refl
end_reached (Count count) kind t r = absurd r
end_reached (Both other at count) kind t r = absurd r

-- ---- refusals

neither : {X : Type 0} (x y : Option X) → x ≡ None → y ≡ None → option_or x y ≡ None
neither None y e f = f
neither (Some x) y e f = absurd (cc)

second_alone : {X : Type 0} (x y : Option X) (r : X) → x ≡ None → y ≡ Some r → option_or x y ≡ Some r
second_alone None y r e f = f
second_alone (Some x) y r e f = absurd (cc)

first_counts : {X : Type 0} (x y : Option X) (r : X) → x ≡ Some r → option_or x y ≡ Some r
first_counts None y r e = absurd (cc)
first_counts (Some x) y r e = e

-- ---- lists

length-by : (b d : Bool) (y v : ℤ) (ys more : List ℤ) → length more ≤ length ys + 1
    → length (cond b (y ∷ more) (cond d (v ∷ y ∷ ys) (y ∷ ys))) ≤ length (y ∷ ys) + 1
length-by true d y v ys more l = omega (arith, l)
length-by false true y v ys more l = omega arith
length-by false false y v ys more l = omega arith

-- a list gets one value more at most
length-with_value : (xs : List ℤ) (v : ℤ) → length (with_value int_lt xs v) ≤ length xs + 1
length-with_value [] v = omega arith
length-with_value (y ∷ ys) v = length-by (int_lt y v) (int_lt v y) y v ys (with_value int_lt ys v) (length-with_value ys v)

-- ---- first moments

-- there is one first moment at most
pub one_first : (rule : Rule) (kind : Kind) (start t u : ℤ) → IsFirstChosen rule kind start t → IsFirstChosen rule kind start u → t ≡ u
one_first rule kind start t u a b = omega (arith, ints, a.least u b.later b.chosen, b.least t a.later a.chosen)

-- a moment that is chosen and not before the start is after a start that is not chosen
pub after_start : (rule : Rule) (kind : Kind) (start t : ℤ) → is_chosen rule kind start start ≡ false → start ≤ℤ t
    → is_chosen rule kind start t ≡ true → start <ℤ t
after_start rule kind start t off l c = by_lt_z {P = start <ℤ t} start t (λ h. h) (λ g. (
    let e : t ≡ start = omega (arith, ints, l, g) in
    absurd (false≢true (sym off ∙ ap (is_chosen rule kind start) (sym e) ∙ c))))

one_start : (series : Series) (t u : ℤ) → IsStartOff series t → IsStartOff series u → t ≡ u
one_start series t u a b =
    let same : a.rule ≡ b.rule = cc (a.one_rule, b.one_rule) in
    one_first b.rule series.kind series.start t u (subst (λ (r : Rule). IsFirstChosen r series.kind series.start t) same a.first_chosen) b.first_chosen

pub reread_is_one : RereadIsOne
reread_is_one given read other true true r s =
    (r.2 ∙ ap (restated given) (one_start given r.0 s.0 r.1 s.1) ∙ sym s.2, refl)
reread_is_one given read other true false r s = absurd (s.1 r.0 r.1)
reread_is_one given read other false true r s = absurd (r.1 s.0 s.1)
reread_is_one given read other false false r s = (r.0 ∙ sym s.0, refl)

-- ---- a start that is off

module _ (given : Series) (first : ℤ) (off : IsStartOff given first) where
  refused : first_refusal given ≡ Some (NotSynchronised 1)
  refused =
      let kind = given.kind in
      let start = given.start in
      let end = end_reached off.rule.end kind start (reaches_earlier off.rule.end kind start first (omega (arith, ints, off.first_chosen.later)) off.reaches) in
      let choice : choice_refusal 1 kind start off.rule ≡ Some (NotSynchronised 1) = rw off.not_chosen refl in
      let rule = second_alone (end_refusal kind start off.rule.end) (choice_refusal 1 kind start off.rule) (NotSynchronised 1) end choice in
      let all = first_counts (rule_refusal 1 kind start off.rule) None (NotSynchronised 1) rule in
      first_counts (rules_refusal 1 kind start given.rules) (ends_refusal kind start given.excluded) (NotSynchronised 1)
      (ap (rules_refusal 1 kind start) off.one_rule ∙ all)

  module _ (valid : IsValidSeries given) where
    valid_rule : IsValidRule given.kind off.rule
    valid_rule = All-head (IsValidRule given.kind) off.rule [] (subst (All (IsValidRule given.kind)) off.one_rule valid.rules)

    same_choice : (t : ℤ) → is_chosen off.rule given.kind first t ≡ is_chosen off.rule given.kind given.start t
    same_choice t = later_starts off.rule given.kind given.start first t valid_rule off.first_chosen.chosen

    taken : first_refusal (restated given first) ≡ None
    taken =
        let kind = given.kind in
        let end = end_reached off.rule.end kind first off.reaches in
        let chosen : is_chosen off.rule kind first first ≡ true = same_choice first ∙ off.first_chosen.chosen in
        let choice : choice_refusal 1 kind first off.rule ≡ None = rw chosen refl in
        let rule = neither (end_refusal kind first off.rule.end) (choice_refusal 1 kind first off.rule) end choice in
        let all = neither (rule_refusal 1 kind first off.rule) None rule refl in
        neither (rules_refusal 1 kind first given.rules) (ends_refusal kind first given.excluded) (ap (rules_refusal 1 kind first) off.one_rule ∙ all)
        (ap (ends_refusal kind first) off.no_excluded)

    pub valid_restated : IsValidSeries (restated given first)
    valid_restated = record {
      start = off.in_years;
      start_counts = λ e. absurd (false≢true (sym e ∙ off.counts));
      rules = valid.rules;
      excluded = valid.excluded;
      few_rules = valid.few_rules;
      ends = valid.ends;
      excluded_ends = valid.excluded_ends;
      plus = All-with_value (IsInYears given.kind) int_lt given.plus given.start valid.plus valid.start;
      minus = valid.minus;
      plus_rises = Rises-with_value int_lt given.plus given.start valid.plus_rises;
      minus_rises = valid.minus_rises;
      few_dates = omega (arith, length-with_value given.plus given.start, off.room);
    }

    -- ---- members

    later_member : (t : ℤ) → IsMember off.rule given.kind given.start t → IsMember off.rule given.kind first t
    later_member t m = record {
      chosen = same_choice t ∙ m.chosen;
      not_before = off.first_chosen.least t (after_start off.rule given.kind given.start t off.not_chosen m.not_before m.chosen) m.chosen;
      within_end =
          any_number off.rule.end given.kind first t (members_to off.rule given.kind given.start t) (members_to off.rule given.kind first t) off.reaches
          m.within_end;
    }

    earlier_member : (t : ℤ) → IsMember off.rule given.kind first t → IsMember off.rule given.kind given.start t
    earlier_member t m = record {
      chosen = sym (same_choice t) ∙ m.chosen;
      not_before = omega (arith, ints, off.first_chosen.later, m.not_before);
      within_end =
          any_number off.rule.end given.kind first t (members_to off.rule given.kind first t) (members_to off.rule given.kind given.start t) off.reaches
          m.within_end;
    }

    -- a member of the one rule, from a start
    of_one : (start t : ℤ) → IsMemberOfSome given.rules given.kind start t → IsMember off.rule given.kind start t
    of_one start t m =
        let one : IsMember off.rule given.kind start t ⊎ ⊥ = subst (λ (rules : List Rule). IsMemberOfSome rules given.kind start t) off.one_rule m in
        elim one [ inl x ↦ x | inr e ↦ absurd e ]

    of_some : (start t : ℤ) → IsMember off.rule given.kind start t → IsMemberOfSome given.rules given.kind start t
    of_some start t m = subst (λ (rules : List Rule). IsMemberOfSome rules given.kind start t) (sym off.one_rule) (inl m)

    -- no rule takes a moment out
    none_excluded : (start t : ℤ) → IsMemberOfSome given.excluded given.kind start t → ⊥
    none_excluded start t m = subst (λ (rules : List Rule). IsMemberOfSome rules given.kind start t) off.no_excluded m

    -- ---- occurrences

    to_restated : (k : Kind) (t : ℤ) → Occurs given k t → Occurs (restated given first) k t
    to_restated k t o = record {
      kind = o.kind;
      stands = elim o.stands [
        | inl s ↦ inr (inr (subst (Contains (with_value int_lt given.plus given.start)) (sym s.1) (with_value-has given.start given.plus)))
        | inr (inl m) ↦ inr (inl (of_some first t (later_member t (of_one given.start t m))))
        | inr (inr d) ↦ inr (inr (with_value-keeps given.start given.plus t d))
      ];
      kept = o.kept;
      not_excluded = none_excluded first t;
    }

    date_from : (t : ℤ) → Contains (with_value int_lt given.plus given.start) t
        → ((given.start_counts ≡ true) × (t ≡ given.start)) ⊎ IsMemberOfSome given.rules given.kind given.start t ⊎ Contains given.plus t
    date_from t d = elim (with_value-only given.start given.plus t d) [ inl c ↦ inr (inr c) | inr e ↦ inl (off.counts, sym e) ]

    first_member : (t : ℤ) → t ≡ first → IsMember off.rule given.kind given.start t
    first_member t e = record {
      chosen = ap (is_chosen off.rule given.kind given.start) e ∙ off.first_chosen.chosen;
      not_before = omega (arith, ints, off.first_chosen.later, e);
      within_end = within off.rule.end off.reaches;
    }
      where
        within : (end : End) → ReachesUncounted given.kind first end → IsWithinEnd end given.kind t (members_to off.rule given.kind given.start t)
        within Never r = tt
        within (Until other at) r = (r.0, omega (arith, ints, r.1, e))
        within (Count count) r = absurd r
        within (Both other at count) r = absurd r

    from_restated : (k : Kind) (t : ℤ) → Occurs (restated given first) k t → Occurs given k t
    from_restated k t o = record {
      kind = o.kind;
      stands = elim o.stands [
        | inl s ↦ inr (inl (of_some given.start t (first_member t s.1)))
        | inr (inl m) ↦ inr (inl (of_some given.start t (earlier_member t (of_one first t m))))
        | inr (inr d) ↦ date_from t d
      ];
      kept = o.kept;
      not_excluded = none_excluded given.start t;
    }

-- ---- the laws

pub reread_occurs : RereadOccurs
reread_occurs given read true valid r k t =
    subst (λ (s : Series). Occurs given k t ↔ Occurs s k t) (sym r.2) (to_restated given r.0 r.1 valid k t, from_restated given r.0 r.1 valid k t)
reread_occurs given read false valid r k t = subst (λ (s : Series). Occurs given k t ↔ Occurs s k t) (sym r.0) (λ o. o, λ o. o)

pub reread_is_taken : RereadIsTaken
reread_is_taken given read valid r = ap first_refusal r.2 ∙ taken given r.0 r.1 valid

pub off_is_not_synchronised : OffIsNotSynchronised
off_is_not_synchronised series first off = refused series first off

pub taken_is_not_off : TakenIsNotOff
taken_is_not_off series first none off = let is = refused series first off in absurd (cc)

-- what is read anew is valid
pub valid_reread : (given read : Series) (off : Bool) → IsValidSeries given → IsReread given read off → IsValidSeries read
valid_reread given read true valid r = subst IsValidSeries (sym r.2) (valid_restated given r.0 r.1 valid)
valid_reread given read false valid r = subst IsValidSeries (sym r.0) valid
