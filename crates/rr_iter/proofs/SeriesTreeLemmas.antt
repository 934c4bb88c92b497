-- What stands in the tree of a series is what occurs in it.
use Rattle.std.proofs.Common.{◌≡◌, ◌⊎◌, ◌↔◌, true, false, ◌&&◌, ◌||◌, not, Bool, List, [], ◌∷◌, All, Contains, ℤ, refl, sym, subst, ◌∙◌, inl, inr}
use Rattle.std.specs.Prelude.{int_lt, if◌then◌else◌}
use Rattle.std.proofs.lemmas.Bool.{false≢true, and_from, and_parts, or_cases, or_left, or_right, not-true, not_from_false, false_from_ne_true}
use Rattle.std.proofs.lemmas.List.Elements.{All-head, All-tail}
use Rattle.rr_model.specs.Moment.{day_part, second_part}
use Rattle.rr_model.specs.Moment.Years.{IsInYears}
use Rattle.rr_model.specs.Rising.{with_value}
use Rattle.rr_model.specs.Rule.Candidate.{lists}
use Rattle.rr_model.specs.Series.Occurrences.{IsMemberOfSome, Occurs}
use Rattle.rr_model.specs.Series.Soundness.{EndsNotBefore, IsSound}
use Rattle.rr_model.specs.Series.Tree.{members_of, members_of_all, dates_with_start, tree_of, TreeStandsForSeries}
use Rattle.rr_model.specs.Sets.Tree.{is_among, some_stands_at, stands_in}
use Rattle.rr_model.specs.declared.kind.Kind.{Kind}
use Rattle.rr_model.specs.declared.rule.Rule.{Rule}
use Rattle.rr_model.specs.declared.rule.Series.{Series}
use Rattle.rr_model.proofs.WithValueLemmas.{with_value-has, with_value-keeps, with_value-only}
use Rattle.rr_lazy.proofs.AgreeLemmas.{members_agree, moment_is}
use Rattle.rr_lazy.proofs.StretchLemmas.{listed}

-- ---- rules

-- some rule's tree has it exactly if it is a member of some rule
members_of_some : (rules : List Rule) (kind : Kind) (start t : ℤ) → IsInYears kind start → All (λ rule. EndsNotBefore kind start rule.end) rules
    → (some_stands_at (members_of_all kind start rules) (day_part kind t) (second_part kind t) ≡ true) ↔ IsMemberOfSome rules kind start t
members_of_some [] kind start t y fit = (λ h. absurd (false≢true h), λ m. absurd m)
members_of_some (rule ∷ rules) kind start t y fit =
    let a = members_agree rule kind start t y (All-head (λ r. EndsNotBefore kind start r.end) rule rules fit) in
    let b = members_of_some rules kind start t y (All-tail (λ r. EndsNotBefore kind start r.end) rule rules fit) in
    let one = stands_in (members_of kind start rule) kind t in
    let others = some_stands_at (members_of_all kind start rules) (day_part kind t) (second_part kind t) in (
      λ h. elim (or_cases one others h) [ inl x ↦ inl (a.0 x) | inr x ↦ inr (b.0 x) ],
      λ m. elim m [ inl x ↦ or_left one others (a.1 x) | inr x ↦ or_right one others (b.1 x) ],
    )

-- ---- dates

-- the start, if it counts, or a date that is added
dates_are : (b : Bool) (plus : List ℤ) (start t : ℤ)
    → Contains (if b then with_value int_lt plus start else plus) t ↔ (((b ≡ true) × (t ≡ start)) ⊎ Contains plus t)
dates_are true plus start t = (
  λ c. elim (with_value-only start plus t c) [ inl d ↦ inr d | inr e ↦ inl (refl, sym e) ],
  λ m. elim m [ inl h ↦ subst (Contains (with_value int_lt plus start)) (sym h.1) (with_value-has start plus) | inr d ↦ with_value-keeps start plus t d ],
)
dates_are false plus start t = (λ c. inr c, λ m. elim m [ inl h ↦ absurd (false≢true h.0) | inr d ↦ d ])

-- a date stands exactly if it is listed
among_is : (kind : Kind) (dates : List ℤ) (t : ℤ) → (is_among kind dates (day_part kind t) (second_part kind t) ≡ true) ↔ Contains dates t
among_is kind dates t =
    let m = moment_is kind t in
    let same : is_among kind dates (day_part kind t) (second_part kind t) ≡ lists dates t = rw (m.0, m.1) refl in
    (λ h. (listed dates t).0 (sym same ∙ h), λ c. same ∙ (listed dates t).1 c)

-- ---- the series

module _ (series : Series) (t : ℤ) (sound : IsSound series) where
  -- t stands among the dates added, with the start if it counts
  abbrev dates : Bool
  dates = is_among series.kind (dates_with_start series) (day_part series.kind t) (second_part series.kind t)

  -- in the tree of a rule
  abbrev rules : Bool
  rules = some_stands_at (members_of_all series.kind series.start series.rules) (day_part series.kind t) (second_part series.kind t)

  -- in the tree of an excluded rule
  abbrev excluded : Bool
  excluded = some_stands_at (members_of_all series.kind series.start series.excluded) (day_part series.kind t) (second_part series.kind t)

  -- among the dates taken out
  abbrev minus : Bool
  minus = is_among series.kind series.minus (day_part series.kind t) (second_part series.kind t)

  of_rules : (rules ≡ true) ↔ IsMemberOfSome series.rules series.kind series.start t
  of_rules = members_of_some series.rules series.kind series.start t sound.valid.start (λ k d l. (sound.rules k d l).end)

  of_excluded : (excluded ≡ true) ↔ IsMemberOfSome series.excluded series.kind series.start t
  of_excluded = members_of_some series.excluded series.kind series.start t sound.valid.start sound.excluded

  of_dates : (dates ≡ true) ↔ (((series.start_counts ≡ true) × (t ≡ series.start)) ⊎ Contains series.plus t)
  of_dates =
      let a = among_is series.kind (dates_with_start series) t in
      let b = dates_are series.start_counts series.plus series.start t in
      (λ h. b.0 (a.0 h), λ m. a.1 (b.1 m))

  of_minus : (minus ≡ true) ↔ Contains series.minus t
  of_minus = among_is series.kind series.minus t

  stands : (((dates || rules) && not excluded) && not minus) ≡ true → Occurs series series.kind t
  stands h =
      let p = and_parts ((dates || rules) && not excluded) (not minus) h in
      let q = and_parts (dates || rules) (not excluded) p.0 in
      record {
        kind = refl;
        stands = elim (or_cases dates rules q.0) [
          | inl d ↦ elim (of_dates.0 d) [ inl x ↦ inl x | inr y ↦ inr (inr y) ]
          | inr r ↦ inr (inl (of_rules.0 r))
        ];
        kept = λ c. absurd (false≢true (sym (not-true minus p.1) ∙ of_minus.1 c));
        not_excluded = λ m. absurd (false≢true (sym (not-true excluded q.1) ∙ of_excluded.1 m));
      }

  occurring : (k : Kind) → Occurs series k t → (((dates || rules) && not excluded) && not minus) ≡ true
  occurring k o =
      let s : (dates || rules) ≡ true = elim o.stands [
        | inl x ↦ or_left dates rules (of_dates.1 (inl x))
        | inr y ↦ elim y [ inl m ↦ or_right dates rules (of_rules.1 m) | inr p ↦ or_left dates rules (of_dates.1 (inr p)) ]
      ] in
      let out = not_from_false excluded (false_from_ne_true excluded (λ m. o.not_excluded (of_excluded.0 m))) in
      and_from ((dates || rules) && not excluded) (not minus) (and_from (dates || rules) (not excluded) s out)
      (not_from_false minus (false_from_ne_true minus (λ m. o.kept (of_minus.0 m))))

pub tree_stands_for_series : TreeStandsForSeries
tree_stands_for_series series k t sound = (
  λ h. subst (λ x. Occurs series x t) (sym h.0) (stands series t sound (subst (λ x. stands_in (tree_of series) x t ≡ true) h.0 h.1)),
  λ o. (o.kind, subst (λ x. stands_in (tree_of series) x t ≡ true) (sym o.kind) (occurring series t sound k o)),
)
