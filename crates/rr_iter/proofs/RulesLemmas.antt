-- The parts of a series: its dates, and the members of its rules.
use Rattle.std.proofs.Common.{◌≡◌, ℕ, zero, suc, ◌+◌, ◌<◌, List, [], ◌∷◌, ◌++◌, length, get_or, take, All, ℤ, true, false, refl, sym, ap, subst, ◌∙◌, arith}
use Rattle.std.specs.Prelude.{if◌then◌else◌, int_lt}
use Rattle.std.proofs.lemmas.List.{take_all, take_more}
use Rattle.rr_model.specs.Moment.Years.{IsInYears}
use Rattle.rr_model.specs.Rule.Validity.{EndsInYears}
use Rattle.rr_model.specs.Series.Soundness.{EndsNotBefore, IsSound}
use Rattle.rr_model.specs.Series.Tree.{dates_with_start, up_to_end, members_of, members_of_all, tree_of_given}
use Rattle.rr_model.specs.Sets.Tree.{Tree, chosen_of, dates_of, union, many, without, except, part, IsOfKind, AreOfKind, IsOfOneKind}
use Rattle.rr_model.specs.declared.kind.Kind.{Kind}
use Rattle.rr_model.specs.declared.rule.End.{End}
use Rattle.rr_model.specs.declared.rule.End.TheVariants.{Never, Until, Count, Both}
use Rattle.rr_model.specs.declared.rule.Rule.{Rule}
use Rattle.rr_model.specs.declared.rule.Series.{Series}
use Rattle.rr_model.specs.Rising.{with_value}
use Rattle.rr_model.proofs.RisingLemmas.{All-with_value}
use Rattle.rr_iter.specs.Ends.{IsSoundRule}
use Rattle.rr_iter.proofs.SettledLemmas.{excluded_are_sound, rules_are_sound}
use Rattle.rr_lazy.specs.Many.{with_part, tree_with_part}
use Rattle.rr_lazy.proofs.KindLemmas.{of_one_kind}

-- a tree up to an end that is of its kind
ended_of_kind : (kind : Kind) (start : ℤ) (tree : Tree) (end : End) → IsOfKind kind tree → EndsInYears end → EndsNotBefore kind start end
    → IsOfKind kind (up_to_end kind end tree)
ended_of_kind kind start tree Never h y n = h
ended_of_kind kind start tree (Until other at) h y n = ((λ i. kind), subst (λ k. IsInYears k at) n.0 y, h)
ended_of_kind kind start tree (Count count) h y n = h
ended_of_kind kind start tree (Both other at count) h y n = ((λ i. kind), subst (λ k. IsInYears k at) n.0 y, h)

-- the members of each of some rules are of their kind
pub members_of_kind : (kind : Kind) (start : ℤ) (rules : List Rule) → All (IsSoundRule kind start) rules
    → All (λ rule. IsOfKind kind (members_of kind start rule)) rules
members_of_kind kind start rules s k d l =
    let rule = get_or rules k d in
    let sound = s k d l in
    ended_of_kind kind start (chosen_of rule kind start) rule.end ((λ i. kind), sound.valid, sound.in_years) sound.ends_in_years sound.end

module _ (kind : Kind) (start : ℤ) where
  -- the members of each of these rules
  abbrev all_members : List Rule → Tree
  all_members rules = many (members_of_all kind start rules)

  -- of the first rules of a list they are of the kind, if those of each are
  first_of_kind : (n : ℕ) (rules : List Rule) → All (λ rule. IsOfKind kind (members_of kind start rule)) rules
      → AreOfKind kind (members_of_all kind start (take n rules))
  first_of_kind zero rules a = tt
  first_of_kind (suc n) [] a = tt
  first_of_kind (suc n) (rule ∷ rules) a = (a 0 rule (omega arith), first_of_kind n rules (λ k d l. a (suc k) d (omega (arith, l))))

  last_part : (rule : Rule) (rules : List Rule)
      → members_of_all kind start (rules ++ rule ∷ []) ≡ with_part (members_of_all kind start rules) (members_of kind start rule)
  last_part rule [] = refl
  last_part rule (x ∷ rules) = ap (part (members_of kind start x)) (last_part rule rules)

  -- the members of the first rules, and those of one more
  module _ (rules : List Rule) (i : ℕ) (rule : Rule) (old t : Tree) (l : i < length rules) (e : rule ≡ get_or rules i rule)
      (f : old ≡ all_members (take i rules)) (g : t ≡ members_of kind start rule) where
    pub joined_next : tree_with_part old t ≡ all_members (take (i + 1) rules)
    joined_next =
        let more = take_more rules i rule l ∙ ap (λ r. take i rules ++ r ∷ []) (sym e) in
        let parts = ap (members_of_all kind start) more ∙ last_part rule (take i rules) in
        ap (λ x. tree_with_part x t) f ∙ ap (tree_with_part (all_members (take i rules))) g ∙ sym (ap many parts)

    pub joined_kind : All (λ r. IsOfKind kind (members_of kind start r)) rules → IsOfOneKind (tree_with_part old t)
    joined_kind a = subst IsOfOneKind (sym joined_next) (of_one_kind kind (all_members (take (i + 1) rules)) (first_of_kind (i + 1) rules a))

-- ---- the whole series

-- the dates added, and the start if it counts
pub dates_in_years : (series : Series) → IsSound series → All (IsInYears series.kind) (dates_with_start series)
dates_in_years series s =
    elim series.start_counts as (λ b. All (IsInYears series.kind) (if b then with_value int_lt series.plus series.start else series.plus)) [
      | true ↦ All-with_value (IsInYears series.kind) int_lt series.plus series.start s.valid.plus s.valid.start
      | false ↦ s.valid.plus
    ]

-- the members of some rules together
all_of_rules : (kind : Kind) (start : ℤ) (rules : List Rule) → All (IsSoundRule kind start) rules → AreOfKind kind (members_of_all kind start rules)
all_of_rules kind start rules s =
    let first = first_of_kind kind start (length rules) rules (members_of_kind kind start rules s) in
    subst (λ r. AreOfKind kind (members_of_all kind start r)) (take_all (length rules) rules (omega arith)) first

given_of_kind : (series : Series) → IsSound series → IsOfKind series.kind (tree_of_given series)
given_of_kind series s =
    (((λ i. series.kind), dates_in_years series s), all_of_rules series.kind series.start series.rules (rules_are_sound series s))

pub all_one_kind : (series : Series) (a b : Tree) → IsSound series → a ≡ dates_of series.kind (dates_with_start series)
    → b ≡ all_members series.kind series.start series.rules → IsOfOneKind (union a b)
all_one_kind series a b s e f = rw (e, f) (of_one_kind series.kind (tree_of_given series) (given_of_kind series s))

-- what is left of these once the members of excluded rules are taken out
abbrev kept_of : Series → Tree
kept_of series = except (tree_of_given series) (all_members series.kind series.start series.excluded)

kept_of_kind : (series : Series) → IsSound series → IsOfKind series.kind (kept_of series)
kept_of_kind series s = (given_of_kind series s, all_of_rules series.kind series.start series.excluded (excluded_are_sound series s))

pub kept_one_kind : (series : Series) (a b : Tree) → IsSound series → a ≡ tree_of_given series
    → b ≡ all_members series.kind series.start series.excluded → IsOfOneKind (except a b)
kept_one_kind series a b s e f = rw (e, f) (of_one_kind series.kind (kept_of series) (kept_of_kind series s))

pub whole_one_kind : (series : Series) (a : Tree) (dates : List ℤ) → IsSound series → a ≡ kept_of series → dates ≡ series.minus
    → IsOfOneKind (without a series.kind dates)
whole_one_kind series a dates s e f =
    ((λ i. series.kind), subst (All (IsInYears series.kind)) (sym f) s.valid.minus, subst (IsOfKind series.kind) (sym e) (kept_of_kind series s))

-- two trees that are known make the tree of their difference
pub same_except : (a a' b b' : Tree) → a ≡ a' → b ≡ b' → except a b ≡ except a' b'
same_except a a' b b' e f = ap (λ t. except t b) e ∙ ap (λ t. except a' t) f
