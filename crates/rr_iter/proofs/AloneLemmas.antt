-- A series that has nothing but one rule has the rule's members alone.
use Rattle.std.proofs.Common.{◌≡◌, true, false, ◌&&◌, ◌||◌, not, cond, Bool, ℕ, ◌≤◌, List, [], ◌∷◌, All, length, ℤ, pos, ◌+◌, inl, inr, ◌-ℤ◌, ◌+ℤ◌, refl, sym, subst, arith}
use Rattle.std.specs.Prelude.{nat_abs}
use Rattle.std.proofs.lemmas.Int.{ints}
use Rattle.std.proofs.lemmas.Bool.{and_parts, false≢true}
use Rattle.std.proofs.Math.Bool.{and-false}
use Rattle.rr_model.specs.Moment.{moment_at}
use Rattle.rr_model.specs.Moment.Years.{IsInYears}
use Rattle.rr_model.specs.Rule.Candidate.{lists}
use Rattle.rr_model.specs.Rule.Chosen.{is_chosen, IsSynchronised}
use Rattle.rr_model.specs.Rule.Member.{IsWithinEnd, members_to}
use Rattle.rr_model.specs.Rule.Validity.{HasCountInRange, IsValidRule}
use Rattle.rr_model.specs.Series.Soundness.{EndsNotBefore, FitsStart, IsSound}
use Rattle.rr_model.specs.Series.Tree.{members_of, tree_of}
use Rattle.rr_model.specs.Sets.Tree.{Tree, IsOfOneKind, is_among, has_second, stands_at, stands_in}
use Rattle.rr_model.specs.declared.kind.Kind.{Kind}
use Rattle.rr_model.specs.declared.rule.End.{End}
use Rattle.rr_model.specs.declared.rule.End.TheVariants.{Never, Until, Count, Both}
use Rattle.rr_model.specs.declared.rule.Rule.{Rule}
use Rattle.rr_model.specs.declared.rule.Series.{Series}
use Rattle.rr_model.proofs.CountLemmas.{count_from-suc, count_from-zero}
use Rattle.rr_model.proofs.RisingSetLemmas.{Contains-none, Contains-cons_cases}
use Rattle.rr_lazy.proofs.AgreeLemmas.{members_agree}
use Rattle.rr_lazy.proofs.StretchLemmas.{listed, moment_day, moment_second}
use Rattle.rr_iter.specs.Alone.{IsAlone, tree_alone}
use Rattle.rr_iter.specs.Ends.{IsSoundRule}
use Rattle.rr_iter.proofs.RulesLemmas.{whole_one_kind}
use Rattle.rr_iter.proofs.SettledLemmas.{rules_are_sound}

-- ---- the start is a member

-- of the moments from the start to the start at most one is chosen
one_at_start : (rule : Rule) (kind : Kind) (start : ℤ) → members_to rule kind start start ≤ 1
one_at_start rule kind start =
    let one : nat_abs ((start -ℤ start) +ℤ pos 1) ≡ 1 = omega (arith, ints) in
    let p = is_chosen rule kind start in
    rw (one, count_from-suc p start 0, count_from-zero p start) (at_most_one (p (start +ℤ pos 0)))
  where
    at_most_one : (b : Bool) → 0 + cond b 1 0 ≤ 1
    at_most_one true = omega arith
    at_most_one false = omega arith

start_within : (rule : Rule) (kind : Kind) (start : ℤ) (end : End) → HasCountInRange end → EndsNotBefore kind start end
    → IsWithinEnd end kind start (members_to rule kind start start)
start_within rule kind start Never c f = tt
start_within rule kind start (Until other at) c f = f
start_within rule kind start (Count count) c f = omega (arith, one_at_start rule kind start, c.0)
start_within rule kind start (Both other at count) c f = (f.0, f.1, omega (arith, one_at_start rule kind start, c.0))

pub start_stands : (rule : Rule) (kind : Kind) (start : ℤ) → IsInYears kind start → IsSynchronised rule kind start → HasCountInRange rule.end
    → EndsNotBefore kind start rule.end → stands_in (members_of kind start rule) kind start ≡ true
start_stands rule kind start y s c f =
    (members_agree rule kind start start y f).1 (record { chosen = s; not_before = omega (arith, ints); within_end = start_within rule kind start rule.end c f })

-- ---- the same seconds

-- what stands where the start does stands in the rule's tree
at_start : (kind : Kind) (start : ℤ) (members : Tree) → stands_in members kind start ≡ true → (d : ℤ) (s : ℕ)
    → is_among kind (start ∷ []) d s ≡ true → stands_at members d s ≡ true
at_start kind start members h d s among =
    let p = and_parts (has_second kind s) (lists (start ∷ []) (moment_at kind d s)) among in
    let e : start ≡ moment_at kind d s = elim (Contains-cons_cases start [] (moment_at kind d s) ((listed (start ∷ []) (moment_at kind d s)).0 p.1)) [
      | inl e ↦ e
      | inr c ↦ absurd (Contains-none (moment_at kind d s) c)
    ] in
    rw (e, moment_day kind d s p.0, moment_second kind d s p.0) at h

either : (a m n : Bool) → n ≡ false → (a ≡ true → m ≡ true) → (((a || (m || false)) && true) && not n) ≡ m
either a m true e same = absurd (false≢true (sym e))
either true true false e same = refl
either true false false e same = absurd (false≢true (same refl))
either false true false e same = refl
either false false false e same = refl

none_among : (kind : Kind) (d : ℤ) (s : ℕ) → is_among kind [] d s ≡ false
none_among kind d s = and-false (has_second kind s)

pub same_alone : (kind : Kind) (start : ℤ) (members : Tree) → stands_in members kind start ≡ true → (d : ℤ) (s : ℕ)
    → stands_at (tree_alone kind start members) d s ≡ stands_at members d s
same_alone kind start members h d s =
    either (is_among kind (start ∷ []) d s) (stands_at members d s) (is_among kind [] d s) (none_among kind d s) (at_start kind start members h d s)

-- ---- the series

pub tree_is : (series : Series) (alone : IsAlone series)
    → tree_of series ≡ tree_alone series.kind series.start (members_of series.kind series.start alone.rule)
tree_is series alone = rw (alone.rules, alone.excluded, alone.plus, alone.minus, alone.start_counts) refl

pub has_start : (series : Series) → IsSound series → (alone : IsAlone series)
    → stands_in (members_of series.kind series.start alone.rule) series.kind series.start ≡ true
has_start series sound alone =
    let fits = subst (All (FitsStart series.kind series.start)) alone.rules sound.rules 0 alone.rule (omega arith) in
    let valid = subst (All (IsValidRule series.kind)) alone.rules sound.valid.rules 0 alone.rule (omega arith) in
    start_stands alone.rule series.kind series.start sound.valid.start fits.synchronised valid.count fits.end

pub of_one_kind : (series : Series) → IsSound series → (alone : IsAlone series)
    → IsOfOneKind (tree_alone series.kind series.start (members_of series.kind series.start alone.rule))
of_one_kind series sound alone = subst IsOfOneKind (tree_is series alone) (whole_one_kind series _ series.minus sound refl refl)

pub sound_rule : (series : Series) → IsSound series → (alone : IsAlone series) → IsSoundRule series.kind series.start alone.rule
sound_rule series sound alone = subst (All (IsSoundRule series.kind series.start)) alone.rules (rules_are_sound series sound) 0 alone.rule (omega arith)

-- a list of one rule
pub one_rule : (rules : List Rule) → length rules ≡ 1 → (rule : Rule) × (rules ≡ rule ∷ [])
one_rule [] e = absurd (omega (arith, e))
one_rule (rule ∷ []) e = (rule, refl)
one_rule (rule ∷ other ∷ rules) e = absurd (omega (arith, e))
