-- The members of a rule are what stands in its tree.
use Rattle.std.proofs.Common.{◌≡◌, ◌⊎◌, ◌↔◌, ℕ, ◌+◌, ◌<◌, ◌≤◌, true, ◌&&◌, ℤ, ◌≤ℤ◌, ◌<ℤ◌, refl, sym, ◌∙◌, inl, inr, arith}
use Rattle.std.specs.Prelude.{IsTrue, nat_le, int_le}
use Rattle.std.proofs.lemmas.Int.{ints}
use Rattle.std.proofs.lemmas.Bool.{and_from, and_parts}
use Rattle.std.proofs.lemmas.Bool.Decides.{nat_tests}
use Rattle.std.proofs.Math.Bool.{and-true}
use Rattle.rr_model.specs.Moment.{day_part, second_part, moment_at}
use Rattle.rr_model.specs.Moment.Years.{IsInYears, IsFromYearOne}
use Rattle.rr_model.specs.Rule.Chosen.{is_chosen}
use Rattle.rr_model.specs.Rule.Member.{members_to, IsMember, IsWithinEnd}
use Rattle.rr_model.specs.Series.Soundness.{EndsNotBefore}
use Rattle.rr_model.specs.Series.Tree.{up_to_end, members_of}
use Rattle.rr_model.specs.Sets.Counting.{count_to}
use Rattle.rr_model.specs.Sets.Tree.{Tree, chosen_of, upto, has_second, stands_at, stands_in}
use Rattle.rr_model.specs.declared.kind.Kind.{Kind}
use Rattle.rr_model.specs.declared.kind.Kind.TheVariants.{Days, Moments}
use Rattle.rr_model.specs.declared.rule.End.{End}
use Rattle.rr_model.specs.declared.rule.End.TheVariants.{Never, Until, Count, Both}
use Rattle.rr_model.specs.declared.rule.Rule.{Rule}
use Rattle.rr_model.proofs.WholeLemmas.{floor_whole, floor_mod_below}
use Rattle.rr_model.proofs.OrderLemmas.{day_mono}
use Rattle.rr_lazy.proofs.MemberCountLemmas.{to_same, count_is}

-- a moment is at its own day and second
pub moment_is : (kind : Kind) (t : ℤ) → (has_second kind (second_part kind t) ≡ true) × (moment_at kind (day_part kind t) (second_part kind t) ≡ t)
moment_is Days t = (refl, refl)
moment_is Moments t = (let low = floor_mod_below t 86_400 (omega arith) in grind (arith, nat_tests), sym (floor_whole t 86_400 (omega arith)))

second_small : (kind : Kind) (t : ℤ) (r : ℕ) → r < second_part kind t + 1 → r < 86_400
second_small Days t r l = omega (arith, l)
second_small Moments t r l = omega (arith, l, floor_mod_below t 86_400 (omega arith))

-- a second that is not after t comes as its moment does
not_after : (kind : Kind) (t e : ℤ) (r : ℕ) → r < 86_400 → (e <ℤ day_part kind t) ⊎ ((e ≡ day_part kind t) × (r ≤ second_part kind t))
    → moment_at kind e r ≤ℤ t
not_after Days t e r m (inl l) = omega (arith, ints, l)
not_after Days t e r m (inr h) = omega (arith, ints, h.0)
not_after Moments t e r m (inl l) = omega (arith, ints, l, m, floor_whole t 86_400 (omega arith))
not_after Moments t e r m (inr h) = omega (arith, ints, h.0, h.1, floor_whole t 86_400 (omega arith))

module _ (rule : Rule) (kind : Kind) (start t : ℤ) (in_years : IsInYears kind start) where
  -- the rule's chosen moments
  abbrev chosen : Tree
  chosen = chosen_of rule kind start

  -- n stand in a tree up to t
  abbrev number_in : Tree → ℕ
  number_in tree = count_to (λ d s. stands_at tree d s) (day_part kind t) (second_part kind t)

  chosen_is : stands_in chosen kind t ≡ (is_chosen rule kind start t && int_le start t)
  chosen_is = let m = moment_is kind t in rw (m.0, m.1) refl

  parts : stands_in chosen kind t ≡ true → IsTrue (is_chosen rule kind start t) × (start ≤ℤ t)
  parts h =
      let p = and_parts (is_chosen rule kind start t) (int_le start t) (sym chosen_is ∙ h) in
      let late : int_le start t ≡ true = p.1 in
      (p.0, omega (arith, ints, late))

  whole : IsTrue (is_chosen rule kind start t) → start ≤ℤ t → stands_in chosen kind t ≡ true
  whole c l = chosen_is ∙ and_from (is_chosen rule kind start t) (int_le start t) c (grind (arith, ints))

  day_from_first : start ≤ℤ t → IsFromYearOne (day_part kind t)
  day_from_first l = omega (arith, ints, in_years.0, day_mono kind start t l)

  -- up to a moment as many stand in a tree that ends there or later
  pub upto_counts : (at : ℤ) → start ≤ℤ t → t ≤ℤ at → number_in (upto chosen kind at) ≡ number_in chosen
  upto_counts at l h =
      to_same (λ d s. stands_at (upto chosen kind at) d s) (λ d s. stands_at chosen d s) (day_part kind t) (second_part kind t) (day_from_first l)
      (λ e r m n. same e r (not_after kind t e r n (inl m)))
      (λ r m. same (day_part kind t) r (not_after kind t (day_part kind t) r (second_small kind t r m) (inr (refl, omega arith))))
    where
      same : (e : ℤ) (r : ℕ) → moment_at kind e r ≤ℤ t → (stands_at chosen e r && int_le (moment_at kind e r) at) ≡ stands_at chosen e r
      same e r m = let f : int_le (moment_at kind e r) at ≡ true = grind (arith, ints) in rw f (and-true (stands_at chosen e r))

  -- those up to its end stand in a tree that ends
  agree_upto : (at : ℤ) → (stands_in (upto chosen kind at) kind t ≡ true) ↔ (IsTrue (is_chosen rule kind start t) × (start ≤ℤ t) × (t ≤ℤ at))
  agree_upto at = (
    λ h. (let p = and_parts _ _ h in let q = parts p.0 in let u : int_le t at ≡ true = early p.1 in (q.0, q.1, omega (arith, ints, u))),
    λ m. (let m2 : t ≤ℤ at = m.2 in late (whole m.0 m.1) (grind (arith, ints))),
  )
    where
      early : int_le (moment_at kind (day_part kind t) (second_part kind t)) at ≡ true → int_le t at ≡ true
      early h = let e = (moment_is kind t).1 in rw e at h

      late : stands_in chosen kind t ≡ true → int_le t at ≡ true → stands_in (upto chosen kind at) kind t ≡ true
      late c l = and_from (stands_in chosen kind t) _ c (rw (moment_is kind t).1 l)

  -- of a tree that counts, if its count is the member's number
  within_count : (tree : Tree) (count : ℕ) → number_in tree ≡ members_to rule kind start t → nat_le (number_in tree) count ≡ true
      → members_to rule kind start t ≤ count
  within_count tree count c u = let v : number_in tree ≤ count = grind (arith, nat_tests) in omega (arith, c, v)

  counted_within : (tree : Tree) (count : ℕ) → number_in tree ≡ members_to rule kind start t → members_to rule kind start t ≤ count
      → nat_le (number_in tree) count ≡ true
  counted_within tree count c m = let v : number_in tree ≤ count = omega (arith, c, m) in grind (arith, nat_tests)

  -- exactly the members stand in the tree of a rule with this end
  pub agree : (end : End) → EndsNotBefore kind start end
      → (stands_in (up_to_end kind end chosen) kind t ≡ true)
      ↔ (IsTrue (is_chosen rule kind start t) × (start ≤ℤ t) × IsWithinEnd end kind t (members_to rule kind start t))
  agree Never f = (λ h. (let p = parts h in (p.0, p.1, tt)), λ m. whole m.0 m.1)
  agree (Until other at) f = (
    λ h. (let g = (agree_upto at).0 h in (g.0, g.1, (f.0, g.2))),
    λ m. (agree_upto at).1 (m.0, m.1, m.2.1),
  )
  agree (Count count) f = (
    λ h. (let p = and_parts _ _ h in let q = parts p.0 in
        (q.0, q.1, within_count chosen count (count_is rule kind start t in_years q.1) p.1)),
    λ m. and_from (stands_in chosen kind t) _ (whole m.0 m.1) (counted_within chosen count (count_is rule kind start t in_years m.1) m.2),
  )
  agree (Both other at count) f = (
    λ h. (let p = and_parts _ _ h in let g = (agree_upto at).0 p.0 in
        let c = upto_counts at g.1 g.2 ∙ count_is rule kind start t in_years g.1 in
        (g.0, g.1, (f.0, g.2, within_count (upto chosen kind at) count c p.1))),
    λ m. (let c = upto_counts at m.1 m.2.1 ∙ count_is rule kind start t in_years m.1 in
        and_from (stands_in (upto chosen kind at) kind t) _ ((agree_upto at).1 (m.0, m.1, m.2.1)) (counted_within (upto chosen kind at) count c m.2.2)),
  )

-- what stands in the tree of a rule are its members
pub members_agree : (rule : Rule) (kind : Kind) (start t : ℤ) → IsInYears kind start → EndsNotBefore kind start rule.end
    → (stands_in (members_of kind start rule) kind t ≡ true) ↔ IsMember rule kind start t
members_agree rule kind start t y f = let a = agree rule kind start t y rule.end f in (
  λ h. (let p = a.0 h in record { chosen = p.0; not_before = p.1; within_end = p.2 }),
  λ m. a.1 (m.chosen, m.not_before, m.within_end),
)
