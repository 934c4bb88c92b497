-- The first n occurrences, and those from a day on.
use Rattle.std.proofs.Common.{◌≡◌, ◌⊎◌, ℕ, zero, suc, ◌+◌, ◌<◌, ◌≤◌, Bool, true, false, ℤ, pos, ◌+ℤ◌, ◌-ℤ◌, nat_abs, ◌≤ℤ◌, refl, sym, subst, ◌∙◌, inl, inr}
use Rattle.std.proofs.Common.{arith}
use Rattle.std.specs.Prelude.{nat_le}
use Rattle.std.proofs.lemmas.Int.{ints, by_lt_z}
use Rattle.std.proofs.lemmas.Bool.{cases_lt, false≢true, and_parts}
use Rattle.std.proofs.lemmas.Bool.Decides.{nat_tests}
use Rattle.rr_model.specs.Calendar.{first_day_of_year}
use Rattle.rr_model.specs.Sets.Counting.{count_seconds, count_before, count_to}
use Rattle.rr_model.specs.Sets.Tree.{Tree, first_n, stands_at}
use Rattle.rr_model.proofs.CountLemmas.{count_seconds-zero}
use Rattle.rr_lazy.specs.Next.{HasNone}
use Rattle.rr_lazy.proofs.TreeLemmas.{stands_below}
use Rattle.rr_lazy.proofs.CountingLemmas.{before_skip, before_grows, to_is, count_seconds_yes, seconds_skip}

-- ---- the first of what stands from a day on

-- a second below the bound that passes, and none before it does
abbrev FirstPassing : (ℕ → Bool) → ℕ → Type 0
FirstPassing test n = (s : ℕ) × (s < n) × (test s ≡ true) × ((r : ℕ) → r < s → test r ≡ false)

-- the first second below a bound that passes, if one does
first_second : (test : ℕ → Bool) (n : ℕ) → ((s : ℕ) → s < n → test s ≡ false) ⊎ FirstPassing test n
first_second test zero = inl (λ s l. absurd (omega arith))
first_second test (suc n) = elim (first_second test n) [
  | inr x ↦ inr (x.0, omega (arith, x.1), x.2, x.3)
  | inl none ↦ elim (test n) as (λ b. test n ≡ b → ((s : ℕ) → s < suc n → test s ≡ false) ⊎ FirstPassing test (suc n)) [
    | true ↦ λ e. inr (n, omega arith, e, none)
    | false ↦ λ e. inl (λ s l. elim (cases_lt s n) [
      | inl m ↦ none s m
      | inr m ↦ (let q : n ≡ s = omega arith in subst (λ x. test x ≡ false) q e)
    ])
  ] refl
]

-- the first of what stands from a day on
pub record IsFirstStanding (tree : Tree) (from day : ℤ) (second : ℕ) : Type 0 where
  pub late : from ≤ℤ day
  pub stands : stands_at tree day second ≡ true
  pub before : HasNone tree from day
  pub earlier : (r : ℕ) → r < second → stands_at tree day r ≡ false

-- no second of a day stands that is not below 86,400
none_at : (tree : Tree) (day : ℤ) → ((s : ℕ) → s < 86_400 → stands_at tree day s ≡ false) → (s : ℕ) → stands_at tree day s ≡ false
none_at tree day none s = elim (stands_at tree day s) as (λ b. stands_at tree day s ≡ b → b ≡ false) [
  | false ↦ λ x. refl
  | true ↦ λ x. absurd (false≢true (sym (none s (stands_below tree day s x)) ∙ x))
] refl

first_standing : (tree : Tree) (q : ℤ) (n : ℕ) → HasNone tree q (q +ℤ pos n) ⊎ ((d : ℤ) × (s : ℕ) × IsFirstStanding tree q d s)
first_standing tree q zero = inl (λ d s l h. absurd (omega (arith, ints, l, h)))
first_standing tree q (suc n) = elim (first_standing tree q n) [
  | inr x ↦ inr x
  | inl none ↦ elim (first_second (stands_at tree (q +ℤ pos n)) 86_400) [
    | inr x ↦ inr (q +ℤ pos n, x.0, record { late = omega (arith, ints); stands = x.2; before = none; earlier = x.3 })
    | inl nothing ↦ inl (λ d s l h. by_lt_z {P = stands_at tree d s ≡ false} d (q +ℤ pos n) (λ m. none d s l m) (λ g.
        (let e : q +ℤ pos n ≡ d = omega (arith, ints, g, h) in
        subst (λ x. stands_at tree x s ≡ false) e (none_at tree (q +ℤ pos n) nothing s))))
  ]
]

module _ (tree : Tree) (count : ℕ) (from : ℤ) (begun : first_day_of_year (pos 1) ≤ℤ from) where
  -- what stands in the tree, as a test
  abbrev stands : ℤ → ℕ → Bool
  stands d s = stands_at tree d s

  -- something stands from the day on, so there is a first
  pub first_exists : (d : ℤ) (s : ℕ) → from ≤ℤ d → stands_at tree d s ≡ true → (e : ℤ) × (r : ℕ) × IsFirstStanding tree from e r
  first_exists d s l t = elim (first_standing tree from (suc (nat_abs (d -ℤ from)))) [
    | inr x ↦ x
    | inl none ↦ absurd (false≢true (sym (none d s l (omega (arith, ints, l))) ∙ t))
  ]

  -- one second more is counted where it stands
  one_more : (d : ℤ) (s : ℕ) → stands_at tree d s ≡ true → count_seconds (stands_at tree d) (s + 1) ≡ count_seconds (stands_at tree d) s + 1
  one_more d s t = let e : s + 1 ≡ suc s = omega arith in rw e (count_seconds_yes (stands_at tree d) s t)

  -- it is the next one after those before the day
  pub first_number : (d : ℤ) (s : ℕ) → IsFirstStanding tree from d s → count_to stands d s ≡ count_before stands from + 1
  first_number d s f =
      let skip = before_skip stands from d begun f.late f.before in
      let none : count_seconds (stands_at tree d) s ≡ 0 =
      seconds_skip (stands_at tree d) 0 s (omega arith) (λ r a b. f.earlier r b) ∙ count_seconds-zero (stands_at tree d) in
      omega (arith, to_is stands d s, skip, none, one_more d s f.stands)

  -- fewer occurrences than the count before the day, and something from it on: so one of the first stands from it on
  pub first_from_on : count_before stands from < count → (d : ℤ) (s : ℕ) → from ≤ℤ d → stands_at tree d s ≡ true
      → (e : ℤ) × (r : ℕ) × (from ≤ℤ e) × (stands_at (first_n tree count) e r ≡ true)
  first_from_on few d s l t =
      let x = first_exists d s l t in
      let n = first_number x.0 x.1 x.2 in
      let within : count_to stands x.0 x.1 ≤ count = omega (arith, n, few) in
      let tested : nat_le (count_to stands x.0 x.1) count ≡ true = grind (arith, nat_tests) in
      (x.0, x.1, x.2.late, rw x.2.stands tested)

  -- and the other way round: one of the first stands from the day on only if fewer lie before it
  pub few_before : (d : ℤ) (s : ℕ) → from ≤ℤ d → stands_at (first_n tree count) d s ≡ true → count_before stands from < count
  few_before d s l t =
      let here : stands_at tree d s ≡ true = (and_parts _ _ t).0 in
      let within : nat_le (count_to stands d s) count ≡ true = (and_parts (stands_at tree d s) _ t).1 in
      let le : count_to stands d s ≤ count = grind (arith, nat_tests) in
      omega (arith, to_is stands d s, before_grows stands from d begun l, one_more d s here, le)
