-- Rising days by index.
use Rattle.std.proofs.Common.{◌≡◌, ℕ, ◌+◌, ◌<◌, ◌≤◌, Bool, true, false, List, [], length, get_or, Contains, ℤ, pos, ◌≤ℤ◌, refl}
use Rattle.std.proofs.Common.{sym, ap, ◌∙◌, subst, inl, inr, arith}
use Rattle.std.specs.Prelude.{IsTrue, nat_lt, int_lt, Option, Some, None}
use Rattle.std.proofs.lemmas.Int.{ints}
use Rattle.std.proofs.lemmas.Bool.{cases_lt}
use Rattle.std.proofs.lemmas.List.{get_or_default}
use Rattle.std.proofs.lemmas.List.Elements.{Contains-get_or}
use Rattle.rr_model.specs.Rising.{Rises}
use Rattle.rr_model.specs.Rising.Sets.{IsSetOf}
use Rattle.rr_model.proofs.RisingSetLemmas.{rising_dates}
use Rattle.rr_model.specs.Sets.Tree.{Tree, stands_at}
use Rattle.rr_lazy.specs.DayTimes.{DayTimes}
use Rattle.rr_lazy.specs.declared.occupied_day.OccupiedDay.{OccupiedDay}
use Rattle.rr_walk.specs.Walk.{IsFirstOf, IsOnDay, IsOnDayIn, IsDayOfTimes}

-- an empty set has nothing
pub nothing_in : (test : ℕ → Bool) (times : List ℕ) → IsSetOf nat_lt times (λ s. IsTrue (test s)) → times ≡ [] → (s : ℕ) → test s ≡ false
nothing_in test times set e s = elim (test s) as (λ b. test s ≡ b → test s ≡ false) [
  | false ↦ λ h. h
  | true ↦ λ h. (let c = (set.exact s).1 h in absurd (omega (arith, c.1, ap length e)))
] refl

-- a day is occupied with the seconds that it is given
pub occupied_on : (sets : List (List ℕ)) (tree : Tree) (day : ℤ) (times : List ℕ) (r : Option OccupiedDay)
    → IsSetOf nat_lt times (λ s. IsTrue (stands_at tree day s)) → IsDayOfTimes sets day times r → IsOnDayIn sets tree day r
occupied_on sets tree day times None set p = nothing_in (stands_at tree day) times set p
occupied_on sets tree day times (Some f) set p =
    (p.2, (p.0, (λ e. p.1 (sym p.3 ∙ e)), subst (λ xs. IsSetOf nat_lt xs (λ s. IsTrue (stands_at tree day s))) (sym p.3) set))

module _ (tree : Tree) (days : List ℤ) (from : ℤ) where
  -- the first i days of the list are not occupied from the given day on
  abbrev pub PassedDays : ℕ → Type 0
  PassedDays i = (k : ℕ) (s : ℕ) → k < i → from ≤ℤ get_or days k (pos 0) → stands_at tree (get_or days k (pos 0)) s ≡ false

  at_index : (d : ℤ) (c : Contains days d) → get_or days c.0 (pos 0) ≡ d
  at_index d c = get_or_default days c.0 (pos 0) d c.1 ∙ c.2

  one_more : (i : ℕ) → PassedDays i → ((s : ℕ) → from ≤ℤ get_or days i (pos 0) → stands_at tree (get_or days i (pos 0)) s ≡ false) → PassedDays (i + 1)
  one_more i passed here k s l h = elim (cases_lt k i) [ inl m ↦ passed k s m h | inr g ↦ (let e : k ≡ i = omega arith in rw e (here s (rw e at h))) ]

  -- a day that is not occupied
  pub passed_empty : (i : ℕ) (day : ℤ) → day ≡ get_or days i (pos 0) → IsOnDay tree day None → PassedDays i → PassedDays (i + 1)
  passed_empty i day e none passed = one_more i passed (λ s h. rw (sym e) (none s))

  -- the first day that is
  pub passed_found : (i : ℕ) (day : ℤ) (found : DayTimes) → Rises int_lt days → i < length days → day ≡ get_or days i (pos 0) → from ≤ℤ day
      → IsOnDay tree day (Some found) → PassedDays i → IsFirstOf tree days from (Some found)
  passed_found i day found rises l e late on passed =
      let same : found.day ≡ get_or days i (pos 0) = on.0 ∙ e in (
        subst (Contains days) (sym same) (Contains-get_or days i (pos 0) l),
        omega (arith, ints, late, on.0),
        on.1,
        rw on.0 on.2,
        λ d s c h m. (let p = at_index d c in
            elim (cases_lt c.0 i) [
              | inl n ↦ subst (λ x. stands_at tree x s ≡ false) p (passed c.0 s n (omega (arith, ints, p)))
              | inr n ↦ absurd (elim (cases_lt i c.0) [
                | inl o ↦ omega (arith, ints, p, same, rising_dates days rises i c.0 o c.1)
                | inr o ↦
                    (let q : c.0 ≡ i = omega arith in omega (arith, ints, p, same, ap (λ n. get_or days n (pos 0)) q))
              ])
            ]),
      )

  pub passed_all : (i : ℕ) → length days ≤ i → PassedDays i → IsFirstOf tree days from None
  passed_all i l passed d s c h = let p = at_index d c in subst (λ x. stands_at tree x s ≡ false) p (passed c.0 s (omega (arith, c.1)) (omega (arith, ints, p)))
