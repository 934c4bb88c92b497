-- Hours, minutes and seconds name the set of the seconds of a day that have one of each.
use Rattle.std.proofs.Common.{◌≡◌, ℕ, ◌+◌, ◌-◌, ◌*◌, ◌/◌, ◌%◌, ◌<◌, ◌≤◌, Bool, List, [], ◌∷◌, ◌++◌, Contains, inl, inr, subst, arith}
use Rattle.std.specs.Prelude.{◌⊎◌, IsTrue, nat_lt}
use Rattle.std.proofs.lemmas.Bool.Decides.{nat_tests}
use Rattle.std.proofs.lemmas.List.Elements.{Contains-append_left, Contains-append_right, Contains-append_cases}
use Rattle.rr_model.specs.Rising.{Rises}
use Rattle.rr_model.specs.Rising.Sets.{IsSetOf}
use Rattle.rr_model.proofs.RisingSetLemmas.{Contains-head, Contains-tail, Contains-none, Contains-cons_cases, Rises-tail, set_empty, set_same}
use Rattle.rr_model.proofs.SecondsLemmas.{first_below}
use Rattle.rr_expand.specs.Spread.{of_minute, of_hour, of_day}

-- ---- rising sets, one after another

module _ {X : Type 0} (below : X → X → Bool) where
  Rises-cons : (x : X) (ys : List X) → ((y : X) → Contains ys y → IsTrue (below x y)) → Rises below ys → Rises below (x ∷ ys)
  Rises-cons x [] under r = tt
  Rises-cons x (y ∷ ys) under r = (under y (Contains-head y ys), r)

  Rises-append : (xs ys : List X) → Rises below xs → Rises below ys → ((x y : X) → Contains xs x → Contains ys y → IsTrue (below x y)) → Rises below (xs ++ ys)
  Rises-append [] ys r s under = s
  Rises-append (x ∷ []) ys r s under = Rises-cons x ys (λ y c. under x y (Contains-head x []) c) s
  Rises-append (x ∷ z ∷ zs) ys r s under = (r.0, Rises-append (z ∷ zs) ys r.1 s (λ w y c d. under w y (Contains-tail x (z ∷ zs) w c) d))

  pub set_append : (P Q : X → Type 0) (xs ys : List X) → IsSetOf below xs P → IsSetOf below ys Q → ((x y : X) → P x → Q y → IsTrue (below x y))
      → IsSetOf below (xs ++ ys) (λ x. P x ⊎ Q x)
  set_append P Q xs ys a b under = record {
    rises = Rises-append xs ys a.rises b.rises (λ x y c d. under x y ((a.exact x).0 c) ((b.exact y).0 d));
    exact = λ x. (
      (λ c. elim (Contains-append_cases xs ys x c) [ inl d ↦ inl ((a.exact x).0 d) | inr d ↦ inr ((b.exact x).0 d) ]),
      (λ p. elim p [ inl q ↦ Contains-append_left xs ys x ((a.exact x).1 q) | inr q ↦ Contains-append_right xs ys x ((b.exact x).1 q) ]),
    );
  }

  pub set_one : (x : X) → IsSetOf below (x ∷ []) (λ y. x ≡ y)
  set_one x = record {
    rises = tt;
    exact = λ y. (
      (λ c. elim (Contains-cons_cases x [] y c) [ inl e ↦ e | inr d ↦ absurd (Contains-none y d) ]),
      (λ e. subst (λ z. Contains (x ∷ []) z) e (Contains-head x [])),
    );
  }

lt_test : (m n : ℕ) → m < n → IsTrue (nat_lt m n)
lt_test m n h = grind (arith, nat_tests)

-- each member is below the bound
abbrev pub AreBelow : ℕ → List ℕ → Type 0
AreBelow bound xs = (x : ℕ) → Contains xs x → x < bound

-- ---- a minute

-- the second lies in the minute, and stands in the list
abbrev pub InMinute : ℕ → List ℕ → ℕ → Type 0
InMinute base ss s = (base ≤ s) × Contains ss (s - base)

pub of_minute-set : (base : ℕ) (ss : List ℕ) → Rises nat_lt ss → IsSetOf nat_lt (of_minute base ss) (InMinute base ss)
unfolding of_minute
of_minute-set base [] r = set_empty nat_lt (InMinute base []) (λ s h. Contains-none (s - base) h.1)
of_minute-set base (x ∷ xs) r =
    let P : ℕ → Type 0 = λ s. base + x ≡ s in
    set_same nat_lt (λ s. P s ⊎ InMinute base xs s) (InMinute base (x ∷ xs)) _
    (set_append nat_lt P (InMinute base xs) ((base + x) ∷ []) (of_minute base xs) (set_one nat_lt (base + x)) (of_minute-set base xs (Rises-tail nat_lt x xs r))
    (λ s t e h. lt_test s t (omega (arith, e, h.0, first_below x (t - base) xs r h.1))))
    (λ s. (
      (λ p. elim p [
        | inl e ↦ (let same : x ≡ s - base = omega (arith, e) in (omega (arith, e), subst (Contains (x ∷ xs)) same (Contains-head x xs)))
        | inr h ↦ (h.0, Contains-tail x xs (s - base) h.1)
      ]),
      (λ h. elim (Contains-cons_cases x xs (s - base) h.1) [ inl e ↦ inl (omega (arith, e, h.0)) | inr t ↦ inr (h.0, t) ]),
    ))

-- ---- an hour

-- the second lies in the hour, and its minute and its second stand in the lists
abbrev pub InHour : ℕ → List ℕ → List ℕ → ℕ → Type 0
InHour base ms ss s = (base ≤ s) × Contains ms ((s - base) / 60) × Contains ss ((s - base) % 60)

pub of_hour-set : (base : ℕ) (ms ss : List ℕ) → Rises nat_lt ms → Rises nat_lt ss → AreBelow 60 ss → IsSetOf nat_lt (of_hour base ms ss) (InHour base ms ss)
unfolding of_hour
of_hour-set base [] ss rm rs few = set_empty nat_lt (InHour base [] ss) (λ s h. Contains-none ((s - base) / 60) h.1)
of_hour-set base (m ∷ ms) ss rm rs few =
    let b : ℕ = base + 60 * m in
    set_same nat_lt (λ s. InMinute b ss s ⊎ InHour base ms ss s) (InHour base (m ∷ ms) ss) _
    (set_append nat_lt (InMinute b ss) (InHour base ms ss) (of_minute b ss) (of_hour base ms ss) (of_minute-set b ss rs)
    (of_hour-set base ms ss (Rises-tail nat_lt m ms rm) rs few)
    (λ s t h k. lt_test s t (omega (arith, h.0, few (s - b) h.1, k.0, first_below m ((t - base) / 60) ms rm k.1))))
    (λ s. (
      (λ p. elim p [
        | inl h ↦ (let minute : m ≡ (s - base) / 60 = omega (arith, few (s - b) h.1, h.0) in
            let second : s - b ≡ (s - base) % 60 = omega (arith, few (s - b) h.1, h.0) in
            (omega (arith, h.0), subst (Contains (m ∷ ms)) minute (Contains-head m ms), subst (Contains ss) second h.1))
        | inr h ↦ (h.0, Contains-tail m ms ((s - base) / 60) h.1, h.2)
      ]),
      (λ h. elim (Contains-cons_cases m ms ((s - base) / 60) h.1) [
        | inl e ↦ (let second : (s - base) % 60 ≡ s - b = omega (arith, e, h.0) in inl (omega (arith, e, h.0), subst (Contains ss) second h.2))
        | inr t ↦ inr (h.0, t, h.2)
      ]),
    ))

pub InHour-below : (base : ℕ) (ms ss : List ℕ) → AreBelow 60 ms → (s : ℕ) → InHour base ms ss s → s < base + 3_600
InHour-below base ms ss few s h = omega (arith, h.0, few ((s - base) / 60) h.1)

-- ---- a day

-- the second's hour, minute and second stand in the lists
abbrev pub InDay : List ℕ → List ℕ → List ℕ → ℕ → Type 0
InDay hs ms ss s = Contains hs (s / 3_600) × Contains ms (s / 60 % 60) × Contains ss (s % 60)

pub of_day-set : (hs ms ss : List ℕ) → Rises nat_lt hs → Rises nat_lt ms → Rises nat_lt ss → AreBelow 60 ms → AreBelow 60 ss
    → IsSetOf nat_lt (of_day hs ms ss) (InDay hs ms ss)
unfolding of_day
of_day-set [] ms ss rh rm rs lm ls = set_empty nat_lt (InDay [] ms ss) (λ s h. Contains-none (s / 3_600) h.0)
of_day-set (x ∷ hs) ms ss rh rm rs lm ls =
    let b : ℕ = 3_600 * x in
    set_same nat_lt (λ s. InHour b ms ss s ⊎ InDay hs ms ss s) (InDay (x ∷ hs) ms ss) _
    (set_append nat_lt (InHour b ms ss) (InDay hs ms ss) (of_hour b ms ss) (of_day hs ms ss) (of_hour-set b ms ss rm rs ls)
    (of_day-set hs ms ss (Rises-tail nat_lt x hs rh) rm rs lm ls)
    (λ s t h k. lt_test s t (omega (arith, InHour-below b ms ss lm s h, first_below x (t / 3_600) hs rh k.0))))
    (λ s. (
      (λ p. elim p [
        | inl h ↦ (let low = InHour-below b ms ss lm s h in
            let hour : x ≡ s / 3_600 = omega (arith, low, h.0) in
            let minute : (s - b) / 60 ≡ s / 60 % 60 = omega (arith, low, h.0) in
            let second : (s - b) % 60 ≡ s % 60 = omega (arith, low, h.0) in
            (subst (Contains (x ∷ hs)) hour (Contains-head x hs), subst (Contains ms) minute h.1, subst (Contains ss) second h.2))
        | inr h ↦ (Contains-tail x hs (s / 3_600) h.0, h.1, h.2)
      ]),
      (λ h. elim (Contains-cons_cases x hs (s / 3_600) h.0) [
        | inl e ↦ (let minute : s / 60 % 60 ≡ (s - b) / 60 = omega (arith, e) in
            let second : s % 60 ≡ (s - b) % 60 = omega (arith, e) in
            inl (omega (arith, e), subst (Contains ms) minute h.1, subst (Contains ss) second h.2))
        | inr t ↦ inr (t, h.1, h.2)
      ]),
    ))
