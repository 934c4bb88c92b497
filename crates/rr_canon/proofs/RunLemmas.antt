-- Runs as they are found, step by step.
use Rattle.std.proofs.Common.{◌≡◌, ℕ, ◌+◌, Bool, true, false, cond, ◌==◌, ◌&&◌, eqb-true, List, [], ◌∷◌, refl, sym, ap, subst, ◌∙◌, arith}
use Rattle.std.proofs.lemmas.Bool.{and_parts}
use Rattle.rr_model.specs.Sets.Descriptor.{Step, Run, with_step}
use Rattle.rr_model.proofs.TestLemmas.{eqb-same}
use Rattle.rr_canon.specs.Said.{with_run}

pub run_of : Step → Run
run_of step = record { gap = step.gap; set = step.set; count = 1 }

-- one run from one step
pub with_run-with_step : (step : Step) (rs : List Run) → with_run (record { gap = step.gap; set = step.set; count = 1 }) rs ≡ with_step step rs
with_run-with_step step [] = refl
with_run-with_step step (r ∷ rs) = refl

same_fields : (a b c d : ℕ) → ((a == b) && (c == d)) ≡ true → (a ≡ b) × (c ≡ d)
same_fields a b c d e = let p = and_parts (a == b) (c == d) e in (eqb-true a b p.0, eqb-true c d p.1)

same_test : (a c : ℕ) → ((a == a) && (c == c)) ≡ true
same_test a c = ap (λ x. x && (c == c)) (eqb-same a) ∙ eqb-same c

-- a step of the same kind makes the open run longer
pub run_goes_on : (g n k g' n' : ℕ) (rs : List Run) → g' ≡ g → n' ≡ n
    → with_run (record { gap = g; set = n; count = k }) (with_step (record { gap = g'; set = n' }) rs)
    ≡ with_run (record { gap = g; set = n; count = k + 1 }) rs
run_goes_on g n k g' n' rs eg en =
    subst (λ x. with_run (record { gap = g; set = n; count = k }) (with_step (record { gap = x; set = n' }) rs)
    ≡ with_run (record { gap = g; set = n; count = k + 1 }) rs) (sym eg)
    (subst (λ y. with_run (record { gap = g; set = n; count = k }) (with_step (record { gap = g; set = y }) rs)
    ≡ with_run (record { gap = g; set = n; count = k + 1 }) rs) (sym en) (here rs))
  where
    here : (rs : List Run) → with_run (record { gap = g; set = n; count = k }) (with_step (record { gap = g; set = n }) rs)
        ≡ with_run (record { gap = g; set = n; count = k + 1 }) rs
    here [] =
        let one : 1 + k ≡ k + 1 = omega arith in
        ap (λ (b : Bool). cond b (record { gap = g; set = n; count = 1 + k } ∷ [])
        (record { gap = g; set = n; count = k } ∷ record { gap = g; set = n; count = 1 } ∷ [])) (same_test g n)
        ∙ ap (λ c. record { gap = g; set = n; count = c } ∷ []) one
    here (r ∷ rs) =
        elim ((g == r.gap) && (n == r.set)) as (λ b. ((g == r.gap) && (n == r.set)) ≡ b
        → with_run (record { gap = g; set = n; count = k })
        (cond b (record { gap = r.gap; set = r.set; count = r.count + 1 } ∷ rs) (record { gap = g; set = n; count = 1 } ∷ r ∷ rs))
        ≡ cond b (record { gap = r.gap; set = r.set; count = r.count + (k + 1) } ∷ rs) (record { gap = g; set = n; count = k + 1 } ∷ r ∷ rs)) [
          | true ↦ λ e.
              let more : r.count + 1 + k ≡ r.count + (k + 1) = omega arith in
              ap (λ (b : Bool). cond b (record { gap = r.gap; set = r.set; count = r.count + 1 + k } ∷ rs)
              (record { gap = g; set = n; count = k } ∷ record { gap = r.gap; set = r.set; count = r.count + 1 } ∷ rs)) e
              ∙ ap (λ c. record { gap = r.gap; set = r.set; count = c } ∷ rs) more
          | false ↦ λ e.
              let one : 1 + k ≡ k + 1 = omega arith in
              ap (λ (b : Bool). cond b (record { gap = g; set = n; count = 1 + k } ∷ r ∷ rs)
              (record { gap = g; set = n; count = k } ∷ record { gap = g; set = n; count = 1 } ∷ r ∷ rs)) (same_test g n)
              ∙ ap (λ c. record { gap = g; set = n; count = c } ∷ r ∷ rs) one
        ] refl

-- another step ends it
pub run_ends : (g n k g' n' : ℕ) (rs : List Run) → ((g' ≡ g) × (n' ≡ n) → ⊥)
    → with_run (record { gap = g; set = n; count = k }) (with_step (record { gap = g'; set = n' }) rs)
    ≡ record { gap = g; set = n; count = k } ∷ with_run (record { gap = g'; set = n'; count = 1 }) rs
run_ends g n k g' n' rs differ = here rs
  where
    apart : (a b : ℕ) → a ≡ g' → b ≡ n' → ((g == a) && (n == b)) ≡ false
    apart a b ea eb =
        elim ((g == a) && (n == b)) as (λ t. ((g == a) && (n == b)) ≡ t → t ≡ false) [
          | true ↦ λ e. (let s = same_fields g a n b e in absurd (differ (sym ea ∙ sym s.0, sym eb ∙ sym s.1)))
          | false ↦ λ e. refl
        ] refl

    here : (rs : List Run) → with_run (record { gap = g; set = n; count = k }) (with_step (record { gap = g'; set = n' }) rs)
        ≡ record { gap = g; set = n; count = k } ∷ with_run (record { gap = g'; set = n'; count = 1 }) rs
    here [] =
        ap (λ (b : Bool). cond b (record { gap = g'; set = n'; count = 1 + k } ∷ [])
        (record { gap = g; set = n; count = k } ∷ record { gap = g'; set = n'; count = 1 } ∷ [])) (apart g' n' refl refl)
    here (r ∷ rs) =
        elim ((g' == r.gap) && (n' == r.set)) as (λ b. ((g' == r.gap) && (n' == r.set)) ≡ b
        → with_run (record { gap = g; set = n; count = k })
        (cond b (record { gap = r.gap; set = r.set; count = r.count + 1 } ∷ rs) (record { gap = g'; set = n'; count = 1 } ∷ r ∷ rs))
        ≡ record { gap = g; set = n; count = k } ∷ cond b (record { gap = r.gap; set = r.set; count = r.count + 1 } ∷ rs)
        (record { gap = g'; set = n'; count = 1 } ∷ r ∷ rs)) [
          | true ↦ λ e.
              let s = same_fields g' r.gap n' r.set e in
              ap (λ (b : Bool). cond b (record { gap = r.gap; set = r.set; count = r.count + 1 + k } ∷ rs)
              (record { gap = g; set = n; count = k } ∷ record { gap = r.gap; set = r.set; count = r.count + 1 } ∷ rs))
              (apart r.gap r.set (sym s.0) (sym s.1))
          | false ↦ λ e.
              ap (λ (b : Bool). cond b (record { gap = g'; set = n'; count = 1 + k } ∷ r ∷ rs)
              (record { gap = g; set = n; count = k } ∷ record { gap = g'; set = n'; count = 1 } ∷ r ∷ rs)) (apart g' n' refl refl)
        ] refl
