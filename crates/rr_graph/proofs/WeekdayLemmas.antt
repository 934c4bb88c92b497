-- The weekdays of a sum, put into a list one after another.
use Rattle.std.proofs.Common.{◌≡◌, ℕ, zero, suc, ◌+◌, ◌<◌, Bool, true, false, cond, List, [], ◌∷◌, ◌++◌, map, take, pos, refl, sym, ap}
use Rattle.std.proofs.Common.{◌∙◌, arith}
use Rattle.std.specs.List.{filter, AllByRecursion}
use Rattle.std.proofs.lemmas.Bool.{lt-ltb}
use Rattle.rr_model.specs.Rising.{with_value, day_item_lt}
use Rattle.rr_model.specs.declared.rule.DayItem.{DayItem}
use Rattle.rr_model.specs.Vcal.Counterpart.{day_item}

-- the items of the weekdays that pass
abbrev pub passed : (ℕ → Bool) → List ℕ → List DayItem
passed q xs = map (λ w. day_item (pos 0) w) (filter q xs)

abbrev pub all_weekdays : List ℕ
all_weekdays = 0 ∷ 1 ∷ 2 ∷ 3 ∷ 4 ∷ 5 ∷ 6 ∷ []

one_more : (q : ℕ → Bool) (xs : List ℕ) (k : ℕ) → AllByRecursion (λ x. x < k) xs → q k ≡ true
    → with_value day_item_lt (passed q xs) (day_item (pos 0) k) ≡ passed q (xs ++ k ∷ [])
one_more q [] k h e = rw e refl
one_more q (x ∷ xs) k h e =
    elim (q x) as (λ b. with_value day_item_lt (map (λ w. day_item (pos 0) w) (cond b (x ∷ filter q xs) (filter q xs))) (day_item (pos 0) k)
    ≡ map (λ w. day_item (pos 0) w) (cond b (x ∷ filter q (xs ++ k ∷ [])) (filter q (xs ++ k ∷ [])))) [
      | true ↦ rw (lt-ltb x k h.0) (ap (λ l. day_item (pos 0) x ∷ l) (one_more q xs k h.1 e))
      | false ↦ one_more q xs k h.1 e
    ]

no_more : (q : ℕ → Bool) (xs : List ℕ) (k : ℕ) → q k ≡ false → passed q xs ≡ passed q (xs ++ k ∷ [])
no_more q [] k e = rw e refl
no_more q (x ∷ xs) k e =
    elim (q x) as (λ b. map (λ w. day_item (pos 0) w) (cond b (x ∷ filter q xs) (filter q xs))
    ≡ map (λ w. day_item (pos 0) w) (cond b (x ∷ filter q (xs ++ k ∷ [])) (filter q (xs ++ k ∷ [])))) [
      | true ↦ ap (λ l. day_item (pos 0) x ∷ l) (no_more q xs k e)
      | false ↦ no_more q xs k e
    ]

next_weekday : (k : ℕ) → k < 7 → (take (k + 1) all_weekdays ≡ take k all_weekdays ++ k ∷ []) × AllByRecursion (λ x. x < k) (take k all_weekdays)
next_weekday zero l = (refl, tt)
next_weekday (suc zero) l = (refl, (omega arith, tt))
next_weekday (suc (suc zero)) l = (refl, (omega arith, (omega arith, tt)))
next_weekday (suc (suc (suc zero))) l = (refl, (omega arith, (omega arith, (omega arith, tt))))
next_weekday (suc (suc (suc (suc zero)))) l = (refl, (omega arith, (omega arith, (omega arith, (omega arith, tt)))))
next_weekday (suc (suc (suc (suc (suc zero))))) l = (refl, (omega arith, (omega arith, (omega arith, (omega arith, (omega arith, tt))))))
next_weekday (suc (suc (suc (suc (suc (suc zero)))))) l = (refl, (omega arith, (omega arith, (omega arith, (omega arith, (omega arith, (omega arith, tt)))))))
next_weekday (suc (suc (suc (suc (suc (suc (suc k))))))) l = absurd (omega arith)

pub put_weekday : (q : ℕ → Bool) (items : List DayItem) (k : ℕ) → k < 7 → items ≡ passed q (take k all_weekdays) → q k ≡ true
    → with_value day_item_lt items (day_item (pos 0) k) ≡ passed q (take (k + 1) all_weekdays)
put_weekday q items k l same e =
    let n = next_weekday k l in
    ap (λ i. with_value day_item_lt i (day_item (pos 0) k)) same ∙ one_more q (take k all_weekdays) k n.1 e ∙ ap (passed q) (sym n.0)

pub skip_weekday : (q : ℕ → Bool) (items : List DayItem) (k : ℕ) → k < 7 → items ≡ passed q (take k all_weekdays) → q k ≡ false
    → items ≡ passed q (take (k + 1) all_weekdays)
skip_weekday q items k l same e = same ∙ no_more q (take k all_weekdays) k e ∙ ap (passed q) (sym (next_weekday k l).0)
