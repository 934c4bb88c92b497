-- What the place that a search finds tells.
use Rattle.std.proofs.Common.{◌≡◌, ◌⊎◌, inl, inr, ℕ, suc, ◌+◌, ◌-◌, ◌<◌, ◌≤◌, true, false, List, [], ◌∷◌, length, ℤ, pos, ◌+ℤ◌, ◌≤ℤ◌}
use Rattle.std.proofs.Common.{◌<ℤ◌, refl, ap, ◌∙◌, arith}
use Rattle.std.proofs.lemmas.Bool.{cases_lt, cases_order}
use Rattle.std.proofs.lemmas.Bool.Decides.{nat_tests}
use Rattle.std.proofs.lemmas.Int.{ints}
use Rattle.rr_model.specs.Sets.Sketch.{times_on}
use Rattle.rr_model.specs.declared.sketch.Sketch.{Sketch}
use Rattle.rr_rank.specs.declared.sums.Entry.{Entry}
use Rattle.rr_rank.specs.Counts.{count_on}
use Rattle.rr_rank.specs.Search.{IsSortedBy, entry_at, is_below}
use Rattle.rr_rank.specs.declared.search.Key.TheVariants.{Day, Before}
use Rattle.rr_rank.proofs.CountLemmas.{count-empty, count-le, count-suc, count-zero}
use Rattle.rr_rank.proofs.SumsLemmas.{AreSums}

-- ---- tests as facts

from_day : (d : ℤ) (e : Entry) → is_below (Day d) e ≡ true → e.day <ℤ d
from_day d e t = grind (arith, ints)

not_day : (d : ℤ) (e : Entry) → is_below (Day d) e ≡ false → d ≤ℤ e.day
not_day d e t = grind (arith, ints)

to_day : (d : ℤ) (e : Entry) → e.day <ℤ d → is_below (Day d) e ≡ true
to_day d e l = grind (arith, ints)

from_before : (m : ℕ) (e : Entry) → is_below (Before m) e ≡ true → e.before < m
from_before m e t = grind (arith, nat_tests)

not_before : (m : ℕ) (e : Entry) → is_below (Before m) e ≡ false → m ≤ e.before
not_before m e t = grind (arith, nat_tests)

to_before : (m : ℕ) (e : Entry) → e.before < m → is_below (Before m) e ≡ true
to_before m e l = grind (arith, nat_tests)

empty_or_some : (xs : List ℕ) → (xs ≡ []) ⊎ (xs ≡ [] → ⊥)
empty_or_some [] = inl refl
empty_or_some (x ∷ xs) = inr (λ e. omega (arith, ap (λ (l : List ℕ). length l) e))

module _ (s : Sketch) (q : ℤ) (n : ℕ) (entries : List Entry) (known : AreSums s q n entries) where
  pub sorted_by_day : (d : ℤ) → IsSortedBy (Day d) entries
  sorted_by_day d i j l h t =
      let r = known.rises i j l h in
      let m = from_day d (entry_at entries j) t in
      to_day d (entry_at entries i) (omega (arith, ints))

  pub sorted_by_count : (m : ℕ) → IsSortedBy (Before m) entries
  sorted_by_count m i j l h t =
      let a = known.counts i (omega arith) in
      let b = known.counts j h in
      let r = known.rises i j l h in
      let da = a.day in
      let db = b.day in
      let fewer : a.days ≤ b.days = omega (arith, ints) in
      let less = count-le s q a.days b.days fewer in
      let ea = a.before in
      let eb = b.before in
      let x = from_before m (entry_at entries j) t in
      to_before m (entry_at entries i) (omega arith)

  -- between two neighbours in the list no day is occupied
  none_between : (from k : ℕ) (p : ℕ) → ((i : ℕ) → i < p → i < length entries → (entry_at entries i).day <ℤ (q +ℤ pos from)) → p < length entries
      → from ≤ k → (q +ℤ pos k) <ℤ (entry_at entries p).day → k < n → times_on s (q +ℤ pos k) ≡ []
  none_between from k p before within low high few =
      elim (empty_or_some (times_on s (q +ℤ pos k))) [
        | inl none ↦ none
        | inr some ↦
            let h = known.has k few some in
            let i = h.0 in
            let at = h.2 in
            absurd (elim (cases_order i p) [
              | inl e ↦ (let same : (entry_at entries i).day ≡ (entry_at entries p).day = ap (λ j. (entry_at entries j).day) e in omega (arith, ints))
              | inr order ↦ elim order [
                | inl less ↦ (let m = before i less h.1 in omega (arith, ints))
                | inr more ↦ (let m = known.rises p i more h.1 in omega (arith, ints))
              ]
            ])
      ]

  -- no more occurrences up to the day of that place
  same_count : (from p : ℕ) (days : ℕ) → ((i : ℕ) → i < p → i < length entries → (entry_at entries i).day <ℤ (q +ℤ pos from)) → p < length entries
      → from ≤ days → days ≤ n → (entry_at entries p).day ≡ q +ℤ pos days → count_on s q days ≡ count_on s q from
  same_count from p days before within low few at =
      let e : days ≡ from + (days - from) = omega arith in
      ap (count_on s q) e ∙ count-empty s q from (days - from) (λ j l.
      let day : (q +ℤ pos from) +ℤ pos j ≡ q +ℤ pos (from + j) = omega (arith, ints) in
      ap (times_on s) day ∙ none_between from (from + j) p before within (omega arith) (omega (arith, ints)) (omega arith))

  last_within : (p k : ℕ) → k ≤ n → ((i : ℕ) → i < p → i < length entries → (entry_at entries i).day <ℤ (q +ℤ pos k)) → p ≤ length entries → p < length entries
  last_within p k few before most =
      let last = known.last in
      elim (cases_lt p (length entries)) [
        | inl l ↦ l
        | inr g ↦ (let m = before last.0 (omega (arith, last.1)) (omega (arith, last.1)) in let at = last.2 in absurd (omega (arith, ints)))
      ]

  -- the place of a day has as many occurrences before it as there are before the day
  pub found_day : (k p : ℕ) → k ≤ n → p ≤ length entries → ((i : ℕ) → i < p → is_below (Day (q +ℤ pos k)) (entry_at entries i) ≡ true)
      → ((i : ℕ) → p ≤ i → i < length entries → is_below (Day (q +ℤ pos k)) (entry_at entries i) ≡ false)
      → (p < length entries) × ((entry_at entries p).before ≡ count_on s q k)
  found_day k p few most below from =
      let before : (i : ℕ) → i < p → i < length entries → (entry_at entries i).day <ℤ (q +ℤ pos k) =
      λ i l h. from_day (q +ℤ pos k) (entry_at entries i) (below i l) in
      let within = last_within p k few before most in
      let c = known.counts p within in
      let day = c.day in
      let later = not_day (q +ℤ pos k) (entry_at entries p) (from p (omega arith) within) in
      (within, c.before ∙ same_count k p c.days before within (omega (arith, ints)) c.few day)

  -- before the first entry there is no occurrence
  first_none : (within : 0 < length entries) → (entry_at entries 0).before ≡ 0
  first_none within =
      let c = known.counts 0 within in
      c.before ∙ same_count 0 0 c.days (λ i l h. absurd (omega arith)) within (omega arith) c.few c.day ∙ count-zero s q

  -- the entry before the place of a count is of the day that has the occurrence of this number
  pub found_count : (m p : ℕ) → 1 ≤ m → m ≤ count_on s q n → p ≤ length entries → ((i : ℕ) → i < p → is_below (Before m) (entry_at entries i) ≡ true)
      → ((i : ℕ) → p ≤ i → i < length entries → is_below (Before m) (entry_at entries i) ≡ false)
      → (1 ≤ p) × ((k : ℕ) × (k < n) × ((entry_at entries (p - 1)).day ≡ q +ℤ pos k) × ((entry_at entries (p - 1)).before ≡ count_on s q k)
      × (count_on s q k < m) × (m ≤ count_on s q k + length (times_on s (q +ℤ pos k))))
  found_count m p some most high below from =
      let last = known.last in
      let within : p < length entries =
      elim (cases_lt p (length entries)) [
        | inl l ↦ l
        | inr g ↦ (let x = from_before m (entry_at entries last.0) (below last.0 (omega (arith, last.1))) in let at = last.3 in absurd (omega arith))
      ] in
      let begun : 1 ≤ p =
      elim (cases_lt 0 p) [
        | inl l ↦ omega arith
        | inr g ↦
            let none = first_none (omega arith) in
            let x = not_before m (entry_at entries 0) (from 0 (omega arith) (omega arith)) in
            absurd (omega arith)
      ] in
      let i = p - 1 in
      let a = known.counts i (omega arith) in
      let b = known.counts p within in
      let ea = a.before in
      let eb = b.before in
      let da = a.day in
      let db = b.day in
      let fb = b.few in
      let x = from_before m (entry_at entries i) (below i (omega arith)) in
      let y = not_before m (entry_at entries p) (from p (omega arith) within) in
      let r = known.rises i p (omega arith) within in
      let less : a.days < b.days = omega (arith, ints) in
      let same = same_count (a.days + 1) p b.days (λ j l h. elim (cases_order j i) [
        | inl e ↦ (let at : (entry_at entries j).day ≡ (entry_at entries i).day = ap (λ z. (entry_at entries z).day) e in omega (arith, ints))
        | inr order ↦ elim order [
          | inl before ↦ (let o = known.rises j i before (omega arith) in omega (arith, ints))
          | inr after ↦ absurd (omega arith)
        ]
      ]) within (omega arith) fb db in
      let one : a.days + 1 ≡ suc a.days = omega arith in
      let next = ap (count_on s q) one ∙ count-suc s q a.days in
      (begun, (a.days, omega arith, da, ea, omega arith, omega arith))
