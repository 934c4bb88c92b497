-- Occupied days with how many occurrences come before them.
use Rattle.std.proofs.Common.{◌≡◌, ◌⊎◌, inl, inr, ℕ, zero, suc, ◌+◌, ◌<◌, ◌≤◌, List, [], ◌∷◌, ◌++◌, length, length-append, ℤ, pos, ◌+ℤ◌}
use Rattle.std.proofs.Common.{◌<ℤ◌, refl, sym, ap, subst, ◌∙◌, arith}
use Rattle.std.proofs.lemmas.Bool.{cases_order}
use Rattle.std.proofs.lemmas.Int.{ints}
use Rattle.std.proofs.lemmas.List.{append-nil, get_or_append_left}
use Rattle.std.proofs.Math.Seq.{get_or-append_seam}
use Rattle.rr_model.specs.Sets.Sketch.{times_on}
use Rattle.rr_model.specs.Sets.Occupied.{day_shapes, shape_if_some}
use Rattle.rr_model.specs.declared.sketch.DayShape.{DayShape}
use Rattle.rr_model.specs.declared.sketch.Sketch.{Sketch}
use Rattle.rr_rank.specs.declared.sums.Entry.{Entry}
use Rattle.rr_rank.specs.Counts.{count_on, entries_of, entry_if_some, sums_of}
use Rattle.rr_rank.specs.Search.{entry_at}

-- ---- one more entry

front : (entries : List Entry) (e : Entry) (i : ℕ) → i < length entries → entry_at (entries ++ e ∷ []) i ≡ entry_at entries i
front entries e i l = get_or_append_left entries (e ∷ []) (record { day = pos 0; before = 0 }) i l

end : (entries : List Entry) (e : Entry) → entry_at (entries ++ e ∷ []) (length entries) ≡ e
end entries e = get_or-append_seam entries e [] (record { day = pos 0; before = 0 })

one_more : (entries : List Entry) (e : Entry) → length (entries ++ e ∷ []) ≡ length entries + 1
one_more entries e = length-append entries (e ∷ [])

-- a place is that of the new entry or one before it
place_cases : (i n m : ℕ) → m ≡ n + 1 → i < m → (i ≡ n) ⊎ (i < n)
place_cases i n m e l = elim (cases_order i n) [ inl same ↦ inl same | inr order ↦ elim order [ inl less ↦ inr less | inr more ↦ absurd (omega arith) ] ]

-- the entry counts the occurrences of the first k days
pub record Counts (s : Sketch) (q : ℤ) (most : ℕ) (e : Entry) : Type 0 where
  pub days : ℕ
  pub few : days ≤ most
  pub day : e.day ≡ q +ℤ pos days
  pub before : e.before ≡ count_on s q days

-- entries for days before the n-th one from q on: rising, and each occupied day has one
pub record AreEntries (s : Sketch) (q : ℤ) (n : ℕ) (entries : List Entry) : Type 0 where
  pub counts : (i : ℕ) → i < length entries → Counts s q n (entry_at entries i)
  pub below : (i : ℕ) → i < length entries → (entry_at entries i).day <ℤ (q +ℤ pos n)
  pub rises : (i j : ℕ) → i < j → j < length entries → (entry_at entries i).day <ℤ (entry_at entries j).day
  pub has : (k : ℕ) → k < n → (times_on s (q +ℤ pos k) ≡ [] → ⊥) → (i : ℕ) × (i < length entries) × ((entry_at entries i).day ≡ q +ℤ pos k)

module _ (s : Sketch) (q : ℤ) where
  more_days : (n : ℕ) (e : Entry) → Counts s q n e → Counts s q (suc n) e
  more_days n e c = let f = c.few in record { days = c.days; few = omega arith; day = c.day; before = c.before }

  -- a day without occurrences
  passed_over : (n : ℕ) (entries : List Entry) → times_on s (q +ℤ pos n) ≡ [] → AreEntries s q n entries → AreEntries s q (suc n) entries
  passed_over n entries none known = record {
    counts = λ i l. more_days n (entry_at entries i) (known.counts i l);
    below = λ i l. (let m = known.below i l in omega (arith, ints));
    rises = known.rises;
    has = λ k l some. elim (cases_order k n) [
      | inl e ↦ absurd (some (ap (λ x. times_on s (q +ℤ pos x)) e ∙ none))
      | inr order ↦ elim order [ inl less ↦ known.has k less some | inr more ↦ absurd (omega arith) ]
    ];
  }

  module _ (n : ℕ) (entries : List Entry) (known : AreEntries s q n entries) (e : Entry) (day : e.day ≡ q +ℤ pos n) (before : e.before ≡ count_on s q n) where
    counts_with : (most : ℕ) → n ≤ most → (i : ℕ) → i < length (entries ++ e ∷ []) → Counts s q most (entry_at (entries ++ e ∷ []) i)
    counts_with most l i h =
        elim (place_cases i (length entries) (length (entries ++ e ∷ [])) (one_more entries e) h) [
          | inl same ↦
              subst (λ (x : Entry). Counts s q most x) (sym (ap (entry_at (entries ++ e ∷ [])) same ∙ end entries e))
              (record { days = n; few = l; day = day; before = before })
          | inr less ↦
              let c = known.counts i less in
              let f = c.few in
              subst (λ (x : Entry). Counts s q most x) (sym (front entries e i less))
              (record { days = c.days; few = omega arith; day = c.day; before = c.before })
        ]

    rises_with : (i j : ℕ) → i < j → j < length (entries ++ e ∷ []) → (entry_at (entries ++ e ∷ []) i).day <ℤ (entry_at (entries ++ e ∷ []) j).day
    rises_with i j l h =
        let first : i < length entries = omega (arith, one_more entries e) in
        let at : (entry_at (entries ++ e ∷ []) i).day ≡ (entry_at entries i).day = ap (λ (x : Entry). x.day) (front entries e i first) in
        elim (place_cases j (length entries) (length (entries ++ e ∷ [])) (one_more entries e) h) [
          | inl same ↦
              let last : (entry_at (entries ++ e ∷ []) j).day ≡ q +ℤ pos n =
              ap (λ (x : Entry). x.day) (ap (entry_at (entries ++ e ∷ [])) same ∙ end entries e) ∙ day in
              let m = known.below i first in
              omega (arith, ints, at, last)
          | inr less ↦
              let other : (entry_at (entries ++ e ∷ []) j).day ≡ (entry_at entries j).day = ap (λ (x : Entry). x.day) (front entries e j less) in
              let m = known.rises i j l less in
              omega (arith, ints, at, other)
        ]

    has_with : (k : ℕ) → k < n → (times_on s (q +ℤ pos k) ≡ [] → ⊥)
        → (i : ℕ) × (i < length (entries ++ e ∷ [])) × ((entry_at (entries ++ e ∷ []) i).day ≡ q +ℤ pos k)
    has_with k l some =
        let h = known.has k l some in
        (h.0, omega (arith, one_more entries e, h.1), ap (λ (x : Entry). x.day) (front entries e h.0 h.1) ∙ h.2)

    -- an entry for the day
    put_in : AreEntries s q (suc n) (entries ++ e ∷ [])
    put_in = record {
      counts = counts_with (suc n) (omega arith);
      below = λ i h. elim (place_cases i (length entries) (length (entries ++ e ∷ [])) (one_more entries e) h) [
        | inl same ↦
            let last : (entry_at (entries ++ e ∷ []) i).day ≡ q +ℤ pos n =
            ap (λ (x : Entry). x.day) (ap (entry_at (entries ++ e ∷ [])) same ∙ end entries e) ∙ day in
            omega (arith, ints)
        | inr less ↦
            let at : (entry_at (entries ++ e ∷ []) i).day ≡ (entry_at entries i).day = ap (λ (x : Entry). x.day) (front entries e i less) in
            let m = known.below i less in
            omega (arith, ints)
      ];
      rises = rises_with;
      has = λ k l some. elim (cases_order k n) [
        | inl same ↦ (
          length entries,
          omega (arith, one_more entries e),
          ap (λ (x : Entry). x.day) (end entries e) ∙ day ∙ ap (λ x. q +ℤ pos x) (sym same),
        )
        | inr order ↦ elim order [ inl less ↦ has_with k less some | inr more ↦ absurd (omega arith) ]
      ];
    }

  one_day : (n : ℕ) (entries : List Entry) (times : List ℕ) → times_on s (q +ℤ pos n) ≡ times → AreEntries s q n entries
      → AreEntries s q (suc n) (entries ++ entry_if_some (q +ℤ pos n) (count_on s q n) times)
  one_day n entries [] e known = subst (λ (l : List Entry). AreEntries s q (suc n) l) (sym (append-nil entries)) (passed_over n entries e known)
  one_day n entries (x ∷ xs) e known = put_in n entries known (record { day = q +ℤ pos n; before = count_on s q n }) refl refl

  pub are_entries : (n : ℕ) → AreEntries s q n (entries_of s q n)
  unfolding entries_of
  are_entries zero = record {
    counts = λ i l. absurd (omega arith);
    below = λ i l. absurd (omega arith);
    rises = λ i j l h. absurd (omega arith);
    has = λ k l some. absurd (omega arith);
  }
  are_entries (suc n) = one_day n (entries_of s q n) (times_on s (q +ℤ pos n)) refl (are_entries n)

  -- ---- as many as there are occupied days

  as_many : (n : ℕ) (times : List ℕ) (entries : List Entry) (shapes : List DayShape) → length entries ≡ length shapes
      → length (entries ++ entry_if_some (q +ℤ pos n) (count_on s q n) times) ≡ length (shapes ++ shape_if_some (q +ℤ pos n) times)
  as_many n [] entries shapes e = omega (arith, e, length-append entries [], length-append shapes [])
  as_many n (x ∷ xs) entries shapes e =
      omega (
        arith,
        e,
        length-append entries (record { day = q +ℤ pos n; before = count_on s q n } ∷ []),
        length-append shapes (record { day = q +ℤ pos n; times = x ∷ xs } ∷ []),
      )

  pub many_entries : (n : ℕ) → length (entries_of s q n) ≡ length (day_shapes s q n)
  unfolding entries_of day_shapes
  many_entries zero = refl
  many_entries (suc n) = as_many n (times_on s (q +ℤ pos n)) (entries_of s q n) (day_shapes s q n) (many_entries n)

-- entries for the occupied ones of the n days from q on, and one for the day after them
pub record AreSums (s : Sketch) (q : ℤ) (n : ℕ) (entries : List Entry) : Type 0 where
  pub counts : (i : ℕ) → i < length entries → Counts s q n (entry_at entries i)
  pub rises : (i j : ℕ) → i < j → j < length entries → (entry_at entries i).day <ℤ (entry_at entries j).day
  pub has : (k : ℕ) → k < n → (times_on s (q +ℤ pos k) ≡ [] → ⊥) → (i : ℕ) × (i < length entries) × ((entry_at entries i).day ≡ q +ℤ pos k)
  pub last : (i : ℕ) × (suc i ≡ length entries) × ((entry_at entries i).day ≡ q +ℤ pos n) × ((entry_at entries i).before ≡ count_on s q n)

pub are_sums : (s : Sketch) (q : ℤ) (n : ℕ) → AreSums s q n (sums_of s q n)
are_sums s q n =
    let e : Entry = record { day = q +ℤ pos n; before = count_on s q n } in
    let known = are_entries s q n in
    let at = end (entries_of s q n) e in
    record {
      counts = counts_with s q n (entries_of s q n) known e refl refl n (omega arith);
      rises = rises_with s q n (entries_of s q n) known e refl refl;
      has = has_with s q n (entries_of s q n) known e refl refl;
      last = (
        length (entries_of s q n),
        omega (arith, one_more (entries_of s q n) e),
        ap (λ (x : Entry). x.day) at,
        ap (λ (x : Entry). x.before) at,
      );
    }

pub many_sums : (s : Sketch) (q : ℤ) (n : ℕ) → length (sums_of s q n) ≡ length (day_shapes s q n) + 1
many_sums s q n =
    omega (arith, one_more (entries_of s q n) (record { day = q +ℤ pos n; before = count_on s q n }), many_entries s q n)
