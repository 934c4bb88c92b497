-- Taking the sound item with most further days, again and again, loses no list.
use Rattle.std.proofs.Common.{◌≡◌, ℕ, zero, suc, ◌+◌, ◌<◌, ◌≤◌, ◌==◌, Bool, true, false, cond, not, ◌&&◌, ◌||◌, List, [], ◌∷◌, ℤ, pos, nat_abs, ◌+ℤ◌}
use Rattle.std.proofs.Common.{◌-ℤ◌, ◌≤ℤ◌, ◌<ℤ◌, inl, inr, refl, sym, ap, subst, ◌∙◌, arith}
use Rattle.std.specs.Prelude.{nat_lt}
use Rattle.std.specs.List.{list_any, filter, AllByRecursion}
use Rattle.std.proofs.lemmas.Int.{ints}
use Rattle.std.proofs.lemmas.Bool.{cases_Bool, cases_eq, eq-eqb, false≢true}
use Rattle.std.proofs.lemmas.Bool.Decides.{nat_tests}
use Rattle.std.proofs.lemmas.List.Elements.{recursion_from_All}
use Rattle.std.proofs.lemmas.Map.Views.{any-filter_same}
use Rattle.rr_model.specs.Whole.Count.{count_from}
use Rattle.rr_model.proofs.CountLemmas.{one, count_from-zero, count_from-suc, count_from-le, count_from-empty}
use Rattle.rr_model.proofs.TestLemmas.{same_truth}
use Rattle.rr_family.specs.Taking.{some_gives, AgreeWithin, is_sound, sound_places, further_days, first_greatest, taken_within, taken_places}
use Rattle.rr_family.specs.Taking.{AreAmong, TakingLosesNone, TakingIsSound}

-- ---- truth values

pub or_true : (a b : Bool) → (a || b) ≡ true → (a ≡ false) → b ≡ true
or_true a b h e = rw e at h

not_false : (b : Bool) → not b ≡ false → b ≡ true
not_false true h = refl
not_false false h = absurd (false≢true (sym h))

-- ---- counts

pub count_from-none_at : (p : ℤ → Bool) (q : ℤ) (n : ℕ) → count_from p q n ≡ 0 → (k : ℕ) → k < n → p (q +ℤ pos k) ≡ false
count_from-none_at p q zero h k l = absurd (omega (arith, l))
count_from-none_at p q (suc n) h k l =
    let e = count_from-suc p q n in
    let before : count_from p q n ≡ 0 = omega (arith, e, h) in
    elim (cases_eq k n) [
      | inl same ↦ elim (cases_Bool (p (q +ℤ pos n))) [
        | inl holds ↦ absurd (let w : one (p (q +ℤ pos n)) ≡ 1 = rw holds refl in omega (arith, e, h, w))
        | inr none ↦ subst (λ i. p (q +ℤ pos i) ≡ false) (sym same) none
      ]
      | inr other ↦ count_from-none_at p q n before k (omega (arith, l, other))
    ]

-- what passes one test passes exactly one of two others
pub count_split : (p r s : ℤ → Bool) (q : ℤ) (n : ℕ) → ((d : ℤ) → one (p d) + one (r d) ≡ one (s d)) → count_from p q n + count_from r q n ≡ count_from s q n
count_split p r s q zero h = omega (arith, count_from-zero p q, count_from-zero r q, count_from-zero s q)
count_split p r s q (suc n) h = omega (arith, count_from-suc p q n, count_from-suc r q n, count_from-suc s q n, count_split p r s q n h, h (q +ℤ pos n))

-- a day of a window by its place
pub in_window : (first d : ℤ) (days : ℕ) → first ≤ℤ d → d <ℤ (first +ℤ pos days) → (k : ℕ) × (k < days) × (first +ℤ pos k ≡ d)
in_window first d days l h = (nat_abs (d -ℤ first), omega (arith, ints), omega (arith, ints))

-- ---- members of lists

is_in : ℕ → List ℕ → Bool
is_in place places = list_any (λ other. place == other) places

-- a test that some place of the list passes is passed by one that is in it
pub giver : (p : ℕ → Bool) (places : List ℕ) → list_any p places ≡ true → (place : ℕ) × (p place ≡ true) × (list_any (λ other. place == other) places ≡ true)
giver p [] h = absurd (false≢true h)
giver p (x ∷ xs) h =
    elim (cases_Bool (p x)) [
      | inl holds ↦ (x, holds, rw (eq-eqb x x refl) refl)
      | inr none ↦ (
          let rest = giver p xs (or_true (p x) (list_any p xs) h none) in
          (rest.0, rest.1, elim (cases_Bool (rest.0 == x)) [ inl same ↦ rw same refl | inr other ↦ rw other rest.2 ]))
    ]

pub taker : (p : ℕ → Bool) (places : List ℕ) (place : ℕ) → list_any (λ other. place == other) places ≡ true → p place ≡ true → list_any p places ≡ true
taker p [] place h holds = absurd (false≢true h)
taker p (x ∷ xs) place h holds =
    elim (cases_eq place x) [
      | inl same ↦ (let e : p x ≡ true = subst (λ z. p z ≡ true) same holds in rw e refl)
      | inr other ↦ elim (cases_Bool (p x)) [
        | inl here ↦ rw here refl
        | inr none ↦ rw none (taker p xs place (or_true (place == x) (list_any (λ o. place == o) xs) h (grind (arith, nat_tests))) holds)
      ]
    ]

pub kept_by_filter : (p : ℕ → Bool) (places : List ℕ) (place : ℕ) → list_any (λ other. place == other) (filter p places) ≡ true → p place ≡ true
kept_by_filter p [] place h = absurd (false≢true h)
kept_by_filter p (x ∷ xs) place h =
    elim (p x) as (λ b. p x ≡ b → list_any (λ other. place == other) (cond b (x ∷ filter p xs) (filter p xs)) ≡ true → p place ≡ true) [
      | true ↦ λ holds g. elim (cases_eq place x) [
        | inl same ↦ subst (λ z. p z ≡ true) (sym same) holds
        | inr other ↦ kept_by_filter p xs place (or_true (place == x) (list_any (λ o. place == o) (filter p xs)) g (grind (arith, nat_tests)))
      ]
      | false ↦ λ none g. kept_by_filter p xs place g
    ] refl h

-- ---- the first with the greatest number

at_least : (number : ℕ → ℕ) (x : ℕ) (xs : List ℕ) → number x ≤ number (first_greatest number x xs)
at_least number x [] = omega arith
at_least number x (y ∷ ys) =
    elim (nat_lt (number x) (number y)) as
    (λ b. nat_lt (number x) (number y) ≡ b → number x ≤ number (cond b (first_greatest number y ys) (first_greatest number x ys))) [
      | true ↦ λ e. (let l : number x < number y = grind (arith, nat_tests) in omega (arith, l, at_least number y ys))
      | false ↦ λ e. at_least number x ys
    ] refl

greatest : (number : ℕ → ℕ) (x : ℕ) (xs : List ℕ) (place : ℕ) → list_any (λ other. place == other) (x ∷ xs) ≡ true
    → number place ≤ number (first_greatest number x xs)
greatest number x [] place h =
    elim (cases_eq place x) [
      | inl same ↦ omega (arith, ap number same)
      | inr other ↦ absurd (false≢true (or_true (place == x) false h (grind (arith, nat_tests))))
    ]
greatest number x (y ∷ ys) place h =
    elim (nat_lt (number x) (number y)) as
    (λ b. nat_lt (number x) (number y) ≡ b → number place ≤ number (cond b (first_greatest number y ys) (first_greatest number x ys))) [
      | true ↦ λ e. (
          let l : number x < number y = grind (arith, nat_tests) in
          elim (cases_eq place x) [
            | inl same ↦ omega (arith, ap number same, l, at_least number y ys)
            | inr other ↦ greatest number y ys place (or_true (place == x) (list_any (λ o. place == o) (y ∷ ys)) h (grind (arith, nat_tests)))
          ])
      | false ↦ λ e. (
          let l : number y ≤ number x = grind (arith, nat_tests) in
          elim (cases_eq place x) [
            | inl same ↦ omega (arith, ap number same, at_least number x ys)
            | inr other ↦ elim (cases_eq place y) [
              | inl same ↦ omega (arith, ap number same, l, at_least number x ys)
              | inr far ↦ greatest number x ys place (
                  let later = or_true (place == x) (list_any (λ o. place == o) (y ∷ ys)) h (grind (arith, nat_tests)) in
                  let last = or_true (place == y) (list_any (λ o. place == o) ys) later (grind (arith, nat_tests)) in
                  elim (cases_Bool (place == x)) [ inl s ↦ rw s refl | inr o ↦ rw o last ])
            ]
          ])
    ] refl

pub is_among : (number : ℕ → ℕ) (x : ℕ) (xs : List ℕ) → list_any (λ other. first_greatest number x xs == other) (x ∷ xs) ≡ true
is_among number x [] = rw (eq-eqb x x refl) refl
is_among number x (y ∷ ys) =
    elim (nat_lt (number x) (number y)) as
    (λ b. list_any (λ other. cond b (first_greatest number y ys) (first_greatest number x ys) == other) (x ∷ y ∷ ys) ≡ true) [
      | true ↦ (let m = is_among number y ys in elim (cases_Bool (first_greatest number y ys == x)) [ inl s ↦ rw s refl | inr o ↦ rw o m ])
      | false ↦ (
          let m = is_among number x ys in
          elim (cases_Bool (first_greatest number x ys == x)) [
            | inl s ↦ rw s refl
            | inr o ↦ (let later = or_true (first_greatest number x ys == x) (list_any (λ z. first_greatest number x ys == z) ys) m o in
                elim (cases_Bool (first_greatest number x ys == y)) [ inl s ↦ rw (o, s) refl | inr far ↦ rw (o, far) later ])
          ])
    ]

-- ---- taking

module _ (gives : ℕ → ℤ → Bool) (occupied : ℤ → Bool) (first : ℤ) (days : ℕ) where
  -- the days of the window that the taken ones give are occupied
  abbrev pub GivesOccupied : List ℕ → Type 0
  GivesOccupied taken = (d : ℤ) → first ≤ℤ d → d <ℤ (first +ℤ pos days) → some_gives gives taken d ≡ true → occupied d ≡ true

  -- the occupied days of the window are given
  abbrev pub Covers : List ℕ → Type 0
  Covers taken = (d : ℤ) → first ≤ℤ d → d <ℤ (first +ℤ pos days) → occupied d ≡ true → some_gives gives taken d ≡ true

  abbrev left_over : List ℕ → ℤ → Bool
  left_over taken d = occupied d && not (some_gives gives taken d)

  one_taken : (o g t : Bool) → one (o && not (g || t)) + one (g && (o && not t)) ≡ one (o && not t)
  one_taken true true true = refl
  one_taken true true false = refl
  one_taken true false true = refl
  one_taken true false false = refl
  one_taken false true t = refl
  one_taken false false t = refl

  fewer : (taken : List ℕ) (b : ℕ) → count_from (left_over (b ∷ taken)) first days + further_days gives occupied first days taken b
      ≡ count_from (left_over taken) first days
  fewer taken b = count_split (left_over (b ∷ taken)) (λ d. gives b d && (occupied d && not (some_gives gives taken d))) (left_over taken) first days
      (λ d. one_taken (occupied d) (gives b d) (some_gives gives taken d))

  -- a sound place gives occupied days alone
  pub sound_gives : (place : ℕ) → is_sound gives occupied first days place ≡ true → (d : ℤ) → first ≤ℤ d → d <ℤ (first +ℤ pos days)
      → gives place d ≡ true → occupied d ≡ true
  sound_gives place sound d l h g =
      let w = in_window first d days l h in
      let none : count_from (λ d. gives place d && not (occupied d)) first days ≡ 0 = grind (arith, nat_tests) in
      let off = subst (λ z. (gives place z && not (occupied z)) ≡ false) w.2
      (count_from-none_at (λ d. gives place d && not (occupied d)) first days none w.0 w.1) in
      not_false (occupied d) (rw g at off)

  pub sound_if_gives : (place : ℕ) → ((d : ℤ) → first ≤ℤ d → d <ℤ (first +ℤ pos days) → gives place d ≡ true → occupied d ≡ true)
      → is_sound gives occupied first days place ≡ true
  sound_if_gives place h =
      let none = count_from-empty (λ d. gives place d && not (occupied d)) first days (λ d low high.
      elim (cases_Bool (gives place d)) [
        | inl g ↦ (let o = h d low high g in rw (g, o) refl)
        | inr n ↦ rw n refl
      ]) in
      eq-eqb _ 0 none

  gives_more : (taken : List ℕ) (b : ℕ) → GivesOccupied taken → is_sound gives occupied first days b ≡ true → GivesOccupied (b ∷ taken)
  gives_more taken b ok sound d l h g =
      elim (cases_Bool (gives b d)) [
        | inl here ↦ sound_gives b sound d l h here
        | inr none ↦ ok d l h (or_true (gives b d) (some_gives gives taken d) g none)
      ]

  -- if no sound place gives a further day, and together they cover, the taken ones cover
  covered : (sound taken : List ℕ) → Covers sound
      → ((place : ℕ) → list_any (λ other. place == other) sound ≡ true → further_days gives occupied first days taken place ≡ 0) → Covers taken
  covered sound taken covers none d l h o =
      let g = giver (λ place. gives place d) sound (covers d l h o) in
      let w = in_window first d days l h in
      let off = subst (λ z. (gives g.0 z && (occupied z && not (some_gives gives taken z))) ≡ false) w.2
      (count_from-none_at (λ d. gives g.0 d && (occupied d && not (some_gives gives taken d))) first days (none g.0 g.2) w.0 w.1) in
      not_false (some_gives gives taken d) (rw (g.1, o) at off)

  all_covered : (taken : List ℕ) → count_from (left_over taken) first days ≡ 0 → Covers taken
  all_covered taken none d l h o =
      let w = in_window first d days l h in
      let off = subst (λ z. left_over taken z ≡ false) w.2 (count_from-none_at (left_over taken) first days none w.0 w.1) in
      not_false (some_gives gives taken d) (rw o at off)

  module _ (sound : List ℕ) (all_sound : (place : ℕ) → list_any (λ other. place == other) sound ≡ true
      → is_sound gives occupied first days place ≡ true) where
    taken_is_sound : (steps : ℕ) (places taken : List ℕ)
        → ((place : ℕ) → list_any (λ other. place == other) places ≡ true → list_any (λ other. place == other) sound ≡ true) → GivesOccupied taken
        → GivesOccupied (taken_within steps gives occupied first days places taken)
    unfolding taken_within
    taken_is_sound zero [] taken among ok = ok
    taken_is_sound (suc steps) [] taken among ok = ok
    taken_is_sound zero (x ∷ xs) taken among ok = ok
    taken_is_sound (suc steps) (x ∷ xs) taken among ok =
        let number = further_days gives occupied first days taken in
        let b = first_greatest number x xs in
        elim (number b == 0) as (λ z. GivesOccupied (cond z taken (taken_within steps gives occupied first days (x ∷ xs) (b ∷ taken)))) [
          | true ↦ ok
          | false ↦ taken_is_sound steps (x ∷ xs) (b ∷ taken) among (gives_more taken b ok (all_sound b (among b (is_among number x xs))))
        ]

    taken_covers : (steps : ℕ) (places taken : List ℕ) → Covers places → count_from (left_over taken) first days ≤ steps
        → Covers (taken_within steps gives occupied first days places taken)
    unfolding taken_within
    taken_covers zero [] taken covers few = λ d l h o. absurd (false≢true (covers d l h o))
    taken_covers (suc steps) [] taken covers few = λ d l h o. absurd (false≢true (covers d l h o))
    taken_covers zero (x ∷ xs) taken covers few = all_covered taken (omega (arith, few))
    taken_covers (suc steps) (x ∷ xs) taken covers few =
        let number = further_days gives occupied first days taken in
        let b = first_greatest number x xs in
        elim (number b == 0) as (λ z. number b == 0 ≡ z → Covers (cond z taken (taken_within steps gives occupied first days (x ∷ xs) (b ∷ taken)))) [
          | true ↦ λ e. covered (x ∷ xs) taken covers (λ place m. (
              let top = greatest number x xs place m in
              let last : number b ≡ 0 = grind (arith, nat_tests) in
              omega (arith, top, last)))
          | false ↦ λ e. taken_covers steps (x ∷ xs) (b ∷ taken) covers (
              let some : (number b ≡ 0 → ⊥) = λ z. false≢true (sym e ∙ eq-eqb (number b) 0 z) in
              omega (arith, fewer taken b, few, some))
        ] refl

  pub places_sound : (all : List ℕ) → GivesOccupied (taken_places gives occupied first days all)
  places_sound all =
      let s = sound_places gives occupied first days all in
      let all_sound : (place : ℕ) → list_any (λ other. place == other) s ≡ true → is_sound gives occupied first days place ≡ true =
      kept_by_filter (is_sound gives occupied first days) all in
      taken_is_sound s all_sound days s [] (λ place m. m) (λ d l h g. absurd (false≢true g))

  -- a list that agrees has sound places alone, so the sound ones cover
  sound_cover : (places all : List ℕ) → AreAmong places all → AgreeWithin (some_gives gives places) occupied first days
      → Covers (sound_places gives occupied first days all)
  sound_cover places all among agree d l h o =
      let g = giver (λ place. gives place d) places (agree d l h ∙ o) in
      let sound : is_sound gives occupied first days g.0 ≡ true =
      sound_if_gives g.0 (λ e m n w. sym (agree e m n) ∙ taker (λ place. gives place e) places g.0 g.2 w) in
      let known = in_list places all (recursion_from_All (λ place. list_any (λ other. place == other) all ≡ true) places among) g.0 g.2 in
      let kept = any-filter_same (λ other. g.0 == other) (is_sound gives occupied first days) true
      (λ k e. subst (λ z. is_sound gives occupied first days z ≡ true) (same_place g.0 k e) sound) all in
      taker (λ place. gives place d) (sound_places gives occupied first days all) g.0 (kept ∙ known) g.1
    where
      same_place : (a b : ℕ) → (a == b) ≡ true → a ≡ b
      same_place a b e = grind (arith, nat_tests)

      in_list : (places all : List ℕ) → AllByRecursion (λ place. list_any (λ other. place == other) all ≡ true) places → (p : ℕ)
          → list_any (λ other. p == other) places ≡ true → list_any (λ other. p == other) all ≡ true
      in_list [] all h p m = absurd (false≢true m)
      in_list (x ∷ xs) all h p m =
          elim (cases_eq p x) [
            | inl same ↦ subst (λ z. list_any (λ other. z == other) all ≡ true) (sym same) h.0
            | inr other ↦ in_list xs all h.1 p (or_true (p == x) (list_any (λ o. p == o) xs) m (grind (arith, nat_tests)))
          ]

  pub places_cover : (places all : List ℕ) → AreAmong places all → AgreeWithin (some_gives gives places) occupied first days
      → Covers (taken_places gives occupied first days all)
  places_cover places all among agree =
      let s = sound_places gives occupied first days all in
      taken_covers s (kept_by_filter (is_sound gives occupied first days) all) days s [] (sound_cover places all among agree)
      (count_from-le (left_over []) first days)

-- a place that the filtered list has the list has
pub in_filter : (p : ℕ → Bool) (places : List ℕ) (place : ℕ) → list_any (λ other. place == other) (filter p places) ≡ true
    → list_any (λ other. place == other) places ≡ true
in_filter p [] place h = absurd (false≢true h)
in_filter p (x ∷ xs) place h =
    elim (p x) as (λ b. list_any (λ other. place == other) (cond b (x ∷ filter p xs) (filter p xs)) ≡ true
    → ((place == x) || list_any (λ other. place == other) xs) ≡ true) [
      | true ↦ λ g. elim (cases_Bool (place == x))
          [ inl same ↦ rw same refl | inr other ↦ rw other (in_filter p xs place (or_true (place == x) (list_any (λ o. place == o) (filter p xs)) g other)) ]
      | false ↦ λ g. elim (cases_Bool (place == x)) [ inl same ↦ rw same refl | inr other ↦ rw other (in_filter p xs place g) ]
    ] h

-- what is taken is one of the places, or was taken before
taken_is_in : (gives : ℕ → ℤ → Bool) (occupied : ℤ → Bool) (first : ℤ) (days steps : ℕ) (places taken all : List ℕ)
    → ((place : ℕ) → list_any (λ other. place == other) places ≡ true → list_any (λ other. place == other) all ≡ true)
    → ((place : ℕ) → list_any (λ other. place == other) taken ≡ true → list_any (λ other. place == other) all ≡ true)
    → (place : ℕ) → list_any (λ other. place == other) (taken_within steps gives occupied first days places taken) ≡ true
    → list_any (λ other. place == other) all ≡ true
unfolding taken_within
taken_is_in gives occupied first days zero [] taken all hp ht = ht
taken_is_in gives occupied first days (suc steps) [] taken all hp ht = ht
taken_is_in gives occupied first days zero (x ∷ xs) taken all hp ht = ht
taken_is_in gives occupied first days (suc steps) (x ∷ xs) taken all hp ht =
    let number = further_days gives occupied first days taken in
    let b = first_greatest number x xs in
    elim (number b == 0) as (λ z. (place : ℕ)
    → list_any (λ other. place == other) (cond z taken (taken_within steps gives occupied first days (x ∷ xs) (b ∷ taken))) ≡ true
    → list_any (λ other. place == other) all ≡ true) [
      | true ↦ ht
      | false ↦ taken_is_in gives occupied first days steps (x ∷ xs) (b ∷ taken) all hp (λ place h. elim (cases_eq place b) [
        | inl same ↦ hp place (subst (λ z. list_any (λ other. z == other) (x ∷ xs) ≡ true) (sym same) (is_among number x xs))
        | inr other ↦ ht place (or_true (place == b) (list_any (λ o. place == o) taken) h (grind (arith, nat_tests)))
      ])
    ]

pub taken_among : (gives : ℕ → ℤ → Bool) (occupied : ℤ → Bool) (first : ℤ) (days : ℕ) (all : List ℕ) (place : ℕ)
    → list_any (λ other. place == other) (taken_places gives occupied first days all) ≡ true → list_any (λ other. place == other) all ≡ true
taken_among gives occupied first days all =
    taken_is_in gives occupied first days days (sound_places gives occupied first days all) [] all
    (in_filter (is_sound gives occupied first days) all) (λ place h. absurd (false≢true h))

pub taking_is_sound : TakingIsSound
taking_is_sound gives occupied first days all = places_sound gives occupied first days all

pub taking_loses_none : TakingLosesNone
taking_loses_none gives occupied first days places all among agree d l h =
    same_truth (some_gives gives (taken_places gives occupied first days all) d) (occupied d)
    (places_sound gives occupied first days all d l h)
    (places_cover gives occupied first days places all among agree d l h)
