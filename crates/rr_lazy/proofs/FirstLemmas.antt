-- An iterator over the first n occurrences.
use Rattle.std.proofs.Common.{◌≡◌, ◌⊎◌, ℕ, zero, suc, ◌+◌, ◌-◌, ◌<◌, ◌≤◌, true, false, ◌&&◌, List, [], ◌∷◌, min, length, get_or, take, Contains, ℤ, pos}
use Rattle.std.proofs.Common.{negsuc, ◌+ℤ◌, ◌≤ℤ◌}
use Rattle.std.proofs.Common.{◌<ℤ◌, refl, sym, ap, ◌∙◌, inl, inr, arith}
use Rattle.std.specs.Prelude.{IsTrue, nat_le}
use Rattle.std.proofs.lemmas.Int.{ints}
use Rattle.std.proofs.lemmas.Bool.{cases_lt, false≢true}
use Rattle.std.proofs.lemmas.Bool.Decides.{nat_tests}
use Rattle.std.proofs.lemmas.List.{get_or-take, get_or_default, take_all, length-take-le}
use Rattle.rr_model.specs.Calendar.{first_day_of_year}
use Rattle.rr_model.specs.Rising.Sets.{IsSecondsOfDay}
use Rattle.rr_times.proofs.TakeLemmas.{Rises-take}
use Rattle.rr_model.specs.Sets.Counting.{count_seconds, count_before, count_to}
use Rattle.rr_model.specs.Sets.Tree.{Tree, first_n, stands_at}
use Rattle.std.specs.Prelude.{Some, None, Ok}
use Rattle.rr_lazy.specs.DayTimes.{DayTimes}
use Rattle.rr_lazy.specs.Next.{HasNone, IsFirstOccupied, IsNext, IsUnasked}
use Rattle.rr_lazy.proofs.TreeLemmas.{seconds_of_occupied}
use Rattle.rr_lazy.specs.FirstN.{IsCounting}
use Rattle.rr_lazy.proofs.CountingLemmas.{before_skip, before_next, before_grows, to_is, seconds_to, seconds_whole, count_seconds_yes, before_none}

pub first_day_is : first_day_of_year (pos 1) ≡ negsuc 719_161
unfolding first_day_of_year
first_day_is = refl

-- the start: all are still to be given
pub counting_begins : (tree : Tree) (own : ℤ) (count : ℕ) → IsUnasked own → IsCounting tree own (negsuc 719_161) count count
counting_begins tree own count u = record {
  begun = omega (arith, ints, first_day_is);
  together = λ l. u ∙ first_day_is;
  counted = λ l. omega (arith, start);
  spent = λ e. omega (arith, e);
}
  where
    start : count_before (λ d s. stands_at tree d s) (negsuc 719_161) ≡ 0
    start = rw (sym first_day_is) (before_none (λ d s. stands_at tree d s))

module _ (tree : Tree) (own position : ℤ) (count left : ℕ) (k : IsCounting tree own position count left) where
  -- once all were given none is left
  pub none_spent : (q : ℤ) → left ≡ 0 → HasNone (first_n tree count) position q
  none_spent q e day second from to =
      elim (stands_at tree day second) as (λ b. stands_at tree day second ≡ b → (b && nat_le (count_to (λ d s. stands_at tree d s) day second) count) ≡ false) [
        | false ↦ λ n. refl
        | true ↦ λ y. (
            let grown = before_grows (λ d s. stands_at tree d s) position day k.begun from in
            let one : count_seconds (stands_at tree day) (second + 1) ≡ count_seconds (stands_at tree day) second + 1 =
            (let f : second + 1 ≡ suc second = omega arith in rw f (count_seconds_yes (stands_at tree day) second y)) in
            let over : count < count_to (λ d s. stands_at tree d s) day second =
            omega (arith, k.spent e, grown, one, to_is (λ d s. stands_at tree d s) day second) in
            grind (arith, nat_tests))
      ] refl

  pub spent_moves : (q : ℤ) → left ≡ 0 → position ≤ℤ q → IsCounting tree own q count left
  spent_moves q e l = record {
    begun = omega (arith, ints, k.begun, l);
    together = λ h. absurd (omega (arith, e, h));
    counted = λ h. absurd (omega (arith, e, h));
    spent = λ h. omega (arith, k.spent e, before_grows (λ d s. stands_at tree d s) position q k.begun l);
  }

  -- nothing up to a day
  pub none_of_first : (q : ℤ) → HasNone tree position q → HasNone (first_n tree count) position q
  none_of_first q none day second from to = rw (none day second from to) refl

  pub nothing_moves : (q : ℤ) → 1 ≤ left → HasNone tree position q → position ≤ℤ q → IsCounting tree q q count left
  nothing_moves q h none l = record {
    begun = omega (arith, ints, k.begun, l);
    together = λ x. refl;
    counted = λ x. omega (arith, before_skip (λ d s. stands_at tree d s) position q k.begun l none, k.counted h);
    spent = λ x. absurd (omega (arith, h, x));
  }

  module _ (day : ℤ) (times : List ℕ) (f : IsFirstOccupied tree own day times) (seconds : IsSecondsOfDay times) (h : 1 ≤ left) where
    late : position ≤ℤ day
    late = omega (arith, ints, k.together h, f.late)

    skipped : count_before (λ d s. stands_at tree d s) day ≡ count_before (λ d s. stands_at tree d s) position
    skipped = before_skip (λ d s. stands_at tree d s) position day k.begun late (rw (k.together h) at f.before)

    -- the second at an index of the day is the next but n
    number_at : (i : ℕ) → i < length times → count_to (λ d s. stands_at tree d s) day (get_or times i 0) + left ≡ count + (i + 1)
    number_at i l = omega (
      arith,
      to_is (λ d s. stands_at tree d s) day (get_or times i 0),
      seconds_to (stands_at tree day) times f.all i l,
      skipped,
      k.counted h,
    )

    -- as many seconds are given as are left, or all
    kept : (left < length times → length (take left times) ≡ left) × (length times ≤ left → length (take left times) ≡ length times)
    kept = (λ l. length-take-le left times (omega arith), λ l. ap length (take_all left times l))

    -- the day counts as many as it has
    whole : count_before (λ d s. stands_at tree d s) (day +ℤ pos 1) ≡ count_before (λ d s. stands_at tree d s) position + length times
    whole = omega (
      arith,
      before_next (λ d s. stands_at tree d s) day (omega (arith, ints, k.begun, late)),
      skipped,
      seconds_whole (stands_at tree day) times f.all 86_400 seconds.below_a_day,
    )

    -- a day without seconds is not given
    kept_some : take left times ≡ [] → times ≡ []
    kept_some e =
        elim (cases_lt left (length times)) [
          | inl l ↦ absurd (omega (arith, kept.0 l, ap length e, h))
          | inr g ↦ sym (take_all left times g) ∙ e
        ]

    -- a second that is kept
    given : (i s : ℕ) → i < length (take left times) → get_or (take left times) i s ≡ s → IsTrue (stands_at (first_n tree count) day s)
    given i s l e =
        elim (cases_lt left (length times)) [
          | inl m ↦ there (omega (arith, kept.0 m)) (omega (arith, kept.0 m))
          | inr g ↦
              there (omega (arith, kept.1 g)) (omega (arith, kept.1 g))
        ]
      where
        there : i < left → i < length times → IsTrue (stands_at (first_n tree count) day s)
        there m n =
            let at : get_or times i 0 ≡ s = get_or_default times i 0 s n ∙ sym (get_or-take left times i s m) ∙ e in
            let stands : stands_at tree day s ≡ true = (f.all.exact s).0 (i, n, get_or_default times i s 0 n ∙ at) in
            let within : count_to (λ d s. stands_at tree d s) day s ≤ count = omega (arith, number_at i n, ap (count_to (λ d s. stands_at tree d s) day) at) in
            rw stands (grind (arith, nat_tests))

    -- a second that stands among the first is kept
    taken : (s : ℕ) → IsTrue (stands_at (first_n tree count) day s) → Contains (take left times) s
    taken s t = elim (stands_at tree day s) as (λ b. stands_at tree day s ≡ b → (b && nat_le (count_to (λ d s. stands_at tree d s) day s) count) ≡ true
        → Contains (take left times) s) [
          | false ↦ λ e u. absurd (false≢true u)
          | true ↦ λ e u. (
              let c = (f.all.exact s).1 e in
              let at : get_or times c.0 0 ≡ s = get_or_default times c.0 0 s c.1 ∙ c.2 in
              let within : count_to (λ d s. stands_at tree d s) day s ≤ count = grind (arith, nat_tests) in
              let m : c.0 < left = omega (arith, number_at c.0 c.1, ap (count_to (λ d s. stands_at tree d s) day) at) in
              let n : c.0 < length (take left times) =
              elim (cases_lt left (length times)) [ inl l ↦ omega (arith, kept.0 l) | inr g ↦ omega (arith, kept.1 g, c.1) ] in
              (c.0, n, get_or-take left times c.0 s m ∙ c.2))
        ] refl t

    -- the day's first seconds, as many as are left
    pub first_given : IsFirstOccupied (first_n tree count) position day (take left times)
    first_given = record {
      late = late;
      before = none_of_first day (rw (k.together h) at f.before);
      some = λ e. f.some (kept_some e);
      all = record { rises = Rises-take left times f.all.rises; exact = λ s. ((λ c. given c.0 s c.1 c.2), taken s) };
    }

    pub first_counted : IsCounting tree (day +ℤ pos 1) (day +ℤ pos 1) count (left - length (take left times))
    first_counted = record {
      begun = omega (arith, ints, k.begun, late);
      together = λ x. refl;
      counted = λ x. elim (cases_lt left (length times)) [ inl l ↦ absurd (omega (arith, kept.0 l)) | inr g ↦ omega (arith, kept.1 g, whole, k.counted h, x) ];
      spent = λ x. elim (cases_lt left (length times)) [
        | inl l ↦ omega (arith, kept.0 l, whole, k.counted h)
        | inr g ↦
            omega (arith, kept.1 g, whole, k.counted h, x)
      ];
    }

-- a call if the part gave nothing
pub first_none : (tree tree' : Tree) (own own' position to to' q : ℤ) (count left : ℕ) → IsCounting tree own position count left → 1 ≤ left
    → IsNext tree own to' (Ok None) own' → tree' ≡ tree → to' ≡ to → position ≤ℤ q → to <ℤ q → (q ≡ to +ℤ pos 1) ⊎ (q ≡ position)
    → IsCounting tree' own' q count left × HasNone (first_n tree count) position q
first_none tree tree' own own' position to to' q count left k h n e f kept past one =
    let t : own ≡ position = k.together h in
    let same : own' ≡ q =
    elim one [
      | inl a ↦ elim n.3 [ inl b ↦ omega (arith, ints, a, b, f) | inr b ↦ omega (arith, ints, a, b, f, t, n.2, past) ]
      | inr a ↦
          elim n.3 [ inl b ↦ omega (arith, ints, a, b, f, t, n.1, past) | inr b ↦ omega (arith, ints, a, b, t) ]
    ] in
    let none : HasNone tree position q = rw (t, same) at n.0 in
    (rw (e, same) (nothing_moves tree own position count left k q h none kept), none_of_first tree own position count left k q none)

-- a call if the part gave a day
pub first_some : (tree tree' : Tree) (own own' position to to' q : ℤ) (found : DayTimes) (kept : List ℕ) (count left left' : ℕ)
    → IsCounting tree own position count left → 1 ≤ left
    → IsNext tree own to' (Ok (Some found)) own' → tree' ≡ tree → to' ≡ to → kept ≡ take left found.times → q ≡ found.day +ℤ pos 1 → left' ≡ left - length kept
    → IsCounting tree' own' q count left' × IsFirstOccupied (first_n tree count) position found.day kept × (found.day ≤ℤ to)
first_some tree tree' own own' position to to' q found kept count left left' k h n e f g i j =
    let seconds = seconds_of_occupied tree own found.day found.times n.0 in
    let same : own' ≡ q = n.2 ∙ sym i in (
      rw (e, same, i, j, g) (first_counted tree own position count left k found.day found.times n.0 seconds h),
      rw g (first_given tree own position count left k found.day found.times n.0 seconds h),
      omega (arith, ints, n.1, f),
    )

-- ---- the first of the first

pub take_less : (m n : ℕ) (xs : List ℕ) → m ≤ n → take m (take n xs) ≡ take m xs
take_less zero n xs l = refl
take_less (suc m) zero xs l = absurd (omega (arith, l))
take_less (suc m) (suc n) [] l = refl
take_less (suc m) (suc n) (x ∷ xs) l = ap (λ ys. x ∷ ys) (take_less m n xs (omega (arith, l)))

pub take_lesser : (m n k : ℕ) (xs : List ℕ) → n ≤ length xs → k ≡ min n m → (k ≤ n) × (take k xs ≡ take m (take n xs)) × (length (take k xs) ≡ k)
take_lesser m n k xs h e =
    let l : k ≤ n = omega (arith, e) in (
      l,
      elim (cases_lt m n) [
        | inl c ↦ (let f : k ≡ m = omega (arith, e, c) in rw f (sym (take_less m n xs (omega (arith, c)))))
        | inr c ↦ (let f : k ≡ n = omega (arith, e, c) in rw f (sym (take_all m (take n xs) (omega (arith, length-take-le n xs h, c)))))
      ],
      length-take-le k xs (omega (arith, l, h)),
    )
