-- What a walk over a window has counted by sort.
use Rattle.std.proofs.Common.{◌≡◌, ℕ, suc, ◌+◌, ◌<◌, ◌≤◌, ◌==◌, Bool, true, false, not, ◌&&◌, List, get_or, ℤ, pos, ◌+ℤ◌, inl, inr, refl, sym, ap, subst, ◌∙◌, arith, Option, Some}
use Rattle.std.specs.Prelude.{nat_lt, ◌⊎◌}
use Rattle.std.proofs.lemmas.Bool.Decides.{nat_tests}
use Rattle.std.proofs.lemmas.Int.{ints}
use Rattle.std.proofs.lemmas.Bool.{cases_eq, cases_lt, false≢true}
use Rattle.std.proofs.Math.ListN.{replicate}
use Rattle.std.proofs.lemmas.List.{get_or-replicate, get_or_past, length-replicate}
use Rattle.rr_model.proofs.CountLemmas.{count_from-zero, count_from-suc, count_from-le}
use Rattle.rr_model.specs.declared.vcal.FamilyKind.{FamilyKind}
use Rattle.rr_family.specs.Sorts.{many_sorts, sort_of_day}
use Rattle.rr_family.specs.Tally.{sort_passes, days_of_sort}
use Rattle.rr_family.proofs.SortLemmas.{kinds_have_sorts}
use Rattle.rr_family.proofs.TakingLemmas.{in_window}
use Rattle.rr_family.proofs.DaySetLemmas.{more_days}
use Rattle.rr_find.specs.Counted.{IsCountedOn, IsDayResult, AreCounts, HasUnsorted, HasMixed, IsTallied, IsNothingCounted, HasFewDays, has_some_sort}

abbrev pub zeros : ℕ → List ℕ
zeros n = replicate n 0

pub none_in_zeros : (n k : ℕ) → get_or (zeros n) k 0 ≡ 0
none_in_zeros n k =
    elim (cases_lt k n) [
      | inl within ↦ get_or-replicate n k 0 0 within
      | inr past ↦ get_or_past (zeros n) k 0 (omega (arith, length-replicate {A = ℕ} n 0, past))
    ]

pub sort_fits : (f : FamilyKind) (interval : ℕ) (start d : ℤ) (r : Option ℕ) (sort : ℕ) → r ≡ sort_of_day f interval start d → r ≡ Some sort
    → sort < many_sorts f
sort_fits f interval start d r sort e is = (kinds_have_sorts f interval start).below d sort (sym e ∙ is)

-- counts are small
pub room : (counts : List ℕ) (sort_of : ℤ → Option ℕ) (test : ℤ → Bool) (first : ℤ) (n : ℕ) → AreCounts counts sort_of test first n
    → n ≤ 4_000_000_000 → (k : ℕ) → get_or counts k 0 < 18_446_744_073_709_551_615
room counts sort_of test first n are few k = omega (arith, are k, count_from-le (λ d. sort_passes (λ j. k == j) (sort_of d) && test d) first n, few)

pub few_days : (counts : List ℕ) (sort_of : ℤ → Option ℕ) (test : ℤ → Bool) (first : ℤ) (n : ℕ) → AreCounts counts sort_of test first n
    → n ≤ 4_000_000_000 → HasFewDays counts
few_days counts sort_of test first n are few k = omega (arith, are k, count_from-le (λ d. sort_passes (λ j. k == j) (sort_of d) && test d) first n, few)

none_counted : (counts : List ℕ) (sort_of : ℤ → Option ℕ) (test : ℤ → Bool) (first : ℤ) → IsNothingCounted counts → AreCounts counts sort_of test first 0
none_counted counts sort_of test first none k = none k ∙ sym (count_from-zero (λ d. sort_passes (λ j. k == j) (sort_of d) && test d) first)

pub nothing_tallied : (oc fc : List ℕ) (sort_of : ℤ → Option ℕ) (occupied : ℤ → Bool) (first : ℤ) → IsNothingCounted oc → IsNothingCounted fc
    → IsTallied oc fc sort_of occupied first 0
nothing_tallied oc fc sort_of occupied first a b = record {
  of_occupied = none_counted oc sort_of occupied first a;
  of_free = none_counted fc sort_of (λ d. not (occupied d)) first b;
  sorted = λ d l h o. absurd (omega (arith, ints, l, h));
}

more_counted : (old new : List ℕ) (sort_of : ℤ → Option ℕ) (test : ℤ → Bool) (first : ℤ) (n : ℕ) → AreCounts old sort_of test first n
    → IsCountedOn old new (sort_of (first +ℤ pos n)) (test (first +ℤ pos n)) → AreCounts new sort_of test first (suc n)
more_counted old new sort_of test first n are more k =
    omega (arith, more.1 k, are k, count_from-suc (λ d. sort_passes (λ j. k == j) (sort_of d) && test d) first n)

pub counted_is : (old new : List ℕ) (s s' : Option ℕ) (t t' : Bool) → s ≡ s' → t ≡ t' → IsCountedOn old new s t → IsCountedOn old new s' t'
counted_is old new s s' t t' e f h = subst (λ z. IsCountedOn old new z t') e (subst (λ z. IsCountedOn old new s z) f h)

pub tallied_more : (f : FamilyKind) (interval : ℕ) (start first day : ℤ) (occupied : ℤ → Bool) (oc fc oc' fc' : List ℕ) (k : ℕ) (r : Bool)
    → start ≡ first → day ≡ first +ℤ pos k
    → IsTallied oc fc (sort_of_day f interval first) occupied first k
    → IsCountedOn oc oc' (sort_of_day f interval start day) (occupied day) → IsCountedOn fc fc' (sort_of_day f interval start day) (not (occupied day))
    → IsDayResult r oc' fc' (sort_of_day f interval start day) (occupied day) → r ≡ true
    → IsTallied oc' fc' (sort_of_day f interval first) occupied first (k + 1)
tallied_more f interval start first day occupied oc fc oc' fc' k r same at so_far a b e t =
    let sort_of = sort_of_day f interval first in
    let s : k + 1 ≡ suc k = omega arith in
    let here : sort_of_day f interval start day ≡ sort_of (first +ℤ pos k) = ap (λ z. sort_of_day f interval z day) same ∙ ap sort_of at in
    let a' : IsCountedOn oc oc' (sort_of (first +ℤ pos k)) (occupied (first +ℤ pos k)) =
    subst (λ z. IsCountedOn oc oc' z (occupied (first +ℤ pos k))) here (subst (λ z. IsCountedOn oc oc' (sort_of_day f interval start day) (occupied
    z)) at a) in
    let b' : IsCountedOn fc fc' (sort_of (first +ℤ pos k)) (not (occupied (first +ℤ pos k))) =
    subst (λ z. IsCountedOn fc fc' z (not (occupied (first +ℤ pos k)))) here (subst (λ z. IsCountedOn fc fc' (sort_of_day f interval start day) (not
    (occupied z))) at b) in
    subst (λ n. IsTallied oc' fc' sort_of occupied first n) (sym s)
    record {
      of_occupied = more_counted oc oc' sort_of occupied first k so_far.of_occupied a';
      of_free = more_counted fc fc' sort_of (λ d. not (occupied d)) first k so_far.of_free b';
      sorted = λ d l h o. (
          let w = in_window first d (suc k) l h in
          elim (cases_eq w.0 k) [
            | inl last ↦ (
                let d_is : first +ℤ pos k ≡ d = ap (λ n. first +ℤ pos n) (sym last) ∙ w.2 in
                let o' : occupied day ≡ true = ap occupied (at ∙ d_is) ∙ o in
                let yes_sorted = subst (λ z. IsDayResult z oc' fc' (sort_of_day f interval start day) (occupied day)) t e o' in
                subst (λ z. has_some_sort (sort_of z) ≡ true) d_is (subst (λ z. has_some_sort z ≡ true) here yes_sorted))
            | inr other ↦ so_far.sorted d l (let x = w.2 in let m = w.1 in omega (arith, ints, x, m, other)) o
          ]);
    }

-- the counts of the days up to this one are not more than those of the window
within_window : (sort_of : ℤ → Option ℕ) (test : ℤ → Bool) (first : ℤ) (m n sort : ℕ) → m ≤ n → 1 ≤ days_of_sort sort_of test first m sort
    → 1 ≤ days_of_sort sort_of test first n sort
within_window sort_of test first m n sort l h = (let more =
    more_days (λ d. sort_passes (λ j. sort == j) (sort_of d) && test d) first m n l in omega (arith, more, h))

pub lost_there : (f : FamilyKind) (interval : ℕ) (start first day : ℤ) (occupied : ℤ → Bool) (oc fc oc' fc' : List ℕ) (k days : ℕ) (r : Bool)
    → start ≡ first → day ≡ first +ℤ pos k → k < days
    → IsTallied oc fc (sort_of_day f interval first) occupied first k
    → IsCountedOn oc oc' (sort_of_day f interval start day) (occupied day) → IsCountedOn fc fc' (sort_of_day f interval start day) (not (occupied day))
    → IsDayResult r oc' fc' (sort_of_day f interval start day) (occupied day) → r ≡ false
    → HasUnsorted (sort_of_day f interval first) occupied first days ⊎ HasMixed (sort_of_day f interval first) occupied first days
lost_there f interval start first day occupied oc fc oc' fc' k days r same at l so_far a b e none =
    let sort_of = sort_of_day f interval first in
    let here : sort_of_day f interval start day ≡ sort_of (first +ℤ pos k) = ap (λ z. sort_of_day f interval z day) same ∙ ap sort_of at in
    let a' : IsCountedOn oc oc' (sort_of (first +ℤ pos k)) (occupied (first +ℤ pos k)) = counted_is oc oc' _ _ _ _ here (ap occupied at) a in
    let b' : IsCountedOn fc fc' (sort_of (first +ℤ pos k)) (not (occupied (first +ℤ pos k))) =
    counted_is fc fc' _ _ _ _ here (ap (λ z. not (occupied z)) at) b in
    elim (subst (λ z. IsDayResult z oc' fc' (sort_of_day f interval start day) (occupied day)) none e) [
      | inl u ↦ inl record {
        day = day;
        not_before = omega (arith, ints, at);
        within = omega (arith, ints, at, l);
        occupied_day = u.0;
        no_sort = ap (λ z. has_some_sort (sort_of_day f interval z day)) (sym same) ∙ u.1;
      }
      | inr m ↦ inr record {
        sort = m.0;
        some_occupied = within_window sort_of occupied first (suc k) days m.0 l (let c =
            more_counted oc oc' sort_of occupied first k so_far.of_occupied a' m.0 in omega (arith, c, m.1));
        some_free = within_window sort_of (λ d. not (occupied d)) first (suc k) days m.0 l (let c =
            more_counted fc fc' sort_of (λ d. not (occupied d)) first k so_far.of_free b' m.0 in omega (arith, c, m.2));
      }
    ]

-- what a mixed sort, or none, says of a day with this sort
pub sorted_result : (m : Bool) (oc fc : List ℕ) (s : Option ℕ) (sort : ℕ) (o : Bool) → s ≡ Some sort
    → m ≡ (nat_lt 0 (get_or oc sort 0) && nat_lt 0 (get_or fc sort 0)) → IsDayResult (not m) oc fc s o
sorted_result false oc fc s sort o is e = λ t. ap has_some_sort is
sorted_result true oc fc s sort o is e =
    let a = nat_lt 0 (get_or oc sort 0) in
    let b = nat_lt 0 (get_or fc sort 0) in
    inr (sort, above (get_or oc sort 0) (left a b (sym e)), above (get_or fc sort 0) (right a b (sym e)))
  where
    left : (a b : Bool) → (a && b) ≡ true → a ≡ true
    left true b h = refl
    left false b h = absurd (false≢true h)

    right : (a b : Bool) → (a && b) ≡ true → b ≡ true
    right true b h = h
    right false b h = absurd (false≢true h)

    above : (n : ℕ) → nat_lt 0 n ≡ true → 1 ≤ n
    above n h = grind (arith, nat_tests)
