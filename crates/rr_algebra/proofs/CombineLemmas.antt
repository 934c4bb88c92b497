-- Sets of seconds that are made of two, and their numbers.
use Rattle.std.proofs.Common.{◌≡◌, ◌≢◌, ◌⊎◌, ℕ, ◌+◌, ◌≤◌, List, [], ◌∷◌, ◌++◌, Contains, get_or, length, length-append, nat_lt, ℤ, pos, ◌+ℤ◌, inl, inr, refl, sym, ap, subst, ◌∙◌, arith}
use Rattle.std.proofs.lemmas.Bool.{cases_lt}
use Rattle.std.proofs.lemmas.List.{get_or_default, get_or_append_left, get_or-append-add}
use Rattle.std.proofs.lemmas.List.Elements.{All-push}
use Rattle.std.proofs.lemmas.List.Sums.{sum_by-cons}
use Rattle.std.proofs.lemmas.Option.{get_or_from_slice_get}
use Rattle.rr_model.specs.Rising.{Rises}
use Rattle.rr_model.specs.Rising.Sets.{IsSecondsOfDay}
use Rattle.rr_model.proofs.RisingSetLemmas.{Contains-head, Contains-none}
use Rattle.rr_model.proofs.SecondsLemmas.{below_from_test}
use Rattle.rr_model.specs.Sets.Sizes.{total_size}
use Rattle.rr_model.specs.Sets.Sketch.{IsTimeSet, times_on}
use Rattle.rr_model.specs.declared.limits.TheConstants.{MAX_SECONDS}
use Rattle.rr_model.specs.declared.sketch.Sketch.{Sketch}
use Rattle.rr_model.specs.declared.kind.Kind.{Kind}
use Rattle.rr_model.specs.declared.kind.Kind.TheVariants.{Days, Moments}
use Rattle.rr_shapes.specs.Placing.{IsPlaced}
use Rattle.rr_shapes.specs.Tables.{Extends}
use Rattle.rr_days.proofs.PlacedLemmas.{grown, placed_grown}
use Rattle.rr_days.proofs.MadeSetLemmas.{number_kept}
use Rattle.rr_shapes.proofs.TableLemmas.{same_set}
use Rattle.rr_days.specs.MadeSets.{IsMadeOf, IsNumberOf}
use Rattle.rr_algebra.specs.Combining.{AreDayNumbers, AreDaySets, AreMadeOnDays, IsDaySet, IsMadeOnDay}
use Rattle.rr_days.specs.declared.op.Op.{Op}
use Rattle.rr_days.specs.declared.op.Op.TheVariants.{Common, Minus, Union}

-- ---- what is made of two sets of days is one

made_within : (op : Op) (xs ys both : List ℕ) (s : ℕ) → IsMadeOf op xs ys both → Contains both s → Contains xs s ⊎ Contains ys s
made_within Union xs ys both s h c = (h.exact s).0 c
made_within Common xs ys both s h c = inl (((h.exact s).0 c).0)
made_within Minus xs ys both s h c = inl (((h.exact s).0 c).0)

-- of dates there is 0 alone
midnight_alone : (xs : List ℕ) (s : ℕ) → IsDaySet Days xs → Contains xs s → s ≡ 0
midnight_alone xs s (inl none) c = absurd (Contains-none s (subst (λ l. Contains l s) none c))
midnight_alone xs s (inr is) c = of_one s (subst (λ l. Contains l s) is c)
  where
    of_one : (s : ℕ) → Contains (0 ∷ []) s → s ≡ 0
    of_one s (k, l, e) = let first : k ≡ 0 = omega (arith, l) in sym e ∙ ap (λ n. get_or (0 ∷ []) n s) first

zeros_are_one : (both : List ℕ) → Rises nat_lt both → ((s : ℕ) → Contains both s → s ≡ 0) → both ≢ [] → both ≡ 0 ∷ []
zeros_are_one [] r all some = absurd (some refl)
zeros_are_one (x ∷ []) r all some = let e = all x (Contains-head x []) in ap (λ n. n ∷ []) e
zeros_are_one (x ∷ y ∷ ys) r all some =
    let a = all x (Contains-head x (y ∷ ys)) in
    let b = all y (1, omega arith, refl) in
    let l = below_from_test x y r.0 in
    absurd (omega (arith, a, b, l))

pub made_time_set : (kind : Kind) (op : Op) (xs ys both : List ℕ) → IsDaySet kind xs → IsDaySet kind ys → IsMadeOf op xs ys both → IsSecondsOfDay both
    → both ≢ [] → IsTimeSet kind both
made_time_set Days op xs ys both hx hy made day some =
    zeros_are_one both day.rises (λ s c. elim (made_within op xs ys both s made c) [
      | inl l ↦ midnight_alone xs s hx l
      | inr l ↦ midnight_alone ys s hy l
    ]) some
made_time_set Moments op xs ys both hx hy made day some = (some, day.rises, day.below_a_day)

-- a placed set is one of a day, if it is made of those
pub sets_placed : (kind : Kind) (times : List ℕ) (old new : List (List ℕ)) (number : ℕ) → IsPlaced times old new number → (times ≢ [] → IsTimeSet kind times)
    → AreDaySets kind old → AreDaySets kind new
sets_placed kind times old new number placed set are =
    let grown = placed_grown times old new number placed in record {
      some = (let k = same_set old new 0 grown.kept are.some in omega (arith, k.0));
      empty = (let k = same_set old new 0 grown.kept are.some in k.1 ∙ are.empty);
      all = λ k d l. elim (grown.added k l) [
        | inl was ↦ (
            let same = same_set old new k grown.kept was in
            subst (λ t. t ≢ [] → IsTimeSet kind t) (sym (get_or_default new k d [] l ∙ same.1)) (are.all k [] was))
        | inr new_one ↦ (
            let here : get_or new k d ≡ times = ap (λ n. get_or new n d) new_one ∙ get_or_from_slice_get new number times d placed.stands in
            subst (λ t. t ≢ [] → IsTimeSet kind t) (sym here) set)
      ];
    }

-- each set is made on a day, if the placed one is
pub made_placed : (op : Op) (s u : Sketch) (day : ℤ) (times : List ℕ) (old new : List (List ℕ)) (number : ℕ) → IsPlaced times old new number
    → IsMadeOf op (times_on s day) (times_on u day) times → AreMadeOnDays op s u old → AreMadeOnDays op s u new
made_placed op s u day times old new number placed made are = elim (grown times old new number placed) [
  | inl e ↦ subst (AreMadeOnDays op s u) (sym e) are
  | inr e ↦ subst (AreMadeOnDays op s u) (sym e) (All-push (λ t. t ≢ [] → IsMadeOnDay op s u t) old times are (λ some. record { day = day; made = made }))
]

-- ---- day after day

pub one_more_number : (op : Op) (s u : Sketch) (begin day : ℤ) (old new : List (List ℕ)) (numbers numbers' : List ℕ) (number k : ℕ)
    → length numbers ≡ k → Extends old new → numbers' ≡ numbers ++ number ∷ [] → day ≡ begin +ℤ pos k
    → IsNumberOf op (times_on s day) (times_on u day) new number → AreDayNumbers op s u begin old numbers → AreDayNumbers op s u begin new numbers'
one_more_number op s u begin day old new numbers numbers' number k whole more e at is are j l =
    let long : length numbers' ≡ k + 1 = omega (arith, ap length e, length-append numbers (number ∷ []), whole) in
    elim (cases_lt j k) [
      | inl m ↦ (
          let same : get_or numbers' j 0 ≡ get_or numbers j 0 = ap (λ ns. get_or ns j 0) e ∙ get_or_append_left numbers (number ∷ []) 0 j (omega (arith, m, whole)) in
          subst (IsNumberOf op (times_on s (begin +ℤ pos j)) (times_on u (begin +ℤ pos j)) new) (sym same)
          (number_kept old new more op _ _ _ (are j (omega (arith, m, whole)))))
      | inr g ↦ (
          let last : j ≡ k = omega (arith, g, l, long) in
          let z : length numbers + 0 ≡ k = omega (arith, whole) in
          let here : get_or numbers' j 0 ≡ number =
          ap (λ n. get_or numbers' n 0) last ∙ ap (λ ns. get_or ns k 0) e ∙ ap (λ n. get_or (numbers ++ number ∷ []) n 0) (sym z)
          ∙ get_or-append-add numbers (number ∷ []) 0 0 in
          let of_day : day ≡ begin +ℤ pos j = at ∙ ap (λ n. begin +ℤ pos n) (sym last) in
          subst (IsNumberOf op (times_on s (begin +ℤ pos j)) (times_on u (begin +ℤ pos j)) new) (sym here)
          (subst (λ d. IsNumberOf op (times_on s d) (times_on u d) new number) of_day is))
    ]

pub empty_day_sets : (kind : Kind) (sets : List (List ℕ)) → sets ≡ [] ∷ [] → AreDaySets kind sets
empty_day_sets kind sets e =
    subst (AreDaySets kind) (sym e) (record {
      some = omega arith;
      empty = refl;
      all = λ k d l some. absurd (some (let z : k ≡ 0 = omega (arith, l) in ap (λ n. get_or ([] ∷ []) n d) z));
    })

pub empty_made : (op : Op) (s u : Sketch) (sets : List (List ℕ)) → sets ≡ [] ∷ [] → AreMadeOnDays op s u sets
empty_made op s u sets e =
    subst (AreMadeOnDays op s u) (sym e)
    (λ k d l some. absurd (some (let z : k ≡ 0 = omega (arith, l) in ap (λ n. get_or ([] ∷ []) n d) z)))

pub empty_room : (sets : List (List ℕ)) → sets ≡ [] ∷ [] → total_size sets ≤ MAX_SECONDS
empty_room sets e = subst (λ l. total_size l ≤ MAX_SECONDS) (sym e) (let none : List (List ℕ) = [] in omega (arith, sum_by-cons length [] none))

pub no_numbers : (op : Op) (s u : Sketch) (begin : ℤ) (sets : List (List ℕ)) (numbers : List ℕ) → numbers ≡ [] → AreDayNumbers op s u begin sets numbers
no_numbers op s u begin sets numbers e = subst (AreDayNumbers op s u begin sets) (sym e) (λ k l. absurd (omega (arith, l)))
