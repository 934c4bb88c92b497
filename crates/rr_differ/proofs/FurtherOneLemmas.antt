-- There is one answer to what comes after the first difference.
use Rattle.std.proofs.Common.{◌≡◌, inl, inr, ℕ, ◌+◌, ◌≤◌, ℤ, pos, ◌≤ℤ◌, ◌<ℤ◌, ◌+ℤ◌, List, [], ◌∷◌, ◌++◌, length, All, Contains, refl, sym, ap, subst, ◌∙◌, arith}
use Rattle.std.proofs.Common.{length-append}
use Rattle.std.proofs.lemmas.Int.{ints, by_lt_z}
use Rattle.std.proofs.lemmas.List.Elements.{All-contains, All-head, Contains-push}
use Rattle.std.specs.Prelude.{IsTrue}
use Rattle.rr_model.specs.Moment.{Occurrences, day_part}
use Rattle.rr_model.proofs.RisingSetLemmas.{Contains-cons_cases, Contains-head, Contains-none, Contains-tail, same_members}
use Rattle.rr_differ.specs.Differences.{AreInOrder, IsDifference}
use Rattle.rr_differ.specs.Further.{AreAllDifferences, AreMany, AreUntil, End, FurtherIsOne, IsFurther, IsOneAtMost, NeverEnd}
use Rattle.rr_differ.specs.declared.difference.Difference.{Difference}
use Rattle.rr_differ.specs.declared.further.Further.{Further}
use Rattle.rr_differ.specs.declared.further.Further.TheVariants.{NoMore, Until, Many, ForEver}
use Rattle.rr_differ.proofs.OrderLemmas.{earlier_follows, earlier_of, earlier_strict, head_before, is_earlier, not_longer, order_rises}

-- the last value of a list
last_same : (xs ys : List Difference) (d e : Difference) → xs ++ d ∷ [] ≡ ys ++ e ∷ [] → d ≡ e
last_same [] [] d e h = cc
last_same [] (y ∷ []) d e h = absurd (cc)
last_same [] (y ∷ z ∷ ys) d e h = absurd (cc)
last_same (x ∷ []) [] d e h = absurd (cc)
last_same (x ∷ z ∷ xs) [] d e h = absurd (cc)
last_same (x ∷ xs) (y ∷ ys) d e h = last_same xs ys d e (cc)

-- a day after all of a list
day_after_all : (ds : List Difference) → (day : ℤ) × ((d : Difference) → Contains ds d → day_part d.kind d.at <ℤ day)
day_after_all [] = (pos 0, λ d c. absurd (Contains-none d c))
day_after_all (x ∷ xs) =
    let rest = day_after_all xs in
    by_lt_z {P = (day : ℤ) × ((d : Difference) → Contains (x ∷ xs) d → day_part d.kind d.at <ℤ day)} (day_part x.kind x.at) rest.0
    (λ l. (
      rest.0,
      λ d c. elim (Contains-cons_cases x xs d c) [
        | inl is ↦ subst (λ (e : Difference). day_part e.kind e.at <ℤ rest.0) is l
        | inr more ↦ rest.1 d more
      ],
    ))
    (λ g. (
      day_part x.kind x.at +ℤ pos 1,
      λ d c. elim (Contains-cons_cases x xs d c) [
        | inl is ↦ subst (λ (e : Difference). day_part e.kind e.at <ℤ (day_part x.kind x.at +ℤ pos 1)) is (omega (arith, ints))
        | inr more ↦ (let a = rest.1 d more in omega (arith, ints, a, g))
      ],
    ))

module _ (P Q : Occurrences) where
  -- the head of a list in order is not one of the rest
  two : (d e : Difference) (ds : List Difference) → AreInOrder (d ∷ ds) → Contains ds e → IsDifference P Q d → IsDifference P Q e → IsOneAtMost P Q → ⊥
  two d e ds order c hd he one =
      let before = earlier_of d e (head_before d ds order e c) in
      earlier_strict e (subst (λ x. IsTrue (is_earlier x e)) (one d e hd he) before)

  none_and_until : (count : ℕ) (last : Difference) → IsOneAtMost P Q → AreUntil P Q count last → ⊥
  none_and_until count last one h =
      let all = h.between ++ last ∷ [] in
      let c = Contains-push h.between last in
      two h.first last all h.all.in_order c (All-head (IsDifference P Q) h.first all h.all.differ)
      (All-contains (IsDifference P Q) (h.first ∷ all) last h.all.differ (Contains-tail h.first all last c)) one

  none_and_some : (ds : List Difference) → AreInOrder ds → All (IsDifference P Q) ds → length ds ≡ 10_001 → IsOneAtMost P Q → ⊥
  none_and_some [] order differ many one = absurd (omega (arith, many))
  none_and_some (d ∷ []) order differ many one = absurd (omega (arith, many))
  none_and_some (d ∷ e ∷ es) order differ many one =
      let c = Contains-head e es in
      two d e (e ∷ es) order c (All-head (IsDifference P Q) d (e ∷ es) differ)
      (All-contains (IsDifference P Q) (d ∷ e ∷ es) e differ (Contains-tail d (e ∷ es) e c)) one

  none_and_ever : IsOneAtMost P Q → NeverEnd P Q → ⊥
  none_and_ever one ever =
      let d = ever (pos 0) in
      let e = ever (day_part d.0.kind d.0.at) in
      let late : day_part d.0.kind d.0.at <ℤ day_part d.0.kind d.0.at =
      subst (λ (x : Difference). day_part d.0.kind d.0.at <ℤ day_part x.kind x.at) (sym (one d.0 e.0 d.2 e.2)) e.1 in
      omega (arith, ints, late)

  all_once : (ds es : List Difference) → AreAllDifferences P Q ds → AreAllDifferences P Q es → ds ≡ es
  all_once ds es a b =
      same_members is_earlier earlier_strict earlier_follows ds es (order_rises ds a.in_order) (order_rises es b.in_order)
      (λ d c. b.each d (All-contains (IsDifference P Q) ds d a.differ c)) (λ d c. a.each d (All-contains (IsDifference P Q) es d b.differ c))

  until_once : (count other : ℕ) (last end : Difference) → AreUntil P Q count last → AreUntil P Q other end → Until count last ≡ Until other end
  until_once count other last end a b =
      let same = all_once (a.first ∷ a.between ++ last ∷ []) (b.first ∷ b.between ++ end ∷ []) a.all b.all in
      let rest : a.between ++ last ∷ [] ≡ b.between ++ end ∷ [] = cc in
      let counts : count ≡ other = a.counted ∙ ap (λ (ds : List Difference). length ds) rest ∙ sym b.counted in
      let ends : last ≡ end = last_same a.between b.between last end rest in
      cc

  until_and_many : (count : ℕ) (last : Difference) → AreUntil P Q count last → AreMany P Q → ⊥
  until_and_many count last a b =
      let all = a.first ∷ a.between ++ last ∷ [] in
      let l = not_longer b.some all (order_rises b.some b.in_order) (order_rises all a.all.in_order)
      (λ d c. a.all.each d (All-contains (IsDifference P Q) b.some d b.differ c)) in
      omega (arith, l, b.many, a.counted, a.few)

  ends_and_ever : End P Q → NeverEnd P Q → ⊥
  ends_and_ever end ever =
      let d = ever end.0 in
      let a = end.1 d.0 d.2 in
      let b = d.1 in
      omega (arith, ints, a, b)

  until_and_ever : (count : ℕ) (last : Difference) → AreUntil P Q count last → NeverEnd P Q → ⊥
  until_and_ever count last a ever =
      let after = day_after_all (a.first ∷ a.between ++ last ∷ []) in
      ends_and_ever (after.0, λ d h. after.1 d (a.all.each d h)) ever

  further_once : (one other : Further) → IsFurther P Q one → IsFurther P Q other → one ≡ other
  further_once NoMore NoMore a b = refl
  further_once NoMore (Until count last) a b = absurd (none_and_until count last a b)
  further_once NoMore Many a b = absurd (none_and_some b.some b.in_order b.differ b.many a)
  further_once NoMore ForEver a b = absurd (none_and_ever a b)
  further_once (Until count last) NoMore a b = absurd (none_and_until count last b a)
  further_once (Until count last) (Until other end) a b = until_once count other last end a b
  further_once (Until count last) Many a b = absurd (until_and_many count last a b)
  further_once (Until count last) ForEver a b = absurd (until_and_ever count last a b)
  further_once Many NoMore a b = absurd (none_and_some a.some a.in_order a.differ a.many b)
  further_once Many (Until other end) a b = absurd (until_and_many other end b a)
  further_once Many Many a b = refl
  further_once Many ForEver a b = absurd (ends_and_ever a.ends b)
  further_once ForEver NoMore a b = absurd (none_and_ever b a)
  further_once ForEver (Until other end) a b = absurd (until_and_ever other end b a)
  further_once ForEver Many a b = absurd (ends_and_ever b.ends a)
  further_once ForEver ForEver a b = refl

pub further_is_one : FurtherIsOne
further_is_one P Q one other a b = further_once P Q one other a b
