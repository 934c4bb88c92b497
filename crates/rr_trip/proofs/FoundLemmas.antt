-- Which keys are found again under another key.
use Rattle.std.proofs.Common.{◌≡◌, ℕ, ◌+◌, ◌<◌, ◌≤◌, List, [], ◌∷◌, ◌++◌, length, get_or, set, drop, Option, refl, ap, sym, subst, ◌∙◌, append_assoc, append-nil, arith}
use Rattle.std.specs.Prelude.{All}
use Rattle.std.proofs.lemmas.List.{drop_all, drop_more, length-set}
use Rattle.std.proofs.lemmas.List.Elements.{All-head, All-same, All-set, All-tail, All-weaker}
use Rattle.rr_groups.specs.Pairs.{ArePairs, IsPair, PairsAreWithin}
use Rattle.rr_groups.specs.declared.group.Group.{Group}
use Rattle.rr_groups.specs.declared.pairs.IndexPair.{IndexPair}
use Rattle.rr_model.specs.declared.verdict.Side.{Side}
use Rattle.rr_model.specs.declared.verdict.Side.TheVariants.{A, B}
use Rattle.rr_trip.specs.Found.{AreFoundBy, AreSound, IsFoundBy, IsWithin, found_at, likenesses, with_pairs_a, with_pairs_b}
use Rattle.rr_trip.specs.Likeness.{is_only, keys_by}
use Rattle.rr_trip.specs.declared.features.Features.{Features}
use Rattle.rr_trip.specs.declared.found.Found.{Found}
use Rattle.rr_trip.specs.declared.found.FoundAgain.{FoundAgain}
use Rattle.rr_trip.specs.declared.likeness.Likeness.{Likeness}
use Rattle.rr_trip.specs.declared.likeness.Likeness.TheVariants.{Moments, Times, Start, OtherTitle}

-- ---- what groups are found again by

-- what the groups before this place are found again by: with what those from there on are, it is what all are
pub record AreUpTo (Are : List Group → List (Option Features) → Type 0) (groups : List Group) (features : List (Option Features)) (place : ℕ) : Type 0 where
  pub joins : (more : List (Option Features)) → Are (drop place groups) more → Are groups (features ++ more)

pub AreUpTo-start : (Are : List Group → List (Option Features) → Type 0) (groups : List Group) (features : List (Option Features)) → features ≡ []
    → AreUpTo Are groups features 0
AreUpTo-start Are groups features none = record { joins = λ more are. subst (λ fs. Are groups (fs ++ more)) (sym none) are }

pub AreUpTo-next : (Is : Group → Option Features → Type 0) (Are : List Group → List (Option Features) → Type 0)
    → ((g : Group) (gs : List Group) (f : Option Features) (fs : List (Option Features)) → Is g f → Are gs fs → Are (g ∷ gs) (f ∷ fs))
    → (groups : List Group) (features next : List (Option Features)) (place : ℕ) (g : Group) (f : Option Features) → place < length groups
    → g ≡ get_or groups place g → Is g f → next ≡ features ++ f ∷ [] → AreUpTo Are groups features place → AreUpTo Are groups next (place + 1)
AreUpTo-next Is Are one_more groups features next place g f below at is put so_far =
    let there : drop place groups ≡ g ∷ drop (place + 1) groups =
    drop_more groups place g below ∙ ap (λ (x : Group). x ∷ drop (place + 1) groups) (sym at) in record {
      joins = λ more are. subst (Are groups) (sym (ap (λ fs. fs ++ more) put ∙ append_assoc features (f ∷ []) more))
          (so_far.joins (f ∷ more) (subst (λ gs. Are gs (f ∷ more)) (sym there) (one_more g (drop (place + 1) groups) f more is are)));
    }

pub AreUpTo-end : (Are : List Group → List (Option Features) → Type 0) (groups : List Group) (features : List (Option Features)) (place : ℕ) → Are [] []
    → length groups ≤ place → AreUpTo Are groups features place → Are groups features
AreUpTo-end Are groups features place none all so_far =
    subst (Are groups) (append-nil features) (so_far.joins [] (subst (λ gs. Are gs []) (sym (drop_all place groups all)) none))

-- ---- pairs

module _ (likeness : Likeness) where
  as_many_with_a : (pairs : List IndexPair) (found : List (Option Found)) → length (with_pairs_a likeness pairs found) ≡ length found
  as_many_with_a [] found = refl
  as_many_with_a (p ∷ ps) found =
      as_many_with_a ps (set found p.a (found_at likeness p.b)) ∙ length-set found p.a (found_at likeness p.b)

  as_many_with_b : (pairs : List IndexPair) (found : List (Option Found)) → length (with_pairs_b likeness pairs found) ≡ length found
  as_many_with_b [] found = refl
  as_many_with_b (p ∷ ps) found =
      as_many_with_b ps (set found p.b (found_at likeness p.a)) ∙ length-set found p.b (found_at likeness p.a)

  within_with_a : (count : ℕ) (pairs : List IndexPair) (found : List (Option Found)) → All (λ (p : IndexPair). p.b < count) pairs
      → All (IsWithin count) found → All (IsWithin count) (with_pairs_a likeness pairs found)
  within_with_a count [] found pairs_in all = all
  within_with_a count (p ∷ ps) found pairs_in all =
      within_with_a count ps (set found p.a (found_at likeness p.b)) (All-tail (λ (q : IndexPair). q.b < count) p ps pairs_in)
      (All-set (IsWithin count) found p.a (found_at likeness p.b) (All-head (λ (q : IndexPair). q.b < count) p ps pairs_in) all)

  within_with_b : (count : ℕ) (pairs : List IndexPair) (found : List (Option Found)) → All (λ (p : IndexPair). p.a < count) pairs
      → All (IsWithin count) found → All (IsWithin count) (with_pairs_b likeness pairs found)
  within_with_b count [] found pairs_in all = all
  within_with_b count (p ∷ ps) found pairs_in all =
      within_with_b count ps (set found p.b (found_at likeness p.a)) (All-tail (λ (q : IndexPair). q.a < count) p ps pairs_in)
      (All-set (IsWithin count) found p.b (found_at likeness p.a) (All-head (λ (q : IndexPair). q.a < count) p ps pairs_in) all)

-- there are no more keys than elements that may be found again
few_keys : (likeness : Likeness) (side : Side) (n : ℕ) (features : List (Option Features)) (found : List (Option Found))
    → length (keys_by likeness side n features found) ≤ length found
few_keys likeness side n [] found = omega arith
few_keys likeness side n (f ∷ fs) [] = omega arith
few_keys likeness side n (f ∷ fs) (p ∷ ps) = omega (arith, few_keys likeness side (n + 1) fs ps)

-- the indexes of the pairs of one likeness are those of elements
pub pairs_in_both : PairsAreWithin → (likeness : Likeness) (a b : List (Option Features)) (found_a found_b : List (Option Found)) (pairs : List IndexPair)
    → ArePairs (is_only likeness) (keys_by likeness A 0 a found_a) (keys_by likeness B 0 b found_b) pairs
    → All (λ (p : IndexPair). p.a < length found_a) pairs × All (λ (p : IndexPair). p.b < length found_b) pairs
pairs_in_both law likeness a b found_a found_b pairs are =
    let keys_a = keys_by likeness A 0 a found_a in
    let keys_b = keys_by likeness B 0 b found_b in
    let Is = IsPair (is_only likeness) keys_a keys_b in (
      All-weaker Is (λ (p : IndexPair). p.a < length found_a)
          (λ p is. omega (arith, (law (is_only likeness) keys_a keys_b p is).0, few_keys likeness A 0 a found_a)) pairs are.sound,
      All-weaker Is (λ (p : IndexPair). p.b < length found_b)
          (λ p is. omega (arith, (law (is_only likeness) keys_a keys_b p is).1, few_keys likeness B 0 b found_b)) pairs are.sound,
    )

-- what one likeness finds again are groups
pub sound_next : PairsAreWithin → (count : ℕ) (a b : List (Option Features)) (likeness : Likeness) (found next : FoundAgain) → AreSound count found
    → IsFoundBy a b likeness found next → AreSound count next
sound_next law count a b likeness found next sound by =
    let pairs_in = pairs_in_both law likeness a b found.a.items found.b.items by.pairs by.are_pairs in
    let in_a = subst (λ n. All (λ (p : IndexPair). p.a < n) by.pairs) sound.as_many_a pairs_in.0 in
    let in_b = subst (λ n. All (λ (p : IndexPair). p.b < n) by.pairs) sound.as_many_b pairs_in.1 in record {
      as_many_a = ap length by.next_a ∙ as_many_with_a likeness by.pairs found.a.items ∙ sound.as_many_a;
      as_many_b = ap length by.next_b ∙ as_many_with_b likeness by.pairs found.b.items ∙ sound.as_many_b;
      within_a = All-same (IsWithin count) next.a.items (with_pairs_a likeness by.pairs found.a.items) by.next_a
          (within_with_a likeness count by.pairs found.a.items in_b sound.within_a);
      within_b = All-same (IsWithin count) next.b.items (with_pairs_b likeness by.pairs found.b.items) by.next_b
          (within_with_b likeness count by.pairs found.b.items in_a sound.within_b);
    }

-- all likenesses, one after another
pub found_by_all : (a b : List (Option Features)) (none by_moments by_times by_start last : FoundAgain) → IsFoundBy a b Moments none by_moments
    → IsFoundBy a b Times by_moments by_times → IsFoundBy a b Start by_times by_start → IsFoundBy a b OtherTitle by_start last
    → AreFoundBy a b likenesses none last
found_by_all a b none by_moments by_times by_start last moments times start other_title =
    AreFoundBy.next Moments (Times ∷ Start ∷ OtherTitle ∷ []) none by_moments last moments
    (AreFoundBy.next Times (Start ∷ OtherTitle ∷ []) by_moments by_times last times
    (AreFoundBy.next Start (OtherTitle ∷ []) by_times by_start last start
    (AreFoundBy.next OtherTitle [] by_start last last other_title (AreFoundBy.none last))))
