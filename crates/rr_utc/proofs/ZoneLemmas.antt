-- Two series whose zones are apart by a constant.
use Rattle.std.proofs.Common.{w32, w64, to_z, of_z, FitsSigned, ◌≡◌, inl, inr, ℕ, List, [], Contains, ℤ, pos, neg_ℤ, ◌+ℤ◌, ◌-ℤ◌, ◌*ℤ◌, ◌≤ℤ◌, ◌<ℤ◌, refl, subst, arith}
use Rattle.std.specs.Prelude.{IsTrue, int_lt}
use Rattle.std.proofs.lemmas.Int.{by_lt_z, ints, to_z-of_z}
use Rattle.rr_model.specs.Moment.{Occurrences, day_part, second_part}
use Rattle.rr_model.specs.Sets.Sketch.{IsNearDay, StandsIn, times_on}
use Rattle.rr_model.specs.Sets.Verdict.{HaveEqualOccurrences}
use Rattle.rr_model.specs.declared.kind.Kind.{Kind}
use Rattle.rr_model.specs.declared.kind.Kind.TheVariants.{Moments}
use Rattle.rr_model.specs.declared.sketch.Sketch.{Sketch}
use Rattle.rr_model.proofs.DaysAndTimesLemmas.{moment_is, second_part-below}
use Rattle.rr_model.proofs.RisingSetLemmas.{Contains-none}
use Rattle.rr_true.specs.Apart.{AreApart}
use Rattle.rr_true.specs.declared.parted.Apart.{Apart}
use Rattle.rr_true.specs.Changes.{IsBelowDay}
use Rattle.rr_true.specs.Moments.{IsOffset, IsTrueMoment}
use Rattle.rr_true.specs.Occurrences.{HasNoMomentBefore, TrueOf}
use Rattle.rr_utc.specs.Walks.{HasNoDayBefore}
use Rattle.rr_utc.specs.Zones.{AreApartFor}

-- ---- a local time in zones that are apart

-- a moment with a local time, a day after q, does not lie before q
late : (offset : ℤ → ℤ) (q t v : ℤ) → IsOffset offset → (q +ℤ pos 86_400) ≤ℤ t → t ≤ℤ (v +ℤ offset v) → q <ℤ v
late offset q t v h l m = let high : offset v <ℤ pos 86_400 = (h v).1 in omega (arith, ints, l, m, high)

apart_names : (f g : ℤ → ℤ) (by q t u : ℤ) → IsOffset f → IsOffset g → ((v : ℤ) → q ≤ℤ v → f v ≡ g v +ℤ by) → (q +ℤ pos 86_400) ≤ℤ t
    → (q +ℤ pos 86_400) ≤ℤ (t -ℤ by) → IsTrueMoment f t u → IsTrueMoment g (t -ℤ by) u
apart_names f g by q t u hf hg apart l m (inl a) =
    let e : (u +ℤ f u) ≡ t = a.has in
    let lu : q <ℤ u = late f q t u hf l (omega (arith, ints, e)) in
    let same : f u ≡ g u +ℤ by = apart u (omega (arith, ints, lu)) in
    inl (record {
      has = omega (arith, ints, e, same);
      first = λ v n h.
          let d : (v +ℤ g v) ≡ t -ℤ by = h in
          let lv : q <ℤ v = late g q (t -ℤ by) v hg m (omega (arith, ints, d)) in
          let i : f v ≡ g v +ℤ by = apart v (omega (arith, ints, lv)) in
          a.first v n (omega (arith, ints, d, i));
    })
apart_names f g by q t u hf hg apart l m (inr a) =
    let past : t <ℤ (a.gap +ℤ f a.gap) = a.past in
    let lg : q <ℤ a.gap = late f q t a.gap hf l (omega (arith, ints, past)) in
    let same : f a.gap ≡ g a.gap +ℤ by = apart a.gap (omega (arith, ints, lg)) in
    let before : f (a.gap -ℤ pos 1) ≡ g (a.gap -ℤ pos 1) +ℤ by = apart (a.gap -ℤ pos 1) (omega (arith, ints, lg)) in
    let e : u ≡ t -ℤ f (a.gap -ℤ pos 1) = a.read in
    inr (record {
      none = λ v h.
          let d : (v +ℤ g v) ≡ t -ℤ by = h in
          let lv : q <ℤ v = late g q (t -ℤ by) v hg m (omega (arith, ints, d)) in
          let i : f v ≡ g v +ℤ by = apart v (omega (arith, ints, lv)) in
          a.none v (omega (arith, ints, d, i));
      gap = a.gap;
      past = omega (arith, ints, past, same);
      not_before = λ v n. by_lt_z {P = (v +ℤ g v) <ℤ (t -ℤ by)} v q
          (λ o. let high : g v <ℤ pos 86_400 = (hg v).1 in omega (arith, ints, o, high, m))
          (λ o. let i : f v ≡ g v +ℤ by = apart v o in let d : (v +ℤ f v) <ℤ t = a.not_before v n in omega (arith, ints, i, d));
      read = omega (arith, ints, e, before);
    })

-- the other way round
turned : (f g : ℤ → ℤ) (P Q : Occurrences) (by : ℤ) → AreApartFor f g P Q by → AreApartFor g f Q P (neg_ℤ by)
turned f g P Q by h = record {
  from = h.from;
  apart = λ u l. let e : f u ≡ g u +ℤ by = h.apart u l in omega (arith, ints, e);
  first = h.second;
  second = h.first;
}

-- if each local time of one set, less the constant, is one of the other, true moments are true moments
module _ (f g : ℤ → ℤ) (P Q : Occurrences) (by : ℤ) (hf : IsOffset f) (hg : IsOffset g) (h : AreApartFor f g P Q by) where
  moves : (v : ℤ) (r : TrueOf f P Moments v) → Q Moments (r.local -ℤ by) → TrueOf g Q Moments v
  moves v r there = record {
    kind = refl;
    local = r.local -ℤ by;
    stands = there;
    moment = apart_names f g by h.from r.local v hf hg h.apart (h.first r.local r.stands) (h.second (r.local -ℤ by) there) r.moment;
  }

-- what holds of true moments holds of them under their kind
of_kind : (f g : ℤ → ℤ) (P Q : Occurrences) → ((v : ℤ) → TrueOf f P Moments v → TrueOf g Q Moments v) → (k : Kind) (v : ℤ) → TrueOf f P k v → TrueOf g Q k v
of_kind f g P Q h k v r =
    let e : k ≡ Moments = r.kind in
    let m : TrueOf g Q Moments v = h v (record { kind = refl; local = r.local; stands = r.stands; moment = r.moment }) in
    record { kind = e; local = m.local; stands = m.stands; moment = m.moment }

-- ---- one zone

-- in one zone a local time that both have gives both its moment
one_zone : (f g : ℤ → ℤ) (P Q : Occurrences) → IsOffset f → IsOffset g → AreApartFor f g P Q (pos 0) → (v : ℤ) (r : TrueOf f P Moments v) → Q Moments r.local
    → TrueOf g Q Moments v
one_zone f g P Q hf hg h v r there =
    let e : r.local ≡ r.local -ℤ pos 0 = omega (arith, ints) in
    moves f g P Q (pos 0) hf hg h v r (subst (Q Moments) e there)

pub one_zone_equal : (f g : ℤ → ℤ) (P Q : Occurrences) → IsOffset f → IsOffset g → AreApartFor f g P Q (pos 0) → HaveEqualOccurrences P Q
    → HaveEqualOccurrences (TrueOf f P) (TrueOf g Q)
one_zone_equal f g P Q hf hg h same k v = (
  of_kind f g P Q (λ w r. one_zone f g P Q hf hg h w r ((same Moments r.local).0 r.stands)) k v,
  of_kind g f Q P (λ w r. one_zone g f Q P hg hf (turned f g P Q (pos 0) h) w r ((same Moments r.local).1 r.stands)) k v,
)

-- ---- local times that are apart by as much

-- if local time is always as far ahead, a local time names the moment that much before
constant_moment : (f : ℤ → ℤ) (o t : ℤ) → ((v : ℤ) → f v ≡ o) → IsTrueMoment f t (t -ℤ o)
constant_moment f o t c =
    inl (record {
      has = let e : f (t -ℤ o) ≡ o = c (t -ℤ o) in omega (arith, ints, e);
      first = λ v m h. let j : (v +ℤ f v) ≡ t = h in let e : f v ≡ o = c v in omega (arith, ints, m, j, e);
    })

constant_is : (f : ℤ → ℤ) (o t u : ℤ) → ((v : ℤ) → f v ≡ o) → IsTrueMoment f t u → t ≡ u +ℤ o
constant_is f o t u c (inl a) = let j : (u +ℤ f u) ≡ t = a.has in let e : f u ≡ o = c u in omega (arith, ints, j, e)
constant_is f o t u c (inr a) =
    let j : u ≡ t -ℤ f (a.gap -ℤ pos 1) = a.read in let e : f (a.gap -ℤ pos 1) ≡ o = c (a.gap -ℤ pos 1) in omega (arith, ints, j, e)

-- sets with equal moments by constant offsets have local times that are apart by their difference
shifted : (f g : ℤ → ℤ) (P Q : Occurrences) (o p by t : ℤ) → ((v : ℤ) → f v ≡ o) → ((v : ℤ) → g v ≡ p) → o ≡ p +ℤ by
    → ((k : Kind) (v : ℤ) → TrueOf f P k v → TrueOf g Q k v) → P Moments t → Q Moments (t -ℤ by)
shifted f g P Q o p by t cf cg e same there =
    let m : TrueOf g Q Moments (t -ℤ o) = same Moments (t -ℤ o) (record { kind = refl; local = t; stands = there; moment = constant_moment f o t cf }) in
    let is : m.local ≡ (t -ℤ o) +ℤ p = constant_is g p m.local (t -ℤ o) cg m.moment in
    let at : m.local ≡ t -ℤ by = omega (arith, ints, is, e) in
    subst (Q Moments) at m.stands

pub constant_equal : (f g d e : ℤ → ℤ) (P Q : Occurrences) (by o p : ℤ) → IsOffset f → IsOffset g → AreApartFor f g P Q by → ((v : ℤ) → d v ≡ o)
    → ((v : ℤ) → e v ≡ p) → o ≡ p +ℤ by → HaveEqualOccurrences (TrueOf d P) (TrueOf e Q) → HaveEqualOccurrences (TrueOf f P) (TrueOf g Q)
constant_equal f g d e P Q by o p hf hg h cd ce is same k v = (
  of_kind f g P Q (λ w r. moves f g P Q by hf hg h w r (shifted d e P Q o p by r.local cd ce is (λ l x. (same l x).0) r.stands)) k v,
  of_kind g f Q P
      (λ w r.
      moves g f Q P (neg_ℤ by) hg hf (turned f g P Q by h) w r
      (shifted e d Q P p o (neg_ℤ by) r.local ce cd (omega (arith, ints, is)) (λ l x. (same l x).1) r.stands)) k v,
)

-- two offsets as they are stored
pub stored_apart : (o p by : ℤ) → FitsSigned w32 by → IsBelowDay o → IsBelowDay p → o ≡ p +ℤ to_z w32 (of_z w32 by)
    → to_z w32 (of_z w32 o) ≡ to_z w32 (of_z w32 p) +ℤ by
stored_apart o p by fits bo bp e =
    let b = to_z-of_z w32 by fits in
    let low = bo.0 in
    let high = bo.1 in
    let low-2 = bp.0 in
    let high-2 = bp.1 in
    let first : to_z w32 (of_z w32 o) ≡ o = omega (arith, ints, low, high) in
    let second : to_z w32 (of_z w32 p) ≡ p = omega (arith, ints, low-2, high-2) in
    omega (arith, ints, first, second, e, b)

-- ---- where a series begins

-- a series begins a day after a moment if its first day comes so late
pub begins_late : (s : Sketch) (moment day : ℤ) → s.kind ≡ Moments → HasNoDayBefore s day → (moment +ℤ pos 86_400) ≤ℤ (day *ℤ pos 86_400)
    → HasNoMomentBefore (StandsIn s) (moment +ℤ pos 86_400)
begins_late s moment day kind none l t r =
    by_lt_z {P = (moment +ℤ pos 86_400) ≤ℤ t} t (moment +ℤ pos 86_400)
    (λ m.
    let is : t ≡ (day_part Moments t *ℤ pos 86_400) +ℤ pos (second_part Moments t) = moment_is Moments t in
    let free : times_on s (day_part Moments t) ≡ [] = none (day_part Moments t) (omega (arith, ints, is, m, l)) in
    absurd (Contains-none (second_part Moments t) (subst (λ (c : List ℕ). Contains c (second_part Moments t)) free r.second)))
    (λ m. m)

-- a day after a moment comes no later than the midnight of the day after the next one
pub day_after : (moment day first : ℤ) → day ≡ day_part Moments moment → (day +ℤ pos 2) ≤ℤ first → (moment +ℤ pos 86_400) ≤ℤ (first *ℤ pos 86_400)
day_after moment day first e l =
    let is : moment ≡ (day_part Moments moment *ℤ pos 86_400) +ℤ pos (second_part Moments moment) = moment_is Moments moment in
    let below = second_part-below Moments moment in
    omega (arith, ints, is, below, e, l)

-- the same if it is seen by stored numbers
pub day_after_stored : (moment day first : ℤ) → FitsSigned w64 day → FitsSigned w64 first → IsNearDay first → day ≡ day_part Moments moment
    → IsTrue (int_lt (to_z w64 (of_z w64 day)) (to_z w64 (of_z w64 (to_z w64 (of_z w64 first) -ℤ pos 1))))
    → (moment +ℤ pos 86_400) ≤ℤ (first *ℤ pos 86_400)
day_after_stored moment day first fits_day fits near e test =
    let d = to_z-of_z w64 day fits_day in
    let f = to_z-of_z w64 first fits in
    let n0 = near.0 in
    let n1 = near.1 in
    let before : to_z w64 (of_z w64 (to_z w64 (of_z w64 first) -ℤ pos 1)) ≡ first -ℤ pos 1 = omega (arith, ints, f, n0, n1) in
    let l = below (to_z w64 (of_z w64 day)) (to_z w64 (of_z w64 (to_z w64 (of_z w64 first) -ℤ pos 1))) test in
    day_after moment day first e (omega (arith, ints, d, before, l))
  where
    below : (x y : ℤ) → IsTrue (int_lt x y) → x <ℤ y
    below x y h = grind (arith, ints)

-- what is known of the zones from a moment on, with what is known of both series, as the numbers are stored
pub apart_is : (f g : ℤ → ℤ) (P Q : Occurrences) (apart : Apart) (from by : ℤ) → from ≡ apart.from → by ≡ apart.by → AreApart f g apart
    → HasNoMomentBefore P (from +ℤ pos 86_400) → HasNoMomentBefore Q (from +ℤ pos 86_400) → AreApartFor f g P Q by
apart_is f g P Q apart from by ef eb known first second = record {
  from = from;
  apart = λ u l. let e : f u ≡ g u +ℤ apart.by = known u (omega (arith, ints, l, ef)) in omega (arith, ints, e, eb);
  first = first;
  second = second;
}
