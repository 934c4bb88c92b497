-- Where a walk over days may begin: two zones that are one for a while, and local times that are equal for a while.
use Rattle.std.proofs.Common.{w64, to_z, of_z, FitsSigned, ◌≡◌, ◌↔◌, true, false, cond, ℤ, pos, neg_ℤ, ◌+ℤ◌, ◌-ℤ◌, ◌*ℤ◌, ◌≤ℤ◌, ◌<ℤ◌, refl, sym, ap, subst, ◌∙◌, inl, arith}
use Rattle.std.specs.Prelude.{int_lt}
use Rattle.std.specs.Int.{int_max, int_min}
use Rattle.std.proofs.lemmas.Int.{by_lt_z, clamps, ints, to_z-of_z}
use Rattle.rr_model.specs.Bounds.{earliest_near}
use Rattle.rr_model.specs.Moment.{Before, Occurrences, day_part, second_part}
use Rattle.rr_model.specs.Sets.Sketch.{StandsIn}
use Rattle.rr_model.specs.Sets.Verdict.{HoldsOnlyOf, IsEqualVerdict}
use Rattle.rr_model.specs.declared.kind.Kind.TheVariants.{Moments}
use Rattle.rr_model.specs.declared.sketch.Sketch.{Sketch}
use Rattle.rr_model.specs.declared.verdict.Side.{Side}
use Rattle.rr_model.specs.declared.verdict.Side.TheVariants.{A, B, Both}
use Rattle.rr_model.specs.declared.verdict.Verdict.{Verdict}
use Rattle.rr_model.specs.declared.verdict.Verdict.TheVariants.{Yes, No}
use Rattle.rr_model.proofs.DaysAndTimesLemmas.{moment_is, second_part-below}
use Rattle.rr_true.specs.Moments.{IsOffset, IsTrueMoment}
use Rattle.rr_true.specs.Occurrences.{TrueOf}
use Rattle.rr_true.proofs.MomentLemmas.{agreeing, agreeing_before, true_is_near}
use Rattle.rr_true.proofs.NearLemmas.{within_fits}
use Rattle.rr_utc.specs.Between.{AgreeBefore}
use Rattle.rr_utc.specs.Zones.{AreOneBetween, last_equal_day}

-- ---- zones that are one for a while

taken : (x y p q : ℤ) → x <ℤ y → cond (int_lt x y) p q ≡ p
taken x y p q l = let e : int_lt x y ≡ true = grind (arith, ints) in ap (λ b. cond b p q) e

left : (x y p q : ℤ) → y ≤ℤ x → cond (int_lt x y) p q ≡ q
left x y p q l = let e : int_lt x y ≡ false = grind (arith, ints) in ap (λ b. cond b p q) e

-- zones that are one about a local time give it the same moment
pub one_about : (f g : ℤ → ℤ) (from end t u : ℤ) → IsOffset f → IsOffset g → AreOneBetween f g from end → (from +ℤ pos 86_400) ≤ℤ t
    → (t +ℤ pos 86_401) ≤ℤ end → IsTrueMoment f t u → IsTrueMoment g t u
one_about f g from end t u hf hg one low high r =
    agreeing both g from t u of_both hg (λ v l. both_is_second v l) low (agreeing_before f both end t u hf of_both (λ v l. sym (taken v end (f v) (g v) l)) high r)
  where
    both : ℤ → ℤ
    both v = cond (int_lt v end) (f v) (g v)

    of_both : IsOffset both
    of_both v =
        by_lt_z {P = (neg_ℤ (pos 86_400) <ℤ both v) × (both v <ℤ pos 86_400)} v end
        (λ l. subst (λ z. (neg_ℤ (pos 86_400) <ℤ z) × (z <ℤ pos 86_400)) (sym (taken v end (f v) (g v) l)) (hf v))
        (λ l. subst (λ z. (neg_ℤ (pos 86_400) <ℤ z) × (z <ℤ pos 86_400)) (sym (left v end (f v) (g v) l)) (hg v))

    both_is_second : (v : ℤ) → from ≤ℤ v → both v ≡ g v
    both_is_second v l =
        by_lt_z {P = both v ≡ g v} v end (λ m. taken v end (f v) (g v) m ∙ one v l m) (λ m. left v end (f v) (g v) m)

-- one stretch more with equal offsets
pub one_longer : (f g : ℤ → ℤ) (from at first second next : ℤ) → (from ≤ℤ at) × AreOneBetween f g from at → f at ≡ g at → at <ℤ first → at <ℤ second
    → ((v : ℤ) → at ≤ℤ v → v <ℤ first → f v ≡ f at) → ((v : ℤ) → at ≤ℤ v → v <ℤ second → g v ≡ g at) → next ≡ int_min first second
    → (from ≤ℤ next) × AreOneBetween f g from next
one_longer f g from at first second next (low, one) same l m of_f of_g e = (
  omega (arith, ints, clamps, e, l, m, low),
  λ v n o.
      by_lt_z {P = f v ≡ g v} v at (λ p. one v n p)
      (λ p. of_f v p (omega (arith, ints, clamps, e, o)) ∙ same ∙ sym (of_g v p (omega (arith, ints, clamps, e, o)))),
)

-- ---- local times that are equal for a while

-- before the day after the last equal day local times are equal
pub equal_before : (s u : Sketch) → s.kind ≡ Moments → u.kind ≡ Moments → (local : Verdict) → IsEqualVerdict (StandsIn s) (StandsIn u) local → (end day : ℤ)
    → day ≤ℤ last_equal_day local end → AgreeBefore (StandsIn s) (StandsIn u) ((day +ℤ pos 1) *ℤ pos 86_400)
equal_before s u ks ku Yes same end day l v m = same Moments v
equal_before s u ks ku (No k t side) (alone, sooner) end day l v m =
    let kind : k ≡ Moments = kind_of side alone in
    let is : t ≡ (day_part Moments t *ℤ pos 86_400) +ℤ pos (second_part Moments t) = moment_is Moments t in
    sooner Moments v (subst (λ z. Before Moments v z t) (sym kind) (inl (omega (arith, ints, clamps, is, l, m))))
  where
    kind_of : (side : Side) → HoldsOnlyOf side (StandsIn s k t) (StandsIn u k t) → k ≡ Moments
    kind_of A (has, lacks) = has.kind ∙ ks
    kind_of B (has, lacks) = has.kind ∙ ku
    kind_of Both none = absurd none

-- ---- both

-- one way: a moment before a day that is not after the last equal day and two days before the zones part
module _ (f g : ℤ → ℤ) (P Q : Occurrences) (hf : IsOffset f) (hg : IsOffset g) (first parted day : ℤ)
    (one : AreOneBetween f g ((first -ℤ pos 2) *ℤ pos 86_400) parted) (soon : ((day +ℤ pos 2) *ℤ pos 86_400) ≤ℤ parted) where
  keeps : ((t : ℤ) → t <ℤ ((day +ℤ pos 1) *ℤ pos 86_400) → P Moments t → Q Moments t) → (v : ℤ) → (first *ℤ pos 86_400) ≤ℤ v → v <ℤ (day *ℤ pos 86_400)
      → TrueOf f P Moments v → TrueOf g Q Moments v
  keeps local v low high r =
      let near = true_is_near f r.local v hf r.moment in
      let n0 = near.0 in
      let n1 = near.1 in
      record {
        kind = refl;
        local = r.local;
        stands = local r.local (omega (arith, ints, n0, high)) r.stands;
        moment = one_about f g ((first -ℤ pos 2) *ℤ pos 86_400) parted r.local v hf hg one (omega (arith, ints, n1, low)) (omega (arith, ints, n0, high, soon)) r.moment;
      }

-- no day before this one differs
pub agree_before_parted : (f g : ℤ → ℤ) (P Q : Occurrences) → IsOffset f → IsOffset g → (first parted day : ℤ)
    → AgreeBefore (TrueOf f P) (TrueOf g Q) (first *ℤ pos 86_400) → AreOneBetween f g ((first -ℤ pos 2) *ℤ pos 86_400) parted
    → ((day +ℤ pos 2) *ℤ pos 86_400) ≤ℤ parted → AgreeBefore P Q ((day +ℤ pos 1) *ℤ pos 86_400) → AgreeBefore (TrueOf f P) (TrueOf g Q) (day *ℤ pos 86_400)
agree_before_parted f g P Q hf hg first parted day before one soon local v l =
    by_lt_z {P = TrueOf f P Moments v ↔ TrueOf g Q Moments v} v (first *ℤ pos 86_400) (λ m. before v m) (λ m. (
      keeps f g P Q hf hg first parted day one soon (λ t n. (local t n).0) v m l,
      keeps g f Q P hg hf first parted day (λ w n o. sym (one w n o)) soon (λ t n. (local t n).1) v m l,
    ))

-- ---- as the numbers are found

-- a moment comes not before the midnight of its day
midnight_before : (u : ℤ) → (day_part Moments u *ℤ pos 86_400) ≤ℤ u
midnight_before u = let is : u ≡ (day_part Moments u *ℤ pos 86_400) +ℤ pos (second_part Moments u) = moment_is Moments u in omega (arith, ints, is)

-- what agrees before the first day, and before each later one up to the last equal day and two days before the day on which the zones part
pub agree_before_begin : (s u : Sketch) → s.kind ≡ Moments → u.kind ≡ Moments → (f g : ℤ → ℤ) → IsOffset f → IsOffset g → (local : Verdict)
    → IsEqualVerdict (StandsIn s) (StandsIn u) local → (first last end from parted begin : ℤ)
    → AgreeBefore (TrueOf f (StandsIn s)) (TrueOf g (StandsIn u)) (first *ℤ pos 86_400) → last ≡ last_equal_day local end
    → from ≡ (first -ℤ pos 2) *ℤ pos 86_400 → AreOneBetween f g from parted → begin ≡ int_max first (int_min last (day_part Moments parted -ℤ pos 2))
    → AgreeBefore (TrueOf f (StandsIn s)) (TrueOf g (StandsIn u)) (begin *ℤ pos 86_400)
agree_before_begin s u ks ku f g hf hg local verdict first last end from parted begin before el ef one e v l =
    by_lt_z {P = TrueOf f (StandsIn s) Moments v ↔ TrueOf g (StandsIn u) Moments v} first begin
    (λ m.
    let low = midnight_before parted in
    agree_before_parted f g (StandsIn s) (StandsIn u) hf hg first parted begin before (subst (λ z. AreOneBetween f g z parted) ef one)
    (omega (arith, ints, clamps, e, m, low))
    (equal_before s u ks ku local verdict end begin (subst (λ z. begin ≤ℤ z) el (omega (arith, ints, clamps, e, m)))) v l)
    (λ m. before v (omega (arith, ints, clamps, e, m, l)))

-- ---- as they are stored

-- an equal day is not past the end
pub equal_within : (local : Verdict) (end : ℤ) → last_equal_day local end ≤ℤ end
equal_within Yes end = omega (arith, ints)
equal_within (No k t side) end = omega (arith, ints, clamps)

-- the moments between which the zones' changes are looked at
pub record AreStored (first last : ℤ) : Type 0 where
  pub from : to_z w64 (of_z w64 (to_z w64 (of_z w64 (to_z w64 (of_z w64 first) -ℤ pos 2)) *ℤ pos 86_400)) ≡ (first -ℤ pos 2) *ℤ pos 86_400
  pub end : to_z w64 (of_z w64 (to_z w64 (of_z w64 last) *ℤ pos 86_400)) ≡ last *ℤ pos 86_400
  pub low : neg_ℤ (pos 400_000_000_000_000_000) ≤ℤ ((first -ℤ pos 2) *ℤ pos 86_400)
  pub high : (last *ℤ pos 86_400) ≤ℤ pos 400_000_000_000_000_000

pub are_stored : (first last : ℤ) → FitsSigned w64 first → FitsSigned w64 last → earliest_near ≤ℤ (first +ℤ pos 1) → first <ℤ last
    → last ≤ℤ pos 2_000_000_000 → AreStored first last
are_stored first last fits_first fits_last low less high =
    let f = to_z-of_z w64 first fits_first in
    let l = to_z-of_z w64 last fits_last in
    let two : to_z w64 (of_z w64 (to_z w64 (of_z w64 first) -ℤ pos 2)) ≡ first -ℤ pos 2 = omega (arith, ints, f, low, less, high) in
    record {
      from = omega (arith, ints, two, low, less, high);
      end = omega (arith, ints, l, low, less, high);
      low = omega (arith, ints, low);
      high = omega (arith, ints, high);
    }

-- two days before a moment's day
pub two_before_fits : (at day : ℤ) → FitsSigned w64 at → FitsSigned w64 day → day ≡ day_part Moments at → FitsSigned w64 (to_z w64 (of_z w64 day) -ℤ pos 2)
two_before_fits at day fits fits_day e =
    let is : at ≡ (day_part Moments at *ℤ pos 86_400) +ℤ pos (second_part Moments at) = moment_is Moments at in
    let small = second_part-below Moments at in
    let d = to_z-of_z w64 day fits_day in
    let a = to_z-of_z w64 at fits in
    within_fits (to_z w64 (of_z w64 day) -ℤ pos 2) (omega (arith, ints, is, small, e, d, a, fits)) (omega (arith, ints, is, small, e, d, a, fits))
