-- The moment that a local time names: there is one, near by, and it repeats if the zone does.
use Rattle.std.proofs.Common.{◌≡◌, ◌↔◌, inl, inr, ℕ, ℤ, pos, neg_ℤ, ◌+ℤ◌, ◌-ℤ◌, ◌≤ℤ◌, ◌<ℤ◌, refl, sym, ap, subst, ◌∙◌, arith}
use Rattle.std.proofs.lemmas.Int.{ints, by_lt_z}
use Rattle.rr_model.specs.Moment.{Occurrences}
use Rattle.rr_model.specs.Sets.Verdict.{HaveEqualOccurrences}
use Rattle.rr_model.specs.Whole.Periodic.{AgreeFrom, RepeatsFrom}
use Rattle.rr_model.specs.declared.kind.Kind.TheVariants.{Moments}
use Rattle.rr_true.specs.Moments.{IsFirstMoment, IsOffset, IsSkippedMoment, IsTrueMoment}
use Rattle.rr_true.specs.Occurrences.{HasNoMomentBefore, OccurrencesRepeat, TrueOf}

-- ---- one at most

first_is_one : (offset : ℤ → ℤ) (t u v : ℤ) → IsFirstMoment offset t u → IsFirstMoment offset t v → u ≡ v
first_is_one offset t u v a b =
    by_lt_z {P = u ≡ v} u v (λ l. absurd (b.first u l a.has))
    (λ g. by_lt_z {P = u ≡ v} v u (λ l. absurd (a.first v l b.has)) (λ h. omega (arith, ints)))

gap_is_not_before : (offset : ℤ → ℤ) (t u v : ℤ) (a : IsSkippedMoment offset t u) (b : IsSkippedMoment offset t v) → b.gap ≤ℤ a.gap
gap_is_not_before offset t u v a b =
    by_lt_z {P = b.gap ≤ℤ a.gap} a.gap b.gap (λ l.
    let low : (a.gap +ℤ offset a.gap) <ℤ t = b.not_before a.gap l in
    let high : t <ℤ (a.gap +ℤ offset a.gap) = a.past in
    absurd (omega (arith, ints, low, high))) (λ g. g)

skipped_is_one : (offset : ℤ → ℤ) (t u v : ℤ) → IsSkippedMoment offset t u → IsSkippedMoment offset t v → u ≡ v
skipped_is_one offset t u v a b =
    let l = gap_is_not_before offset t u v a b in
    let m = gap_is_not_before offset t v u b a in
    let e : a.gap ≡ b.gap = omega (arith, ints, l, m) in
    a.read ∙ ap (λ g. t -ℤ offset (g -ℤ pos 1)) e ∙ sym b.read

pub true_is_one : (offset : ℤ → ℤ) (t u v : ℤ) → IsTrueMoment offset t u → IsTrueMoment offset t v → u ≡ v
true_is_one offset t u v (inl a) (inl b) = first_is_one offset t u v a b
true_is_one offset t u v (inl a) (inr b) = absurd (b.none u a.has)
true_is_one offset t u v (inr a) (inl b) = absurd (a.none v b.has)
true_is_one offset t u v (inr a) (inr b) = skipped_is_one offset t u v a b

-- ---- near by

pub true_is_near : (offset : ℤ → ℤ) (t u : ℤ) → IsOffset offset → IsTrueMoment offset t u → ((t -ℤ pos 86_400) <ℤ u) × (u <ℤ (t +ℤ pos 86_400))
true_is_near offset t u h (inl a) =
    let e : (u +ℤ offset u) ≡ t = a.has in
    let low : neg_ℤ (pos 86_400) <ℤ offset u = (h u).0 in
    let high : offset u <ℤ pos 86_400 = (h u).1 in
    (omega (arith, ints, e, low, high), omega (arith, ints, e, low, high))
true_is_near offset t u h (inr a) =
    let e : u ≡ t -ℤ offset (a.gap -ℤ pos 1) = a.read in
    let low : neg_ℤ (pos 86_400) <ℤ offset (a.gap -ℤ pos 1) = (h (a.gap -ℤ pos 1)).0 in
    let high : offset (a.gap -ℤ pos 1) <ℤ pos 86_400 = (h (a.gap -ℤ pos 1)).1 in
    (omega (arith, ints, e, low, high), omega (arith, ints, e, low, high))

-- ---- zones that agree

-- a moment with a local time, a day after q, does not lie before q
late : (offset : ℤ → ℤ) (q t v : ℤ) → IsOffset offset → (q +ℤ pos 86_400) ≤ℤ t → t ≤ℤ (v +ℤ offset v) → q <ℤ v
late offset q t v h l m = let high : offset v <ℤ pos 86_400 = (h v).1 in omega (arith, ints, l, m, high)

pub agreeing : (f g : ℤ → ℤ) (q t u : ℤ) → IsOffset f → IsOffset g → AgreeFrom f g q → (q +ℤ pos 86_400) ≤ℤ t → IsTrueMoment f t u → IsTrueMoment g t u
agreeing f g q t u hf hg agree l (inl a) =
    let e : (u +ℤ f u) ≡ t = a.has in
    let lu : q <ℤ u = late f q t u hf l (omega (arith, ints, e)) in
    let same : f u ≡ g u = agree u (omega (arith, ints, lu)) in
    inl (record {
      has = omega (arith, ints, e, same);
      first = λ v m h.
          let d : (v +ℤ g v) ≡ t = h in
          let lv : q <ℤ v = late g q t v hg l (omega (arith, ints, d)) in
          let i : f v ≡ g v = agree v (omega (arith, ints, lv)) in
          a.first v m (omega (arith, ints, d, i));
    })
agreeing f g q t u hf hg agree l (inr a) =
    let past : t <ℤ (a.gap +ℤ f a.gap) = a.past in
    let lg : q <ℤ a.gap = late f q t a.gap hf l (omega (arith, ints, past)) in
    let same : f a.gap ≡ g a.gap = agree a.gap (omega (arith, ints, lg)) in
    let before : f (a.gap -ℤ pos 1) ≡ g (a.gap -ℤ pos 1) = agree (a.gap -ℤ pos 1) (omega (arith, ints, lg)) in
    let e : u ≡ t -ℤ f (a.gap -ℤ pos 1) = a.read in
    inr (record {
      none = λ v h.
          let d : (v +ℤ g v) ≡ t = h in
          let lv : q <ℤ v = late g q t v hg l (omega (arith, ints, d)) in
          let i : f v ≡ g v = agree v (omega (arith, ints, lv)) in
          a.none v (omega (arith, ints, d, i));
      gap = a.gap;
      past = omega (arith, ints, past, same);
      not_before = λ v m. by_lt_z {P = (v +ℤ g v) <ℤ t} v q
          (λ n. let high : g v <ℤ pos 86_400 = (hg v).1 in omega (arith, ints, n, high, l))
          (λ n. let i : f v ≡ g v = agree v n in let d : (v +ℤ f v) <ℤ t = a.not_before v m in omega (arith, ints, i, d));
      read = e ∙ ap (λ o. t -ℤ o) before;
    })

-- ---- a zone that is put off

pub shifted : (offset : ℤ → ℤ) (c t u : ℤ) → IsTrueMoment offset (t +ℤ c) (u +ℤ c) → IsTrueMoment (λ v. offset (v +ℤ c)) t u
shifted offset c t u (inl a) =
    let e : ((u +ℤ c) +ℤ offset (u +ℤ c)) ≡ t +ℤ c = a.has in
    inl (record {
      has = omega (arith, ints, e);
      first = λ v m h. let d : (v +ℤ offset (v +ℤ c)) ≡ t = h in a.first (v +ℤ c) (omega (arith, ints, m)) (omega (arith, ints, d));
    })
shifted offset c t u (inr a) =
    let back : ((a.gap -ℤ c) +ℤ c) ≡ a.gap = omega (arith, ints) in
    let one : (((a.gap -ℤ c) -ℤ pos 1) +ℤ c) ≡ a.gap -ℤ pos 1 = omega (arith, ints) in
    let same : offset ((a.gap -ℤ c) +ℤ c) ≡ offset a.gap = ap offset back in
    let before : offset (((a.gap -ℤ c) -ℤ pos 1) +ℤ c) ≡ offset (a.gap -ℤ pos 1) = ap offset one in
    let past : (t +ℤ c) <ℤ (a.gap +ℤ offset a.gap) = a.past in
    let e : (u +ℤ c) ≡ (t +ℤ c) -ℤ offset (a.gap -ℤ pos 1) = a.read in
    inr (record {
      none = λ v h. let d : (v +ℤ offset (v +ℤ c)) ≡ t = h in a.none (v +ℤ c) (omega (arith, ints, d));
      gap = a.gap -ℤ c;
      past = omega (arith, ints, past, same);
      not_before = λ v m.
          let d : ((v +ℤ c) +ℤ offset (v +ℤ c)) <ℤ (t +ℤ c) = a.not_before (v +ℤ c) (omega (arith, ints, m)) in omega (arith, ints, d);
      read = omega (arith, ints, e, before);
    })

pub put_off : (offset : ℤ → ℤ) (c t u : ℤ) → IsTrueMoment (λ v. offset (v +ℤ c)) t u → IsTrueMoment offset (t +ℤ c) (u +ℤ c)
put_off offset c t u (inl a) =
    let e : (u +ℤ offset (u +ℤ c)) ≡ t = a.has in
    inl (record {
      has = omega (arith, ints, e);
      first = λ v m h.
          let d : (v +ℤ offset v) ≡ t +ℤ c = h in
          let same : offset ((v -ℤ c) +ℤ c) ≡ offset v = ap offset (omega (arith, ints)) in
          a.first (v -ℤ c) (omega (arith, ints, m)) (omega (arith, ints, d, same));
    })
put_off offset c t u (inr a) =
    let before : offset ((a.gap +ℤ c) -ℤ pos 1) ≡ offset ((a.gap -ℤ pos 1) +ℤ c) = ap offset (omega (arith, ints)) in
    let past : t <ℤ (a.gap +ℤ offset (a.gap +ℤ c)) = a.past in
    let e : u ≡ t -ℤ offset ((a.gap -ℤ pos 1) +ℤ c) = a.read in
    inr (record {
      none = λ v h.
          let d : (v +ℤ offset v) ≡ t +ℤ c = h in
          let same : offset ((v -ℤ c) +ℤ c) ≡ offset v = ap offset (omega (arith, ints)) in
          a.none (v -ℤ c) (omega (arith, ints, d, same));
      gap = a.gap +ℤ c;
      past = omega (arith, ints, past);
      not_before = λ v m.
          let same : offset ((v -ℤ c) +ℤ c) ≡ offset v = ap offset (omega (arith, ints)) in
          let d : ((v -ℤ c) +ℤ offset ((v -ℤ c) +ℤ c)) <ℤ t = a.not_before (v -ℤ c) (omega (arith, ints, m)) in
          omega (arith, ints, d, same);
      read = omega (arith, ints, e, before);
    })

-- ---- what repeats

pub moments_repeat : (offset : ℤ → ℤ) (q : ℤ) (c : ℕ) (t u : ℤ) → IsOffset offset → RepeatsFrom offset q c → (q +ℤ pos 86_400) ≤ℤ t
    → IsTrueMoment offset t u ↔ IsTrueMoment offset (t +ℤ pos c) (u +ℤ pos c)
moments_repeat offset q c t u h r l =
    let later : ℤ → ℤ = λ v. offset (v +ℤ pos c) in
    let hl : IsOffset later = λ v. h (v +ℤ pos c) in (
      λ m. put_off offset (pos c) t u (agreeing offset later q t u h hl (λ d n. sym (r d n)) l m),
      λ m. agreeing later offset q t u hl h r l (shifted offset (pos c) t u m),
    )

-- ---- sets

pub equal_moments : (P Q : Occurrences) (f g : ℤ → ℤ) (q : ℤ) → IsOffset f → IsOffset g → AgreeFrom f g q → HasNoMomentBefore P (q +ℤ pos 86_400)
    → HasNoMomentBefore Q (q +ℤ pos 86_400) → HaveEqualOccurrences P Q → HaveEqualOccurrences (TrueOf f P) (TrueOf g Q)
equal_moments P Q f g q hf hg agree lp lq same k u = (
  λ r. record {
    kind = r.kind;
    local = r.local;
    stands = (same Moments r.local).0 r.stands;
    moment = agreeing f g q r.local u hf hg agree (lp r.local r.stands) r.moment;
  },
  λ r. record {
    kind = r.kind;
    local = r.local;
    stands = (same Moments r.local).1 r.stands;
    moment = agreeing g f q r.local u hg hf (λ d n. sym (agree d n)) (lq r.local r.stands) r.moment;
  },
)

pub set_repeats : (P : Occurrences) (offset : ℤ → ℤ) (q : ℤ) (c : ℕ) → IsOffset offset → RepeatsFrom offset q c → OccurrencesRepeat P q (pos c)
    → OccurrencesRepeat (TrueOf offset P) (q +ℤ pos 172_800) (pos c)
set_repeats P offset q c h r s = record {
  later = λ u l m.
      let near : u <ℤ (m.local +ℤ pos 86_400) = (true_is_near offset m.local u h m.moment).1 in
      let low : (q +ℤ pos 86_400) ≤ℤ m.local = omega (arith, ints, near, l) in
      record {
        kind = refl;
        local = m.local +ℤ pos c;
        stands = s.later m.local (omega (arith, ints, low)) m.stands;
        moment = (moments_repeat offset q c m.local u h r low).0 m.moment;
      };
  earlier = λ u l m.
      let near : (u +ℤ pos c) <ℤ (m.local +ℤ pos 86_400) = (true_is_near offset m.local (u +ℤ pos c) h m.moment).1 in
      let back : ((m.local -ℤ pos c) +ℤ pos c) ≡ m.local = omega (arith, ints) in
      let low : (q +ℤ pos 86_400) ≤ℤ (m.local -ℤ pos c) = omega (arith, ints, near, l) in
      record {
        kind = refl;
        local = m.local -ℤ pos c;
        stands = s.earlier (m.local -ℤ pos c) (omega (arith, ints, low)) (subst (P Moments) (sym back) m.stands);
        moment = (moments_repeat offset q c (m.local -ℤ pos c) u h r low).1 (subst (λ z. IsTrueMoment offset z (u +ℤ pos c)) (sym back) m.moment);
      };
}

-- ---- zones that agree up to some moment

-- a moment whose local time is not after t lies less than a day after it
soon : (offset : ℤ → ℤ) (t v : ℤ) → IsOffset offset → (v +ℤ offset v) ≤ℤ t → v <ℤ (t +ℤ pos 86_400)
soon offset t v h l = let low : neg_ℤ (pos 86_400) <ℤ offset v = (h v).0 in omega (arith, ints, l, low)

pub agreeing_before : (f g : ℤ → ℤ) (h t u : ℤ) → IsOffset f → IsOffset g → ((v : ℤ) → v <ℤ h → f v ≡ g v) → (t +ℤ pos 86_401) ≤ℤ h
    → IsTrueMoment f t u → IsTrueMoment g t u
agreeing_before f g h t u hf hg agree l (inl a) =
    let e : (u +ℤ f u) ≡ t = a.has in
    let lu : u <ℤ (t +ℤ pos 86_400) = soon f t u hf (omega (arith, ints, e)) in
    let same : f u ≡ g u = agree u (omega (arith, ints, lu, l)) in
    inl (record {
      has = omega (arith, ints, e, same);
      first = λ v m k.
          let d : (v +ℤ g v) ≡ t = k in
          let i : f v ≡ g v = agree v (omega (arith, ints, m, lu, l)) in
          a.first v m (omega (arith, ints, d, i));
    })
agreeing_before f g h t u hf hg agree l (inr a) =
    let past : t <ℤ (a.gap +ℤ f a.gap) = a.past in
    let below : ((a.gap -ℤ pos 1) +ℤ f (a.gap -ℤ pos 1)) <ℤ t = a.not_before (a.gap -ℤ pos 1) (omega (arith, ints)) in
    let lg : (a.gap -ℤ pos 1) <ℤ (t +ℤ pos 86_400) = soon f t (a.gap -ℤ pos 1) hf (omega (arith, ints, below)) in
    let same : f a.gap ≡ g a.gap = agree a.gap (omega (arith, ints, lg, l)) in
    let before : f (a.gap -ℤ pos 1) ≡ g (a.gap -ℤ pos 1) = agree (a.gap -ℤ pos 1) (omega (arith, ints, lg, l)) in
    inr (record {
      none = λ v k.
          let d : (v +ℤ g v) ≡ t = k in
          let lv : v <ℤ (t +ℤ pos 86_400) = soon g t v hg (omega (arith, ints, d)) in
          let i : f v ≡ g v = agree v (omega (arith, ints, lv, l)) in
          a.none v (omega (arith, ints, d, i));
      gap = a.gap;
      past = omega (arith, ints, past, same);
      not_before = λ v m.
          let i : f v ≡ g v = agree v (omega (arith, ints, m, lg, l)) in
          let d : (v +ℤ f v) <ℤ t = a.not_before v m in
          omega (arith, ints, i, d);
      read = a.read ∙ ap (λ o. t -ℤ o) before;
    })
