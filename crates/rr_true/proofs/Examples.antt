-- Berlin and Lord Howe in 2024, worked.
use Rattle.std.proofs.Common.{◌≡◌, inl, inr, List, [], ◌∷◌, ℤ, pos, ◌+ℤ◌, ◌≤ℤ◌, ◌<ℤ◌, refl, ◌∙◌, arith}
use Rattle.std.proofs.lemmas.Int.{by_lt_z, ints}
use Rattle.rr_true.specs.Changes.{offset_by, offsets_of}
use Rattle.rr_true.specs.Moments.{IsTrueMoment, local_at}
use Rattle.rr_true.specs.declared.change.Change.{Change}
use Rattle.rr_true.proofs.SpanLemmas.{offset_after, offset_before}

-- a zone that changes twice
abbrev changes : ℤ → ℤ → ℤ → ℤ → List Change
changes a o b p = record { at = a; offset = o } ∷ record { at = b; offset = p } ∷ []

module _ (w a o b p : ℤ) (later : a <ℤ b) where
  first : (v : ℤ) → v <ℤ a → offset_by w (changes a o b p) v ≡ w
  first v l = offset_before w (record { at = a; offset = o }) (record { at = b; offset = p } ∷ []) v l

  second : (v : ℤ) → a ≤ℤ v → v <ℤ b → offset_by w (changes a o b p) v ≡ o
  second v l m =
      offset_after w (record { at = a; offset = o }) (record { at = b; offset = p } ∷ []) v l
      ∙ offset_before o (record { at = b; offset = p }) [] v m

  third : (v : ℤ) → b ≤ℤ v → offset_by w (changes a o b p) v ≡ p
  third v l =
      offset_after w (record { at = a; offset = o }) (record { at = b; offset = p } ∷ []) v (omega (arith, ints, later, l))
      ∙ offset_after o (record { at = b; offset = p }) [] v l

-- summer time from 2024-03-31T01:00Z, and winter time from 2024-10-27T01:00Z
abbrev berlin : ℤ → ℤ
berlin = offset_by (pos 3_600) (changes (pos 1_711_846_800) (pos 7_200) (pos 1_729_990_800) (pos 3_600))

-- summer time until 2024-04-06T15:00Z, half an hour ahead of winter time, and again from 2024-10-05T15:30Z
abbrev lord_howe : ℤ → ℤ
lord_howe = offset_by (pos 39_600) (changes (pos 1_712_415_600) (pos 37_800) (pos 1_728_142_200) (pos 39_600))

-- the last second of winter and the first of summer
seasons : (berlin (pos 1_711_846_799) ≡ pos 3_600) × (berlin (pos 1_711_846_800) ≡ pos 7_200)
seasons = (refl, refl)

-- local times at 00:30Z and at 01:30Z on 2024-10-27 are one, 02:30
second_pass : (local_at berlin (pos 1_729_989_000) ≡ pos 1_729_996_200) × (local_at berlin (pos 1_729_992_600) ≡ pos 1_729_996_200)
second_pass = (refl, refl)

-- which offset Berlin has at a moment at which its local time is t
berlin_by : {P : Type 0} (v t : ℤ) → local_at berlin v ≡ t → (v <ℤ pos 1_711_846_800 → (v +ℤ pos 3_600) ≡ t → P)
    → (pos 1_711_846_800 ≤ℤ v → v <ℤ pos 1_729_990_800 → (v +ℤ pos 7_200) ≡ t → P) → (pos 1_729_990_800 ≤ℤ v → (v +ℤ pos 3_600) ≡ t → P) → P
berlin_by {P} v t e f g h =
    let has : (v +ℤ berlin v) ≡ t = e in
    by_lt_z {P = P} v (pos 1_711_846_800)
    (λ l.
    let o = first (pos 3_600) (pos 1_711_846_800) (pos 7_200) (pos 1_729_990_800) (pos 3_600) (omega (arith, ints)) v l in f l (omega (arith, ints, has, o)))
    (λ l. by_lt_z {P = P} v (pos 1_729_990_800)
    (λ m.
    let o = second (pos 3_600) (pos 1_711_846_800) (pos 7_200) (pos 1_729_990_800) (pos 3_600) (omega (arith, ints)) v l m in
    g l m (omega (arith, ints, has, o)))
    (λ m.
    let o = third (pos 3_600) (pos 1_711_846_800) (pos 7_200) (pos 1_729_990_800) (pos 3_600) (omega (arith, ints)) v m in
    h m (omega (arith, ints, has, o))))

-- 2024-07-01T09:00 is 07:00Z
summer : IsTrueMoment berlin (pos 1_719_824_400) (pos 1_719_817_200)
summer = inl (record {
  has = refl;
  first = λ v l e.
      berlin_by {P = ⊥} v (pos 1_719_824_400) e (λ m s. omega (arith, ints, m, s)) (λ m n s. omega (arith, ints, l, s)) (λ m s. omega (arith, ints, m, s));
})

-- 2024-03-31T02:30 does not exist: by the offset before the gap it is 01:30Z, which is 03:30 there
skipped : IsTrueMoment berlin (pos 1_711_852_200) (pos 1_711_848_600)
skipped = inr (record {
  none = λ v e.
      berlin_by {P = ⊥} v (pos 1_711_852_200) e (λ m s. omega (arith, ints, m, s)) (λ m n s. omega (arith, ints, m, s)) (λ m s. omega (arith, ints, m, s));
  gap = pos 1_711_846_800;
  past = omega (arith, ints);
  not_before = λ v l.
      (let o = first (pos 3_600) (pos 1_711_846_800) (pos 7_200) (pos 1_729_990_800) (pos 3_600) (omega (arith, ints)) v l in omega (arith, ints, l, o));
  read = refl;
})

-- 2024-10-27T02:30 comes twice: the first is 00:30Z
twice : IsTrueMoment berlin (pos 1_729_996_200) (pos 1_729_989_000)
twice = inl (record {
  has = refl;
  first = λ v l e.
      berlin_by {P = ⊥} v (pos 1_729_996_200) e (λ m s. omega (arith, ints, m, s)) (λ m n s. omega (arith, ints, l, s)) (λ m s. omega (arith, ints, l, m));
})

-- on Lord Howe 2024-04-07T01:45 comes twice, half an hour apart: at 14:45Z and at 15:15Z of the day before
half_an_hour : (local_at lord_howe (pos 1_712_414_700) ≡ pos 1_712_454_300) × (local_at lord_howe (pos 1_712_416_500) ≡ pos 1_712_454_300)
half_an_hour = (refl, refl)

-- a zone whose changes repeat after 400 years: summer time of 2024 is that of 2424
abbrev for_ever : ℤ → ℤ
for_ever = offsets_of (pos 3_600) (changes (pos 1_711_846_800) (pos 7_200) (pos 1_729_990_800) (pos 3_600)) (pos 1_704_067_200) 146_097

again : (for_ever (pos 1_719_817_200) ≡ pos 7_200) × (for_ever (pos 14_342_598_000) ≡ pos 7_200)
again = (refl, refl)
