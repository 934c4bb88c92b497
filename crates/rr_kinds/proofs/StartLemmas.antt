-- Two series of which one begins first, or both at once.
use Rattle.std.proofs.Common.{◌≡◌, ℤ, pos, ◌*ℤ◌, ◌≤ℤ◌, ◌<ℤ◌, refl, inl, inr, arith}
use Rattle.std.specs.Prelude.{◌↔◌}
use Rattle.std.proofs.lemmas.Int.{ints, by_lt_z}
use Rattle.rr_model.specs.Moment.{Before, day_part}
use Rattle.rr_model.specs.Series.Occurrences.{Occurs}
use Rattle.rr_model.specs.Series.Soundness.{IsSound}
use Rattle.rr_model.specs.Sets.Verdict.{IsEqualVerdict}
use Rattle.rr_model.specs.declared.kind.Kind.{Kind}
use Rattle.rr_model.specs.declared.kind.Kind.TheVariants.{Days, Moments}
use Rattle.rr_model.specs.declared.rule.Series.{Series}
use Rattle.rr_model.specs.declared.verdict.Side.TheVariants.{A, B}
use Rattle.rr_model.specs.declared.verdict.Verdict.TheVariants.{No}
use Rattle.rr_model.proofs.OrderLemmas.{Before-trans, to_place}
use Rattle.rr_model.proofs.WholeLemmas.{floor_mod_below, floor_whole}
use Rattle.rr_kinds.specs.Form.{GoByKindsTogether, GoesByKinds}
use Rattle.rr_kinds.proofs.OccursLemmas.{occurs_is, start_on_day}

-- ---- which begins first

pub days_first : (d t : ℤ) → (d ≤ℤ day_part Moments t) ↔ Before Days d Moments t
days_first d t =
    let w = floor_whole t 86_400 (omega arith) in
    let m = floor_mod_below t 86_400 (omega arith) in (
      (λ l. by_lt_z {P = Before Days d Moments t} (d *ℤ pos 86_400) t (λ h. inl h) (λ g. inr (omega (arith, ints, w, l, g), refl, refl))),
      (λ b. elim b [
        | inl h ↦ omega (arith, ints, w, m, h)
        | inr h ↦ omega (arith, ints, w, m, h.0)
      ]),
    )

pub moments_first : (t d : ℤ) → (day_part Moments t <ℤ d) ↔ Before Moments t Days d
moments_first t d =
    let w = floor_whole t 86_400 (omega arith) in
    let m = floor_mod_below t 86_400 (omega arith) in (
      (λ l. inl (omega (arith, ints, w, m, l))),
      (λ b. elim b [
        | inl h ↦ omega (arith, ints, w, m, h)
        | inr h ↦ absurd (cc)
      ]),
    )

-- nothing comes before itself
not_self : (k : Kind) (t : ℤ) → Before k t k t → ⊥
not_self k t b = omega (arith, ints, to_place k t k t b)

-- of one kind the earlier comes before
in_order : (k l : Kind) (t u : ℤ) → l ≡ k → Before l u k t → u <ℤ t
in_order Days Days t u e b = omega (arith, ints, to_place Days u Days t b)
in_order Moments Moments t u e b = omega (arith, ints, to_place Moments u Moments t b)
in_order Days Moments t u e b = absurd (cc)
in_order Moments Days t u e b = absurd (cc)

neither : (t u : ℤ) → (t <ℤ u → ⊥) → (u <ℤ t → ⊥) → t ≡ u
neither t u f g = by_lt_z {P = t ≡ u} t u (λ l. absurd (f l)) (λ h. by_lt_z {P = t ≡ u} u t (λ l. absurd (g l)) (λ i. omega (arith, ints, h, i)))

-- neither comes before the other: they are one
pub one_moment : (k l : Kind) (t u : ℤ) → (Before k t l u → ⊥) → (Before l u k t → ⊥) → (k ≡ l) × (t ≡ u)
one_moment Days Days t u f g = (refl, neither t u (λ l. f (inl (omega (arith, ints, l)))) (λ l. g (inl (omega (arith, ints, l)))))
one_moment Moments Moments t u f g = (refl, neither t u (λ l. f (inl l)) (λ l. g (inl l)))
one_moment Days Moments t u f g =
    by_lt_z {P = (Days ≡ Moments) × (t ≡ u)} (day_part Moments u) t (λ l. absurd (g ((moments_first u t).0 l))) (λ h. absurd (f ((days_first t u).0 h)))
one_moment Moments Days t u f g =
    by_lt_z {P = (Moments ≡ Days) × (t ≡ u)} (day_part Moments t) u (λ l. absurd (f ((moments_first t u).0 l))) (λ h. absurd (g ((days_first u t).0 h)))

-- ---- the verdict

-- what occurs in a series does not come before its start
module _ (s : Series) (by : GoesByKinds s) (sound : IsSound s) where
  not_early : (l : Kind) (u : ℤ) → Occurs s l u → Before l u s.kind s.start → ⊥
  not_early l u o b =
      let h = (occurs_is s by sound l u).0 o in
      omega (arith, ints, h.not_before, in_order s.kind l s.start u h.of_kind b)

  start_occurs : Occurs s s.kind s.start
  start_occurs = (occurs_is s by sound s.kind s.start).1 (start_on_day s by sound)

module _ (a b : Series) (by_a : GoesByKinds a) (by_b : GoesByKinds b) (sound_a : IsSound a) (sound_b : IsSound b) where
  pub first_begins : Before a.kind a.start b.kind b.start → IsEqualVerdict (Occurs a) (Occurs b) (No a.kind a.start A)
  first_begins order = (
    (start_occurs a by_a sound_a, λ o. not_early b by_b sound_b a.kind a.start o order),
    (λ l u before. (
      (λ o. absurd (not_early a by_a sound_a l u o before)),
      (λ o. absurd (not_early b by_b sound_b l u o (Before-trans l u a.kind a.start b.kind b.start before order))),
    )),
  )

  pub second_begins : Before b.kind b.start a.kind a.start → IsEqualVerdict (Occurs a) (Occurs b) (No b.kind b.start B)
  second_begins order = (
    (start_occurs b by_b sound_b, λ o. not_early a by_a sound_a b.kind b.start o order),
    (λ l u before. (
      (λ o. absurd (not_early a by_a sound_a l u o (Before-trans l u b.kind b.start a.kind a.start before order))),
      (λ o. absurd (not_early b by_b sound_b l u o before)),
    )),
  )

  pub begin_together : (Before a.kind a.start b.kind b.start → ⊥) → (Before b.kind b.start a.kind a.start → ⊥) → GoByKindsTogether a b
  begin_together f g = let e = one_moment a.kind b.kind a.start b.start f g in record { first = by_a; second = by_b; kind = e.0; start = e.1 }
