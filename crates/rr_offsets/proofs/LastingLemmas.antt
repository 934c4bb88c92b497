-- The offsets of a steady zone repeat for ever, so a list of changes up to one cycle tells all of them.
use Rattle.std.proofs.Common.{◌≡◌, ◌⊎◌, ℕ, zero, suc, ◌+◌, ◌*◌, ◌/◌, ◌%◌, ◌<◌, ◌≤◌, true, false, ℤ, pos, nat_abs, ◌+ℤ◌, ◌-ℤ◌, ◌≤ℤ◌, ◌<ℤ◌, List, map, All, Contains, None, Some, inl, inr, refl, sym, ap, subst, ◌∙◌, arith}
use Rattle.std.specs.Prelude.{int_lt, unwrap_or}
use Rattle.std.proofs.lemmas.Int.{ints, by_lt_z}
use Rattle.std.proofs.lemmas.Nat.{div-add-mod', mod_below}
use Rattle.rr_model.specs.Whole.Periodic.{RepeatsFrom}
use Rattle.rr_true.specs.Changes.{moment_in_cycle, moment_of, offsets_of}
use Rattle.rr_true.specs.declared.change.Change.{Change}
use Rattle.rr_zone.specs.Observances.{IsSoundObservance}
use Rattle.rr_zone.specs.Onsets.{first_of_zone}
use Rattle.rr_zone.specs.declared.observance.Observance.{Observance}
use Rattle.rr_offsets.specs.Listing.{AreChangesOf}
use Rattle.rr_offsets.specs.Offsets.{new_offset, offset_at, offset_before}
use Rattle.rr_offsets.specs.Past.{AreOver, zone_cycle}
use Rattle.rr_offsets.specs.Steady.{is_steady}
use Rattle.rr_offsets.proofs.ListLemmas.{at_moment, list_agrees}
use Rattle.rr_offsets.proofs.RepeatLemmas.{new_later}
use Rattle.rr_offsets.proofs.StepLemmas.{offset_back}

-- ---- what repeats

module _ {X : Type 0} (f : ℤ → X) (q : ℤ) (c : ℕ) (repeats : RepeatsFrom f q c) where
  -- a number of cycles later
  cycles : (k : ℕ) (v : ℤ) → q ≤ℤ v → f (v +ℤ pos (k * c)) ≡ f v
  cycles zero v l = ap f (omega (arith, ints))
  cycles (suc k) v l =
      let e : v +ℤ pos (suc k * c) ≡ (v +ℤ pos (k * c)) +ℤ pos c = omega (arith, ints) in
      ap f e ∙ repeats (v +ℤ pos (k * c)) (omega (arith, ints, l)) ∙ cycles k v l

-- a moment and the one of the first cycle that it repeats
record IsInCycle (q : ℤ) (c : ℕ) (u v : ℤ) : Type 0 where
  count : ℕ
  far : u ≡ v +ℤ pos (count * c)
  late : q ≤ℤ v
  early : v <ℤ (q +ℤ pos c)

module _ (q : ℤ) (c : ℕ) (some : 1 ≤ c) where
  after : (n : ℕ) → IsInCycle q c (q +ℤ pos n) (q +ℤ pos (n % c))
  after n =
      let e : n / c * c + n % c ≡ n = div-add-mod' n c in
      let b : n % c < c = mod_below n c (omega arith) in
      record { count = n / c; far = omega (arith, ints, e); late = omega (arith, ints); early = omega (arith, ints, b) }

  -- the moment of the first cycle
  record Turned (u : ℤ) : Type 0 where
    moment : ℤ
    is : moment_in_cycle q c u ≡ moment
    in_cycle : IsInCycle q c u moment

  turned : (u : ℤ) → q ≤ℤ u → Turned u
  turned u l =
      let n = nat_abs (u -ℤ q) in
      let d : u -ℤ q ≡ pos n = omega (arith, ints, l) in
      let e : q +ℤ pos n ≡ u = omega (arith, ints, l) in
      let f : int_lt u q ≡ false = grind (arith, ints, l) in
      record { moment = q +ℤ pos (n % c); is = rw (f, d) refl; in_cycle = subst (λ x. IsInCycle q c x (q +ℤ pos (n % c))) e (after n) }

  -- a moment of the first cycle lies before its end
  turned_early : (u : ℤ) → moment_in_cycle q c u <ℤ (q +ℤ pos c)
  turned_early u =
      by_lt_z {P = moment_in_cycle q c u <ℤ (q +ℤ pos c)} u q
      (λ l. (let f : int_lt u q ≡ true = grind (arith, ints, l) in rw f (omega (arith, ints, l))))
      (λ l. (let f = turned u l in rw f.is f.in_cycle.early))

  -- what repeats is there what it is at the moment itself
  turned_same : {X : Type 0} (f : ℤ → X) → RepeatsFrom f q c → (u : ℤ) → f (moment_in_cycle q c u) ≡ f u
  turned_same f repeats u =
      by_lt_z {P = f (moment_in_cycle q c u) ≡ f u} u q
      (λ l. (let e : int_lt u q ≡ true = grind (arith, ints, l) in rw e refl))
      (λ l. (let d = turned u l in
      ap f d.is ∙ sym (ap f d.in_cycle.far ∙ cycles f q c repeats d.in_cycle.count d.moment d.in_cycle.late)))

-- ---- a zone

module _ (zone : List Observance) (sound : All IsSoundObservance zone) (steady : is_steady zone ≡ true) (p : ℤ) (over : AreOver p zone) where
  new_repeats : RepeatsFrom (new_offset zone) p zone_cycle
  new_repeats = new_later p zone sound steady over

  -- from an onset on the offsets repeat
  module _ (s x : ℤ) (late : p ≤ℤ s) (onset : new_offset zone s ≡ Some x) where
    up : (n : ℕ) → offset_at zone ((s +ℤ pos n) +ℤ pos zone_cycle) ≡ offset_at zone (s +ℤ pos n)
    up zero =
        let u = s +ℤ pos 0 in
        let e : u ≡ s = omega (arith, ints) in
        let here : new_offset zone u ≡ Some x = rw e onset in
        let there : new_offset zone (u +ℤ pos zone_cycle) ≡ Some x = new_repeats u (omega (arith, ints, late)) ∙ here in
        offset_back zone (u +ℤ pos zone_cycle)
        ∙ ap (λ y. unwrap_or y (offset_at zone ((u +ℤ pos zone_cycle) -ℤ pos 1))) there
        ∙ sym (offset_back zone u ∙ ap (λ y. unwrap_or y (offset_at zone (u -ℤ pos 1))) here)
    up (suc n) =
        let u = s +ℤ pos (suc n) in
        let e : u -ℤ pos 1 ≡ s +ℤ pos n = omega (arith, ints) in
        let f : (u +ℤ pos zone_cycle) -ℤ pos 1 ≡ (s +ℤ pos n) +ℤ pos zone_cycle = omega (arith, ints) in
        offset_back zone (u +ℤ pos zone_cycle)
        ∙ ap (λ y. unwrap_or y (offset_at zone ((u +ℤ pos zone_cycle) -ℤ pos 1))) (new_repeats u (omega (arith, ints, late)))
        ∙ ap (λ y. unwrap_or (new_offset zone u) (offset_at zone y)) f
        ∙ ap (unwrap_or (new_offset zone u)) (up n)
        ∙ ap (λ y. unwrap_or (new_offset zone u) (offset_at zone y)) (sym e)
        ∙ sym (offset_back zone u)

    pub zone_repeats : RepeatsFrom (offset_at zone) s zone_cycle
    zone_repeats d l =
        let e : s +ℤ pos (nat_abs (d -ℤ s)) ≡ d = omega (arith, ints, l) in
        subst (λ y. offset_at zone (y +ℤ pos zone_cycle) ≡ offset_at zone y) e (up (nat_abs (d -ℤ s)))

  -- without a further onset the offset stays
  module _ (none : (u : ℤ) → p ≤ℤ u → new_offset zone u ≡ None) where
    still : (n : ℕ) → offset_at zone (p +ℤ pos n) ≡ offset_at zone p
    still zero = ap (offset_at zone) (omega (arith, ints))
    still (suc n) =
        let u = p +ℤ pos (suc n) in
        let e : u -ℤ pos 1 ≡ p +ℤ pos n = omega (arith, ints) in
        offset_back zone u ∙ ap (λ y. unwrap_or y (offset_at zone (u -ℤ pos 1))) (none u (omega (arith, ints))) ∙ ap (offset_at zone) e ∙ still n

    stays : (u : ℤ) → p ≤ℤ u → offset_at zone u ≡ offset_at zone p
    stays u l = (let e : p +ℤ pos (nat_abs (u -ℤ p)) ≡ u = omega (arith, ints, l) in ap (offset_at zone) (sym e) ∙ still (nat_abs (u -ℤ p)))

    zone_stays : (c : ℕ) → RepeatsFrom (offset_at zone) p c
    zone_stays c d l = stays (d +ℤ pos c) (omega (arith, ints, l)) ∙ sym (stays d l)

  -- ---- with a list of changes past one cycle

  module _ (end initial : ℤ) (changes : List Change) (are : AreChangesOf (new_offset zone) end changes) (past : (p +ℤ pos zone_cycle) ≤ℤ end)
      (first : initial ≡ offset_before (first_of_zone None zone)) where
    -- a later moment without onset in the first cycle has none
    none_later : (u v : ℤ) → IsInCycle p zone_cycle u v → (Contains (map moment_of changes) v → ⊥) → new_offset zone u ≡ None
    none_later u v in_cycle out =
        ap (new_offset zone) in_cycle.far ∙ cycles (new_offset zone) p zone_cycle new_repeats in_cycle.count v in_cycle.late
        ∙ elim (are.all v (omega (arith, ints, in_cycle.early, past))) [ inl c ↦ absurd (out c) | inr e ↦ e ]

    module _ (s : ℤ) (there : Contains (map moment_of changes) s) (late : p ≤ℤ s)
        (least : (u : ℤ) → Contains (map moment_of changes) u → p ≤ℤ u → s ≤ℤ u) where
      listed_on : AreChangesOf (new_offset zone) (s +ℤ pos zone_cycle) changes
      listed_on = record { rising = are.rising; each = are.each; all = all }
        where
          far : (u v : ℤ) → end ≤ℤ u → u <ℤ (s +ℤ pos zone_cycle) → IsInCycle p zone_cycle u v → v <ℤ s
          far u v l e c = omega (arith, ints, l, e, past, c.far, c.early)

          all : (u : ℤ) → u <ℤ (s +ℤ pos zone_cycle) → Contains (map moment_of changes) u ⊎ (new_offset zone u ≡ None)
          all u l =
              by_lt_z {P = Contains (map moment_of changes) u ⊎ (new_offset zone u ≡ None)} u end (are.all u)
              (λ h. (let d = turned p zone_cycle (omega arith) u (omega (arith, ints, h, past)) in
              let v = d.moment in
              inr (none_later u v d.in_cycle (λ c. (let m = least v c d.in_cycle.late in
              let f = far u v h l d.in_cycle in
              omega (arith, ints, m, f))))))

      pub lasting : (u : ℤ) → offsets_of initial changes s 146_097 u ≡ offset_at zone u
      lasting u =
          let t = at_moment (new_offset zone) s initial changes are.rising are.each there in
          list_agrees zone sound (s +ℤ pos zone_cycle) initial changes listed_on first (moment_in_cycle s zone_cycle u)
          (turned_early s zone_cycle (omega arith) u)
          ∙ turned_same s zone_cycle (omega arith) (offset_at zone) (zone_repeats s t.to late t.is) u

    module _ (over_all : (u : ℤ) → Contains (map moment_of changes) u → u <ℤ p) where
      none_any : (u : ℤ) → p ≤ℤ u → new_offset zone u ≡ None
      none_any u l =
          let d = turned p zone_cycle (omega arith) u l in
          none_later u d.moment d.in_cycle (λ c. (let m = over_all d.moment c in omega (arith, ints, m, d.in_cycle.late)))

      pub constant : (u : ℤ) → offsets_of initial changes p 1 u ≡ offset_at zone u
      constant u =
          list_agrees zone sound end initial changes are first (moment_in_cycle p 86_400 u)
          (omega (arith, ints, turned_early p 86_400 (omega arith) u, past))
          ∙ turned_same p 86_400 (omega arith) (offset_at zone) (zone_stays none_any 86_400) u
