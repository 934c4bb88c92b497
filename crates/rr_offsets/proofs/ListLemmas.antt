-- A list of changes has the offsets of its zone.
use Rattle.std.proofs.Common.{◌≡◌, ℕ, zero, suc, true, false, ℤ, pos, nat_abs, ◌+ℤ◌, ◌-ℤ◌, ◌≤ℤ◌, ◌<ℤ◌, List, [], ◌∷◌, map, All, Contains, Option, None, Some, inl, inr, refl, sym, ap, subst, ◌∙◌, arith}
use Rattle.std.specs.Prelude.{int_le, int_lt, unwrap_or}
use Rattle.std.proofs.lemmas.Int.{ints, by_lt_z}
use Rattle.std.proofs.lemmas.List.Elements.{All-head, All-tail}
use Rattle.std.proofs.lemmas.Option.{none-some}
use Rattle.rr_model.specs.Rising.{Rises}
use Rattle.rr_model.proofs.RisingSetLemmas.{Contains-cons_cases, Contains-head, Contains-none, Contains-tail, Rises-tail, below_rest}
use Rattle.rr_true.specs.Changes.{moment_of, offset_by}
use Rattle.rr_true.specs.declared.change.Change.{Change}
use Rattle.rr_zone.specs.Observances.{IsSoundObservance}
use Rattle.rr_zone.specs.Onsets.{first_moment, first_of_zone, is_onset, last_of_zone, last_up_to}
use Rattle.rr_zone.specs.declared.observance.Observance.{Observance}
use Rattle.rr_offsets.specs.Listing.{AreChangesOf}
use Rattle.rr_offsets.specs.Offsets.{begins, new_offset, offset_at, offset_before, offset_from}
use Rattle.rr_offsets.proofs.StepLemmas.{offset_back}

-- ---- a rising list of changes

-- before a first change the offset is the one before it
before_first : (offset : ℤ) (x u : ℤ) (changes : List Change) → Rises int_lt (x ∷ map moment_of changes) → u ≤ℤ x → offset_by offset changes u ≡ offset
before_first offset x u [] rises l = refl
before_first offset x u (c ∷ cs) rises l = (let e : int_lt u c.at ≡ true = grind (arith, ints, rises.0, l) in rw e refl)

module _ (stated : ℤ → Option ℤ) (u : ℤ) where
  -- what a list has at a moment that it has
  pub record IsAt (offset : ℤ) (changes : List Change) : Type 0 where
    pub to : ℤ
    pub is : stated u ≡ Some to
    pub has : offset_by offset changes u ≡ to

  pub at_moment : (offset : ℤ) (changes : List Change) → Rises int_lt (map moment_of changes) → All (λ change. stated change.at ≡ Some change.offset) changes
      → Contains (map moment_of changes) u → IsAt offset changes
  at_moment offset [] rises each c = absurd (Contains-none u c)
  at_moment offset (c ∷ cs) rises each h =
      elim (Contains-cons_cases c.at (map moment_of cs) u h) [
        | inl e ↦
            (let f : int_lt u c.at ≡ false = grind (arith, ints, e) in
            let s = All-head (λ change. stated change.at ≡ Some change.offset) c cs each in
            record {
              to = c.offset;
              is = subst (λ x. stated x ≡ Some c.offset) e s;
              has = rw f (before_first c.offset c.at u cs rises (omega (arith, ints, e)));
            })
        | inr d ↦
            (let b = below_rest int_lt (λ x l. grind (arith, ints)) (λ x y z l k. grind (arith, ints)) c.at (map moment_of cs) rises u d in
            let f : int_lt u c.at ≡ false = grind (arith, ints, b) in
            let more = at_moment c.offset cs (Rises-tail int_lt c.at (map moment_of cs) rises)
            (All-tail (λ change. stated change.at ≡ Some change.offset) c cs each) d in
            record { to = more.to; is = more.is; has = rw f more.has })
      ]

  -- at a moment without a change the offset is that of a second earlier
  absent : (offset : ℤ) (changes : List Change) → (Contains (map moment_of changes) u → ⊥)
      → offset_by offset changes u ≡ offset_by offset changes (u -ℤ pos 1)
  absent offset [] none = refl
  absent offset (c ∷ cs) none =
      by_lt_z {P = offset_by offset (c ∷ cs) u ≡ offset_by offset (c ∷ cs) (u -ℤ pos 1)} u c.at
      (λ l. (let e : int_lt u c.at ≡ true = grind (arith, ints, l) in
      let f : int_lt (u -ℤ pos 1) c.at ≡ true = grind (arith, ints, l) in
      rw (e, f) refl))
      (λ l. by_lt_z {P = offset_by offset (c ∷ cs) u ≡ offset_by offset (c ∷ cs) (u -ℤ pos 1)} c.at u
      (λ m. (let e : int_lt u c.at ≡ false = grind (arith, ints, l) in
      let f : int_lt (u -ℤ pos 1) c.at ≡ false = grind (arith, ints, m) in
      rw (e, f) (absent c.offset cs (λ d. none (Contains-tail c.at (map moment_of cs) u d)))))
      (λ m. (let e : c.at ≡ u = omega (arith, ints, l, m) in
      absurd (none (subst (Contains (map moment_of (c ∷ cs))) e (Contains-head c.at (map moment_of cs)))))))

pub some_none : (x : ℤ) (o : Option ℤ) → o ≡ Some x → o ≡ None → ⊥
some_none x o e f = none-some x (sym f ∙ e)

module _ (stated : ℤ → Option ℤ) (end initial : ℤ) (changes : List Change) (are : AreChangesOf stated end changes) where
  pub list_back : (u : ℤ) → u <ℤ end → offset_by initial changes u ≡ unwrap_or (stated u) (offset_by initial changes (u -ℤ pos 1))
  list_back u l = elim (are.all u l) [
    | inl c ↦
        (let t = at_moment stated u initial changes are.rising are.each c in
        rw t.is t.has)
    | inr none ↦
        (let out : Contains (map moment_of changes) u → ⊥ = λ c. (let t = at_moment stated u initial changes are.rising are.each c in
        some_none t.to (stated u) t.is none) in
        rw none (absent stated u initial changes out))
  ]

-- ---- the list and the zone

-- no observance begins so early
early_onset : (o : Observance) (u : ℤ) → (u +ℤ o.from) <ℤ first_moment → begins o u ≡ false
early_onset o u l = (let e : int_le first_moment (u +ℤ o.from) ≡ false = grind (arith, ints, l) in rw e refl)

early_last : (o : Observance) (u : ℤ) → (u +ℤ o.from) <ℤ first_moment → last_up_to (is_onset o.series) (u +ℤ o.from) ≡ None
early_last o u l = (let e : int_le first_moment (u +ℤ o.from) ≡ false = grind (arith, ints, l) in rw e refl)

-- a day before the year 1
abbrev pub base : ℤ
base = first_moment -ℤ pos 86_400

pub early_new : (zone : List Observance) → All IsSoundObservance zone → (u : ℤ) → u ≤ℤ base → new_offset zone u ≡ None
early_new [] sound u l = refl
early_new (o ∷ os) sound u l =
    let b = (All-head IsSoundObservance o os sound).from.high in
    let e = early_onset o u (omega (arith, ints, b, l)) in
    rw (e, early_new os (All-tail IsSoundObservance o os sound) u l) refl

early_none : (zone : List Observance) → All IsSoundObservance zone → (u : ℤ) → u ≤ℤ base → last_of_zone None zone u ≡ None
early_none [] sound u l = refl
early_none (o ∷ os) sound u l =
    let b = (All-head IsSoundObservance o os sound).from.high in
    let e = early_last o u (omega (arith, ints, b, l)) in
    rw e (early_none os (All-tail IsSoundObservance o os sound) u l)

module _ (zone : List Observance) (sound : All IsSoundObservance zone) where
  early_offset : (u : ℤ) → u ≤ℤ base → offset_at zone u ≡ offset_before (first_of_zone None zone)
  unfolding offset_at
  early_offset u l = ap (λ last. offset_from last (first_of_zone None zone)) (early_none zone sound u l)

  module _ (end initial : ℤ) (changes : List Change) (are : AreChangesOf (new_offset zone) end changes)
      (first : initial ≡ offset_before (first_of_zone None zone)) where
    early_list : (u : ℤ) → u ≤ℤ base → offset_by initial changes u ≡ initial
    early_list u l = by changes are.each
      where
        by : (cs : List Change) → All (λ change. new_offset zone change.at ≡ Some change.offset) cs → offset_by initial cs u ≡ initial
        by [] each = refl
        by (c ∷ cs) each =
            let s = All-head (λ change. new_offset zone change.at ≡ Some change.offset) c cs each in
            by_lt_z {P = offset_by initial (c ∷ cs) u ≡ initial} u c.at
            (λ m. (let e : int_lt u c.at ≡ true = grind (arith, ints, m) in rw e refl))
            (λ m. absurd (some_none c.offset (new_offset zone c.at) s (early_new zone sound c.at (omega (arith, ints, l, m)))))

    up : (n : ℕ) → (base +ℤ pos n) <ℤ end → offset_by initial changes (base +ℤ pos n) ≡ offset_at zone (base +ℤ pos n)
    up zero l =
        let b : (base +ℤ pos 0) ≤ℤ base = omega (arith, ints) in
        early_list (base +ℤ pos 0) b ∙ first ∙ sym (early_offset (base +ℤ pos 0) b)
    up (suc n) l =
        let u = base +ℤ pos (suc n) in
        let e : u -ℤ pos 1 ≡ base +ℤ pos n = omega (arith, ints) in
        let before = up n (omega (arith, ints, l)) in
        list_back (new_offset zone) end initial changes are u l
        ∙ ap (λ x. unwrap_or (new_offset zone u) (offset_by initial changes x)) e
        ∙ ap (unwrap_or (new_offset zone u)) before
        ∙ ap (λ x. unwrap_or (new_offset zone u) (offset_at zone x)) (sym e)
        ∙ sym (offset_back zone u)

    -- before the end the list has the offsets of the zone
    pub list_agrees : (u : ℤ) → u <ℤ end → offset_by initial changes u ≡ offset_at zone u
    list_agrees u l =
        by_lt_z {P = offset_by initial changes u ≡ offset_at zone u} base u
        (λ m. (let e : base +ℤ pos (nat_abs (u -ℤ base)) ≡ u = omega (arith, ints, m) in
        subst (λ x. offset_by initial changes x ≡ offset_at zone x) e (up (nat_abs (u -ℤ base)) (omega (arith, ints, e, l)))))
        (λ m. early_list u m ∙ first ∙ sym (early_offset u m))
