-- The local time by tables of onsets is the local time of the zone.
use Rattle.std.proofs.Common.{◌≡◌, ◌⊎◌, ℕ, zero, suc, ◌+◌, ◌<◌, Bool, true, false, ℤ, pos, nat_abs, ◌+ℤ◌, ◌-ℤ◌, ◌*ℤ◌, ◌≤ℤ◌, ◌<ℤ◌, List, [], ◌∷◌, Contains, Option, None, Some, inl, inr, refl, sym, ap, ◌∙◌, arith}
use Rattle.std.specs.Prelude.{if◌then◌else◌, int_le, int_lt, option_map}
use Rattle.std.proofs.lemmas.Bool.{false≢true}
use Rattle.std.proofs.lemmas.Int.{ints, by_lt_z}
use Rattle.rr_model.specs.Moment.{day_part}
use Rattle.rr_model.specs.Rising.{Rises}
use Rattle.rr_model.specs.Whole.{floor_mod}
use Rattle.rr_model.specs.declared.kind.Kind.TheVariants.{Moments}
use Rattle.rr_model.specs.declared.rule.Series.{Series}
use Rattle.rr_model.proofs.RisingSetLemmas.{Contains-cons_cases, Contains-head, Contains-none, Contains-tail, Rises-tail, below_rest}
use Rattle.rr_model.proofs.WholeLemmas.{floor_mod_below, floor_whole}
use Rattle.rr_model.proofs.YearLemmas.{year_1}
use Rattle.rr_zone.specs.Clocks.{local_by}
use Rattle.rr_zone.specs.Offsets.{IsBelowDay}
use Rattle.rr_zone.specs.Onsets.{earlier, first_moment, first_of_zone, first_onset, is_onset, last_of_zone, last_passing, last_up_to, with_last}
use Rattle.rr_zone.specs.Tables.{AreOnsets, AreTablesOf, IsTableOf, TablesTell, first_of, last_from, last_listed, last_of}
use Rattle.rr_zone.specs.declared.clock.Onset.{Onset}
use Rattle.rr_zone.specs.declared.clock.Table.{Table}
use Rattle.rr_zone.specs.declared.observance.Observance.{Observance}

-- ---- the last of a rising list

module _ (at : ℤ) where
  -- no moment of the list is so early
  abbrev pub HaveNone : List ℤ → Type 0
  HaveNone ts = (v : ℤ) → Contains ts v → v ≤ℤ at → ⊥

  -- the last moment of the list that is not after `at`
  pub record IsGreatest (ts : List ℤ) (u : ℤ) : Type 0 where
    pub there : Contains ts u
    pub early : u ≤ℤ at
    pub most : (v : ℤ) → Contains ts v → v ≤ℤ at → v ≤ℤ u

  abbrev pub Found : Option ℤ → List ℤ → Option ℤ → Type 0
  Found found ts r = ((r ≡ found) × HaveNone ts) ⊎ ((u : ℤ) × (r ≡ Some u) × IsGreatest ts u)

  one_more : (t : ℤ) (ts : List ℤ) (u : ℤ) → Rises int_lt (t ∷ ts) → IsGreatest ts u → IsGreatest (t ∷ ts) u
  one_more t ts u rises g = record {
    there = Contains-tail t ts u g.there;
    early = g.early;
    most = λ v c l. elim (Contains-cons_cases t ts v c) [
      | inl e ↦ (let b = below_rest int_lt (λ x h. grind (arith, ints)) (λ x y z h k. grind (arith, ints)) t ts rises u g.there in
          omega (arith, ints, b, e))
      | inr d ↦ g.most v d l
    ];
  }

  pub last_is : (found : Option ℤ) (ts : List ℤ) → Rises int_lt ts → Found found ts (last_from found ts at)
  last_is found [] rises = inl (refl, λ v c l. Contains-none v c)
  last_is found (t ∷ ts) rises = by (int_le t at) refl
      (last_is (Some t) ts (Rises-tail int_lt t ts rises)) (last_is found ts (Rises-tail int_lt t ts rises))
    where
      by : (b : Bool) → int_le t at ≡ b → Found (Some t) ts (last_from (Some t) ts at) → Found found ts (last_from found ts at)
          → Found found (t ∷ ts) (last_from (if b then Some t else found) ts at)
      by true e early late = elim early [
        | inl none ↦ inr (
          t,
          none.0,
          record {
            there = Contains-head t ts;
            early = omega (arith, ints, e);
            most = λ v c l. elim (Contains-cons_cases t ts v c) [ inl q ↦ omega (arith, ints, q) | inr d ↦ absurd (none.1 v d l) ];
          },
        )
        | inr some ↦ inr (some.0, some.1, one_more t ts some.0 rises some.2)
      ]
      by false e early late = elim late [
        | inl none ↦ inl (none.0, λ v c l. elim (Contains-cons_cases t ts v c) [ inl q ↦ omega (arith, ints, q, e, l) | inr d ↦ none.1 v d l ])
        | inr some ↦ inr (some.0, some.1, one_more t ts some.0 rises some.2)
      ]

-- ---- the last moment that passes a test

module _ (test : ℤ → Bool) where
  pub passing_is : (n : ℕ) (t u : ℤ) → test u ≡ true → u ≤ℤ t → (t -ℤ u) <ℤ pos n → ((v : ℤ) → u <ℤ v → v ≤ℤ t → test v ≡ false)
      → last_passing test t n ≡ Some u
  passing_is zero t u e l m none = absurd (omega (arith, ints, l, m))
  passing_is (suc n) t u e l m none =
      by (test t) refl (λ q. passing_is n (t -ℤ pos 1) u e (lower q) (omega (arith, ints, m)) (λ v a b. none v a (omega (arith, ints, b))))
    where
      lower : test t ≡ false → u ≤ℤ (t -ℤ pos 1)
      lower q = by_lt_z {P = u ≤ℤ (t -ℤ pos 1)} u t (λ h. omega (arith, ints, h))
          (λ h. (let same : u ≡ t = omega (arith, ints, h, l) in absurd (false≢true (sym q ∙ ap test (sym same) ∙ e))))

      by : (b : Bool) → test t ≡ b → (test t ≡ false → last_passing test (t -ℤ pos 1) n ≡ Some u)
          → (if b then Some t else last_passing test (t -ℤ pos 1) n) ≡ Some u
      by true q more =
          by_lt_z {P = Some t ≡ Some u} u t (λ h. absurd (false≢true (sym (none t h (omega (arith, ints))) ∙ q)))
          (λ h. (let same : t ≡ u = omega (arith, ints, h, l) in ap Some same))
      by false q more = more q

  pub passing_none : (n : ℕ) (t : ℤ) → ((v : ℤ) → v ≤ℤ t → (t -ℤ v) <ℤ pos n → test v ≡ false) → last_passing test t n ≡ None
  passing_none zero t none = refl
  passing_none (suc n) t none =
      let here : test t ≡ false = none t (omega (arith, ints)) (omega (arith, ints)) in
      ap (λ b. if b then Some t else last_passing test (t -ℤ pos 1) n) here
      ∙ passing_none n (t -ℤ pos 1) (λ v a b. none v (omega (arith, ints, a)) (omega (arith, ints, b)))

-- ---- one observance

-- a moment lies on its day
pub day_of : (w : ℤ) → ((day_part Moments w *ℤ pos 86_400) ≤ℤ w) × (w <ℤ ((day_part Moments w *ℤ pos 86_400) +ℤ pos 86_400))
day_of w =
    let e = floor_whole w 86_400 (omega arith) in
    let b : floor_mod w 86_400 < 86_400 = floor_mod_below w 86_400 (omega arith) in
    (omega (arith, ints, e, b), omega (arith, ints, e, b))

module _ (series : Series) (from last : ℤ) (onsets : List ℤ) (table : AreOnsets series from (last +ℤ pos 1) onsets) (at : ℤ)
    (late_at : day_part Moments at <ℤ last) (below : IsBelowDay from) where
  -- local time, as it was before an onset
  abbrev local : ℤ
  local = at +ℤ from

  -- an onset from the year 1 on that is not after local time is in the table
  in_table : (w : ℤ) → first_moment ≤ℤ w → w ≤ℤ local → is_onset series w ≡ true → Contains onsets (w -ℤ from)
  in_table w a b e =
      let d = day_of w in
      let y = year_1 in
      let back : (w -ℤ from) +ℤ from ≡ w = omega (arith, ints) in
      (table.exact (w -ℤ from)).1 (record {
        late = rw back (omega (arith, ints, d.1, a, y));
        early = rw back (omega (arith, ints, d.0, b, (day_of at).1, late_at, below.high));
        stands = rw back e;
      })

  -- what is in the table is an onset from the year 1 on
  of_table : (u : ℤ) → Contains onsets u → (first_moment ≤ℤ (u +ℤ from)) × (is_onset series (u +ℤ from) ≡ true)
  of_table u c =
      let l = (table.exact u).0 c in
      let d = day_of (u +ℤ from) in
      let late = l.late in
      let y = year_1 in
      (omega (arith, ints, d.0, late, y), l.stands)

  found_none : HaveNone at onsets → option_map (λ t. t -ℤ from) (last_up_to (is_onset series) local) ≡ None
  found_none none = by (int_le first_moment local) refl
    where
      nothing : int_le first_moment local ≡ true → (v : ℤ) → v ≤ℤ local → (local -ℤ v) <ℤ pos (nat_abs (local -ℤ first_moment) + 1)
          → is_onset series v ≡ false
      nothing e v a b = test (is_onset series v) refl
        where
          test : (x : Bool) → is_onset series v ≡ x → is_onset series v ≡ false
          test false q = q
          test true q = absurd (none (v -ℤ from) (in_table v (omega (arith, ints, e, a, b)) a q) (omega (arith, ints, a)))

      by : (b : Bool) → int_le first_moment local ≡ b
          → option_map (λ t. t -ℤ from) (if b then last_passing (is_onset series) local (nat_abs (local -ℤ first_moment) + 1) else None) ≡ None
      by false e = refl
      by true e =
          ap (option_map (λ t. t -ℤ from)) (passing_none (is_onset series) (nat_abs (local -ℤ first_moment) + 1) local (nothing e))

  found_some : (u : ℤ) → IsGreatest at onsets u → option_map (λ t. t -ℤ from) (last_up_to (is_onset series) local) ≡ Some u
  found_some u g = by (int_le first_moment local) refl
    where
      early : u ≤ℤ at
      early = g.early

      has : (first_moment ≤ℤ (u +ℤ from)) × (is_onset series (u +ℤ from) ≡ true)
      has = of_table u g.there

      none : (v : ℤ) → (u +ℤ from) <ℤ v → v ≤ℤ local → is_onset series v ≡ false
      none v a b = test (is_onset series v) refl
        where
          test : (x : Bool) → is_onset series v ≡ x → is_onset series v ≡ false
          test false q = q
          test true q =
              let first = has.0 in
              let m = g.most (v -ℤ from) (in_table v (omega (arith, ints, first, a)) b q) (omega (arith, ints, b)) in
              absurd (omega (arith, ints, m, a))

      by : (b : Bool) → int_le first_moment local ≡ b
          → option_map (λ t. t -ℤ from) (if b then last_passing (is_onset series) local (nat_abs (local -ℤ first_moment) + 1) else None) ≡ Some u
      by false e = let first = has.0 in let l = early in absurd (omega (arith, ints, e, first, l))
      by true e =
          let first = has.0 in
          let l = early in
          let p = passing_is (is_onset series) (nat_abs (local -ℤ first_moment) + 1) local (u +ℤ from) has.1 (omega (arith, ints, l))
          (omega (arith, ints, first, l, e)) none in
          let back : (u +ℤ from) -ℤ from ≡ u = omega (arith, ints) in
          ap (option_map (λ t. t -ℤ from)) p ∙ ap Some back

  pub table_tells : last_from None onsets at ≡ option_map (λ t. t -ℤ from) (last_up_to (is_onset series) local)
  table_tells = elim (last_is at None onsets table.rises) [
    | inl none ↦ none.0 ∙ sym (found_none none.1)
    | inr some ↦ some.1 ∙ sym (found_some some.0 some.2)
  ]

-- ---- all observances

module _ (last at : ℤ) (late_at : day_part Moments at <ℤ last) where
  one_is : (o : Observance) (x : Table) → IsTableOf (last +ℤ pos 1) o x → (found : Option Onset)
      → with_last found x.from x.to (last_listed x.onsets at)
      ≡ with_last found o.from o.to (option_map (λ t. t -ℤ o.from) (last_up_to (is_onset o.series) (at +ℤ o.from)))
  one_is o x t found =
      let e = table_tells o.series o.from last x.onsets t.onsets at late_at t.below in
      ap (λ z. with_last found z x.to (last_listed x.onsets at)) t.from
      ∙ ap (λ z. with_last found o.from z (last_listed x.onsets at)) t.to ∙ ap (with_last found o.from o.to) e

  pub lasts_are : (zone : List Observance) (tables : List Table) → AreTablesOf (last +ℤ pos 1) zone tables → (found : Option Onset)
      → last_of found tables at ≡ last_of_zone found zone at
  lasts_are [] [] t found = refl
  lasts_are [] (x ∷ xs) t found = absurd t
  lasts_are (o ∷ os) [] t found = absurd t
  lasts_are (o ∷ os) (x ∷ xs) t found =
      ap (λ z. last_of z xs at) (one_is o x t.0 found)
      ∙ lasts_are os xs t.1 (with_last found o.from o.to (option_map (λ t. t -ℤ o.from) (last_up_to (is_onset o.series) (at +ℤ o.from))))

pub firsts_are : (last : ℤ) (zone : List Observance) (tables : List Table) → AreTablesOf (last +ℤ pos 1) zone tables → (found : Option Onset)
    → first_of found tables ≡ first_of_zone found zone
firsts_are last [] [] t found = refl
firsts_are last [] (x ∷ xs) t found = absurd t
firsts_are last (o ∷ os) [] t found = absurd t
firsts_are last (o ∷ os) (x ∷ xs) t found =
    let e : Some (earlier found (record { at = x.first; from = x.from; to = x.to }))
    ≡ Some (earlier found (record { at = first_onset o; from = o.from; to = o.to })) = rw (t.0.first, t.0.from, t.0.to) refl in
    ap (λ z. first_of z xs) e ∙ firsts_are last os xs t.1 (Some (earlier found (record { at = first_onset o; from = o.from; to = o.to })))

-- the tables of a zone tell its local time
pub tables_tell : TablesTell
tables_tell zone tables last at t years late =
    ap (λ z. local_by z (first_of None tables) at) (lasts_are last at late zone tables t.each None)
    ∙ ap (λ z. local_by (last_of_zone None zone at) z at) (firsts_are last zone tables t.each None)
