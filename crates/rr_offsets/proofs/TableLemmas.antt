-- The changes at the onsets of a zone's tables are those of the zone.
use Rattle.std.proofs.Common.{◌≡◌, ◌⊎◌, ◌<◌, Bool, true, false, ◌||◌, ℤ, pos, ◌+ℤ◌, ◌*ℤ◌, ◌≤ℤ◌, ◌<ℤ◌, List, [], ◌∷◌, map, All, Contains, Option, None, Some, inl, inr, refl, sym, ap, subst, ◌∙◌, arith}
use Rattle.std.specs.Prelude.{◌↔◌, if◌then◌else◌, int_le, int_lt, unwrap_or}
use Rattle.std.specs.List.{list_any}
use Rattle.std.specs.Ordering.{int_eq}
use Rattle.std.proofs.lemmas.Bool.{false≢true, and_parts, false_from_ne_true}
use Rattle.std.proofs.lemmas.Int.{ints}
use Rattle.std.specs.List.Sorted.{IsPermutation}
use Rattle.std.proofs.lemmas.List.Elements.{All-cons, Contains-append_cases, Contains-append_left, Contains-append_right}
use Rattle.std.proofs.lemmas.List.Sorted.{Contains-permutation, IsPermutation-sym}
use Rattle.std.proofs.lemmas.Option.{none-some, same_Some}
use Rattle.rr_model.specs.Moment.{day_part}
use Rattle.rr_model.specs.Rising.{Rises, with_value}
use Rattle.rr_model.specs.Rule.Candidate.{lists}
use Rattle.rr_model.specs.Whole.{floor_mod}
use Rattle.rr_model.specs.declared.kind.Kind.TheVariants.{Moments}
use Rattle.rr_model.proofs.RisingLemmas.{Rises-with_value}
use Rattle.rr_model.proofs.RisingSetLemmas.{Contains-cons_cases, Contains-head, Contains-none, Contains-tail, Rises-tail, below_rest, one_list_of_days, set_itself}
use Rattle.rr_model.proofs.WholeLemmas.{floor_mod_below, floor_whole}
use Rattle.rr_model.proofs.WithValueLemmas.{with_value-has, with_value-keeps, with_value-only}
use Rattle.rr_model.proofs.YearLemmas.{year_1}
use Rattle.rr_true.specs.Changes.{moment_of}
use Rattle.rr_true.specs.declared.change.Change.{Change}
use Rattle.rr_zone.specs.Onsets.{earlier, first_moment, first_of_zone, first_onset, is_onset}
use Rattle.rr_zone.specs.Tables.{AreListed, AreTablesOf, IsTableOf, first_of}
use Rattle.rr_zone.specs.declared.clock.Onset.{Onset}
use Rattle.rr_zone.specs.declared.clock.Table.{Table}
use Rattle.rr_zone.specs.declared.observance.Observance.{Observance}
use Rattle.rr_offsets.specs.Listing.{AreChangesOf, all_onsets, change_on, changes_to, first_from, listed_offset, with_early, with_onsets, with_tables}
use Rattle.rr_offsets.specs.Offsets.{begins, new_offset, offset_before}

-- ---- membership by a test

pub listed : (xs : List ℤ) (t : ℤ) → (lists xs t ≡ true) ↔ Contains xs t
listed [] t = (λ h. absurd (false≢true h), λ c. absurd (Contains-none t c))
listed (x ∷ xs) t = (
  λ h. (elim (int_eq x t) as (λ b. int_eq x t ≡ b → (b || list_any (λ x. int_eq x t) xs) ≡ true → Contains (x ∷ xs) t) [
    | true ↦ λ e f. (let same : x ≡ t = grind (arith, ints) in subst (Contains (x ∷ xs)) same (Contains-head x xs))
    | false ↦ λ e f. Contains-tail x xs t ((listed xs t).0 f)
  ] refl h),
  λ c. elim (Contains-cons_cases x xs t c) [
    | inl e ↦ (let i : int_eq x t ≡ true = grind (arith, ints) in rw i refl)
    | inr d ↦ rw ((listed xs t).1 d) (elim (int_eq x t) as (λ b. (b || true) ≡ true) [ true ↦ refl | false ↦ refl ])
  ],
)

-- ---- the moments of tables

module _ (end : ℤ) where
  early_rises : (dates : List ℤ) (t : ℤ) → Rises int_lt dates → Rises int_lt (with_early end dates t)
  early_rises dates t r = elim (int_lt t end) as (λ b. Rises int_lt (if b then with_value int_lt dates t else dates)) [
    | true ↦ Rises-with_value int_lt dates t r
    | false ↦ r
  ]

  early_keeps : (dates : List ℤ) (t u : ℤ) → Contains dates u → Contains (with_early end dates t) u
  early_keeps dates t u c = elim (int_lt t end) as (λ b. Contains (if b then with_value int_lt dates t else dates) u) [
    | true ↦ with_value-keeps t dates u c
    | false ↦ c
  ]

  early_has : (dates : List ℤ) (t : ℤ) → t <ℤ end → Contains (with_early end dates t) t
  early_has dates t l = (let e : int_lt t end ≡ true = grind (arith, ints, l) in rw e (with_value-has t dates))

  early_only : (dates : List ℤ) (t u : ℤ) → Contains (with_early end dates t) u → Contains dates u ⊎ ((t ≡ u) × (u <ℤ end))
  early_only dates t u c = by (int_lt t end) refl c
    where
      by : (b : Bool) → int_lt t end ≡ b → Contains (if b then with_value int_lt dates t else dates) u → Contains dates u ⊎ ((t ≡ u) × (u <ℤ end))
      by true e d = elim (with_value-only t dates u d) [ inl f ↦ inl f | inr f ↦ inr (f, omega (arith, ints, e, f)) ]
      by false e d = inl d

  onsets_rise : (dates ts : List ℤ) → Rises int_lt dates → Rises int_lt (with_onsets end dates ts)
  onsets_rise dates [] r = r
  onsets_rise dates (t ∷ ts) r = onsets_rise (with_early end dates t) ts (early_rises dates t r)

  onsets_keep : (dates ts : List ℤ) (u : ℤ) → Contains dates u → Contains (with_onsets end dates ts) u
  onsets_keep dates [] u c = c
  onsets_keep dates (t ∷ ts) u c = onsets_keep (with_early end dates t) ts u (early_keeps dates t u c)

  onsets_have : (dates ts : List ℤ) (u : ℤ) → u <ℤ end → Contains ts u → Contains (with_onsets end dates ts) u
  onsets_have dates [] u l c = absurd (Contains-none u c)
  onsets_have dates (t ∷ ts) u l c = elim (Contains-cons_cases t ts u c) [
    | inl e ↦ onsets_keep (with_early end dates t) ts u
        (subst (Contains (with_early end dates t)) e (early_has dates t (omega (arith, ints, e, l))))
    | inr d ↦ onsets_have (with_early end dates t) ts u l d
  ]

  onsets_only : (dates ts : List ℤ) (u : ℤ) → Contains (with_onsets end dates ts) u → Contains dates u ⊎ (Contains ts u × (u <ℤ end))
  onsets_only dates [] u c = inl c
  onsets_only dates (t ∷ ts) u c = elim (onsets_only (with_early end dates t) ts u c) [
    | inl d ↦ elim (early_only dates t u d) [
      | inl e ↦ inl e
      | inr e ↦ inr (subst (Contains (t ∷ ts)) e.0 (Contains-head t ts), e.1)
    ]
    | inr d ↦ inr (Contains-tail t ts u d.0, d.1)
  ]

  tables_rise : (dates : List ℤ) (xs : List Table) → Rises int_lt dates → Rises int_lt (with_tables end dates xs)
  tables_rise dates [] r = r
  tables_rise dates (x ∷ xs) r = tables_rise (with_onsets end dates x.onsets) xs (onsets_rise dates x.onsets r)

  tables_keep : (dates : List ℤ) (xs : List Table) (u : ℤ) → Contains dates u → Contains (with_tables end dates xs) u
  tables_keep dates [] u c = c
  tables_keep dates (x ∷ xs) u c = tables_keep (with_onsets end dates x.onsets) xs u (onsets_keep dates x.onsets u c)

  -- a moment before the end is put, or no table lists it
  tables_all : (dates : List ℤ) (xs : List Table) (u : ℤ) → u <ℤ end → Contains (with_tables end dates xs) u ⊎ (listed_offset xs u ≡ None)
  tables_all dates [] u l = inr refl
  tables_all dates (x ∷ xs) u l = by (lists x.onsets u) refl (tables_all (with_onsets end dates x.onsets) xs u l)
    where
      by : (b : Bool) → lists x.onsets u ≡ b
          → Contains (with_tables end (with_onsets end dates x.onsets) xs) u ⊎ (listed_offset xs u ≡ None)
          → Contains (with_tables end (with_onsets end dates x.onsets) xs) u ⊎ ((if b then Some x.to else listed_offset xs u) ≡ None)
      by true e more = inl (tables_keep (with_onsets end dates x.onsets) xs u (onsets_have dates x.onsets u l ((listed x.onsets u).0 e)))
      by false e more = more

  -- a moment that tables list, and its offset
  record IsListedAt (xs : List Table) (u : ℤ) : Type 0 where
    early : u <ℤ end
    to : ℤ
    is : listed_offset xs u ≡ Some to

  tables_only : (dates : List ℤ) (xs : List Table) (u : ℤ) → Contains (with_tables end dates xs) u → Contains dates u ⊎ IsListedAt xs u
  tables_only dates [] u c = inl c
  tables_only dates (x ∷ xs) u c = by (lists x.onsets u) refl (tables_only (with_onsets end dates x.onsets) xs u c)
    where
      head : Contains dates u ⊎ (Contains x.onsets u × (u <ℤ end)) → lists x.onsets u ≡ false → Contains dates u
      head (inl d) e = d
      head (inr d) e = absurd (false≢true (sym e ∙ (listed x.onsets u).1 d.0))

      front : Contains dates u ⊎ (Contains x.onsets u × (u <ℤ end)) → lists x.onsets u ≡ true → Contains dates u ⊎ IsListedAt (x ∷ xs) u
      front (inl d) e = inl d
      front (inr d) e = inr (record { early = d.1; to = x.to; is = rw e refl })

      by : (b : Bool) → lists x.onsets u ≡ b → Contains (with_onsets end dates x.onsets) u ⊎ IsListedAt xs u → Contains dates u ⊎ IsListedAt (x ∷ xs) u
      by true e (inl d) = front (onsets_only dates x.onsets u d) e
      by true e (inr d) = inr (record { early = d.early; to = x.to; is = rw e refl })
      by false e (inl d) = inl (head (onsets_only dates x.onsets u d) e)
      by false e (inr d) = inr (record { early = d.early; to = d.to; is = rw e d.is })

  -- ---- by way of all onsets in another order

  tables_have : (dates : List ℤ) (xs : List Table) (u : ℤ) → u <ℤ end → Contains (all_onsets xs) u → Contains (with_tables end dates xs) u
  tables_have dates [] u l c = absurd (Contains-none u c)
  tables_have dates (x ∷ xs) u l c = elim (Contains-append_cases x.onsets (all_onsets xs) u c) [
    | inl d ↦ tables_keep (with_onsets end dates x.onsets) xs u (onsets_have dates x.onsets u l d)
    | inr d ↦ tables_have (with_onsets end dates x.onsets) xs u l d
  ]

  tables_from : (dates : List ℤ) (xs : List Table) (u : ℤ) → Contains (with_tables end dates xs) u → Contains dates u ⊎ (Contains (all_onsets xs) u × (u <ℤ end))
  tables_from dates [] u c = inl c
  tables_from dates (x ∷ xs) u c = elim (tables_from (with_onsets end dates x.onsets) xs u c) [
    | inl d ↦ elim (onsets_only dates x.onsets u d) [
      | inl e ↦ inl e
      | inr e ↦ inr (Contains-append_left x.onsets (all_onsets xs) u e.0, e.1)
    ]
    | inr d ↦ inr (Contains-append_right x.onsets (all_onsets xs) u d.0, d.1)
  ]

  -- all onsets in any order, put one after the other
  pub in_order : (tables : List Table) (sorted : List ℤ) → IsPermutation (all_onsets tables) sorted → with_onsets end [] sorted ≡ with_tables end [] tables
  in_order tables sorted same =
      one_list_of_days (Contains (with_tables end [] tables)) (with_onsets end [] sorted) (with_tables end [] tables)
      (record { rises = onsets_rise [] sorted tt; exact = λ u. (there u, back u) })
      (set_itself int_lt (with_tables end [] tables) (tables_rise [] tables tt))
    where
      there : (u : ℤ) → Contains (with_onsets end [] sorted) u → Contains (with_tables end [] tables) u
      there u c = elim (onsets_only [] sorted u c) [
        | inl d ↦ absurd (Contains-none u d)
        | inr d ↦ tables_have [] tables u d.1 (Contains-permutation sorted (all_onsets tables) u (IsPermutation-sym (all_onsets tables) sorted same) d.0)
      ]

      back : (u : ℤ) → Contains (with_tables end [] tables) u → Contains (with_onsets end [] sorted) u
      back u c = elim (tables_from [] tables u c) [
        | inl d ↦ absurd (Contains-none u d)
        | inr d ↦ onsets_have [] sorted u d.1 (Contains-permutation (all_onsets tables) sorted u same d.0)
      ]

  -- ---- the changes at them

  module _ (tables : List Table) where
    same_moments : (ms : List ℤ) → map moment_of (map (change_on tables) ms) ≡ ms
    same_moments [] = refl
    same_moments (t ∷ ts) = ap (λ us. t ∷ us) (same_moments ts)

    module _ (stated : ℤ → Option ℤ) (same : (u : ℤ) → u <ℤ end → listed_offset tables u ≡ stated u) where
      one_each : (t : ℤ) → IsListedAt tables t → stated t ≡ Some (change_on tables t).offset
      one_each t l = sym (same t l.early) ∙ l.is ∙ ap Some (sym (ap (λ o. unwrap_or o (pos 0)) l.is))

      all_each : (ms : List ℤ) → ((u : ℤ) → Contains ms u → IsListedAt tables u) → All (λ change. stated change.at ≡ Some change.offset) (map (change_on tables) ms)
      all_each [] all = λ k d l. absurd (omega arith)
      all_each (t ∷ ts) all =
          All-cons (λ change. stated change.at ≡ Some change.offset) (change_on tables t) (map (change_on tables) ts) (one_each t (all t (Contains-head t ts)))
          (all_each ts (λ u c. all u (Contains-tail t ts u c)))

      pub are_changes : AreChangesOf stated end (changes_to end tables)
      are_changes =
          let ms = with_tables end [] tables in
          record {
            rising = subst (Rises int_lt) (sym (same_moments ms)) (tables_rise [] tables tt);
            each = all_each ms (λ u c. elim (tables_only [] tables u c) [ inl d ↦ absurd (Contains-none u d) | inr d ↦ d ]);
            all = λ u l. elim (tables_all [] tables u l) [
              | inl c ↦ inl (subst (λ xs. Contains xs u) (sym (same_moments ms)) c)
              | inr e ↦ inr (sym (same u l) ∙ e)
            ];
          }

  -- the changes lie before the end
  early_each : (tables : List Table) (ms : List ℤ) → ((u : ℤ) → Contains ms u → IsListedAt tables u) → All (λ change. change.at <ℤ end) (map (change_on tables) ms)
  early_each tables [] all = λ k d l. absurd (omega arith)
  early_each tables (t ∷ ts) all =
      All-cons (λ change. change.at <ℤ end) (change_on tables t) (map (change_on tables) ts) (all t (Contains-head t ts)).early
      (early_each tables ts (λ u c. all u (Contains-tail t ts u c)))

  put_listed : (tables : List Table) (u : ℤ) → Contains (with_tables end [] tables) u → IsListedAt tables u
  put_listed tables u c = elim (tables_only [] tables u c) [ inl d ↦ absurd (Contains-none u d) | inr d ↦ d ]

  pub changes_early : (tables : List Table) → All (λ change. change.at <ℤ end) (changes_to end tables)
  changes_early tables = early_each tables (with_tables end [] tables) (put_listed tables)

  pub moment_early : (tables : List Table) (u : ℤ) → Contains (map moment_of (changes_to end tables)) u → u <ℤ end
  moment_early tables u c = (put_listed tables u (subst (λ xs. Contains xs u) (same_moments tables (with_tables end [] tables)) c)).early

-- ---- the tables of a zone

-- a moment lies on its day
day_of : (w : ℤ) → ((day_part Moments w *ℤ pos 86_400) ≤ℤ w) × (w <ℤ ((day_part Moments w *ℤ pos 86_400) +ℤ pos 86_400))
day_of w =
    let e = floor_whole w 86_400 (omega arith) in
    let b : floor_mod w 86_400 < 86_400 = floor_mod_below w 86_400 (omega arith) in
    (omega (arith, ints, e, b), omega (arith, ints, e, b))

module _ (last u : ℤ) (late : u <ℤ (last *ℤ pos 86_400)) where
  lists_begins : (o : Observance) (x : Table) → IsTableOf (last +ℤ pos 1) o x → lists x.onsets u ≡ begins o u
  lists_begins o x t = by (begins o u) refl
    where
      day : ((day_part Moments (u +ℤ o.from) *ℤ pos 86_400) ≤ℤ (u +ℤ o.from))
          × ((u +ℤ o.from) <ℤ ((day_part Moments (u +ℤ o.from) *ℤ pos 86_400) +ℤ pos 86_400))
      day = day_of (u +ℤ o.from)

      there : int_le first_moment (u +ℤ o.from) ≡ true → is_onset o.series (u +ℤ o.from) ≡ true → lists x.onsets u ≡ true
      there e f =
          let y = year_1 in
          let d = day in
          (listed x.onsets u).1 ((t.onsets.exact u).1 (record {
            late = omega (arith, ints, d.1, e, y);
            early = omega (arith, ints, d.0, late, t.below.high);
            stands = f;
          }))

      back : lists x.onsets u ≡ true → begins o u ≡ true
      back e =
          let l = (t.onsets.exact u).0 ((listed x.onsets u).0 e) in
          let y = year_1 in
          let d = day in
          let f = l.late in
          let g : int_le first_moment (u +ℤ o.from) ≡ true = grind (arith, ints, d.0, f, y) in
          rw (g, l.stands) refl

      by : (b : Bool) → begins o u ≡ b → lists x.onsets u ≡ b
      by true e = (let p = and_parts (int_le first_moment (u +ℤ o.from)) (is_onset o.series (u +ℤ o.from)) e in there p.0 p.1)
      by false e = false_from_ne_true (lists x.onsets u) (λ f. absurd (false≢true (sym e ∙ back f)))

  listed_is : (zone : List Observance) (tables : List Table) → AreTablesOf (last +ℤ pos 1) zone tables → listed_offset tables u ≡ new_offset zone u
  listed_is [] [] t = refl
  listed_is [] (x ∷ xs) t = absurd t
  listed_is (o ∷ os) [] t = absurd t
  listed_is (o ∷ os) (x ∷ xs) t =
      ap (λ b. if b then Some x.to else listed_offset xs u) (lists_begins o x t.0)
      ∙ ap (λ y. if begins o u then Some y else listed_offset xs u) t.0.to
      ∙ ap (λ y. if begins o u then Some o.to else y) (listed_is os xs t.1)

-- the changes of the tables up to a day are those of the zone
pub zone_changes : (zone : List Observance) (tables : List Table) (last : ℤ) → AreListed zone tables last
    → AreChangesOf (new_offset zone) (last *ℤ pos 86_400) (changes_to (last *ℤ pos 86_400) tables)
zone_changes zone tables last listed =
    are_changes (last *ℤ pos 86_400) tables (new_offset zone) (λ u l. listed_is last u l zone tables listed.each)

firsts_are : (end : ℤ) (zone : List Observance) (tables : List Table) → AreTablesOf end zone tables → (found : Option Onset)
    → first_of found tables ≡ first_of_zone found zone
firsts_are end [] [] t found = refl
firsts_are end [] (x ∷ xs) t found = absurd t
firsts_are end (o ∷ os) [] t found = absurd t
firsts_are end (o ∷ os) (x ∷ xs) t found =
    let e : Some (earlier found (record { at = x.first; from = x.from; to = x.to }))
    ≡ Some (earlier found (record { at = first_onset o; from = o.from; to = o.to })) = rw (t.0.first, t.0.from, t.0.to) refl in
    ap (λ z. first_of z xs) e ∙ firsts_are end os xs t.1 (Some (earlier found (record { at = first_onset o; from = o.from; to = o.to })))

-- the first onset of the tables is that of the zone
pub zone_first : (zone : List Observance) (tables : List Table) (last : ℤ) → AreListed zone tables last
    → offset_before (first_of None tables) ≡ offset_before (first_of_zone None zone)
zone_first zone tables last listed = ap offset_before (firsts_are (last +ℤ pos 1) zone tables listed.each None)

-- ---- the first change from a moment on

module _ (p : ℤ) where
  -- the first change from there on
  pub record IsFirstFrom (changes : List Change) (s : ℤ) : Type 0 where
    pub there : Contains (map moment_of changes) s
    pub late : p ≤ℤ s
    pub least : (u : ℤ) → Contains (map moment_of changes) u → p ≤ℤ u → s ≤ℤ u

  pub first_is : (changes : List Change) (s : ℤ) → Rises int_lt (map moment_of changes) → first_from changes p ≡ Some s → IsFirstFrom changes s
  first_is [] s rises e = absurd (none-some s e)
  first_is (c ∷ cs) s rises e = by (int_le p c.at) refl e (first_is cs s (Rises-tail int_lt c.at (map moment_of cs) rises))
    where
      by : (b : Bool) → int_le p c.at ≡ b → (if b then Some c.at else first_from cs p) ≡ Some s → (first_from cs p ≡ Some s → IsFirstFrom cs s)
          → IsFirstFrom (c ∷ cs) s
      by true f g more =
          let same : c.at ≡ s = same_Some c.at s g in
          record {
            there = subst (Contains (map moment_of (c ∷ cs))) same (Contains-head c.at (map moment_of cs));
            late = omega (arith, ints, same, f);
            least = λ u h l. elim (Contains-cons_cases c.at (map moment_of cs) u h) [
              | inl d ↦ omega (arith, ints, same, d)
              | inr d ↦
                  (let b = below_rest int_lt (λ x m. grind (arith, ints)) (λ x y z m k. grind (arith, ints)) c.at (map moment_of cs) rises u d in
                  omega (arith, ints, same, b))
            ];
          }
      by false f g more =
          let m = more g in
          record {
            there = Contains-tail c.at (map moment_of cs) s m.there;
            late = m.late;
            least = λ u h l. elim (Contains-cons_cases c.at (map moment_of cs) u h) [
              | inl d ↦ absurd (omega (arith, ints, d, f, l))
              | inr d ↦ m.least u d l
            ];
          }

  pub none_from : (changes : List Change) → first_from changes p ≡ None → (u : ℤ) → Contains (map moment_of changes) u → u <ℤ p
  none_from [] e u h = absurd (Contains-none u h)
  none_from (c ∷ cs) e u h = by (int_le p c.at) refl e (none_from cs)
    where
      by : (b : Bool) → int_le p c.at ≡ b → (if b then Some c.at else first_from cs p) ≡ None
          → (first_from cs p ≡ None → (u : ℤ) → Contains (map moment_of cs) u → u <ℤ p) → u <ℤ p
      by true f g more = absurd (none-some c.at (sym g))
      by false f g more = elim (Contains-cons_cases c.at (map moment_of cs) u h) [ inl d ↦ omega (arith, ints, d, f) | inr d ↦ more g u d ]
