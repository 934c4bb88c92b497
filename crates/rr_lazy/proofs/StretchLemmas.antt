-- The dates of one day in a rising list.
use Rattle.std.proofs.Common.{◌≡◌, ◌≢◌, ◌⊎◌, ◌↔◌, ℕ, ◌+◌, ◌<◌, ◌≤◌, true, false, ◌||◌, List, [], ◌∷◌, ◌++◌, length, get_or, Contains, ℤ}
use Rattle.std.proofs.Common.{pos, ◌+ℤ◌, ◌≤ℤ◌, ◌<ℤ◌, w64, to_z, of_z, refl, sym, ap, subst, ◌∙◌, inl, inr, arith}
use Rattle.std.specs.Prelude.{IsTrue, int_lt, nat_lt}
use Rattle.std.specs.List.{list_any}
use Rattle.std.specs.List.Sorted.{IsPartitionedBy, IsPartitionPoint}
use Rattle.std.specs.Ordering.{int_eq}
use Rattle.std.proofs.lemmas.Int.{ints}
use Rattle.std.proofs.lemmas.Bool.{cases_lt, false≢true, and_parts}
use Rattle.std.proofs.lemmas.Bool.Decides.{nat_tests}
use Rattle.std.proofs.lemmas.List.{get_or_default, take_all}
use Rattle.std.proofs.lemmas.Option.{get_or_from_slice_get, slice_get_within}
use Rattle.rr_model.specs.Whole.{floor_mod}
use Rattle.rr_model.specs.Moment.{day_part, second_part, moment_at}
use Rattle.rr_model.specs.Rule.Candidate.{lists}
use Rattle.rr_model.specs.Rising.{Rises}
use Rattle.rr_model.specs.Rising.Sets.{IsSetOf}
use Rattle.rr_model.specs.declared.kind.Kind.{Kind}
use Rattle.rr_model.specs.declared.kind.Kind.TheVariants.{Days, Moments}
use Rattle.rr_model.proofs.WholeLemmas.{floor_whole, floor_mod_below}
use Rattle.rr_model.proofs.MomentLemmas.{day_part-moment_at, second_part-moment_at}
use Rattle.rr_model.proofs.OrderLemmas.{day_mono}
use Rattle.rr_model.proofs.RisingSetLemmas.{set_same, set_push, set_empty, Contains-head, Contains-tail, Contains-none, rising_dates}
use Rattle.rr_model.proofs.RisingSetLemmas.{Contains-cons_cases}
use Rattle.rr_model.specs.Sets.Tree.{has_second, is_among}
use Rattle.std.specs.Prelude.{Some, None, slice_get}
use Rattle.rr_model.specs.Bounds.{latest_day}
use Rattle.rr_model.specs.Sets.Tree.{dates_of}
use Rattle.rr_lazy.specs.Next.{HasNone, IsFirstOccupied, IsInTable, with_set}
use Rattle.rr_lazy.specs.Stretch.{IsFirstFrom, IsFirstDate}
use Rattle.rr_lazy.proofs.TreeLemmas.{has_second_below}

-- ---- rising dates by index

rising_to : (xs : List ℤ) → Rises int_lt xs → (i j : ℕ) → i ≤ j → j < length xs → get_or xs i (pos 0) ≤ℤ get_or xs j (pos 0)
rising_to xs r i j l h =
    elim (cases_lt i j) [
      | inl m ↦ omega (arith, ints, rising_dates xs r i j m h)
      | inr m ↦
          (let e : i ≡ j = omega arith in omega (arith, ints, ap (λ n. get_or xs n (pos 0)) e))
    ]

-- ---- the index of the first date from a day on

pub parted : (kind : Kind) (dates : List ℤ) (day : ℤ) → Rises int_lt dates → IsPartitionedBy (λ t. int_lt (day_part kind t) day) dates
parted kind dates day r i j d le lt e =
    let a : get_or dates i (pos 0) ≡ get_or dates i d = get_or_default dates i (pos 0) d (omega arith) in
    let b : get_or dates j (pos 0) ≡ get_or dates j d = get_or_default dates j (pos 0) d lt in
    let m : day_part kind (get_or dates i d) ≤ℤ day_part kind (get_or dates j d) =
    day_mono kind (get_or dates i d) (get_or dates j d) (omega (arith, ints, a, b, rising_to dates r i j le lt)) in
    grind (arith, ints)

pub first_index : (kind : Kind) (dates : List ℤ) (day : ℤ) (index : ℕ) → index ≤ length dates
    → IsPartitionPoint (λ t. int_lt (day_part kind t) day ≡ true) (λ t. int_lt (day_part kind t) day ≡ false) dates index → IsFirstFrom kind dates day index
first_index kind dates day index l p = record {
  within = l;
  below = λ k h. (let t : int_lt (day_part kind (get_or dates k (pos 0))) day ≡ true = p.0 k (pos 0) (omega arith) h in grind (arith, ints));
  from = λ k h m. (let t : int_lt (day_part kind (get_or dates k (pos 0))) day ≡ false = p.1 k (pos 0) h m in grind (arith, ints));
}

-- ---- a date of the day

pub moment_day : (kind : Kind) (day : ℤ) (s : ℕ) → has_second kind s ≡ true → day_part kind (moment_at kind day s) ≡ day
moment_day Days day s h = refl
moment_day Moments day s h = day_part-moment_at day s (has_second_below Moments s h)

pub moment_second : (kind : Kind) (day : ℤ) (s : ℕ) → has_second kind s ≡ true → second_part kind (moment_at kind day s) ≡ s
moment_second Days day s h = grind (arith, nat_tests)
moment_second Moments day s h = second_part-moment_at day s (has_second_below Moments s h)

pub of_day : (kind : Kind) (t day : ℤ) → day_part kind t ≡ day → (t ≡ moment_at kind day (second_part kind t)) × (has_second kind (second_part kind t) ≡ true)
of_day Days t day e = (e, refl)
of_day Moments t day e =
    let b : floor_mod t 86_400 < 86_400 = floor_mod_below t 86_400 (omega arith) in
    let w = floor_whole t 86_400 (omega arith) in
    ((rw e at w), grind (arith, nat_tests))

pub second_before : (kind : Kind) (day u : ℤ) (s : ℕ) → has_second kind s ≡ true → day_part kind u ≡ day → moment_at kind day s <ℤ u → s < second_part kind u
second_before Days day u s h e l = absurd (omega (arith, ints))
second_before Moments day u s h e l =
    let w = floor_whole u 86_400 (omega arith) in
    omega (arith, ints, w, e, l)

-- ---- membership by tests

pub listed : (xs : List ℤ) (t : ℤ) → (lists xs t ≡ true) ↔ Contains xs t
listed [] t = (λ h. absurd (false≢true h), λ c. absurd (Contains-none t c))
listed (x ∷ xs) t = (
  λ h. (elim (int_eq x t) as (λ b. int_eq x t ≡ b → (b || list_any (λ x. int_eq x t) xs) ≡ true → Contains (x ∷ xs) t) [
    | true ↦ λ e f. (let same : x ≡ t = grind (arith, ints) in subst (Contains (x ∷ xs)) same (Contains-head x xs))
    | false ↦ λ e f. Contains-tail x xs t ((listed xs t).0 f)
  ] refl h),
  λ c. elim (Contains-cons_cases x xs t c) [
    | inl e ↦ (let i : int_eq x t ≡ true = grind (arith, ints) in rw i refl)
    | inr d ↦ rw ((listed xs t).1 d) (elim (int_eq x t) as (λ b. (b || true) ≡ true) [ true ↦ refl | false ↦ refl ])
  ],
)

-- ---- the seconds of the first dates

module _ (kind : Kind) (dates : List ℤ) (day : ℤ) where
  -- this second is among the first n dates
  abbrev pub StandsFirst : ℕ → ℕ → Type 0
  StandsFirst index s = (k : ℕ) × (k < index) × (k < length dates) × (get_or dates k (pos 0) ≡ moment_at kind day s) × (has_second kind s ≡ true)

  pub none_yet : (first : ℕ) → IsFirstFrom kind dates day first → (s : ℕ) → StandsFirst first s → ⊥
  none_yet first f s (k, l, m, e, h) =
      let d : day_part kind (get_or dates k (pos 0)) ≡ day = ap (day_part kind) e ∙ moment_day kind day s h in
      omega (arith, ints, f.below k l, d)

  module _ (rises : Rises int_lt dates) (first last index : ℕ) (f : IsFirstFrom kind dates day first) (g : IsFirstFrom kind dates (day +ℤ pos 1) last)
      (from : first ≤ index) where
    pub on_the_day : index < last → day_part kind (get_or dates index (pos 0)) ≡ day
    on_the_day l =
        let a = g.below index l in
        let b = f.from index from (omega (arith, g.within)) in
        omega (arith, ints, a, b)

    pub next_stands : index < last → (s : ℕ) → StandsFirst (index + 1) s ↔ (StandsFirst index s ⊎ (second_part kind (get_or dates index (pos 0)) ≡ s))
    next_stands l s =
        let o = of_day kind (get_or dates index (pos 0)) day (on_the_day l) in (
          λ x. one x.0 x.1 x.2 x.3 x.4,
          λ x. elim x [
            | inl y ↦ (y.0, omega (arith, y.1), y.2, y.3, y.4)
            | inr e ↦ (
              index,
              omega arith,
              omega (arith, g.within),
              subst (λ z. get_or dates index (pos 0) ≡ moment_at kind day z) e o.0,
              subst (λ z. has_second kind z ≡ true) e o.1,
            )
          ],
        )
      where
        one : (k : ℕ) → k < index + 1 → k < length dates → get_or dates k (pos 0) ≡ moment_at kind day s → has_second kind s ≡ true
            → StandsFirst index s ⊎ (second_part kind (get_or dates index (pos 0)) ≡ s)
        one k m n e h = elim (cases_lt k index) [
          | inl p ↦ inl (k, p, n, e, h)
          | inr p ↦ (let q : index ≡ k = omega arith in
              inr (ap (λ z. second_part kind (get_or dates z (pos 0))) q ∙ ap (second_part kind) e ∙ moment_second kind day s h))
        ]

    pub above_first : index < last → (s : ℕ) → StandsFirst index s → IsTrue (nat_lt s (second_part kind (get_or dates index (pos 0))))
    above_first l s (k, m, n, e, h) =
        let u = get_or dates index (pos 0) in
        let b : moment_at kind day s <ℤ u = omega (arith, ints, sym e, rising_dates dates rises k index m (omega (arith, g.within))) in
        let x : s < second_part kind u = second_before kind day u s h (on_the_day l) b in
        grind (arith, nat_tests)

    pub all_stand : last ≤ index → (s : ℕ) → StandsFirst index s ↔ IsTrue (is_among kind dates day s)
    all_stand l s = (
      λ x. rw x.4 ((listed dates (moment_at kind day s)).1 (x.0, x.2, get_or_default dates x.0 (moment_at kind day s) (pos 0) x.2 ∙ x.3)),
      λ t. (let h : has_second kind s ≡ true = (and_parts _ _ t).0 in
          let c = (listed dates (moment_at kind day s)).0 (and_parts (has_second kind s) _ t).1 in
          let e : get_or dates c.0 (pos 0) ≡ moment_at kind day s = get_or_default dates c.0 (pos 0) (moment_at kind day s) c.1 ∙ c.2 in
          let d : day_part kind (get_or dates c.0 (pos 0)) ≡ day = ap (day_part kind) e ∙ moment_day kind day s h in
          let m : c.0 < last = elim (cases_lt c.0 last) [ inl n ↦ n | inr n ↦ absurd (omega (arith, ints, g.from c.0 n c.1, d)) ] in
          (c.0, omega (arith, m), c.1, e, h)),
    )

    -- one more second is pushed
    pub seconds_more : index < last → (seconds pushed : List ℕ) (x : ℕ) → IsSetOf nat_lt seconds (StandsFirst index)
        → x ≡ second_part kind (get_or dates index (pos 0)) → pushed ≡ seconds ++ x ∷ [] → IsSetOf nat_lt pushed (StandsFirst (index + 1))
    seconds_more l seconds pushed x set e p =
        let y : ℕ = second_part kind (get_or dates index (pos 0)) in
        rw (p, e) (set_same nat_lt (λ s. StandsFirst index s ⊎ (y ≡ s)) (StandsFirst (index + 1)) (seconds ++ y ∷ [])
        (set_push nat_lt (StandsFirst index) seconds y set (above_first l)) (λ s. ((next_stands l s).1, (next_stands l s).0)))

    pub seconds_all : last ≤ index → (seconds : List ℕ) → IsSetOf nat_lt seconds (StandsFirst index)
        → IsSetOf nat_lt seconds (λ s. IsTrue (is_among kind dates day s))
    seconds_all l seconds set = set_same nat_lt (StandsFirst index) (λ s. IsTrue (is_among kind dates day s)) seconds set (all_stand l)

    -- one more second is taken out
    pub left_more : index < last → (old times left : List ℕ) (x : ℕ) → ((s : ℕ) → Contains times s ↔ (Contains old s × (StandsFirst index s → ⊥)))
        → x ≡ second_part kind (get_or dates index (pos 0)) → IsSetOf nat_lt left (λ s. Contains times s × (s ≢ x))
        → (s : ℕ) → Contains left s ↔ (Contains old s × (StandsFirst (index + 1) s → ⊥))
    left_more l old times left x set e out s = (
      λ c. (let p = (out.exact s).0 c in let o = (set s).0 p.0 in (o.0, λ q. elim ((next_stands l s).0 q) [ inl y ↦ o.1 y | inr f ↦ p.1 (sym f ∙ sym e) ])),
      λ p. (out.exact s).1 ((set s).1 (p.0, λ q. p.1 ((next_stands l s).1 (inl q))), λ f. p.1 ((next_stands l s).1 (inr (sym e ∙ sym f)))),
    )

    pub left_all : last ≤ index → (old times : List ℕ) → ((s : ℕ) → Contains times s ↔ (Contains old s × (StandsFirst index s → ⊥))) → (s : ℕ)
        → Contains times s ↔ (Contains old s × (is_among kind dates day s ≡ false))
    left_all l old times set s = (
      λ c. (let p = (set s).0 c in (
        p.0,
        elim (is_among kind dates day s) as (λ b. is_among kind dates day s ≡ b
            → b ≡ false) [ false ↦ λ e. refl | true ↦ λ e. absurd (p.1 ((all_stand l s).1 e)) ] refl,
      )),
      λ p. (set s).1 (p.0, λ q. false≢true (sym p.1 ∙ (all_stand l s).0 q)),
    )

  -- nothing is taken out yet
  pub left_begins : (first : ℕ) → IsFirstFrom kind dates day first → (times : List ℕ) → (s : ℕ)
      → Contains times s ↔ (Contains times s × (StandsFirst first s → ⊥))
  left_begins first f times s = ((λ c. (c, none_yet first f s)), (λ p. p.0))

pub seconds_begin : (kind : Kind) (dates : List ℤ) (day : ℤ) (first : ℕ) → IsFirstFrom kind dates day first
    → IsSetOf nat_lt [] (StandsFirst kind dates day first)
seconds_begin kind dates day first f = set_empty nat_lt (StandsFirst kind dates day first) (none_yet kind dates day first f)

pub below_a_day : (kind : Kind) (dates : List ℤ) (day : ℤ) (s : ℕ) → IsTrue (is_among kind dates day s) → s < 86_400
below_a_day kind dates day s p = has_second_below kind s (and_parts _ _ p).0

pub day_after_is : (day : ℤ) → to_z w64 (of_z w64 day) ≡ day → day ≤ℤ latest_day
    → to_z w64 (of_z w64 (to_z w64 (of_z w64 day) +ℤ pos 1)) ≡ day +ℤ pos 1
day_after_is day e h = omega (arith, ints, e, h)

-- ---- an iterator over dates

module _ (kind : Kind) (dates : List ℤ) (rises : Rises int_lt dates) (from to : ℤ) (index : ℕ) (f : IsFirstFrom kind dates from index) where
  -- a day with a date is not before the day of the first
  not_early : (d : ℤ) (s : ℕ) → from ≤ℤ d → is_among kind dates d s ≡ true → (index < length dates) × (day_part kind (get_or dates index (pos 0)) ≤ℤ d)
  not_early d s l t =
      let h : has_second kind s ≡ true = (and_parts _ _ t).0 in
      let c = (listed dates (moment_at kind d s)).0 (and_parts (has_second kind s) _ t).1 in
      let e : get_or dates c.0 (pos 0) ≡ moment_at kind d s = get_or_default dates c.0 (pos 0) (moment_at kind d s) c.1 ∙ c.2 in
      let day : day_part kind (get_or dates c.0 (pos 0)) ≡ d = ap (day_part kind) e ∙ moment_day kind d s h in
      let k : index ≤ c.0 = elim (cases_lt c.0 index) [ inl m ↦ absurd (omega (arith, ints, f.below c.0 m, day, l)) | inr m ↦ m ] in (
        omega (arith, k, c.1),
        omega (arith, ints, day, day_mono kind (get_or dates index (pos 0)) (get_or dates c.0 (pos 0)) (rising_to dates rises index c.0 k c.1)),
      )

  none_of : (d : ℤ) (s : ℕ) → (is_among kind dates d s ≡ true → ⊥) → is_among kind dates d s ≡ false
  none_of d s n = elim (is_among kind dates d s) as (λ b. is_among kind dates d s ≡ b → b ≡ false) [ false ↦ λ e. refl | true ↦ λ e. absurd (n e) ] refl

  pub date_none : (index < length dates → to <ℤ day_part kind (get_or dates index (pos 0))) → IsFirstDate kind dates from to None
  date_none later d s l h = none_of d s (λ t. (let n = not_early d s l t in omega (arith, ints, later n.0, n.1, h)))

  pub date_some : (day : ℤ) → index < length dates → day ≡ day_part kind (get_or dates index (pos 0)) → day ≤ℤ to → IsFirstDate kind dates from to (Some day)
  date_some day l e h =
      let u = get_or dates index (pos 0) in
      let o = of_day kind u day (sym e) in (
        omega (arith, ints, f.from index (omega arith) l, e),
        h,
        λ d s a b. none_of d s (λ t. (let n = not_early d s a t in omega (arith, ints, n.1, b, e))),
        (
          second_part kind u,
          rw o.1 ((listed dates (moment_at kind day (second_part kind u))).1 (
            index,
            l,
            get_or_default dates index (moment_at kind day (second_part kind u)) (pos 0) l ∙ o.0,
          )),
        ),
      )

-- no date lies on a day that is not that of the first date from it on
pub none_on : (kind : Kind) (dates : List ℤ) → Rises int_lt dates → (day : ℤ) (index : ℕ) → IsFirstFrom kind dates day index
    → (index < length dates → day_part kind (get_or dates index (pos 0)) ≡ day → ⊥) → (s : ℕ) → is_among kind dates day s ≡ false
none_on kind dates rises day index f other s = none_of kind dates rises day day index f day s
    (λ t. (let n = not_early kind dates rises day day index f day s (omega (arith, ints)) t in
    other n.0 (omega (arith, ints, n.1, f.from index (omega arith) n.0))))

pub dates_none : (kind : Kind) (dates : List ℤ) (position to q : ℤ) → IsFirstDate kind dates position to None → (q ≡ to +ℤ pos 1) ⊎ (q ≡ position)
    → HasNone (dates_of kind dates) position q
dates_none kind dates position to q none one d s l h =
    elim one [ inl e ↦ none d s l (omega (arith, ints, h, e)) | inr e ↦ absurd (omega (arith, ints, l, h, e)) ]

pub dates_some : (kind : Kind) (dates : List ℤ) (position to day : ℤ) (times : List ℕ) → IsFirstDate kind dates position to (Some day)
    → IsSetOf nat_lt times (λ s. IsTrue (is_among kind dates day s)) → IsFirstOccupied (dates_of kind dates) position day times
dates_some kind dates position to day times f set = record {
  late = f.0;
  before = f.2;
  some = λ e. Contains-none f.3.0 (subst (λ x. Contains x f.3.0) e ((set.exact f.3.0).1 f.3.1));
  all = set;
}

-- a set that was placed in a table is the day's
pub placed : (sets : List (List ℕ)) (day : ℤ) (number count : ℕ) (times : List ℕ) → slice_get sets number ≡ Some times → count ≡ length times
    → IsInTable sets (record { day = day; number = record { index = number }; count = count })
    × ((with_set sets (record { day = day; number = record { index = number }; count = count })).times ≡ times)
placed sets day number count times at e =
    let set : get_or sets number [] ≡ times = get_or_from_slice_get sets number times [] at in (
      (slice_get_within sets number times at, rw (set, e) (omega arith)),
      rw (set, e) (take_all (length times) times (omega arith)),
    )
