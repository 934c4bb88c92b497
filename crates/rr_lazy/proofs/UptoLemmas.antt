-- An iterator that ends at a moment.
use Rattle.std.proofs.Common.{◌≡◌, ◌≢◌, ◌⊎◌, ℕ, ◌+◌, ◌<◌, ◌≤◌, true, false, ◌&&◌, List, [], ◌∷◌, take, Contains, ℤ, pos, ◌+ℤ◌, ◌≤ℤ◌, ◌<ℤ◌, refl, sym, ap}
use Rattle.std.proofs.Common.{subst}
use Rattle.std.proofs.Common.{◌∙◌, inl, inr, arith}
use Rattle.std.specs.Prelude.{Some, None, Ok, IsTrue, int_le, nat_lt, length}
use Rattle.std.proofs.lemmas.Int.{ints, clamps, by_lt_z}
use Rattle.std.specs.Int.{int_min}
use Rattle.std.proofs.lemmas.List.{length-take-le}
use Rattle.std.proofs.lemmas.Bool.Decides.{nat_tests}
use Rattle.std.proofs.lemmas.Bool.{and_parts}
use Rattle.rr_model.specs.Whole.{floor_div, floor_mod}
use Rattle.rr_model.specs.Moment.{day_part, moment_at}
use Rattle.rr_model.specs.Rising.Sets.{IsSetOf, IsSecondsOfDay}
use Rattle.rr_times.specs.Split.{SplitsAt}
use Rattle.rr_times.proofs.TakeLemmas.{first_below}
use Rattle.rr_model.specs.declared.kind.Kind.{Kind}
use Rattle.rr_model.specs.declared.kind.Kind.TheVariants.{Days, Moments}
use Rattle.rr_model.proofs.WholeLemmas.{floor_whole, floor_mod_below}
use Rattle.rr_model.proofs.RisingSetLemmas.{set_same, Contains-head, Contains-none}
use Rattle.rr_model.specs.Sets.Tree.{Tree, upto, stands_at}
use Rattle.rr_lazy.specs.Next.{HasNone, IsFirstOccupied, IsNext}
use Rattle.rr_lazy.specs.Upto.{IsSecondsTo, IsUpTo}
use Rattle.rr_lazy.specs.DayTimes.{DayTimes}
use Rattle.rr_lazy.proofs.TreeLemmas.{stands_below}

-- ---- the seconds of a day up to a moment

pub to_before : (kind : Kind) (at day : ℤ) → day <ℤ day_part kind at → IsSecondsTo kind at day 86_400
to_before Days at day h s l = grind (arith, ints, nat_tests)
to_before Moments at day h s l =
    let w = floor_whole at 86_400 (omega arith) in
    let m : moment_at Moments day s ≤ℤ at = omega (arith, ints, w, l, h) in
    grind (arith, ints, nat_tests)

pub to_after : (kind : Kind) (at day : ℤ) → day_part kind at <ℤ day → IsSecondsTo kind at day 0
to_after Days at day h s l = grind (arith, ints, nat_tests)
to_after Moments at day h s l =
    let w = floor_whole at 86_400 (omega arith) in
    let b : floor_mod at 86_400 < 86_400 = floor_mod_below at 86_400 (omega arith) in
    let m : at <ℤ moment_at Moments day s = omega (arith, ints, w, b, l, h) in
    grind (arith, ints, nat_tests)

pub to_date : (at day : ℤ) → day ≡ at → IsSecondsTo Days at day 86_400
to_date at day e s l = grind (arith, ints, nat_tests)

pub to_moment : (at day : ℤ) → day ≡ floor_div at 86_400 → IsSecondsTo Moments at day (floor_mod at 86_400 + 1)
to_moment at day e s l =
    let w = floor_whole at 86_400 (omega arith) in
    elim (nat_lt s (floor_mod at 86_400 + 1)) as (λ b. nat_lt s (floor_mod at 86_400 + 1) ≡ b → int_le (moment_at Moments day s) at ≡ b) [
      | true ↦ λ t. (let n : s < floor_mod at 86_400 + 1 = grind (arith, nat_tests) in let m : moment_at Moments day s ≤ℤ at =
          omega (arith, ints, w, n, e) in grind (arith, ints))
      | false ↦ λ t. (let n : floor_mod at 86_400 < s = grind (arith, nat_tests) in let m : at <ℤ moment_at Moments day s = omega (arith, ints, w, n, e) in
          grind (arith, ints))
    ] refl

-- ---- the first seconds of a day, those up to a moment

module _ (kind : Kind) (at day : ℤ) (times : List ℕ) (of_day : IsSecondsOfDay times) where
  cut_same : (kept : List ℕ) (bound : ℕ) → IsSecondsTo kind at day bound → IsSetOf nat_lt kept (λ s. Contains times s × (s < bound))
      → IsUpTo kind at day times kept
  cut_same kept bound until set =
      set_same nat_lt (λ s. Contains times s × (s < bound)) (λ s. Contains times s × IsTrue (int_le (moment_at kind day s) at)) kept set (λ s. (
        (λ h. (let e = until s (second_of_day s h.0) in let l : s < bound = h.1 in (h.0, e ∙ (grind (arith, nat_tests))))),
        (λ h. (let e : nat_lt s bound ≡ true = sym (until s (second_of_day s h.0)) ∙ h.1 in (h.0, (grind (arith, nat_tests))))),
      ))
    where
      second_of_day : (s : ℕ) → Contains times s → s < 86_400
      second_of_day s c = subst (λ x. x < 86_400) c.2 (of_day.below_a_day c.0 s c.1)

  -- all of a day before the moment's
  pub cut_before : day <ℤ day_part kind at → IsUpTo kind at day times times
  cut_before h = cut_same times 86_400 (to_before kind at day h)
      (record { rises = of_day.rises; exact = λ s. ((λ c. (c, subst (λ x. x < 86_400) c.2 (of_day.below_a_day c.0 s c.1))), (λ p. p.0)) })

  -- the first ones, below the bound
  pub cut_to : (bound index : ℕ) → IsSecondsTo kind at day bound → SplitsAt times index bound
      → IsUpTo kind at day times (take index times)
  cut_to bound index until split = cut_same (take index times) bound until (first_below times index bound of_day.rises split)

-- ---- what stands up to it

module _ (tree : Tree) (kind : Kind) (at : ℤ) where
  -- nothing stands on the days after it
  pub none_after : (d : ℤ) (s : ℕ) → day_part kind at <ℤ d → stands_at (upto tree kind at) d s ≡ false
  none_after d s h = elim (stands_at tree d s) as (λ b. stands_at tree d s ≡ b → (b && int_le (moment_at kind d s) at) ≡ false) [
    | false ↦ λ e. refl
    | true ↦ λ e. (let f = to_after kind at d h s (stands_below tree d s e) in let z : nat_lt s 0 ≡ false = grind (arith, nat_tests) in f ∙ z)
  ] refl

  pub none_upto : (d : ℤ) (s : ℕ) → stands_at tree d s ≡ false → stands_at (upto tree kind at) d s ≡ false
  none_upto d s e = rw e refl

  -- what is kept of a day
  pub day_kept : (d : ℤ) (times kept : List ℕ) → IsSetOf nat_lt times (λ s. IsTrue (stands_at tree d s))
      → IsUpTo kind at d times kept
      → IsSetOf nat_lt kept (λ s. IsTrue (stands_at (upto tree kind at) d s))
  day_kept d times kept set cut =
      set_same nat_lt (λ s. Contains times s × IsTrue (int_le (moment_at kind d s) at)) (λ s. IsTrue (stands_at (upto tree kind at) d s)) kept cut (λ s. (
        (λ h. (let e : stands_at tree d s ≡ true = (set.exact s).0 h.0 in rw e h.1)),
        (λ h. ((set.exact s).1 (and_parts _ _ h).0, (and_parts (stands_at tree d s) _ h).1)),
      ))

  none_of_empty : (P : ℕ → Type 0) (xs : List ℕ) → xs ≡ [] → IsSetOf nat_lt xs P → (s : ℕ) → P s → ⊥
  none_of_empty P xs e set s p = Contains-none s (subst (λ x. Contains x s) e ((set.exact s).1 p))

module _ (tree tree' : Tree) (kind : Kind) (at own own' position to to' q : ℤ) (same : own ≡ position) (bound : to' ≡ int_min to (day_part kind at))
    (late : position ≤ℤ q) (past : to <ℤ q) (one : (q ≡ to +ℤ pos 1) ⊎ (q ≡ position)) where
  -- the part gave nothing up to the last day
  pub upto_none : IsNext tree own to' (Ok None) own' → HasNone (upto tree kind at) position q × (q ≤ℤ day_part kind at → own' ≡ q)
  upto_none n = (
    λ d s l h. by_lt_z {P = stands_at (upto tree kind at) d s ≡ false} d own'
        (λ m. none_upto tree kind at d s (n.0 d s (omega (arith, ints, l, same)) m))
        (λ g. none_after tree kind at d s
        (elim one [ inl a ↦ omega (arith, ints, clamps, a, g, h, n.2, bound) | inr a ↦ absurd (omega (arith, ints, a, l, h)) ])),
    λ h. elim one [
      | inl a ↦ elim n.3 [ inl b ↦ omega (arith, ints, clamps, a, b, bound, h) | inr b ↦ omega (arith, ints, clamps, a, b, bound, h, same, late, n.2) ]
      | inr a ↦ elim n.3 [ inl b ↦ omega (arith, ints, clamps, a, b, bound, h, n.1, same, past) | inr b ↦ omega (arith, ints, a, b, same) ]
    ],
  )

  -- the part gave a day of which nothing is kept: it is the last one
  pub upto_emptied : (found : DayTimes) (kept : List ℕ) → IsNext tree own to' (Ok (Some found)) own'
      → IsUpTo kind at found.day found.times kept → kept ≡ []
      → HasNone (upto tree kind at) position q × (q ≤ℤ day_part kind at → own' ≡ q)
  upto_emptied found kept n set e =
      let last : day_part kind at ≤ℤ found.day =
      by_lt_z {P = day_part kind at ≤ℤ found.day} found.day (day_part kind at) (λ m. absurd (not_before m found.times refl)) (λ g. g) in (
        λ d s l h. by_lt_z {P = stands_at (upto tree kind at) d s ≡ false} d found.day
            (λ m. none_upto tree kind at d s (n.0.before d s (omega (arith, ints, l, same)) m))
            (λ g. by_lt_z {P = stands_at (upto tree kind at) d s ≡ false} (day_part kind at) d
            (λ m. none_after tree kind at d s m)
            (λ k. (let i : found.day ≡ d = omega (arith, ints, g, k, last) in
            elim (stands_at (upto tree kind at) d s) as (λ b. stands_at (upto tree kind at) d s ≡ b → b ≡ false) [
              | false ↦ λ x. refl
              | true ↦ λ x. absurd
                  (none_of_empty tree kind at (λ s. IsTrue (stands_at (upto tree kind at) found.day s)) kept e
                  (day_kept tree kind at found.day found.times kept n.0.all set) s (subst (λ y. stands_at (upto tree kind at) y s ≡ true) (sym i) x))
            ] refl))),
        λ h. absurd (elim one [
          | inl a ↦ omega (arith, ints, clamps, a, h, last, n.1, bound)
          | inr a ↦
              omega (arith, ints, clamps, a, h, last, n.1, n.0.late, same, past, bound)
        ]),
      )
    where
      not_before : found.day <ℤ day_part kind at → (times : List ℕ) → found.times ≡ times → ⊥
      not_before m [] f = n.0.some f
      not_before m (s ∷ ss) f =
          let c : Contains found.times s = subst (λ x. Contains x s) (sym f) (Contains-head s ss) in
          let x : stands_at tree found.day s ≡ true = (n.0.all.exact s).0 c in
          let b : s < 86_400 = stands_below tree found.day s x in
          let y : int_le (moment_at kind found.day s) at ≡ nat_lt s 86_400 = to_before kind at found.day m s b in
          let z : IsTrue (int_le (moment_at kind found.day s) at) = y ∙ (grind (arith, nat_tests)) in
          none_of_empty tree kind at (λ s. Contains found.times s × IsTrue (int_le (moment_at kind found.day s) at)) kept e set s (c, z)

-- the part gave a day of which something is kept
pub upto_some : (tree : Tree) (kind : Kind) (at own own' position to to' q : ℤ) → own ≡ position → to' ≡ int_min to (day_part kind at)
    → (found : DayTimes) (kept : List ℕ) → IsNext tree own to' (Ok (Some found)) own'
    → IsUpTo kind at found.day found.times kept → kept ≢ [] → q ≡ found.day +ℤ pos 1
    → IsFirstOccupied (upto tree kind at) position found.day kept × (found.day ≤ℤ to) × (own' ≡ q)
upto_some tree kind at own own' position to to' q same bound found kept n set some e = (
  record {
    late = omega (arith, ints, n.0.late, same);
    before = λ d s l h. none_upto tree kind at d s (n.0.before d s (omega (arith, ints, l, same)) h);
    some = some;
    all = day_kept tree kind at found.day found.times kept n.0.all set;
  },
  omega (arith, ints, clamps, n.1, bound),
  n.2 ∙ sym e,
)

-- ---- plain facts

pub begun_next : (low own position day q : ℤ) → low ≤ℤ position → own ≡ position → own ≤ℤ day → q ≡ day +ℤ pos 1 → low ≤ℤ q
begun_next low own position day q a b c d = omega (arith, ints)

-- a day of which some seconds are kept
pub take_some : (count : ℕ) (xs : List ℕ) → (count ≡ 0 → ⊥) → count ≤ length xs → take count xs ≡ [] → ⊥
take_some count xs n l e = n (omega (arith, length-take-le count xs l, ap length e))
