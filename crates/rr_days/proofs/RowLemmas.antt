-- The rows of a folded series.
use Rattle.std.proofs.Common.{◌≡◌, ℕ, zero, suc, ◌+◌, ◌%◌, ◌<◌, ◌≤◌, min, true, false, cond, List, [], ◌∷◌, ◌++◌, All, length, get_or, take, drop, ℤ, pos, nat_abs, ◌+ℤ◌, ◌-ℤ◌, ◌≤ℤ◌, ◌<ℤ◌, refl, sym, ap, subst, ◌∙◌, arith}
use Rattle.std.specs.Prelude.{Option, Some, None, slice_get, int_lt}
use Rattle.std.specs.Ordering.{int_eq}
use Rattle.std.proofs.Math.Nat.{mod-add-mod, mod-eq_of_lt}
use Rattle.std.proofs.Math.Seq.{drop-append_seam, take-append_seam}
use Rattle.std.proofs.lemmas.Bool.Decides.{Decides-int_eq}
use Rattle.std.proofs.lemmas.Int.{ints}
use Rattle.std.proofs.lemmas.List.{get_or-take, length-take-le, take-append-drop}
use Rattle.std.proofs.lemmas.List.Elements.{All-drop, All-head, All-tail, All-take}
use Rattle.std.proofs.lemmas.Option.{slice_get-get_or}
use Rattle.rr_model.specs.Whole.{floor_mod}
use Rattle.rr_model.specs.Sets.Sketch.{IsFirstDay, times_in, times_on}
use Rattle.rr_model.specs.declared.kind.Kind.{Kind}
use Rattle.rr_model.specs.declared.sketch.DayShape.{DayShape}
use Rattle.rr_model.specs.declared.sketch.Sketch.{Sketch}
use Rattle.rr_runs.specs.Runs.{IsRowOf, days_of, number_told}
use Rattle.rr_word.specs.Bounded.{IsBounded}
use Rattle.rr_word.specs.Numbered.{number_in}
use Rattle.rr_word.specs.Stretches.{IsStretch}
use Rattle.rr_word.specs.declared.numbered.NumberedDay.{NumberedDay}
use Rattle.rr_days.specs.Rows.{AreRising, AreWithin, HasEmptyFirst, IsRowOn, first_number, shapes_of_runs, sketch_of_runs}
use Rattle.rr_days.specs.Sketched.{IsFirstFilled, IsWholeFold, shapes_from, sketch_of, with_day}
use Rattle.rr_days.proofs.SequenceLemmas.{first_day_is, whole_bounded}
use Rattle.rr_days.proofs.SketchedLemmas.{with_other, with_own}

-- ---- one day

number_within : (sets : List (List ℕ)) (days : List NumberedDay) (d : ℤ) (n : ℕ) → AreWithin sets days → number_in days d ≡ Some n → n + 1 < length sets
number_within sets [] d n all e = absurd (cc)
number_within sets (x ∷ xs) d n all e =
    let P : NumberedDay → Type 0 = λ y. y.number + 1 < length sets in
    (elim (int_eq x.day d) as (λ b. cond b (Some x.number) (number_in xs d) ≡ Some n → n + 1 < length sets) [
      | true ↦ λ here. (let same : x.number ≡ n = cc in subst (λ k. k + 1 < length sets) same (All-head P x xs all))
      | false ↦ λ later. number_within sets xs d n (All-tail P x xs all) later
    ]) e

-- the set of a number that is told
abbrev set_told : List (List ℕ) → Option ℕ → List ℕ
set_told sets None = []
set_told sets (Some n) = get_or sets (suc n) []

runs_before : (sets : List (List ℕ)) (days : List NumberedDay) (low d : ℤ) → AreRising low days → d <ℤ low → times_in (shapes_of_runs sets days) d ≡ []
runs_before sets [] low d r l = refl
runs_before sets (x ∷ xs) low d r l =
    with_other x.day d (get_or sets (suc x.number) []) (shapes_of_runs sets xs) (λ e. omega (arith, ints, e, r.0, l))
    ∙ runs_before sets xs (x.day +ℤ pos 1) d r.1 (omega (arith, ints, r.0, l))

runs_on : (sets : List (List ℕ)) (days : List NumberedDay) (low d : ℤ) → AreRising low days
    → times_in (shapes_of_runs sets days) d ≡ set_told sets (number_in days d)
runs_on sets [] low d r = refl
runs_on sets (x ∷ xs) low d r =
    let own : List ℕ = get_or sets (suc x.number) [] in
    (elim (int_eq x.day d) as (λ b. int_eq x.day d ≡ b
    → times_in (shapes_of_runs sets (x ∷ xs)) d ≡ set_told sets (cond b (Some x.number) (number_in xs d))) [
      | true ↦ λ e.
          (let same : x.day ≡ d = (Decides-int_eq x.day d).0 e in
          subst (λ y. times_in (with_day x.day own (shapes_of_runs sets xs)) y ≡ own) same
          (with_own x.day own (shapes_of_runs sets xs) (runs_before sets xs (x.day +ℤ pos 1) x.day r.1 (omega (arith, ints)))))
      | false ↦ λ e.
          (with_other x.day d own (shapes_of_runs sets xs) (λ same. grind (arith, ints, e, same))
          ∙ runs_on sets xs (x.day +ℤ pos 1) d r.1)
    ]) refl

module _ (sets : List (List ℕ)) (empty : HasEmptyFirst sets) where
  -- the set of what a row tells is that of the day
  pub told_set : (days : List NumberedDay) (low d : ℤ) (told : ℕ) → AreRising low days → AreWithin sets days → number_in days d ≡ number_told told
      → slice_get sets told ≡ Some (times_in (shapes_of_runs sets days) d)
  told_set days low d zero rise all e =
      slice_get-get_or sets 0 [] empty.0
      ∙ ap (λ (t : List ℕ). Some t) (empty.1 ∙ sym (runs_on sets days low d rise ∙ ap (set_told sets) e))
  told_set days low d (suc n) rise all e =
      let within : suc n < length sets = omega (arith, number_within sets days d n all e) in
      slice_get-get_or sets (suc n) [] within
      ∙ ap (λ (t : List ℕ). Some t) (sym (runs_on sets days low d rise ∙ ap (set_told sets) e))

  pub none_told : (days : List NumberedDay) (low d : ℤ) → AreRising low days → number_in days d ≡ None → times_in (shapes_of_runs sets days) d ≡ []
  none_told days low d rise e = runs_on sets days low d rise ∙ ap (set_told sets) e

-- ---- a row of either part

early : (a b : ℤ) → a <ℤ b → int_lt a b ≡ true
early a b l = grind (arith, ints)

late : (a b : ℤ) → b ≤ℤ a → int_lt a b ≡ false
late a b l = grind (arith, ints)

cut_at : (row cut : List ℕ) (most k : ℕ) → cut ≡ take (min (length row) most) row → k < length cut → (k < length row) × (k < most) × (get_or cut k 0 ≡ get_or row k 0)
cut_at row cut most k e l =
    let many : length cut ≡ min (length row) most = ap length e ∙ length-take-le (min (length row) most) row (omega arith) in
    let small : k < min (length row) most = omega (arith, many) in (
      omega arith,
      omega arith,
      ap (λ (xs : List ℕ). get_or xs k 0) e ∙ get_or-take (min (length row) most) row k 0 small,
    )

cut_none : (row cut : List ℕ) (most : ℕ) → cut ≡ take (min (length row) most) row → 0 < most → cut ≡ [] → row ≡ []
cut_none [] cut most e some none = refl
cut_none (x ∷ xs) cut most e some none =
    let many : length cut ≡ min (length (x ∷ xs)) most = ap length e ∙ length-take-le (min (length (x ∷ xs)) most) (x ∷ xs) (omega arith) in
    absurd (omega (arith, many, ap length none))

-- the first number of a row, and those after it
pub stretch_of_row : (sets : List (List ℕ)) (s : Sketch) (day : ℤ) (row rest : List ℕ) (first : Option ℕ) → IsRowOn sets s day row → first ≡ first_number row
    → rest ≡ drop 1 row → IsStretch sets s day first rest
stretch_of_row sets s day [] rest first is ef er = rw (ef, er) (record { of_day = is.none refl; of_later = λ k l. absurd (omega arith) })
stretch_of_row sets s day (n ∷ ns) rest first is ef er =
    let zero_on : day +ℤ pos 0 ≡ day = omega (arith, ints) in
    rw (ef, er) (record {
      of_day = is.of_days 0 (omega arith) ∙ ap (λ d. Some (times_on s d)) zero_on;
      of_later = λ k l.
          let later : day +ℤ pos (suc k) ≡ (day +ℤ pos 1) +ℤ pos k = omega (arith, ints) in
          is.of_days (suc k) (omega arith) ∙ ap (λ d. Some (times_on s d)) later;
    })

module _ (kind : Kind) (sets : List (List ℕ)) (before cycle : List NumberedDay) (settled : ℤ) (period : ℕ) (empty : HasEmptyFirst sets) (low : ℤ)
    (before_rises : AreRising low before) (cycle_rises : AreRising settled cycle) (day : ℤ)
    (row cut : List ℕ) (most : ℕ) (cut_is : cut ≡ take (min (length row) most) row) where
  pub row_before : AreWithin sets before → IsRowOf before day row → (row ≡ [] → number_in before day ≡ None) → day <ℤ settled
      → settled ≡ day +ℤ pos most → IsRowOn sets (sketch_of_runs kind sets before cycle settled period) day cut
  row_before all rows nothing l at = record {
    none = λ none.
        let t : int_lt day settled ≡ true = early day settled l in
        rw t (none_told sets empty before low day before_rises (nothing (cut_none row cut most cut_is (omega (arith, ints)) none)));
    of_days = λ k h.
        let here = cut_at row cut most k cut_is h in
        let t : int_lt (day +ℤ pos k) settled ≡ true = early (day +ℤ pos k) settled (omega (arith, ints, here.1)) in
        rw t (told_set sets empty before low (day +ℤ pos k) (get_or cut k 0) before_rises all (rows k here.0 ∙ ap number_told (sym here.2)));
  }

  pub row_of_cycle : (past place : ℕ) → AreWithin sets cycle → IsRowOf cycle (settled +ℤ pos place) row
      → (row ≡ [] → number_in cycle (settled +ℤ pos place) ≡ None) → 1 ≤ period → day ≡ settled +ℤ pos past → place ≡ past % period → place + most ≡ period
      → place < period → IsRowOn sets (sketch_of_runs kind sets before cycle settled period) day cut
  row_of_cycle past place all rows nothing some at ep em below =
      let on : (k : ℕ) → k < most → settled +ℤ pos (floor_mod ((day +ℤ pos k) -ℤ settled) period) ≡ (settled +ℤ pos place) +ℤ pos k = λ k h.
      let moved : (day +ℤ pos k) -ℤ settled ≡ pos (past + k) = omega (arith, ints) in
      let turned : (past + k) % period ≡ place + k =
      sym (mod-add-mod past period k) ∙ ap (λ n. (n + k) % period) (sym ep) ∙ mod-eq_of_lt (let l : place + k < period = omega arith in l) in
      let whole : floor_mod ((day +ℤ pos k) -ℤ settled) period ≡ place + k = ap (λ z. floor_mod z period) moved ∙ turned in
      omega (arith, ints, whole) in
      let times : (k : ℕ) → k < most → times_on (sketch_of_runs kind sets before cycle settled period) (day +ℤ pos k)
      ≡ times_in (shapes_of_runs sets cycle) ((settled +ℤ pos place) +ℤ pos k) = λ k h.
      let t : int_lt (day +ℤ pos k) settled ≡ false = late (day +ℤ pos k) settled (omega (arith, ints)) in
      rw t (ap (times_in (shapes_of_runs sets cycle)) (on k h)) in
      let zero_on : day +ℤ pos 0 ≡ day = omega (arith, ints) in
      let zero_place : (settled +ℤ pos place) +ℤ pos 0 ≡ settled +ℤ pos place = omega (arith, ints) in
      record {
        none = λ none.
            ap (times_on (sketch_of_runs kind sets before cycle settled period)) (sym zero_on)
            ∙ times 0 (omega arith)
            ∙ ap (times_in (shapes_of_runs sets cycle)) zero_place
            ∙ none_told sets empty cycle settled (settled +ℤ pos place) cycle_rises (nothing (cut_none row cut most cut_is (omega arith) none));
        of_days = λ k h.
            let here = cut_at row cut most k cut_is h in
            told_set sets empty cycle settled ((settled +ℤ pos place) +ℤ pos k) (get_or cut k 0) cycle_rises all (rows k here.0 ∙ ap number_told (sym here.2))
            ∙ ap (λ (t : List ℕ). Some t) (sym (times k here.1));
      }

-- ---- rows of numbers as numbered days

pub row_shapes : (sets : List (List ℕ)) → get_or sets 0 [] ≡ [] → (d : ℤ) (ns : List ℕ) → shapes_of_runs sets (days_of d ns) ≡ shapes_from sets d ns
row_shapes sets none d [] = refl
row_shapes sets none d (zero ∷ ns) =
    row_shapes sets none (d +ℤ pos 1) ns ∙ ap (λ (t : List ℕ). with_day d t (shapes_from sets (d +ℤ pos 1) ns)) (sym none)
row_shapes sets none d (suc n ∷ ns) = ap (λ (l : List DayShape). with_day d (get_or sets (suc n) []) l) (row_shapes sets none (d +ℤ pos 1) ns)

pub rises_from : (a b : ℤ) (days : List NumberedDay) → a ≤ℤ b → AreRising b days → AreRising a days
rises_from a b [] l r = tt
rises_from a b (x ∷ xs) l r = (omega (arith, ints, l, r.0), r.1)

pub row_rises : (d : ℤ) (ns : List ℕ) → AreRising d (days_of d ns)
row_rises d [] = tt
row_rises d (zero ∷ ns) = rises_from d (d +ℤ pos 1) (days_of (d +ℤ pos 1) ns) (omega (arith, ints)) (row_rises (d +ℤ pos 1) ns)
row_rises d (suc n ∷ ns) = (omega (arith, ints), row_rises (d +ℤ pos 1) ns)

within_first : (sets : List (List ℕ)) (x : NumberedDay) (xs : List NumberedDay) → x.number + 1 < length sets → AreWithin sets xs → AreWithin sets (x ∷ xs)
within_first sets x xs h all zero e l = h
within_first sets x xs h all (suc k) e l = all k e (omega arith)

pub row_within : (sets : List (List ℕ)) (d : ℤ) (ns : List ℕ) → All (λ n. n < length sets) ns → AreWithin sets (days_of d ns)
row_within sets d [] all = λ k e l. absurd (omega arith)
row_within sets d (zero ∷ ns) all = row_within sets (d +ℤ pos 1) ns (All-tail (λ n. n < length sets) 0 ns all)
row_within sets d (suc n ∷ ns) all =
    within_first sets (record { day = d; number = n }) (days_of (d +ℤ pos 1) ns) (omega (arith, All-head (λ n. n < length sets) (suc n) ns all))
    (row_within sets (d +ℤ pos 1) ns (All-tail (λ n. n < length sets) (suc n) ns all))

-- a list of numbers that is cut at the settled day
module _ (kind : Kind) (sets : List (List ℕ)) (before cycle : List ℕ) (first settled : ℤ) (period : ℕ)
    (w : IsWholeFold kind sets (before ++ cycle) first settled period) (parts : length before ≡ nat_abs (settled -ℤ first)) (none : get_or sets 0 [] ≡ []) where
  pub parts_sketch : sketch_of kind sets (before ++ cycle) first settled period
      ≡ sketch_of_runs kind sets (days_of first before) (days_of settled cycle) settled period
  parts_sketch =
      let front : take (nat_abs (settled -ℤ first)) (before ++ cycle) ≡ before =
      ap (λ k. take k (before ++ cycle)) (sym parts) ∙ take-append_seam before cycle in
      let back : drop (nat_abs (settled -ℤ first)) (before ++ cycle) ≡ cycle =
      ap (λ k. drop k (before ++ cycle)) (sym parts) ∙ drop-append_seam before cycle in
      let early_days : shapes_from sets first (take (nat_abs (settled -ℤ first)) (before ++ cycle)) ≡ shapes_of_runs sets (days_of first before) =
      ap (shapes_from sets first) front ∙ sym (row_shapes sets none first before) in
      let cycle_days : shapes_from sets settled (drop (nat_abs (settled -ℤ first)) (before ++ cycle)) ≡ shapes_of_runs sets (days_of settled cycle) =
      ap (shapes_from sets settled) back ∙ sym (row_shapes sets none settled cycle) in
      λ i. record { kind = kind; before = early_days i; settled = settled; period = period; cycle = cycle_days i }

  pub parts_bounded : IsBounded (sketch_of_runs kind sets (days_of first before) (days_of settled cycle) settled period)
  parts_bounded = subst IsBounded parts_sketch (whole_bounded kind sets (before ++ cycle) first settled period w)

  pub parts_first : (day : Option ℤ) → IsFirstFilled sets (before ++ cycle) first day
      → IsFirstDay (sketch_of_runs kind sets (days_of first before) (days_of settled cycle) settled period) day
  parts_first day filled =
      subst (λ (s : Sketch). IsFirstDay s day) parts_sketch (first_day_is kind sets (before ++ cycle) first settled period w day filled)

  pub parts_empty : HasEmptyFirst sets
  parts_empty = (omega (arith, w.within 0 0 (omega (arith, w.whole, w.some))), none)

  pub before_within : AreWithin sets (days_of first before)
  before_within =
      let P : ℕ → Type 0 = λ n. n < length sets in
      row_within sets first before (subst (λ (ns : List ℕ). All P ns) (take-append_seam before cycle) (All-take P (length before) (before ++ cycle) w.within))

  pub cycle_within : AreWithin sets (days_of settled cycle)
  cycle_within =
      let P : ℕ → Type 0 = λ n. n < length sets in
      row_within sets settled cycle (subst (λ (ns : List ℕ). All P ns) (drop-append_seam before cycle) (All-drop P (length before) (before ++ cycle) w.within))

-- the first numbers of a list, and those after them
pub before_rest : (numbers before : List ℕ) (days : ℕ) → before ≡ take days (drop 0 numbers) → before ++ drop days numbers ≡ numbers
before_rest numbers before days e = ap (λ (l : List ℕ). l ++ drop days numbers) e ∙ take-append-drop days numbers

pub before_long : (numbers before : List ℕ) (days : ℕ) → before ≡ take days (drop 0 numbers) → days ≤ length numbers → length before ≡ days
before_long numbers before days e l = ap length e ∙ length-take-le days numbers l

-- the two parts of a list of numbers that is not in pages
pub slice_parts : (numbers front back before cycle : List ℕ) (days period : ℕ) → before ≡ front → front ≡ take (min (length numbers) days) numbers
    → cycle ≡ back → back ≡ drop days numbers → length numbers ≡ days + period → (before ++ cycle ≡ numbers) × (length before ≡ days)
slice_parts numbers front back before cycle days period eb ef ec er whole =
    let n : min (length numbers) days ≡ days = omega (arith, whole) in
    let first_days : before ≡ take days numbers = eb ∙ ef ∙ ap (λ k. take k numbers) n in (
      ap (λ (l : List ℕ). l ++ cycle) first_days ∙ ap (λ (l : List ℕ). take days numbers ++ l) (ec ∙ er) ∙ take-append-drop days numbers,
      ap length first_days ∙ length-take-le days numbers (omega (arith, whole)),
    )

-- ---- days without a number

module _ (kind : Kind) (sets : List (List ℕ)) (before cycle : List NumberedDay) (settled : ℤ) (period : ℕ) (empty : HasEmptyFirst sets) (low : ℤ)
    (before_rises : AreRising low before) (cycle_rises : AreRising settled cycle) (day : ℤ) where
  pub free_before : (count most : ℕ) → ((k : ℕ) → k < count → number_in before (day +ℤ pos k) ≡ None) → settled ≡ day +ℤ pos most
      → (k : ℕ) → k < min count most → times_on (sketch_of_runs kind sets before cycle settled period) (day +ℤ pos k) ≡ []
  free_before count most none at k h =
      let t : int_lt (day +ℤ pos k) settled ≡ true = early (day +ℤ pos k) settled (omega (arith, ints, h)) in
      rw t (none_told sets empty before low (day +ℤ pos k) before_rises (none k (omega (arith, h))))

  pub free_of_cycle : (past place count most : ℕ) → ((k : ℕ) → k < count → number_in cycle ((settled +ℤ pos place) +ℤ pos k) ≡ None)
      → day ≡ settled +ℤ pos past → place ≡ past % period → place + most ≡ period → place < period
      → (k : ℕ) → k < min count most → times_on (sketch_of_runs kind sets before cycle settled period) (day +ℤ pos k) ≡ []
  free_of_cycle past place count most none at ep em below k h =
      let moved : (day +ℤ pos k) -ℤ settled ≡ pos (past + k) = omega (arith, ints) in
      let turned : (past + k) % period ≡ place + k =
      sym (mod-add-mod past period k) ∙ ap (λ n. (n + k) % period) (sym ep) ∙ mod-eq_of_lt (let l : place + k < period = omega (arith, h) in l) in
      let whole : floor_mod ((day +ℤ pos k) -ℤ settled) period ≡ place + k = ap (λ z. floor_mod z period) moved ∙ turned in
      let on : settled +ℤ pos (floor_mod ((day +ℤ pos k) -ℤ settled) period) ≡ (settled +ℤ pos place) +ℤ pos k = omega (arith, ints, whole) in
      let t : int_lt (day +ℤ pos k) settled ≡ false = late (day +ℤ pos k) settled (omega (arith, ints)) in
      rw t (ap (times_in (shapes_of_runs sets cycle)) on
      ∙ none_told sets empty cycle settled ((settled +ℤ pos place) +ℤ pos k) cycle_rises (none k (omega (arith, h))))
