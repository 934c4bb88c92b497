-- What the function reads is what the relation says.
use Rattle.std.proofs.Common.{◌≡◌, ℕ, zero, suc, ◌+◌, ◌<◌, Bool, true, false, ◌&&◌, List, [], ◌∷◌, length, Option, None, Some, ℤ, pos, neg_ℤ}
use Rattle.std.proofs.Common.{◌+ℤ◌, ◌-ℤ◌, ◌≤ℤ◌, ◌<ℤ◌, cond, refl, sym, ap, subst, ◌∙◌, arith}
use Rattle.std.specs.Prelude.{IsTrue, int_le, int_lt, nat_abs, nat_lt}
use Rattle.std.specs.Option.{is_some}
use Rattle.std.proofs.lemmas.Bool.{and_from, and_parts, false≢true, true≢false}
use Rattle.std.proofs.lemmas.Bool.Decides.{nat_tests}
use Rattle.std.proofs.lemmas.Int.{ints, by_lt_z}
use Rattle.rr_model.specs.Calendar.{first_day_of_year}
use Rattle.rr_model.specs.Moment.{is_same_kind}
use Rattle.rr_model.specs.Moment.Years.{IsInYears, is_in_years}
use Rattle.rr_model.specs.Rule.Chosen.{is_chosen}
use Rattle.rr_model.specs.Rule.Validity.{is_absent}
use Rattle.rr_model.specs.declared.kind.Kind.{Kind}
use Rattle.rr_model.specs.declared.kind.Kind.TheVariants.{Days, Moments}
use Rattle.rr_model.specs.declared.limits.TheConstants.{MAX_DATES}
use Rattle.rr_model.specs.declared.rule.End.{End}
use Rattle.rr_model.specs.declared.rule.End.TheVariants.{Never, Until, Count, Both}
use Rattle.rr_model.specs.declared.rule.Rule.{Rule}
use Rattle.rr_model.specs.declared.rule.Series.{Series}
use Rattle.rr_model.proofs.YearLemmas.{is_in_years-seconds, years_are_tested}
use Rattle.rr_start.specs.Start.{IsFirstChosen, IsReread, IsStartOff, ReachesUncounted}
use Rattle.rr_lenient.specs.Ends.{with_ends_of_kind}
use Rattle.rr_lenient.specs.Read.{chosen_after, chosen_among, count_after, first_on, goes_on, has_room, if_reached, last_in_years, one_goes_on, reaches, restated_from}
use Rattle.rr_lenient.specs.ReadLaws.{ReadIsLenient}

-- ---- the first moment that is chosen

-- two moments that are not before each other are one
one_moment : (t u : ℤ) → t ≤ℤ u → u ≤ℤ t → t ≡ u
one_moment t u le g = omega (arith, ints, le, g)

one_value : (t u : ℤ) → ◌≡◌ {A = Option ℤ} (Some t) (Some u) → t ≡ u
one_value t u e = cc

module _ (rule : Rule) (kind : Kind) (start : ℤ) where
  abbrev is_at : ℤ → Bool
  is_at t = is_chosen rule kind start t

  -- this is the first from t on that is chosen
  record IsFirstFrom (t first : ℤ) : Type 0 where
    from : t ≤ℤ first
    chosen : is_at first ≡ true
    least : (u : ℤ) → t ≤ℤ u → is_at u ≡ true → first ≤ℤ u

  -- what is chosen from t on, and not at t, is after t
  after : (t u : ℤ) → is_at t ≡ false → t ≤ℤ u → is_at u ≡ true → (t +ℤ pos 1) ≤ℤ u
  after t u none le c = by_lt_z {P = (t +ℤ pos 1) ≤ℤ u} t u (λ l. omega (arith, ints, l))
      (λ g. absurd (false≢true (sym none ∙ ap is_at (one_moment t u le g) ∙ c)))

  one_more : (t first : ℤ) → is_at t ≡ false → IsFirstFrom (t +ℤ pos 1) first → IsFirstFrom t first
  one_more t first none h = record {
    from = omega (arith, ints, h.from);
    chosen = h.chosen;
    least = λ u le c. h.least u (after t u none le c) c;
  }

  here : (t first : ℤ) → is_at t ≡ true → ◌≡◌ {A = Option ℤ} (Some t) (Some first) → IsFirstFrom t first
  here t first c e = subst (IsFirstFrom t) (one_value t first e) (record { from = omega (arith, ints); chosen = c; least = λ u le d. le })

  found_by : (t : ℤ) (n : ℕ) (first : ℤ) (b : Bool) → is_at t ≡ b → cond b (Some t) (chosen_among rule kind start (t +ℤ pos 1) n) ≡ Some first
      → (chosen_among rule kind start (t +ℤ pos 1) n ≡ Some first → IsFirstFrom (t +ℤ pos 1) first) → IsFirstFrom t first
  found_by t n first true e h more = here t first e h
  found_by t n first false e h more = one_more t first e (more h)

  found : (t : ℤ) (n : ℕ) (first : ℤ) → chosen_among rule kind start t n ≡ Some first → IsFirstFrom t first
  unfolding chosen_among
  found t zero first h = absurd (cc)
  found t (suc n) first h = found_by t n first (is_at t) refl h (found (t +ℤ pos 1) n first)

  none_by : (t : ℤ) (n : ℕ) (u : ℤ) (b : Bool) → is_at t ≡ b → cond b (Some t) (chosen_among rule kind start (t +ℤ pos 1) n) ≡ None
      → t ≤ℤ u → u <ℤ (t +ℤ pos (suc n)) → is_at u ≡ true
      → (chosen_among rule kind start (t +ℤ pos 1) n ≡ None → (t +ℤ pos 1) ≤ℤ u → ⊥) → ⊥
  none_by t n u true e h low high c more = absurd (cc)
  none_by t n u false e h low high c more = more h (after t u e low c)

  none_among : (t : ℤ) (n : ℕ) → chosen_among rule kind start t n ≡ None → (u : ℤ) → t ≤ℤ u → u <ℤ (t +ℤ pos n) → is_at u ≡ true → ⊥
  unfolding chosen_among
  none_among t zero h u low high c = omega (arith, ints, low, high)
  none_among t (suc n) h u low high c =
      none_by t n u (is_at t) refl h low high c (λ e l. none_among (t +ℤ pos 1) n e u l (omega (arith, ints, high)) c)

-- ---- its limits

same_kind_from : (a b : Kind) → is_same_kind a b ≡ true → a ≡ b
same_kind_from Days Days h = refl
same_kind_from Days Moments h = absurd (true≢false (sym h))
same_kind_from Moments Days h = absurd (true≢false (sym h))
same_kind_from Moments Moments h = refl

same_kind_is : (a b : Kind) → a ≡ b → is_same_kind a b ≡ true
same_kind_is a Days e = ap (λ k. is_same_kind k Days) e
same_kind_is a Moments e = ap (λ k. is_same_kind k Moments) e

first_of_10000 : first_day_of_year (pos 10_000) ≡ pos 2_932_897
unfolding first_day_of_year
first_of_10000 = refl

last_is_last : (kind : Kind) (t : ℤ) → IsInYears kind t → t ≤ℤ last_in_years kind
last_is_last Days t h = let below = subst (λ d. t <ℤ d) first_of_10000 h.1 in omega (arith, ints, below)
last_is_last Moments t h =
    let seconds = sym (is_in_years-seconds t) ∙ (years_are_tested Moments t).1 h in
    let high = (and_parts (int_le (neg_ℤ (pos 62_135_596_800)) t) (int_lt t (pos 253_402_300_800)) seconds).1 in
    omega (arith, ints, high)

-- how many come after the start
count_is : (start last : ℤ) → start <ℤ last → cond (int_lt start last) (nat_abs (last -ℤ start)) 0 ≡ nat_abs (last -ℤ start)
count_is start last l = let f : int_lt start last ≡ true = grind (arith, ints) in ap (λ b. cond b (nat_abs (last -ℤ start)) 0) f

left_over : (start last t : ℤ) → start <ℤ t → t ≤ℤ last → t <ℤ ((start +ℤ pos 1) +ℤ pos (nat_abs (last -ℤ start)))
left_over start last t l g = grind (arith, ints)

-- a moment of the years after the start is among those that are looked at
is_among : (kind : Kind) (start t : ℤ) → start <ℤ t → t ≤ℤ last_in_years kind → t <ℤ ((start +ℤ pos 1) +ℤ pos (count_after kind start))
is_among kind start t l g =
    let last = last_in_years kind in
    subst (λ n. t <ℤ ((start +ℤ pos 1) +ℤ pos n)) (sym (count_is start last (omega (arith, ints, l, g)))) (left_over start last t l g)

not_after : (t at : ℤ) → t ≤ℤ at → int_le t at ≡ true
not_after t at h = grind (arith, ints)

reaches_from : (kind : Kind) (t : ℤ) (end : End) → reaches kind t end ≡ true → ReachesUncounted kind t end
reaches_from kind t Never h = tt
reaches_from kind t (Until other at) h =
    let p = and_parts (is_same_kind other kind) (int_le t at) h in
    (same_kind_from other kind p.0, omega (arith, ints, p.1))
reaches_from kind t (Count count) h = absurd (true≢false (sym h))
reaches_from kind t (Both other at count) h = absurd (true≢false (sym h))

reaches_is : (kind : Kind) (t : ℤ) (end : End) → ReachesUncounted kind t end → reaches kind t end ≡ true
reaches_is kind t Never h = refl
reaches_is kind t (Until other at) h = and_from (is_same_kind other kind) (int_le t at) (same_kind_is other kind h.0) (not_after t at h.1)
reaches_is kind t (Count count) h = absurd h
reaches_is kind t (Both other at count) h = absurd h

-- ---- a start that is off

module _ (series : Series) (room : has_room series ≡ true) where
  open_parts : (series.start_counts ≡ true) × (is_absent series.excluded ≡ true) × (nat_lt (length series.plus + length series.minus) MAX_DATES ≡ true)
  open_parts =
      let p = and_parts series.start_counts (is_absent series.excluded && nat_lt (length series.plus + length series.minus) MAX_DATES) room in
      let q = and_parts (is_absent series.excluded) (nat_lt (length series.plus + length series.minus) MAX_DATES) p.1 in
      (p.0, q.0, q.1)

absent_from : {X : Type 0} (xs : List X) → is_absent xs ≡ true → xs ≡ []
absent_from [] h = refl
absent_from (x ∷ xs) h = absurd (true≢false (sym h))

absent_is : {X : Type 0} (xs : List X) → xs ≡ [] → is_absent xs ≡ true
absent_is xs h = ap is_absent h

-- the moment is in the years and reached
reached_by : (kind : Kind) (end : End) (t first : ℤ) (b : Bool) → (is_in_years kind t && reaches kind t end) ≡ b → cond b (Some t) None ≡ Some first
    → (◌≡◌ {A = Option ℤ} (Some t) (Some first)) × (is_in_years kind first ≡ true) × (reaches kind first end ≡ true)
reached_by kind end t first false e h = absurd (cc)
reached_by kind end t first true e h =
    let same = one_value t first h in
    let p = and_parts (is_in_years kind t) (reaches kind t end) e in
    (h, subst (λ u. is_in_years kind u ≡ true) same p.0, subst (λ u. reaches kind u end ≡ true) same p.1)

if_reached_from : (kind : Kind) (end : End) (found : Option ℤ) (first : ℤ) → if_reached kind end found ≡ Some first
    → (found ≡ Some first) × (is_in_years kind first ≡ true) × (reaches kind first end ≡ true)
if_reached_from kind end None first h = absurd (cc)
if_reached_from kind end (Some t) first h = reached_by kind end t first (is_in_years kind t && reaches kind t end) refl h

goes_by : (b : Bool) (o : Option ℤ) (first : ℤ) → cond b None o ≡ Some first → (b ≡ false) × (o ≡ Some first)
goes_by true o first h = absurd (cc)
goes_by false o first h = (refl, h)

-- what is chosen after the start, as the first
first_chosen_is : (rule : Rule) (kind : Kind) (start first : ℤ) → chosen_after rule kind start ≡ Some first → IsFirstChosen rule kind start first
first_chosen_is rule kind start first h =
    let f = found rule kind start (start +ℤ pos 1) (count_after kind start) first h in record {
      later = omega (arith, ints, f.from);
      chosen = f.chosen;
      least = λ u l c. f.least u (omega (arith, ints, l)) c;
    }

module _ (series : Series) (first : ℤ) (room : has_room series ≡ true) where
  off_by : (rule : Rule) → series.rules ≡ rule ∷ [] → goes_on series.kind series.start rule ≡ Some first → IsStartOff series first
  off_by rule one h =
      let g = goes_by (is_chosen rule series.kind series.start series.start) (if_reached series.kind rule.end (chosen_after rule series.kind series.start)) first h in
      let r = if_reached_from series.kind rule.end (chosen_after rule series.kind series.start) first g.1 in
      let parts = open_parts series room in record {
        counts = parts.0;
        rule = rule;
        one_rule = one;
        no_excluded = absent_from series.excluded parts.1;
        not_chosen = g.0;
        first_chosen = first_chosen_is rule series.kind series.start first r.0;
        reaches = reaches_from series.kind first rule.end r.2;
        in_years = (years_are_tested series.kind first).0 r.1;
        room = grind (arith, nat_tests, parts.2);
      }

  off_of : (rules : List Rule) → series.rules ≡ rules → one_goes_on series.kind series.start rules ≡ Some first → IsStartOff series first
  off_of [] e h = absurd (cc)
  off_of (rule ∷ []) e h = off_by rule e h
  off_of (rule ∷ next ∷ rules) e h = absurd (cc)

off_if : (series : Series) (first : ℤ) (b : Bool) → has_room series ≡ b
    → cond b (one_goes_on series.kind series.start series.rules) None ≡ Some first → IsStartOff series first
off_if series first true e h = off_of series first e series.rules refl h
off_if series first false e h = absurd (cc)

-- a start from which on the function goes is off
off_from : (series : Series) (first : ℤ) → first_on series ≡ Some first → IsStartOff series first
off_from series first h = off_if series first (has_room series) refl h

-- ---- a start that is off is found

module _ (series : Series) (first : ℤ) (off : IsStartOff series first) where
  abbrev rule : Rule
  rule = off.rule

  abbrev kind : Kind
  kind = series.kind

  room_is : has_room series ≡ true
  room_is =
      let room : nat_lt (length series.plus + length series.minus) MAX_DATES ≡ true = grind (arith, nat_tests, off.room) in
      and_from series.start_counts (is_absent series.excluded && nat_lt (length series.plus + length series.minus) MAX_DATES) off.counts
      (and_from (is_absent series.excluded) (nat_lt (length series.plus + length series.minus) MAX_DATES) (absent_is series.excluded off.no_excluded) room)

  found_is : (o : Option ℤ) → chosen_after rule kind series.start ≡ o → o ≡ Some first
  found_is None e = absurd (none_among rule kind series.start (series.start +ℤ pos 1) (count_after kind series.start) e first
      (omega (arith, ints, off.first_chosen.later))
      (is_among kind series.start first off.first_chosen.later (last_is_last kind first off.in_years)) off.first_chosen.chosen)
  found_is (Some t) e =
      let f = found rule kind series.start (series.start +ℤ pos 1) (count_after kind series.start) t e in
      ap (λ u. Some u) (one_moment t first (f.least first (omega (arith, ints, off.first_chosen.later)) off.first_chosen.chosen)
      (off.first_chosen.least t (omega (arith, ints, f.from)) f.chosen))

  chosen_is : chosen_after rule kind series.start ≡ Some first
  chosen_is = found_is (chosen_after rule kind series.start) refl

  reached_is : if_reached kind rule.end (Some first) ≡ Some first
  reached_is = ap (λ b. cond b (Some first) None) (and_from (is_in_years kind first) (reaches kind first rule.end)
      ((years_are_tested kind first).1 off.in_years) (reaches_is kind first rule.end off.reaches))

  goes_is : goes_on kind series.start rule ≡ Some first
  goes_is =
      ap (λ b. cond b None (if_reached kind rule.end (chosen_after rule kind series.start))) off.not_chosen
      ∙ ap (λ o. if_reached kind rule.end o) chosen_is ∙ reached_is

  first_is : first_on series ≡ Some first
  first_is =
      ap (λ b. cond b (one_goes_on kind series.start series.rules) None) room_is
      ∙ ap (λ rules. one_goes_on kind series.start rules) off.one_rule ∙ goes_is

none_is : (series : Series) (first : ℤ) → first_on series ≡ None → IsStartOff series first → ⊥
none_is series first h off = absurd (false≢true (ap is_some (sym h ∙ first_is series first off)))

-- ---- the function and the relation

reread_by : (series : Series) (o : Option ℤ) → first_on series ≡ o → IsReread series (restated_from series o) (is_some o)
reread_by series None e = (refl, λ first off. none_is series first e off)
reread_by series (Some first) e = (first, off_from series first e, refl)

pub read_is_lenient : ReadIsLenient
read_is_lenient given = (refl, reread_by (with_ends_of_kind given) (first_on (with_ends_of_kind given)) refl)
