-- How many chosen moments come up to one: counted over days and seconds, and over the numbers of the kind.
use Rattle.std.proofs.Common.{◌≡◌, ℕ, zero, suc, ◌+◌, ◌*◌, ◌<◌, ◌≤◌, Bool, ◌==◌, true, false, ◌&&◌, cond, ℤ, pos, nat_abs, ◌+ℤ◌, ◌-ℤ◌, ◌*ℤ◌, ◌≤ℤ◌, ◌<ℤ◌}
use Rattle.std.proofs.Common.{refl, sym, ap, ◌∙◌, arith}
use Rattle.std.specs.Prelude.{nat_lt, int_le}
use Rattle.std.proofs.lemmas.Int.{ints}
use Rattle.std.proofs.lemmas.Bool.{and_right}
use Rattle.std.proofs.lemmas.Bool.Decides.{nat_tests}
use Rattle.std.proofs.Math.Bool.{and-true}
use Rattle.rr_model.specs.Whole.{floor_div, floor_mod}
use Rattle.rr_model.specs.Whole.Count.{count_from}
use Rattle.rr_model.specs.Calendar.{first_day_of_year}
use Rattle.rr_model.specs.Moment.{day_part, second_part}
use Rattle.rr_model.specs.Moment.Years.{IsInYears}
use Rattle.rr_model.specs.Rule.Chosen.{is_chosen}
use Rattle.rr_model.specs.Rule.Member.{members_to}
use Rattle.rr_model.specs.Sets.Counting.{count_seconds, count_days, count_before, count_to}
use Rattle.rr_model.specs.Sets.Tree.{chosen_of, stands_at}
use Rattle.rr_model.specs.declared.kind.Kind.{Kind}
use Rattle.rr_model.specs.declared.kind.Kind.TheVariants.{Days, Moments}
use Rattle.rr_model.specs.declared.rule.Rule.{Rule}
use Rattle.rr_model.proofs.CountLemmas.{one, count_from-zero, count_from-suc, count_from-split, count_from-empty, count_from-same, count_seconds-same}
use Rattle.rr_model.proofs.CountLemmas.{count_seconds-zero, count_seconds-suc}
use Rattle.rr_model.proofs.WholeLemmas.{floor_whole, floor_mod_below}
use Rattle.rr_lazy.proofs.CountingLemmas.{seconds_skip, count_days-zero, count_days-suc, to_is, before_as}

-- ---- counts of numbers

-- ---- tests that agree count alike

-- the n days from one on pass the same at each second
abbrev AreAlike : (ℤ → ℕ → Bool) → (ℤ → ℕ → Bool) → ℤ → ℕ → Type 0
AreAlike f g q n = (d : ℤ) (s : ℕ) → q ≤ℤ d → d <ℤ (q +ℤ pos n) → s < 86_400 → f d s ≡ g d s

days_same : (f g : ℤ → ℕ → Bool) (q : ℤ) (n : ℕ) → AreAlike f g q n → count_days f q n ≡ count_days g q n
days_same f g q zero same = count_days-zero f q ∙ sym (count_days-zero g q)
days_same f g q (suc n) same =
    let d = q +ℤ pos n in
    let here = count_seconds-same (f d) (g d) 86_400 (λ s l. same d s (omega (arith, ints)) (omega (arith, ints)) l) in
    let rest = days_same f g q n (λ d s l h m. same d s l (omega (arith, ints, h)) m) in
    count_days-suc f q n ∙ (rw (here, rest) (sym (count_days-suc g q n)))

pub to_same : (f g : ℤ → ℕ → Bool) (d : ℤ) (s : ℕ) → first_day_of_year (pos 1) ≤ℤ d
    → ((e : ℤ) (r : ℕ) → e <ℤ d → r < 86_400 → f e r ≡ g e r) → ((r : ℕ) → r < s + 1 → f d r ≡ g d r) → count_to f d s ≡ count_to g d s
to_same f g d s low before here =
    let q : ℤ = first_day_of_year (pos 1) in
    let n : ℕ = nat_abs (d -ℤ q) in
    let e : d ≡ q +ℤ pos n = omega (arith, ints, low) in
    let days : count_days f q n ≡ count_days g q n = days_same f g q n (λ x r l h m. before x r (omega (arith, ints, h, e)) m) in
    omega (arith, to_is f d s, to_is g d s, before_as f d n e, before_as g d n e, days, count_seconds-same (f d) (g d) (s + 1) here)

-- ---- moments: a day has 86,400 numbers

module _ (g : ℤ → Bool) where
  -- the test, asked of the moment at a second of a day
  abbrev at_moments : ℤ → ℕ → Bool
  at_moments d s = nat_lt s 86_400 && g ((d *ℤ pos 86_400) +ℤ pos s)

  seconds_of_moments : (d : ℤ) (m : ℕ) → m ≤ 86_400 → count_seconds (at_moments d) m ≡ count_from g (d *ℤ pos 86_400) m
  seconds_of_moments d zero l = count_seconds-zero (at_moments d) ∙ sym (count_from-zero g (d *ℤ pos 86_400))
  seconds_of_moments d (suc m) l =
      let t : nat_lt m 86_400 ≡ true = grind (arith, nat_tests) in
      let rest = seconds_of_moments d m (omega (arith, l)) in
      count_seconds-suc (at_moments d) m ∙ (rw (t, rest) (sym (count_from-suc g (d *ℤ pos 86_400) m)))

  days_of_moments : (q : ℤ) (n : ℕ) → count_days at_moments q n ≡ count_from g (q *ℤ pos 86_400) (n * 86_400)
  days_of_moments q zero =
      let e : 0 * 86_400 ≡ 0 = omega arith in
      count_days-zero at_moments q ∙ sym (rw e (count_from-zero g (q *ℤ pos 86_400)))
  days_of_moments q (suc n) =
      let e : suc n * 86_400 ≡ n * 86_400 + 86_400 = omega arith in
      let at : (q +ℤ pos n) *ℤ pos 86_400 ≡ (q *ℤ pos 86_400) +ℤ pos (n * 86_400) = omega (arith, ints) in
      let day = seconds_of_moments (q +ℤ pos n) 86_400 (omega arith) ∙ ap (λ z. count_from g z 86_400) at in
      rw e (omega (arith, count_days-suc at_moments q n, days_of_moments q n, day, count_from-split g (q *ℤ pos 86_400) (n * 86_400) 86_400))

  to_of_moments : (q d : ℤ) (n s : ℕ) → q ≡ first_day_of_year (pos 1) → d ≡ q +ℤ pos n → s < 86_400
      → count_to at_moments d s ≡ count_from g (q *ℤ pos 86_400) (n * 86_400 + (s + 1))
  to_of_moments q d n s f e l =
      let at : d *ℤ pos 86_400 ≡ (q *ℤ pos 86_400) +ℤ pos (n * 86_400) = omega (arith, ints, e) in
      let before : count_before at_moments d ≡ count_days at_moments q n = rw f (before_as at_moments d n (e ∙ ap (λ z. z +ℤ pos n) f)) in
      let day = seconds_of_moments d (s + 1) (omega (arith, l)) ∙ ap (λ z. count_from g z (s + 1)) at in
      omega (arith, to_is at_moments d s, before, days_of_moments q n, day, count_from-split g (q *ℤ pos 86_400) (n * 86_400) (s + 1))

  -- ---- dates: a day has one number

  -- the test, asked of a day at its midnight alone
  abbrev at_days : ℤ → ℕ → Bool
  at_days d s = (s == 0) && g d

  seconds_of_date : (d : ℤ) (m : ℕ) → count_seconds (at_days d) (suc m) ≡ cond (g d) 1 0
  seconds_of_date d m =
      let first : count_seconds (at_days d) 1 ≡ cond (g d) 1 0 = count_seconds-suc (at_days d) 0 ∙ (rw (count_seconds-zero (at_days d)) (omega arith)) in
      let later : (s : ℕ) → 1 ≤ s → at_days d s ≡ false = λ s l. (let n : (s == 0) ≡ false = grind (arith, nat_tests) in rw n refl) in
      seconds_skip (at_days d) 1 (suc m) (omega arith) (λ s a b. later s a) ∙ first

  days_of_dates : (q : ℤ) (n : ℕ) → count_days at_days q n ≡ count_from g q n
  days_of_dates q zero = count_days-zero at_days q ∙ sym (count_from-zero g q)
  days_of_dates q (suc n) =
      count_days-suc at_days q n ∙ (rw (days_of_dates q n, seconds_of_date (q +ℤ pos n) 86_399) (sym (count_from-suc g q n)))

  to_of_dates : (q d : ℤ) (n : ℕ) → q ≡ first_day_of_year (pos 1) → d ≡ q +ℤ pos n → count_to at_days d 0 ≡ count_from g q (n + 1)
  to_of_dates q d n f e =
      let before : count_before at_days d ≡ count_days at_days q n = rw f (before_as at_days d n (e ∙ ap (λ z. z +ℤ pos n) f)) in
      let s : n + 1 ≡ suc n = omega arith in
      let day = seconds_of_date d 0 ∙ ap (λ z. one (g z)) e in
      rw s (omega (arith, to_is at_days d 0, before, days_of_dates q n, day, count_from-suc g q n))

-- ---- the chosen moments of a rule

module _ (rule : Rule) (kind : Kind) (start : ℤ) where
  -- the moments that the tree of the rule has
  abbrev stands : ℤ → Bool
  stands t = is_chosen rule kind start t && int_le start t

  from_start : (t : ℤ) → start ≤ℤ t → stands t ≡ is_chosen rule kind start t
  from_start t l = let e : int_le start t ≡ true = grind (arith, ints) in rw e (and-true (is_chosen rule kind start t))

  before_start : (t : ℤ) → t <ℤ start → stands t ≡ false
  before_start t l = and_right (is_chosen rule kind start t) (int_le start t) (grind (arith, ints))

  -- counted from an earlier moment on
  from_earlier : (b t : ℤ) (n : ℕ) → b ≤ℤ start → start ≤ℤ t → t +ℤ pos 1 ≡ b +ℤ pos n → count_from stands b n ≡ members_to rule kind start t
  from_earlier b t n l h e =
      let m : ℕ = nat_abs (start -ℤ b) in
      let k : ℕ = nat_abs ((t -ℤ start) +ℤ pos 1) in
      let f : b +ℤ pos m ≡ start = omega (arith, ints, l) in
      let g : n ≡ m + k = omega (arith, ints, l, h, e) in
      let early : count_from stands b m ≡ 0 = count_from-empty stands b m (λ u p q. before_start u (omega (arith, ints, f, q))) in
      let rest : count_from stands start k ≡ members_to rule kind start t =
      count_from-same stands (is_chosen rule kind start) start k (λ u p q. from_start u p) in
      rw g (omega (arith, count_from-split stands b m k, early, rest, ap (λ z. count_from stands z k) f))

-- 0001-01-01
abbrev first : ℤ
first = first_day_of_year (pos 1)

-- the count in the tree is the number of the member
pub count_is : (rule : Rule) (kind : Kind) (start t : ℤ) → IsInYears kind start → start ≤ℤ t
    → count_to (λ d s. stands_at (chosen_of rule kind start) d s) (day_part kind t) (second_part kind t) ≡ members_to rule kind start t
count_is rule Days start t y l =
    let n : ℕ = nat_abs (t -ℤ first) in
    let e : t ≡ first +ℤ pos n = omega (arith, ints, y.0, l) in
    to_of_dates (stands rule Days start) first t n refl e ∙ from_earlier rule Days start first t (n + 1) y.0 l (omega (arith, ints, e))
count_is rule Moments start t y l =
    let d : ℤ = floor_div t 86_400 in
    let s : ℕ = floor_mod t 86_400 in
    let w = floor_whole t 86_400 (omega arith) in
    let v = floor_whole start 86_400 (omega arith) in
    let low = floor_mod_below t 86_400 (omega arith) in
    let n : ℕ = nat_abs (d -ℤ first) in
    let e : d ≡ first +ℤ pos n = omega (arith, ints, y.0, l, w, v, low) in
    let begun : (first *ℤ pos 86_400) ≤ℤ start = omega (arith, ints, y.0, v) in
    to_of_moments (stands rule Moments start) first d n s refl e low
    ∙ from_earlier rule Moments start (first *ℤ pos 86_400) t (n * 86_400 + (s + 1)) begun l (omega (arith, ints, e, w))
