-- The settled day, gathered from the start, the dates and the rules.
use Rattle.std.proofs.Common.{◌≡◌, ℕ, ◌+◌, ◌-◌, ◌<◌, ◌≤◌, List, length, get_or, All, ℤ, pos, ◌+ℤ◌, ◌≤ℤ◌, ◌<ℤ◌, sym, ap, subst, ◌∙◌, inl, inr, arith}
use Rattle.std.specs.Prelude.{Err, Some, int_lt}
use Rattle.std.specs.Int.{int_max}
use Rattle.std.proofs.lemmas.Int.{ints, clamps}
use Rattle.std.proofs.lemmas.Bool.{cases_lt}
use Rattle.std.proofs.lemmas.List.{get_or_default}
use Rattle.std.specs.List.{slice_get}
use Rattle.std.proofs.lemmas.Option.{get_or_from_slice_get}
use Rattle.rr_model.specs.Bounds.{first_day_of_all}
use Rattle.rr_model.specs.Rising.{Rises}
use Rattle.rr_model.proofs.OrderLemmas.{day_mono}
use Rattle.rr_model.specs.Answers.{RefusedExactlyWhere}
use Rattle.rr_model.specs.Calendar.{first_day_of_year}
use Rattle.rr_model.specs.Moment.{day_part}
use Rattle.rr_model.specs.Series.Limits.{CountsTooFar, CountSomeTooFar, IsCountedTooFar}
use Rattle.rr_model.specs.Series.Settled.{EndsBefore, LieBefore, IsSettledDay}
use Rattle.rr_model.specs.Series.Soundness.{IsSound}
use Rattle.rr_model.specs.declared.kind.Kind.{Kind}
use Rattle.rr_model.specs.declared.refusal.Fault.{Fault}
use Rattle.rr_model.specs.declared.refusal.Fault.TheVariants.{Refused, NoMemory}
use Rattle.rr_model.specs.declared.refusal.Refusal.TheVariants.{CountedTooFar}
use Rattle.rr_model.specs.declared.rule.End.{End}
use Rattle.rr_model.specs.declared.rule.End.TheVariants.{Never, Until, Count, Both}
use Rattle.rr_model.specs.declared.rule.Rule.{Rule}
use Rattle.rr_model.specs.declared.rule.Series.{Series}
use Rattle.rr_model.proofs.YearLemmas.{year_1, year_10000}
use Rattle.rr_model.proofs.RisingSetLemmas.{rising_dates}
use Rattle.rr_iter.specs.Ends.{HaveEnded, IsLastDay, IsLastOfRules, IsSoundRule}

-- a rule that has ended has ended on each later day
pub ends_later : (kind : Kind) (start : ℤ) (rule : Rule) (end : End) (a b : ℤ) → a ≤ℤ b → EndsBefore kind start a rule end → EndsBefore kind start b rule end
ends_later kind start rule Never a b l e = tt
ends_later kind start rule (Until other at) a b l e = omega (arith, ints, l, e)
ends_later kind start rule (Count count) a b l e = λ t m. omega (arith, ints, l, e t m)
ends_later kind start rule (Both other at count) a b l e = λ t m. omega (arith, ints, l, e t m)

pub lie_later : (kind : Kind) (dates : List ℤ) (a b : ℤ) → a ≤ℤ b → LieBefore kind a dates → LieBefore kind b dates
lie_later kind dates a b l before k d h = omega (arith, ints, l, before k d h)

-- the last of rising dates lies last
pub last_past : (kind : Kind) (dates : List ℤ) (date bound : ℤ) → Rises int_lt dates → slice_get dates (length dates - 1) ≡ Some date
    → day_part kind date <ℤ bound → LieBefore kind bound dates
last_past kind dates date bound r e l k d h =
    let n : ℕ = length dates - 1 in
    let last : get_or dates n (pos 0) ≡ date = get_or_from_slice_get dates n date (pos 0) e in
    let here : get_or dates k d ≡ get_or dates k (pos 0) = get_or_default dates k d (pos 0) h in
    let order : get_or dates k (pos 0) ≤ℤ get_or dates n (pos 0) = elim (cases_lt k n) [
      | inl m ↦ omega (arith, ints, rising_dates dates r k n m (omega arith))
      | inr m ↦ (let q : k ≡ n = omega arith in omega (arith, ints, ap (λ z. get_or dates z (pos 0)) q))
    ] in
    let days = day_mono kind (get_or dates k d) date (omega (arith, ints, here, order, last)) in
    omega (arith, ints, days, l)

-- what is known of a day once the first n rules were asked
pub record IsGathered (kind : Kind) (start : ℤ) (rules : List Rule) (day : ℤ) (asked : ℕ) (last : ℤ) : Type 0 where
  pub late : day ≤ℤ last
  pub high : last ≤ℤ pos 19_710_112
  pub ended : (k : ℕ) (d : Rule) → k < asked → k < length rules → EndsBefore kind start (last +ℤ pos 1) (get_or rules k d) (get_or rules k d).end
  pub near : (k : ℕ) (d : Rule) → k < asked → k < length rules → CountsTooFar kind start (get_or rules k d) → ⊥
  pub least : (settled : ℤ) → day <ℤ settled → HaveEnded kind start settled rules → last <ℤ settled

module _ (kind : Kind) (start : ℤ) (rules : List Rule) (day : ℤ) where
  -- none was asked
  pub gathered_none : day ≤ℤ pos 19_710_112 → IsGathered kind start rules day 0 day
  gathered_none h = record {
    late = omega (arith, ints);
    high = h;
    ended = λ k d b w. absurd (omega (arith, b));
    near = λ k d b w. absurd (omega (arith, b));
    least = λ settled l e. l;
  }

  module _ (asked : ℕ) (last : ℤ) (first : day_part kind start ≤ℤ day) (g : IsGathered kind start rules day asked last) where
    -- one rule more
    pub gathered_more : (rule : Rule) (own both : ℤ) → asked < length rules → get_or rules asked rule ≡ rule → IsLastDay kind start rule own
        → own ≤ℤ pos 19_710_112 → (CountsTooFar kind start rule → ⊥) → both ≡ int_max last own → IsGathered kind start rules day (asked + 1) both
    gathered_more rule own both l e i h n m =
        let left : last ≤ℤ both = omega (arith, ints, clamps, m) in
        let right : own ≤ℤ both = omega (arith, ints, clamps, m) in
        let here : (d : Rule) → get_or rules asked d ≡ rule = λ d. get_or_default rules asked d rule l ∙ e in
        record {
          late = omega (arith, ints, left, g.late);
          high = omega (arith, ints, clamps, m, h, g.high);
          ended = λ k d b w. elim (cases_lt k asked) [
            | inl c ↦ (
                let other = get_or rules k d in
                ends_later kind start other other.end (last +ℤ pos 1) (both +ℤ pos 1) (omega (arith, ints, left)) (g.ended k d c w))
            | inr c ↦ (
                let same : k ≡ asked = omega arith in
                let now = ends_later kind start rule rule.end (own +ℤ pos 1) (both +ℤ pos 1) (omega (arith, ints, right)) i.ends in
                rw same (subst (λ r. EndsBefore kind start (both +ℤ pos 1) r r.end) (sym (here d)) now))
          ];
          near = λ k d b w. elim (cases_lt k asked) [
            | inl c ↦ g.near k d c w
            | inr c ↦ (let same : k ≡ asked = omega arith in rw same (subst (λ r. CountsTooFar kind start r → ⊥) (sym (here d)) n))
          ];
          least = λ settled p q. (
              let a = g.least settled p q in
              let b = i.least settled (omega (arith, ints, first, p)) (subst (λ r. EndsBefore kind start settled r r.end) (here rule) (q asked rule l)) in
              omega (arith, ints, clamps, m, a, b));
        }

    -- all rules
    pub gathered_all : length rules ≤ asked → IsLastOfRules kind start rules day last
    gathered_all l = record { late = g.late; ended = λ k d h. g.ended k d (omega arith) h; least = g.least }

    pub none_too_far : length rules ≤ asked → CountSomeTooFar kind start rules → ⊥
    none_too_far l (k, rule, h, e, far) = g.near k rule (omega arith) h (subst (CountsTooFar kind start) (sym e) far)

-- a call is refused as one that it makes
pub refused_as : (X Y : Type 0) (fault : Fault) (P Q : Type 0) → (P → Q) → RefusedExactlyWhere {X = X} P CountedTooFar (Err fault)
    → RefusedExactlyWhere {X = Y} Q CountedTooFar (Err fault)
refused_as X Y (Refused other) P Q f r = (r.0, f r.1)
refused_as X Y NoMemory P Q f r = tt

-- a rule that is refused
pub one_too_far : (X Y : Type 0) (kind : Kind) (start : ℤ) (rules : List Rule) (k : ℕ) (rule : Rule) (fault : Fault) → k < length rules
    → get_or rules k rule ≡ rule → RefusedExactlyWhere {X = X} (CountsTooFar kind start rule) CountedTooFar (Err fault)
    → RefusedExactlyWhere {X = Y} (CountSomeTooFar kind start rules) CountedTooFar (Err fault)
one_too_far X Y kind start rules k rule fault l e =
    refused_as X Y fault (CountsTooFar kind start rule) (CountSomeTooFar kind start rules) (λ far. (k, rule, l, e, far))

-- ---- the series

-- each rule, and each excluded one, beside the start
pub rules_are_sound : (series : Series) → IsSound series → All (IsSoundRule series.kind series.start) series.rules
rules_are_sound series sound k d l = record {
  valid = sound.valid.rules k d l;
  in_years = sound.valid.start;
  ends_in_years = sound.valid.ends k d l;
  end = (sound.rules k d l).end;
}

pub excluded_are_sound : (series : Series) → IsSound series → All (IsSoundRule series.kind series.start) series.excluded
excluded_are_sound series sound k d l = record {
  valid = sound.valid.excluded k d l;
  in_years = sound.valid.start;
  ends_in_years = sound.valid.excluded_ends k d l;
  end = sound.excluded k d l;
}

-- the start's day, the dates added, and the dates taken out
module _ (series : Series) (sound : IsSound series) (day plus dates : ℤ) (e : day ≡ day_part series.kind series.start)
    (late1 : day ≤ℤ plus) (past1 : LieBefore series.kind (plus +ℤ pos 1) series.plus)
    (least1 : (settled : ℤ) → day <ℤ settled → LieBefore series.kind settled series.plus → plus <ℤ settled)
    (late2 : plus ≤ℤ dates) (past2 : LieBefore series.kind (dates +ℤ pos 1) series.minus)
    (least2 : (settled : ℤ) → plus <ℤ settled → LieBefore series.kind settled series.minus → dates <ℤ settled) where
  -- the days of the dates are those of years 1 to 9999
  pub dates_near : (first_day_of_all ≤ℤ dates) × (day_part series.kind series.start ≤ℤ dates) × (dates ≤ℤ pos 19_710_112)
  dates_near =
      let start = sound.valid.start in
      let end : ℤ = first_day_of_year (pos 10_000) in
      let before_plus : plus <ℤ end = least1 end (omega (arith, ints, e, start.1)) (λ k d h. (sound.valid.plus k d h).1) in
      let before_minus : dates <ℤ end = least2 end before_plus (λ k d h. (sound.valid.minus k d h).1) in
      (omega (arith, ints, e, start.0, year_1, late1, late2), omega (arith, ints, e, late1, late2), omega (arith, ints, before_minus, year_10000))

  -- and the last days of the rules and of the excluded ones
  pub settled_is : (rules last : ℤ) → IsLastOfRules series.kind series.start series.rules dates rules
      → IsLastOfRules series.kind series.start series.excluded rules last → IsSettledDay series (last +ℤ pos 1)
  settled_is rules last r x = record {
    past = record {
      start = omega (arith, ints, e, late1, late2, r.late, x.late);
      plus = lie_later series.kind series.plus (plus +ℤ pos 1) (last +ℤ pos 1) (omega (arith, ints, late2, r.late, x.late)) past1;
      minus = lie_later series.kind series.minus (dates +ℤ pos 1) (last +ℤ pos 1) (omega (arith, ints, r.late, x.late)) past2;
      rules = λ k d h. (let rule = get_or series.rules k d in
          ends_later series.kind series.start rule rule.end (rules +ℤ pos 1) (last +ℤ pos 1) (omega (arith, ints, x.late)) (r.ended k d h));
      excluded = x.ended;
    };
    least = λ settled p. (
        let a = least1 settled (let s = p.start in omega (arith, ints, e, s)) p.plus in
        let b = r.least settled (least2 settled a p.minus) p.rules in
        omega (arith, ints, x.least settled b p.excluded));
  }

-- refused for a rule, or else for an excluded one
module _ (X Y : Type 0) (series : Series) (fault : Fault) where
  pub rule_too_far : RefusedExactlyWhere {X = X} (CountSomeTooFar series.kind series.start series.rules) CountedTooFar (Err fault)
      → RefusedExactlyWhere {X = Y} (IsCountedTooFar series) CountedTooFar (Err fault)
  rule_too_far = refused_as X Y fault (CountSomeTooFar series.kind series.start series.rules) (IsCountedTooFar series) (λ far. inl far)

  pub excluded_too_far : RefusedExactlyWhere {X = X} (CountSomeTooFar series.kind series.start series.excluded) CountedTooFar (Err fault)
      → RefusedExactlyWhere {X = Y} (IsCountedTooFar series) CountedTooFar (Err fault)
  excluded_too_far = refused_as X Y fault (CountSomeTooFar series.kind series.start series.excluded) (IsCountedTooFar series) (λ far. inr far)

pub neither_too_far : (series : Series) → (CountSomeTooFar series.kind series.start series.rules → ⊥)
    → (CountSomeTooFar series.kind series.start series.excluded → ⊥) → IsCountedTooFar series → ⊥
neither_too_far series a b far = elim far [ inl r ↦ a r | inr x ↦ b x ]
