-- What is read beside the start is valid.
use Rattle.std.proofs.Common.{◌≡◌, ◌+◌, ◌≤◌, ℕ, ◌&&◌, not, Bool, true, false, if◌then◌else◌, List, length, Result, Ok, Option, None, Some}
use Rattle.std.proofs.Common.{arith, subst, refl, sym, ap, ◌∙◌, ℤ, ◌+ℤ◌}
use Rattle.std.specs.Prelude.{All, int_lt, ok_or}
use Rattle.std.specs.List.{slice_split}
use Rattle.std.specs.Option.{IfSome}
use Rattle.std.proofs.lemmas.Bool.{and_parts}
use Rattle.std.proofs.lemmas.List.Elements.{All-nil, All-push}
use Rattle.rr_model.specs.Moment.{is_same_kind}
use Rattle.rr_model.specs.Moment.Years.{IsInYears, is_in_years}
use Rattle.rr_model.specs.Rising.{Rises}
use Rattle.rr_model.specs.Rule.Validity.{HasCountInRange, EndsInYears}
use Rattle.rr_model.specs.Text.Calendars.{end_at, end_beside}
use Rattle.rr_model.specs.Text.Moments.{basic}
use Rattle.rr_model.specs.Text.Passes.{Stated, Beside, Event, Language, nothing_read, nothing_beside, local_moment_of, moment_beside, date_value, date_beside, put_date}
use Rattle.rr_model.specs.Text.Passes.{put_rule, with_date, with_line, with_rule, first_pass, second_pass, unless_stopped, passes}
use Rattle.rr_model.specs.Text.RuleValues.{◌>>=◌}
use Rattle.rr_model.specs.Text.Rules.{has_time}
use Rattle.rr_model.specs.Text.UsedLines.{trim}
use Rattle.rr_model.specs.declared.kind.Kind.{Kind}
use Rattle.rr_model.specs.declared.kind.Kind.TheVariants.{Days, Moments}
use Rattle.rr_model.specs.declared.pass.FirstPass.{FirstPass}
use Rattle.rr_model.specs.declared.refusal.Refusal.{Refusal}
use Rattle.rr_model.specs.declared.refusal.Refusal.TheVariants.{NoStart, BadMoment, MixedKinds}
use Rattle.rr_model.specs.declared.rule.End.{End}
use Rattle.rr_model.specs.declared.rule.End.TheVariants.{Never, Until, Count, Both}
use Rattle.rr_model.specs.declared.stamp.Stamp.{Stamp}
use Rattle.rr_model.specs.declared.used.LineName.{LineName}
use Rattle.rr_model.specs.declared.used.LineName.TheVariants.{Dtstart, Rrule, Rdate, Exdate, Exrule}
use Rattle.rr_model.specs.declared.used.Scan.{Scan}
use Rattle.rr_model.specs.declared.used.UsedLine.{UsedLine}
use Rattle.rr_model.proofs.MemberLemmas.{same_kind_is}
use Rattle.rr_model.proofs.RisingLemmas.{All-with_value, Rises-with_value}
use Rattle.rr_model.proofs.YearLemmas.{years_are_tested}
use Rattle.rr_text.proofs.InYearsLemmas.{basic-stamp}
use Rattle.rr_text.proofs.StepLemmas.{and_then_ok, ok_or_ok, passed}
use Rattle.rr_text.specs.Stamps.{IsStamp}
use Rattle.rr_ical.proofs.PassLemmas.{in_turn-keeps, first_pass-sound, first_pass-counts, second_pass-bounded, date-put, rule-put}

-- ---- moments

turned-in_years : (line : ℕ) (offset : Option ℤ) (at local : ℤ) → local_moment_of line offset at ≡ Ok local → IsInYears Moments local
turned-in_years line None at local h = absurd (cc)
turned-in_years line (Some offset) at local h =
    let tested = passed (is_in_years Moments (at +ℤ offset)) (Ok (at +ℤ offset)) (BadMoment line) local h in
    let same : at +ℤ offset ≡ local = cc in
    subst (IsInYears Moments) same ((years_are_tested Moments (at +ℤ offset)).0 tested.0)

pub date_value-stamp : (line : ℕ) (text : List ℕ) (stamp : Stamp) → date_value line text ≡ Ok stamp → IsStamp stamp
date_value-stamp line text stamp h = basic-stamp (trim text) stamp (ok_or_ok (basic (trim text)) (BadMoment line) stamp h)

module _ (offset : Option ℤ) (start : Stamp) where
  pub moment_beside-in_years : (line : ℕ) (stamp : Stamp) (at : ℤ) → IsStamp stamp → moment_beside offset start line stamp ≡ Ok at → IsInYears stamp.kind at
  moment_beside-in_years line stamp at s h = by (stamp.utc && not start.utc && has_time start.kind)
      (λ e. (and_parts stamp.utc (not start.utc) (and_parts (stamp.utc && not start.utc) (has_time start.kind) e).0).0) h
    where
      by : (b : Bool) → (b ≡ true → stamp.utc ≡ true) → (if b then local_moment_of line offset stamp.at else Ok stamp.at) ≡ Ok at → IsInYears stamp.kind at
      by true utc h = subst (λ (k : Kind). IsInYears k at) (sym (s.1 (utc refl))) (turned-in_years line offset stamp.at at h)
      by false utc h =
          let same : stamp.at ≡ at = cc in
          subst (IsInYears stamp.kind) same s.0

  pub date_beside-in_years : (line : ℕ) (stamp : Stamp) (at : ℤ) → IsStamp stamp → date_beside offset start line stamp ≡ Ok at → IsInYears start.kind at
  date_beside-in_years line stamp at s h =
      let tested = passed (is_same_kind start.kind stamp.kind) (moment_beside offset start line stamp) (MixedKinds line) at h in
      subst (λ (k : Kind). IsInYears k at) (sym ((same_kind_is start.kind stamp.kind).0 tested.0)) (moment_beside-in_years line stamp at s tested.1)

-- ---- rules and dates

-- the rules are good, and the dates rise and lie in the years 1 to 9999
pub record AreValid {R : Type 0} (IsGood : R → Type 0) (kind : Kind) (beside : Beside R) : Type 0 where
  pub rules : All IsGood beside.rules
  pub excluded : All IsGood beside.excluded
  pub plus : All (IsInYears kind) beside.plus
  pub minus : All (IsInYears kind) beside.minus
  pub plus_rises : Rises int_lt beside.plus
  pub minus_rises : Rises int_lt beside.minus

module _ {R : Type 0} (IsGood : R → Type 0) (kind : Kind) where
  nothing-valid : AreValid IsGood kind nothing_beside
  nothing-valid = record {
    rules = All-nil _;
    excluded = All-nil _;
    plus = All-nil _;
    minus = All-nil _;
    plus_rises = tt;
    minus_rises = tt;
  }

  put_date-valid : (is_plus : Bool) (beside : Beside R) (at : ℤ) → AreValid IsGood kind beside → IsInYears kind at
      → AreValid IsGood kind (put_date is_plus beside at)
  put_date-valid true beside at v in_years = record {
    rules = v.rules;
    excluded = v.excluded;
    plus = All-with_value (IsInYears kind) int_lt beside.plus at v.plus in_years;
    minus = v.minus;
    plus_rises = Rises-with_value int_lt beside.plus at v.plus_rises;
    minus_rises = v.minus_rises;
  }
  put_date-valid false beside at v in_years = record {
    rules = v.rules;
    excluded = v.excluded;
    plus = v.plus;
    minus = All-with_value (IsInYears kind) int_lt beside.minus at v.minus in_years;
    plus_rises = v.plus_rises;
    minus_rises = Rises-with_value int_lt beside.minus at v.minus_rises;
  }

  put_rule-valid : (is_given : Bool) (beside : Beside R) (rule : R) → AreValid IsGood kind beside → IsGood rule
      → AreValid IsGood kind (put_rule is_given beside rule)
  put_rule-valid true beside rule v good = record {
    rules = All-push IsGood beside.rules rule v.rules good;
    excluded = v.excluded;
    plus = v.plus;
    minus = v.minus;
    plus_rises = v.plus_rises;
    minus_rises = v.minus_rises;
  }
  put_rule-valid false beside rule v good = record {
    rules = v.rules;
    excluded = All-push IsGood beside.excluded rule v.excluded good;
    plus = v.plus;
    minus = v.minus;
    plus_rises = v.plus_rises;
    minus_rises = v.minus_rises;
  }

-- each rule that is stated is good beside the start
abbrev pub GivesGood : {R : Type 0} → Language R → (ℕ → Stated R → Result R Refusal) → (R → Type 0) → Type 0
GivesGood {R} language rule_beside IsGood =
    (line : ℕ) (text : List ℕ) (stated : Stated R) (rule : R) → language.stated line text ≡ Ok stated → rule_beside line stated ≡ Ok rule → IsGood rule

module _ {R : Type 0} (language : Language R) (rule_beside : ℕ → Stated R → Result R Refusal) (offset : Option ℤ) (start : Stamp)
    (IsGood : R → Type 0) (good : GivesGood language rule_beside IsGood) where
  abbrev IsValidHere : Beside R → Type 0
  IsValidHere beside = AreValid IsGood start.kind beside

  with_date-valid : (line : ℕ) (is_plus : Bool) (beside : Beside R) (text : List ℕ) (next : Beside R) → IsValidHere beside
      → with_date offset start line is_plus beside text ≡ Ok next → IsValidHere next
  with_date-valid line is_plus beside text next v h =
      let put = date-put offset start line is_plus beside text next h in
      let in_years = date_beside-in_years offset start line put.0 put.2 (date_value-stamp line text put.0 put.1) put.3 in
      subst IsValidHere put.4 (put_date-valid IsGood start.kind is_plus beside put.2 v in_years)

  with_rule-valid : (line : ℕ) (is_given : Bool) (beside : Beside R) (text : List ℕ) (next : Beside R) → IsValidHere beside
      → with_rule language rule_beside line is_given beside text ≡ Ok next → IsValidHere next
  with_rule-valid line is_given beside text next v h =
      let put = rule-put language rule_beside line is_given beside text next h in
      subst IsValidHere put.4 (put_rule-valid IsGood start.kind is_given beside put.2 v (good line text put.0 put.2 put.1 put.3))

  with_line-valid : (line : ℕ) (name : LineName) (beside : Beside R) (text : List ℕ) (next : Beside R) → IsValidHere beside
      → with_line language rule_beside offset start line name beside text ≡ Ok next → IsValidHere next
  with_line-valid line Dtstart beside text next v h =
      let same : beside ≡ next = cc in
      subst IsValidHere same v
  with_line-valid line Rrule beside text next v h = with_rule-valid line true beside text next v h
  with_line-valid line Rdate beside text next v h =
      in_turn-keeps (with_date offset start line true) IsValidHere (with_date-valid line true) beside (slice_split language.is_separator text) next v h
  with_line-valid line Exdate beside text next v h =
      in_turn-keeps (with_date offset start line false) IsValidHere (with_date-valid line false) beside (slice_split language.is_separator text) next v h
  with_line-valid line Exrule beside text next v h = with_rule-valid line false beside text next v h

  second_pass-valid : (lines : List UsedLine) (beside : Beside R) → second_pass language rule_beside offset start nothing_beside lines ≡ Ok beside
      → IsValidHere beside
  second_pass-valid lines beside =
      in_turn-keeps (λ b (line : UsedLine). with_line language rule_beside offset start line.number line.name b line.value) IsValidHere
      (λ b line z v h. with_line-valid line.number line.name b line.value z v h) nothing_beside lines beside (nothing-valid IsGood start.kind)

-- ---- the end beside the start

-- an end moment of the end has this kind
abbrev pub EndsAt : Kind → End → Type 0
EndsAt kind (Until other at) = other ≡ kind
EndsAt kind (Both other at n) = other ≡ kind
EndsAt kind end = Unit {0}

-- the end moment that is stated is the end's, if there is one
abbrev pub FitsUntil : Option Stamp → End → Type 0
FitsUntil None end = EndsInYears end
FitsUntil (Some stamp) end = IsStamp stamp × EndsAt stamp.kind end

module _ (offset : Option ℤ) (start : Stamp) where
  end_at-valid : (kind : Kind) (end : End) (at : ℤ) → EndsAt kind end → IsInYears kind at → HasCountInRange end
      → HasCountInRange (end_at end at) × EndsInYears (end_at end at)
  end_at-valid kind Never at k y c = (tt, tt)
  end_at-valid kind (Count n) at k y c = (c, tt)
  end_at-valid kind (Until other t) at k y c = (tt, subst (λ (o : Kind). IsInYears o at) (sym k) y)
  end_at-valid kind (Both other t n) at k y c = (c, subst (λ (o : Kind). IsInYears o at) (sym k) y)

  pub end_beside-valid : (line : ℕ) (until : Option Stamp) (end next : End) → FitsUntil until end → HasCountInRange end
      → end_beside offset start line until end ≡ Ok next → HasCountInRange next × EndsInYears next
  end_beside-valid line None end next fits count h =
      let same : end ≡ next = cc in
      subst (λ (x : End). HasCountInRange x × EndsInYears x) same (count, fits)
  end_beside-valid line (Some stamp) end next fits count h =
      let moment = and_then_ok (moment_beside offset start line stamp) (λ (at : ℤ). Ok (end_at end at)) next h in
      let same : end_at end moment.0 ≡ next = cc in
      let in_years = moment_beside-in_years offset start line stamp moment.0 fits.0 moment.1 in
      subst (λ (x : End). HasCountInRange x × EndsInYears x) same (end_at-valid stamp.kind end moment.0 fits.1 in_years count)

-- ---- the event

-- the event has a start of the years 1 to 9999, few good rules and few dates
pub record IsReadEvent {R : Type 0} (IsGood : Kind → R → Type 0) (event : Event R) : Type 0 where
  pub start : IsInYears event.start.kind event.start.at
  pub beside : AreValid (IsGood event.start.kind) event.start.kind event.beside
  pub few_rules : length event.beside.rules + length event.beside.excluded ≤ 16
  pub few_dates : length event.beside.plus + length event.beside.minus ≤ 10_000

not_stopped : {A : Type 0} (stop : Option Refusal) (x y : A) → unless_stopped stop x ≡ Ok y → x ≡ y
not_stopped None x y h = cc
not_stopped (Some refusal) x y h = absurd (cc)

-- the start of a first pass lies in the years 1 to 9999
start-stamp : {R : Type 0} (language : Language R) (lines : List UsedLine) (pass : FirstPass) (start : Stamp) → first_pass language nothing_read lines ≡ Ok pass
    → pass.start ≡ Some start → IsStamp start
start-stamp language lines pass start first is =
    let sound = first_pass-sound language nothing_read lines pass (record { start = tt; few_rules = omega arith; few_dates = omega arith }) first in
    subst (λ (s : Option Stamp). IfSome s IsStamp) is sound.start

module _ {R : Type 0} (language : Language R) (rule_beside : Stamp → ℕ → Stated R → Result R Refusal) (IsGood : Kind → R → Type 0)
    (good : (start : Stamp) → GivesGood language (rule_beside start) (IsGood start.kind)) where
  event-valid : (offset : Option ℤ) (start : Stamp) (lines : List UsedLine) (pass : FirstPass) (beside : Beside R)
      → first_pass language nothing_read lines ≡ Ok pass → pass.start ≡ Some start
      → second_pass language (rule_beside start) offset start nothing_beside lines ≡ Ok beside
      → IsReadEvent IsGood (record { start = start; beside = beside })
  event-valid offset start lines pass beside first is second =
      let sound = first_pass-sound language nothing_read lines pass (record { start = tt; few_rules = omega arith; few_dates = omega arith }) first in
      let counts = first_pass-counts language nothing_read lines pass first in
      let bounded = second_pass-bounded language (rule_beside start) offset start nothing_beside lines beside second in
      record {
        start = (start-stamp language lines pass start first is).0;
        beside = second_pass-valid language (rule_beside start) offset start (IsGood start.kind) (good start) lines beside second;
        few_rules = omega (arith, bounded.0, counts.0, sound.few_rules);
        few_dates = omega (arith, bounded.1, counts.1, sound.few_dates);
      }

  -- what both passes read is valid
  pub passes-valid : (offset : Option ℤ) (scan : Scan) (event : Event R) → passes language rule_beside offset scan ≡ Ok event → IsReadEvent IsGood event
  passes-valid offset scan event h =
      let read = and_then_ok (first_pass language nothing_read scan.used) _ event h in
      let pass = and_then_ok (unless_stopped scan.stop read.0) _ event read.2 in
      let start = and_then_ok (ok_or pass.0.start NoStart) _ event pass.2 in
      let beside = and_then_ok (second_pass language (rule_beside start.0) offset start.0 nothing_beside scan.used) _ event start.2 in
      let same : record { start = start.0; beside = beside.0 } ≡ event = cc in
      let first : first_pass language nothing_read scan.used ≡ Ok pass.0 = read.1 ∙ ap Ok (not_stopped scan.stop read.0 pass.0 pass.1) in
      subst (IsReadEvent IsGood) same
      (event-valid offset start.0 scan.used pass.0 beside.0 first (ok_or_ok pass.0.start NoStart start.0 start.1) beside.1)

  -- what is made of an event that is read is valid, if it is so of each such event
  pub read-valid : {S : Type 0} (made_of : Event R → S) (IsValid : S → Type 0) → ((event : Event R) → IsReadEvent IsGood event → IsValid (made_of event))
      → (offset : Option ℤ) (scan : Scan) (made : S) → (passes language rule_beside offset scan >>= λ event. Ok (made_of event)) ≡ Ok made
      → IsValid made
  read-valid made_of IsValid valid offset scan made h =
      let event = and_then_ok (passes language rule_beside offset scan) (λ (e : Event R). Ok (made_of e)) made h in
      let same : made_of event.0 ≡ made = cc in
      subst IsValid same (valid event.0 (passes-valid offset scan event.0 event.1))

pub same_kind : (kind : Kind) → is_same_kind kind kind ≡ true
same_kind Days = refl
same_kind Moments = refl
