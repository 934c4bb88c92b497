-- Both passes over written lines (RFC 5545, sections 3.8.2.4, 3.8.5.1, 3.8.5.2 and 3.8.5.3).
use Rattle.std.proofs.Common.{◌≡◌, ℕ, ◌+◌, ◌<◌, ◌≤◌, Bool, true, false, ℤ, List, [], ◌∷◌, ◌++◌, length, map, None, Some, Result, Ok}
use Rattle.std.proofs.Common.{append_assoc, append-nil, refl, sym, ap, ◌∙◌, arith}
use Rattle.std.specs.Prelude.{◌==◌, ◌&&◌, not, nat_le, codes, int_lt, ok_or}
use Rattle.std.specs.List.{list_all, list_any, AllByRecursion, slice_split}
use Rattle.std.proofs.lemmas.Bool.{and_parts, and_right, not-true}
use Rattle.std.proofs.lemmas.Bool.Decides.{nat_tests}
use Rattle.std.proofs.lemmas.List.{length_push}
use Rattle.rr_model.specs.Moment.Years.{IsInYears}
use Rattle.rr_model.specs.Rising.{Rises}
use Rattle.rr_model.specs.Rule.Validity.{IsValidRule, EndsInYears}
use Rattle.rr_model.specs.Text.Calendars.{end_beside}
use Rattle.rr_rule_parts.specs.Calendars.{rule_beside, rrule_language}
use Rattle.rr_model.specs.Text.Event.{used_line}
use Rattle.rr_model.specs.Text.Moments.{basic}
use Rattle.rr_model.specs.Text.Passes.{Beside, has_slash, date_value, judged_date, judged_dates, judged_line, judged_rule, put_date, with_date, with_dates}
use Rattle.rr_model.specs.Text.Passes.{with_line}
use Rattle.rr_model.specs.Text.RuleValues.{◌>>=◌}
use Rattle.rr_model.specs.Text.Steps.{in_turn}
use Rattle.rr_model.specs.Text.WriteLaws.{IsOneEnd}
use Rattle.rr_model.specs.Text.Written.{basic_text, rule_text}
use Rattle.rr_model.specs.declared.kind.Kind.{Kind}
use Rattle.rr_model.specs.declared.pass.FirstPass.{FirstPass}
use Rattle.rr_model.specs.declared.refusal.Refusal.{Refusal}
use Rattle.rr_model.specs.declared.refusal.Refusal.TheVariants.{BadMoment}
use Rattle.rr_model.specs.declared.rule.End.{End}
use Rattle.rr_model.specs.declared.rule.End.TheVariants.{Never, Until, Count, Both}
use Rattle.rr_model.specs.declared.rule.Rule.{Rule}
use Rattle.rr_model.specs.declared.stamp.Stamp.{Stamp}
use Rattle.rr_model.specs.declared.used.LineName.{LineName}
use Rattle.rr_model.specs.declared.used.LineName.TheVariants.{Rrule, Rdate, Exdate, Exrule}
use Rattle.rr_model.specs.declared.used.UsedLine.{UsedLine}
use Rattle.rr_model.proofs.RisingSetLemmas.{Rises-tail}
use Rattle.rr_text.proofs.FoldedLineLemmas.{number_after}
use Rattle.rr_text.proofs.PlainTextLemmas.{trim-plain}
use Rattle.rr_text.proofs.WrittenByteLemmas.{is_word_byte, is_line_byte, has_no, list_all-weaker, values-from_words, line-from_values, no_comma-from_words}
use Rattle.rr_text.proofs.WrittenByteLemmas.{basic_text-words}
use Rattle.rr_text.proofs.WrittenLemmas.{basic-written}
use Rattle.rr_text.proofs.WrittenListLemmas.{pieces-none, with_value-last, IsAbove, IsAbove-next}
use Rattle.rr_text.proofs.WrittenValueLemmas.{int_lt-transitive}
use Rattle.rr_ical.proofs.WrittenLineLemmas.{WrittenLine, used_from, number_behind, used_from-append, date_front}
use Rattle.rr_ical.proofs.PassLemmas.{in_turn-append}
use Rattle.rr_ical.proofs.BesideLemmas.{same_kind}
use Rattle.rr_rrule.proofs.WrittenRuleLemmas.{until_of, stated_rule-written}

-- ---- lines in turn

module _ {X : Type 0} (step : X → UsedLine → Result X Refusal) where
  -- lines before others
  pub lines_first : (k : ℕ) (ls ms : List WrittenLine) (x next : X) → in_turn step x (used_from k ls) ≡ Ok next
      → in_turn step x (used_from k (ls ++ ms)) ≡ in_turn step next (used_from (number_behind k ls) ms)
  lines_first k ls ms x next h =
      ap (in_turn step x) (used_from-append k ls ms)
      ∙ in_turn-append step x (used_from k ls) (used_from (number_behind k ls) ms)
      ∙ ap (λ (m : Result X Refusal). m >>= λ n. in_turn step n (used_from (number_behind k ls) ms)) h

  -- a line for each of some things, if what is read of them so far is the state
  module _ {Y : Type 0} (line_of : Y → WrittenLine) (state : List Y → X) (Fits : List Y → List Y → Type 0) where
    -- the next one is read, and the others fit then
    abbrev pub GoesOn : Type 0
    GoesOn = (k : ℕ) (done : List Y) (y : Y) (ys : List Y) → Fits done (y ∷ ys)
        → (step (state done) (used_line k (line_of y).name (line_of y).value) ≡ Ok (state (done ++ y ∷ []))) × Fits (done ++ y ∷ []) ys

    pub lines_each : GoesOn → (k : ℕ) (done ys : List Y) → Fits done ys
        → in_turn step (state done) (used_from k (map line_of ys)) ≡ Ok (state (done ++ ys))
    lines_each more k done [] h = ap (λ (l : List Y). Ok (state l)) (sym (append-nil done))
    lines_each more k done (y ∷ ys) h =
        let one = more k done y ys h in
        ap (λ (m : Result X Refusal). m >>= λ next. in_turn step next (used_from (number_after k (line_of y).text) (map line_of ys))) one.0
        ∙ lines_each more (number_after k (line_of y).text) (done ++ y ∷ []) ys one.1
        ∙ ap (λ (l : List Y). Ok (state l)) (append_assoc done (y ∷ []) ys)

-- ---- written dates

-- a moment as it is read
abbrev pub stamp_of : Kind → ℤ → Stamp
stamp_of kind at = record { kind = kind; at = at; utc = false }

-- the line of a date: the word that it begins with, and its name
abbrev pub dated : List ℕ → LineName → Kind → ℤ → WrittenLine
dated word name kind at = record { text = date_front word kind ++ basic_text kind at; name = name; value = basic_text kind at }

pub date_bytes : (kind : Kind) (at : ℤ) → IsInYears kind at → list_all is_line_byte (basic_text kind at) ≡ true
date_bytes kind at years = line-from_values (basic_text kind at) (values-from_words (basic_text kind at) (basic_text-words kind at years))

word_no_slash : (b : ℕ) → is_word_byte b ≡ true → not (b == 47) ≡ true
word_no_slash b h = grind (arith, nat_tests)

none_any : (b : ℕ) (text : List ℕ) → has_no b text ≡ true → list_any (λ c. c == b) text ≡ false
none_any b [] h = refl
none_any b (c ∷ cs) h =
    let parts = and_parts (not (c == b)) (has_no b cs) h in
    rw (not-true (c == b) parts.0) (none_any b cs parts.1)

module _ (kind : Kind) (at : ℤ) (years : IsInYears kind at) where
  one_date : slice_split rrule_language.is_separator (basic_text kind at) ≡ basic_text kind at ∷ []
  one_date = pieces-none 44 (basic_text kind at) (no_comma-from_words (basic_text kind at) (basic_text-words kind at years))

  no_slash : has_slash (basic_text kind at) ≡ false
  no_slash =
      none_any 47 (basic_text kind at)
      (list_all-weaker is_word_byte (λ b. not (b == 47)) word_no_slash (basic_text kind at) (basic_text-words kind at years))

  date_value-written : (line : ℕ) → date_value line (basic_text kind at) ≡ Ok (stamp_of kind at)
  date_value-written line =
      ap (λ (t : List ℕ). ok_or (basic t) (BadMoment line)) (trim-plain (basic_text kind at) (date_bytes kind at years))
      ∙ ap (λ o. ok_or o (BadMoment line)) (basic-written kind at years)

-- ---- the first pass

-- what is read so far: the start, rules and dates
abbrev pub passed : Stamp → ℕ → ℕ → FirstPass
passed start rules dates = record { start = Some start; rule_count = rules; date_count = dates }

abbrev pub first_step : FirstPass → UsedLine → Result FirstPass Refusal
first_step pass line = judged_line rrule_language line.number line.name pass line.value

-- dates of the kind that there is room for
abbrev pub HasRoom : Kind → ℕ → List ℤ → List ℤ → Type 0
HasRoom kind before done ats = (before + (length done + length ats) ≤ 10_000) × AllByRecursion (IsInYears kind) ats

date_judged : (line : ℕ) (is_plus : Bool) (pass : FirstPass) (kind : Kind) (at : ℤ) → IsInYears kind at → pass.date_count < 10_000
    → judged_dates line is_plus pass (slice_split rrule_language.is_separator (basic_text kind at)) ≡ Ok (record pass { date_count = pass.date_count + 1 })
date_judged line is_plus pass kind at years room =
    let few : nat_le 10_000 pass.date_count ≡ false = grind (arith, nat_tests, room) in
    let text = basic_text kind at in
    let slash : (is_plus && has_slash text) ≡ false = and_right is_plus (has_slash text) (no_slash kind at years) in
    ap (in_turn (judged_date line is_plus) pass) (one_date kind at years)
    ∙ rw (few, slash, date_value-written kind at years line) refl

module _ (start : Stamp) (kind : Kind) (rules before : ℕ) where
  abbrev pub dates_so_far : List ℤ → FirstPass
  dates_so_far done = passed start rules (before + length done)

  date_room : (done : List ℤ) (at : ℤ) (ats : List ℤ) → HasRoom kind before done (at ∷ ats) → before + length done < 10_000
  date_room done at ats h = omega (arith, h.0)

  room_next : (done : List ℤ) (at : ℤ) (ats : List ℤ) → HasRoom kind before done (at ∷ ats) → HasRoom kind before (done ++ at ∷ []) ats
  room_next done at ats h = (omega (arith, h.0, length_push done at), h.1.1)

  count_next : (done : List ℤ) (at : ℤ) → passed start rules (before + length done + 1) ≡ dates_so_far (done ++ at ∷ [])
  count_next done at = ap (passed start rules) (omega (arith, length_push done at))

  pub plus_judged : (word : List ℕ) → GoesOn first_step (dated word Rdate kind) dates_so_far (HasRoom kind before)
  plus_judged word k done at ats h = (
    date_judged k true (dates_so_far done) kind at h.1.0 (date_room done at ats h) ∙ ap Ok (count_next done at),
    room_next done at ats h,
  )

  pub minus_judged : (word : List ℕ) → GoesOn first_step (dated word Exdate kind) dates_so_far (HasRoom kind before)
  minus_judged word k done at ats h = (
    date_judged k false (dates_so_far done) kind at h.1.0 (date_room done at ats h) ∙ ap Ok (count_next done at),
    room_next done at ats h,
  )

-- a rule that is written: valid, with at most one end, in the years 1 to 9999
pub record IsWritable (kind : Kind) (rule : Rule) : Type 0 where
  pub valid : IsValidRule kind rule
  pub one_end : IsOneEnd rule.end
  pub years : EndsInYears rule.end

-- the line of a rule: the word that it begins with, and its name
abbrev pub ruled : List ℕ → LineName → Rule → WrittenLine
ruled word name rule = record { text = word ++ codes ":" ++ rule_text rule; name = name; value = rule_text rule }

-- rules that there is room for beside those before them
abbrev pub AreFew : Kind → ℕ → List Rule → List Rule → Type 0
AreFew kind before done rules = (before + (length done + length rules) ≤ 16) × AllByRecursion (IsWritable kind) rules

few_next : (kind : Kind) (before : ℕ) (done : List Rule) (rule : Rule) (rules : List Rule) → AreFew kind before done (rule ∷ rules)
    → AreFew kind before (done ++ rule ∷ []) rules
few_next kind before done rule rules h = (omega (arith, h.0, length_push done rule), h.1.1)

abbrev pub rules_so_far : Stamp → ℕ → List Rule → FirstPass
rules_so_far start before done = passed start (before + length done) 0

module _ (start : Stamp) (kind : Kind) (before k : ℕ) (done : List Rule) (rule : Rule) (rules : List Rule) (h : AreFew kind before done (rule ∷ rules)) where
  counted_rule : judged_rule rrule_language k (rules_so_far start before done) (rule_text rule) ≡ Ok (rules_so_far start before (done ++ rule ∷ []))
  counted_rule =
      let w = h.1.0 in
      let few : nat_le 16 (before + length done) ≡ false = grind (arith, nat_tests, h.0) in
      let counted : before + length done + 1 ≡ before + length (done ++ rule ∷ []) = omega (arith, length_push done rule) in
      rw (few, stated_rule-written k kind rule w.valid w.one_end w.years) refl ∙ ap (λ n. Ok (passed start n 0)) counted

pub rule_judged : (start : Stamp) (kind : Kind) (before : ℕ) (word : List ℕ)
    → GoesOn first_step (ruled word Rrule) (rules_so_far start before) (AreFew kind before)
rule_judged start kind before word k done rule rules h = (counted_rule start kind before k done rule rules h, few_next kind before done rule rules h)

pub excluded_judged : (start : Stamp) (kind : Kind) (before : ℕ) (word : List ℕ)
    → GoesOn first_step (ruled word Exrule) (rules_so_far start before) (AreFew kind before)
excluded_judged start kind before word k done rule rules h = (counted_rule start kind before k done rule rules h, few_next kind before done rule rules h)

-- ---- the second pass

abbrev pub second_step : Stamp → Beside Rule → UsedLine → Result (Beside Rule) Refusal
second_step start beside line = with_line rrule_language (rule_beside None start) None start line.number line.name beside line.value

-- a written date beside a start of its kind
date_put : (line : ℕ) (is_plus : Bool) (beside : Beside Rule) (kind : Kind) (start at : ℤ) → IsInYears kind at
    → with_dates None (stamp_of kind start) line is_plus beside (slice_split rrule_language.is_separator (basic_text kind at)) ≡ Ok (put_date is_plus
    beside at)
date_put line is_plus beside kind start at years =
    ap (in_turn (with_date None (stamp_of kind start) line is_plus) beside) (one_date kind at years)
    ∙ rw (date_value-written kind at years line, same_kind kind) refl

end_beside-written : (start : Stamp) (line : ℕ) (end : End) → IsOneEnd end → end_beside None start line (until_of end) end ≡ Ok end
end_beside-written start line Never h = refl
end_beside-written start line (Until kind at) h = refl
end_beside-written start line (Count n) h = refl
end_beside-written start line (Both kind at n) h = absurd h

rule_beside-written : (line : ℕ) (kind : Kind) (start : ℤ) (rule : Rule) → IsWritable kind rule
    → rule_beside None (stamp_of kind start) line (record { rule = rule; until = until_of rule.end }) ≡ Ok rule
unfolding rule_beside
rule_beside-written line kind start rule w = rw (end_beside-written (stamp_of kind start) line rule.end w.one_end, w.valid.start) refl

module _ (kind : Kind) (start : ℤ) where
  -- rules that are read so far
  abbrev pub rules_beside : List Rule → Beside Rule
  rules_beside done = record { rules = done; excluded = []; plus = []; minus = [] }

  -- and excluded ones
  abbrev pub excluded_beside : List Rule → List Rule → Beside Rule
  excluded_beside rules done = record { rules = rules; excluded = done; plus = []; minus = [] }

  pub rule_put : (before : ℕ) (word : List ℕ) → GoesOn (second_step (stamp_of kind start)) (ruled word Rrule) rules_beside (AreFew kind before)
  rule_put before word k done rule rules h =
      let w = h.1.0 in (
        rw (stated_rule-written k kind rule w.valid w.one_end w.years, rule_beside-written k kind start rule w) refl,
        few_next kind before done rule rules h,
      )

  pub excluded_put : (given : List Rule) (before : ℕ) (word : List ℕ)
      → GoesOn (second_step (stamp_of kind start)) (ruled word Exrule) (excluded_beside given) (AreFew kind before)
  excluded_put given before word k done rule rules h =
      let w = h.1.0 in (
        rw (stated_rule-written k kind rule w.valid w.one_end w.years, rule_beside-written k kind start rule w) refl,
        few_next kind before done rule rules h,
      )

  -- dates that rise from those before them
  abbrev pub GoOn : List ℤ → List ℤ → Type 0
  GoOn done ats = AllByRecursion (IsInYears kind) ats × Rises int_lt ats × IsAbove int_lt int_lt-transitive done ats

  goes_on : (done : List ℤ) (at : ℤ) (ats : List ℤ) → GoOn done (at ∷ ats) → GoOn (done ++ at ∷ []) ats
  goes_on done at ats h = (h.0.1, Rises-tail int_lt at ats h.1, IsAbove-next int_lt int_lt-transitive done at ats h.2 h.1)

  module _ (rules excluded : List Rule) where
    abbrev pub plus_beside : List ℤ → Beside Rule
    plus_beside done = record { rules = rules; excluded = excluded; plus = done; minus = [] }

    pub plus_put : (word : List ℕ) → GoesOn (second_step (stamp_of kind start)) (dated word Rdate kind) plus_beside GoOn
    plus_put word k done at ats h = (
      date_put k true (plus_beside done) kind start at h.0.0 ∙ ap (λ (l : List ℤ). Ok (plus_beside l)) (with_value-last int_lt done at h.2),
      goes_on done at ats h,
    )

    module _ (plus : List ℤ) where
      abbrev pub minus_beside : List ℤ → Beside Rule
      minus_beside done = record { rules = rules; excluded = excluded; plus = plus; minus = done }

      pub minus_put : (word : List ℕ) → GoesOn (second_step (stamp_of kind start)) (dated word Exdate kind) minus_beside GoOn
      minus_put word k done at ats h = (
        date_put k false (minus_beside done) kind start at h.0.0 ∙ ap (λ (l : List ℤ). Ok (minus_beside l)) (with_value-last int_lt done at h.2),
        goes_on done at ats h,
      )
