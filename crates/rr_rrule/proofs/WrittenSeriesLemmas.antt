-- A written series is read back (RFC 5545, section 3.8.5).
use Rattle.std.proofs.Common.{◌≡◌, ℕ, ◌+◌, ◌≤◌, true, false, ℤ, List, [], ◌∷◌, ◌++◌, length, map, None, Result, Ok, Err, All}
use Rattle.std.proofs.Common.{append_assoc, refl, sym, ap, ◌∙◌, arith}
use Rattle.std.specs.Prelude.{codes, if◌then◌else◌, ok_or, int_lt}
use Rattle.std.specs.List.{AllByRecursion}
use Rattle.std.proofs.lemmas.List.Elements.{recursion_from_All}
use Rattle.rr_model.specs.Moment.Years.{IsInYears}
use Rattle.rr_model.specs.Rising.{Rises}
use Rattle.rr_model.specs.Rule.Validity.{IsValidRule, EndsInYears}
use Rattle.rr_model.specs.Series.Validity.{IsValidSeries}
use Rattle.rr_rule_parts.specs.Calendars.{rule_beside, rrule_language, series_of_event, calendar_scan, calendar_text, reads_calendar}
use Rattle.rr_model.specs.Text.Event.{used_line, event_scan}
use Rattle.rr_model.specs.Text.Lines.{without_mark}
use Rattle.rr_model.specs.Text.Passes.{Beside, Event, nothing_read, nothing_beside, first_pass, second_pass, unless_stopped, passes}
use Rattle.rr_model.specs.Text.RuleValues.{◌>>=◌}
use Rattle.rr_model.specs.Text.Steps.{in_turn}
use Rattle.rr_model.specs.Text.WriteLaws.{IsOneEnd}
use Rattle.rr_rrule.specs.WriteLaws.{CalendarIsReadBack}
use Rattle.rr_model.specs.Text.Written.{basic_text, folded_text, folded_line, lines_of, date_line, rule_line, calendar_written}
use Rattle.rr_model.specs.declared.kind.Kind.{Kind}
use Rattle.rr_model.specs.declared.pass.FirstPass.{FirstPass}
use Rattle.rr_model.specs.declared.refusal.Refusal.{Refusal}
use Rattle.rr_model.specs.declared.refusal.Refusal.TheVariants.{NoStart, BadMoment, NotText}
use Rattle.rr_model.specs.declared.rule.Rule.{Rule}
use Rattle.rr_model.specs.declared.rule.Series.{Series}
use Rattle.rr_model.specs.declared.stamp.Stamp.{Stamp}
use Rattle.rr_model.specs.declared.used.LineName.TheVariants.{Dtstart, Rrule, Rdate, Exdate, Exrule}
use Rattle.rr_model.specs.declared.used.UsedLine.{UsedLine}
use Rattle.rr_text.proofs.FoldedLineLemmas.{number_after}
use Rattle.rr_text.proofs.WrittenLemmas.{basic-written}
use Rattle.rr_text.proofs.WrittenListLemmas.{IsAbove}
use Rattle.rr_text.proofs.WrittenValueLemmas.{int_lt-transitive}
use Rattle.rr_ical.proofs.WrittenLineLemmas.{WrittenLine, IsPropertyLine, texts_of, used_from, number_behind, event_scan-folded, written_lines-utf8}
use Rattle.rr_ical.proofs.WrittenLineLemmas.{IsPropertyLine-from, date_front, start_front, plus_front, minus_front, rule_front, excluded_rule_front}
use Rattle.rr_rrule.proofs.WrittenPassLemmas.{lines_first, lines_each, stamp_of, dated, date_bytes, passed, first_step, HasRoom, dates_so_far, plus_judged}
use Rattle.rr_rrule.proofs.WrittenPassLemmas.{minus_judged, IsWritable, ruled, AreFew, rules_so_far, rule_judged, excluded_judged, second_step, rules_beside, rule_put, excluded_beside, excluded_put, GoOn}
use Rattle.rr_rrule.proofs.WrittenPassLemmas.{plus_beside, plus_put, minus_beside, minus_put}
use Rattle.rr_rrule.proofs.WrittenRuleLemmas.{rule_text-bytes}

-- ---- the lines of a series

abbrev start_line : Kind → ℤ → WrittenLine
start_line kind at = dated (codes "DTSTART") Dtstart kind at

abbrev plus_line : Kind → ℤ → WrittenLine
plus_line kind at = dated (codes "RDATE") Rdate kind at

abbrev minus_line : Kind → ℤ → WrittenLine
minus_line kind at = dated (codes "EXDATE") Exdate kind at

abbrev given_line : Rule → WrittenLine
given_line = ruled (codes "RRULE") Rrule

abbrev excluded_line : Rule → WrittenLine
excluded_line = ruled (codes "EXRULE") Exrule

-- rules, then excluded rules, then dates, then dates that are taken out
abbrev later_lines : Kind → List Rule → List Rule → List ℤ → List ℤ → List WrittenLine
later_lines kind rules excluded plus minus =
    map given_line rules ++ map excluded_line excluded ++ map (plus_line kind) plus ++ map (minus_line kind) minus

abbrev lines_written : Series → List WrittenLine
lines_written series = start_line series.kind series.start ∷ later_lines series.kind series.rules series.excluded series.plus series.minus

abbrev line_written : WrittenLine → List ℕ
line_written line = folded_line line.text

lines_of-append : {X : Type 0} (line : X → List ℕ) (xs ys : List X) → lines_of line (xs ++ ys) ≡ lines_of line xs ++ lines_of line ys
lines_of-append line [] ys = refl
lines_of-append line (x ∷ xs) ys =
    ap (λ (t : List ℕ). line x ++ t) (lines_of-append line xs ys) ∙ sym (append_assoc (line x) (lines_of line xs) (lines_of line ys))

lines_of-map : {X Y : Type 0} (f : X → Y) (line : Y → List ℕ) (xs : List X) → lines_of line (map f xs) ≡ lines_of (λ (x : X). line (f x)) xs
lines_of-map f line [] = refl
lines_of-map f line (x ∷ xs) = ap (λ (t : List ℕ). line (f x) ++ t) (lines_of-map f line xs)

five : (a b c d e : List ℕ) → a ++ b ++ c ++ d ++ e ≡ a ++ (b ++ c ++ d ++ e)
five a b c d e = simp append_assoc refl

-- what is written is these lines, folded
written_lines : (series : Series) → series.start_counts ≡ true → calendar_written series ≡ lines_of folded_line (texts_of (lines_written series))
unfolding calendar_written
written_lines series counts =
    let kind = series.kind in
    let first = date_line (codes "DTSTART") kind series.start in
    let r = map given_line series.rules in
    let x = map excluded_line series.excluded in
    let p = map (plus_line kind) series.plus in
    let m = map (minus_line kind) series.minus in
    let rules : lines_of line_written r ≡ lines_of (rule_line (codes "RRULE")) series.rules = lines_of-map given_line line_written series.rules in
    let excluded : lines_of line_written x ≡ lines_of (rule_line (codes "EXRULE")) series.excluded =
    lines_of-map excluded_line line_written series.excluded in
    let plus : lines_of line_written p ≡ lines_of (date_line (codes "RDATE") kind) series.plus = lines_of-map (plus_line kind) line_written series.plus in
    let minus : lines_of line_written m ≡ lines_of (date_line (codes "EXDATE") kind) series.minus =
    lines_of-map (minus_line kind) line_written series.minus in
    let later : lines_of line_written (r ++ x ++ p ++ m)
    ≡ lines_of line_written r ++ lines_of line_written x ++ lines_of line_written p ++ lines_of line_written m =
    lines_of-append line_written (r ++ x ++ p) m
    ∙ ap (λ (t : List ℕ). t ++ lines_of line_written m) (lines_of-append line_written (r ++ x) p
    ∙ ap (λ (t : List ℕ). t ++ lines_of line_written p) (lines_of-append line_written r x)) in
    let parts : lines_of line_written r ++ lines_of line_written x ++ lines_of line_written p ++ lines_of line_written m
    ≡ lines_of (rule_line (codes "RRULE")) series.rules ++ lines_of (rule_line (codes "EXRULE")) series.excluded
    ++ lines_of (date_line (codes "RDATE") kind) series.plus ++ lines_of (date_line (codes "EXDATE") kind) series.minus =
    λ i. rules i ++ excluded i ++ plus i ++ minus i in
    rw counts
    (five first (lines_of (rule_line (codes "RRULE")) series.rules) (lines_of (rule_line (codes "EXRULE")) series.excluded)
    (lines_of (date_line (codes "RDATE") kind) series.plus) (lines_of (date_line (codes "EXDATE") kind) series.minus)
    ∙ ap (λ (t : List ℕ). first ++ t) (sym (later ∙ parts) ∙ sym (lines_of-map (λ (l : WrittenLine). l.text) folded_line (r ++ x ++ p ++ m))))

-- it begins with no byte order mark
begins : (kind : Kind) (at : ℤ) (rest : List ℕ) → without_mark (date_line (codes "DTSTART") kind at ++ rest) ≡ date_line (codes "DTSTART") kind at ++ rest
unfolding folded_text
begins kind at rest = refl

-- ---- each line states its value

module _ {Y : Type 0} (line_of : Y → WrittenLine) (P : Y → Type 0) (is : (y : Y) → P y → IsPropertyLine (line_of y)) where
  lines_are : (ys : List Y) → AllByRecursion P ys → AllByRecursion IsPropertyLine (map line_of ys)
  lines_are [] h = tt
  lines_are (y ∷ ys) h = (is y h.0, lines_are ys h.1)

all-append : (ls ms : List WrittenLine) → AllByRecursion IsPropertyLine ls → AllByRecursion IsPropertyLine ms → AllByRecursion IsPropertyLine (ls ++ ms)
all-append [] ms h k = k
all-append (l ∷ ls) ms h k = (h.0, all-append ls ms h.1 k)

start_is : (kind : Kind) (at : ℤ) → IsInYears kind at → IsPropertyLine (start_line kind at)
start_is kind at years = IsPropertyLine-from (date_front (codes "DTSTART") kind) (basic_text kind at) Dtstart (start_front kind) (date_bytes kind at years)

plus_is : (kind : Kind) (at : ℤ) → IsInYears kind at → IsPropertyLine (plus_line kind at)
plus_is kind at years = IsPropertyLine-from (date_front (codes "RDATE") kind) (basic_text kind at) Rdate (plus_front kind) (date_bytes kind at years)

minus_is : (kind : Kind) (at : ℤ) → IsInYears kind at → IsPropertyLine (minus_line kind at)
minus_is kind at years = IsPropertyLine-from (date_front (codes "EXDATE") kind) (basic_text kind at) Exdate (minus_front kind) (date_bytes kind at years)

rule_is : (kind : Kind) (rule : Rule) → IsWritable kind rule → IsPropertyLine (given_line rule)
rule_is kind rule w =
    IsPropertyLine-from (codes "RRULE:") _ _ rule_front (rule_text-bytes 0 kind rule w.valid w.one_end w.years)

excluded_is : (kind : Kind) (rule : Rule) → IsWritable kind rule → IsPropertyLine (excluded_line rule)
excluded_is kind rule w =
    IsPropertyLine-from (codes "EXRULE:") _ _ excluded_rule_front (rule_text-bytes 0 kind rule w.valid w.one_end w.years)

-- what is known of a series that is written
record IsWritten (series : Series) : Type 0 where
  start : IsInYears series.kind series.start
  rules : AllByRecursion (IsWritable series.kind) series.rules
  excluded : AllByRecursion (IsWritable series.kind) series.excluded
  few_rules : length series.rules + length series.excluded ≤ 16
  plus : AllByRecursion (IsInYears series.kind) series.plus
  minus : AllByRecursion (IsInYears series.kind) series.minus
  plus_rises : Rises int_lt series.plus
  minus_rises : Rises int_lt series.minus
  few_dates : length series.plus + length series.minus ≤ 10_000

writable : (kind : Kind) (rules : List Rule) → AllByRecursion (IsValidRule kind) rules → AllByRecursion (λ (rule : Rule). IsOneEnd rule.end) rules
    → AllByRecursion (λ (rule : Rule). EndsInYears rule.end) rules → AllByRecursion (IsWritable kind) rules
writable kind [] v o y = tt
writable kind (rule ∷ rules) v o y = (record { valid = v.0; one_end = o.0; years = y.0 }, writable kind rules v.1 o.1 y.1)

is_written : (series : Series) → IsValidSeries series → All (λ rule. IsOneEnd rule.end) series.rules
    → All (λ rule. IsOneEnd rule.end) series.excluded → IsWritten series
is_written series v one out = record {
  start = v.start;
  rules = writable series.kind series.rules (recursion_from_All (IsValidRule series.kind) series.rules v.rules)
      (recursion_from_All (λ (rule : Rule). IsOneEnd rule.end) series.rules one)
      (recursion_from_All (λ (rule : Rule). EndsInYears rule.end) series.rules v.ends);
  excluded = writable series.kind series.excluded (recursion_from_All (IsValidRule series.kind) series.excluded v.excluded)
      (recursion_from_All (λ (rule : Rule). IsOneEnd rule.end) series.excluded out)
      (recursion_from_All (λ (rule : Rule). EndsInYears rule.end) series.excluded v.excluded_ends);
  few_rules = v.few_rules;
  plus = recursion_from_All (IsInYears series.kind) series.plus v.plus;
  minus = recursion_from_All (IsInYears series.kind) series.minus v.minus;
  plus_rises = v.plus_rises;
  minus_rises = v.minus_rises;
  few_dates = v.few_dates;
}

lines_are_written : (series : Series) → IsWritten series → AllByRecursion IsPropertyLine (lines_written series)
lines_are_written series w =
    let kind = series.kind in
    let r = map given_line series.rules in
    let x = map excluded_line series.excluded in
    let p = map (plus_line kind) series.plus in
    let m = map (minus_line kind) series.minus in (
      start_is kind series.start w.start,
      all-append (r ++ x ++ p) m (all-append (r ++ x) p
          (all-append r x (lines_are given_line (IsWritable kind) (rule_is kind) series.rules w.rules)
          (lines_are excluded_line (IsWritable kind) (excluded_is kind) series.excluded w.excluded))
          (lines_are (plus_line kind) (IsInYears kind) (plus_is kind) series.plus w.plus))
          (lines_are (minus_line kind) (IsInYears kind) (minus_is kind) series.minus w.minus),
    )

-- ---- both passes

-- dates go on from none
from_none : (ats : List ℤ) → IsAbove int_lt int_lt-transitive [] ats
from_none [] = tt
from_none (at ∷ ats) = refl

module _ (series : Series) (w : IsWritten series) where
  abbrev kind : Kind
  kind = series.kind

  abbrev start : Stamp
  start = stamp_of series.kind series.start

  abbrev r : List WrittenLine
  r = map given_line series.rules

  abbrev x : List WrittenLine
  x = map excluded_line series.excluded

  -- how many rules there are
  abbrev n : ℕ
  n = (0 + length series.rules) + length series.excluded

  abbrev p : List WrittenLine
  p = map (plus_line series.kind) series.plus

  abbrev m : List WrittenLine
  m = map (minus_line series.kind) series.minus

  -- the number of the second line
  abbrev second : ℕ
  second = number_after 1 (start_line series.kind series.start).text

  start_judged : first_step nothing_read (used_line 1 Dtstart (basic_text kind series.start)) ≡ Ok (passed start 0 0)
  start_judged = ap (λ o. ok_or o (BadMoment 1) >>= λ (stamp : Stamp). Ok (passed stamp 0 0)) (basic-written kind series.start w.start)

  abbrev counted : FirstPass
  counted = passed start n ((0 + length series.plus) + length series.minus)

  no_excluded : passed start (0 + length series.rules) 0 ≡ passed start ((0 + length series.rules) + 0) 0
  no_excluded = ap (λ k. passed start k 0) (omega arith)

  none_yet : (k : ℕ) → passed start n k ≡ passed start n (k + 0)
  none_yet k = ap (passed start n) (omega arith)

  first_pass-written : first_pass rrule_language nothing_read (used_from 1 (lines_written series)) ≡ Ok counted
  first_pass-written =
      let given = 0 + length series.rules in
      let rules = lines_each first_step given_line (rules_so_far start 0) (AreFew kind 0) (rule_judged start kind 0 (codes "RRULE")) second [] series.rules
      (omega (arith, w.few_rules), w.rules) in
      let excluded = lines_each first_step excluded_line (rules_so_far start given) (AreFew kind given)
      (excluded_judged start kind given (codes "EXRULE")) (number_behind second r) [] series.excluded (omega (arith, w.few_rules), w.excluded) in
      let plus = lines_each first_step (plus_line kind) (dates_so_far start kind n 0) (HasRoom kind 0)
      (plus_judged start kind n 0 (codes "RDATE")) (number_behind second (r ++ x)) [] series.plus (omega (arith, w.few_dates), w.plus) in
      let before = 0 + length series.plus in
      let minus = lines_each first_step (minus_line kind) (dates_so_far start kind n before) (HasRoom kind before)
      (minus_judged start kind n before (codes "EXDATE")) (number_behind second (r ++ x ++ p)) [] series.minus
      (omega (arith, w.few_dates), w.minus) in
      let both = lines_first first_step second r x (passed start 0 0) (passed start given 0) rules
      ∙ ap (λ (pass : FirstPass). in_turn first_step pass (used_from (number_behind second r) x)) no_excluded ∙ excluded in
      let three = lines_first first_step second (r ++ x) p (passed start 0 0) (passed start n 0) both ∙ plus in
      ap (λ (q : Result FirstPass Refusal). q >>= λ pass. in_turn first_step pass (used_from second (r ++ x ++ p ++ m))) start_judged
      ∙ lines_first first_step second (r ++ x ++ p) m (passed start 0 0) (passed start n before) three
      ∙ ap (λ (pass : FirstPass). in_turn first_step pass (used_from (number_behind second (r ++ x ++ p)) m)) (none_yet before)
      ∙ minus

  abbrev all_beside : Beside Rule
  all_beside = record { rules = series.rules; excluded = series.excluded; plus = series.plus; minus = series.minus }

  second_pass-written : second_pass rrule_language (rule_beside None start) None start nothing_beside (used_from 1 (lines_written series)) ≡ Ok all_beside
  second_pass-written =
      let step = second_step start in
      let given = 0 + length series.rules in
      let rules = lines_each step given_line (rules_beside kind series.start) (AreFew kind 0) (rule_put kind series.start 0 (codes "RRULE")) second []
      series.rules (omega (arith, w.few_rules), w.rules) in
      let excluded = lines_each step excluded_line (excluded_beside kind series.start series.rules) (AreFew kind given)
      (excluded_put kind series.start series.rules given (codes "EXRULE")) (number_behind second r) [] series.excluded
      (omega (arith, w.few_rules), w.excluded) in
      let plus = lines_each step (plus_line kind) (plus_beside kind series.start series.rules series.excluded) (GoOn kind series.start)
      (plus_put kind series.start series.rules series.excluded (codes "RDATE")) (number_behind second (r ++ x)) [] series.plus
      (w.plus, w.plus_rises, from_none series.plus) in
      let minus = lines_each step (minus_line kind) (minus_beside kind series.start series.rules series.excluded series.plus) (GoOn kind series.start)
      (minus_put kind series.start series.rules series.excluded series.plus (codes "EXDATE")) (number_behind second (r ++ x ++ p)) [] series.minus
      (w.minus, w.minus_rises, from_none series.minus) in
      let with_rules : Beside Rule = record { rules = series.rules; excluded = []; plus = []; minus = [] } in
      let with_excluded : Beside Rule = record { rules = series.rules; excluded = series.excluded; plus = []; minus = [] } in
      let with_plus : Beside Rule = record { rules = series.rules; excluded = series.excluded; plus = series.plus; minus = [] } in
      let both = lines_first step second r x nothing_beside with_rules rules ∙ excluded in
      lines_first step second (r ++ x ++ p) m nothing_beside with_plus (lines_first step second (r ++ x) p nothing_beside with_excluded both ∙ plus) ∙ minus

  abbrev used : List UsedLine
  used = used_from 1 (lines_written series)

  abbrev event : Event Rule
  event = record { start = start; beside = all_beside }

  passes-written : passes rrule_language (rule_beside None) None (record { used = used; stop = None }) ≡ Ok event
  passes-written =
      ap (λ (x : Result FirstPass Refusal). x >>= λ read. unless_stopped None read >>= λ pass. ok_or pass.start NoStart >>= λ stamp.
      second_pass rrule_language (rule_beside None stamp) None stamp nothing_beside used >>= λ beside. Ok (record { start = stamp; beside = beside }))
      first_pass-written
      ∙ ap (λ (x : Result (Beside Rule) Refusal). x >>= λ beside. Ok (record { start = start; beside = beside })) second_pass-written

  scan-written : series.start_counts ≡ true → calendar_scan None (record { used = used; stop = None }) ≡ Ok series
  scan-written counts =
      ap (λ (x : Result (Event Rule) Refusal). x >>= λ e. Ok (series_of_event e)) passes-written
      ∙ ap (λ b. Ok (record series { start_counts = b })) (sym counts)

-- ---- the law

-- What is written for a series is read back.
pub calendar_is_read_back : CalendarIsReadBack
unfolding calendar_text reads_calendar
calendar_is_read_back series v counts one out =
    let w = is_written series v one out in
    let lines = lines_written series in
    let are = lines_are_written series w in
    let bytes = lines_of folded_line (texts_of lines) in
    ap (reads_calendar None) (written_lines series counts)
    ∙ ap (λ b. if b then calendar_text None bytes else Err NotText) (written_lines-utf8 lines are)
    ∙ ap (λ (t : List ℕ). calendar_scan None (event_scan false t)) (begins series.kind series.start _)
    ∙ ap (calendar_scan None) (event_scan-folded lines are)
    ∙ scan-written series w counts
