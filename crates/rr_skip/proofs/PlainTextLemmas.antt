-- A text whose rule leaves out the days which a month lacks states what it states without RSCALE and SKIP.
use Rattle.std.proofs.Common.{◌≡◌, ◌⊎◌, inl, inr, ◌↔◌, ℕ, ◌+◌, nat_le, true, false, take, List, [], ◌∷◌, ◌++◌, Option, None, Some, Result, Ok, Err, ℤ, pos, nat_abs, ◌+ℤ◌, ◌-ℤ◌, refl, sym, ap, subst, ◌∙◌, arith}
use Rattle.std.specs.Prelude.{ok_or, slice_get, unwrap_or}
use Rattle.std.specs.List.{Contains}
use Rattle.std.specs.Option.{option_or}
use Rattle.std.proofs.lemmas.Bool.{and_parts}
use Rattle.std.proofs.lemmas.Int.{ints}
use Rattle.rr_model.proofs.RisingSetLemmas.{Contains-none}
use Rattle.rr_model.specs.Rule.Member.{IsMember, IsWithinEnd}
use Rattle.rr_model.specs.Rule.Validity.{HasCountInRange, is_allowed, takes_start}
use Rattle.rr_model.specs.Series.Occurrences.{Occurs, IsMemberOfSome}
use Rattle.rr_model.specs.Series.Soundness.{EndsNotBefore}
use Rattle.rr_model.specs.Whole.Count.{count_from}
use Rattle.rr_model.specs.Text.Calendars.{end_beside}
use Rattle.rr_rule_parts.specs.Calendars.{stated_rule, rule_beside, rrule_language, calendar_scan, calendar_text}
use Rattle.rr_model.specs.Text.Event.{used_line}
use Rattle.rr_model.specs.Text.Passes.{Stated, Language, Beside, Event, nothing_read, nothing_beside, judged_start, judged_rule, judged_line, first_pass, with_rule, with_line, second_pass}
use Rattle.rr_model.specs.Text.Passes.{unless_stopped, passes}
use Rattle.rr_model.specs.Text.RuleValues.{◌>>=◌}
use Rattle.rr_rule_parts.specs.Rules.{end_of, rule_with, rule_of}
use Rattle.rr_model.specs.Text.Steps.{in_turn}
use Rattle.rr_model.specs.Text.WriteLaws.{IsOneEnd}
use Rattle.rr_model.specs.declared.kind.Kind.{Kind}
use Rattle.rr_model.specs.declared.limits.TheConstants.{MAX_RULES}
use Rattle.rr_model.specs.declared.pass.FirstPass.{FirstPass}
use Rattle.rr_model.specs.declared.refusal.Refusal.{Refusal}
use Rattle.rr_model.specs.declared.refusal.Refusal.TheVariants.{NoStart, BadRule, TooManyParts, Extended}
use Rattle.rr_model.specs.declared.rule.End.{End}
use Rattle.rr_model.specs.declared.rule.End.TheVariants.{Never, Until, Count, Both}
use Rattle.rr_model.specs.declared.rule.Freq.{Freq}
use Rattle.rr_model.specs.declared.rule.Rule.{Rule}
use Rattle.rr_rule_parts.specs.declared.rule_parts.RuleParts.{RuleParts}
use Rattle.rr_model.specs.declared.rule.Series.{Series}
use Rattle.rr_model.specs.declared.stamp.Stamp.{Stamp}
use Rattle.rr_model.specs.declared.used.LineName.{LineName}
use Rattle.rr_model.specs.declared.used.LineName.TheVariants.{Dtstart, Rrule, Rdate, Exdate, Exrule}
use Rattle.rr_model.specs.declared.used.Scan.{Scan}
use Rattle.rr_model.specs.declared.used.UsedLine.{UsedLine}
use Rattle.rr_text.proofs.StepLemmas.{and_then_ok, passed, not_refused, step_same}
use Rattle.rr_ical.proofs.PassLemmas.{in_turn-append, rule-put}
use Rattle.rr_skip.specs.Members.{IsSkipMember, IsGivenBy, OccursSkipping, skip_members_to}
use Rattle.rr_skip.specs.Months.{is_skip_chosen}
use Rattle.rr_skip.specs.Parts.{is_scaled, skip_rule_of, scale_parts}
use Rattle.rr_skip.specs.Reading.{line_refusal, is_rule, unread_at, first_unread, lines_until, stated_skip, skip_rule_beside, skip_language}
use Rattle.rr_skip.specs.Reading.{judged_skip, judged_if_some, skip_scan, skip_text}
use Rattle.rr_skip.specs.TextLaws.{IsWithoutScale, Omits, OmittingTextIsPlain}
use Rattle.rr_skip.specs.Validity.{takes_skip, FitsSkipping, FitsIfSome, IsSoundSkipping}
use Rattle.rr_skip.specs.declared.lines.Unread.{Unread}
use Rattle.rr_skip.specs.declared.parts.ScaledParts.{ScaledParts}
use Rattle.rr_skip.specs.declared.series.Skip.TheVariants.{Omit}
use Rattle.rr_skip.specs.declared.series.SkipRule.{SkipRule}
use Rattle.rr_skip.specs.declared.series.SkipSeries.{SkipSeries}
use Rattle.rr_skip.proofs.OmitLemmas.{omitting_is_plain}
use Rattle.rr_skip.proofs.PlainPartLemmas.{rule_parts-same}
use Rattle.rr_skip.proofs.ReadLemmas.{IsRead, allowed, starts, scale_parts-valid, judged-unrefused, scan_is, scan-sound}

-- ---- the rule of a line

rule_from : (line : ℕ) (parts : RuleParts) (freq : Freq) (end : End) → ok_or parts.freq (BadRule line) ≡ Ok freq → end_of parts.until parts.count ≡ Ok end
    → is_allowed (rule_with freq end parts) ≡ true → rule_of line parts ≡ Ok (rule_with freq end parts)
unfolding rule_of
rule_from line parts freq end e f a = rw (e, f, a) refl

rule_same : (line : ℕ) (parts : ScaledParts) (rule : SkipRule) (text : List ℕ) → scale_parts line text ≡ Ok parts → skip_rule_of line parts ≡ Ok rule
    → rule_of line parts.parts ≡ Ok rule.rule
unfolding skip_rule_of
rule_same line parts rule text read h =
    let p = parts.parts in
    let v = scale_parts-valid line text parts read in
    let freq = and_then_ok (ok_or p.freq (BadRule line)) _ rule h in
    let end = and_then_ok (end_of p.until p.count) _ rule freq.2 in
    let scaled = passed (is_scaled parts freq.0) (Ok (record { skip = unwrap_or parts.skip Omit; rule = rule_with freq.0 end.0 p })) Extended rule end.2 in
    let takes : takes_skip freq.0 ≡ true = (and_parts parts.has_scale (takes_skip freq.0) scaled.0).1 in
    let same : record { skip = unwrap_or parts.skip Omit; rule = rule_with freq.0 end.0 p } ≡ rule = cc in
    rule_from line p freq.0 end.0 freq.1 end.1 (allowed freq.0 end.0 p takes v.front) ∙ ap (λ (r : SkipRule). Ok r.rule) same

-- the rule that a line states, without SKIP
abbrev as_stated : Stated SkipRule → Stated Rule
as_stated stated = record { rule = stated.rule.rule; until = stated.until }

stated_both : (line : ℕ) (value plain : List ℕ) (stated : Stated SkipRule) → IsWithoutScale value plain → stated_skip line value ≡ Ok stated
    → stated_rule line plain ≡ Ok (as_stated stated)
unfolding stated_skip stated_rule
stated_both line value plain stated without h =
    let parts = and_then_ok (scale_parts line value) _ stated h in
    let rule = and_then_ok (skip_rule_of line parts.0) _ stated parts.2 in
    let same : record { rule = rule.0; until = parts.0.parts.until } ≡ stated = cc in
    subst (λ (s : Stated SkipRule). stated_rule line plain ≡ Ok (as_stated s)) same
    (rw (rule_parts-same line value plain parts.0 without parts.1, rule_same line parts.0 rule.0 value parts.1 rule.1) refl)

-- the rule beside the start
beside_both : (offset : Option ℤ) (start : Stamp) (line : ℕ) (stated : Stated SkipRule) (rule : SkipRule) → takes_skip rule.rule.freq ≡ true
    → skip_rule_beside offset start line stated ≡ Ok rule → rule_beside offset start line (as_stated stated) ≡ Ok rule.rule
unfolding skip_rule_beside rule_beside
beside_both offset start line stated rule takes h =
    let end = and_then_ok (end_beside offset start line stated.until stated.rule.rule.end) _ rule h in
    let is : record stated.rule { rule = record stated.rule.rule { end = end.0 } } ≡ rule = cc in
    let starts_so : takes_start stated.rule.rule.freq start.kind ≡ true =
    starts stated.rule.rule.freq start.kind (ap (λ (r : SkipRule). takes_skip r.rule.freq) is ∙ takes) in
    rw (end.1, starts_so) (ap (λ (r : SkipRule). Ok r.rule) is)

-- ---- the lines

-- each line states the start
abbrev AreStarts : List UsedLine → Type 0
AreStarts [] = Unit {0}
AreStarts (line ∷ lines) = (line.name ≡ Dtstart) × AreStarts lines

-- lines with a rule of this value among them
abbrev with_rule_line : List UsedLine → ℕ → List ℕ → List UsedLine → List UsedLine
with_rule_line before number value after = before ++ used_line number Rrule value ∷ after

unread_none : (index : ℕ) (refusal : Option Refusal) (rest : Option Unread) → option_or (unread_at index refusal) rest ≡ None
    → (refusal ≡ None) × (rest ≡ None)
unread_none index None rest h = (refl, h)
unread_none index (Some refusal) rest h = absurd (cc)

start_behind : (name : LineName) → line_refusal true name ≡ None → name ≡ Dtstart
start_behind Dtstart h = refl
start_behind Rrule h = absurd (cc)
start_behind Rdate h = absurd (cc)
start_behind Exdate h = absurd (cc)
start_behind Exrule h = absurd (cc)

-- behind a rule each line that is read is a start
starts_behind : (index : ℕ) (lines : List UsedLine) → first_unread true index lines ≡ None → AreStarts lines
starts_behind index [] h = tt
starts_behind index (line ∷ lines) h =
    let one = unread_none index (line_refusal true line.name) _ h in
    (start_behind line.name one.0, starts_behind (index + 1) lines one.1)

no_rule_line : (before after : List UsedLine) (number : ℕ) (value : List ℕ) → AreStarts (with_rule_line before number value after) → Rrule ≡ Dtstart
no_rule_line [] after number value are = are.0
no_rule_line (line ∷ before) after number value are = no_rule_line before after number value are.1

-- a line before a rule, if each line is read
start_before : (index : ℕ) (name : LineName) (before after : List UsedLine) (number : ℕ) (value : List ℕ)
    → (first_unread false (index + 1) (with_rule_line before number value after) ≡ None → AreStarts before × AreStarts after)
    → line_refusal false name ≡ None → first_unread (is_rule name) (index + 1) (with_rule_line before number value after) ≡ None
    → ((name ≡ Dtstart) × AreStarts before) × AreStarts after
start_before index Dtstart before after number value later free rest = ((refl, (later rest).0), (later rest).1)
start_before index Rrule before after number value later free rest =
    let never : Rrule ≡ Dtstart = no_rule_line before after number value (starts_behind (index + 1) (with_rule_line before number value after) rest) in
    absurd (cc)
start_before index Rdate before after number value later free rest = absurd (cc)
start_before index Exdate before after number value later free rest = absurd (cc)
start_before index Exrule before after number value later free rest = absurd (cc)

-- and so is each one before it
starts_around : (index : ℕ) (before after : List UsedLine) (number : ℕ) (value : List ℕ)
    → first_unread false index (with_rule_line before number value after) ≡ None → AreStarts before × AreStarts after
starts_around index [] after number value h =
    (tt, starts_behind (index + 1) after (unread_none index None _ h).1)
starts_around index (line ∷ before) after number value h =
    let one = unread_none index (line_refusal false line.name) _ h in
    start_before index line.name before after number value (starts_around (index + 1) before after number value) one.0 one.1

-- ---- both passes, in a language of rules

and_then_is : {A : Type 0} (r : Result A Refusal) (f : A → Result A Refusal) → ((x : A) → f x ≡ Ok x) → (r >>= f) ≡ r
and_then_is (Ok x) f same = same x
and_then_is (Err refusal) f same = refl

abbrev start_step : FirstPass → UsedLine → Result FirstPass Refusal
start_step pass line = judged_start line.number pass line.value

module _ {R : Type 0} (language : Language R) where
  abbrev first_step : FirstPass → UsedLine → Result FirstPass Refusal
  first_step pass line = judged_line language line.number line.name pass line.value

  -- starts are read alike in each language
  starts_first : (lines : List UsedLine) (pass : FirstPass) → AreStarts lines → in_turn first_step pass lines ≡ in_turn start_step pass lines
  starts_first [] pass are = refl
  starts_first (line ∷ lines) pass are =
      ap (λ n. judged_line language line.number n pass line.value >>= λ next. in_turn first_step next lines) are.0
      ∙ step_same (judged_start line.number pass line.value) (λ next. in_turn first_step next lines) (λ next. in_turn start_step next lines)
      (λ next. starts_first lines next are.1)

  -- the first pass over a rule between starts
  first_around : (before after : List UsedLine) (number : ℕ) (value : List ℕ) (pass : FirstPass) → AreStarts before → AreStarts after
      → in_turn first_step pass (with_rule_line before number value after)
      ≡ (in_turn start_step pass before >>= λ front. judged_rule language number front value >>= λ own. in_turn start_step own after)
  first_around before after number value pass are_before are_after =
      in_turn-append first_step pass before (used_line number Rrule value ∷ after)
      ∙ ap (λ (r : Result FirstPass Refusal). r >>= λ front. judged_rule language number front value >>= λ own. in_turn first_step own after)
      (starts_first before pass are_before)
      ∙ step_same (in_turn start_step pass before) (λ front. judged_rule language number front value >>= λ own. in_turn first_step own after)
      (λ front. judged_rule language number front value >>= λ own. in_turn start_step own after)
      (λ front. step_same (judged_rule language number front value) (λ own. in_turn first_step own after) (λ own. in_turn start_step own after)
      (λ own. starts_first after own are_after))

  module _ (beside_start : ℕ → Stated R → Result R Refusal) (offset : Option ℤ) (start : Stamp) where
    abbrev second_step : Beside R → UsedLine → Result (Beside R) Refusal
    second_step beside line = with_line language beside_start offset start line.number line.name beside line.value

    starts_leave : (lines : List UsedLine) (beside : Beside R) → AreStarts lines → in_turn second_step beside lines ≡ Ok beside
    starts_leave [] beside are = refl
    starts_leave (line ∷ lines) beside are =
        let own : second_step beside line ≡ Ok beside =
        ap (λ n. with_line language beside_start offset start line.number n beside line.value) are.0 in
        ap (λ (r : Result (Beside R) Refusal). r >>= λ next. in_turn second_step next lines) own ∙ starts_leave lines beside are.1

    -- the second pass over a rule between starts
    second_around : (before after : List UsedLine) (number : ℕ) (value : List ℕ) → AreStarts before → AreStarts after
        → second_pass language beside_start offset start nothing_beside (with_rule_line before number value after)
        ≡ with_rule language beside_start number true nothing_beside value
    second_around before after number value are_before are_after =
        in_turn-append second_step nothing_beside before (used_line number Rrule value ∷ after)
        ∙ ap (λ (r : Result (Beside R) Refusal). r >>= λ next. in_turn second_step next (used_line number Rrule value ∷ after))
        (starts_leave before nothing_beside are_before)
        ∙ and_then_is (with_rule language beside_start number true nothing_beside value) (λ next. in_turn second_step next after)
        (λ next. starts_leave after next are_after)

-- ---- both readings of one rule

-- the rule alone beside the start
abbrev alone : Rule → Beside Rule
alone rule = record { rules = rule ∷ []; excluded = []; plus = []; minus = [] }

-- with one rule more
abbrev one_more : FirstPass → Result FirstPass Refusal
one_more pass = Ok (record pass { rule_count = pass.rule_count + 1 })

-- a rule without SKIP is judged alike in the first pass
judged_plain : (number : ℕ) (plain : List ℕ) (pass own : FirstPass) (stated : Stated Rule) → nat_le MAX_RULES pass.rule_count ≡ false
    → stated_rule number plain ≡ Ok stated → one_more pass ≡ Ok own
    → judged_rule rrule_language number pass plain ≡ Ok own
judged_plain number plain pass own stated room read rest = rw (room, read) rest

module _ (offset : Option ℤ) (before after : List UsedLine) (number : ℕ) (value plain : List ℕ) (without : IsWithoutScale value plain)
    (are_before : AreStarts before) (are_after : AreStarts after) where
  -- the first pass without SKIP reads what the first pass reads
  first_plain : (pass : FirstPass) → first_pass skip_language nothing_read (with_rule_line before number value after) ≡ Ok pass
      → first_pass rrule_language nothing_read (with_rule_line before number plain after) ≡ Ok pass
  first_plain pass h =
      let front = and_then_ok (in_turn start_step nothing_read before) (λ f. judged_rule skip_language number f value >>= λ own. in_turn start_step own after)
      pass (sym (first_around skip_language before after number value nothing_read are_before are_after) ∙ h) in
      let own = and_then_ok (judged_rule skip_language number front.0 value) (λ o. in_turn start_step o after) pass front.2 in
      let room = not_refused (nat_le MAX_RULES front.0.rule_count) TooManyParts _ own.0 own.1 in
      let stated = and_then_ok (stated_skip number value) (λ s. Ok (record front.0 { rule_count = front.0.rule_count + 1 })) own.0 room.1 in
      let read = stated_both number value plain stated.0 without stated.1 in
      let same : judged_rule rrule_language number front.0 plain ≡ Ok own.0 =
      judged_plain number plain front.0 own.0 (as_stated stated.0) room.0 read stated.2 in
      first_around rrule_language before after number plain nothing_read are_before are_after
      ∙ ap (λ (r : Result FirstPass Refusal). r >>= λ f. judged_rule rrule_language number f plain >>= λ o. in_turn start_step o after) front.1
      ∙ ap (λ (r : Result FirstPass Refusal). r >>= λ o. in_turn start_step o after) same
      ∙ own.2

  -- and so does the second, which reads one rule
  second_plain : (start : Stamp) (beside : Beside SkipRule)
      → second_pass skip_language (skip_rule_beside offset start) offset start nothing_beside (with_rule_line before number value after) ≡ Ok beside
      → (rule : SkipRule) × (beside.rules ≡ rule ∷ [])
      × (takes_skip rule.rule.freq ≡ true
      → second_pass rrule_language (rule_beside offset start) offset start nothing_beside (with_rule_line before number plain after) ≡ Ok (alone rule.rule))
  second_plain start beside h =
      let put = rule-put skip_language (skip_rule_beside offset start) number true nothing_beside value beside
      (sym (second_around skip_language (skip_rule_beside offset start) offset start before after number value are_before are_after) ∙ h) in
      let read = stated_both number value plain put.0 without put.1 in (
        put.2,
        ap (λ (b : Beside SkipRule). b.rules) (sym put.4),
        λ takes. second_around rrule_language (rule_beside offset start) offset start before after number plain are_before are_after
            ∙ rw (read, beside_both offset start number put.0 put.2 takes put.3) refl,
      )

-- ---- the scan

-- the series without SKIP
abbrev plain_series : SkipSeries → SkipRule → Series
plain_series series rule = record {
  kind = series.kind;
  start = series.start;
  start_counts = true;
  rules = rule.rule ∷ [];
  excluded = [];
  plus = [];
  minus = [];
}

-- it is read of the other lines
record IsReadPlain (offset : Option ℤ) (scan : Scan) (series : SkipSeries) : Type 0 where
  rule : SkipRule
  has : series.rule ≡ Some rule
  read : calendar_scan offset scan ≡ Ok (plain_series series rule)

-- both passes behind the first
abbrev behind_first : Option ℤ → Scan → FirstPass → Result (Event SkipRule) Refusal
behind_first offset scan read =
    unless_stopped scan.stop read >>= λ pass. ok_or pass.start NoStart >>= λ start.
    second_pass skip_language (skip_rule_beside offset start) offset start nothing_beside scan.used >>= λ beside.
    Ok (record { start = start; beside = beside })

-- if both passes end well each line is read
all_read : (scan : Scan) (unread : Option Unread) (event : Event SkipRule) (offset : Option ℤ)
    → passes skip_language (skip_rule_beside offset) offset (lines_until scan unread) ≡ Ok event → unread ≡ None
all_read scan None event offset h = refl
all_read scan (Some unread) event offset h =
    let read = and_then_ok (first_pass skip_language nothing_read (take unread.index scan.used))
    (behind_first offset (lines_until scan (Some unread))) event h in
    let never : ◌≡◌ {A = Result (Event SkipRule) Refusal} (Err unread.refusal) (Ok event) = read.2 in
    absurd (cc)

-- what both passes read
record ArePassed (offset : Option ℤ) (scan : Scan) (event : Event SkipRule) : Type 0 where
  pass : FirstPass
  own : FirstPass
  first : first_pass skip_language nothing_read scan.used ≡ Ok pass
  stopped : unless_stopped scan.stop pass ≡ Ok own
  begins : ok_or own.start NoStart ≡ Ok event.start
  second : second_pass skip_language (skip_rule_beside offset event.start) offset event.start nothing_beside scan.used ≡ Ok event.beside

are_passed : (offset : Option ℤ) (scan : Scan) (event : Event SkipRule) → passes skip_language (skip_rule_beside offset) offset scan ≡ Ok event
    → ArePassed offset scan event
are_passed offset scan event h =
    let first = and_then_ok (first_pass skip_language nothing_read scan.used) _ event h in
    let own = and_then_ok (unless_stopped scan.stop first.0) _ event first.2 in
    let start = and_then_ok (ok_or own.0.start NoStart) _ event own.2 in
    let beside = and_then_ok (second_pass skip_language (skip_rule_beside offset start.0) offset start.0 nothing_beside scan.used) _ event start.2 in
    let same : record { start = start.0; beside = beside.0 } ≡ event = cc in
    subst (ArePassed offset scan) same (record {
      pass = first.0;
      own = own.0;
      first = first.1;
      stopped = own.1;
      begins = start.1;
      second = beside.1;
    })

-- the series of what both passes read
calendar_plain : (offset : Option ℤ) (scan : Scan) (series : SkipSeries) (rule : SkipRule) (judged : Option SkipRule) (pass own : FirstPass) (start : Stamp)
    → first_pass rrule_language nothing_read scan.used ≡ Ok pass → unless_stopped scan.stop pass ≡ Ok own → ok_or own.start NoStart ≡ Ok start
    → second_pass rrule_language (rule_beside offset start) offset start nothing_beside scan.used ≡ Ok (alone rule.rule)
    → record { kind = start.kind; start = start.at; rule = judged } ≡ series
    → calendar_scan offset scan ≡ Ok (plain_series series rule)
calendar_plain offset scan series rule judged pass own start first stopped begins second at =
    rw (first, stopped, begins, second) (ap (λ (s : SkipSeries). Ok (plain_series s rule)) at)

-- the one rule is judged, and stays as it is
judged_one : (kind : Kind) (start : ℤ) (rules : List SkipRule) (rule : SkipRule) (judged : Option SkipRule) → rules ≡ rule ∷ []
    → judged_if_some kind start (slice_get rules 0) ≡ Ok judged → judged ≡ Some rule
judged_one kind start rules rule judged is h =
    let one = and_then_ok (judged_skip kind start rule) (λ (r : SkipRule). Ok (Some r)) judged
    (sym (ap (λ (l : List SkipRule). judged_if_some kind start (slice_get l 0)) is) ∙ h) in
    let same : Some one.0 ≡ judged = cc in
    sym same ∙ ap Some (sym (judged-unrefused kind start rule one.0 one.1).1.1)

module _ (offset : Option ℤ) (before after : List UsedLine) (number : ℕ) (value plain : List ℕ) (stop : Option Refusal) (series : SkipSeries) where
  abbrev scan_with : List ℕ → Scan
  scan_with v = record { used = with_rule_line before number v after; stop = stop }

  scan_plain : IsWithoutScale value plain → IsRead offset (scan_with value) series → IsSoundSkipping series → IsReadPlain offset (scan_with plain) series
  scan_plain without r sound =
      let none = all_read (scan_with value) (first_unread false 0 (with_rule_line before number value after)) r.event offset r.both in
      let are = starts_around 0 before after number value none in
      let whole : passes skip_language (skip_rule_beside offset) offset (scan_with value) ≡ Ok r.event =
      subst (λ u. passes skip_language (skip_rule_beside offset) offset (lines_until (scan_with value) u) ≡ Ok r.event) none r.both in
      let p = are_passed offset (scan_with value) r.event whole in
      let one = second_plain offset before after number value plain without are.0 are.1 r.event.start r.event.beside p.second in
      let has : series.rule ≡ Some one.0 =
      ap (λ (s : SkipSeries). s.rule) (sym r.is) ∙ judged_one r.event.start.kind r.event.start.at r.event.beside.rules one.0 r.rule one.1 r.judged in
      let fits : FitsSkipping series.kind series.start one.0 = subst (FitsIfSome series.kind series.start) has sound.rule in
      let first = first_plain offset before after number value plain without are.0 are.1 p.pass p.first in
      record {
        rule = one.0;
        has = has;
        read = calendar_plain offset (scan_with plain) series one.0 r.rule p.pass p.own r.event.start first p.stopped p.begins (one.2 fits.freq) r.is;
      }

-- ---- what occurs

within_end : (rule : SkipRule) (kind : Kind) (start : ℤ) (end : End) → IsOneEnd end → EndsNotBefore kind start end → HasCountInRange end
    → IsWithinEnd end kind start 1
within_end rule kind start Never one ends count = tt
within_end rule kind start (Until other at) one ends count = ends
within_end rule kind start (Count n) one ends count = count.0
within_end rule kind start (Both other at n) one ends count = absurd one

-- the start is the one chosen moment up to it
first_member : (rule : SkipRule) (kind : Kind) (start : ℤ) → is_skip_chosen rule kind start start ≡ true → skip_members_to rule kind start start ≡ 1
unfolding count_from
first_member rule kind start chosen =
    let none : nat_abs ((start -ℤ start) +ℤ pos 1) ≡ 1 = omega (arith, ints) in
    let own : start +ℤ pos 0 ≡ start = omega (arith, ints) in
    ap (count_from (is_skip_chosen rule kind start) start) none ∙ rw (own, chosen) refl

-- the start is a member of a rule that fits it
start_member : (kind : Kind) (start : ℤ) (rule : SkipRule) → FitsSkipping kind start rule → IsSkipMember rule kind start start
start_member kind start rule f = record {
  chosen = f.synchronised;
  not_before = omega (arith, ints);
  within_end = subst (IsWithinEnd rule.rule.end kind start) (sym (first_member rule kind start f.synchronised))
      (within_end rule kind start rule.rule.end f.one_end f.ends_not_before f.valid.count);
}

plain_occurs : (series : SkipSeries) (rule : SkipRule) (k : Kind) (t : ℤ) → series.rule ≡ Some rule → FitsSkipping series.kind series.start rule
    → rule.skip ≡ Omit
    → OccursSkipping series k t ↔ Occurs (plain_series series rule) k t
plain_occurs series rule k t has fits omits =
    let is : record { skip = Omit; rule = rule.rule } ≡ rule = ap (λ skip. record { skip = skip; rule = rule.rule }) (sym omits) in
    let same : IsSkipMember rule series.kind series.start t ↔ IsMember rule.rule series.kind series.start t =
    subst (λ r. IsSkipMember r series.kind series.start t ↔ IsMember rule.rule series.kind series.start t) is
    (omitting_is_plain rule.rule series.kind series.start t fits.freq fits.parts fits.from_front) in
    let given : Option SkipRule → Type 0 = λ r. IsGivenBy r series.kind series.start t in (
      λ o. record { kind = o.kind; stands = inr (inl (inl (same.0 (subst given has o.given)))); kept = λ c. Contains-none t c; not_excluded = λ m. m },
      λ o. record { kind = o.kind; given = subst given (sym has) (stands o.stands (start_member series.kind series.start rule fits) same.1) },
    )
  where
    stands : ((true ≡ true) × (t ≡ series.start)) ⊎ IsMemberOfSome (rule.rule ∷ []) series.kind series.start t ⊎ Contains [] t
        → IsSkipMember rule series.kind series.start series.start
        → (IsMember rule.rule series.kind series.start t → IsSkipMember rule series.kind series.start t)
        → IsSkipMember rule series.kind series.start t
    stands (inl own) first member = subst (IsSkipMember rule series.kind series.start) (sym own.1) first
    stands (inr (inl (inl m))) first member = member m
    stands (inr (inl (inr m))) first member = absurd m
    stands (inr (inr c)) first member = absurd (Contains-none t c)

-- ---- the law

pub omitting_text_is_plain : OmittingTextIsPlain
unfolding skip_text calendar_text
omitting_text_is_plain offset text other before after number value plain stop series has has_other without read omits =
    let scan : Scan = record { used = with_rule_line before number value after; stop = stop } in
    let scanned : skip_scan offset scan ≡ Ok series = sym (ap (skip_scan offset) has) ∙ read in
    let r = scan_is offset scan series scanned in
    let sound = scan-sound offset scan series r in
    let p = scan_plain offset before after number value plain stop series without r sound in
    let fits : FitsSkipping series.kind series.start p.rule = subst (FitsIfSome series.kind series.start) p.has sound.rule in
    let leaves : p.rule.skip ≡ Omit = subst Omits p.has omits in (
      plain_series series p.rule,
      ap (calendar_scan offset) has_other ∙ p.read,
      λ k t. plain_occurs series p.rule k t p.has fits leaves,
    )
