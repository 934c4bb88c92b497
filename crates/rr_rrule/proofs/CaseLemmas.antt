-- The case of letters changes nothing that a text states.
use Rattle.std.proofs.Common.{◌≡◌, ℕ, ◌+◌, ◌<◌, ◌==◌, ◌&&◌, ◌||◌, not, Bool, true, false, cond, if◌then◌else◌, List, [], ◌∷◌, length, take, drop, map}
use Rattle.std.proofs.Common.{slice_index, Option, Some, None, option_map, Result, Ok, Err, refl, sym, ap, ◌∙◌, ℤ, arith}
use Rattle.std.specs.Prelude.{codes, ok_or, nat_lt, unwrap_or}
use Rattle.std.specs.Char.{to_ascii_lowercase, to_ascii_uppercase}
use Rattle.std.specs.List.{list_all, list_any, onto_first, prefix_len, slice_split}
use Rattle.std.specs.Str.{bytes_eq, str_to_ascii_lowercase, str_to_ascii_uppercase, str_eq_ignore_ascii_case}
use Rattle.std.proofs.Math.ListN.{get_or-map}
use Rattle.std.proofs.lemmas.Bool.{and_parts}
use Rattle.std.proofs.lemmas.Bool.Decides.{nat_tests}
use Rattle.std.proofs.lemmas.List.{take-map, drop-map, length-map, map-append}
use Rattle.rr_model.specs.Rule.Validity.{is_absent}
use Rattle.rr_model.specs.Text.Calendars.{is_comma}
use Rattle.rr_rule_parts.specs.Calendars.{stated_rule, rule_beside, rrule_language, calendar_scan, calendar_text}
use Rattle.rr_model.specs.Text.Digits.{is_digit}
use Rattle.rr_model.specs.Text.Event.{Components, Left, no_components, is_event, is_in_event, after_begin, after_end, used_line, left_with, left_at, left_by, after_used}
use Rattle.rr_model.specs.Text.Event.{scan_from, scan_of, is_bare_text, event_scan}
use Rattle.rr_model.specs.Text.Lines.{feeds_next, physical_lines, begins_blank, continuation, onto_last, with_physical_line, with_physical_lines}
use Rattle.rr_model.specs.Text.Lines.{unfolded_lines, without_mark}
use Rattle.rr_model.specs.Text.Moments.{is_digits, basic_date, basic_time, is_letter_t, is_letter_z, utc_mark, basic_moment, basic}
use Rattle.rr_model.specs.Text.Passes.{Beside, nothing_read, nothing_beside, has_slash, date_value, judged_date, judged_line, with_date, with_line}
use Rattle.rr_model.specs.Text.RuleValues.{◌>>=◌}
use Rattle.rr_model.specs.Text.Rules.{is_blank, line_value}
use Rattle.rr_rule_parts.specs.Rules.{rule_parts}
use Rattle.rr_model.specs.Text.Steps.{in_turn}
use Rattle.rr_model.specs.Text.UsedLines.{is_name_byte, name_of_line, after_name, is_named, has_quote, after_colon, is_quoted_after, begins_value, trim}
use Rattle.rr_model.specs.Text.UsedLines.{value_of_line, line_kind}
use Rattle.rr_model.specs.declared.line.Line.{Line}
use Rattle.rr_model.specs.declared.pass.FirstPass.{FirstPass}
use Rattle.rr_model.specs.declared.refusal.Refusal.{Refusal}
use Rattle.rr_model.specs.declared.refusal.Refusal.TheVariants.{BadLine, SeveralEvents}
use Rattle.rr_model.specs.declared.rule.Rule.{Rule}
use Rattle.rr_model.specs.declared.stamp.Stamp.{Stamp}
use Rattle.rr_model.specs.declared.used.LineKind.{LineKind}
use Rattle.rr_model.specs.declared.used.LineKind.TheVariants.{Begin, End, Property, Other}
use Rattle.rr_model.specs.declared.used.LineName.{LineName}
use Rattle.rr_model.specs.declared.used.LineName.TheVariants.{Dtstart, Rrule, Rdate, Exdate, Exrule}
use Rattle.rr_model.specs.declared.used.Scan.{Scan}
use Rattle.rr_model.specs.declared.used.UsedLine.{UsedLine}
use Rattle.rr_rrule.specs.TextLaws.{CaseDoesNotMatter}
use Rattle.rr_text.proofs.BlankLemmas.{trim-mapped}
use Rattle.rr_text.proofs.StepLemmas.{step_same}
use Rattle.rr_rrule.proofs.ScanLemmas.{scan_by_passes}

-- ---- bytes

abbrev small : ℕ → ℕ
small b = to_ascii_lowercase b

abbrev lowered : List ℕ → List ℕ
lowered text = str_to_ascii_lowercase text

-- a byte below the letters
below_letters : (k b : ℕ) → k < 65 → (small b == k) ≡ (b == k)
below_letters k b h = grind (arith, nat_tests, h)

-- a byte above them
above_letters : (k b : ℕ) → 127 < k → (small b == k) ≡ (b == k)
above_letters k b h = grind (arith, nat_tests, h)

same_blank : (b : ℕ) → is_blank (small b) ≡ is_blank b
same_blank b = grind (arith, nat_tests)

same_name_byte : (b : ℕ) → is_name_byte (small b) ≡ is_name_byte b
same_name_byte b = grind (arith, nat_tests)

same_digit : (b : ℕ) → is_digit (small b) ≡ is_digit b
same_digit b = grind (arith, nat_tests)

digit_stays : (b : ℕ) → is_digit b ≡ true → small b ≡ b
digit_stays b h = grind (arith, nat_tests, h)

same_t : (b : ℕ) → is_letter_t (small b) ≡ is_letter_t b
same_t b = grind (arith, nat_tests)

same_z : (b : ℕ) → is_letter_z (small b) ≡ is_letter_z b
same_z b = grind (arith, nat_tests)

small_twice : (b : ℕ) → small (small b) ≡ small b
small_twice b = grind (arith, nat_tests)

capital_small : (b : ℕ) → to_ascii_uppercase (small b) ≡ to_ascii_uppercase b
capital_small b = grind (arith, nat_tests)

lowered_twice : (text : List ℕ) → lowered (lowered text) ≡ lowered text
lowered_twice [] = refl
lowered_twice (b ∷ bs) = cc (small_twice b, lowered_twice bs)

capitals_lowered : (text : List ℕ) → str_to_ascii_uppercase (lowered text) ≡ str_to_ascii_uppercase text
capitals_lowered [] = refl
capitals_lowered (b ∷ bs) = cc (capital_small b, capitals_lowered bs)

any_lowered : (p : ℕ → Bool) → ((b : ℕ) → p (small b) ≡ p b) → (text : List ℕ) → list_any p (lowered text) ≡ list_any p text
any_lowered p same [] = refl
any_lowered p same (b ∷ bs) = rw (same b, any_lowered p same bs) refl

all_lowered : (p : ℕ → Bool) → ((b : ℕ) → p (small b) ≡ p b) → (text : List ℕ) → list_all p (lowered text) ≡ list_all p text
all_lowered p same [] = refl
all_lowered p same (b ∷ bs) = rw (same b, all_lowered p same bs) refl

prefix_lowered : (p : ℕ → Bool) → ((b : ℕ) → p (small b) ≡ p b) → (text : List ℕ) → prefix_len p (lowered text) ≡ prefix_len p text
prefix_lowered p same [] = refl
prefix_lowered p same (b ∷ bs) = rw (same b, prefix_lowered p same bs) refl

onto_first-lowered : (b : ℕ) (texts : List (List ℕ)) → onto_first (small b) (map lowered texts) ≡ map lowered (onto_first b texts)
onto_first-lowered b [] = refl
onto_first-lowered b (text ∷ texts) = refl

absent-map : {X Y : Type 0} (f : X → Y) (xs : List X) → is_absent (map f xs) ≡ is_absent xs
absent-map f [] = refl
absent-map f (x ∷ xs) = refl

-- ---- lines

feeds_next-lowered : (text : List ℕ) → feeds_next (lowered text) ≡ feeds_next text
feeds_next-lowered [] = refl
feeds_next-lowered (b ∷ bs) = below_letters 10 b (omega arith)

physical_lines-lowered : (text : List ℕ) → physical_lines (lowered text) ≡ map lowered (physical_lines text)
unfolding physical_lines
physical_lines-lowered [] = refl
physical_lines-lowered (b ∷ bs) = by (b == 10) ((b == 13) && feeds_next bs) refl refl (physical_lines-lowered bs)
  where
    by : (feed return : Bool) → (b == 10) ≡ feed → ((b == 13) && feeds_next bs) ≡ return → physical_lines (lowered bs) ≡ map lowered (physical_lines bs)
        → physical_lines (lowered (b ∷ bs)) ≡ map lowered (physical_lines (b ∷ bs))
    by true return e f same = rw (below_letters 10 b (omega arith), e) (ap (λ (ts : List (List ℕ)). [] ∷ ts) same)
    by false true e f same = rw (below_letters 10 b (omega arith), below_letters 13 b (omega arith), feeds_next-lowered bs, e, f) same
    by false false e f same =
        rw (below_letters 10 b (omega arith), below_letters 13 b (omega arith), feeds_next-lowered bs, e, f)
        (ap (onto_first (small b)) same ∙ onto_first-lowered b (physical_lines bs))

abbrev lowered_line : Line → Line
lowered_line line = record { number = line.number; text = lowered line.text }

begins_blank-lowered : (text : List ℕ) → begins_blank (lowered text) ≡ begins_blank text
begins_blank-lowered [] = refl
begins_blank-lowered (b ∷ bs) = same_blank b

onto_last-lowered : (lines : List Line) (text : List ℕ) → onto_last (map lowered_line lines) (lowered text) ≡ map lowered_line (onto_last lines text)
onto_last-lowered [] text = refl
onto_last-lowered (line ∷ []) text = ap (λ (t : List ℕ). record { number = line.number; text = t } ∷ []) (sym (map-append to_ascii_lowercase line.text text))
onto_last-lowered (line ∷ next ∷ lines) text = ap (λ (ls : List Line). lowered_line line ∷ ls) (onto_last-lowered (next ∷ lines) text)

continuation-lowered : (text : List ℕ) → continuation false (lowered text) ≡ lowered (continuation false text)
continuation-lowered [] = refl
continuation-lowered (b ∷ bs) = refl

line_more-lowered : (number : ℕ) (lines : List Line) (text : List ℕ)
    → with_physical_line false number (map lowered_line lines) (lowered text) ≡ map lowered_line (with_physical_line false number lines text)
line_more-lowered number lines text = by (begins_blank text && not (is_absent lines)) refl
  where
    by : (b : Bool) → (begins_blank text && not (is_absent lines)) ≡ b
        → with_physical_line false number (map lowered_line lines) (lowered text) ≡ map lowered_line (with_physical_line false number lines text)
    by true e = rw (begins_blank-lowered text, absent-map lowered_line lines, e, continuation-lowered text) (onto_last-lowered lines (continuation false text))
    by false e =
        rw (begins_blank-lowered text, absent-map lowered_line lines, e) (sym (map-append lowered_line lines (record { number = number; text = text } ∷ [])))

lines_more-lowered : (number : ℕ) (lines : List Line) (texts : List (List ℕ))
    → with_physical_lines false number (map lowered_line lines) (map lowered texts) ≡ map lowered_line (with_physical_lines false number lines texts)
lines_more-lowered number lines [] = refl
lines_more-lowered number lines (text ∷ texts) =
    ap (λ (ls : List Line). with_physical_lines false (number + 1) ls (map lowered texts)) (line_more-lowered number lines text)
    ∙ lines_more-lowered (number + 1) (with_physical_line false number lines text) texts

unfolded_lines-lowered : (text : List ℕ) → unfolded_lines false (lowered text) ≡ map lowered_line (unfolded_lines false text)
unfolding unfolded_lines
unfolded_lines-lowered text = ap (with_physical_lines false 1 []) (physical_lines-lowered text) ∙ lines_more-lowered 1 [] (physical_lines text)

-- ---- names and values

name_of_line-lowered : (text : List ℕ) → name_of_line (lowered text) ≡ lowered (name_of_line text)
name_of_line-lowered text =
    ap (λ n. take n (lowered text)) (prefix_lowered is_name_byte same_name_byte text) ∙ take-map to_ascii_lowercase (prefix_len is_name_byte text) text

same_name : (text word : List ℕ) → str_eq_ignore_ascii_case (lowered text) word ≡ str_eq_ignore_ascii_case text word
same_name text word = ap (λ (t : List ℕ). bytes_eq t (lowered word)) (lowered_twice text)

same_names : (text other : List ℕ) → str_eq_ignore_ascii_case (lowered text) (lowered other) ≡ str_eq_ignore_ascii_case text other
same_names text other = same_name text (lowered other) ∙ ap (bytes_eq (lowered text)) (lowered_twice other)

is_named-lowered : (text word : List ℕ) → is_named (lowered text) word ≡ is_named text word
is_named-lowered text word = ap (λ (t : List ℕ). str_eq_ignore_ascii_case t word) (name_of_line-lowered text) ∙ same_name (name_of_line text) word

after_name-lowered : (text : List ℕ) → after_name (lowered text) ≡ lowered (after_name text)
after_name-lowered text =
    ap (λ (t : List ℕ). drop (length t) (lowered text)) (name_of_line-lowered text)
    ∙ ap (λ n. drop n (lowered text)) (length-map (name_of_line text) to_ascii_lowercase)
    ∙ drop-map to_ascii_lowercase (length (name_of_line text)) text

has_quote-lowered : (text : List ℕ) → has_quote (lowered text) ≡ has_quote text
has_quote-lowered text = any_lowered (λ b. b == 34) (λ b. below_letters 34 b (omega arith)) text

after_colon-lowered : (is_quoted : Bool) (text : List ℕ) → after_colon is_quoted (lowered text) ≡ option_map lowered (after_colon is_quoted text)
after_colon-lowered is_quoted [] = refl
after_colon-lowered is_quoted (b ∷ bs) = by ((b == 58) && not is_quoted) refl (after_colon-lowered (is_quoted_after is_quoted b bs) bs)
  where
    quoted : is_quoted_after is_quoted (small b) (lowered bs) ≡ is_quoted_after is_quoted b bs
    quoted = rw (below_letters 34 b (omega arith), has_quote-lowered bs) refl

    by : (c : Bool) → ((b == 58) && not is_quoted) ≡ c
        → after_colon (is_quoted_after is_quoted b bs) (lowered bs) ≡ option_map lowered (after_colon (is_quoted_after is_quoted b bs) bs)
        → after_colon is_quoted (lowered (b ∷ bs)) ≡ option_map lowered (after_colon is_quoted (b ∷ bs))
    by true e same = rw (below_letters 58 b (omega arith), e) refl
    by false e same = rw (below_letters 58 b (omega arith), e) (ap (λ q. after_colon q (lowered bs)) quoted ∙ same)

begins_value-lowered : (text : List ℕ) → begins_value (lowered text) ≡ begins_value text
begins_value-lowered [] = refl
begins_value-lowered (b ∷ bs) = rw (below_letters 59 b (omega arith), below_letters 58 b (omega arith)) refl

trim-lowered : (text : List ℕ) → trim (lowered text) ≡ lowered (trim text)
trim-lowered text = trim-mapped to_ascii_lowercase same_blank text

trims-lowered : (value : Option (List ℕ)) → option_map trim (option_map lowered value) ≡ option_map lowered (option_map trim value)
trims-lowered None = refl
trims-lowered (Some text) = ap Some (trim-lowered text)

value_of_line-lowered : (text : List ℕ) → value_of_line (lowered text) ≡ option_map lowered (value_of_line text)
unfolding value_of_line
value_of_line-lowered text =
    ap (λ (t : List ℕ). if begins_value t then option_map trim (after_colon false t) else None) (after_name-lowered text)
    ∙ by (begins_value (after_name text)) refl
  where
    rest : List ℕ
    rest = after_name text

    by : (b : Bool) → begins_value rest ≡ b
        → (if begins_value (lowered rest) then option_map trim (after_colon false (lowered rest)) else None)
        ≡ option_map lowered (if begins_value rest then option_map trim (after_colon false rest) else None)
    by true e = rw (begins_value-lowered rest, e) (ap (option_map trim) (after_colon-lowered false rest) ∙ trims-lowered (after_colon false rest))
    by false e = rw (begins_value-lowered rest, e) refl

line_kind-lowered : (text : List ℕ) → line_kind (lowered text) ≡ line_kind text
unfolding line_kind
line_kind-lowered text =
    rw (
      is_named-lowered text (codes "BEGIN"),
      is_named-lowered text (codes "END"),
      is_named-lowered text (codes "DTSTART"),
      is_named-lowered text (codes "RRULE"),
      is_named-lowered text (codes "RDATE"),
      is_named-lowered text (codes "EXDATE"),
      is_named-lowered text (codes "EXRULE"),
    ) refl

-- ---- components

abbrev lowered_components : Components → Components
lowered_components components = record { open_names = map lowered components.open_names; had_event = components.had_event }

abbrev lowered_used : UsedLine → UsedLine
lowered_used line = record { number = line.number; name = line.name; value = lowered line.value }

abbrev lowered_left : Left → Left
lowered_left step = record { components = lowered_components step.components; used = option_map lowered_used step.used }

abbrev lowered_scan : Scan → Scan
lowered_scan scan = record { used = map lowered_used scan.used; stop = scan.stop }

is_in_event-lowered : (names : List (List ℕ)) → is_in_event (map lowered names) ≡ is_in_event names
is_in_event-lowered [] = refl
is_in_event-lowered (name ∷ names) = same_name name (codes "VEVENT")

begun-lowered : (components : Components) (name : List ℕ)
    → after_begin (lowered_components components) (lowered name) ≡ (after_begin components name >>= λ after. Ok (lowered_components after))
begun-lowered components name = rw (same_name name (codes "VEVENT")) (by (is_event name && components.had_event) refl)
  where
    by : (b : Bool) → (is_event name && components.had_event) ≡ b
        → (if is_event name && components.had_event then Err SeveralEvents
        else Ok (record { open_names = lowered name ∷ map lowered components.open_names; had_event = is_event name || components.had_event }))
        ≡ (after_begin components name >>= λ after. Ok (lowered_components after))
    by true e = rw e refl
    by false e = rw e refl

ended-lowered : (number : ℕ) (components : Components) (names : List (List ℕ)) (name : List ℕ)
    → after_end number (lowered_components components) (map lowered names) (lowered name)
    ≡ (after_end number components names name >>= λ after. Ok (lowered_components after))
ended-lowered number components [] name = refl
ended-lowered number components (innermost ∷ outer) name = rw (same_names name innermost) (by (str_eq_ignore_ascii_case name innermost) refl)
  where
    by : (b : Bool) → str_eq_ignore_ascii_case name innermost ≡ b
        → (if str_eq_ignore_ascii_case name innermost then Ok (record { open_names = map lowered outer; had_event = components.had_event }) else Err
        (BadLine number))
        ≡ (after_end number components (innermost ∷ outer) name >>= λ after. Ok (lowered_components after))
    by true e = rw e refl
    by false e = rw e refl

-- what follows a step, and then its components in small letters
left_after : (r : Result Components Refusal)
    → ((r >>= λ after. Ok (lowered_components after)) >>= λ after. Ok (left_with after None))
    ≡ ((r >>= λ after. Ok (left_with after None)) >>= λ step. Ok (lowered_left step))
left_after (Ok after) = refl
left_after (Err refusal) = refl

module _ (is_bare : Bool) (components : Components) (number : ℕ) where
  begin-lowered : (value : Option (List ℕ))
      → (ok_or (option_map lowered value) (BadLine number) >>= λ name. after_begin (lowered_components components) name >>= λ after. Ok (left_with after None))
      ≡ ((ok_or value (BadLine number) >>= λ name. after_begin components name >>= λ after. Ok (left_with after None)) >>= λ step. Ok (lowered_left step))
  begin-lowered None = refl
  begin-lowered (Some name) =
      ap (λ (r : Result Components Refusal). r >>= λ after. Ok (left_with after None)) (begun-lowered components name) ∙ left_after (after_begin components name)

  end-lowered : (value : Option (List ℕ))
      → (ok_or (option_map lowered value) (BadLine number) >>= λ name. after_end number (lowered_components components) (map lowered components.open_names) name
      >>= λ after. Ok (left_with after None))
      ≡ ((ok_or value (BadLine number) >>= λ name. after_end number components components.open_names name >>= λ after. Ok (left_with after None))
      >>= λ step. Ok (lowered_left step))
  end-lowered None = refl
  end-lowered (Some name) =
      ap (λ (r : Result Components Refusal). r >>= λ after. Ok (left_with after None)) (ended-lowered number components components.open_names name)
      ∙ left_after (after_end number components components.open_names name)

  property-lowered : (name : LineName) (b : Bool) (value : Option (List ℕ))
      → (if b then (ok_or (option_map lowered value) (BadLine number)
      >>= λ v. Ok (left_with (lowered_components components) (Some (used_line number name v)))) else Ok (left_with (lowered_components components) None))
      ≡ ((if b then (ok_or value (BadLine number) >>= λ v. Ok (left_with components (Some (used_line number name v)))) else Ok (left_with components None))
      >>= λ step. Ok (lowered_left step))
  property-lowered name true None = refl
  property-lowered name true (Some v) = refl
  property-lowered name false value = refl

  left_at-lowered : (kind : LineKind) (text : List ℕ)
      → left_at is_bare (lowered_components components) number kind (lowered text)
      ≡ (left_at is_bare components number kind text >>= λ step. Ok (lowered_left step))
  left_at-lowered Begin text = rw (value_of_line-lowered text) (begin-lowered (value_of_line text))
  left_at-lowered End text = rw (value_of_line-lowered text) (end-lowered (value_of_line text))
  left_at-lowered (Property name) text =
      rw (value_of_line-lowered text, is_in_event-lowered components.open_names)
      (property-lowered name (is_bare || is_in_event components.open_names) (value_of_line text))
  left_at-lowered Other text = refl

left_by-lowered : (is_bare : Bool) (components : Components) (line : Line)
    → left_by is_bare (lowered_components components) (lowered_line line) ≡ (left_by is_bare components line >>= λ step. Ok (lowered_left step))
unfolding left_by
left_by-lowered is_bare components line =
    ap (λ (k : LineKind). left_at is_bare (lowered_components components) line.number k (lowered line.text)) (line_kind-lowered line.text)
    ∙ left_at-lowered is_bare components line.number (line_kind line.text) line.text

after_used-lowered : (used : Option UsedLine) (scan : Scan)
    → after_used (option_map lowered_used used) (lowered_scan scan) ≡ lowered_scan (after_used used scan)
after_used-lowered None scan = refl
after_used-lowered (Some line) scan = refl

scan_from-lowered : (r : Result Left Refusal) (f g : Components → Scan) → ((after : Components) → f (lowered_components after) ≡ lowered_scan (g after))
    → scan_from (r >>= λ step. Ok (lowered_left step)) f ≡ lowered_scan (scan_from r g)
scan_from-lowered (Err refusal) f g same = refl
scan_from-lowered (Ok step) f g same =
    ap (after_used (option_map lowered_used step.used)) (same step.components) ∙ after_used-lowered step.used (g step.components)

scanned-lowered : (is_bare : Bool) (last : ℕ) (lines : List Line) (components : Components)
    → scan_of is_bare last (lowered_components components) (map lowered_line lines) ≡ lowered_scan (scan_of is_bare last components lines)
scanned-lowered is_bare last [] components = rw (absent-map lowered components.open_names) refl
scanned-lowered is_bare last (line ∷ lines) components =
    ap (λ (r : Result Left Refusal). scan_from r (λ after. scan_of is_bare last after (map lowered_line lines))) (left_by-lowered is_bare components line)
    ∙ scan_from-lowered (left_by is_bare components line) _ _ (scanned-lowered is_bare last lines)

has_begin-lowered : (lines : List Line)
    → list_any (λ (line : Line). is_named line.text (codes "BEGIN")) (map lowered_line lines)
    ≡ list_any (λ (line : Line). is_named line.text (codes "BEGIN")) lines
has_begin-lowered [] = refl
has_begin-lowered (line ∷ lines) = rw (is_named-lowered line.text (codes "BEGIN"), has_begin-lowered lines) refl

event_scan-lowered : (text : List ℕ) → event_scan false (lowered text) ≡ lowered_scan (event_scan false text)
unfolding event_scan
event_scan-lowered text =
    let lines = unfolded_lines false text in
    ap (λ (ls : List Line). scan_of (is_bare_text ls) (length (physical_lines (lowered text))) no_components ls) (unfolded_lines-lowered text)
    ∙ ap (λ b. scan_of (not b) (length (physical_lines (lowered text))) no_components (map lowered_line lines)) (has_begin-lowered lines)
    ∙ ap (λ n. scan_of (is_bare_text lines) n no_components (map lowered_line lines))
    (ap length (physical_lines-lowered text) ∙ length-map (physical_lines text) lowered)
    ∙ scanned-lowered (is_bare_text lines) (length (physical_lines text)) lines no_components

-- ---- moments

digits_stay : (text : List ℕ) → list_all is_digit text ≡ true → lowered text ≡ text
digits_stay [] h = refl
digits_stay (b ∷ bs) h =
    let parts = and_parts (is_digit b) (list_all is_digit bs) h in
    cc (digit_stays b parts.0, digits_stay bs parts.1)

is_digits-lowered : (count : ℕ) (text : List ℕ) → is_digits count (lowered text) ≡ is_digits count text
unfolding is_digits
is_digits-lowered count text = rw (length-map text to_ascii_lowercase, all_lowered is_digit same_digit text) refl

of_digits : (count : ℕ) (text : List ℕ) → is_digits count text ≡ true → lowered text ≡ text
unfolding is_digits
of_digits count text h = digits_stay text (and_parts (length text == count) (list_all is_digit text) h).1

basic_date-lowered : (text : List ℕ) → basic_date (lowered text) ≡ basic_date text
unfolding basic_date
basic_date-lowered text = by (is_digits 8 text) refl
  where
    by : (b : Bool) → is_digits 8 text ≡ b → basic_date (lowered text) ≡ basic_date text
    by true e = ap basic_date (of_digits 8 text e)
    by false e = rw (is_digits-lowered 8 text, e) refl

basic_time-lowered : (text : List ℕ) → basic_time (lowered text) ≡ basic_time text
unfolding basic_time
basic_time-lowered text = by (is_digits 6 text) refl
  where
    by : (b : Bool) → is_digits 6 text ≡ b → basic_time (lowered text) ≡ basic_time text
    by true e = ap basic_time (of_digits 6 text e)
    by false e = rw (is_digits-lowered 6 text, e) refl

utc_mark-lowered : (text : List ℕ) → utc_mark (lowered text) ≡ utc_mark text
utc_mark-lowered [] = refl
utc_mark-lowered (b ∷ []) = rw (same_z b) refl
utc_mark-lowered (b ∷ c ∷ rest) = refl

basic_moment-lowered : (text : List ℕ) → basic_moment (lowered text) ≡ basic_moment text
unfolding basic_moment
basic_moment-lowered text =
    let letter : is_letter_t (slice_index (lowered text) 8) ≡ is_letter_t (slice_index text 8) = ap is_letter_t (get_or-map to_ascii_lowercase text 8 0)
    ∙ same_t (slice_index text 8) in
    let date : basic_date (take 8 (lowered text)) ≡ basic_date (take 8 text) = ap basic_date (take-map to_ascii_lowercase 8 text)
    ∙ basic_date-lowered (take 8 text) in
    let time : basic_time (take 6 (drop 9 (lowered text))) ≡ basic_time (take 6 (drop 9 text)) =
    ap (λ (t : List ℕ). basic_time (take 6 t)) (drop-map to_ascii_lowercase 9 text) ∙ ap basic_time (take-map to_ascii_lowercase 6 (drop 9 text))
    ∙ basic_time-lowered (take 6 (drop 9 text)) in
    let mark : utc_mark (drop 15 (lowered text)) ≡ utc_mark (drop 15 text) = ap utc_mark (drop-map to_ascii_lowercase 15 text)
    ∙ utc_mark-lowered (drop 15 text) in
    rw (letter, date, time, mark) refl

basic-lowered : (text : List ℕ) → basic (lowered text) ≡ basic text
unfolding basic
basic-lowered text = rw (length-map text to_ascii_lowercase, basic_date-lowered text, basic_moment-lowered text) refl

-- ---- the passes

line_value-lowered : (text : List ℕ) → line_value (lowered text) ≡ line_value text
unfolding line_value
line_value-lowered text = rw (capitals_lowered text) refl

stated_rule-lowered : (line : ℕ) (text : List ℕ) → stated_rule line (lowered text) ≡ stated_rule line text
unfolding stated_rule rule_parts
stated_rule-lowered line text = rw (line_value-lowered text) refl

date_value-lowered : (line : ℕ) (text : List ℕ) → date_value line (lowered text) ≡ date_value line text
date_value-lowered line text = rw (trim-lowered text, basic-lowered (trim text)) refl

split-lowered : (p : ℕ → Bool) → ((b : ℕ) → p (small b) ≡ p b) → (text : List ℕ) → slice_split p (lowered text) ≡ map lowered (slice_split p text)
split-lowered p same [] = refl
split-lowered p same (b ∷ bs) = rw (same b) (by (p b) (split-lowered p same bs))
  where
    by : (c : Bool) → slice_split p (lowered bs) ≡ map lowered (slice_split p bs)
        → cond c ([] ∷ slice_split p (lowered bs)) (onto_first (small b) (slice_split p (lowered bs)))
        ≡ map lowered (cond c ([] ∷ slice_split p bs) (onto_first b (slice_split p bs)))
    by true e = ap (λ (ts : List (List ℕ)). [] ∷ ts) e
    by false e = ap (onto_first (small b)) e ∙ onto_first-lowered b (slice_split p bs)

values-lowered : (text : List ℕ) → slice_split is_comma (lowered text) ≡ map lowered (slice_split is_comma text)
values-lowered text = split-lowered is_comma (λ b. below_letters 44 b (omega arith)) text

in_turn-mapped : {X Y : Type 0} (step : X → Y → Result X Refusal) (f : Y → Y) → ((x : X) (y : Y) → step x (f y) ≡ step x y) → (ys : List Y) (x : X)
    → in_turn step x (map f ys) ≡ in_turn step x ys
in_turn-mapped step f same [] x = refl
in_turn-mapped step f same (y ∷ ys) x =
    ap (λ r. r >>= λ next. in_turn step next (map f ys)) (same x y) ∙ step_same (step x y) _ _ (in_turn-mapped step f same ys)

has_slash-lowered : (text : List ℕ) → has_slash (lowered text) ≡ has_slash text
has_slash-lowered text = any_lowered (λ b. b == 47) (λ b. below_letters 47 b (omega arith)) text

judged_date-lowered : (line : ℕ) (is_plus : Bool) (pass : FirstPass) (text : List ℕ)
    → judged_date line is_plus pass (lowered text) ≡ judged_date line is_plus pass text
judged_date-lowered line is_plus pass text = rw (has_slash-lowered text, date_value-lowered line text) refl

judged_dates-lowered : (line : ℕ) (is_plus : Bool) (pass : FirstPass) (text : List ℕ)
    → in_turn (judged_date line is_plus) pass (slice_split is_comma (lowered text)) ≡ in_turn (judged_date line is_plus) pass (slice_split is_comma text)
judged_dates-lowered line is_plus pass text =
    ap (in_turn (judged_date line is_plus) pass) (values-lowered text)
    ∙ in_turn-mapped (judged_date line is_plus) lowered (judged_date-lowered line is_plus) (slice_split is_comma text) pass

judged_line-lowered : (line : ℕ) (name : LineName) (pass : FirstPass) (text : List ℕ)
    → judged_line rrule_language line name pass (lowered text) ≡ judged_line rrule_language line name pass text
judged_line-lowered line Dtstart pass text = rw (basic-lowered text) refl
judged_line-lowered line Rrule pass text = rw (stated_rule-lowered line text) refl
judged_line-lowered line Rdate pass text = judged_dates-lowered line true pass text
judged_line-lowered line Exdate pass text = judged_dates-lowered line false pass text
judged_line-lowered line Exrule pass text = rw (stated_rule-lowered line text) refl

module _ (offset : Option ℤ) (start : Stamp) where
  with_date-lowered : (line : ℕ) (is_plus : Bool) (beside : Beside Rule) (text : List ℕ)
      → with_date offset start line is_plus beside (lowered text) ≡ with_date offset start line is_plus beside text
  with_date-lowered line is_plus beside text = rw (date_value-lowered line text) refl

  with_dates-lowered : (line : ℕ) (is_plus : Bool) (beside : Beside Rule) (text : List ℕ)
      → in_turn (with_date offset start line is_plus) beside (slice_split is_comma (lowered text))
      ≡ in_turn (with_date offset start line is_plus) beside (slice_split is_comma text)
  with_dates-lowered line is_plus beside text =
      ap (in_turn (with_date offset start line is_plus) beside) (values-lowered text)
      ∙ in_turn-mapped (with_date offset start line is_plus) lowered (with_date-lowered line is_plus) (slice_split is_comma text) beside

  with_line-lowered : (line : ℕ) (name : LineName) (beside : Beside Rule) (text : List ℕ)
      → with_line rrule_language (rule_beside offset start) offset start line name beside (lowered text)
      ≡ with_line rrule_language (rule_beside offset start) offset start line name beside text
  with_line-lowered line Dtstart beside text = refl
  with_line-lowered line Rrule beside text = rw (stated_rule-lowered line text) refl
  with_line-lowered line Rdate beside text = with_dates-lowered line true beside text
  with_line-lowered line Exdate beside text = with_dates-lowered line false beside text
  with_line-lowered line Exrule beside text = rw (stated_rule-lowered line text) refl

scan-lowered : (offset : Option ℤ) (scan : Scan) → calendar_scan offset (lowered_scan scan) ≡ calendar_scan offset scan
scan-lowered offset scan =
    scan_by_passes offset (map lowered_used scan.used) scan.used scan.stop
    (in_turn-mapped (λ (p : FirstPass) (line : UsedLine). judged_line rrule_language line.number line.name p line.value) lowered_used
    (λ p line. judged_line-lowered line.number line.name p line.value) scan.used nothing_read)
    (λ start. in_turn-mapped (λ (b : Beside Rule) (line : UsedLine). with_line rrule_language
    (rule_beside offset start) offset start line.number line.name b line.value) lowered_used
    (λ b line. with_line-lowered offset start line.number line.name b line.value) scan.used nothing_beside)

-- ---- the law

mark-lowered : (mark text : List ℕ) → list_all (λ m. nat_lt 127 m) mark ≡ true
    → bytes_eq (take (length mark) (lowered text)) mark ≡ bytes_eq (take (length mark) text) mark
mark-lowered [] text h = refl
mark-lowered (m ∷ ms) [] h = refl
mark-lowered (m ∷ ms) (b ∷ bs) h =
    let parts = and_parts (nat_lt 127 m) (list_all (λ c. nat_lt 127 c) ms) h in
    let high : 127 < m = grind (arith, nat_tests, parts.0) in
    rw (above_letters m b high, mark-lowered ms bs parts.1) refl

without_mark-lowered : (text : List ℕ) → without_mark (lowered text) ≡ lowered (without_mark text)
without_mark-lowered text = rw (mark-lowered mark text refl) (by (bytes_eq (take 3 text) mark) refl)
  where
    mark : List ℕ
    mark = 239 ∷ 187 ∷ 191 ∷ []

    by : (b : Bool) → bytes_eq (take 3 text) mark ≡ b
        → unwrap_or (if bytes_eq (take 3 text) mark then Some (drop 3 (lowered text)) else None) (lowered text) ≡ lowered (without_mark text)
    by true e = rw e (drop-map to_ascii_lowercase 3 text)
    by false e = rw e refl

text-lowered : (offset : Option ℤ) (text : List ℕ) → calendar_text offset (lowered text) ≡ calendar_text offset text
unfolding calendar_text
text-lowered offset text =
    ap (λ (t : List ℕ). calendar_scan offset (event_scan false t)) (without_mark-lowered text)
    ∙ ap (calendar_scan offset) (event_scan-lowered (without_mark text)) ∙ scan-lowered offset (event_scan false (without_mark text))

pub case_does_not_matter : CaseDoesNotMatter
case_does_not_matter offset text other same = sym (text-lowered offset text) ∙ ap (calendar_text offset) same ∙ text-lowered offset other
