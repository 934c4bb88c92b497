-- A text with a folded line states what the text does.
use Rattle.std.proofs.Common.{◌≡◌, ℕ, ◌==◌, ◌&&◌, ◌||◌, not, Bool, true, false, if◌then◌else◌, List, [], ◌∷◌, ◌++◌, length, take, drop, option_map}
use Rattle.std.proofs.Common.{Result, Ok, Err, Option, None, Some, refl, sym, ap, ◌∙◌, subst, ℤ}
use Rattle.std.specs.Prelude.{codes, ok_or}
use Rattle.std.specs.List.{list_any}
use Rattle.std.specs.Str.{bytes_eq, str_eq_ignore_ascii_case}
use Rattle.rr_model.specs.Rule.Validity.{is_absent}
use Rattle.rr_rule_parts.specs.Calendars.{rule_beside, rrule_language, series_of_event, calendar_scan, calendar_text}
use Rattle.rr_model.specs.Text.Event.{Components, Left, no_components, is_in_event, after_begin, after_end, used_line, left_with, value_on, left_at, left_by, stop_at_end}
use Rattle.rr_model.specs.Text.Event.{after_used, scan_from, scan_of, is_bare_text, event_scan}
use Rattle.rr_model.specs.Text.Lines.{physical_lines, unfolded_lines, without_mark}
use Rattle.rr_model.specs.Text.Passes.{Beside, Event, nothing_read, nothing_beside, judged_line, first_pass, with_line, unless_stopped, passes}
use Rattle.rr_model.specs.Text.RuleValues.{◌>>=◌}
use Rattle.rr_model.specs.Text.Steps.{in_turn}
use Rattle.rr_model.specs.Text.UsedLines.{is_named, value_of_line, line_kind}
use Rattle.rr_model.specs.declared.line.Line.{Line}
use Rattle.rr_model.specs.declared.pass.FirstPass.{FirstPass}
use Rattle.rr_model.specs.declared.refusal.Refusal.{Refusal}
use Rattle.rr_model.specs.declared.refusal.Refusal.TheVariants.{BadLine, NoStart}
use Rattle.rr_model.specs.declared.rule.Rule.{Rule}
use Rattle.rr_model.specs.declared.rule.Series.{Series}
use Rattle.rr_model.specs.declared.stamp.Stamp.{Stamp}
use Rattle.rr_model.specs.declared.used.LineKind.{LineKind}
use Rattle.rr_model.specs.declared.used.LineKind.TheVariants.{Begin, End, Property, Other}
use Rattle.rr_model.specs.declared.used.LineName.{LineName}
use Rattle.rr_model.specs.declared.used.Scan.{Scan}
use Rattle.rr_model.specs.declared.used.UsedLine.{UsedLine}
use Rattle.rr_ical.specs.LineLaws.{line_texts}
use Rattle.rr_ical.proofs.FoldingLemmas.{folding_does_not_matter as folded_alike, texts_of}
use Rattle.rr_rrule.specs.TextLaws.{HasNoMark, FoldingDoesNotMatter}
use Rattle.rr_rrule.proofs.GivesLemmas.{Gives, gives-same, gives-err, gives-then, gives-ok_or, judged_line-gives, with_line-gives}
use Rattle.rr_text.proofs.StepLemmas.{and_then_ok}

-- ---- what a line leaves, under another number

abbrev renumbered : ℕ → UsedLine → UsedLine
renumbered m line = record { number = m; name = line.name; value = line.value }

abbrev renumbered_left : ℕ → Left → Left
renumbered_left m step = record { components = step.components; used = option_map (renumbered m) step.used }

module _ (is_bare : Bool) (components : Components) (n m : ℕ) where
  ended-gives : (names : List (List ℕ)) (name : List ℕ) → Gives (after_end n components names name) (after_end m components names name)
  ended-gives [] name = gives-err _ _
  ended-gives (innermost ∷ outer) name = by (str_eq_ignore_ascii_case name innermost)
    where
      by : (b : Bool) → Gives {A = Components} (if b then Ok (record { open_names = outer; had_event = components.had_event }) else Err (BadLine n))
          (if b then Ok (record { open_names = outer; had_event = components.had_event }) else Err (BadLine m))
      by true = gives-same _
      by false = gives-err _ _

  -- components after a line that is no used one
  left_after-gives : (r s : Result Components Refusal) → Gives r s → (step : Left) → (r >>= λ after. Ok (left_with after None)) ≡ Ok step
      → (s >>= λ after. Ok (left_with after None)) ≡ Ok (renumbered_left m step)
  left_after-gives r s same step h =
      let after = and_then_ok r (λ (c : Components). Ok (left_with c None)) step h in
      let is : left_with after.0 None ≡ step = cc in
      ap (λ (t : Result Components Refusal). t >>= λ c. Ok (left_with c None)) (same after.0 after.1) ∙ ap Ok (ap (renumbered_left m) is)

  left_at-renumbered : (kind : LineKind) (text : List ℕ) (step : Left) → left_at is_bare components n kind text ≡ Ok step
      → left_at is_bare components m kind text ≡ Ok (renumbered_left m step)
  left_at-renumbered Begin text step h =
      let name = and_then_ok (value_on n text) (λ (t : List ℕ). after_begin components t >>= λ after. Ok (left_with after None)) step h in
      ap (λ (r : Result (List ℕ) Refusal). r >>= λ t. after_begin components t >>= λ after. Ok (left_with after None))
      (gives-ok_or (value_of_line text) _ _ name.0 name.1)
      ∙ left_after-gives (after_begin components name.0) (after_begin components name.0) (gives-same _) step name.2
  left_at-renumbered End text step h =
      let name = and_then_ok (value_on n text) (λ (t : List ℕ). after_end n components components.open_names t >>= λ after. Ok (left_with after None)) step h in
      ap (λ (r : Result (List ℕ) Refusal). r >>= λ t. after_end m components components.open_names t >>= λ after. Ok (left_with after None))
      (gives-ok_or (value_of_line text) _ _ name.0 name.1)
      ∙ left_after-gives (after_end n components components.open_names name.0) (after_end m components components.open_names name.0)
      (ended-gives components.open_names name.0) step name.2
  left_at-renumbered (Property name) text step h = by (is_bare || is_in_event components.open_names) h
    where
      by : (b : Bool) → (if b then (value_on n text >>= λ value. Ok (left_with components (Some (used_line n name value)))) else Ok
          (left_with components None)) ≡ Ok step
          → (if b then (value_on m text >>= λ value. Ok (left_with components (Some (used_line m name value)))) else Ok (left_with components None)) ≡ Ok
          (renumbered_left m step)
      by true e =
          let value = and_then_ok (value_on n text) (λ (t : List ℕ). Ok (left_with components (Some (used_line n name t)))) step e in
          let is : left_with components (Some (used_line n name value.0)) ≡ step = cc in
          ap (λ (r : Result (List ℕ) Refusal). r >>= λ t. Ok (left_with components (Some (used_line m name t))))
          (gives-ok_or (value_of_line text) _ _ value.0 value.1)
          ∙ ap Ok (ap (renumbered_left m) is)
      by false e =
          let is : left_with components None ≡ step = cc in
          ap Ok (ap (renumbered_left m) is)
  left_at-renumbered Other text step h =
      let is : left_with components None ≡ step = cc in
      ap Ok (ap (renumbered_left m) is)

left_by-renumbered : (is_bare : Bool) (components : Components) (line other : Line) (step : Left) → line.text ≡ other.text
    → left_by is_bare components line ≡ Ok step
    → left_by is_bare components other ≡ Ok (renumbered_left other.number step)
unfolding left_by
left_by-renumbered is_bare components line other step same h =
    ap (λ (t : List ℕ). left_at is_bare components other.number (line_kind t) t) (sym same) ∙ left_at-renumbered is_bare components line.number other.number
    (line_kind line.text) line.text step h

-- ---- the used lines

-- the same names and values
abbrev AreAlike : List UsedLine → List UsedLine → Type 0
AreAlike [] [] = Unit {0}
AreAlike [] (v ∷ vs) = ⊥
AreAlike (u ∷ us) [] = ⊥
AreAlike (u ∷ us) (v ∷ vs) = (u.name ≡ v.name) × (u.value ≡ v.value) × AreAlike us vs

-- the second has the same used lines, and its components have no fault
record IsAlike (scan other : Scan) : Type 0 where
  used : AreAlike scan.used other.used
  stop : other.stop ≡ None

after_used-alike : (m : ℕ) (used : Option UsedLine) (scan other : Scan) → IsAlike scan other
    → IsAlike (after_used used scan) (after_used (option_map (renumbered m) used) other)
after_used-alike m None scan other alike = record { used = alike.used; stop = alike.stop }
after_used-alike m (Some line) scan other alike = record { used = (refl, refl, alike.used); stop = alike.stop }

ends-alike : (last other_last : ℕ) (components : Components) → stop_at_end last components ≡ None → stop_at_end other_last components ≡ None
ends-alike last other_last components h = by (is_absent components.open_names) h
  where
    by : (b : Bool) → (if b then None else Some (BadLine last)) ≡ None → (if b then None else Some (BadLine other_last)) ≡ None
    by true e = refl
    by false e = absurd (cc)

-- what a line leaves, and the scans of the lines after it
from_line : (r : Result Left Refusal) (s : Result Left Refusal) (m : ℕ) (f g : Components → Scan)
    → ((step : Left) → r ≡ Ok step → s ≡ Ok (renumbered_left m step))
    → ((after : Components) → (f after).stop ≡ None → IsAlike (f after) (g after)) → (scan_from r f).stop ≡ None → IsAlike (scan_from r f) (scan_from s g)
from_line (Err refusal) s m f g same rest h = absurd (cc)
from_line (Ok step) s m f g same rest h =
    rw (same step refl) (after_used-alike m step.used (f step.components) (g step.components) (rest step.components h))

scanned-alike : (is_bare : Bool) (last other_last : ℕ) (lines others : List Line) → texts_of lines ≡ texts_of others → (components : Components)
    → (scan_of is_bare last components lines).stop ≡ None
    → IsAlike (scan_of is_bare last components lines) (scan_of is_bare other_last components others)
scanned-alike is_bare last other_last [] [] same components h = record { used = tt; stop = ends-alike last other_last components h }
scanned-alike is_bare last other_last [] (other ∷ others) same components h = absurd (cc)
scanned-alike is_bare last other_last (line ∷ lines) [] same components h = absurd (cc)
scanned-alike is_bare last other_last (line ∷ lines) (other ∷ others) same components h =
    let text : line.text ≡ other.text = cc in
    let texts : texts_of lines ≡ texts_of others = cc in
    from_line (left_by is_bare components line) (left_by is_bare components other) other.number _ _
    (λ step e. left_by-renumbered is_bare components line other step text e)
    (scanned-alike is_bare last other_last lines others texts) h

has_begin : (lines others : List Line) → texts_of lines ≡ texts_of others
    → list_any (λ (line : Line). is_named line.text (codes "BEGIN")) lines ≡ list_any (λ (line : Line). is_named line.text (codes "BEGIN")) others
has_begin [] [] same = refl
has_begin [] (other ∷ others) same = absurd (cc)
has_begin (line ∷ lines) [] same = absurd (cc)
has_begin (line ∷ lines) (other ∷ others) same =
    let text : line.text ≡ other.text = cc in
    let texts : texts_of lines ≡ texts_of others = cc in
    rw (text, has_begin lines others texts) refl

event_scan-alike : (text other : List ℕ) → line_texts text ≡ line_texts other → (event_scan false text).stop ≡ None
    → IsAlike (event_scan false text) (event_scan false other)
unfolding event_scan
event_scan-alike text other same h =
    let lines = unfolded_lines false text in
    let others = unfolded_lines false other in
    let bare : is_bare_text lines ≡ is_bare_text others = ap not (has_begin lines others same) in
    subst (λ b. IsAlike (scan_of (is_bare_text lines) (length (physical_lines text)) no_components lines)
    (scan_of b (length (physical_lines other)) no_components others)) bare
    (scanned-alike (is_bare_text lines) (length (physical_lines text)) (length (physical_lines other)) lines others same no_components h)

-- ---- the passes

in_turn-alike : {X : Type 0} (step : X → UsedLine → Result X Refusal)
    → ((x : X) (u v : UsedLine) → u.name ≡ v.name → u.value ≡ v.value → Gives (step x u) (step x v)) → (us vs : List UsedLine) → AreAlike us vs → (x : X)
    → Gives (in_turn step x us) (in_turn step x vs)
in_turn-alike step same [] [] alike x = gives-same (Ok x)
in_turn-alike step same [] (v ∷ vs) alike x = absurd alike
in_turn-alike step same (u ∷ us) [] alike x = absurd alike
in_turn-alike step same (u ∷ us) (v ∷ vs) alike x = gives-then (step x u) (step x v) _ _ (same x u v alike.0 alike.1) (in_turn-alike step same us vs alike.2)

abbrev judged : FirstPass → UsedLine → Result FirstPass Refusal
judged p line = judged_line rrule_language line.number line.name p line.value

judged-alike : (p : FirstPass) (u v : UsedLine) → u.name ≡ v.name → u.value ≡ v.value → Gives (judged p u) (judged p v)
judged-alike p u v name value =
    subst (λ (l : LineName). Gives (judged p u) (judged_line rrule_language v.number l p v.value)) name
    (subst (λ (t : List ℕ). Gives (judged p u) (judged_line rrule_language v.number u.name p t)) value (judged_line-gives u.number v.number u.name p u.value))

module _ (offset : Option ℤ) where
  abbrev with_used : Stamp → Beside Rule → UsedLine → Result (Beside Rule) Refusal
  with_used start b line = with_line rrule_language (rule_beside offset start) offset start line.number line.name b line.value

  with_used-alike : (start : Stamp) (b : Beside Rule) (u v : UsedLine) → u.name ≡ v.name → u.value ≡ v.value → Gives (with_used start b u) (with_used start b v)
  with_used-alike start b u v name value =
      subst (λ (l : LineName). Gives (with_used start b u) (with_line rrule_language (rule_beside offset start) offset start v.number l b v.value)) name
      (subst (λ (t : List ℕ). Gives (with_used start b u) (with_line rrule_language (rule_beside offset start) offset start v.number u.name b t)) value
      (with_line-gives u.number v.number offset start u.name b u.value))

  stopped-gives : {A : Type 0} (stop other : Option Refusal) (x : A) → other ≡ None → Gives (unless_stopped stop x) (unless_stopped other x)
  stopped-gives None None x e = gives-same _
  stopped-gives None (Some refusal) x e = absurd (cc)
  stopped-gives (Some refusal) other x e = gives-err _ _

  passes-give : (scan other : Scan) → IsAlike scan other → Gives (passes rrule_language (rule_beside offset) offset scan)
      (passes rrule_language (rule_beside offset) offset other)
  passes-give scan other alike =
      gives-then _ _ _ _ (in_turn-alike judged judged-alike scan.used other.used alike.used nothing_read) (λ read.
      gives-then _ _ _ _ (stopped-gives scan.stop other.stop read alike.stop) (λ pass.
      gives-then _ _ _ _ (gives-same (ok_or pass.start NoStart)) (λ start.
      gives-then _ _ _ _ (in_turn-alike (with_used start) (with_used-alike start) scan.used other.used alike.used nothing_beside) (λ beside. gives-same _))))

  not_stopped : (scan : Scan) (series : Series) → calendar_scan offset scan ≡ Ok series → scan.stop ≡ None
  not_stopped scan series h =
      let event = and_then_ok (passes rrule_language (rule_beside offset) offset scan) (λ (e : Event Rule). Ok (series_of_event e)) series h in
      let read = and_then_ok (first_pass rrule_language nothing_read scan.used) _ event.0 event.1 in
      let pass = and_then_ok (unless_stopped scan.stop read.0) _ event.0 read.2 in
      none scan.stop read.0 pass.0 pass.1
    where
      none : (stop : Option Refusal) (x y : FirstPass) → unless_stopped stop x ≡ Ok y → stop ≡ None
      none None x y e = refl
      none (Some refusal) x y e = absurd (cc)

  scan-gives : (text other : List ℕ) (series : Series) → line_texts text ≡ line_texts other → calendar_scan offset (event_scan false text) ≡ Ok series
      → calendar_scan offset (event_scan false other) ≡ Ok series
  scan-gives text other series same h =
      let alike = event_scan-alike text other same (not_stopped (event_scan false text) series h) in
      gives-then _ _ _ _ (passes-give (event_scan false text) (event_scan false other) alike) (λ event. gives-same (Ok (series_of_event event))) series h

-- ---- the byte order mark

abbrev mark : List ℕ
mark = 239 ∷ 187 ∷ 191 ∷ []

no_mark : (text : List ℕ) → HasNoMark text → bytes_eq (take 3 text) mark ≡ false
no_mark text h = by (bytes_eq (take 3 text) mark) h
  where
    by : (b : Bool) → (if b then Some (drop 3 text) else None) ≡ None → b ≡ false
    by true e = absurd (cc)
    by false e = refl

no_mark-folded : (front after : List ℕ) (b : ℕ) → bytes_eq (take 3 (front ++ b ∷ after)) mark ≡ false
    → bytes_eq (take 3 (front ++ b ∷ 13 ∷ 10 ∷ 32 ∷ after)) mark ≡ false
no_mark-folded [] after b h = by (b == 239)
  where
    by : (c : Bool) → (c && false) ≡ false
    by true = refl
    by false = refl
no_mark-folded (c ∷ []) after b h = by (c == 239) (b == 187)
  where
    by : (d e : Bool) → (d && (e && false)) ≡ false
    by true true = refl
    by true false = refl
    by false e = refl
no_mark-folded (c ∷ d ∷ []) after b h = h
no_mark-folded (c ∷ d ∷ e ∷ cs) after b h = h

unmarked : (text : List ℕ) → bytes_eq (take 3 text) mark ≡ false → without_mark text ≡ text
unmarked text h = rw h refl

pub folding_does_not_matter : FoldingDoesNotMatter
unfolding calendar_text
folding_does_not_matter offset front after b series no_feed no_return none h =
    let text = front ++ b ∷ after in
    let folded = front ++ b ∷ 13 ∷ 10 ∷ 32 ∷ after in
    let plain = no_mark text none in
    let read : calendar_scan offset (event_scan false text) ≡ Ok series = ap (λ (t : List ℕ). calendar_scan offset (event_scan false t))
    (sym (unmarked text plain)) ∙ h in
    ap (λ (t : List ℕ). calendar_scan offset (event_scan false t)) (unmarked folded (no_mark-folded front after b plain))
    ∙ scan-gives offset text folded series (sym (folded_alike front after b no_feed no_return)) read
