-- Each value is read once: what is kept of the lines and then put beside the start is what both passes read.
use Rattle.std.proofs.Common.{◌≡◌, ℕ, ◌+◌, ◌++◌, ◌&&◌, nat_le, Bool, true, false, if◌then◌else◌, List, [], ◌∷◌, Result, Ok, Err, Option, None, Some}
use Rattle.std.proofs.Common.{refl, sym, ap, ◌∙◌, subst, arith, ℤ}
use Rattle.std.specs.Prelude.{ok_or}
use Rattle.std.specs.List.{slice_split}
use Rattle.std.specs.Option.{IfSome}
use Rattle.rr_model.specs.Answers.{Answers}
use Rattle.rr_model.specs.Moment.Years.{IsInYears}
use Rattle.rr_model.specs.Text.Passes.{Beside, Event, Language, Stated, date_beside, date_value, first_pass, has_slash, judged_date, judged_line, judged_rule, judged_start}
use Rattle.rr_model.specs.Text.Passes.{nothing_beside, nothing_read, passes, put_date, put_rule, second_pass, unless_stopped, with_date, with_line, with_rule}
use Rattle.rr_model.specs.Text.RuleValues.{◌>>=◌}
use Rattle.rr_model.specs.Text.Steps.{in_turn}
use Rattle.rr_model.specs.declared.pass.FirstPass.{FirstPass}
use Rattle.rr_model.specs.declared.refusal.Fault.{Fault}
use Rattle.rr_model.specs.declared.refusal.Fault.TheVariants.{Refused, NoMemory}
use Rattle.rr_model.specs.declared.refusal.Refusal.{Refusal}
use Rattle.rr_model.specs.declared.refusal.Refusal.TheVariants.{NoStart, PeriodValue, TooManyParts}
use Rattle.rr_model.specs.declared.stamp.Stamp.{Stamp}
use Rattle.rr_model.specs.declared.used.LineName.{LineName}
use Rattle.rr_model.specs.declared.used.LineName.TheVariants.{Dtstart, Rrule, Rdate, Exdate, Exrule}
use Rattle.rr_model.specs.declared.used.Scan.{Scan}
use Rattle.rr_model.specs.declared.used.UsedLine.{UsedLine}
use Rattle.rr_ical.specs.Steps.{Becomes}
use Rattle.rr_ical.specs.Kept.{kept_date, kept_dates, kept_event, kept_line, kept_lines, kept_rule, kept_start, next_date, next_rule}
use Rattle.rr_ical.specs.Kept.{nothing_kept, value_beside, values_beside}
use Rattle.rr_ical.specs.declared.kept.LineValue.{LineValue}
use Rattle.rr_ical.specs.declared.kept.LineValue.TheVariants.{OneDate, OneRule}
use Rattle.rr_ical.specs.declared.kept.ReadLines.{ReadLines}
use Rattle.rr_ical.proofs.PassLemmas.{first_pass-sound, in_turn-append}
use Rattle.rr_text.proofs.StepLemmas.{and_then_ok, not_refused, step_same}
use Rattle.rr_text.specs.Stamps.{IsStamp}

-- ---- steps

pub step_done : {A : Type 0} (m : Result A Refusal) → m ≡ (m >>= λ x. Ok x)
step_done (Ok x) = refl
step_done (Err r) = refl

step_again : {A B C : Type 0} (m : Result A Refusal) (f : A → Result B Refusal) (g : B → Result C Refusal)
    → ((m >>= f) >>= g) ≡ (m >>= λ x. f x >>= g)
step_again (Ok x) f g = refl
step_again (Err r) f g = refl

-- steps of which a part is seen
in_turn-seen : {X Y Z : Type 0} (part : X → Z) (f : X → Y → Result X Refusal) (g : Z → Y → Result Z Refusal)
    → ((x : X) (y : Y) → (f x y >>= λ next. Ok (part next)) ≡ g (part x) y) → (x : X) (ys : List Y)
    → (in_turn f x ys >>= λ next. Ok (part next)) ≡ in_turn g (part x) ys
in_turn-seen part f g same x [] = refl
in_turn-seen {X} {Y} {Z} part f g same x (y ∷ ys) =
    by (f x y) (λ next. in_turn-seen part f g same next ys) ∙ ap (λ (m : Result Z Refusal). m >>= λ z. in_turn g z ys) (same x y)
  where
    by : (r : Result X Refusal) → ((next : X) → (in_turn f next ys >>= λ n. Ok (part n)) ≡ in_turn g (part next) ys)
        → ((r >>= λ next. in_turn f next ys) >>= λ n. Ok (part n)) ≡ ((r >>= λ next. Ok (part next)) >>= λ z. in_turn g z ys)
    by (Ok next) later = later next
    by (Err refusal) later = refl

-- steps that another reading follows
in_turn-followed : {X Y Z : Type 0} (f : X → Y → Result X Refusal) (g : Z → Y → Result Z Refusal) (read : X → Result Z Refusal)
    → ((x : X) (y : Y) (next : X) → f x y ≡ Ok next → read next ≡ (read x >>= λ z. g z y)) → (x : X) (ys : List Y) (last : X)
    → in_turn f x ys ≡ Ok last → read last ≡ (read x >>= λ z. in_turn g z ys)
in_turn-followed f g read step x [] last h =
    let same : x ≡ last = cc in
    ap read (sym same) ∙ step_done (read x)
in_turn-followed {X} {Y} {Z} f g read step x (y ∷ ys) last h =
    let one = and_then_ok (f x y) (λ next. in_turn f next ys) last h in
    in_turn-followed f g read step one.0 ys last one.2
    ∙ ap (λ (m : Result Z Refusal). m >>= λ z. in_turn g z ys) (step x y one.0 one.1)
    ∙ step_again (read x) (λ z. g z y) (λ z. in_turn g z ys)

pub refused_becomes : {A : Type 0} (wanted : Result A Refusal) (new : A) (fault : Fault) → Answers wanted (Err fault) → Becomes wanted new (Err fault)
refused_becomes wanted new (Refused refusal) h = h
refused_becomes wanted new NoMemory h = tt

pub refused_answers : {A : Type 0} (wanted : Result A Refusal) (new : A) (fault : Fault) → Becomes wanted new (Err fault) → Answers wanted (Err fault)
refused_answers wanted new (Refused refusal) h = h
refused_answers wanted new NoMemory h = tt

-- ---- what the first pass reads

pub date-next : (line : ℕ) (is_plus : Bool) (pass : FirstPass) (text : List ℕ)
    → judged_date line is_plus pass text
    ≡ (next_date line is_plus pass.date_count text >>= λ stamp. Ok (record pass { date_count = pass.date_count + 1 }))
date-next line is_plus pass text = by (nat_le 10_000 pass.date_count) (is_plus && has_slash text)
  where
    by : (full period : Bool)
        → (if full then Err TooManyParts
        else (if period then Err PeriodValue else (date_value line text >>= λ stamp. Ok (record pass { date_count = pass.date_count + 1 }))))
        ≡ ((if full then Err TooManyParts else (if period then Err PeriodValue else date_value line text))
        >>= λ stamp. Ok (record pass { date_count = pass.date_count + 1 }))
    by true period = refl
    by false true = refl
    by false false = refl

module _ {R : Type 0} (language : Language R) where
  rule-next : (line : ℕ) (pass : FirstPass) (text : List ℕ)
      → judged_rule language line pass text
      ≡ (next_rule language line pass.rule_count text >>= λ stated. Ok (record pass { rule_count = pass.rule_count + 1 }))
  rule-next line pass text = by (nat_le 16 pass.rule_count)
    where
      by : (full : Bool)
          → (if full then Err TooManyParts else (language.stated line text >>= λ stated. Ok (record pass { rule_count = pass.rule_count + 1 })))
          ≡ ((if full then Err TooManyParts else language.stated line text) >>= λ stated. Ok (record pass { rule_count = pass.rule_count + 1 }))
      by true = refl
      by false = refl

  -- the pass that is seen of what is read
  abbrev seen : Result (ReadLines R) Refusal → Result FirstPass Refusal
  seen m = m >>= λ (read : ReadLines R). Ok read.pass

  date-seen : (line : ℕ) (is_plus : Bool) (read : ReadLines R) (text : List ℕ)
      → seen (kept_date line is_plus read text) ≡ judged_date line is_plus read.pass text
  date-seen line is_plus read text =
      step_again (next_date line is_plus read.pass.date_count text) _ _ ∙ sym (date-next line is_plus read.pass text)

  rule-seen : (line : ℕ) (is_given : Bool) (read : ReadLines R) (text : List ℕ)
      → seen (kept_rule language line is_given read text) ≡ judged_rule language line read.pass text
  rule-seen line is_given read text = step_again (next_rule language line read.pass.rule_count text) _ _ ∙ sym (rule-next line read.pass text)

  dates-seen : (line : ℕ) (is_plus : Bool) (read : ReadLines R) (texts : List (List ℕ))
      → seen (kept_dates line is_plus read texts) ≡ in_turn (judged_date line is_plus) read.pass texts
  dates-seen line is_plus =
      in_turn-seen (λ (read : ReadLines R). read.pass) (kept_date line is_plus) (judged_date line is_plus) (date-seen line is_plus)

  line-seen : (line : ℕ) (name : LineName) (read : ReadLines R) (text : List ℕ)
      → seen (kept_line language line name read text) ≡ judged_line language line name read.pass text
  line-seen line Dtstart read text = step_again (judged_start line read.pass text) _ _ ∙ sym (step_done (judged_start line read.pass text))
  line-seen line Rrule read text = rule-seen line true read text
  line-seen line Rdate read text = dates-seen line true read (slice_split language.is_separator text)
  line-seen line Exdate read text = dates-seen line false read (slice_split language.is_separator text)
  line-seen line Exrule read text = rule-seen line false read text

  -- the pass is that of the first pass
  pub lines-seen : (read : ReadLines R) (lines : List UsedLine) → seen (kept_lines language read lines) ≡ first_pass language read.pass lines
  lines-seen =
      in_turn-seen (λ (read : ReadLines R). read.pass) (λ r (line : UsedLine). kept_line language line.number line.name r line.value)
      (λ p (line : UsedLine). judged_line language line.number line.name p line.value)
      (λ r line. line-seen line.number line.name r line.value)

  -- ---- what is kept

  kept_date-ok : (line : ℕ) (is_plus : Bool) (read : ReadLines R) (text : List ℕ) (next : ReadLines R) → kept_date line is_plus read text ≡ Ok next
      → (stamp : Stamp) × (date_value line text ≡ Ok stamp) × (read.values ++ OneDate line is_plus stamp ∷ [] ≡ next.values)
  kept_date-ok line is_plus read text next h =
      let value = and_then_ok (next_date line is_plus read.pass.date_count text) _ next h in
      let room = not_refused (nat_le 10_000 read.pass.date_count) TooManyParts _ value.0 value.1 in
      let whole = not_refused (is_plus && has_slash text) PeriodValue _ value.0 room.1 in
      let same : record { pass = record read.pass { date_count = read.pass.date_count + 1 }; values = read.values ++ OneDate line is_plus value.0 ∷ [] } ≡ next = cc in
      (value.0, whole.1, ap (λ (r : ReadLines R). r.values) same)

  kept_rule-ok : (line : ℕ) (is_given : Bool) (read : ReadLines R) (text : List ℕ) (next : ReadLines R) → kept_rule language line is_given read text ≡ Ok next
      → (stated : Stated R) × (language.stated line text ≡ Ok stated) × (read.values ++ OneRule line is_given stated ∷ [] ≡ next.values)
  kept_rule-ok line is_given read text next h =
      let value = and_then_ok (next_rule language line read.pass.rule_count text) _ next h in
      let room = not_refused (nat_le 16 read.pass.rule_count) TooManyParts _ value.0 value.1 in
      let same : record { pass = record read.pass { rule_count = read.pass.rule_count + 1 }; values = read.values ++ OneRule line is_given value.0 ∷ [] } ≡ next = cc in
      (value.0, room.1, ap (λ (r : ReadLines R). r.values) same)

  kept_start-ok : (line : ℕ) (read : ReadLines R) (text : List ℕ) (next : ReadLines R) → kept_start line read text ≡ Ok next → read.values ≡ next.values
  kept_start-ok line read text next h =
      let pass = and_then_ok (judged_start line read.pass text) _ next h in
      let same : record read { pass = pass.0 } ≡ next = cc in
      ap (λ (r : ReadLines R). r.values) same

  -- the start lies in the years 1 to 9999
  pub start-in_years : (lines : List UsedLine) (read : ReadLines R) (start : Stamp) → kept_lines language nothing_kept lines ≡ Ok read
      → read.pass.start ≡ Some start → IsInYears start.kind start.at
  start-in_years lines read start h is =
      let first : first_pass language nothing_read lines ≡ Ok read.pass = sym (lines-seen nothing_kept lines) ∙ ap seen h in
      let sound =
      first_pass-sound language nothing_read lines read.pass (record { start = tt; few_rules = omega arith; few_dates = omega arith }) first in
      (subst (λ (s : Option Stamp). IfSome s IsStamp) is sound.start).0

  -- ---- what the second pass reads

  module _ (rule_beside : Stamp → ℕ → Stated R → Result R Refusal) where
    module _ (offset : Option ℤ) (start : Stamp) where
      -- what the values that are read are beside the start
      abbrev beside_of : ReadLines R → Result (Beside R) Refusal
      beside_of read = values_beside (rule_beside start) offset start nothing_beside read.values

      -- with one value more
      beside-more : (values next : List (LineValue R)) (value : LineValue R) → values ++ value ∷ [] ≡ next
          → values_beside (rule_beside start) offset start nothing_beside next
          ≡ (values_beside (rule_beside start) offset start nothing_beside values >>= λ b. value_beside (rule_beside start) offset start b value)
      beside-more values next value same =
          ap (values_beside (rule_beside start) offset start nothing_beside) (sym same)
          ∙ in_turn-append (value_beside (rule_beside start) offset start) nothing_beside values (value ∷ [])
          ∙ step_same (values_beside (rule_beside start) offset start nothing_beside values) _ _
          (λ b. sym (step_done (value_beside (rule_beside start) offset start b value)))

      date-followed : (line : ℕ) (is_plus : Bool) (read : ReadLines R) (text : List ℕ) (next : ReadLines R) → kept_date line is_plus read text ≡ Ok next
          → beside_of next ≡ (beside_of read >>= λ b. with_date offset start line is_plus b text)
      date-followed line is_plus read text next h =
          let kept = kept_date-ok line is_plus read text next h in
          beside-more read.values next.values (OneDate line is_plus kept.0) kept.2
          ∙ step_same (beside_of read) _ _
          (λ (b : Beside R). ap (λ (m : Result Stamp Refusal). m >>= λ s. date_beside offset start line s >>= λ at. Ok (put_date is_plus b at))
          (sym kept.1))

      rule-followed : (line : ℕ) (is_given : Bool) (read : ReadLines R) (text : List ℕ) (next : ReadLines R)
          → kept_rule language line is_given read text ≡ Ok next
          → beside_of next ≡ (beside_of read >>= λ b. with_rule language (rule_beside start) line is_given b text)
      rule-followed line is_given read text next h =
          let kept = kept_rule-ok line is_given read text next h in
          beside-more read.values next.values (OneRule line is_given kept.0) kept.2
          ∙ step_same (beside_of read) _ _
          (λ (b : Beside R). ap (λ (m : Result (Stated R) Refusal). m >>= λ s. rule_beside start line s >>= λ rule. Ok (put_rule is_given b rule))
          (sym kept.1))

      line-followed : (line : ℕ) (name : LineName) (read : ReadLines R) (text : List ℕ) (next : ReadLines R) → kept_line language line name read text ≡ Ok next
          → beside_of next ≡ (beside_of read >>= λ b. with_line language (rule_beside start) offset start line name b text)
      line-followed line Dtstart read text next h =
          ap (values_beside (rule_beside start) offset start nothing_beside) (sym (kept_start-ok line read text next h)) ∙ step_done (beside_of read)
      line-followed line Rrule read text next h = rule-followed line true read text next h
      line-followed line Rdate read text next h =
          in_turn-followed (kept_date line true) (with_date offset start line true) beside_of (date-followed line true) read
          (slice_split language.is_separator text) next h
      line-followed line Exdate read text next h =
          in_turn-followed (kept_date line false) (with_date offset start line false) beside_of (date-followed line false) read
          (slice_split language.is_separator text) next h
      line-followed line Exrule read text next h = rule-followed line false read text next h

      -- the values beside the start are what the second pass reads
      pub lines-followed : (lines : List UsedLine) (read : ReadLines R) → kept_lines language nothing_kept lines ≡ Ok read
          → values_beside (rule_beside start) offset start nothing_beside read.values
          ≡ second_pass language (rule_beside start) offset start nothing_beside lines
      lines-followed =
          in_turn-followed (λ r (line : UsedLine). kept_line language line.number line.name r line.value)
          (λ b (line : UsedLine). with_line language (rule_beside start) offset start line.number line.name b line.value) beside_of
          (λ r line next e. line-followed line.number line.name r line.value next e) nothing_kept

    abbrev event_at : Stamp → Beside R → Result (Event R) Refusal
    event_at start beside = Ok (record { start = start; beside = beside })

    module _ (offset : Option ℤ) (used : List UsedLine) where
      abbrev by_values : ReadLines R → Stamp → Result (Event R) Refusal
      by_values read start = values_beside (rule_beside start) offset start nothing_beside read.values >>= event_at start

      abbrev by_lines : Stamp → Result (Event R) Refusal
      by_lines start = second_pass language (rule_beside start) offset start nothing_beside used >>= event_at start

      started : (read : ReadLines R) → kept_lines language nothing_kept used ≡ Ok read → (start : Option Stamp)
          → (ok_or start NoStart >>= by_values read) ≡ (ok_or start NoStart >>= by_lines)
      started read h None = refl
      started read h (Some start) = ap (λ (m : Result (Beside R) Refusal). m >>= event_at start) (lines-followed offset start used read h)

      stopped : (read : ReadLines R) → kept_lines language nothing_kept used ≡ Ok read → (stop : Option Refusal)
          → (unless_stopped stop read >>= λ (r : ReadLines R). ok_or r.pass.start NoStart >>= by_values r)
          ≡ (unless_stopped stop read.pass >>= λ (p : FirstPass). ok_or p.start NoStart >>= by_lines)
      stopped read h None = started read h read.pass.start
      stopped read h (Some refusal) = refl

      read_once : (stop : Option Refusal) (m : Result (ReadLines R) Refusal) → kept_lines language nothing_kept used ≡ m
          → (m >>= λ (r : ReadLines R). unless_stopped stop r >>= λ (r : ReadLines R). ok_or r.pass.start NoStart >>= by_values r)
          ≡ (seen m >>= λ (p : FirstPass). unless_stopped stop p >>= λ (p : FirstPass). ok_or p.start NoStart >>= by_lines)
      read_once stop (Ok read) h = stopped read h stop
      read_once stop (Err refusal) h = refl

    -- the event of each value read once is the event of both passes
    pub event-kept : (offset : Option ℤ) (scan : Scan) → kept_event language rule_beside offset scan ≡ passes language rule_beside offset scan
    event-kept offset scan =
        read_once offset scan.used scan.stop (kept_lines language nothing_kept scan.used) refl
        ∙ ap (λ (m : Result FirstPass Refusal). m >>= λ (p : FirstPass). unless_stopped scan.stop p
        >>= λ (p : FirstPass). ok_or p.start NoStart >>= by_lines offset scan.used) (lines-seen nothing_kept scan.used)
