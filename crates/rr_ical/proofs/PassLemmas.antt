-- What the first pass keeps: a start of the years 1 to 9999, few rules and few dates. The second pass adds no more.
use Rattle.std.proofs.Common.{◌≡◌, ℕ, ◌+◌, ◌<◌, ◌≤◌, ◌&&◌, ◌++◌, nat_le, Bool, true, false, if◌then◌else◌, List, [], ◌∷◌, length, Result, Ok, Err, Option, Some}
use Rattle.std.proofs.Common.{refl, sym, ap, ◌∙◌, arith, subst, ℤ}
use Rattle.std.specs.Prelude.{int_lt, ok_or}
use Rattle.std.specs.List.{slice_split}
use Rattle.std.specs.Option.{is_some, IfSome}
use Rattle.std.proofs.lemmas.Bool.Decides.{nat_tests}
use Rattle.std.proofs.lemmas.List.{length-append}
use Rattle.rr_model.specs.Rising.{with_value}
use Rattle.rr_model.specs.Text.Moments.{basic}
use Rattle.rr_model.specs.Text.Passes.{Stated, Language, has_slash, date_value, judged_date, judged_dates, judged_line, judged_rule, first_pass, Beside, put_date, put_rule, with_rule}
use Rattle.rr_model.specs.Text.Passes.{date_beside, with_date, with_line, second_pass}
use Rattle.rr_model.specs.Text.RuleValues.{◌>>=◌}
use Rattle.rr_model.specs.Text.Steps.{in_turn}
use Rattle.rr_model.specs.declared.pass.FirstPass.{FirstPass}
use Rattle.rr_model.specs.declared.refusal.Refusal.{Refusal}
use Rattle.rr_model.specs.declared.refusal.Refusal.TheVariants.{BadMoment, PartTwice, PeriodValue, TooManyParts}
use Rattle.rr_model.specs.declared.stamp.Stamp.{Stamp}
use Rattle.rr_model.specs.declared.used.LineName.{LineName}
use Rattle.rr_model.specs.declared.used.LineName.TheVariants.{Dtstart, Rrule, Rdate, Exdate, Exrule}
use Rattle.rr_model.specs.declared.used.UsedLine.{UsedLine}
use Rattle.rr_text.proofs.InYearsLemmas.{basic-stamp}
use Rattle.rr_text.proofs.StepLemmas.{and_then_ok, ok_or_ok, not_refused}
use Rattle.rr_text.specs.Stamps.{IsStamp}

-- the sum of the sizes
pub total : {Y : Type 0} → (Y → ℕ) → List Y → ℕ
total more [] = 0
total more (y ∷ ys) = more y + total more ys

module _ {X Y : Type 0} (step : X → Y → Result X Refusal) where
  -- what each step keeps is kept
  pub in_turn-keeps : (P : X → Type 0) → ((x : X) (y : Y) (z : X) → P x → step x y ≡ Ok z → P z) → (x : X) (ys : List Y) (z : X) → P x
      → in_turn step x ys ≡ Ok z → P z
  in_turn-keeps P keeps x [] z p h =
      let same : x ≡ z = cc in
      subst P same p
  in_turn-keeps P keeps x (y ∷ ys) z p h =
      let one = and_then_ok (step x y) (λ next. in_turn step next ys) z h in
      in_turn-keeps P keeps one.0 ys z (keeps x y one.0 p one.1) one.2

  -- what each step adds to a size, all of them add
  in_turn-counts : (size : X → ℕ) (more : Y → ℕ) → ((x : X) (y : Y) (z : X) → step x y ≡ Ok z → size z ≡ size x + more y) → (x : X) (ys : List Y) (z : X)
      → in_turn step x ys ≡ Ok z → size z ≡ size x + total more ys
  unfolding total
  in_turn-counts size more adds x [] z h =
      let same : x ≡ z = cc in
      omega (arith, ap size same)
  in_turn-counts size more adds x (y ∷ ys) z h =
      let one = and_then_ok (step x y) (λ next. in_turn step next ys) z h in
      omega (arith, in_turn-counts size more adds one.0 ys z one.2, adds x y one.0 one.1)

  -- the same if a step may add less
  in_turn-bounded : (size : X → ℕ) (more : Y → ℕ) → ((x : X) (y : Y) (z : X) → step x y ≡ Ok z → size z ≤ size x + more y) → (x : X) (ys : List Y) (z : X)
      → in_turn step x ys ≡ Ok z → size z ≤ size x + total more ys
  unfolding total
  in_turn-bounded size more adds x [] z h =
      let same : x ≡ z = cc in
      omega (arith, ap size same)
  in_turn-bounded size more adds x (y ∷ ys) z h =
      let one = and_then_ok (step x y) (λ next. in_turn step next ys) z h in
      omega (arith, in_turn-bounded size more adds one.0 ys z one.2, adds x y one.0 one.1)

-- first some things, then others
pub in_turn-append : {X Y : Type 0} (step : X → Y → Result X Refusal) (x : X) (ys zs : List Y)
    → in_turn step x (ys ++ zs) ≡ (in_turn step x ys >>= λ next. in_turn step next zs)
in_turn-append step x [] zs = refl
in_turn-append step x (y ∷ ys) zs = by (step x y) (λ next. in_turn-append step next ys zs)
  where
    by : (r : Result _ Refusal) → ((next : _) → in_turn step next (ys ++ zs) ≡ (in_turn step next ys >>= λ n. in_turn step n zs))
        → (r >>= λ next. in_turn step next (ys ++ zs)) ≡ ((r >>= λ next. in_turn step next ys) >>= λ n. in_turn step n zs)
    by (Ok next) later = later next
    by (Err refusal) later = refl

-- ---- the first pass

-- a date value is counted, and nothing else changes
date-counts : (line : ℕ) (is_plus : Bool) (pass : FirstPass) (text : List ℕ) (next : FirstPass) → judged_date line is_plus pass text ≡ Ok next
    → (next ≡ record pass { date_count = pass.date_count + 1 }) × (pass.date_count < 10_000)
date-counts line is_plus pass text next h =
    let room = not_refused (nat_le 10_000 pass.date_count) TooManyParts _ next h in
    let whole = not_refused (is_plus && has_slash text) PeriodValue _ next room.1 in
    let value = and_then_ok (date_value line text) (λ (stamp : Stamp). Ok (record pass { date_count = pass.date_count + 1 })) next whole.1 in
    let same : record pass { date_count = pass.date_count + 1 } ≡ next = cc in
    (sym same, grind (arith, nat_tests, room.0))

-- its start is a date or a moment of the years 1 to 9999, and it has few rules and few dates
pub record IsSoundPass (pass : FirstPass) : Type 0 where
  pub start : IfSome pass.start IsStamp
  pub few_rules : pass.rule_count ≤ 16
  pub few_dates : pass.date_count ≤ 10_000

date-sound : (line : ℕ) (is_plus : Bool) (pass : FirstPass) (text : List ℕ) (next : FirstPass) → IsSoundPass pass
    → judged_date line is_plus pass text ≡ Ok next → IsSoundPass next
date-sound line is_plus pass text next sound h =
    let counts = date-counts line is_plus pass text next h in
    subst IsSoundPass (sym counts.0) (record { start = sound.start; few_rules = sound.few_rules; few_dates = omega (arith, counts.1) })

rule-sound : {R : Type 0} (language : Language R) (line : ℕ) (pass : FirstPass) (text : List ℕ) (next : FirstPass) → IsSoundPass pass
    → judged_rule language line pass text ≡ Ok next → IsSoundPass next
rule-sound language line pass text next sound h =
    let room = not_refused (nat_le 16 pass.rule_count) TooManyParts _ next h in
    let rule = and_then_ok (language.stated line text) (λ stated. Ok (record pass { rule_count = pass.rule_count + 1 })) next room.1 in
    let same : record pass { rule_count = pass.rule_count + 1 } ≡ next = cc in
    let below : pass.rule_count < 16 = grind (arith, nat_tests, room.0) in
    subst IsSoundPass same (record { start = sound.start; few_rules = omega (arith, below); few_dates = sound.few_dates })

line-sound : {R : Type 0} (language : Language R) (line : ℕ) (name : LineName) (pass : FirstPass) (text : List ℕ) (next : FirstPass) → IsSoundPass pass
    → judged_line language line name pass text ≡ Ok next → IsSoundPass next
line-sound language line Dtstart pass text next sound h =
    let once = not_refused (is_some pass.start) (PartTwice line) _ next h in
    let value = and_then_ok (ok_or (basic text) (BadMoment line)) (λ (stamp : Stamp). Ok (record pass { start = Some stamp })) next once.1 in
    let same : record pass { start = Some value.0 } ≡ next = cc in
    subst IsSoundPass same (record {
      start =
          basic-stamp text value.0 (ok_or_ok (basic text) _ value.0 value.1);
      few_rules = sound.few_rules;
      few_dates = sound.few_dates;
    })
line-sound language line Rrule pass text next sound h = rule-sound language line pass text next sound h
line-sound language line Rdate pass text next sound h =
    in_turn-keeps (judged_date line true) IsSoundPass (date-sound line true) pass (slice_split language.is_separator text) next sound h
line-sound language line Exdate pass text next sound h =
    in_turn-keeps (judged_date line false) IsSoundPass (date-sound line false) pass (slice_split language.is_separator text) next sound h
line-sound language line Exrule pass text next sound h = rule-sound language line pass text next sound h

pub first_pass-sound : {R : Type 0} (language : Language R) (pass : FirstPass) (lines : List UsedLine) (next : FirstPass) → IsSoundPass pass
    → first_pass language pass lines ≡ Ok next → IsSoundPass next
first_pass-sound language pass lines next =
    in_turn-keeps (λ (p : FirstPass) (line : UsedLine). judged_line language line.number line.name p line.value) IsSoundPass
    (λ p line z sound h. line-sound language line.number line.name p line.value z sound h) pass lines next

-- how many rules a line has
pub rules_on : LineName → ℕ
rules_on Rrule = 1
rules_on Exrule = 1
rules_on name = 0

-- how many date values a line has
pub dates_on : {R : Type 0} → Language R → LineName → List ℕ → ℕ
dates_on language Rdate text = total (λ (piece : List ℕ). 1) (slice_split language.is_separator text)
dates_on language Exdate text = total (λ (piece : List ℕ). 1) (slice_split language.is_separator text)
dates_on language name text = 0

-- the same of all lines
abbrev pub all_rules : List UsedLine → ℕ
all_rules lines = total (λ (line : UsedLine). rules_on line.name) lines

abbrev pub all_dates : {R : Type 0} → Language R → List UsedLine → ℕ
all_dates language lines = total (λ (line : UsedLine). dates_on language line.name line.value) lines

dates-count : (line : ℕ) (is_plus : Bool) (pass : FirstPass) (texts : List (List ℕ)) (next : FirstPass) → judged_dates line is_plus pass texts ≡ Ok next
    → next.date_count ≡ pass.date_count + total (λ (piece : List ℕ). 1) texts
dates-count line is_plus =
    in_turn-counts (judged_date line is_plus) (λ (p : FirstPass). p.date_count) (λ (piece : List ℕ). 1)
    (λ p text z h. ap (λ (q : FirstPass). q.date_count) (date-counts line is_plus p text z h).0)

dates-keep_rules : (line : ℕ) (is_plus : Bool) (n : ℕ) (pass : FirstPass) (texts : List (List ℕ)) (next : FirstPass) → pass.rule_count ≡ n
    → judged_dates line is_plus pass texts ≡ Ok next → next.rule_count ≡ n
dates-keep_rules line is_plus n =
    in_turn-keeps (judged_date line is_plus) (λ (p : FirstPass). p.rule_count ≡ n)
    (λ p text z same h. subst (λ (q : FirstPass). q.rule_count ≡ n) (sym (date-counts line is_plus p text z h).0) same)

-- a rule is counted, and no date
rule-counts : {R : Type 0} (language : Language R) (line : ℕ) (pass : FirstPass) (text : List ℕ) (next : FirstPass)
    → judged_rule language line pass text ≡ Ok next → (next.rule_count ≡ pass.rule_count + 1) × (next.date_count ≡ pass.date_count + 0)
rule-counts language line pass text next h =
    let room = not_refused (nat_le 16 pass.rule_count) TooManyParts _ next h in
    let rule = and_then_ok (language.stated line text) (λ stated. Ok (record pass { rule_count = pass.rule_count + 1 })) next room.1 in
    let same : record pass { rule_count = pass.rule_count + 1 } ≡ next = cc in
    (omega (arith, ap (λ (p : FirstPass). p.rule_count) same), omega (arith, ap (λ (p : FirstPass). p.date_count) same))

line-counts : {R : Type 0} (language : Language R) (line : ℕ) (name : LineName) (pass : FirstPass) (text : List ℕ) (next : FirstPass)
    → judged_line language line name pass text ≡ Ok next
    → (next.rule_count ≡ pass.rule_count + rules_on name) × (next.date_count ≡ pass.date_count + dates_on language name text)
unfolding rules_on dates_on
line-counts language line Dtstart pass text next h =
    let once = not_refused (is_some pass.start) (PartTwice line) _ next h in
    let value = and_then_ok (ok_or (basic text) (BadMoment line)) (λ (stamp : Stamp). Ok (record pass { start = Some stamp })) next once.1 in
    let same : record pass { start = Some value.0 } ≡ next = cc in
    (omega (arith, ap (λ (p : FirstPass). p.rule_count) same), omega (arith, ap (λ (p : FirstPass). p.date_count) same))
line-counts language line Rrule pass text next h = rule-counts language line pass text next h
line-counts language line Rdate pass text next h =
    let texts = slice_split language.is_separator text in
    (omega (arith, dates-keep_rules line true pass.rule_count pass texts next refl h), dates-count line true pass texts next h)
line-counts language line Exdate pass text next h =
    let texts = slice_split language.is_separator text in
    (omega (arith, dates-keep_rules line false pass.rule_count pass texts next refl h), dates-count line false pass texts next h)
line-counts language line Exrule pass text next h = rule-counts language line pass text next h

-- what is counted is what all lines have
pub first_pass-counts : {R : Type 0} (language : Language R) (pass : FirstPass) (lines : List UsedLine) (next : FirstPass)
    → first_pass language pass lines ≡ Ok next
    → (next.rule_count ≡ pass.rule_count + all_rules lines) × (next.date_count ≡ pass.date_count + all_dates language lines)
first_pass-counts language pass lines next h = (
  in_turn-counts judged (λ (p : FirstPass). p.rule_count) (λ (line : UsedLine). rules_on line.name)
      (λ p line z e. (line-counts language line.number line.name p line.value z e).0) pass lines next h,
  in_turn-counts judged (λ (p : FirstPass). p.date_count) (λ (line : UsedLine). dates_on language line.name line.value)
      (λ p line z e. (line-counts language line.number line.name p line.value z e).1) pass lines next h,
)
  where
    judged : FirstPass → UsedLine → Result FirstPass Refusal
    judged p line = judged_line language line.number line.name p line.value

-- ---- the second pass

pub length-with_value : {X : Type 0} (below : X → X → Bool) (xs : List X) (v : X) → length (with_value below xs v) ≤ length xs + 1
length-with_value below [] v = omega arith
length-with_value below (y ∷ ys) v = by (below y v) (below v y) (length-with_value below ys v)
  where
    by : (b c : Bool) → length (with_value below ys v) ≤ length ys + 1
        → length (if b then y ∷ with_value below ys v else (if c then v ∷ y ∷ ys else y ∷ ys)) ≤ length (y ∷ ys) + 1
    by true c h = omega (arith, h)
    by false true h = omega arith
    by false false h = omega arith

-- how many rules and excluded rules are beside the start
abbrev pub rule_count : {R : Type 0} → Beside R → ℕ
rule_count beside = length beside.rules + length beside.excluded

-- how many dates are beside the start
abbrev pub date_count : {R : Type 0} → Beside R → ℕ
date_count beside = length beside.plus + length beside.minus

put_date-bounded : {R : Type 0} (is_plus : Bool) (beside : Beside R) (at : ℤ) → date_count (put_date is_plus beside at) ≤ date_count beside + 1
put_date-bounded true beside at = omega (arith, length-with_value int_lt beside.plus at)
put_date-bounded false beside at = omega (arith, length-with_value int_lt beside.minus at)

-- a date value is put, and nothing else changes
pub date-put : {R : Type 0} (offset : Option ℤ) (start : Stamp) (line : ℕ) (is_plus : Bool) (beside : Beside R) (text : List ℕ) (next : Beside R)
    → with_date offset start line is_plus beside text ≡ Ok next
    → (stamp : Stamp) × (date_value line text ≡ Ok stamp) × (at : ℤ) × (date_beside offset start line stamp ≡ Ok at) × (put_date is_plus beside at ≡ next)
date-put offset start line is_plus beside text next h =
    let value = and_then_ok (date_value line text) (λ (stamp : Stamp). date_beside offset start line stamp >>= λ at. Ok (put_date is_plus beside at)) next h in
    let moment = and_then_ok (date_beside offset start line value.0) (λ (at : ℤ). Ok (put_date is_plus beside at)) next value.2 in
    let same : put_date is_plus beside moment.0 ≡ next = cc in
    (value.0, value.1, moment.0, moment.1, same)

with_date-bounded : {R : Type 0} (offset : Option ℤ) (start : Stamp) (line : ℕ) (is_plus : Bool) (beside : Beside R) (text : List ℕ) (next : Beside R)
    → with_date offset start line is_plus beside text ≡ Ok next → date_count next ≤ date_count beside + 1
with_date-bounded offset start line is_plus beside text next h =
    let put = date-put offset start line is_plus beside text next h in
    subst (λ b. date_count b ≤ date_count beside + 1) put.4 (put_date-bounded is_plus beside put.2)

put_date-keeps_rules : {R : Type 0} (is_plus : Bool) (beside : Beside R) (at : ℤ) → rule_count (put_date is_plus beside at) ≡ rule_count beside
put_date-keeps_rules true beside at = refl
put_date-keeps_rules false beside at = refl

with_date-keeps_rules : {R : Type 0} (offset : Option ℤ) (start : Stamp) (line : ℕ) (is_plus : Bool) (n : ℕ) (beside : Beside R) (text : List ℕ)
    (next : Beside R) → rule_count beside ≡ n
    → with_date offset start line is_plus beside text ≡ Ok next → rule_count next ≡ n
with_date-keeps_rules {R = R} offset start line is_plus n beside text next same h =
    let put = date-put offset start line is_plus beside text next h in
    subst (λ (b : Beside R). rule_count b ≡ n) put.4 (put_date-keeps_rules is_plus beside put.2 ∙ same)

-- the rule of a line is put at the end of its list, and nothing else changes
pub rule-put : {R : Type 0} (language : Language R) (rule_beside : ℕ → Stated R → Result R Refusal) (line : ℕ) (is_given : Bool)
    (beside : Beside R) (text : List ℕ) (next : Beside R) → with_rule language rule_beside line is_given beside text ≡ Ok next
    → (stated : Stated R) × (language.stated line text ≡ Ok stated) × (rule : R) × (rule_beside line stated ≡ Ok rule)
    × (put_rule is_given beside rule ≡ next)
rule-put language rule_beside line is_given beside text next h =
    let stated = and_then_ok (language.stated line text) (λ s. rule_beside line s >>= λ rule. Ok (put_rule is_given beside rule)) next h in
    let rule = and_then_ok (rule_beside line stated.0) (λ r. Ok (put_rule is_given beside r)) next stated.2 in
    let same : put_rule is_given beside rule.0 ≡ next = cc in
    (stated.0, stated.1, rule.0, rule.1, same)

put_rule-counted : {R : Type 0} (is_given : Bool) (beside : Beside R) (rule : R)
    → (rule_count (put_rule is_given beside rule) ≡ rule_count beside + 1) × (date_count (put_rule is_given beside rule) ≡ date_count beside)
put_rule-counted true beside rule = (omega (arith, length-append beside.rules (rule ∷ [])), refl)
put_rule-counted false beside rule = (omega (arith, length-append beside.excluded (rule ∷ [])), refl)

module _ {R : Type 0} (language : Language R) (rule_beside : ℕ → Stated R → Result R Refusal) (offset : Option ℤ) (start : Stamp) where
  abbrev IsBounded : Beside R → ℕ → ℕ → Beside R → Type 0
  IsBounded beside rules dates next = (rule_count next ≤ rule_count beside + rules) × (date_count next ≤ date_count beside + dates)

  dates-bounded : (line : ℕ) (is_plus : Bool) (beside : Beside R) (texts : List (List ℕ)) (next : Beside R)
      → in_turn (with_date offset start line is_plus) beside texts ≡ Ok next
      → IsBounded beside 0 (total (λ (piece : List ℕ). 1) texts) next
  dates-bounded line is_plus beside texts next h = (
    omega (
      arith,
      in_turn-keeps (with_date offset start line is_plus) (λ (b : Beside R). rule_count b ≡ rule_count beside)
          (λ b t z same e. with_date-keeps_rules offset start line is_plus (rule_count beside) b t z same e) beside texts next refl h,
    ),
    in_turn-bounded (with_date offset start line is_plus) (λ b. date_count b) (λ (piece : List ℕ). 1)
        (λ b t z e. with_date-bounded offset start line is_plus b t z e) beside texts next h,
  )

  rule-bounded : (line : ℕ) (is_given : Bool) (beside : Beside R) (text : List ℕ) (next : Beside R)
      → with_rule language rule_beside line is_given beside text ≡ Ok next → IsBounded beside 1 0 next
  rule-bounded line is_given beside text next h =
      let put = rule-put language rule_beside line is_given beside text next h in
      let counted = put_rule-counted is_given beside put.2 in
      subst (IsBounded beside 1 0) put.4 (omega (arith, counted.0), omega (arith, counted.1))

  line-bounded : (line : ℕ) (name : LineName) (beside : Beside R) (text : List ℕ) (next : Beside R)
      → with_line language rule_beside offset start line name beside text ≡ Ok next
      → IsBounded beside (rules_on name) (dates_on language name text) next
  unfolding rules_on dates_on
  line-bounded line Dtstart beside text next h =
      let same : beside ≡ next = cc in
      subst (IsBounded beside 0 0) same (omega arith, omega arith)
  line-bounded line Rrule beside text next h = rule-bounded line true beside text next h
  line-bounded line Rdate beside text next h = dates-bounded line true beside (slice_split language.is_separator text) next h
  line-bounded line Exdate beside text next h = dates-bounded line false beside (slice_split language.is_separator text) next h
  line-bounded line Exrule beside text next h = rule-bounded line false beside text next h

  -- beside the start are no more rules and dates than the lines have
  pub second_pass-bounded : (beside : Beside R) (lines : List UsedLine) (next : Beside R) → second_pass language rule_beside offset start beside lines ≡ Ok next
      → IsBounded beside (all_rules lines) (all_dates language lines) next
  second_pass-bounded beside lines next h = (
    in_turn-bounded with_used (λ (b : Beside R). rule_count b) (λ (line : UsedLine). rules_on line.name)
        (λ b line z e. (line-bounded line.number line.name b line.value z e).0) beside lines next h,
    in_turn-bounded with_used (λ b. date_count b) (λ (line : UsedLine). dates_on language line.name line.value)
        (λ b line z e. (line-bounded line.number line.name b line.value z e).1) beside lines next h,
  )
    where
      with_used : Beside R → UsedLine → Result (Beside R) Refusal
      with_used b line = with_line language rule_beside offset start line.number line.name b line.value
