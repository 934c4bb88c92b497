-- Both passes over the lines of a written series.
use Rattle.std.proofs.Common.{◌≡◌, ℕ, ◌+◌, ◌<◌, ◌≤◌, Bool, true, false, List, [], ◌∷◌, ◌++◌, length, map, Option, None, Result, Ok, ℤ, refl, sym, ap, ◌∙◌}
use Rattle.std.proofs.Common.{append_assoc, append-nil, arith}
use Rattle.std.specs.Prelude.{nat_le, int_lt}
use Rattle.std.specs.List.{list_all, AllByRecursion, slice_split}
use Rattle.std.proofs.lemmas.Bool.Decides.{nat_tests}
use Rattle.std.proofs.lemmas.List.Splits.{slice_split_none}
use Rattle.std.proofs.lemmas.Bool.{and_parts}
use Rattle.rr_model.specs.Moment.{day_part}
use Rattle.rr_model.specs.Moment.Years.{IsInYears}
use Rattle.rr_model.specs.Rising.{Rises, with_value}
use Rattle.rr_model.specs.Rule.Validity.{EndsInYears}
use Rattle.rr_model.specs.Text.Calendars.{end_beside}
use Rattle.rr_model.specs.Text.Passes.{Beside, has_slash, date_value, judged_date, judged_dates, judged_line, judged_rule, first_pass, put_date, put_rule}
use Rattle.rr_model.specs.Text.Passes.{with_date, with_dates, with_line, with_rule, second_pass}
use Rattle.rr_model.specs.Text.RuleValues.{◌>>=◌}
use Rattle.rr_model.specs.Text.Written.{basic_text}
use Rattle.rr_model.specs.Vcal.Items.{item_lt}
use Rattle.rr_model.specs.Vcal.Reading.{filled_items, vrule_beside, is_comma_or_semicolon, vcal_language}
use Rattle.rr_model.specs.Vcal.Validity.{IsValidVRule}
use Rattle.rr_model.specs.Vcal.Written.{vrule_text}
use Rattle.rr_model.specs.declared.item.Item.{Item}
use Rattle.rr_model.specs.declared.kind.Kind.{Kind}
use Rattle.rr_model.specs.declared.limits.TheConstants.{MAX_DATES, MAX_RULES}
use Rattle.rr_model.specs.declared.pass.FirstPass.{FirstPass}
use Rattle.rr_model.specs.declared.refusal.Refusal.{Refusal}
use Rattle.rr_model.specs.declared.rule.End.{End}
use Rattle.rr_model.specs.declared.rule.End.TheVariants.{Never, Until, Count, Both}
use Rattle.rr_model.specs.declared.stamp.Stamp.{Stamp}
use Rattle.rr_model.specs.declared.used.LineName.{LineName}
use Rattle.rr_model.specs.declared.used.LineName.TheVariants.{Dtstart, Rrule, Rdate, Exdate, Exrule}
use Rattle.rr_model.specs.declared.vcal.FamilyKind.{FamilyKind}
use Rattle.rr_model.specs.declared.vcal.VRule.{VRule}
use Rattle.rr_model.proofs.RisingSetLemmas.{Rises-tail}
use Rattle.rr_text.proofs.WrittenByteLemmas.{is_word_byte, basic_text-words}
use Rattle.rr_text.proofs.WrittenLemmas.{basic-written}
use Rattle.rr_text.proofs.WrittenListLemmas.{with_value-last, IsAbove, IsAbove-next}
use Rattle.rr_text.proofs.WrittenValueLemmas.{int_lt-transitive}
use Rattle.rr_ical.proofs.BesideLemmas.{same_kind}
use Rattle.rr_vcal.proofs.RuleReadLemmas.{above_none, until_of, stated-written}
use Rattle.rr_vcal.proofs.RuleTextLemmas.{vrule_text-written, vrule_text-begins, vrule_text-ends, moment-solid}
use Rattle.rr_vcal.proofs.ByteLemmas.{none-of, no_separator, no_slash}
use Rattle.rr_vcal.proofs.WrittenLineLemmas.{WrittenLine, IsValue, value-trimmed, value-solid, used_from}

-- a date or a moment as it is written
abbrev pub stamp_of : Kind → ℤ → Stamp
stamp_of kind at = record { kind = kind; at = at; utc = false }

-- ---- lines of rules and of dates

abbrev pub rule_line : LineName → VRule → WrittenLine
rule_line name rule = record { name = name; value = vrule_text rule }

abbrev pub date_line : LineName → Kind → ℤ → WrittenLine
date_line name kind at = record { name = name; value = basic_text kind at }

-- a rule that is written
pub record IsWritableRule (rule : VRule) : Type 0 where
  pub valid : IsValidVRule rule
  pub rises : Rises item_lt rule.items
  pub years : EndsInYears rule.end

pub rule-value : (rule : VRule) → IsWritableRule rule → IsValue (vrule_text rule)
rule-value rule h = record {
  written = vrule_text-written rule h.valid h.years;
  begins = vrule_text-begins rule;
  ends = vrule_text-ends rule h.valid h.years;
}

pub date-value : (kind : Kind) (at : ℤ) → IsInYears kind at → IsValue (basic_text kind at)
date-value kind at h = value-solid (basic_text kind at) (moment-solid kind at h)

-- the one value of a line of dates
date-split : (kind : Kind) (at : ℤ) → IsInYears kind at → slice_split is_comma_or_semicolon (basic_text kind at) ≡ basic_text kind at ∷ []
date-split kind at h =
    slice_split_none is_comma_or_semicolon (basic_text kind at)
    (none-of is_word_byte is_comma_or_semicolon no_separator (basic_text kind at) (basic_text-words kind at h))

no_slashes : (text : List ℕ) → list_all is_word_byte text ≡ true → has_slash text ≡ false
no_slashes [] h = refl
no_slashes (b ∷ bs) h =
    let parts = and_parts (is_word_byte b) (list_all is_word_byte bs) h in
    rw (no_slash b parts.0) (no_slashes bs parts.1)

date_value-written : (line : ℕ) (kind : Kind) (at : ℤ) → IsInYears kind at → date_value line (basic_text kind at) ≡ Ok (stamp_of kind at)
date_value-written line kind at h = rw (value-trimmed (basic_text kind at) (date-value kind at h), basic-written kind at h) refl

-- ---- the first pass

rule-judged : (k : ℕ) (pass : FirstPass) (rule : VRule) → IsWritableRule rule → pass.rule_count < MAX_RULES
    → judged_rule vcal_language k pass (vrule_text rule) ≡ Ok (record pass { rule_count = pass.rule_count + 1 })
rule-judged k pass rule h room =
    let few : nat_le MAX_RULES pass.rule_count ≡ false = grind (arith, nat_tests, room) in
    rw (few, stated-written k rule h.valid h.rises h.years) refl

date-judged : (k : ℕ) (is_plus : Bool) (pass : FirstPass) (kind : Kind) (at : ℤ) → IsInYears kind at → pass.date_count < MAX_DATES
    → judged_date k is_plus pass (basic_text kind at) ≡ Ok (record pass { date_count = pass.date_count + 1 })
date-judged k true pass kind at h room =
    let few : nat_le MAX_DATES pass.date_count ≡ false = grind (arith, nat_tests, room) in
    rw (few, no_slashes (basic_text kind at) (basic_text-words kind at h), date_value-written k kind at h) refl
date-judged k false pass kind at h room =
    let few : nat_le MAX_DATES pass.date_count ≡ false = grind (arith, nat_tests, room) in
    rw (few, date_value-written k kind at h) refl

dates-judged : (k : ℕ) (is_plus : Bool) (pass : FirstPass) (kind : Kind) (at : ℤ) → IsInYears kind at → pass.date_count < MAX_DATES
    → judged_dates k is_plus pass (slice_split is_comma_or_semicolon (basic_text kind at)) ≡ Ok (record pass { date_count = pass.date_count + 1 })
dates-judged k is_plus pass kind at h room =
    ap (judged_dates k is_plus pass) (date-split kind at h)
    ∙ ap (λ (m : Result FirstPass Refusal). m >>= λ next. Ok next) (date-judged k is_plus pass kind at h room)

module _ (start : Option Stamp) where
  -- the lines are read, whatever their numbers, and leave this start
  abbrev pub Reads : FirstPass → List WrittenLine → Type 0
  Reads pass lines = (k : ℕ) → (p : FirstPass) × (first_pass vcal_language pass (used_from k lines) ≡ Ok p) × (p.start ≡ start)

  pub reads-next : (pass next : FirstPass) (l : WrittenLine) (ls : List WrittenLine)
      → ((k : ℕ) → judged_line vcal_language k l.name pass l.value ≡ Ok next) → Reads next ls → Reads pass (l ∷ ls)
  reads-next pass next l ls judged more k =
      let rest = more (k + 1) in
      (rest.0, ap (λ (m : Result FirstPass Refusal). m >>= λ p. first_pass vcal_language p (used_from (k + 1) ls)) (judged k) ∙ rest.1, rest.2)

  pub reads-rules : (name : LineName)
      → ((k : ℕ) (pass : FirstPass) (text : List ℕ) → judged_line vcal_language k name pass text ≡ judged_rule vcal_language k pass text)
      → (pass : FirstPass) (rules : List VRule) (ls : List WrittenLine) → AllByRecursion IsWritableRule rules
      → pass.rule_count + length rules ≤ MAX_RULES
      → ((q : FirstPass) → q.start ≡ pass.start → q.rule_count ≡ pass.rule_count + length rules → q.date_count ≡ pass.date_count → Reads q ls)
      → Reads pass (map (rule_line name) rules ++ ls)
  reads-rules name by_name pass [] ls h room more = more pass refl (omega arith) refl
  reads-rules name by_name pass (rule ∷ rules) ls h room more =
      let next : FirstPass = record pass { rule_count = pass.rule_count + 1 } in
      reads-next pass next (rule_line name rule) (map (rule_line name) rules ++ ls)
      (λ k. by_name k pass (vrule_text rule) ∙ rule-judged k pass rule h.0 (omega (arith, room)))
      (reads-rules name by_name next rules ls h.1 (omega (arith, room)) (λ q same count dates. more q same (omega (arith, count)) dates))

  pub reads-dates : (name : LineName) (is_plus : Bool) (kind : Kind)
      → ((k : ℕ) (pass : FirstPass) (text : List ℕ) → judged_line vcal_language k name pass text
      ≡ judged_dates k is_plus pass (slice_split is_comma_or_semicolon text))
      → (pass : FirstPass) (dates : List ℤ) (ls : List WrittenLine) → AllByRecursion (IsInYears kind) dates → pass.date_count + length dates ≤ MAX_DATES
      → ((q : FirstPass) → q.start ≡ pass.start → q.date_count ≡ pass.date_count + length dates → Reads q ls)
      → Reads pass (map (date_line name kind) dates ++ ls)
  reads-dates name is_plus kind by_name pass [] ls h room more = more pass refl (omega arith)
  reads-dates name is_plus kind by_name pass (at ∷ dates) ls h room more =
      let next : FirstPass = record pass { date_count = pass.date_count + 1 } in
      reads-next pass next (date_line name kind at) (map (date_line name kind) dates ++ ls)
      (λ k. by_name k pass (basic_text kind at) ∙ dates-judged k is_plus pass kind at h.0 (omega (arith, room)))
      (reads-dates name is_plus kind by_name next dates ls h.1 (omega (arith, room)) (λ q same count. more q same (omega (arith, count))))

-- ---- the second pass

end-kept : (start : Stamp) (k : ℕ) (end : End) → end_beside None start k (until_of end) end ≡ Ok end
end-kept start k Never = refl
end-kept start k (Until kind at) = refl
end-kept start k (Count m) = refl
end-kept start k (Both kind at m) = refl

filled-some : (f : FamilyKind) (day : ℤ) (items : List Item) → 1 ≤ length items → filled_items f day items ≡ items
filled-some f day [] some = absurd (omega arith)
filled-some f day (item ∷ items) some = refl

rule-kept : (start : Stamp) (k : ℕ) (rule : VRule) → IsWritableRule rule
    → vrule_beside None start k (record { rule = rule; until = until_of rule.end }) ≡ Ok rule
unfolding vrule_beside
rule-kept start k rule h = rw (end-kept start k rule.end, filled-some rule.family (day_part start.kind start.at) rule.items h.valid.some_item) refl

module _ (kind : Kind) (first : ℤ) (r : Result (Beside VRule) Refusal) where
  abbrev pub start : Stamp
  start = stamp_of kind first

  -- the lines leave this beside what is read before them, whatever their numbers
  abbrev pub Gives : Beside VRule → List WrittenLine → Type 0
  Gives beside lines = (k : ℕ) → second_pass vcal_language (vrule_beside None start) None start beside (used_from k lines) ≡ r

  pub gives-next : (beside next : Beside VRule) (l : WrittenLine) (ls : List WrittenLine)
      → ((k : ℕ) → with_line vcal_language (vrule_beside None start) None start k l.name beside l.value ≡ Ok next) → Gives next ls → Gives beside (l ∷ ls)
  gives-next beside next l ls with_it more k =
      ap (λ (m : Result (Beside VRule) Refusal). m >>= λ b. second_pass vcal_language (vrule_beside None start) None start b (used_from (k + 1) ls)) (with_it k)
      ∙ more (k + 1)

  gives-same : (beside same : Beside VRule) (ls : List WrittenLine) → beside ≡ same → Gives same ls → Gives beside ls
  gives-same beside same ls e more k =
      ap (λ (b : Beside VRule). second_pass vcal_language (vrule_beside None start) None start b (used_from k ls)) e ∙ more k

  -- ---- rules

  module _ (name : LineName) (is_given : Bool) (place : List VRule → Beside VRule)
      (by_name : (k : ℕ) (beside : Beside VRule) (text : List ℕ) → with_line vcal_language (vrule_beside None start) None start k name beside text
      ≡ with_rule vcal_language (vrule_beside None start) k is_given beside text)
      (put_is : (done : List VRule) (rule : VRule) → put_rule is_given (place done) rule ≡ place (done ++ rule ∷ [])) where
    rule-given : (k : ℕ) (done : List VRule) (rule : VRule) → IsWritableRule rule
        → with_rule vcal_language (vrule_beside None start) k is_given (place done) (vrule_text rule) ≡ Ok (place (done ++ rule ∷ []))
    rule-given k done rule h = rw (stated-written k rule h.valid h.rises h.years, rule-kept start k rule h) (ap Ok (put_is done rule))

    pub gives-rules : (done rules : List VRule) (ls : List WrittenLine) → AllByRecursion IsWritableRule rules
        → Gives (place (done ++ rules)) ls → Gives (place done) (map (rule_line name) rules ++ ls)
    gives-rules done [] ls h more = gives-same _ _ ls (ap place (sym (append-nil done))) more
    gives-rules done (rule ∷ rules) ls h more =
        gives-next (place done) (place (done ++ rule ∷ [])) (rule_line name rule) (map (rule_line name) rules ++ ls)
        (λ k. by_name k (place done) (vrule_text rule) ∙ rule-given k done rule h.0)
        (gives-rules (done ++ rule ∷ []) rules ls h.1 (gives-same _ _ ls (ap place (append_assoc done (rule ∷ []) rules)) more))

  -- ---- dates

  module _ (name : LineName) (is_plus : Bool) (place : List ℤ → Beside VRule)
      (by_name : (k : ℕ) (beside : Beside VRule) (text : List ℕ) → with_line vcal_language (vrule_beside None start) None start k name beside text
      ≡ with_dates None start k is_plus beside (slice_split is_comma_or_semicolon text))
      (put_is : (done : List ℤ) (at : ℤ) → put_date is_plus (place done) at ≡ place (with_value int_lt done at)) where
    date-given : (k : ℕ) (done : List ℤ) (at : ℤ) → IsInYears kind at → list_all (λ x. int_lt x at) done ≡ true
        → with_date None start k is_plus (place done) (basic_text kind at) ≡ Ok (place (done ++ at ∷ []))
    date-given k done at h above =
        rw (date_value-written k kind at h, same_kind kind) (ap Ok (put_is done at ∙ ap place (with_value-last int_lt done at above)))

    pub gives-dates : (done dates : List ℤ) (ls : List WrittenLine) → AllByRecursion (IsInYears kind) dates → Rises int_lt dates
        → IsAbove int_lt int_lt-transitive done dates → Gives (place (done ++ dates)) ls → Gives (place done) (map (date_line name kind) dates ++ ls)
    gives-dates done [] ls h rises above more = gives-same _ _ ls (ap place (sym (append-nil done))) more
    gives-dates done (at ∷ dates) ls h rises above more =
        gives-next (place done) (place (done ++ at ∷ [])) (date_line name kind at) (map (date_line name kind) dates ++ ls)
        (λ k. by_name k (place done) (basic_text kind at) ∙ ap (with_dates None start k is_plus (place done)) (date-split kind at h.0)
        ∙ ap (λ (m : Result (Beside VRule) Refusal). m >>= λ next. Ok next) (date-given k done at h.0 above))
        (gives-dates (done ++ at ∷ []) dates ls h.1 (Rises-tail int_lt at dates rises) (IsAbove-next int_lt int_lt-transitive done at dates above rises)
        (gives-same _ _ ls (ap place (append_assoc done (at ∷ []) dates)) more))

  -- ---- all lines

  abbrev beside_of : List VRule → List VRule → List ℤ → List ℤ → Beside VRule
  beside_of rules excluded plus minus = record { rules = rules; excluded = excluded; plus = plus; minus = minus }

  pub gives-all : (rules excluded : List VRule) (plus minus : List ℤ) → AllByRecursion IsWritableRule rules → AllByRecursion IsWritableRule excluded
      → AllByRecursion (IsInYears kind) plus → Rises int_lt plus → AllByRecursion (IsInYears kind) minus → Rises int_lt minus
      → r ≡ Ok (beside_of rules excluded plus minus)
      → Gives (beside_of [] [] [] []) (date_line Dtstart kind first ∷ (map (rule_line Rrule) rules ++ (map (rule_line Exrule) excluded
      ++ (map (date_line Rdate kind) plus ++ (map (date_line Exdate kind) minus ++ [])))))
  gives-all rules excluded plus minus h he hp rp hm rm is =
      let minus_lines = map (date_line Exdate kind) minus ++ [] in
      let plus_lines = map (date_line Rdate kind) plus ++ minus_lines in
      let excluded_lines = map (rule_line Exrule) excluded ++ plus_lines in
      gives-next (beside_of [] [] [] []) (beside_of [] [] [] []) (date_line Dtstart kind first) (map (rule_line Rrule) rules ++ excluded_lines) (λ k. refl)
      (gives-rules Rrule true (λ l. beside_of l [] [] []) (λ k b t. refl) (λ l rule. refl) [] rules excluded_lines h
      (gives-rules Exrule false (λ l. beside_of rules l [] []) (λ k b t. refl) (λ l rule. refl) [] excluded plus_lines he
      (gives-dates Rdate true (λ l. beside_of rules excluded l []) (λ k b t. refl) (λ l at. refl) [] plus minus_lines hp rp
      (above_none int_lt int_lt-transitive plus)
      (gives-dates Exdate false (λ l. beside_of rules excluded plus l) (λ k b t. refl) (λ l at. refl) [] minus [] hm rm
      (above_none int_lt int_lt-transitive minus) (λ k. sym is)))))
