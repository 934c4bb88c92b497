-- A series of vCalendar 1.0 is read back from its text.
use Rattle.std.proofs.Common.{◌≡◌, ℕ, ◌+◌, ◌≤◌, true, false, List, [], ◌∷◌, ◌++◌, length, map, Option, Some, None, Result, Ok, ℤ, refl, sym, ap, ◌∙◌}
use Rattle.std.proofs.Common.{append_assoc, append-nil, arith}
use Rattle.std.specs.Prelude.{ok_or, int_lt}
use Rattle.std.specs.List.{AllByRecursion}
use Rattle.std.proofs.lemmas.List.Elements.{recursion_from_All}
use Rattle.rr_model.specs.Moment.Years.{IsInYears}
use Rattle.rr_model.specs.Rising.{Rises}
use Rattle.rr_model.specs.Rule.Validity.{EndsInYears}
use Rattle.rr_model.specs.Text.Event.{event_scan}
use Rattle.rr_model.specs.Text.Lines.{without_mark}
use Rattle.rr_model.specs.Text.Passes.{Beside, Event, nothing_read, judged_line, second_pass, passes}
use Rattle.rr_model.specs.Text.RuleValues.{◌>>=◌}
use Rattle.rr_model.specs.Text.Written.{basic_text, lines_of}
use Rattle.rr_model.specs.Vcal.Items.{item_lt}
use Rattle.rr_model.specs.Vcal.Laws.{IsWritable, VcalIsReadBack}
use Rattle.rr_model.specs.Vcal.Reading.{vrule_beside, vcal_language, vseries_of_event, reads_vcal}
use Rattle.rr_model.specs.Vcal.Validity.{IsValidVRule, IsValidVSeries}
use Rattle.rr_model.specs.Vcal.Written.{vcal_written, vrule_text}
use Rattle.rr_model.specs.declared.kind.Kind.{Kind}
use Rattle.rr_model.specs.declared.limits.TheConstants.{MAX_DATES, MAX_RULES}
use Rattle.rr_model.specs.declared.pass.FirstPass.{FirstPass}
use Rattle.rr_model.specs.declared.refusal.Refusal.{Refusal}
use Rattle.rr_model.specs.declared.refusal.Refusal.TheVariants.{NoStart}
use Rattle.rr_model.specs.declared.stamp.Stamp.{Stamp}
use Rattle.rr_model.specs.declared.used.LineName.TheVariants.{Dtstart, Rrule, Rdate, Exdate, Exrule}
use Rattle.rr_model.specs.declared.used.Scan.{Scan}
use Rattle.rr_model.specs.declared.vcal.VRule.{VRule}
use Rattle.rr_model.specs.declared.vcal.VSeries.{VSeries}
use Rattle.rr_text.proofs.WrittenLemmas.{basic-written}
use Rattle.rr_vcal.proofs.WrittenLineLemmas.{WrittenLine, IsValue, HaveValues, name_text, written_line, used_from, event_scan-unfolded}
use Rattle.rr_vcal.proofs.WrittenPassLemmas.{IsWritableRule, stamp_of, rule_line, date_line, rule-value, date-value, Reads, reads-next, reads-rules}
use Rattle.rr_vcal.proofs.WrittenPassLemmas.{reads-dates, gives-all}

-- ---- the lines of a series

abbrev lines_with : Kind → ℤ → List VRule → List VRule → List ℤ → List ℤ → List WrittenLine
lines_with kind start rules excluded plus minus =
    date_line Dtstart kind start ∷ (map (rule_line Rrule) rules ++ (map (rule_line Exrule) excluded ++ (map (date_line Rdate kind) plus
    ++ (map (date_line Exdate kind) minus ++ []))))

lines_of-map : {X : Type 0} (line : X → WrittenLine) (xs : List X) (ls : List WrittenLine)
    → lines_of written_line (map line xs ++ ls) ≡ lines_of (λ x. written_line (line x)) xs ++ lines_of written_line ls
lines_of-map line [] ls = refl
lines_of-map line (x ∷ xs) ls =
    ap (λ (t : List ℕ). written_line (line x) ++ t) (lines_of-map line xs ls)
    ∙ sym (append_assoc (written_line (line x)) (lines_of (λ y. written_line (line y)) xs) (lines_of written_line ls))

in_lines : (series : VSeries)
    → vcal_written series ≡ lines_of written_line (lines_with series.kind series.start series.rules series.excluded series.plus series.minus)
unfolding vcal_written name_text
in_lines series =
    let kind = series.kind in
    let first = written_line (date_line Dtstart kind series.start) in
    let rules = lines_of (λ rule. written_line (rule_line Rrule rule)) series.rules in
    let excluded = lines_of (λ rule. written_line (rule_line Exrule rule)) series.excluded in
    let plus = lines_of (λ at. written_line (date_line Rdate kind at)) series.plus in
    let minus = lines_of (λ at. written_line (date_line Exdate kind at)) series.minus in
    let all_minus = lines_of-map (date_line Exdate kind) series.minus [] in
    let all_plus = lines_of-map (date_line Rdate kind) series.plus (map (date_line Exdate kind) series.minus ++ []) in
    let plus_lines = map (date_line Rdate kind) series.plus ++ (map (date_line Exdate kind) series.minus ++ []) in
    let all_excluded = lines_of-map (rule_line Exrule) series.excluded plus_lines in
    let all_rules = lines_of-map (rule_line Rrule) series.rules (map (rule_line Exrule) series.excluded ++ plus_lines) in
    append_assoc (first ++ rules ++ excluded) plus minus
    ∙ append_assoc (first ++ rules) excluded (plus ++ minus)
    ∙ append_assoc first rules (excluded ++ (plus ++ minus))
    ∙ ap (λ (t : List ℕ). first ++ (rules ++ (excluded ++ (plus ++ t)))) (sym (all_minus ∙ append-nil minus))
    ∙ ap (λ (t : List ℕ). first ++ (rules ++ (excluded ++ t))) (sym all_plus)
    ∙ ap (λ (t : List ℕ). first ++ (rules ++ t)) (sym all_excluded)
    ∙ ap (λ (t : List ℕ). first ++ t) (sym all_rules)

have-map : {X : Type 0} (line : X → WrittenLine) (xs : List X) (ls : List WrittenLine) → AllByRecursion (λ (x : X). IsValue (line x).value) xs → HaveValues ls
    → HaveValues (map line xs ++ ls)
have-map line [] ls h more = more
have-map line (x ∷ xs) ls h more = (h.0, have-map line xs ls h.1 more)

rule-values : (rules : List VRule) → AllByRecursion IsWritableRule rules → AllByRecursion (λ (rule : VRule). IsValue (vrule_text rule)) rules
rule-values [] h = tt
rule-values (rule ∷ rules) h = (rule-value rule h.0, rule-values rules h.1)

date-values : (kind : Kind) (dates : List ℤ) → AllByRecursion (IsInYears kind) dates → AllByRecursion (λ (at : ℤ). IsValue (basic_text kind at)) dates
date-values kind [] h = tt
date-values kind (at ∷ dates) h = (date-value kind at h.0, date-values kind dates h.1)

writable_rules : (rules : List VRule) → AllByRecursion IsValidVRule rules → AllByRecursion (λ (rule : VRule). Rises item_lt rule.items) rules
    → AllByRecursion (λ (rule : VRule). EndsInYears rule.end) rules → AllByRecursion IsWritableRule rules
writable_rules [] valid rises years = tt
writable_rules (rule ∷ rules) valid rises years =
    (record { valid = valid.0; rises = rises.0; years = years.0 }, writable_rules rules valid.1 rises.1 years.1)

-- what holds of each rule and date
record AreWritable (kind : Kind) (start : ℤ) (rules excluded : List VRule) (plus minus : List ℤ) : Type 0 where
  start_years : IsInYears kind start
  each_rule : AllByRecursion IsWritableRule rules
  each_excluded : AllByRecursion IsWritableRule excluded
  each_plus : AllByRecursion (IsInYears kind) plus
  each_minus : AllByRecursion (IsInYears kind) minus
  plus_rises : Rises int_lt plus
  minus_rises : Rises int_lt minus
  few_rules : length rules + length excluded ≤ MAX_RULES
  few_dates : length plus + length minus ≤ MAX_DATES

are_writable : (series : VSeries) → IsValidVSeries series → IsWritable series
    → AreWritable series.kind series.start series.rules series.excluded series.plus series.minus
are_writable series valid writable = record {
  start_years = valid.start;
  each_rule =
      writable_rules series.rules (recursion_from_All _ series.rules valid.rules) (recursion_from_All _ series.rules writable.items)
      (recursion_from_All _ series.rules valid.ends);
  each_excluded =
      writable_rules series.excluded (recursion_from_All _ series.excluded valid.excluded) (recursion_from_All _ series.excluded writable.excluded)
      (recursion_from_All _ series.excluded valid.excluded_ends);
  each_plus = recursion_from_All _ series.plus valid.plus;
  each_minus = recursion_from_All _ series.minus valid.minus;
  plus_rises = writable.plus;
  minus_rises = writable.minus;
  few_rules = valid.few_rules;
  few_dates = valid.few_dates;
}

-- ---- both passes

module _ (kind : Kind) (start : ℤ) (rules excluded : List VRule) (plus minus : List ℤ) (h : AreWritable kind start rules excluded plus minus) where
  have-values : HaveValues (lines_with kind start rules excluded plus minus)
  have-values = (
    date-value kind start h.start_years,
    have-map (rule_line Rrule) rules _ (rule-values rules h.each_rule)
        (have-map (rule_line Exrule) excluded _ (rule-values excluded h.each_excluded)
        (have-map (date_line Rdate kind) plus _ (date-values kind plus h.each_plus)
        (have-map (date_line Exdate kind) minus [] (date-values kind minus h.each_minus) tt))),
  )

  start-judged : (k : ℕ) → judged_line vcal_language k Dtstart nothing_read (basic_text kind start)
      ≡ Ok (record { start = Some (stamp_of kind start); rule_count = 0; date_count = 0 })
  start-judged k = rw (basic-written kind start h.start_years) refl

  reads-all : Reads (Some (stamp_of kind start)) nothing_read (lines_with kind start rules excluded plus minus)
  reads-all =
      let s : Option Stamp = Some (stamp_of kind start) in
      let begun : FirstPass = record { start = s; rule_count = 0; date_count = 0 } in
      let minus_lines = map (date_line Exdate kind) minus ++ [] in
      let plus_lines = map (date_line Rdate kind) plus ++ minus_lines in
      let excluded_lines = map (rule_line Exrule) excluded ++ plus_lines in
      reads-next s nothing_read begun (date_line Dtstart kind start) (map (rule_line Rrule) rules ++ excluded_lines) start-judged
      (reads-rules s Rrule (λ k p t. refl) begun rules excluded_lines h.each_rule (omega (arith, h.few_rules)) (λ r rs rc rd.
      reads-rules s Exrule (λ k p t. refl) r excluded plus_lines h.each_excluded (omega (arith, h.few_rules, rc)) (λ q qs qc qd.
      reads-dates s Rdate true kind (λ k p t. refl) q plus minus_lines h.each_plus (omega (arith, h.few_dates, rd, qd)) (λ p ps pd.
      reads-dates s Exdate false kind (λ k p t. refl) p minus [] h.each_minus (omega (arith, h.few_dates, rd, qd, pd)) (λ o os od.
      λ k. (o, refl, os ∙ ps ∙ qs ∙ rs))))))

  abbrev whole_event : Event VRule
  whole_event = record { start = stamp_of kind start; beside = record { rules = rules; excluded = excluded; plus = plus; minus = minus } }

  passes-written : passes vcal_language (vrule_beside None) None (record { used = used_from 1 (lines_with kind start rules excluded plus minus); stop = None })
      ≡ Ok whole_event
  passes-written =
      let lines = used_from 1 (lines_with kind start rules excluded plus minus) in
      let first = reads-all 1 in
      let second = gives-all kind start (Ok (record { rules = rules; excluded = excluded; plus = plus; minus = minus })) rules excluded plus minus
      h.each_rule h.each_excluded h.each_plus h.plus_rises
      h.each_minus h.minus_rises refl 1 in
      ap (λ (m : Result FirstPass Refusal). m >>= λ pass. ok_or pass.start NoStart >>= λ s.
      second_pass vcal_language (vrule_beside None s) None s (record { rules = []; excluded = []; plus = []; minus = [] }) lines >>= λ beside.
      Ok (record { start = s; beside = beside })) first.1
      ∙ ap (λ (o : Option Stamp). ok_or o NoStart >>= λ s.
      second_pass vcal_language (vrule_beside None s) None s (record { rules = []; excluded = []; plus = []; minus = [] }) lines >>= λ beside.
      Ok (record { start = s; beside = beside })) first.2
      ∙ ap (λ (m : Result (Beside VRule) Refusal). m >>= λ beside. Ok (record { start = stamp_of kind start; beside = beside })) second

-- ---- the law

no_mark : (series : VSeries) → without_mark (vcal_written series) ≡ vcal_written series
unfolding vcal_written
no_mark series = refl

pub vcal_read_back : VcalIsReadBack
unfolding reads_vcal
vcal_read_back series valid writable =
    let h = are_writable series valid writable in
    let lines = lines_with series.kind series.start series.rules series.excluded series.plus series.minus in
    ap (λ (bytes : List ℕ). passes vcal_language (vrule_beside None) None (event_scan true bytes) >>= λ event. Ok (vseries_of_event event))
    (no_mark series ∙ in_lines series)
    ∙ ap (λ (scan : Scan). passes vcal_language (vrule_beside None) None scan >>= λ event. Ok (vseries_of_event event))
    (event_scan-unfolded lines (have-values series.kind series.start series.rules series.excluded series.plus series.minus h))
    ∙ ap (λ (m : Result (Event VRule) Refusal). m >>= λ event. Ok (vseries_of_event event))
    (passes-written series.kind series.start series.rules series.excluded series.plus series.minus h)
