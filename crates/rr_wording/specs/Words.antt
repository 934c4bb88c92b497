-- A series in English words.
use Rattle.std.specs.Prelude.{ℕ, Bool, true, false, not, ◌&&◌, ◌==◌, if◌then◌else◌, ℤ, List, [], ◌∷◌, ◌++◌, length, codes}
use Rattle.std.specs.List.{list_all}
use Rattle.rr_model.specs.Moment.{day_part}
use Rattle.rr_model.specs.Rule.Validity.{is_absent}
use Rattle.rr_model.specs.declared.kind.Kind.{Kind}
use Rattle.rr_model.specs.declared.rule.Rule.{Rule}
use Rattle.rr_model.specs.declared.rule.Series.{Series}
use Rattle.rr_wording.specs.Dates.{date_words, moment_words}
use Rattle.rr_wording.specs.Numbers.{counted}
use Rattle.rr_wording.specs.Rules.{end_words, rule_words, says_time}

-- a rule and its end
unfoldable pub whole_rule : Kind → ℤ → Rule → List ℕ
whole_rule kind start rule = rule_words rule kind start ++ end_words rule.end

-- rules, each behind a text
abbrev pub each_rule : List ℕ → Kind → ℤ → List Rule → List ℕ
each_rule lead kind start [] = []
each_rule lead kind start (rule ∷ rules) = (lead ++ whole_rule kind start rule) ++ each_rule lead kind start rules

-- where rules begin: with its time, unless that was said
unfoldable pub from_words : Bool → Kind → ℤ → List ℕ
from_words is_said kind start = codes " from " ++ (if is_said then date_words (day_part kind start) else moment_words kind start)

-- several rules, which begin together
unfoldable pub several_words : Kind → ℤ → Rule → List Rule → List ℕ
several_words kind start rule others =
    whole_rule kind start rule ++ each_rule (codes "; and ") kind start others
    ++ codes "; each" ++ from_words (says_time rule && list_all says_time others) kind start

-- a rule alone
unfoldable pub only_words : Kind → ℤ → Rule → List ℕ
only_words kind start rule = rule_words rule kind start ++ codes "," ++ from_words (says_time rule) kind start ++ end_words rule.end

-- one rule, or several
unfoldable pub rules_words : Kind → ℤ → Rule → List Rule → List ℕ
rules_words kind start rule others = if length others == 0 then only_words kind start rule else several_words kind start rule others

-- how many dates stand beside the start or the rules
unfoldable pub further_words : ℕ → List ℕ
further_words n = if n == 0 then [] else codes ", and on " ++ counted n (codes "further date")

-- a series without rules: its start, and its further dates; if the start does not count, its dates alone
unfoldable pub dates_words : Kind → ℤ → Bool → ℕ → List ℕ
dates_words kind start true n = codes "once, on " ++ moment_words kind start ++ further_words n
dates_words kind start false n = codes "on " ++ counted n (codes "date")

-- what occurs by rules and by dates
unfoldable pub with_rules : Series → List Rule → List ℕ
with_rules series [] = dates_words series.kind series.start series.start_counts (length series.plus)
with_rules series (rule ∷ rules) = rules_words series.kind series.start rule rules ++ further_words (length series.plus)

-- what a series has, before anything is left out
unfoldable pub base_words : Series → List ℕ
base_words series = with_rules series series.rules

-- rules whose members are left out
unfoldable pub excluded_words : Kind → ℤ → List Rule → List ℕ
excluded_words kind start [] = []
excluded_words kind start (rule ∷ rules) = codes "; but not " ++ whole_rule kind start rule ++ each_rule (codes "; and not ") kind start rules

-- how many dates are left out, behind the rules that are
unfoldable pub left_out_words : Bool → ℕ → List ℕ
left_out_words after_rules n =
    if n == 0 then [] else (if after_rules then codes "; and not on " else codes ", but not on ") ++ counted n (codes "date")

-- nothing occurs: no rule, no start that counts and no further date
unfoldable pub is_nothing : Series → Bool
is_nothing series = is_absent series.rules && not series.start_counts && is_absent series.plus

-- what a series says, in words
unfoldable pub series_words : Series → List ℕ
series_words series =
    if is_nothing series then codes "nothing" else
    base_words series
    ++ excluded_words series.kind series.start series.excluded
    ++ left_out_words (not (is_absent series.excluded)) (length series.minus)
