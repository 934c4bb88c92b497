-- What a list of dates or moments states: one on each line, rising.
use Rattle.std.specs.Prelude.{ℕ, ◌+◌, nat_le, if◌then◌else◌, pos, int_lt, List, [], ◌∷◌, Option, None, Some, ok_or, Result, Ok, Err}
use Rattle.std.specs.Str.{is_utf8}
use Rattle.rr_model.specs.Moment.{is_same_kind}
use Rattle.rr_model.specs.Rising.{with_value}
use Rattle.rr_model.specs.declared.rule.Series.{Series}
use Rattle.rr_model.specs.declared.stamp.Stamp.{Stamp}
use Rattle.rr_model.specs.Text.RuleValues.{◌>>=◌}
use Rattle.rr_model.specs.Text.Lines.{physical_lines, without_mark}
use Rattle.rr_model.specs.Text.Lists.{series_of_list}
use Rattle.rr_model.specs.Text.UsedLines.{trim}
use Rattle.rr_model.specs.Text.ExtendedMoments.{plain_extended}
use Rattle.rr_ical.specs.declared.listed.ListedDates.{ListedDates}
use Rattle.rr_model.specs.declared.limits.TheConstants.{MAX_DATES}
use Rattle.rr_model.specs.declared.refusal.Refusal.{Refusal}
use Rattle.rr_model.specs.declared.refusal.Refusal.TheVariants.{NotText, BadMoment, MixedKinds, TooManyParts, NotRising}

-- no value is read yet
abbrev pub empty_list : ListedDates
empty_list = record { first = None; last = pos 0; count = 0; plus = [] }

-- the next value: of the first one's kind, and above the one before it
abbrev pub with_next : ℕ → ListedDates → Option Stamp → Stamp → Result ListedDates Refusal
with_next line so_far None stamp = Ok (record so_far { first = Some stamp; last = stamp.at; count = so_far.count + 1 })
with_next line so_far (Some first) stamp =
    if is_same_kind first.kind stamp.kind then (if int_lt so_far.last stamp.at
    then Ok (record so_far { last = stamp.at; count = so_far.count + 1; plus = with_value int_lt so_far.plus stamp.at }) else Err (NotRising line))
    else Err (MixedKinds line)

-- one value more, if there is room
abbrev pub with_list_value : ℕ → ListedDates → List ℕ → Result ListedDates Refusal
with_list_value line so_far text =
    if nat_le MAX_DATES so_far.count then Err TooManyParts else (ok_or (plain_extended text) (BadMoment line) >>= with_next line so_far so_far.first)

-- one line, without the blanks and tabs around it; an empty one is passed over
abbrev pub with_trimmed : ℕ → ListedDates → List ℕ → Result ListedDates Refusal
with_trimmed line so_far [] = Ok so_far
with_trimmed line so_far (b ∷ bs) = with_list_value line so_far (b ∷ bs)

-- one line more, without the blanks and tabs around it
unfoldable pub with_list_line : ℕ → ListedDates → List ℕ → Result ListedDates Refusal
with_list_line line so_far text = with_trimmed line so_far (trim text)

-- the dates so far with the lines from number `line` on, or the first refusal
abbrev pub with_list_lines : ℕ → ListedDates → List (List ℕ) → Result ListedDates Refusal
with_list_lines line so_far [] = Ok so_far
with_list_lines line so_far (text ∷ texts) = with_list_line line so_far text >>= λ more. with_list_lines (line + 1) more texts

-- what the text of a list states
unfoldable pub list_text : List ℕ → Result Series Refusal
list_text text = with_list_lines 1 empty_list (physical_lines (without_mark text)) >>= λ all. Ok (series_of_list all.first all.plus)

-- what the bytes of a list state, which have to be UTF-8
unfoldable pub reads_list : List ℕ → Result Series Refusal
reads_list bytes = if is_utf8 bytes then list_text bytes else Err NotText
