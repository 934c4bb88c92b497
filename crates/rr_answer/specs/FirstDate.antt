-- From 0001-01-01 on there is all that a series has.
use Rattle.std.specs.Prelude.{◌≡◌, ℕ, List, Some, pos}
use Rattle.rr_model.specs.Calendar.{first_day_of_year}
use Rattle.rr_model.specs.declared.kind.Kind.TheVariants.{Days}
use Rattle.rr_next.specs.declared.number.Moment.{Moment}
use Rattle.rr_answer.specs.Answer.{IsAnswer}
use Rattle.rr_answer.specs.Command.{SeriesOperand, as_operand, of_days, of_series}
use Rattle.rr_answer.specs.declared.command.DayTask.TheVariants.{From}
use Rattle.rr_answer.specs.declared.command.SeriesTask.TheVariants.{List as list}
use Rattle.rr_answer.specs.declared.status.Status.TheVariants.{Yes}

-- 0001-01-01
abbrev pub first_date : Moment
first_date = record { kind = Days; at = first_day_of_year (pos 1) }

-- the first n occurrences of this operand from 0001-01-01 on are asked of its text, and these bytes are put with Yes
abbrev pub PutsFrom : ℕ → SeriesOperand → List ℕ → List ℕ → Type 0
PutsFrom n a text bytes = IsAnswer (Some (of_days (From first_date n) (as_operand a))) text (record { status = Yes; bytes = bytes })

-- the first n occurrences of this operand are asked of its text, and these bytes are put with Yes
abbrev pub PutsList : ℕ → SeriesOperand → List ℕ → List ℕ → Type 0
PutsList n a text bytes = IsAnswer (Some (of_series (list n) a)) text (record { status = Yes; bytes = bytes })

-- `from 0001-01-01 n` and `list n` of one operand put the same bytes, if both are done.
abbrev pub FirstDateLists : Type 0
FirstDateLists = (n : ℕ) (operand : SeriesOperand) (text x y : List ℕ) → PutsFrom n operand text x → PutsList n operand text y → x ≡ y
