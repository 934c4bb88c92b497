-- What an outcome of the program says of one operand.
use Rattle.std.specs.Prelude.{ℕ, List}
use Rattle.rr_answer.specs.Answer.{AreDaysSaid, IsSeriesSaid}
use Rattle.rr_answer.specs.Outcome.{answer_of}
use Rattle.rr_answer.specs.Parsed.{IsReadOf, IsSeriesReadOf}
use Rattle.rr_answer.specs.declared.command.DayTask.{DayTask}
use Rattle.rr_answer.specs.declared.command.Operand.{Operand}
use Rattle.rr_answer.specs.declared.command.SeriesOperand.{SeriesOperand}
use Rattle.rr_answer.specs.declared.command.SeriesTask.{SeriesTask}
use Rattle.rr_answer.specs.declared.outcome.Outcome.{Outcome}

-- the outcome says what the task says of the series that is read from the bytes
abbrev pub AnswersSeries : SeriesTask → SeriesOperand → List ℕ → Outcome → Type 0
AnswersSeries task operand bytes outcome = IsSeriesSaid task (IsSeriesReadOf operand bytes) (answer_of outcome)

-- the outcome says what the task says of the occurrences of what is read from the bytes
abbrev pub AnswersDays : DayTask → Operand → List ℕ → Outcome → Type 0
AnswersDays task operand bytes outcome = AreDaysSaid task (IsReadOf operand bytes) (answer_of outcome)
