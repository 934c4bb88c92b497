-- What is asked of the occurrences of a series and a later one.
use Rattle.rr_model.specs.Moment.{Occurrences}
use Rattle.rr_model.specs.declared.verdict.Verdict.{Verdict}
use Rattle.rr_model.specs.declared.verdict.Verdict.TheVariants.{Yes}
use Rattle.rr_decide.specs.Question.{IsVerdictTo}
use Rattle.rr_drill.specs.declared.asked.Asked.{Asked}
use Rattle.rr_drill.specs.declared.asked.Asked.TheVariants.{Forth, Back}

-- the verdict that a question asks for, with the two sets in their order or exchanged
abbrev pub IsVerdictAsked : Asked → Occurrences → Occurrences → Verdict → Type 0
IsVerdictAsked (Forth question) P Q verdict = IsVerdictTo question P Q verdict
IsVerdictAsked (Back question) P Q verdict = IsVerdictTo question Q P verdict

-- the verdict that is asked for is Yes
abbrev pub IsYes : Asked → Occurrences → Occurrences → Type 0
IsYes asked P Q = IsVerdictAsked asked P Q Yes
