-- What is said of occurrences by their number.
use Rattle.std.specs.Prelude.{◌≡◌, ℕ, ℤ, codes}
use Rattle.std.specs.Fmt.{decimal}
use Rattle.rr_model.specs.Text.Moments.{extended_text}
use Rattle.rr_model.specs.declared.kind.Kind.{Kind}
use Rattle.rr_model.specs.declared.refusal.Refusal.TheVariants.{PastRange}
use Rattle.rr_model.specs.declared.verdict.Side.TheVariants.{A}
use Rattle.rr_rank.specs.Rank.{IsNthOf, IsRank}
use Rattle.rr_rank.specs.declared.nth.Nth.{Nth}
use Rattle.rr_rank.specs.declared.nth.Nth.TheVariants.{At, Fewer, Past}
use Rattle.rr_text.specs.Printed.{IsPrintableAt}
use Rattle.rr_answer.specs.Said.{Answer, line, answer_of_refusal}
use Rattle.rr_answer.specs.Subjects.{OccursIn, Subject}
use Rattle.rr_answer.specs.declared.status.Status.TheVariants as status

-- an occurrence, that there are fewer, or that its day is past the greatest
abbrev pub nth_said : Nth → Answer
nth_said (At k t) = record { status = status.Yes; bytes = line (extended_text k t) }
nth_said Fewer = record { status = status.No; bytes = line (codes "none") }
nth_said Past = answer_of_refusal A PastRange

-- `nth`: the occurrence of this number
pub record IsNthSaid (n : ℕ) (s : Subject) (answer : Answer) : Type 0 where
  pub nth : Nth
  pub is_nth : IsNthOf (OccursIn s) n nth
  pub is_said : answer ≡ nth_said nth

-- `rank`: the answer with a number alone on a line
abbrev pub rank_said : ℕ → Answer
rank_said n = record { status = status.Yes; bytes = line (decimal n) }

-- `rank`: how many occurrences are not after a moment
pub record IsRankSaid (k : Kind) (t : ℤ) (s : Subject) (answer : Answer) : Type 0 where
  pub rank : ℕ
  pub is_rank : IsRank (OccursIn s) k t rank
  pub is_said : answer ≡ rank_said rank

-- an occurrence that can be printed
abbrev pub IsPrintableNth : Nth → Type 0
IsPrintableNth (At k t) = IsPrintableAt k t
IsPrintableNth Fewer = Unit {0}
IsPrintableNth Past = Unit {0}
