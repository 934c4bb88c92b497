-- What is said of the occurrences that exactly one of two operands has.
use Rattle.std.specs.Prelude.{◌≡◌, ℕ, List, [], ◌∷◌, ◌++◌, codes, flat_map}
use Rattle.rr_model.specs.Moment.{Occurrences}
use Rattle.rr_model.specs.Text.Moments.{extended_text}
use Rattle.rr_model.specs.declared.verdict.Verdict.{Verdict}
use Rattle.rr_model.specs.declared.verdict.Verdict.TheVariants.{Yes, No}
use Rattle.rr_differ.specs.Differences.{AreFirstDifferences}
use Rattle.rr_differ.specs.declared.difference.Difference.{Difference}
use Rattle.rr_text.specs.Printed.{side_text}
use Rattle.rr_answer.specs.Said.{Answer, answer_of_verdict, line}
use Rattle.rr_answer.specs.declared.status.Status.{Status}
use Rattle.rr_answer.specs.declared.status.Status.TheVariants as status

-- a date or a moment, and the side that has it
abbrev pub difference_line : Difference → List ℕ
difference_line d = line (extended_text d.kind d.at ++ codes " " ++ side_text d.side)

-- yes if there are none, otherwise no
abbrev pub status_of_differences : List Difference → Status
status_of_differences [] = status.Yes
status_of_differences (d ∷ ds) = status.No

-- the answer with these differences, one a line
abbrev pub answer_of_differences : List Difference → Answer
answer_of_differences ds = record { status = status_of_differences ds; bytes = flat_map difference_line ds }

-- `differences`: the first n occurrences that exactly one of the two has, one a line, each with its side
pub record AreDifferencesSaid (n : ℕ) (P Q : Occurrences) (answer : Answer) : Type 0 where
  pub differences : List Difference
  pub are_first : AreFirstDifferences P Q n differences
  pub is_said : answer ≡ answer_of_differences differences

-- ---- beside `equal`

-- Yes and no bytes with the yes of a verdict; with a no the same status, and the first line has what follows `no ` there
abbrev pub IsBesideVerdict : Verdict → Answer → Type 0
IsBesideVerdict Yes answer = answer ≡ record { status = status.Yes; bytes = [] }
IsBesideVerdict (No kind at side) answer =
    (rest : List ℕ) × (answer ≡ record {
      status = status.No;
      bytes = difference_line (record { kind = kind; at = at; side = side }) ++ rest;
    })
    × ((answer_of_verdict (No kind at side)).bytes ≡ codes "no " ++ difference_line (record { kind = kind; at = at; side = side }))
