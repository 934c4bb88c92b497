-- The lines of groups, made one after the other.
use Rattle.std.proofs.Common.{◌≡◌, ℕ, ◌+◌, ◌<◌, ◌≤◌, Bool, true, false, append_assoc, List, [], ◌∷◌, ◌++◌, length, get_or, Option, None, Some, Ok, Err, sym, subst, ◌∙◌}
use Rattle.std.specs.Prelude.{IfOk, Result, is_some}
use Rattle.std.specs.List.{All}
use Rattle.std.proofs.lemmas.Bool.{true≢false}
use Rattle.std.proofs.lemmas.List.{append-nil}
use Rattle.std.proofs.lemmas.List.Elements.{All-append, All-cons, All-nil}
use Rattle.rr_groups.specs.declared.group.Group.{Group}
use Rattle.rr_trip.specs.Pairs.{IsJudged, IsSaidOfJudged, marks_of_judged}
use Rattle.rr_trip.specs.Report.{AreLinesFrom, IsLineAt, IsLineOf, Subject, stated_in, title_by, title_if}
use Rattle.rr_trip.specs.Said.{IsPrintableSaid}
use Rattle.rr_trip.specs.Zoned.{ZonedCalendar}
use Rattle.rr_trip.specs.declared.found.Found.{Found}
use Rattle.rr_trip.specs.declared.found.FoundAgain.{FoundAgain}
use Rattle.rr_trip.specs.declared.pair.Judged.{Judged}
use Rattle.rr_trip.specs.declared.report.ReportLine.{ReportLine}
use Rattle.rr_trip.proofs.KnownLemmas.{item_at}
use Rattle.rr_trip.proofs.SaidLemmas.{marks_judged, said_judged}

-- ---- one line

-- the line of events says what is so of them, if it says what is so of what is known of them
pub line_of_judged : {E : Type 0} (titles : Bool) (a b : ZonedCalendar) (subject : Subject) (judged : Judged) (title : Option (List ℕ)) (r : Result ReportLine E)
    → IsJudged (stated_in a.stated subject.a) (stated_in b.stated subject.b) judged
    → title ≡ title_if titles (title_by a.titles b.titles subject.a subject.b)
    → IfOk r (λ line. (line.key ≡ subject.key) × (line.partner ≡ subject.partner) × (line.title ≡ title) × (line.in_a.items ≡ subject.a) × (line.in_b.items ≡ subject.b)
    × (line.marks ≡ marks_of_judged judged) × IsSaidOfJudged a.means b.means judged line.said × IsPrintableSaid line.said)
    → IfOk r (IsLineOf titles a b subject)
line_of_judged titles a b subject judged title (Err e) is_judged titled h = tt
line_of_judged titles a b subject judged title (Ok line) is_judged titled h = record {
  of_key = h.0;
  partner = h.1;
  said = said_judged a.means b.means (stated_in a.stated subject.a) (stated_in b.stated subject.b) judged line.said is_judged h.6;
  marked = h.5 ∙ marks_judged a.means b.means (stated_in a.stated subject.a) (stated_in b.stated subject.b) judged line.said is_judged h.6;
  titled = h.2 ∙ titled;
  in_a = h.3;
  in_b = h.4;
  printable = h.7;
}

-- ---- one line after the other

-- what a line says can be printed
abbrev pub IsPrintableLine : ReportLine → Type 0
IsPrintableLine line = IsPrintableSaid line.said

module _ (titles : Bool) (a b : ZonedCalendar) (groups : List Group) (found : FoundAgain) where
  -- the lines so far are those of the groups before this one
  pub record IsUpTo (lines : List ReportLine) (n : ℕ) : Type 0 where
    pub joins : (more : List ReportLine) → AreLinesFrom titles a b groups found n more → AreLinesFrom titles a b groups found 0 (lines ++ more)
    pub printable : All IsPrintableLine lines

  pub IsUpTo-start : (lines : List ReportLine) → lines ≡ [] → IsUpTo lines 0
  IsUpTo-start lines none = record {
    joins = λ more are. subst (λ ls. AreLinesFrom titles a b groups found 0 (ls ++ more)) (sym none) are;
    printable = subst (All IsPrintableLine) (sym none) (All-nil IsPrintableLine);
  }

  -- a group of B that is found again in A has no line
  pub IsUpTo-passed : (lines next : List ReportLine) (n : ℕ) (in_a : Option Found) → n < length found.b.items → in_a ≡ get_or found.b.items n in_a
      → is_some in_a ≡ true → next ≡ lines → IsUpTo lines n → IsUpTo next (n + 1)
  IsUpTo-passed lines next n None below is some same so_far = absurd (true≢false (sym some))
  IsUpTo-passed lines next n (Some in_a) below is some same so_far =
      subst (λ ls. IsUpTo ls (n + 1)) (sym same) (record {
        joins = λ more are. so_far.joins more (AreLinesFrom.passed n in_a more (item_at found.b.items n (Some in_a) below is) are);
        printable = so_far.printable;
      })

  -- another has one line
  pub IsUpTo-line : (lines next : List ReportLine) (n : ℕ) (in_a in_b : Option Found) (line : ReportLine) → n < length found.b.items
      → in_a ≡ get_or found.b.items n in_a → is_some in_a ≡ false → n < length found.a.items → in_b ≡ get_or found.a.items n in_b
      → IsLineAt titles a b groups n in_b line → next ≡ lines ++ line ∷ [] → IsUpTo lines n → IsUpTo next (n + 1)
  IsUpTo-line lines next n (Some in_a) in_b line below_b is_b none below_a is_a at put so_far = absurd (true≢false none)
  IsUpTo-line lines next n None in_b line below_b is_b none below_a is_a at put so_far =
      subst (λ ls. IsUpTo ls (n + 1)) (sym put) (record {
        joins = λ more are. subst (AreLinesFrom titles a b groups found 0) (sym (append_assoc lines (line ∷ []) more))
            (so_far.joins (line ∷ more)
            (AreLinesFrom.line n in_b line more (item_at found.b.items n None below_b is_b) (item_at found.a.items n in_b below_a is_a) at are));
        printable = All-append IsPrintableLine lines (line ∷ []) so_far.printable
            (All-cons IsPrintableLine line [] at.is_line.printable (All-nil IsPrintableLine));
      })

  pub IsUpTo-end : (lines : List ReportLine) (n : ℕ) → length groups ≤ n → IsUpTo lines n → AreLinesFrom titles a b groups found 0 lines
  IsUpTo-end lines n past so_far =
      subst (AreLinesFrom titles a b groups found 0) (append-nil lines) (so_far.joins [] (AreLinesFrom.end n past))
