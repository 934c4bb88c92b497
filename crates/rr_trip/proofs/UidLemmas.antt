-- A report of events that are found by their UID alone.
use Rattle.std.proofs.Common.{◌≡◌, ℕ, ◌+◌, ◌<◌, Bool, List, length, slice_get, Option, None, Some, sym, ap, subst, ◌∙◌, arith}
use Rattle.std.specs.List.{All}
use Rattle.std.proofs.lemmas.List.{get_or-replicate, length-replicate}
use Rattle.std.proofs.lemmas.List.Elements.{All-cons, All-nil}
use Rattle.std.proofs.lemmas.Option.{get_or_from_slice_get, slice_get_within}
use Rattle.rr_groups.specs.declared.group.Group.{Group}
use Rattle.rr_trip.specs.Found.{none_of}
use Rattle.rr_trip.specs.Laws.{ByUidMatchesNone}
use Rattle.rr_trip.specs.Report.{AreLinesFrom, IsLineAt, IsOwnSubject, IsSubject, Subject}
use Rattle.rr_trip.specs.Zoned.{ZonedCalendar}
use Rattle.rr_trip.specs.declared.found.Found.{Found}
use Rattle.rr_trip.specs.declared.found.FoundAgain.{FoundAgain}
use Rattle.rr_trip.specs.declared.report.ReportLine.{ReportLine}

none_there : (m n : ℕ) (o : Option Found) → slice_get (none_of m) n ≡ Some o → o ≡ None
none_there m n o at =
    let long : length (none_of m) ≡ m = length-replicate m None in
    let below : n < m = omega (arith, slice_get_within (none_of m) n o at, long) in
    sym (get_or_from_slice_get (none_of m) n o None at) ∙ get_or-replicate m n None None below

module _ (titles : Bool) (a b : ZonedCalendar) (groups : List Group) (found : FoundAgain) (none : found.a.items ≡ none_of (length groups)) where
  -- a line of a group that is not found again is of one key
  alone : (n : ℕ) (in_b : Option Found) (line : ReportLine) → in_b ≡ None → IsLineAt titles a b groups n in_b line → line.partner ≡ None
  alone n in_b line is at =
      let own : IsOwnSubject groups n at.subject = subst (λ (o : Option Found). IsSubject groups n o at.subject) is at.is_subject in
      at.is_line.partner ∙ ap (λ (s : Subject). s.partner) own.is

  all_alone : (n : ℕ) (lines : List ReportLine) → AreLinesFrom titles a b groups found n lines → All (λ (line : ReportLine). line.partner ≡ None) lines
  all_alone n lines (AreLinesFrom.end _ past) = All-nil (λ (line : ReportLine). line.partner ≡ None)
  all_alone n lines (AreLinesFrom.passed _ in_a _ at more) = all_alone (n + 1) lines more
  all_alone n lines (AreLinesFrom.line _ in_b line rest free at is more) =
      All-cons (λ (l : ReportLine). l.partner ≡ None) line rest
      (alone n in_b line (none_there (length groups) n in_b (subst (λ (fs : List (Option Found)). slice_get fs n ≡ Some in_b) none at)) is)
      (all_alone (n + 1) rest more)

pub by_uid_matches_none : ByUidMatchesNone
by_uid_matches_none titles a b lines report = all_alone titles a b report.groups report.found report.are_found.a 0 lines report.are_lines
