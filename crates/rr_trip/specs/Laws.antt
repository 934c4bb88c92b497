-- What follows of what is said of a key.
use Rattle.std.specs.Prelude.{◌≡◌, ◌↔◌, Bool, true, ℤ, All, List, Option, None}
use Rattle.rr_length.specs.Lengths.{Lengths}
use Rattle.rr_length.specs.declared.other.OtherLength.{OtherLength}
use Rattle.rr_model.specs.Series.Occurrences.{Occurs}
use Rattle.rr_model.specs.declared.kind.Kind.{Kind}
use Rattle.rr_model.specs.declared.rule.Series.{Series}
use Rattle.rr_seam.specs.Stated.{Stated}
use Rattle.rr_seam.specs.Words.{are_same_words}
use Rattle.rr_seam.specs.declared.refusal.KeyRefusal.{KeyRefusal}
use Rattle.rr_trip.specs.Judged.{IsRefused}
use Rattle.rr_trip.specs.Readings.{Reading}
use Rattle.rr_trip.specs.Report.{IsReport}
use Rattle.rr_trip.specs.Said.{HasOtherLength, IsSaidBehind, IsSaidBy, IsSaidOfBoth, has_equal_times, is_empty, occurs_at}
use Rattle.rr_trip.specs.Zoned.{Meaning, ZonedCalendar}
use Rattle.rr_trip.specs.declared.report.ReportLine.{ReportLine}
use Rattle.rr_trip.specs.declared.said.Said.{Said}
use Rattle.rr_trip.specs.declared.said.Said.TheVariants.{Alike, Length}

-- it is said that both calendars refuse the events of a key and state them in the same words
abbrev pub IsAlikeSaid : Said → Type 0
IsAlikeSaid said = (refusal : KeyRefusal) × (said ≡ Alike refusal)

-- both calendars refuse the events of a key, and state them in the same words
abbrev pub AreRefusedAlike : Stated → Stated → Type 0
AreRefusedAlike a b = IsRefused a × (are_same_words a.words b.words ≡ true) × IsRefused b

-- A key that both calendars have is said to be alike exactly if both refuse it and state it in the same words.
abbrev pub AlikeIsExact : Type 0
AlikeIsExact =
    (means_a means_b : Meaning) (a b : Stated) (said : Said) → IsSaidOfBoth means_a means_b a b said → IsAlikeSaid said ↔ AreRefusedAlike a b

-- In a series that is empty by its form nothing occurs.
abbrev pub EmptyHasNone : Type 0
EmptyHasNone = (series : Series) (k : Kind) (t : ℤ) → is_empty series ≡ true → Occurs series k t → ⊥

-- ---- lengths

-- it is said that an occurrence has two lengths
abbrev pub IsLengthSaid : Said → Type 0
IsLengthSaid said = (other : OtherLength) × (said ≡ Length other)

-- Behind what is said of times it is said that an occurrence has two lengths exactly if local times are equal for ever, both sides tell
-- how long their occurrences are, and one has two lengths.
abbrev pub LengthIsExact : Type 0
LengthIsExact =
    (a b : Option Lengths) (reading : Reading) (A B : Series) (times said : Said) → IsSaidBy reading A B times
    → IsSaidBehind (occurs_at A) a b times said → IsLengthSaid said ↔ ((has_equal_times times ≡ true) × HasOtherLength (occurs_at A) a b)

-- ---- keys that are found again

-- If events are to be found by their UID alone, no line of a report is of events that have another key in B.
abbrev pub ByUidMatchesNone : Type 0
ByUidMatchesNone =
    (titles : Bool) (a b : ZonedCalendar) (lines : List ReportLine) → IsReport true titles a b lines
    → All (λ (line : ReportLine). line.partner ≡ None) lines
