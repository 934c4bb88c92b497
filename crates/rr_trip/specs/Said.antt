-- What is said of a key.
use Rattle.std.specs.Prelude.{◌≡◌, ◌⊎◌, ℕ, ℤ, Bool, true, false, not, ◌&&◌, if◌then◌else◌, List, Option, None, Some, Result, Ok, Err, ⊤}
use Rattle.rr_model.specs.Moment.{Occurrences}
use Rattle.rr_model.specs.Rule.Validity.{is_absent}
use Rattle.rr_model.specs.Series.Cycle.{series_cycle}
use Rattle.rr_model.specs.Series.Occurrences.{Occurs}
use Rattle.rr_model.specs.Sets.Verdict.{HaveEqualOccurrences, IsEqualVerdict}
use Rattle.rr_model.specs.declared.kind.Kind.{Kind}
use Rattle.rr_model.specs.declared.kind.Kind.TheVariants as kind
use Rattle.rr_model.specs.declared.rule.Series.{Series}
use Rattle.rr_model.specs.declared.verdict.Side.{Side}
use Rattle.rr_model.specs.declared.verdict.Side.TheVariants.{A, B, Both}
use Rattle.rr_model.specs.declared.verdict.Verdict.{Verdict}
use Rattle.rr_model.specs.declared.verdict.Verdict.TheVariants.{Yes, No}
use Rattle.rr_length.specs.Lengths.{HasNearDates, IsFirstOther, Lengths}
use Rattle.rr_length.specs.declared.other.OtherLength.{OtherLength}
use Rattle.rr_seam.specs.Marks.{marks_of_both, no_marks}
use Rattle.rr_seam.specs.Stated.{Stated}
use Rattle.rr_seam.specs.Words.{are_same_words}
use Rattle.rr_seam.specs.declared.marks.Marks.{Marks}
use Rattle.rr_seam.specs.declared.refusal.KeyRefusal.{KeyRefusal}
use Rattle.rr_text.specs.Printed.{IsPrintable, IsPrintableAt}
use Rattle.rr_true.specs.Changes.{IsBelowDay}
use Rattle.rr_true.specs.Moments.{local_at}
use Rattle.rr_true.specs.Occurrences.{TrueOf}
use Rattle.rr_utc.specs.Walks.{IsLong}
use Rattle.rr_trip.specs.Judged.{IsKeyRefusal, IsKeySeries, IsRefused}
use Rattle.rr_trip.specs.Readings.{Reading, Zone, reading_of}
use Rattle.rr_trip.specs.Zoned.{Meaning, is_utc}
use Rattle.rr_trip.specs.declared.said.Ahead.{Ahead}
use Rattle.rr_trip.specs.declared.said.Ahead.TheVariants.{Utc, By}
use Rattle.rr_trip.specs.declared.said.Said.{Said}
use Rattle.rr_trip.specs.declared.said.Said.TheVariants.{Only, Refused, Alike, Floating, Length, Compared}
use Rattle.rr_trip.specs.declared.said.Zones.{Zones}
use Rattle.rr_trip.specs.declared.said.Zones.TheVariants.{Local, Unknown, Moments}

-- ---- events of one calendar alone

-- a series without rules and dates, whose start is no occurrence, as a cancelled event states it: nothing occurs in it
abbrev pub is_empty : Series → Bool
is_empty series = not series.start_counts && (is_absent series.rules && (is_absent series.excluded && is_absent series.plus))

-- events state a series in which nothing occurs, by its form
abbrev pub is_nothing : Result Series KeyRefusal → Bool
is_nothing (Ok series) = is_empty series
is_nothing (Err refusal) = false

-- what is said of events that this calendar alone has, if nothing occurs in what they state, and if not
abbrev pub said_of_empty : Side → Bool → Said
said_of_empty side true = Compared Yes Local
said_of_empty side false = Only side

-- What is said of events that this calendar alone has: that it alone has them, unless they state a series in which nothing occurs, as
-- those of a cancelled event do; then both calendars have equal occurrences, none.
abbrev pub said_alone : Side → Stated → Said
said_alone side stated = said_of_empty side (is_nothing stated.series)

-- ---- refusals

-- B refuses the events of a key, and both calendars state them in the same words
abbrev pub IsAlikeTo : Stated → Stated → Type 0
IsAlikeTo a b = (are_same_words a.words b.words ≡ true) × IsRefused b

-- both calendars refuse the events of a key, and state them in the same words; the refusal is that of A
pub record IsAlike (a b : Stated) (refusal : KeyRefusal) : Type 0 where
  pub refused : IsKeyRefusal a refusal
  pub alike : IsAlikeTo a b

-- the events of A are refused, and those of B are not refused in the same words
pub record IsRefusedFirst (a b : Stated) (refusal : KeyRefusal) : Type 0 where
  pub refused : IsKeyRefusal a refusal
  pub unlike : IsAlikeTo a b → ⊥

-- the events of B are refused, while those of A state a series
pub record IsSecondRefusal (a b : Stated) (refusal : KeyRefusal) : Type 0 where
  pub series : Series
  pub first : IsKeySeries a series
  pub refused : IsKeyRefusal b refusal

-- the events of a key are refused on this side: A's, or, if those state a series, B's
abbrev pub IsRefusedOn : Side → Stated → Stated → KeyRefusal → Type 0
IsRefusedOn A a b refusal = IsRefusedFirst a b refusal
IsRefusedOn B a b refusal = IsSecondRefusal a b refusal
IsRefusedOn Both a b refusal = ⊥

-- it is said that the events of a key are refused
pub record IsSaidRefused (a b : Stated) (said : Said) : Type 0 where
  pub side : Side
  pub refusal : KeyRefusal
  pub refused : IsRefusedOn side a b refusal
  pub is : said ≡ Refused side refusal

-- it is said that both calendars refuse the events of a key and state them in the same words
pub record IsSaidAlike (a b : Stated) (said : Said) : Type 0 where
  pub refusal : KeyRefusal
  pub alike : IsAlike a b refusal
  pub is : said ≡ Alike refusal

-- ---- by local times

-- it is said whether the local times of two sets are equal, over all whole numbers, and this of the zones
pub record IsComparedLocally (zones : Zones) (P Q : Occurrences) (said : Said) : Type 0 where
  pub verdict : Verdict
  pub is_verdict : IsEqualVerdict P Q verdict
  pub is : said ≡ Compared verdict zones

-- one of two sets has an occurrence
pub record HasSome (P Q : Occurrences) : Type 0 where
  pub kind : Kind
  pub at : ℤ
  pub stands : P kind at ⊎ Q kind at

-- this side alone has no zone: that is said, unless there is no occurrence at all
abbrev pub IsSaidFloating : Side → Occurrences → Occurrences → Said → Type 0
IsSaidFloating side P Q said = (HasSome P Q × (said ≡ Floating side)) ⊎ ((HasSome P Q → ⊥) × (said ≡ Compared Yes Local))

-- ---- by moments

-- the zone of a side
abbrev pub zone_on : Side → Zone → Zone → Zone
zone_on A a b = a
zone_on B a b = b
zone_on Both a b = a

-- how far local time is ahead, as it is told: of a series in UTC, that
abbrev pub ahead_by : List ℕ → ℤ → Ahead
ahead_by name offset = if is_utc name then Utc else By offset

-- how far local time of a zone is ahead at a moment, as it is told
abbrev pub ahead_at : Zone → ℤ → Ahead
ahead_at zone u = ahead_by zone.name (zone.ahead u)

-- what is said of a verdict on moments of UTC: the one that it names is told by the local time and the offset of the side that has it
abbrev pub said_of_moments : Zone → Zone → Verdict → Bool → Said
said_of_moments a b Yes only_zones = Compared Yes (Moments Utc only_zones)
said_of_moments a b (No k u side) only_zones =
    Compared (No kind.Moments (local_at (zone_on side a b).ahead u) side) (Moments (ahead_at (zone_on side a b) u) only_zones)

-- whether two sets have equal local times for ever, so that only their zones can differ
abbrev pub IsOnlyZones : Occurrences → Occurrences → Bool → Type 0
IsOnlyZones P Q true = HaveEqualOccurrences P Q
IsOnlyZones P Q false = HaveEqualOccurrences P Q → ⊥

-- it is said whether the moments of UTC that the local times of two sets name in these zones are equal, over all whole numbers
pub record IsComparedTruly (a b : Zone) (P Q : Occurrences) (said : Said) : Type 0 where
  pub verdict : Verdict
  pub only_zones : Bool
  pub is_verdict : IsEqualVerdict (TrueOf a.ahead P) (TrueOf b.ahead Q) verdict
  pub parts : IsOnlyZones P Q only_zones
  pub is : said ≡ said_of_moments a b verdict only_zones

-- the first moment that one side alone has can't be printed in its zone: it lies before the year 1 there, or too far off
pub record IsUnwritten (a b : Zone) (P Q : Occurrences) : Type 0 where
  pub moment : ℤ
  pub side : Side
  pub is_verdict : IsEqualVerdict (TrueOf a.ahead P) (TrueOf b.ahead Q) (No kind.Moments moment side)
  pub unwritten : IsPrintableAt kind.Moments (local_at (zone_on side a b).ahead moment) → ⊥

-- no verdict on moments can be told: it would take too long, or its moment can't be printed
abbrev pub IsUntold : Zone → Zone → Series → Series → Type 0
IsUntold a b P Q = IsLong (series_cycle P) (series_cycle Q) ⊎ IsUnwritten a b (Occurs P) (Occurs Q)

-- what is said by the moments of UTC in these zones; by local times, if no verdict on moments can be told
abbrev pub IsSaidByMoments : Zone → Zone → Series → Series → Said → Type 0
IsSaidByMoments a b P Q said =
    IsComparedTruly a b (Occurs P) (Occurs Q) said ⊎ (IsUntold a b P Q × IsComparedLocally Unknown (Occurs P) (Occurs Q) said)

-- ---- what is said

-- what is said of the times of two series that are compared in this way
abbrev pub IsSaidBy : Reading → Series → Series → Said → Type 0
IsSaidBy Reading.local P Q said = IsComparedLocally Local (Occurs P) (Occurs Q) said
IsSaidBy Reading.unknown P Q said = IsComparedLocally Unknown (Occurs P) (Occurs Q) said
IsSaidBy (Reading.floating side) P Q said = IsSaidFloating side (Occurs P) (Occurs Q) said
IsSaidBy (Reading.moments a b) P Q said = IsSaidByMoments a b P Q said

-- ---- lengths

-- a series occurs at a moment of its own kind
abbrev pub occurs_at : Series → ℤ → Type 0
occurs_at series t = Occurs series series.kind t

-- both sides tell how long their occurrences are, by dates of the years 1 to 9999, and this is the first occurrence that has two lengths
pub record IsOtherLength (P : ℤ → Type 0) (a b : Option Lengths) (other : OtherLength) : Type 0 where
  pub lengths_a : Lengths
  pub lengths_b : Lengths
  pub of_a : a ≡ Some lengths_a
  pub of_b : b ≡ Some lengths_b
  pub near_a : HasNearDates lengths_a.dated
  pub near_b : HasNearDates lengths_b.dated
  pub is_other : IsFirstOther P lengths_a lengths_b other

-- some occurrence has two lengths
abbrev pub HasOtherLength : (ℤ → Type 0) → Option Lengths → Option Lengths → Type 0
HasOtherLength P a b = (other : OtherLength) × IsOtherLength P a b other

-- the answer is the first occurrence that has two lengths, or there is none
abbrev pub IsAnsweredLength : (ℤ → Type 0) → Option Lengths → Option Lengths → Option OtherLength → Type 0
IsAnsweredLength P a b (Some other) = IsOtherLength P a b other
IsAnsweredLength P a b None = HasOtherLength P a b → ⊥

-- it is said that an occurrence has two lengths
pub record IsSaidLength (P : ℤ → Type 0) (a b : Option Lengths) (said : Said) : Type 0 where
  pub other : OtherLength
  pub is_other : IsOtherLength P a b other
  pub is : said ≡ Length other

-- the local times that were compared are equal, for ever
abbrev pub has_equal_times : Said → Bool
has_equal_times (Compared Yes Local) = true
has_equal_times (Compared Yes Unknown) = true
has_equal_times (Compared Yes (Moments ahead only_zones)) = only_zones
has_equal_times said = false

-- what is said behind what is said of times: if local times are equal for ever, that an occurrence has two lengths, if one has
abbrev pub IsSaidBehind : (ℤ → Type 0) → Option Lengths → Option Lengths → Said → Said → Type 0
IsSaidBehind P a b times said =
    ((has_equal_times times ≡ true) × IsSaidLength P a b said)
    ⊎ (((has_equal_times times ≡ true) → HasOtherLength P a b → ⊥) × (said ≡ times))

-- what is said of two series and the lengths of their occurrences, if they are compared in this way
pub record IsSaidWithLengths (reading : Reading) (P Q : Series) (a b : Option Lengths) (said : Said) : Type 0 where
  pub times : Said
  pub of_times : IsSaidBy reading P Q times
  pub behind : IsSaidBehind (occurs_at P) a b times said

-- the events of a key state a series in each calendar, and this is said of them, in the way that their kinds and zones ask for
pub record IsComparison (means_a means_b : Meaning) (a b : Stated) (said : Said) : Type 0 where
  pub series_a : Series
  pub series_b : Series
  pub first : IsKeySeries a series_a
  pub second : IsKeySeries b series_b
  pub is_said :
      IsSaidWithLengths (reading_of means_a means_b series_a.kind series_b.kind a.zones b.zones) series_a series_b a.lengths b.lengths said

-- what is said of a key that both calendars have: that both refuse it in the same words; otherwise the refusal of A, otherwise that of B,
-- otherwise whether their occurrences are equal
abbrev pub IsSaidOfBoth : Meaning → Meaning → Stated → Stated → Said → Type 0
IsSaidOfBoth means_a means_b a b said = IsSaidAlike a b said ⊎ (IsSaidRefused a b said ⊎ IsComparison means_a means_b a b said)

-- What is said of a key by what its events state in A and in B, if they are some, and by what the names of zones mean there: if one
-- calendar has none, what is so of those of the other.
abbrev pub IsSaid : Meaning → Meaning → Option Stated → Option Stated → Said → Type 0
IsSaid means_a means_b None None said = said ≡ Only A
IsSaid means_a means_b (Some a) None said = said ≡ said_alone A a
IsSaid means_a means_b None (Some b) said = said ≡ said_alone B b
IsSaid means_a means_b (Some a) (Some b) said = IsSaidOfBoth means_a means_b a b said

-- ---- readings

-- the events of a key are compared, and neither refused nor alone
abbrev pub is_compared : Said → Bool
is_compared (Only side) = false
is_compared (Refused side refusal) = false
is_compared (Alike refusal) = false
is_compared (Floating side) = true
is_compared (Length other) = true
is_compared (Compared verdict zones) = true

-- How the events of a key that are compared are read, in A or in B, if they are at odds with RFC 5545.
abbrev pub marks_said : Option Stated → Option Stated → Said → Marks
marks_said (Some a) (Some b) said = if is_compared said then marks_of_both a.marks b.marks else no_marks
marks_said a b said = no_marks

-- ---- what can be printed

-- an offset that is told is less than a day
abbrev pub IsPrintableAhead : Ahead → Type 0
IsPrintableAhead Utc = ⊤
IsPrintableAhead (By offset) = IsBelowDay offset

-- the offset of the side that is named, if one is, can be printed
abbrev pub ArePrintableZones : Zones → Type 0
ArePrintableZones Local = ⊤
ArePrintableZones Unknown = ⊤
ArePrintableZones (Moments ahead only_zones) = IsPrintableAhead ahead

-- what a report says of a key can be printed
abbrev pub IsPrintableSaid : Said → Type 0
IsPrintableSaid (Only side) = ⊤
IsPrintableSaid (Refused side refusal) = ⊤
IsPrintableSaid (Alike refusal) = ⊤
IsPrintableSaid (Floating side) = ⊤
IsPrintableSaid (Length other) = ⊤
IsPrintableSaid (Compared verdict zones) = IsPrintable verdict × ArePrintableZones zones
