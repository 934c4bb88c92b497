-- Where the events of a line of a report stand on a page.
use Rattle.std.specs.Prelude.{ℕ, ◌==◌, nat_lt, ◌-◌, Bool, true, false, ◌&&◌, ◌||◌, if◌then◌else◌, List, length, count_by}
use Rattle.rr_model.specs.declared.verdict.Verdict.TheVariants.{Yes, No}
use Rattle.rr_page.specs.declared.class.Class.{Class}
use Rattle.rr_page.specs.declared.class.Class.TheVariants as class
use Rattle.rr_trip.specs.declared.report.ReportLine.{ReportLine}
use Rattle.rr_trip.specs.declared.said.Said.{Said}
use Rattle.rr_trip.specs.declared.said.Said.TheVariants.{Only, Refused, Alike, Floating, Length, Compared}
use Rattle.rr_trip.specs.declared.said.Zones.{Zones}
use Rattle.rr_trip.specs.declared.said.Zones.TheVariants.{Local, Unknown, Moments}

-- ---- classes

-- one file alone has the events of a line
abbrev pub is_of_one : ReportLine → Bool
is_of_one line = length line.in_a.items == 0 || length line.in_b.items == 0

-- events with equal local times, by what is known of their zones
abbrev pub class_of_equal : Zones → Class
class_of_equal Local = class.Equal
class_of_equal Unknown = class.Undecided
class_of_equal (Moments ahead only_zones) = class.Equal

-- events of which this is said, by whether one file alone has them
abbrev pub class_by : Bool → Said → Class
class_by one (Only side) = class.Look
class_by one (Refused side refusal) = class.Undecided
class_by one (Alike refusal) = class.Undecided
class_by one (Floating side) = class.Look
class_by one (Length other) = class.Look
class_by true (Compared Yes zones) = class.Cancelled
class_by false (Compared Yes zones) = class_of_equal zones
class_by one (Compared (No kind at side) zones) = class.Look

-- Where the events of a line stand: to look at if they differ or stand in one file alone, undecided if nobody can tell, cancelled if one file
-- alone has them and nothing occurs in them, otherwise equal.
unfoldable pub class_of : ReportLine → Class
class_of line = class_by (is_of_one line) line.said

-- ---- lines of a class

-- the two classes are one
abbrev pub is_same_class : Class → Class → Bool
is_same_class class.Look class.Look = true
is_same_class class.Undecided class.Undecided = true
is_same_class class.Cancelled class.Cancelled = true
is_same_class class.Equal class.Equal = true
is_same_class c other = false

-- the line is of this class
abbrev pub is_of : Class → ReportLine → Bool
is_of c line = is_same_class c (class_of line)

-- how many lines are of a class
abbrev pub count_of : Class → List ReportLine → ℕ
count_of c lines = count_by (λ (line : ReportLine). is_of c line) lines

-- the line is of events with the same occurrences, or of cancelled ones
unfoldable pub is_even : ReportLine → Bool
is_even line = is_of class.Cancelled line || is_of class.Equal line

-- how many lines are of such events
abbrev pub even_count : List ReportLine → ℕ
even_count lines = count_by (λ (line : ReportLine). is_even line) lines

-- ---- the first lines of a class

-- a line is shown if it is of the class, and `left` more may be shown, at least one
abbrev pub is_shown : Class → ℕ → ReportLine → Bool
is_shown c left line = nat_lt 0 left && is_of c line

-- how many more may be shown behind a line
abbrev pub left_behind : Class → ℕ → ReportLine → ℕ
left_behind c left line = if is_shown c left line then left - 1 else left
