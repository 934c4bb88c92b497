-- What is printed of a refusal.
use Rattle.std.specs.Prelude.{ℕ, List, ◌++◌, codes}
use Rattle.std.specs.Fmt.{decimal}
use Rattle.rr_model.specs.declared.refusal.Member.{Member}
use Rattle.rr_model.specs.declared.refusal.Member.TheVariants as member
use Rattle.rr_model.specs.declared.refusal.Refusal.{Refusal}
use Rattle.rr_model.specs.declared.refusal.Refusal.TheVariants.{TooLong, NotText, BadLine, SeveralEvents, NoStart, BadMoment, MixedKinds, BadRule}
use Rattle.rr_model.specs.declared.refusal.Refusal.TheVariants.{PartTwice, NumberRange, UntilAndCount, NotAllowed, LeapSecond, UtcMoment, UntilKind}
use Rattle.rr_model.specs.declared.refusal.Refusal.TheVariants.{UntilBeforeStart, NotSynchronised, PeriodValue, Extended, BadJson, BadMember, StartDiffers}
use Rattle.rr_model.specs.declared.refusal.Refusal.TheVariants.{NoOccurrence, IntervalTooLarge, CycleTooLong, CountedTooFar, TooManyMoments, NotSayable}
use Rattle.rr_model.specs.declared.refusal.Refusal.TheVariants.{TooManyParts, NotRising, NotCanonical, MixedSets, PastRange}

-- a member by its name in JSON (Microsoft Graph, event, recurrencePattern, recurrenceRange)
abbrev pub member_text : Member → List ℕ
member_text member.Start = codes "start"
member_text member.DateTime = codes "dateTime"
member_text member.TimeZone = codes "timeZone"
member_text member.IsAllDay = codes "isAllDay"
member_text member.Recurrence = codes "recurrence"
member_text member.Pattern = codes "pattern"
member_text member.Range = codes "range"
member_text member.PatternType = codes "pattern.type"
member_text member.Interval = codes "interval"
member_text member.DaysOfWeek = codes "daysOfWeek"
member_text member.FirstDayOfWeek = codes "firstDayOfWeek"
member_text member.Index = codes "index"
member_text member.DayOfMonth = codes "dayOfMonth"
member_text member.Month = codes "month"
member_text member.RangeType = codes "range.type"
member_text member.StartDate = codes "startDate"
member_text member.EndDate = codes "endDate"
member_text member.NumberOfOccurrences = codes "numberOfOccurrences"

-- the name of a refusal
abbrev pub refusal_name : Refusal → List ℕ
refusal_name TooLong = codes "TooLong"
refusal_name NotText = codes "NotText"
refusal_name (BadLine line) = codes "BadLine"
refusal_name SeveralEvents = codes "SeveralEvents"
refusal_name NoStart = codes "NoStart"
refusal_name (BadMoment line) = codes "BadMoment"
refusal_name (MixedKinds line) = codes "MixedKinds"
refusal_name (BadRule line) = codes "BadRule"
refusal_name (PartTwice line) = codes "PartTwice"
refusal_name (NumberRange line) = codes "NumberRange"
refusal_name UntilAndCount = codes "UntilAndCount"
refusal_name NotAllowed = codes "NotAllowed"
refusal_name LeapSecond = codes "LeapSecond"
refusal_name UtcMoment = codes "UtcMoment"
refusal_name UntilKind = codes "UntilKind"
refusal_name UntilBeforeStart = codes "UntilBeforeStart"
refusal_name (NotSynchronised rule) = codes "NotSynchronised"
refusal_name PeriodValue = codes "PeriodValue"
refusal_name Extended = codes "Extended"
refusal_name BadJson = codes "BadJson"
refusal_name (BadMember member) = codes "BadMember"
refusal_name StartDiffers = codes "StartDiffers"
refusal_name NoOccurrence = codes "NoOccurrence"
refusal_name IntervalTooLarge = codes "IntervalTooLarge"
refusal_name CycleTooLong = codes "CycleTooLong"
refusal_name CountedTooFar = codes "CountedTooFar"
refusal_name TooManyMoments = codes "TooManyMoments"
refusal_name NotSayable = codes "NotSayable"
refusal_name TooManyParts = codes "TooManyParts"
refusal_name (NotRising line) = codes "NotRising"
refusal_name NotCanonical = codes "NotCanonical"
refusal_name MixedSets = codes "MixedSets"
refusal_name PastRange = codes "PastRange"

-- the name, and after a blank the line, the rule or the member if there is one
abbrev pub refusal_text : Refusal → List ℕ
refusal_text TooLong = codes "TooLong"
refusal_text NotText = codes "NotText"
refusal_text (BadLine line) = codes "BadLine " ++ decimal line
refusal_text SeveralEvents = codes "SeveralEvents"
refusal_text NoStart = codes "NoStart"
refusal_text (BadMoment line) = codes "BadMoment " ++ decimal line
refusal_text (MixedKinds line) = codes "MixedKinds " ++ decimal line
refusal_text (BadRule line) = codes "BadRule " ++ decimal line
refusal_text (PartTwice line) = codes "PartTwice " ++ decimal line
refusal_text (NumberRange line) = codes "NumberRange " ++ decimal line
refusal_text UntilAndCount = codes "UntilAndCount"
refusal_text NotAllowed = codes "NotAllowed"
refusal_text LeapSecond = codes "LeapSecond"
refusal_text UtcMoment = codes "UtcMoment"
refusal_text UntilKind = codes "UntilKind"
refusal_text UntilBeforeStart = codes "UntilBeforeStart"
refusal_text (NotSynchronised rule) = codes "NotSynchronised " ++ decimal rule
refusal_text PeriodValue = codes "PeriodValue"
refusal_text Extended = codes "Extended"
refusal_text BadJson = codes "BadJson"
refusal_text (BadMember member) = codes "BadMember " ++ member_text member
refusal_text StartDiffers = codes "StartDiffers"
refusal_text NoOccurrence = codes "NoOccurrence"
refusal_text IntervalTooLarge = codes "IntervalTooLarge"
refusal_text CycleTooLong = codes "CycleTooLong"
refusal_text CountedTooFar = codes "CountedTooFar"
refusal_text TooManyMoments = codes "TooManyMoments"
refusal_text NotSayable = codes "NotSayable"
refusal_text TooManyParts = codes "TooManyParts"
refusal_text (NotRising line) = codes "NotRising " ++ decimal line
refusal_text NotCanonical = codes "NotCanonical"
refusal_text MixedSets = codes "MixedSets"
refusal_text PastRange = codes "PastRange"
