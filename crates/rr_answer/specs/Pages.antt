-- What `help`, `version` and `explain` print: the table of commands, the rows of docs/REFUSALS.md and release/VERSION.
use Rattle.std.specs.Prelude.{ℕ, List, [], ◌∷◌, Option, Some, None, if◌then◌else◌, bytes_eq, codes}
use Rattle.rr_answer.specs.declared.pages.Page.{Page}

-- the text of the first page of this name
abbrev pub page_in : List ℕ → List Page → Option (List ℕ)
page_in name [] = None
page_in name (page ∷ pages) = if bytes_eq name page.name.now then Some page.text.now else page_in name pages

-- commands.txt: BEGIN (bench/commands.py writes these lines)
-- the page of help
abbrev pub help : List ℕ
help = codes "rr says whether a repeating series survived a trip between calendars, for all years to come.\n\n  rr equal A B           yes, or the first occurrence that only one of them has, and which\n  rr within A B          yes, or the first occurrence of A that B lacks\n  rr disjoint A B        yes, or the first common occurrence\n  rr clear D A E B       yes, or the first second at which A, for D seconds, and B, for E seconds, both run\n  rr differences N A B   the first N occurrences that exactly one of A and B has, one a line, each with its side\n  rr check A             the days after which the series repeats, or why it is refused\n  rr list N A            the first N occurrences, one a line\n  rr from MOMENT N A     the first N occurrences that do not come before a date or a moment, one a line\n  rr between FROM TO A   the occurrences that do not come before FROM and come before TO, one a line\n  rr nth N A             the N-th occurrence; rank MOMENT A: how many come no later than a date or a moment\n  rr canon A             the canonical text: equal bytes exactly for equal occurrences; canon1 A writes its first version\n  rr union A B           the canonical text of what either has; common A B: of what both have; minus A B: of what A alone has\n  rr translate LANG A    the same occurrences in another language: rrule, vcal or graph\n  rr split N graph A     a plan for Microsoft Graph: at most N series, instances of them to cancel, and single events; vcal: events of vCalendar 1.0\n  rr infer A             the first single rule that has the occurrences\n  rr drill SEED N        how many verdicts between N drawn series are yes\n  rr help [COMMAND]      this page, or what COMMAND prints; explain REFUSAL: what a refusal means, and what to do; version: the release\n\nA and B are LANG:FILE or LANG@OFFSET:FILE. OFFSET is as +01:00, or zone, which reads moments in UTC by the VTIMEZONE of the file\n(rrule and rscale); FILE is a file, or - for standard input, and LANG one of\n\n  rrule    iCalendar\n  vcal     vCalendar 1.0\n  graph    the JSON of Microsoft Graph\n  list     dates, one a line\n  canon    a canonical text\n  rscale   iCalendar with RSCALE and SKIP, RFC 7529\n\n  rr check rrule:event.ics\n  rr equal rrule:sent.ics graph:received.json\n  rr translate vcal rrule:event.ics >event.vcs\n\nThe status is 0 for yes or done, 1 for no, 2 if an operand is refused, 3 for words that are no command, 4 if an operand could not be\nread, 5 if the output could not be written, 6 out of memory, 7 if a word is no text in UTF-8.\n\n'rr help COMMAND' says more of a command, as 'rr help list', and 'rr explain REFUSAL' of a refusal, as 'rr explain UtcMoment'. The manual is\ndocs/MANUAL.md, and share/doc/rr/MANUAL.md in the folder of an installation.\n"

-- the line that names the release
abbrev pub version : List ℕ
version = codes "rr 0.21.0\n"

-- what a command prints and takes, if there is a command of this name
abbrev pub help_of : List ℕ → Option (List ℕ)
help_of name =
    if bytes_eq name (codes "equal") then Some (codes "rr equal A B\n\nIt prints yes, or no with the first occurrence that only one of them has, and which.\nA and B are LANG:FILE or LANG@OFFSET:FILE, as rrule:event.ics; LANG is rrule, vcal, graph, list, canon or rscale.\n")
    else if bytes_eq name (codes "within") then Some (codes "rr within A B\n\nIt prints yes, or no with the first occurrence of A that B lacks.\nA and B are LANG:FILE or LANG@OFFSET:FILE, as rrule:event.ics; LANG is rrule, vcal, graph, list, canon or rscale.\n")
    else if bytes_eq name (codes "disjoint") then Some (codes "rr disjoint A B\n\nIt prints yes, or no with the first common occurrence.\nA and B are LANG:FILE or LANG@OFFSET:FILE, as rrule:event.ics; LANG is rrule, vcal, graph, list, canon or rscale.\n")
    else if bytes_eq name (codes "clear") then Some (codes "rr clear D A E B\n\nIt prints whether A, for D seconds each time, and B, for E seconds, never run at the same time: yes, or no with the first second that they share and the two occurrences.\nD is a number from 1 to 31,622,400.\nE is a number from 1 to 31,622,400.\nA and B are LANG:FILE or LANG@OFFSET:FILE, as rrule:event.ics; LANG is rrule, vcal, graph, list, canon or rscale.\n")
    else if bytes_eq name (codes "differences") then Some (codes "rr differences N A B\n\nIt prints the first N occurrences that exactly one of both has, one a line, each with its side (A or B); status 0 and no line if there are none.\nN is a number from 1 to 10,000.\nA and B are LANG:FILE or LANG@OFFSET:FILE, as rrule:event.ics; LANG is rrule, vcal, graph, list, canon or rscale.\n")
    else if bytes_eq name (codes "check") then Some (codes "rr check A\n\nIt prints cycle DAYS: the series is sound, and its endless rules repeat after that many days.\nA is LANG:FILE or LANG@OFFSET:FILE, as rrule:event.ics; LANG is rrule, vcal, graph or list.\n")
    else if bytes_eq name (codes "list") then Some (codes "rr list N A\n\nIt prints the first N occurrences, one a line.\nN is a number from 1 to 100,000.\nA is LANG:FILE or LANG@OFFSET:FILE, as rrule:event.ics; LANG is rrule, vcal, graph or list.\n")
    else if bytes_eq name (codes "from") then Some (codes "rr from MOMENT N A\n\nIt prints the first N occurrences that do not come before a date or a moment, one a line.\nN is a number from 1 to 100,000.\nMOMENT is a date or a moment of the years 1 to 9999, as 2024-02-29 or 2024-02-29T09:30:00.\nA is LANG:FILE or LANG@OFFSET:FILE, as rrule:event.ics; LANG is rrule, vcal, graph, list, canon or rscale.\n")
    else if bytes_eq name (codes "between") then Some (codes "rr between FROM TO A\n\nIt prints the occurrences that do not come before one date or moment and come before another, one a line; status 1 if there are more than 100,000, of which the first are printed.\nFROM is a date or a moment of the years 1 to 9999, as 2024-02-29 or 2024-02-29T09:30:00.\nTO is a date or a moment of the years 1 to 9999, as 2024-02-29 or 2024-02-29T09:30:00.\nA is LANG:FILE or LANG@OFFSET:FILE, as rrule:event.ics; LANG is rrule, vcal, graph, list, canon or rscale.\n")
    else if bytes_eq name (codes "nth") then Some (codes "rr nth N A\nrr rank MOMENT A\n\nIt prints the N-th occurrence, or none; how many come no later than a date or a moment.\nN is a number from 1 to 1,125,899,906,842,624.\nMOMENT is a date or a moment of the years 1 to 9999, as 2024-02-29 or 2024-02-29T09:30:00.\nA is LANG:FILE or LANG@OFFSET:FILE, as rrule:event.ics; LANG is rrule, vcal, graph, list, canon or rscale.\n")
    else if bytes_eq name (codes "rank") then Some (codes "rr nth N A\nrr rank MOMENT A\n\nIt prints the N-th occurrence, or none; how many come no later than a date or a moment.\nN is a number from 1 to 1,125,899,906,842,624.\nMOMENT is a date or a moment of the years 1 to 9999, as 2024-02-29 or 2024-02-29T09:30:00.\nA is LANG:FILE or LANG@OFFSET:FILE, as rrule:event.ics; LANG is rrule, vcal, graph, list, canon or rscale.\n")
    else if bytes_eq name (codes "canon") then Some (codes "rr canon A\nrr canon1 A\n\nIt prints the canonical text: equal bytes exactly for equal occurrences; its first version.\nA is LANG:FILE or LANG@OFFSET:FILE, as rrule:event.ics; LANG is rrule, vcal, graph, list, canon or rscale.\n")
    else if bytes_eq name (codes "canon1") then Some (codes "rr canon A\nrr canon1 A\n\nIt prints the canonical text: equal bytes exactly for equal occurrences; its first version.\nA is LANG:FILE or LANG@OFFSET:FILE, as rrule:event.ics; LANG is rrule, vcal, graph, list, canon or rscale.\n")
    else if bytes_eq name (codes "union") then Some (codes "rr union A B\nrr common A B\nrr minus A B\n\nIt prints the canonical text of what either has, of what both have, of what A alone has.\nA and B are LANG:FILE or LANG@OFFSET:FILE, as rrule:event.ics; LANG is rrule, vcal, graph, list, canon or rscale.\n")
    else if bytes_eq name (codes "common") then Some (codes "rr union A B\nrr common A B\nrr minus A B\n\nIt prints the canonical text of what either has, of what both have, of what A alone has.\nA and B are LANG:FILE or LANG@OFFSET:FILE, as rrule:event.ics; LANG is rrule, vcal, graph, list, canon or rscale.\n")
    else if bytes_eq name (codes "minus") then Some (codes "rr union A B\nrr common A B\nrr minus A B\n\nIt prints the canonical text of what either has, of what both have, of what A alone has.\nA and B are LANG:FILE or LANG@OFFSET:FILE, as rrule:event.ics; LANG is rrule, vcal, graph, list, canon or rscale.\n")
    else if bytes_eq name (codes "translate") then Some (codes "rr translate LANG A\n\nIt prints the same occurrences as rrule, vcal or graph; refused A NotSayable if no single rule (vcal) or pattern (graph) that is looked for has them.\nLANG is rrule, vcal or graph.\nA is LANG:FILE or LANG@OFFSET:FILE, as rrule:event.ics; LANG is rrule, vcal, graph or list, and with graph also rscale.\n")
    else if bytes_eq name (codes "split") then Some (codes "rr split N graph A\nrr split N vcal A\n\nIt prints a plan for Microsoft Graph: at most N series, the instances of them to cancel and single events, which together have exactly the occurrences, each once; with vcal at most N events of vCalendar 1.0 with one rule each and the dates taken out of it, and one of single dates; refused A NotSayable if the parts that are tried one after another do not lead there.\nN is a number from 1 to 64.\nA is LANG:FILE or LANG@OFFSET:FILE, as rrule:event.ics; LANG is rrule, vcal, graph, list, canon or rscale.\n")
    else if bytes_eq name (codes "infer") then Some (codes "rr infer A\n\nIt prints the first single rule that has the occurrences.\nA is LANG:FILE or LANG@OFFSET:FILE, as rrule:event.ics; LANG is rrule, vcal, graph or list.\n")
    else if bytes_eq name (codes "drill") then Some (codes "rr drill SEED N\n\nIt prints a large input in two words: how many verdicts between N series drawn from a number are yes.\nSEED is a number from 0 to 4,294,967,295.\nN is a number from 1 to 100.\n")
    else if bytes_eq name (codes "help") then Some (codes "rr help [COMMAND]\nrr explain REFUSAL\nrr version\n\nIt prints a page of help, or what a command prints and takes; what a refusal means and what to do, as explain UtcMoment; the release. --help and --version are the same.\n")
    else if bytes_eq name (codes "explain") then Some (codes "rr help [COMMAND]\nrr explain REFUSAL\nrr version\n\nIt prints a page of help, or what a command prints and takes; what a refusal means and what to do, as explain UtcMoment; the release. --help and --version are the same.\n")
    else if bytes_eq name (codes "version") then Some (codes "rr help [COMMAND]\nrr explain REFUSAL\nrr version\n\nIt prints a page of help, or what a command prints and takes; what a refusal means and what to do, as explain UtcMoment; the release. --help and --version are the same.\n")
    else None

-- what a refusal means and what to do, if there is a refusal of this name
abbrev pub explanation_of : List ℕ → Option (List ℕ)
explanation_of name =
    if bytes_eq name (codes "TooLong") then Some (codes "TooLong\n\nIt comes if the text has more than 1,048,576 bytes.\nLanguages: all.\nWhat to do: compare whole calendars by rr-calendars OLD NEW, or take one event out with its instances by examples/one_event.awk. A canonical text of that length can't be read again.\n")
    else if bytes_eq name (codes "NotText") then Some (codes "NotText\n\nIt comes if the bytes are no UTF-8.\nLanguages: rrule, rscale, graph, list.\nWhat to do: iconv -f latin1 -t utf-8 FILE.\n")
    else if bytes_eq name (codes "BadLine") then Some (codes "BadLine LINE\n\nIt comes if a line that is used has no : before its value, an END closes another component than the one that is open, or the text ends within one (then the line is its last).\nLanguages: rrule, rscale, vcal.\nWhat to do: copy the whole file; mend the line.\n")
    else if bytes_eq name (codes "SeveralEvents") then Some (codes "SeveralEvents\n\nIt comes if a second event begins.\nLanguages: rrule, rscale, vcal.\nWhat to do: compare both files by rr-calendars OLD NEW, or take one event out with its instances by examples/one_event.awk.\n")
    else if bytes_eq name (codes "NoStart") then Some (codes "NoStart\n\nIt comes if there is no DTSTART, or no start in a Graph event.\nLanguages: rrule, rscale, vcal, graph.\nWhat to do: add it: a rule alone says no dates. If the text is an answer of Graph with a list value, compare whole lists by rr-calendars OLD graph:NEW, or hand over one of its events, as jq '.value[0]' FILE prints it, without its cancelled and changed instances.\n")
    else if bytes_eq name (codes "BadMoment") then Some (codes "BadMoment LINE\n\nIt comes if a date or a moment is malformed, or is no date of the years 1 to 9999, as it stands or with the offset added.\nLanguages: rrule, rscale, vcal, list.\nWhat to do: mend it: 20240229, 20240229T093000, in a list 2024-02-29.\n")
    else if bytes_eq name (codes "MixedKinds") then Some (codes "MixedKinds LINE\n\nIt comes if the start is a date and this value a moment, or the other way round.\nLanguages: rrule, vcal, list.\nWhat to do: write both as dates, or both as moments.\n")
    else if bytes_eq name (codes "BadRule") then Some (codes "BadRule LINE\n\nIt comes if a rule is not in the grammar of its language.\nLanguages: rrule, rscale, vcal.\nWhat to do: mend it. Is it the right language? A file with VERSION:1.0 is vcal.\n")
    else if bytes_eq name (codes "PartTwice") then Some (codes "PartTwice LINE\n\nIt comes if a part of a rule, or the start, stands twice.\nLanguages: rrule, rscale, vcal.\nWhat to do: keep one of them.\n")
    else if bytes_eq name (codes "NumberRange") then Some (codes "NumberRange LINE\n\nIt comes if a number of a rule is below or above what its part allows.\nLanguages: rrule, rscale, vcal.\nWhat to do: write a number that the part allows.\n")
    else if bytes_eq name (codes "UntilAndCount") then Some (codes "UntilAndCount\n\nIt comes if a rule has both UNTIL and COUNT.\nLanguages: rrule, rscale.\nWhat to do: keep the one that comes first.\n")
    else if bytes_eq name (codes "NotAllowed") then Some (codes "NotAllowed\n\nIt comes if parts stand together that RFC 5545, section 3.3.10, does not allow, or a rule of hours, minutes or seconds has a date as its start.\nLanguages: rrule.\nWhat to do: write BYMONTHDAY in a monthly rule, BYYEARDAY and BYWEEKNO in a yearly one; give the start a time.\n")
    else if bytes_eq name (codes "LeapSecond") then Some (codes "LeapSecond\n\nIt comes if BYSECOND lists 60.\nLanguages: rrule.\nWhat to do: leave 60 out: local time has no such second in rr.\n")
    else if bytes_eq name (codes "UtcMoment") then Some (codes "UtcMoment\n\nIt comes if a moment has a Z, the start is local time, and no offset is stated; after @zone no zone of the file turns it.\nLanguages: rrule, rscale, vcal.\nWhat to do: read it by the file's own zone, as in rrule@zone:FILE, or state how far local time is ahead of UTC at that moment, as in rrule@+01:00:FILE.\n")
    else if bytes_eq name (codes "UntilKind") then Some (codes "UntilKind\n\nIt comes if UNTIL is a date and the start a moment, or the other way round.\nLanguages: rrule, rscale, vcal.\nWhat to do: RFC 5545 asks for the same kind. Decide whether the last day counts, and write that moment.\n")
    else if bytes_eq name (codes "UntilBeforeStart") then Some (codes "UntilBeforeStart\n\nIt comes if UNTIL is before the start.\nLanguages: rrule, rscale, vcal.\nWhat to do: is the year right, and the offset?.\n")
    else if bytes_eq name (codes "NotSynchronised") then Some (codes "NotSynchronised RULE\n\nIt comes if the rule does not choose the start.\nLanguages: rrule, rscale, vcal.\nWhat to do: move the start to the first day that the rule chooses; if it shall count too, keep its day as an RDATE line.\n")
    else if bytes_eq name (codes "PeriodValue") then Some (codes "PeriodValue\n\nIt comes if an RDATE is a period, a moment with an end or a length.\nLanguages: rrule, vcal.\nWhat to do: write the moment alone.\n")
    else if bytes_eq name (codes "Extended") then Some (codes "Extended\n\nIt comes if a rule has RSCALE or SKIP (RFC 7529).\nLanguages: rrule.\nWhat to do: read it as rscale, or write it without them; for the last day of each month BYMONTHDAY=-1.\n\nExtended\n\nIt comes if the rule has no RSCALE, or another calendar than GREGORIAN, another frequency than MONTHLY and YEARLY, a part that is not read, or a day of the month from the back; or there is a line RDATE, EXDATE or EXRULE.\nLanguages: rscale.\nWhat to do: read a text without RSCALE as rrule.\n")
    else if bytes_eq name (codes "BadJson") then Some (codes "BadJson\n\nIt comes if the text is no JSON, is nested more than 127 levels deep, or is no object.\nLanguages: graph.\nWhat to do: hand one event over and not a list, as jq '.[0]' FILE prints it.\n")
    else if bytes_eq name (codes "BadMember") then Some (codes "BadMember MEMBER\n\nIt comes if a member of the event is missing or has no value that Graph allows.\nLanguages: graph.\nWhat to do: mend it.\n")
    else if bytes_eq name (codes "StartDiffers") then Some (codes "StartDiffers\n\nIt comes if the date of start is not startDate of the range.\nLanguages: graph.\nWhat to do: if start is in UTC, state the offset of local time at the start, as in graph@-08:00:FILE.\n")
    else if bytes_eq name (codes "NoOccurrence") then Some (codes "NoOccurrence\n\nIt comes if the pattern has no day in its range.\nLanguages: graph.\nWhat to do: is the endDate right?.\n")
    else if bytes_eq name (codes "IntervalTooLarge") then Some (codes "IntervalTooLarge\n\nIt comes if an interval is above 999 (daily, weekly) or 99 (monthly, yearly).\nLanguages: graph.\nWhat to do: Graph has no such pattern; rrule reads longer intervals.\n")
    else if bytes_eq name (codes "CycleTooLong") then Some (codes "CycleTooLong\n\nIt comes if the series repeats after more than 16,777,216 days (some 45,900 years); of both: the two repeat together only after more, and the command is neither equal nor differences.\nLanguages: all but canon; of both: all.\nWhat to do: of both: ask equal. Otherwise add an UNTIL of your own and ask again; list does not help, since it asks for the cycle too.\n")
    else if bytes_eq name (codes "CountedTooFar") then Some (codes "CountedTooFar\n\nIt comes if the last occurrence of a rule with COUNT, an excluded one too, lies more than 16,777,216 days after the start, or the rule has fewer occurrences.\nLanguages: all but canon.\nWhat to do: is the COUNT right? For a rule without end leave it out.\n")
    else if bytes_eq name (codes "TooManyMoments") then Some (codes "TooManyMoments\n\nIt comes if the different sets of seconds that its days have hold more than 16,777,216 seconds in all; of both: those of what union, common or minus would print.\nLanguages: all but canon and rscale; of both: all.\nWhat to do: compare one rule at a time.\n")
    else if bytes_eq name (codes "NotSayable") then Some (codes "NotSayable\n\nIt comes if no single rule or pattern that is looked for has these occurrences, or on split the parts that are tried do not lead there; it is no fault of the series.\nLanguages: all.\nWhat to do: ask for several parts: for Microsoft Graph several series, as rr split 12 graph rrule:FILE, and for vCalendar 1.0 several events, as rr split 12 vcal rrule:FILE; if there are none, cut the series at a last date by rr common, and split that.\n")
    else if bytes_eq name (codes "TooManyParts") then Some (codes "TooManyParts\n\nIt comes if there are more than 16 rules, RRULE and EXRULE together, or more than 10,000 dates; in rscale there is a second rule.\nLanguages: rrule, rscale, vcal, list.\nWhat to do: divide the series, and compare part by part.\n")
    else if bytes_eq name (codes "NotCanonical") then Some (codes "NotCanonical\n\nIt comes if the bytes, without a byte order mark at the front, are not what canon or canon1 prints for any set within the bounds that the manual states.\nLanguages: canon.\nWhat to do: copy the whole text, with the line feed at its end and no carriage returns; or print it anew.\n")
    else if bytes_eq name (codes "MixedSets") then Some (codes "MixedSets\n\nIt comes if the union of dates and moments is asked for, and neither set is empty; always of both.\nLanguages: all.\nWhat to do: write both as dates, or both as moments.\n")
    else if bytes_eq name (codes "PastRange") then Some (codes "PastRange\n\nIt comes if the occurrence of this number exists, but its day is past 8213722990-12-19, which is 3,000,000,000,000 days after 1970-01-01.\nLanguages: all.\nWhat to do: ask for a smaller number.\n")
    else if bytes_eq name (codes "NotRising") then Some (codes "NotRising LINE\n\nIt comes if a date of a list is not after the one before it.\nLanguages: list.\nWhat to do: sort -u FILE.\n")
    else None

-- commands.txt: END
