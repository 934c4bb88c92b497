use Rattle.rr_icalfile.specs.Calendar.{calendar as ical_calendar, calendar_in as ical_calendar_in}
use Rattle.rr_compare.specs.Calendars.{own_calendar}
use Rattle.rr_compare.proofs.FileLemmas.{fault_as}
use Rattle.rr_compare.proofs.file.read_ical.Goals as goal

pub returns-in-Ok : goal.returns-in-Ok
returns-in-Ok c = c.in-Ok.ensures

pub returns-in-Err : goal.returns-in-Err
returns-in-Err c =
    fault_as (ical_calendar c.args.offset c.args.is_lenient c.args.text.now) ical_calendar_in own_calendar c.in-Err.fault c.in-Err.ensures
