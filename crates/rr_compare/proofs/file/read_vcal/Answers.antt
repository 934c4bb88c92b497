use Rattle.rr_vcalfile.specs.Files.{calendar as vcal_calendar, calendar_in as vcal_calendar_in}
use Rattle.rr_compare.specs.Calendars.{own_calendar}
use Rattle.rr_compare.proofs.FileLemmas.{fault_as}
use Rattle.rr_compare.proofs.file.read_vcal.Goals as goal

pub returns-in-Ok : goal.returns-in-Ok
returns-in-Ok c = c.in-Ok.ensures

pub returns-in-Err : goal.returns-in-Err
returns-in-Err c = fault_as (vcal_calendar c.args.offset c.args.text.now) vcal_calendar_in own_calendar c.in-Err.fault c.in-Err.ensures
