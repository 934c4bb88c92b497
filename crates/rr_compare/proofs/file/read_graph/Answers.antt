use Rattle.rr_compare.specs.Calendars.{own_calendar}
use Rattle.rr_compare.specs.Names.{meaning_of_names}
use Rattle.rr_compare.specs.Turned.{calendar as graph_calendar, calendar_in as graph_calendar_in}
use Rattle.rr_compare.proofs.FileLemmas.{fault_as}
use Rattle.rr_compare.proofs.file.read_graph.Goals as goal

pub returns-in-Ok : goal.returns-in-Ok
returns-in-Ok c = c.in-Ok.ensures

pub returns-in-Err : goal.returns-in-Err
returns-in-Err c =
    fault_as (graph_calendar (meaning_of_names c.args.names.now) c.args.names.now.offset c.args.text.now) graph_calendar_in own_calendar c.in-Err.fault
    c.in-Err.ensures
