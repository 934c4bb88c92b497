use Rattle.rr_compare.specs.Parsed.{request_in}
use Rattle.rr_calendars.proofs.FetchLemmas.{all_fetched}
use Rattle.rr_calendars.proofs.work.fetch_all.Goals as goal

pub returns-clause-files : goal.returns-clause-files
returns-clause-files g c =
    all_fetched (request_in c.args.request) _ _ _ c.in_ok-old.old.items c.in_ok-new.new.items c.in_ok-zones.zones.items c.in_ok-old.ensures.held
    c.in_ok-new.ensures.held c.in_ok-old.ensures.bytes c.in_ok-new.ensures.bytes c.in_ok-zones.ensures.bytes
