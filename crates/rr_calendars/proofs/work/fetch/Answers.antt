use Rattle.std.proofs.Common.{ℕ, ◌+◌, Vec, Global}
use Rattle.rr_seam.specs.declared.file.TheConstants.{MAX_FILE}
use Rattle.rr_io.proofs.ToldLemmas.{fetched}
use Rattle.rr_calendars.proofs.work.fetch.Goals as goal

pub returns-clause-bytes : goal.returns-clause-bytes
returns-clause-bytes g c =
    fetched (λ (v : Vec ℕ Global). v.items) (MAX_FILE + 1) (g.S.Source.held c.args.source.now c.args.name.now) c.fetch_within.result
    c.fetch_within.ensures.bytes
