use Rattle.std.proofs.Common.{refl}
use Rattle.rr_graphfile.proofs.FileLemmas.{calendar_read}
use Rattle.rr_graphfile.proofs.file.GraphFile.read.Goals as goal

pub returns : goal.returns
returns g c =
    calendar_read (g.N.ZoneNames.meaning c.args.names.now) c.args.offset c.args.bytes.now
    (record { offset = c.args.offset; value = c.in_ok-value.value; keys = c.in_ok-keys.keys; zones = c.in_ok-zones.zones }) refl c.in_ok-value.ensures
    (rw c.items_in.ensures at c.in_ok-keys.ensures) (rw c.items_in-2.ensures at c.in_ok-zones.ensures)
