use Rattle.rr_io.proofs.HostLemmas.{read_cut}
use Rattle.rr_io.proofs.host.read_front.Goals as goal

pub returns : goal.returns
returns g c =
    read_cut (g.F.Read.remaining c.args.reader) _ _ c.take.result.limit _ c.new-bytes.ensures.items c.take.ensures.limit
    (rw c.take.ensures.inner at c.in_ok-read_to_end.ensures.bytes)
