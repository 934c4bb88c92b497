use Rattle.rr_icalfile.proofs.StatedLemmas.{by_file}
use Rattle.rr_icalfile.proofs.file.IcalFileEventFile.key_series.Goals as goal

pub returns : goal.returns
returns c =
    by_file c.args.self.now c.self.inside.offset c.self.inside.lenient c.self.inside.pieces.items c.as_slice.result.now
    c.args.indexes.now c.state_key.result c.self.view_is c.as_slice.ensures.value c.state_key.ensures
