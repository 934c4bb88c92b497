use Rattle.rr_icalfile.proofs.FileLemmas.{key-put}
use Rattle.rr_icalfile.proofs.file.key_at.Goals as goal

pub returns : goal.returns
returns c = key-put c.args.pieces.now c.args.index _ c.key_of.result c.requires.within c.key_of.ensures
