use Rattle.rr_canon.proofs.ReadingLemmas.{descriptor_reads_back}
use Rattle.rr_canon.proofs.laws.descriptors_read_back.Goals as goal

pub returns : goal.returns
returns c = descriptor_reads_back
