use Rattle.rr_graph.proofs.ReadingLemmas.{reads_text, reads_no_text}
use Rattle.rr_graph.proofs.reading.read.Goals as goal

pub returns-in-Ok-clause-answers : goal.returns-in-Ok-clause-answers
returns-in-Ok-clause-answers c =
    reads_text c.args.offset c.args.bytes.now c.read_text.result c.in-Ok.ensures.cases.1 c.read_text.ensures.answers

pub returns-in-Err-clause-answers : goal.returns-in-Err-clause-answers
returns-in-Err-clause-answers c = reads_no_text c.args.offset c.args.bytes.now c.in-Err.ensures.cases.0
