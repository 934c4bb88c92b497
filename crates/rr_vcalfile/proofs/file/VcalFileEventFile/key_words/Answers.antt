use Rattle.rr_vcalfile.proofs.WordsLemmas.{words_stated}
use Rattle.rr_vcalfile.proofs.file.VcalFileEventFile.key_words.Goals as goal

pub returns : goal.returns
returns c =
    words_stated c.args.self.now.offset c.args.self.now.parts.items c.as_slice.result.now c.args.indexes.now c.words_at.result c.as_slice.ensures.value
    c.words_at.ensures
