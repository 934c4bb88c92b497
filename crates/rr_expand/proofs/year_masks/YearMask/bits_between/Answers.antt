use Rattle.rr_expand.proofs.MaskLemmas.{bits_of_word}
use Rattle.rr_expand.proofs.year_masks.YearMask.bits_between.Goals as goal

pub returns : goal.returns
returns c = bits_of_word c.args.self.now.bits c.args.from c.from.result c.from.ensures c.args.end c.requires.some c.requires.word
