use Rattle.std.proofs.Common.{◌≡◌, ◌<◌, ◌^◌, arith, get_or, length, rules}
use Rattle.rr_expand.proofs.MaskLemmas.{no_bit_in_word, first_bit_in_word}
use Rattle.rr_expand.proofs.year_masks.YearMask.first_in_word.Goals as goal

pub returns-then-rest-eq0 : goal.returns-then-rest-eq0
returns-then-rest-eq0 c = no_bit_in_word c.args.self.now.bits c.args.from c.from.result c.from.ensures c.if-rest-eq0.true

pub returns-else-rest-eq0 : goal.returns-else-rest-eq0
returns-else-rest-eq0 c =
    let n : length c.args.self.now.bits ≡ 6 = search rules in
    let fits : get_or c.args.self.now.bits c.from.result 0 < 2 ^ 64 = search rules in
    first_bit_in_word c.args.self.now.bits c.args.from c.from.result c.from.ensures fits (omega (arith, c.if-rest-eq0.false))
