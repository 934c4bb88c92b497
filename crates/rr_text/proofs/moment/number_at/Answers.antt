use Rattle.std.proofs.Common.{arith, rules}
use Rattle.rr_text.proofs.BasicLemmas.{short_number}
use Rattle.rr_text.proofs.moment.number_at.Goals as goal

pub unwrap-requires : goal.unwrap-requires
unwrap-requires c =
    let short = short_number c.value_of.result c.args.start _ c.args.count c.args.digits.now
    (omega arith) c.requires.few c.requires.within c.requires.digits c.value_of.ensures in
    search (rules, short.value)

pub overflow_cast-result : goal.overflow_cast-result
overflow_cast-result c =
    let short = short_number c.value_of.result c.args.start _ c.args.count c.args.digits.now
    (omega arith) c.requires.few c.requires.within c.requires.digits c.value_of.ensures in
    grind (arith, short.value, short.fits, c.unwrap.ensures)

pub returns : goal.returns
returns c =
    let short = short_number c.value_of.result c.args.start _ c.args.count c.args.digits.now
    (omega arith) c.requires.few c.requires.within c.requires.digits c.value_of.ensures in
    record { value = grind (arith, short.value, c.unwrap.ensures); small = grind (arith, short.value, short.small, c.unwrap.ensures) }
