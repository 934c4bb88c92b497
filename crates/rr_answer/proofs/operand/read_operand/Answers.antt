use Rattle.rr_answer.specs.declared.command.Language.TheVariants.{Series}
use Rattle.rr_answer.proofs.OperandLemmas.{series_answered, too_long}
use Rattle.rr_answer.proofs.operand.read_operand.Goals as goal

pub returns-then-bytes-gt-MAX_INPUT-clause-answers : goal.returns-then-bytes-gt-MAX_INPUT-clause-answers
returns-then-bytes-gt-MAX_INPUT-clause-answers c =
    too_long (Series c.args.operand.language) c.args.operand.offset c.args.bytes.now c.if-bytes-gt-MAX_INPUT.true

pub returns-clause-answers : goal.returns-clause-answers
returns-clause-answers c =
    series_answered c.args.operand.language c.args.operand.offset c.args.bytes.now c.read.result c.if-bytes-gt-MAX_INPUT.false c.read.ensures.answers
