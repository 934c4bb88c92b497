use Rattle.std.proofs.Common.{option_map, sym, ap, ◌∙◌, arith}
use Rattle.rr_compare.specs.Parsed.{given_in}
use Rattle.rr_compare.proofs.WordLemmas.{last_given, next_given, no_given}
use Rattle.rr_compare.proofs.words.given_of.Goals as goal

pub loop-word-preserved : goal.loop-word-preserved
loop-word-preserved c =
    c.loop-word.invariant ∙ next_given (given_in c.loop-word.given) c.args.words.now c.loop-word.word-index (given_in c.in_ok-given.given) _
    c.loop-word-test.true c.in_ok-given.ensures

pub returns-in_err-given : goal.returns-in_err-given
returns-in_err-given c =
    ap (option_map given_in) c.from_residual.ensures
    ∙ sym (c.loop-word.invariant ∙ no_given (given_in c.loop-word.given) c.args.words.now c.loop-word.word-index _ c.loop-word-test.true c.in_err-given.ensures)

pub returns : goal.returns
returns c = sym (c.loop-word.invariant ∙ last_given (given_in c.loop-word.given) c.args.words.now c.loop-word.word-index (omega arith))
