use Rattle.std.proofs.Common.{rules, sym, arith}
use Rattle.rr_compare.proofs.WordLemmas.{not_only, one_only}
use Rattle.rr_compare.proofs.words.is_only.Goals as goal

pub returns-then-words-ne1 : goal.returns-then-words-ne1
returns-then-words-ne1 c = sym (not_only c.args.word.now c.args.words.now (λ e. omega arith))

pub returns : goal.returns
returns c = search (rules, one_only)
