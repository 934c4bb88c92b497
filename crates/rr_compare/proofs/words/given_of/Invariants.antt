use Rattle.std.proofs.Common.{◌≡◌, drop}
use Rattle.rr_compare.specs.Parsed.{given_in, words_of}
use Rattle.rr_compare.specs.Words.{given_of, with_words}
use Rattle.rr_compare.proofs.words.given_of.Given as goal

-- the words from here on are left
abbrev pub invariant-loop-word : goal.invariant-loop-word
invariant-loop-word l = given_of (words_of l.words) ≡ with_words (given_in l.given) (words_of (drop l.word-index l.words))
