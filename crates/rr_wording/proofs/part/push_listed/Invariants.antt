use Rattle.std.specs.Prelude.{◌≡◌, ◌++◌, drop}
use Rattle.rr_wording.specs.Lists.{listed}
use Rattle.rr_wording.specs.Parts.{last_word, value_words}
use Rattle.rr_wording.proofs.part.push_listed.Given as goal

-- the others are left
abbrev pub invariant-loop-index : goal.invariant-loop-index
invariant-loop-index l =
    l.out.items ++ listed (value_words l.part) (last_word l.part) l.more (drop l.index l.numbers)
    ≡ l.fn.out.items ++ listed (value_words l.part) (last_word l.part) l.more l.numbers
