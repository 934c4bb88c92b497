use Rattle.std.specs.Prelude.{◌≡◌, ◌++◌, drop}
use Rattle.rr_wording.specs.Days.{day_item_words}
use Rattle.rr_wording.specs.Lists.{listed}
use Rattle.rr_wording.proofs.days.push_listed.Given as goal

-- the others are left
abbrev pub invariant-loop-index : goal.invariant-loop-index
invariant-loop-index l =
    l.out.items ++ listed day_item_words l.word l.more (drop l.index l.items) ≡ l.fn.out.items ++ listed day_item_words l.word l.more l.items
