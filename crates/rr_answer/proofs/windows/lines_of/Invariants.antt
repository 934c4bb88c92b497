use Rattle.std.specs.Prelude.{◌≡◌, take}
use Rattle.rr_answer.specs.Listing.{listed_text}
use Rattle.rr_answer.proofs.windows.lines_of.Given as goal

-- the occurrences so far have their lines
abbrev pub invariant-loop-time : goal.invariant-loop-time
invariant-loop-time l = l.text.items ≡ listed_text l.kind (take l.time-index l.times)
