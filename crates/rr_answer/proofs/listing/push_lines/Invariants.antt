use Rattle.std.specs.Prelude.{◌≡◌, ◌++◌, map, take}
use Rattle.rr_model.specs.Moment.{moment_at}
use Rattle.rr_answer.specs.Listing.{listed_text}
use Rattle.rr_answer.proofs.listing.push_lines.Given as goal

-- the seconds so far have their lines
abbrev pub invariant-loop-second : goal.invariant-loop-second
invariant-loop-second l = l.out.items ≡ l.fn.out.items ++ listed_text l.kind (map (moment_at l.kind l.day) (take l.second-index l.seconds))
