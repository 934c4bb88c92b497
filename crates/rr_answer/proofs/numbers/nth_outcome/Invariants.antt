use Rattle.rr_answer.proofs.numbers.nth_outcome.Given as goal

-- the steps are counted in the ledger of the blank
abbrev pub ghosts-nth_of : goal.ghosts-nth_of
ghosts-nth_of a = record { name = a.blank.name; parts = a.blank.parts }
