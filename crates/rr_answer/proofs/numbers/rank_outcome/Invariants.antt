use Rattle.rr_answer.proofs.numbers.rank_outcome.Given as goal

-- the steps are counted in the ledger of the blank
abbrev pub ghosts-rank_of : goal.ghosts-rank_of
ghosts-rank_of a = record { name = a.blank.name; parts = a.blank.parts }
