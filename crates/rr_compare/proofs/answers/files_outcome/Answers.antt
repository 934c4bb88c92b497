use Rattle.rr_compare.proofs.answers.files_outcome.Goals as goal

pub returns : goal.returns
returns g c = rw (c.language_by-a.ensures, c.language_by-b.ensures) at c.outcome_in.ensures
