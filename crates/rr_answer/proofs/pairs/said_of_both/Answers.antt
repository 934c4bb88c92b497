use Rattle.rr_answer.proofs.pairs.said_of_both.Goals as goal

pub returns-in-Verdict : goal.returns-in-Verdict
returns-in-Verdict c = rw c.in-Verdict.is c.verdict_outcome.ensures

pub returns-in-Combine : goal.returns-in-Combine
returns-in-Combine c = rw c.in-Combine.is c.combined_outcome.ensures

pub returns-in-Differences : goal.returns-in-Differences
returns-in-Differences c = rw c.in-Differences.is c.differences_outcome.ensures

pub returns-in-Clash : goal.returns-in-Clash
returns-in-Clash c = rw c.in-Clash.is c.clash_outcome.ensures
