use Rattle.rr_plan_text.proofs.RisingLemmas.{ArePut}
use Rattle.rr_plan_text.proofs.vcal.dates_of.Given as goal

-- the values so far are put, and the others rise from them
abbrev pub invariant-loop-value : goal.invariant-loop-value
invariant-loop-value l = ArePut l.dates l.values l.value-index
