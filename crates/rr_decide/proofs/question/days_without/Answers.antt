use Rattle.rr_decide.proofs.MergeLemmas.{none_below_disjoint, none_below_equal, none_below_within}
use Rattle.rr_decide.proofs.question.days_without.Goals as goal

pub returns-in-Equal : goal.returns-in-Equal
returns-in-Equal c = rw c.in-Equal.is (none_below_equal c.args.a c.args.b _ c.min.ensures)

pub returns-in-Within : goal.returns-in-Within
returns-in-Within c = rw c.in-Within.is (none_below_within c.args.a c.args.b)

pub returns-in-Disjoint : goal.returns-in-Disjoint
returns-in-Disjoint c = rw c.in-Disjoint.is (none_below_disjoint c.args.a c.args.b _ c.max.ensures)
