-- Candidates by the day of their start, and chosen moments of a rule without set positions.
use Rattle.std.proofs.Common.{◌≡◌, Bool, ◌&&◌, ◌||◌, List, [], ℤ}
use Rattle.std.proofs.Math.Bool.{and-true}
use Rattle.rr_model.specs.Rule.Validity.{is_absent}
use Rattle.rr_model.specs.Rule.Candidate.{is_candidate}
use Rattle.rr_model.specs.Rule.Chosen.{is_chosen}
use Rattle.rr_model.specs.declared.kind.Kind.{Kind}
use Rattle.rr_model.specs.declared.rule.Rule.{Rule}

if_absent : (b front back : Bool) (positions : List ℤ) → positions ≡ [] → (b && (is_absent positions || front || back)) ≡ b
if_absent b front back positions e = rw e (and-true b)

-- without set positions each candidate is chosen
pub is_chosen-plain : (rule : Rule) (kind : Kind) (start t : ℤ) → rule.by_set_pos ≡ [] → is_chosen rule kind start t ≡ is_candidate rule kind start t
unfolding is_chosen
is_chosen-plain rule kind start t e = if_absent (is_candidate rule kind start t) _ _ rule.by_set_pos e
