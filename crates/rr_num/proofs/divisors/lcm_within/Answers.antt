use Rattle.std.proofs.Common.{◌<◌, sym, subst, refl, arith}
use Rattle.rr_model.specs.Whole.Divisors.{lcm, IsLcm}
use Rattle.rr_num.proofs.DivisorLemmas.{lcm_is, none_below_lcm}
use Rattle.rr_num.proofs.DivisionLemmas.{is_lcm, within, above}
use Rattle.rr_num.proofs.divisors.lcm_within.Goals as goal

more : (c : goal.Else-parts-most) → c.args.most < lcm c.args.a c.args.b
more c = above c.args.a c.args.b c.gcd.result c.args.most c.requires.second c.gcd.ensures.value (omega arith)

pub returns-then-parts-most-clause-value : goal.returns-then-parts-most-clause-value
returns-then-parts-most-clause-value c = (
  within c.args.a c.args.b c.gcd.result c.args.most c.requires.second c.gcd.ensures.value (omega arith),
  is_lcm c.args.a c.args.b c.gcd.result _ _ refl refl c.gcd.ensures.value,
)

pub returns-then-parts-most-clause-least : goal.returns-then-parts-most-clause-least
returns-then-parts-most-clause-least c =
    subst (IsLcm c.args.a c.args.b) (sym (is_lcm c.args.a c.args.b c.gcd.result _ _ refl refl c.gcd.ensures.value))
    (lcm_is c.args.a c.args.b c.requires.first c.requires.second)

pub returns-else-parts-most-clause-value : goal.returns-else-parts-most-clause-value
returns-else-parts-most-clause-value c h = let m = more c in omega arith

pub returns-else-parts-most-clause-none : goal.returns-else-parts-most-clause-none
returns-else-parts-most-clause-none c = none_below_lcm c.args.a c.args.b c.args.most c.requires.first c.requires.second (more c)
