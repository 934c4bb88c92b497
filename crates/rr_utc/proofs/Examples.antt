-- Worked rows: which periods are walked.
use Rattle.std.proofs.Common.{◌≡◌, refl}
use Rattle.rr_model.specs.Whole.Divisors.{gcd, gcd_within, lcm}

-- weeks repeat with the rules of zones after 400 years
pub weeks : lcm (lcm 7 7) 146_097 ≡ 146_097
unfolding lcm gcd gcd_within
weeks = refl

-- each 1,009th day does so after 147,411,873 days, which are not walked
pub too_long : lcm (lcm 1_009 1) 146_097 ≡ 147_411_873
unfolding lcm gcd gcd_within
too_long = refl
