-- Moments that are not far from 1970-01-01, so that offsets and days can be added; RFC 5545, section 3.3.5, sets no such bound.
use Rattle.std.specs.Prelude.{ℤ, pos, neg_ℤ, ◌≤ℤ◌}

-- a moment within 400,000,000,000,000,000 seconds either way
abbrev pub IsNear : ℤ → Type 0
IsNear t = (neg_ℤ (pos 400_000_000_000_000_000) ≤ℤ t) × (t ≤ℤ pos 400_000_000_000_000_000)

-- a moment within 500,000,000,000,000,000 seconds either way
abbrev pub IsInReach : ℤ → Type 0
IsInReach t = (neg_ℤ (pos 500_000_000_000_000_000) ≤ℤ t) × (t ≤ℤ pos 500_000_000_000_000_000)
