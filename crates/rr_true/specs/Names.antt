-- What a name of a zone means (RFC 5545, section 3.2.19): the offsets of a zone, or nothing.
use Rattle.std.specs.Prelude.{◌≡◌, Option, None, Some, ℤ}

-- offsets are found exactly if the name means some, and they are those
abbrev pub Means : Option (ℤ → ℤ) → Option (ℤ → ℤ) → Type 0
Means None found = found ≡ None
Means (Some f) None = ⊥
Means (Some f) (Some g) = (u : ℤ) → g u ≡ f u
