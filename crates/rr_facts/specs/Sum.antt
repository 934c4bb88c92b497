-- The sum of a file.
use Rattle.std.specs.Prelude.{ℕ, List}
use Rattle.hex.specs.Hex.{encode_lower}
use Rattle.sha2.specs.Sha256.{sha256}

-- the SHA-256 of bytes (FIPS 180-4), in hexadecimal digits
unfoldable pub sum_text : List ℕ → List ℕ
sum_text bytes = encode_lower (sha256 bytes)
