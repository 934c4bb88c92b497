-- Names with bytes.
use Rattle.std.specs.Prelude.{◌≡◌, ℕ, List, map, Option, Some, String, string_bytes, Vec, bytes_eq, [], unwrap_or, if◌then◌else◌}
use Rattle.std.specs.declared.alloc.Global.{Global}
use Rattle.std.specs.BTreeMap.{BTreeMap}
use Rattle.std.specs.Map.{lookup}

-- each name with its bytes, of a map from texts to bytes
abbrev pub entries_of : BTreeMap (String Global) (Vec ℕ Global) → List (List ℕ × List ℕ)
entries_of m = map (λ (e : String Global × Vec ℕ Global). (string_bytes e.0, e.1.items)) m.entries

-- the bytes that a name has among the entries, if it has any
abbrev pub bytes_at : List (List ℕ × List ℕ) → List ℕ → Option (List ℕ)
bytes_at entries name = lookup (bytes_eq name) entries

-- the bytes under a name, none of them if it is not there
abbrev pub bytes_or_none : List (List ℕ × List ℕ) → List ℕ → List ℕ
bytes_or_none entries name = unwrap_or (bytes_at entries name) []

-- one name has these bytes, and every other what it had
abbrev pub Sets : List (List ℕ × List ℕ) → List (List ℕ × List ℕ) → List ℕ → List ℕ → Type 0
Sets old new name bytes = (other : List ℕ) → bytes_at new other ≡ (if bytes_eq name other then Some bytes else bytes_at old other)
