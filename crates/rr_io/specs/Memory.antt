-- Sources and sinks in memory, whose failures are listed by number.
use Rattle.std.specs.Prelude.{◌≡◌, ◌⊎◌, ℕ, List, ◌++◌, take, Option, Some, None, IsNone, IsTrue, Result, Ok, Err, nat_eq}
use Rattle.std.specs.List.{list_any}
use Rattle.std.specs.Map.{lookup}
use Rattle.rr_io.specs.Names.{bytes_at}
use Rattle.rr_io.specs.Outside.{failed_after, faults_after, next_number}
use Rattle.rr_io.specs.declared.source.FetchError.{FetchError}
use Rattle.rr_io.specs.declared.source.FetchError.TheVariants as fetch
use Rattle.rr_io.specs.declared.sink.PutError.{PutError}
use Rattle.rr_io.specs.declared.sink.PutError.TheVariants as put

-- the names with their bytes, the numbers of the fetches that are to fail, how many fetches there were, and the names that failed
pub record Fetches : Type 0 where
  pub names : List (List ℕ × List ℕ)
  pub failing : List ℕ
  pub fetches : ℕ
  pub failed : List (List ℕ)

-- the bytes, the puts that are to fail with how many bytes each appends first, how many puts there were, and how many failed
pub record Puts : Type 0 where
  pub bytes : List ℕ
  pub failing : List (ℕ × ℕ)
  pub puts : ℕ
  pub faults : ℕ

-- a fetch of this number and name is to fail: the number is listed, or the name is not there
abbrev pub IsToFail : Fetches → ℕ → List ℕ → Type 0
IsToFail s number name = IsTrue (list_any (λ n. nat_eq n number) s.failing) ⊎ IsNone (bytes_at s.names name)

-- the next fetch is to fail if it asks for this name
abbrev pub IsNextToFail : Fetches → List ℕ → Type 0
IsNextToFail s name = IsToFail s (next_number s.fetches) name

-- the source after one more fetch of this name
abbrev pub fetches_after : {T : Type 0} → Result T FetchError → List ℕ → Fetches → Fetches
fetches_after result name s = record s { fetches = next_number s.fetches; failed = failed_after result name s.failed }

-- a fetch fails exactly if it is to fail, unless out of memory
abbrev pub FailsExactly : {T : Type 0} → Result T FetchError → Type 0 → Type 0
FailsExactly (Ok v) to_fail = to_fail → ⊥
FailsExactly (Err fetch.Failed) to_fail = to_fail
FailsExactly (Err fetch.NoMemory) to_fail = Unit {0}

-- how many bytes the put of this number appends first, if it is to fail: the earliest entry counts
abbrev pub first_of : List (ℕ × ℕ) → ℕ → Option ℕ
first_of failing number = lookup (λ n. nat_eq n number) failing

-- how many bytes the next put appends first, if it is to fail
abbrev pub next_first : Puts → Option ℕ
next_first s = first_of s.failing (next_number s.puts)

-- the sink after one more put, beside its bytes
abbrev pub IsPutCounted : {T : Type 0} → Result T PutError → Puts → Puts → Type 0
IsPutCounted result old new = new ≡ record old { bytes = new.bytes; puts = next_number old.puts; faults = faults_after result old.faults }

-- a put that is to fail appends its first bytes and fails, and any other appends all; without memory nothing is appended
abbrev pub PutsAs : {T : Type 0} → Option ℕ → Result T PutError → List ℕ → List ℕ → List ℕ → Type 0
PutsAs None (Ok v) bytes old new = new ≡ old ++ bytes
PutsAs None (Err put.Failed) bytes old new = ⊥
PutsAs (Some first) (Ok v) bytes old new = ⊥
PutsAs (Some first) (Err put.Failed) bytes old new = new ≡ old ++ take first bytes
PutsAs first (Err put.NoMemory) bytes old new = new ≡ old
