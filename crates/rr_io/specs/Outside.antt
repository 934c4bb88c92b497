-- What a fetch and a put do to a source and a sink.
use Rattle.std.specs.Prelude.{◌≡◌, ◌⊎◌, ℕ, ◌+◌, ◌<◌, min, List, [], ◌∷◌, ◌++◌, take, Option, option_map, Result, Ok, Err, Vec, IfOk, IfSome}
use Rattle.std.specs.declared.alloc.Global.{Global}
use Rattle.rr_io.specs.declared.source.FetchError.{FetchError}
use Rattle.rr_io.specs.declared.source.FetchError.TheVariants as fetch
use Rattle.rr_io.specs.declared.sink.PutError.{PutError}
use Rattle.rr_io.specs.declared.sink.PutError.TheVariants as put

-- the source holds under each name what it held before
abbrev pub KeepsHeld : (List ℕ → Option (List ℕ)) → (List ℕ → Option (List ℕ)) → Type 0
KeepsHeld old new = (name : List ℕ) → new name ≡ old name

-- what was had are the bytes, cut after one more than the limit
abbrev pub IsFrontOf : {E : Type 0} → ℕ → List ℕ → Result (Vec ℕ Global) E → Type 0
IsFrontOf limit bytes result = IfOk result (λ v. v.items ≡ take (limit + 1) bytes)

-- what was had are the bytes, cut after one more than the limit, if the source tells them
abbrev pub IsFrontIfTold : {E : Type 0} → ℕ → Option (List ℕ) → Result (Vec ℕ Global) E → Type 0
IsFrontIfTold limit told result = IfOk result (λ v. IfSome told (λ bytes. v.items ≡ take (limit + 1) bytes))

-- the names whose fetch has failed, after one more fetch of this name
abbrev pub failed_after : {T : Type 0} → Result T FetchError → List ℕ → List (List ℕ) → List (List ℕ)
failed_after (Ok v) name failed = failed
failed_after (Err fetch.Failed) name failed = failed ++ name ∷ []
failed_after (Err fetch.NoMemory) name failed = failed

-- the greatest value of a count
abbrev pub last_count : ℕ
last_count = 18446744073709551615

-- the number after this one, which stays at the last value of a count
abbrev pub next_number : ℕ → ℕ
next_number n = min (n + 1) last_count

-- a count is greater at the end than at the beginning, or stands at its last value
abbrev pub RoseOrIsLast : ℕ → ℕ → Type 0
RoseOrIsLast old new = (old < new) ⊎ (new ≡ last_count)

-- the sink has these bytes after what it had, if it tells
abbrev pub Appended : Option (List ℕ) → List ℕ → Option (List ℕ) → Type 0
Appended old bytes new = new ≡ option_map (λ w. w ++ bytes) old

-- the sink has a first part of these bytes after what it had, if it tells
abbrev pub AppendedPart : Option (List ℕ) → List ℕ → Option (List ℕ) → Type 0
AppendedPart old bytes new = (n : ℕ) × Appended old (take n bytes) new

-- what a put leaves, by its answer
abbrev pub IsPut : {T : Type 0} → Result T PutError → List ℕ → Option (List ℕ) → Option (List ℕ) → ℕ → ℕ → Type 0
IsPut (Ok v) bytes old new faults faults' = Appended old bytes new × (faults' ≡ faults)
IsPut (Err put.Failed) bytes old new faults faults' = AppendedPart old bytes new × RoseOrIsLast faults faults'
IsPut (Err put.NoMemory) bytes old new faults faults' = (new ≡ old) × (faults' ≡ faults)

-- the count of faults after one more put
abbrev pub faults_after : {T : Type 0} → Result T PutError → ℕ → ℕ
faults_after (Ok v) faults = faults
faults_after (Err put.Failed) faults = next_number faults
faults_after (Err put.NoMemory) faults = faults
