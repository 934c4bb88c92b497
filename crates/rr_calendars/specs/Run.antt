-- What a run leaves, by its status.
use Rattle.std.specs.Prelude.{◌≡◌, ◌⊎◌, ℕ, ◌+◌, List, [], ◌∷◌, ◌++◌, take, Option, None, Some, option_map, option_and_then, ⊤, IfSome}
use Rattle.rr_io.specs.Outside.{Appended, AppendedPart, RoseOrIsLast}
use Rattle.rr_seam.specs.declared.file.TheConstants.{MAX_FILE}
use Rattle.rr_compare.specs.Answer.{Answer, IsAnswer}
use Rattle.rr_compare.specs.Calendars.{Texts}
use Rattle.rr_compare.specs.Words.{Asked, comparison, help, version}
use Rattle.rr_compare.specs.declared.status.Status.{Status}
use Rattle.rr_compare.specs.declared.status.Status.TheVariants.{Equal, Differs, Refused, Usage, ReadFault, WriteFault, NoMemory}

-- a status that an answer can have: usage if nothing is asked, and otherwise that of an ended comparison
abbrev pub IsEnding : Option Asked → Status → Type 0
IsEnding None Usage = ⊤
IsEnding (Some asked) Equal = ⊤
IsEnding (Some asked) Differs = ⊤
IsEnding (Some asked) Refused = ⊤
IsEnding asked status = ⊥

-- ---- files

-- the first MAX_FILE + 1 bytes under a name; None if the source does not tell them
abbrev pub content : (List ℕ → Option (List ℕ)) → List ℕ → Option (List ℕ)
content held name = option_map (take (MAX_FILE + 1)) (held name)

-- the bytes of a file that is named, or none if no file is
abbrev pub content_named : (List ℕ → Option (List ℕ)) → Option (List ℕ) → Option (List ℕ)
content_named held None = Some []
content_named held (Some name) = content held name

-- the bytes of the files, if they are all told
abbrev pub texts_by : Option (List ℕ) → Option (List ℕ) → Option (List ℕ) → Option Texts
texts_by old new zones =
    option_and_then (λ a. option_and_then (λ b. option_map (λ c. record { old = a; new = b; zones = c }) zones) new) old

-- the bytes of the files; None if the source does not tell them
abbrev pub contents : Option Asked → (List ℕ → Option (List ℕ)) → Option Texts
contents None held = Some (record { old = []; new = []; zones = [] })
contents (Some help) held = Some (record { old = []; new = []; zones = [] })
contents (Some version) held = Some (record { old = []; new = []; zones = [] })
contents (Some (comparison request)) held =
    texts_by (content held request.old.name) (content held request.new.name) (content_named held request.zones)

-- the bytes are those of the files that are asked for, if the source tells them
abbrev pub AreFilesOf : Option Asked → (List ℕ → Option (List ℕ)) → Texts → Type 0
AreFilesOf asked held texts = IfSome (contents asked held) (λ files. texts ≡ files)

-- the answer is that to what is asked, over the files that the source holds, if the source tells them
abbrev pub IsAnswerTo : Option Asked → (List ℕ → Option (List ℕ)) → Answer → Type 0
IsAnswerTo asked held answer = IfSome (contents asked held) (λ files. IsAnswer asked files answer)

-- the name is this one, if there is one
abbrev pub IsNamedFile : Option (List ℕ) → List ℕ → Type 0
IsNamedFile None name = ⊥
IsNamedFile (Some file) name = name ≡ file

-- the name is that of a file that is asked for
abbrev pub IsFileOf : Option Asked → List ℕ → Type 0
IsFileOf None name = ⊥
IsFileOf (Some help) name = ⊥
IsFileOf (Some version) name = ⊥
IsFileOf (Some (comparison request)) name = (name ≡ request.old.name) ⊎ (name ≡ request.new.name) ⊎ IsNamedFile request.zones name

-- ---- what a run leaves

-- What the sink has at the end, by the status, and how many UIDs are to be noted; `is` says which answers there are.
-- The answer comes after what it had; a part of it if a put failed, nothing more if a fetch failed or out of memory,
-- and then none is to be noted.
abbrev pub Ends : Status → ℕ → (Answer → Type 0) → Option (List ℕ) → Option (List ℕ) → Type 0
Ends ReadFault in_utc is old new = (in_utc ≡ 0) × (new ≡ old)
Ends NoMemory in_utc is old new = (in_utc ≡ 0) × (new ≡ old)
Ends WriteFault in_utc is old new = (in_utc ≡ 0) × ((answer : Answer) × is answer × AppendedPart old answer.bytes new)
Ends status in_utc is old new = (answer : Answer) × is answer × (status ≡ answer.status) × (in_utc ≡ answer.in_utc) × Appended old answer.bytes new

-- the sink ends so with the answer to what is asked over what the source holds, if that tells it
abbrev pub EndsAnswered : Status → ℕ → Option Asked → (List ℕ → Option (List ℕ)) → Option (List ℕ) → Option (List ℕ) → Type 0
EndsAnswered status in_utc asked held old new = IfSome (contents asked held) (λ files. Ends status in_utc (IsAnswer asked files) old new)

-- the status is out of memory, or that of the answer to what is asked over what the source holds, if that tells it
abbrev pub HasAnswerStatus : Status → Option Asked → (List ℕ → Option (List ℕ)) → Type 0
HasAnswerStatus status asked held =
    IfSome (contents asked held) (λ files. (status ≡ NoMemory) ⊎ ((answer : Answer) × IsAnswer asked files answer × (status ≡ answer.status)))

-- the names of failed fetches gained this one, if there is one
abbrev pub GainsName : Option (List ℕ) → List (List ℕ) → List (List ℕ) → Type 0
GainsName file failed failed' = (name : List ℕ) × IsNamedFile file name × (failed' ≡ failed ++ name ∷ [])

-- the names of failed fetches gained that of a file
abbrev pub GainsFile : {S : Type 0} → Option Asked → (S → List (List ℕ)) → S → S → Type 0
GainsFile asked failed source source' = (name : List ℕ) × IsFileOf asked name × (failed source' ≡ failed source ++ name ∷ [])

-- The cause of each status: whether the names of failed fetches of the source and the count of faults of the sink stayed, and which of
-- them grew.
abbrev pub HasCause : {S K : Type 0} → Status → Option Asked → (S → List (List ℕ)) → S → S → (K → ℕ) → K → K → Type 0
HasCause ReadFault asked failed source source' faults sink sink' = GainsFile asked failed source source' × (faults sink' ≡ faults sink)
HasCause WriteFault asked failed source source' faults sink sink' = (failed source' ≡ failed source) × RoseOrIsLast (faults sink) (faults sink')
HasCause status asked failed source source' faults sink sink' = (failed source' ≡ failed source) × (faults sink' ≡ faults sink)

-- if no fetch from the source and no put to the sink failed, the status is that of the answer, or out of memory
abbrev pub IsComplete : {S K : Type 0} → Status → Option Asked → (S → List ℕ → Option (List ℕ)) → (S → List (List ℕ)) → S → S → (K → ℕ) → K → K
    → Type 0
IsComplete status asked held failed source source' faults sink sink' =
    failed source' ≡ failed source → (RoseOrIsLast (faults sink) (faults sink') → ⊥) → HasAnswerStatus status asked (held source)
