-- What a writer has taken after a buffer in front of it was emptied.
use Rattle.std.proofs.Common.{◌≡◌, ℕ, List, [], Option, Some, None, sym, ◌∙◌}
use Rattle.std.proofs.lemmas.List.{append-nil}
use Rattle.std.specs.Io.KnownBytes.{Appends, append_known}

-- empty buffers before and after: what was appended to both was appended to the writer behind
pub behind_buffer : (old new : Option (List ℕ)) (front rest bytes : List ℕ) → front ≡ [] → rest ≡ []
    → Appends (append_known old front) (append_known new rest) bytes → Appends old new bytes
behind_buffer None new front rest bytes begun ended h = tt
behind_buffer (Some x) None front rest bytes begun ended h = h
behind_buffer (Some x) (Some y) front rest bytes begun ended h =
    sym (append-nil y) ∙ (rw (begun, ended, append-nil x) at h)
