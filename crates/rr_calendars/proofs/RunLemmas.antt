-- What a run leaves, by what was worked out and what the put answers.
use Rattle.std.proofs.Common.{◌≡◌, ◌⊎◌, inl, inr, ℕ, List, Option, Some, None, IfSome, IsNone, refl, subst}
use Rattle.std.proofs.lemmas.Option.{IfSome_then}
use Rattle.rr_io.specs.Outside.{Appended, AppendedPart}
use Rattle.rr_compare.specs.Answer.{Answer, IsAnswer}
use Rattle.rr_calendars.specs.Run.{Ends, HasCause, IsAnswerTo, IsEnding, contents}
use Rattle.rr_compare.specs.Words.{Asked}
use Rattle.rr_compare.specs.declared.status.Status.{Status}
use Rattle.rr_compare.specs.declared.status.Status.TheVariants.{Equal, Differs, Refused, Usage, ReadFault, WriteFault, NoMemory}

-- what holds of each status that an answer can have
of_ending : (P : Status → Type 0) (asked : Option Asked) (status : Status) → IsEnding asked status → P Equal → P Differs → P Refused → P Usage → P status
of_ending P None Usage h equal differs refused usage = usage
of_ending P (Some asked) Equal h equal differs refused usage = equal
of_ending P (Some asked) Differs h equal differs refused usage = differs
of_ending P (Some asked) Refused h equal differs refused usage = refused
of_ending P None Equal h equal differs refused usage = absurd h
of_ending P None Differs h equal differs refused usage = absurd h
of_ending P None Refused h equal differs refused usage = absurd h
of_ending P None ReadFault h equal differs refused usage = absurd h
of_ending P None WriteFault h equal differs refused usage = absurd h
of_ending P None NoMemory h equal differs refused usage = absurd h
of_ending P (Some asked) Usage h equal differs refused usage = absurd h
of_ending P (Some asked) ReadFault h equal differs refused usage = absurd h
of_ending P (Some asked) WriteFault h equal differs refused usage = absurd h
of_ending P (Some asked) NoMemory h equal differs refused usage = absurd h

ends_said : (asked : Option Asked) (is : Answer → Type 0) (x : Answer) (in_utc : ℕ) (old new : Option (List ℕ)) → IsEnding asked x.status → is x
    → in_utc ≡ x.in_utc → Appended old x.bytes new → Ends x.status in_utc is old new
ends_said asked is x in_utc old new h said counted put =
    of_ending (λ (s : Status). s ≡ x.status → Ends s in_utc is old new) asked x.status h
    (λ e. (x, said, e, counted, put)) (λ e. (x, said, e, counted, put)) (λ e. (x, said, e, counted, put)) (λ e. (x, said, e, counted, put)) refl

pub caused : {S K : Type 0} (asked : Option Asked) (status : Status) (failed : S → List (List ℕ)) (source source' : S) (faults : K → ℕ) (sink sink' : K)
    → IsEnding asked status → failed source' ≡ failed source → faults sink' ≡ faults sink → HasCause status asked failed source source' faults sink sink'
caused asked status failed source source' faults sink sink' h p q =
    of_ending (λ (s : Status). HasCause s asked failed source source' faults sink sink') asked status h (p, q) (p, q) (p, q) (p, q)

pub usage_none : (asked : Option Asked) (status : Status) → IsEnding asked status → status ≡ Usage → IsNone asked
usage_none None status h e = refl
usage_none (Some asked) status h e = absurd (subst (λ (s : Status). IsEnding (Some asked) s) e h)

pub no_fault : (asked : Option Asked) (status : Status) → IsEnding asked status → (status ≡ ReadFault) ⊎ (status ≡ NoMemory) → ⊥
no_fault asked status h (inl e) = no_read asked (subst (λ (s : Status). IsEnding asked s) e h)
  where
    no_read : (a : Option Asked) → IsEnding a ReadFault → ⊥
    no_read None k = k
    no_read (Some a) k = k
no_fault asked status h (inr e) = no_memory asked (subst (λ (s : Status). IsEnding asked s) e h)
  where
    no_memory : (a : Option Asked) → IsEnding a NoMemory → ⊥
    no_memory None k = k
    no_memory (Some a) k = k

module _ (asked : Option Asked) (held : List ℕ → Option (List ℕ)) (x : Answer) (said : IsAnswerTo asked held x) (bytes : List ℕ) (same : bytes ≡ x.bytes)
    (old new : Option (List ℕ)) where
  pub ends_failed : AppendedPart old bytes new → IfSome (contents asked held) (λ files. Ends WriteFault 0 (IsAnswer asked files) old new)
  ends_failed part = IfSome_then (contents asked held) said (λ files is. (refl, (x, is, subst (λ b. AppendedPart old b new) same part)))

  pub ends_done : IsEnding asked x.status → Appended old bytes new → IfSome (contents asked held) (λ files. Ends x.status x.in_utc (IsAnswer asked files) old new)
  ends_done h whole =
      IfSome_then (contents asked held) said
      (λ files is. ends_said asked (IsAnswer asked files) x x.in_utc old new h is refl (subst (λ b. Appended old b new) same whole))
