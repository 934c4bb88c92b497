-- What is answered over files, by what was fetched of each.
use Rattle.std.proofs.Common.{◌≡◌, ℕ, ◌+◌, List, take, Option, Some, None, option_map, IfSome, refl, sym, ap, ◌∙◌, subst}
use Rattle.std.specs.Prelude.{IfOk, Result}
use Rattle.rr_io.specs.Outside.{KeepsHeld}
use Rattle.rr_io.specs.declared.source.FetchError.{FetchError}
use Rattle.rr_seam.specs.declared.file.TheConstants.{MAX_FILE}
use Rattle.rr_compare.specs.Calendars.{Texts}
use Rattle.rr_compare.specs.Words.{Asked, Request, comparison}
use Rattle.rr_calendars.specs.Fetched.{texts_of}
use Rattle.rr_calendars.specs.Run.{AreFilesOf, content, content_named, texts_by}
use Rattle.rr_calendars.specs.declared.work.Files.{Files}

content_kept : (old new : List ℕ → Option (List ℕ)) → KeepsHeld old new → (name : List ℕ) → content new name ≡ content old name
content_kept old new keeps name = ap (option_map (take (MAX_FILE + 1))) (keeps name)

named_kept : (old new : List ℕ → Option (List ℕ)) → KeepsHeld old new → (name : Option (List ℕ))
    → content_named new name ≡ content_named old name
named_kept old new keeps None = refl
named_kept old new keeps (Some name) = content_kept old new keeps name

-- what holds of three texts that were fetched holds of those that are held
all_held : (P : Texts → Type 0) (held_a held_b held_c : Option (List ℕ)) (a b c : List ℕ) → IfSome held_a (λ bytes. a ≡ bytes)
    → IfSome held_b (λ bytes. b ≡ bytes) → IfSome held_c (λ bytes. c ≡ bytes) → P (record { old = a; new = b; zones = c })
    → IfSome (texts_by held_a held_b held_c) P
all_held P None held_b held_c a b c p q r h = tt
all_held P (Some x) None held_c a b c p q r h = tt
all_held P (Some x) (Some y) None a b c p q r h = tt
all_held P (Some x) (Some y) (Some z) a b c p q r h = rw (p, q, r) at h

module _ (request : Request) (first second third : List ℕ → Option (List ℕ)) (a b c : List ℕ) where
  abbrev pub texts : Texts
  texts = record { old = a; new = b; zones = c }

  pub all_fetched : KeepsHeld first second → KeepsHeld second third
      → IfSome (content first request.old.name) (λ bytes. a ≡ bytes) → IfSome (content second request.new.name) (λ bytes. b ≡ bytes)
      → IfSome (content_named third request.zones) (λ bytes. c ≡ bytes) → AreFilesOf (Some (comparison request)) first texts
  all_fetched kept kept_on p q r =
      let new = content_kept first second kept request.new.name in
      let zones = named_kept second third kept_on request.zones ∙ named_kept first second kept request.zones in
      all_held (λ (files : Texts). texts ≡ files) (content first request.old.name) (content first request.new.name)
      (content_named first request.zones) a b c p (rw (sym new) q) (rw (sym zones) r) refl

-- what was fetched for one thing that is asked was fetched for the same thing
pub fetched_for : (held : List ℕ → Option (List ℕ)) (said asked : Option Asked) (r : Result Files FetchError) → said ≡ asked
    → IfOk r (λ (f : Files). AreFilesOf said held (texts_of f)) → IfOk r (λ (f : Files). AreFilesOf asked held (texts_of f))
fetched_for held said asked r e h = subst (λ (w : Option Asked). IfOk r (λ (f : Files). AreFilesOf w held (texts_of f))) e h
