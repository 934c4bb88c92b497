-- What holds of the bytes that a source holds, if it tells them.
use Rattle.std.proofs.Common.{◌≡◌, ℕ, List, take, Option, Some, None, option_map, IfSome}
use Rattle.std.specs.Prelude.{Result, Ok, Err, IfOk, option_and_then}

pub of_all : {T : Type 0} {P : T → Type 0} (o : Option T) → ((x : T) → P x) → IfSome o P
of_all None f = tt
of_all (Some x) f = f x

-- what holds of what was fetched holds of what is held
pub of_held : {T : Type 0} (P : T → Type 0) (held : Option T) (a : T) → IfSome held (λ x. a ≡ x) → P a → IfSome held P
of_held P None a p h = tt
of_held P (Some x) a p h = rw p at h

-- what holds of two texts that were fetched holds of the two that are held
pub both_held : (P : List ℕ × List ℕ → Type 0) (held_a held_b : Option (List ℕ)) (a b : List ℕ) → IfSome held_a (λ bytes. a ≡ bytes)
    → IfSome held_b (λ bytes. b ≡ bytes) → P (a, b) → IfSome (option_and_then (λ x. option_map (λ y. (x, y)) held_b) held_a) P
both_held P None held_b a b p q h = tt
both_held P (Some c) None a b p q h = tt
both_held P (Some c) (Some d) a b p q h = rw (p, q) at h

-- a front of what is held was fetched
pub fetched : {T E : Type 0} (items : T → List ℕ) (n : ℕ) (held : Option (List ℕ)) (r : Result T E)
    → IfOk r (λ v. IfSome held (λ bytes. items v ≡ take n bytes)) → IfOk r (λ v. IfSome (option_map (take n) held) (λ bytes. items v ≡ bytes))
fetched items n held (Err e) h = tt
fetched items n None (Ok v) h = tt
fetched items n (Some bytes) (Ok v) h = h
