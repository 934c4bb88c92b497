-- Keys, read one by one.
use Rattle.std.proofs.Common.{◌≡◌, ℕ, ◌+◌, ◌<◌, List, [], ◌∷◌, ◌++◌, length, get_or, take, drop, ap, sym, ◌∙◌, append_assoc}
use Rattle.std.proofs.lemmas.List.{at_drop_more}
use Rattle.rr_seam.specs.declared.key.Key.{Key}

abbrev head_or : Key → List Key → Key
head_or k [] = k
head_or k (x ∷ xs) = x

-- a list from an index on is its key there, and what follows
pub key_there : (keys : List Key) (i : ℕ) (k : Key) → i < length keys → take 1 (drop i keys) ≡ k ∷ [] → drop i keys ≡ k ∷ drop (i + 1) keys
key_there keys i k below h =
    let step = at_drop_more (λ (ks : List Key). ks) keys i k below in
    let same : get_or keys i k ≡ k = ap (head_or k) (sym (ap (take 1) step) ∙ h) in
    step ∙ ap (λ (y : Key). y ∷ drop (i + 1) keys) same

-- one key more
pub put_key : (keys before after : List Key) (i : ℕ) (k : Key) → before ++ drop i keys ≡ keys → i < length keys → take 1 (drop i keys) ≡ k ∷ []
    → after ≡ before ++ k ∷ [] → after ++ drop (i + 1) keys ≡ keys
put_key keys before after i k so_far below there put =
    ap (λ (ks : List Key). ks ++ drop (i + 1) keys) put ∙ append_assoc before (k ∷ []) (drop (i + 1) keys)
    ∙ ap (λ (ks : List Key). before ++ ks) (sym (key_there keys i k below there)) ∙ so_far
