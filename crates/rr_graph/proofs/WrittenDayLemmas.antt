-- The names of the weekdays of a sum, written one after another.
use Rattle.std.proofs.Common.{◌≡◌, ℕ, ◌+◌, ◌<◌, Bool, true, false, cond, List, [], ◌∷◌, ◌++◌, map, take, length, get_or, append-nil, ap, ◌∙◌}
use Rattle.std.specs.List.{filter}
use Rattle.std.proofs.lemmas.List.{map-append}
use Rattle.std.proofs.lemmas.List.Elements.{filter_more}
use Rattle.serde_json.specs.Data.{Data, string}
use Rattle.rr_model.specs.Graph.Text.{day_text}

-- the names of the weekdays that pass
abbrev pub names : (ℕ → Bool) → List ℕ → List Data
names test weekdays = map string (map day_text (filter test weekdays))

names-append : (xs : List ℕ) (x : ℕ) → map string (map day_text (xs ++ x ∷ [])) ≡ map string (map day_text xs) ++ string (day_text x) ∷ []
names-append xs x = ap (map string) (map-append day_text xs (x ∷ [])) ∙ map-append string (map day_text xs) (day_text x ∷ [])

pub put_name : (test : ℕ → Bool) (xs : List ℕ) (i : ℕ) → i < length xs → test (get_or xs i 0) ≡ true
    → names test (take (i + 1) xs) ≡ names test (take i xs) ++ string (day_text (get_or xs i 0)) ∷ []
put_name test xs i l h =
    ap (λ (ws : List ℕ). map string (map day_text ws))
    (filter_more test xs i 0 l ∙ ap (λ (b : Bool). filter test (take i xs) ++ cond b (get_or xs i 0 ∷ []) []) h)
    ∙ names-append (filter test (take i xs)) (get_or xs i 0)

pub skip_name : (test : ℕ → Bool) (xs : List ℕ) (i : ℕ) → i < length xs → test (get_or xs i 0) ≡ false
    → names test (take (i + 1) xs) ≡ names test (take i xs)
skip_name test xs i l h =
    ap (λ (ws : List ℕ). map string (map day_text ws))
    (filter_more test xs i 0 l ∙ ap (λ (b : Bool). filter test (take i xs) ++ cond b (get_or xs i 0 ∷ []) []) h ∙ append-nil (filter test (take i xs)))
