-- The others by their words, as they are read one after the other.
use Rattle.std.proofs.Common.{◌≡◌, ℕ, ◌-◌, List, [], ◌∷◌, ◌++◌, length, take, drop, Bor, Option, Some, None, refl, sym, ap, ◌∙◌, append_assoc}
use Rattle.std.specs.Prelude.{option_map, option_and_then}
use Rattle.std.proofs.lemmas.List.{map-append, take_rest}
use Rattle.rr_answer.specs.Parsed.{words_of}
use Rattle.rr_booking.specs.Booking.{Other, other_of, others_of}
use Rattle.rr_booking.specs.Parsed.{ThreeWords, all_in, other_in, three_of}
use Rattle.rr_booking.specs.declared.request.Other.{Other as ParsedOther}

-- those that were read, before those that are left
abbrev pub with_front : List Other → Option (List Other) → Option (List Other)
with_front front rest = option_map (λ more. front ++ more) rest

one_more : (front : List Other) (other : Other) (rest : Option (List Other))
    → with_front front (option_map (λ others. other ∷ others) rest) ≡ with_front (front ++ other ∷ []) rest
one_more front other None = refl
one_more front other (Some others) = ap Some (sym (append_assoc front (other ∷ []) others))

-- what one of the others and those behind it are
abbrev from_three : (words : List (List ℕ)) (bytes : List ℕ) → ThreeWords → Option (List Other)
from_three words bytes three =
    option_and_then (λ (o : Other). option_map (λ others. o ∷ others) (others_of (drop 3 words) (drop (length o.text) bytes)))
    (other_of three.seconds three.word three.count bytes)

by_three : (words : List (List ℕ)) (three : ThreeWords) (bytes : List ℕ) → Some three ≡ three_of words
    → others_of words bytes ≡ from_three words bytes three
by_three [] three bytes e = absurd (cc)
by_three (x ∷ []) three bytes e = absurd (cc)
by_three (x ∷ y ∷ []) three bytes e = absurd (cc)
by_three (x ∷ y ∷ z ∷ more) three bytes e = sym (ap (option_and_then (from_three (x ∷ y ∷ z ∷ more) bytes)) e)

-- the words behind the first three
behind : (words : List (Bor (List ℕ))) → drop 3 (words_of words) ≡ words_of (drop 3 words)
behind [] = refl
behind (x ∷ []) = refl
behind (x ∷ y ∷ []) = refl
behind (x ∷ y ∷ z ∷ more) = refl

-- with one of the others more, and what is left behind it
next_other : (all : Option (List Other)) (front : List Other) (other : Other) (words : List (Bor (List ℕ))) (three : ThreeWords) (bytes : List ℕ)
    → Some three ≡ three_of (words_of words) → Some other ≡ other_of three.seconds three.word three.count bytes
    → all ≡ with_front front (others_of (words_of words) bytes)
    → all ≡ with_front (front ++ other ∷ []) (others_of (words_of (drop 3 words)) (drop (length other.text) bytes))
next_other all front other words three bytes e f h =
    h
    ∙ ap (with_front front) (by_three (words_of words) three bytes e)
    ∙ ap (with_front front)
    (sym (ap (option_and_then (λ (o : Other). option_map (λ others. o ∷ others) (others_of (drop 3 (words_of words)) (drop (length o.text) bytes)))) f))
    ∙ one_more front other (others_of (drop 3 (words_of words)) (drop (length other.text) bytes))
    ∙ ap (λ (ws : List (List ℕ)). with_front (front ++ other ∷ []) (others_of ws (drop (length other.text) bytes))) (behind words)

-- the same of the others of the program
pub next_left : (all : Option (List Other)) (old new : List ParsedOther) (other : ParsedOther) (words : List (Bor (List ℕ))) (three : ThreeWords)
    (bytes : List ℕ)
    → Some three ≡ three_of (words_of words) → Some (other_in other) ≡ other_of three.seconds three.word three.count bytes
    → new ≡ old ++ other ∷ [] → all ≡ with_front (all_in old) (others_of (words_of words) bytes)
    → all
    ≡ with_front (all_in new)
    (others_of (words_of (take (length words - 3) (drop 3 words))) (take (length bytes - length other.text.now) (drop (length other.text.now) bytes)))
next_left all old new other words three bytes e f put h =
    let n = length other.text.now in
    next_other all (all_in old) (other_in other) words three bytes e f h
    ∙ ap (λ (ws : List (Bor (List ℕ))). with_front (all_in old ++ other_in other ∷ []) (others_of (words_of ws) (drop n bytes))) (sym (take_rest words 3))
    ∙ ap (λ (bs : List ℕ). with_front (all_in old ++ other_in other ∷ []) (others_of (words_of (take (length words - 3) (drop 3 words))) bs))
    (sym (take_rest bytes n))
    ∙ ap (λ (os : List Other). with_front os (others_of (words_of (take (length words - 3) (drop 3 words))) (take (length bytes - n) (drop n bytes))))
    (sym (ap all_in put ∙ map-append other_in old (other ∷ [])))
