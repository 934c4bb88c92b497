-- The bytes of what is written for a series.
use Rattle.std.proofs.Common.{◌≡◌, ℕ, ◌==◌, ◌&&◌, ◌||◌, Bool, true, false, List, [], ◌∷◌, take, drop, zero, suc, refl, ap, arith}
use Rattle.std.specs.Prelude.{nat_le, nat_lt, All}
use Rattle.std.specs.Char.{to_ascii_uppercase}
use Rattle.std.specs.List.{list_all}
use Rattle.std.specs.Str.{bytes_eq, str_to_ascii_uppercase}
use Rattle.std.proofs.lemmas.Bool.{and_parts}
use Rattle.std.proofs.lemmas.Bool.Decides.{nat_tests}
use Rattle.std.proofs.lemmas.List.Elements.{All-nil, All-cons}
use Rattle.rr_model.specs.Text.Digits.{is_digit}
use Rattle.rr_model.specs.Text.Rules.{is_blank}
use Rattle.rr_model.specs.Vcal.Reading.{is_comma_or_semicolon}
use Rattle.rr_text.proofs.FoldedLineLemmas.{IsUnbroken}
use Rattle.rr_text.proofs.WrittenByteLemmas.{is_word_byte}

-- from the blank to Z: neither a line break nor a small letter
abbrev pub is_written : ℕ → Bool
is_written b = nat_le 32 b && nat_le b 90

-- the same without the blank
abbrev pub is_solid : ℕ → Bool
is_solid b = nat_lt 32 b && nat_le b 90

-- a digit, or the mark after a place
abbrev pub is_marked_byte : ℕ → Bool
is_marked_byte b = is_digit b || (b == 43) || (b == 45)

pub written-solid : (b : ℕ) → is_solid b ≡ true → is_written b ≡ true
written-solid b h = grind (arith, nat_tests)

pub solid-digit : (b : ℕ) → is_digit b ≡ true → is_solid b ≡ true
solid-digit b h = grind (arith, nat_tests)

pub solid-word : (b : ℕ) → is_word_byte b ≡ true → is_solid b ≡ true
solid-word b h = grind (arith, nat_tests)

pub solid-marked : (b : ℕ) → is_marked_byte b ≡ true → is_solid b ≡ true
solid-marked b h = grind (arith, nat_tests)

pub marked-digit : (b : ℕ) → is_digit b ≡ true → is_marked_byte b ≡ true
marked-digit b h = grind (arith, nat_tests)

pub no_blank : (b : ℕ) → is_solid b ≡ true → is_blank b ≡ false
no_blank b h = grind (arith, nat_tests)

pub no_separator : (b : ℕ) → is_word_byte b ≡ true → is_comma_or_semicolon b ≡ false
no_separator b h = grind (arith, nat_tests)

pub no_slash : (b : ℕ) → is_word_byte b ≡ true → (b == 47) ≡ false
no_slash b h = grind (arith, nat_tests)

no_feed : (b : ℕ) → is_written b ≡ true → (b == 10) ≡ false
no_feed b h = grind (arith, nat_tests)

no_return : (b : ℕ) → is_written b ≡ true → (b == 13) ≡ false
no_return b h = grind (arith, nat_tests)

capital : (b : ℕ) → is_written b ≡ true → to_ascii_uppercase b ≡ b
capital b h = grind (arith, nat_tests)

-- ---- texts of such bytes

-- no byte of the text passes a test that none of its bytes can pass
pub none-of : (p q : ℕ → Bool) → ((b : ℕ) → p b ≡ true → q b ≡ false) → (xs : List ℕ) → list_all p xs ≡ true → All (λ b. q b ≡ false) xs
none-of p q other [] h = All-nil _
none-of p q other (x ∷ xs) h =
    let parts = and_parts (p x) (list_all p xs) h in
    All-cons (λ b. q b ≡ false) x xs (other x parts.0) (none-of p q other xs parts.1)

pub all-take : (p : ℕ → Bool) (n : ℕ) (xs : List ℕ) → list_all p xs ≡ true → list_all p (take n xs) ≡ true
all-take p zero xs h = refl
all-take p (suc n) [] h = refl
all-take p (suc n) (x ∷ xs) h =
    let parts = and_parts (p x) (list_all p xs) h in
    rw (parts.0, all-take p n xs parts.1) refl

pub all-drop : (p : ℕ → Bool) (n : ℕ) (xs : List ℕ) → list_all p xs ≡ true → list_all p (drop n xs) ≡ true
all-drop p zero xs h = h
all-drop p (suc n) [] h = refl
all-drop p (suc n) (x ∷ xs) h = all-drop p n xs (and_parts (p x) (list_all p xs) h).1

-- a text is none that begins with a byte which it cannot have
pub other_text : (p : ℕ → Bool) (text : List ℕ) (c : ℕ) (cs : List ℕ) → list_all p text ≡ true → p c ≡ false → bytes_eq text (c ∷ cs) ≡ false
other_text p [] c cs h other = refl
other_text p (b ∷ bs) c cs h other = by (b == c) refl
  where
    by : (t : Bool) → (b == c) ≡ t → bytes_eq (b ∷ bs) (c ∷ cs) ≡ false
    by true e =
        let same : b ≡ c = grind (arith, nat_tests, e) in
        let passes = (and_parts (p b) (list_all p bs) h).0 in
        let agree : p b ≡ p c = ap p same in
        absurd (cc)
    by false e = rw e refl

-- a text without small letters is in capitals
pub capitals-written : (text : List ℕ) → list_all is_written text ≡ true → str_to_ascii_uppercase text ≡ text
capitals-written [] h = refl
capitals-written (b ∷ bs) h =
    let parts = and_parts (is_written b) (list_all is_written bs) h in
    cc (capital b parts.0, capitals-written bs parts.1)

-- no byte of a line break stands in it
pub unbroken-written : (text : List ℕ) → list_all is_written text ≡ true → IsUnbroken text
unbroken-written [] h = tt
unbroken-written (b ∷ bs) h =
    let parts = and_parts (is_written b) (list_all is_written bs) h in
    (no_feed b parts.0, no_return b parts.0, unbroken-written bs parts.1)
