use Rattle.std.proofs.Common.{◌≡◌, ◌==◌, ℕ, Bool, true, false, nat_lt, List, length, get_or, Option, None, Some, refl, arith}
use Rattle.std.specs.List.{position, position_or_len}
use Rattle.std.proofs.lemmas.Bool.{false_from_ne_true}
use Rattle.std.proofs.lemmas.Bool.Decides.{nat_tests}
use Rattle.std.proofs.lemmas.List.Sums.{position_or_len_is}
use Rattle.memchr.specs.Find.{IsFirstByte, is_byte}
use Rattle.rr_text.proofs.physical.feed_index.Goals as goal

abbrev is_feed : ℕ → Bool
is_feed b = b == 10

-- the first line feed, if there is one
first_feed : (text : List ℕ) (place : Option ℕ) → IsFirstByte (is_byte 10) text place → place ≡ position is_feed text
first_feed text None nowhere =
    let absent : position_or_len is_feed text ≡ length text =
    position_or_len_is is_feed text (length text) 0 (omega arith)
    (λ k below. false_from_ne_true (is_feed (get_or text k 0)) (nowhere k (omega arith) below)) (λ l. absurd (omega (arith, l))) in
    let none : nat_lt (length text) (length text) ≡ false = grind (arith, nat_tests) in
    rw (absent, none) refl
first_feed text (Some place) first =
    let high = first.0.high in
    let stands : position_or_len is_feed text ≡ place =
    position_or_len_is is_feed text place 0 (omega (arith, high))
    (λ k below. false_from_ne_true (is_feed (get_or text k 0)) (first.0.before k (omega arith) below)) (λ l. first.1) in
    let some : nat_lt place (length text) ≡ true = grind (arith, nat_tests, high) in
    rw (stands, some) refl

pub returns : goal.returns
returns c = first_feed c.args.text.now c.memchr.result c.memchr.ensures
