-- One word more of the words of a comparison.
use Rattle.std.proofs.Common.{◌≡◌, ℕ, ◌+◌, ◌<◌, ◌≤◌, List, [], ◌∷◌, length, get_or, drop, Bor, Some, None, false, bytes_eq, refl, sym, ap, ◌∙◌, arith}
use Rattle.std.specs.Prelude.{option_and_then}
use Rattle.std.proofs.lemmas.List.{at_drop_all, drop_more}
use Rattle.rr_compare.specs.Parsed.{words_of}
use Rattle.rr_compare.specs.Words.{Given, is_only, with_word, with_words}

module _ (given : Given) (words : List (Bor (List ℕ))) (i : ℕ) where
  word_at : (d : Bor (List ℕ)) → i < length words → words_of (drop i words) ≡ (get_or words i d).now ∷ words_of (drop (i + 1) words)
  word_at d h = ap words_of (drop_more words i d h)

  pub next_given : (next : Given) (d : Bor (List ℕ)) → i < length words → Some next ≡ with_word given (get_or words i d).now
      → with_words given (words_of (drop i words)) ≡ with_words next (words_of (drop (i + 1) words))
  next_given next d h e =
      ap (with_words given) (word_at d h) ∙ ap (option_and_then (λ (g : Given). with_words g (words_of (drop (i + 1) words)))) (sym e)

  pub no_given : (d : Bor (List ℕ)) → i < length words → None ≡ with_word given (get_or words i d).now
      → with_words given (words_of (drop i words)) ≡ None
  no_given d h e =
      ap (with_words given) (word_at d h) ∙ ap (option_and_then (λ (g : Given). with_words g (words_of (drop (i + 1) words)))) (sym e)

  pub last_given : length words ≤ i → with_words given (words_of (drop i words)) ≡ Some given
  last_given h = at_drop_all (λ (ws : List (Bor (List ℕ))). with_words given (words_of ws)) words i h

module _ (wanted : List ℕ) where
  pub one_only : (words : List (Bor (List ℕ))) (d : Bor (List ℕ)) → length words ≡ 1 → bytes_eq (get_or words 0 d).now wanted ≡ is_only wanted (words_of words)
  one_only [] d h = absurd (omega arith)
  one_only (word ∷ []) d h = refl
  one_only (word ∷ next ∷ words) d h = absurd (omega arith)

  pub not_only : (words : List (Bor (List ℕ))) → (length words ≡ 1 → ⊥) → is_only wanted (words_of words) ≡ false
  not_only [] h = refl
  not_only (word ∷ []) h = absurd (h refl)
  not_only (word ∷ next ∷ words) h = refl
