-- What is appended to markup leaves markup.
use Rattle.std.proofs.Common.{◌≡◌, ℕ, ◌+◌, ◌<◌, List, [], ◌∷◌, ◌++◌, length, get_or, drop, subst, sym, ap, ◌∙◌, append_assoc}
use Rattle.std.proofs.lemmas.List.{append-nil, drop_more}
use Rattle.std.proofs.Math.Logic.{∥∥₁_map}
use Rattle.rr_html.specs.Markup.{IsMarkup, html_byte, html_text}
use Rattle.rr_html.specs.Pieces.{piece_text}
use Rattle.rr_html.specs.declared.piece.Piece.{Piece}

pub none_is : (bytes : List ℕ) → bytes ≡ [] → ∥ IsMarkup bytes ∥₁
none_is bytes e = ∣ subst (λ bs. IsMarkup bs) (sym e) IsMarkup.none ∣₁

pub piece_is : (before after : List ℕ) (p : Piece) (text : List ℕ) → ∥ IsMarkup before ∥₁ → text ≡ piece_text p → after ≡ before ++ text
    → ∥ IsMarkup after ∥₁
piece_is before after p text is same new = ∥∥₁_map is (λ m. rw (new, same) (IsMarkup.piece before p m))

pub byte_is : (before after : List ℕ) (b : ℕ) → IsMarkup before → after ≡ before ++ html_byte b → IsMarkup after
byte_is before after b is new = rw (new) (subst (λ bs. IsMarkup (before ++ bs)) (append-nil (html_byte b)) (IsMarkup.text before (b ∷ []) is))

-- one byte more
pub byte_more : (out next all text : List ℕ) (i : ℕ) → i < length text → out ++ html_text (drop i text) ≡ all
    → next ≡ out ++ html_byte (get_or text i 0) → next ++ html_text (drop (i + 1) text) ≡ all
byte_more out next all text i within so_far new =
    ap (λ o. o ++ html_text (drop (i + 1) text)) new ∙ append_assoc out (html_byte (get_or text i 0)) (html_text (drop (i + 1) text))
    ∙ ap (λ bs. out ++ html_text bs) (sym (drop_more text i 0 within)) ∙ so_far
