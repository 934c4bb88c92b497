-- A page of HTML: fixed pieces and escaped texts (HTML, character references).
use Rattle.std.specs.Prelude.{◌≡◌, ℕ, ◌==◌, nat_lt, Bool, true, not, ◌&&◌, if◌then◌else◌, All, List, [], ◌∷◌, ◌++◌, codes}
use Rattle.std.specs.List.{Contains}
use Rattle.rr_html.specs.Pieces.{piece_text}
use Rattle.rr_html.specs.declared.piece.Piece.{Piece}

-- ---- escaped texts

-- a byte that is no markup and no control character
abbrev pub is_clean : ℕ → Bool
is_clean b = not (nat_lt b 32) && (not (b == 60) && (not (b == 62) && (not (b == 34) && (not (b == 39) && not (b == 127)))))

-- the reference that stands for a byte that is not clean, or for an ampersand
abbrev pub reference : ℕ → List ℕ
reference b =
    if b == 38 then codes "&amp;"
    else (if b == 60 then codes "&lt;"
    else (if b == 62 then codes "&gt;"
    else (if b == 34 then codes "&quot;" else (if b == 39 then codes "&#39;" else (if b == 10 then codes "&#10;" else codes "&#xFFFD;")))))

-- a byte stands for itself
abbrev pub is_kept : ℕ → Bool
is_kept b = is_clean b && not (b == 38)

-- a byte in a page
abbrev pub html_byte : ℕ → List ℕ
html_byte b = if is_kept b then b ∷ [] else reference b

-- A text in a page: the five signs of markup and line ends are references, and each other control character is the sign for what can't be shown.
abbrev pub html_text : List ℕ → List ℕ
html_text [] = []
html_text (b ∷ bs) = html_byte b ++ html_text bs

-- ---- a law of escaped texts

-- the references that are written
abbrev pub references : List (List ℕ)
references = codes "&amp;" ∷ codes "&lt;" ∷ codes "&gt;" ∷ codes "&quot;" ∷ codes "&#39;" ∷ codes "&#10;" ∷ codes "&#xFFFD;" ∷ []

-- a text is bytes that stand for themselves, and references
pub data IsPageText : List ℕ → Type 0 where
  none : IsPageText []
  byte : (b : ℕ) (rest : List ℕ) → is_kept b ≡ true → IsPageText rest → IsPageText (b ∷ rest)
  mark : (piece rest : List ℕ) → Contains references piece → IsPageText rest → IsPageText (piece ++ rest)

-- Whatever bytes a text has, what stands of it in a page has no `<` and no `>`, no quote and no control character, and each ampersand of it
-- begins one of the references.
pub record PagesAreClean : Type 0 where
  pub clean : (text : List ℕ) → All (λ b. is_clean b ≡ true) (html_text text)
  pub pieces : (text : List ℕ) → IsPageText (html_text text)

-- ---- pages

-- Markup is fixed pieces and escaped texts, one after another.
pub data IsMarkup : List ℕ → Type 0 where
  none : IsMarkup []
  piece : (before : List ℕ) (piece : Piece) → IsMarkup before → IsMarkup (before ++ piece_text piece)
  text : (before text : List ℕ) → IsMarkup before → IsMarkup (before ++ html_text text)
