-- A folded line is unfolded to the line that it was.
use Rattle.std.proofs.Common.{◌≡◌, ℕ, ◌+◌, ◌==◌, ◌&&◌, not, Bool, true, false, if◌then◌else◌, List, [], ◌∷◌, ◌++◌, map, refl, sym, ap, ◌∙◌, append_assoc}
use Rattle.std.specs.List.{onto_first}
use Rattle.std.proofs.lemmas.List.{map-append}
use Rattle.rr_model.specs.Rule.Validity.{is_absent}
use Rattle.rr_model.specs.Text.Lines.{feeds_next, physical_lines, begins_blank, continuation, onto_last, with_physical_line, with_physical_lines}
use Rattle.rr_model.specs.Text.Lines.{unfolded_lines}
use Rattle.rr_model.specs.declared.line.Line.{Line}
use Rattle.rr_ical.specs.LineLaws.{line_texts, FoldingDoesNotMatter}

-- ---- the texts of lines

-- the texts, the last of them made longer
abbrev longer : List (List ℕ) → List ℕ → List (List ℕ)
longer [] text = []
longer (t ∷ []) text = (t ++ text) ∷ []
longer (t ∷ next ∷ ts) text = t ∷ longer (next ∷ ts) text

-- the texts with one more physical line
abbrev with_text : List (List ℕ) → List ℕ → List (List ℕ)
with_text ts text = if begins_blank text && not (is_absent ts) then longer ts (continuation false text) else ts ++ text ∷ []

-- the texts with all of these
abbrev with_texts : List (List ℕ) → List (List ℕ) → List (List ℕ)
with_texts ts [] = ts
with_texts ts (text ∷ texts) = with_texts (with_text ts text) texts

abbrev pub texts_of : List Line → List (List ℕ)
texts_of lines = map (λ (line : Line). line.text) lines

longer-of : (lines : List Line) (text : List ℕ) → texts_of (onto_last lines text) ≡ longer (texts_of lines) text
longer-of [] text = refl
longer-of (line ∷ []) text = refl
longer-of (line ∷ next ∷ lines) text = ap (λ (ts : List (List ℕ)). line.text ∷ ts) (longer-of (next ∷ lines) text)

absent-of : (lines : List Line) → is_absent (texts_of lines) ≡ is_absent lines
absent-of [] = refl
absent-of (line ∷ lines) = refl

with_text-of : (number : ℕ) (lines : List Line) (text : List ℕ) → texts_of (with_physical_line false number lines text) ≡ with_text (texts_of lines) text
with_text-of number lines text = rw (absent-of lines) (by (begins_blank text && not (is_absent lines)))
  where
    by : (b : Bool) → texts_of (if b then onto_last lines (continuation false text) else lines ++ record { number = number; text = text } ∷ [])
        ≡ (if b then longer (texts_of lines) (continuation false text) else texts_of lines ++ text ∷ [])
    by true = longer-of lines (continuation false text)
    by false = map-append (λ (line : Line). line.text) lines (record { number = number; text = text } ∷ [])

with_texts-of : (number : ℕ) (lines : List Line) (texts : List (List ℕ))
    → texts_of (with_physical_lines false number lines texts) ≡ with_texts (texts_of lines) texts
with_texts-of number lines [] = refl
with_texts-of number lines (text ∷ texts) =
    with_texts-of (number + 1) (with_physical_line false number lines text) texts ∙ ap (λ (ts : List (List ℕ)). with_texts ts texts)
    (with_text-of number lines text)

texts-of : (bytes : List ℕ) → line_texts bytes ≡ with_texts [] (physical_lines bytes)
unfolding unfolded_lines
texts-of bytes = with_texts-of 1 [] (physical_lines bytes)

-- ---- a line in two pieces

longer-twice : (ts : List (List ℕ)) (text more : List ℕ) → longer (longer ts text) more ≡ longer ts (text ++ more)
longer-twice [] text more = refl
longer-twice (t ∷ []) text more = ap (λ (x : List ℕ). x ∷ []) (append_assoc t text more)
longer-twice (t ∷ next ∷ []) text more = ap (λ (x : List ℕ). t ∷ x ∷ []) (append_assoc next text more)
longer-twice (t ∷ next ∷ third ∷ ts) text more = ap (λ (x : List (List ℕ)). t ∷ x) (longer-twice (next ∷ third ∷ ts) text more)

longer-push : (ts : List (List ℕ)) (text more : List ℕ) → longer (ts ++ text ∷ []) more ≡ ts ++ (text ++ more) ∷ []
longer-push [] text more = refl
longer-push (t ∷ []) text more = refl
longer-push (t ∷ next ∷ ts) text more = ap (λ (x : List (List ℕ)). t ∷ x) (longer-push (next ∷ ts) text more)

present-longer : (ts : List (List ℕ)) (text : List ℕ) → is_absent (longer ts text) ≡ is_absent ts
present-longer [] text = refl
present-longer (t ∷ []) text = refl
present-longer (t ∷ next ∷ ts) text = refl

present-push : (ts : List (List ℕ)) (text : List ℕ) → is_absent (ts ++ text ∷ []) ≡ false
present-push [] text = refl
present-push (t ∷ ts) text = refl

-- a piece of some bytes, and then the rest after a blank
two_pieces : (ts : List (List ℕ)) (h : ℕ) (head tail : List ℕ) → with_text (with_text ts (h ∷ head)) (32 ∷ tail) ≡ with_text ts (h ∷ (head ++ tail))
two_pieces ts h head tail = by (begins_blank (h ∷ head)) (is_absent ts) refl refl
  where
    by : (b a : Bool) → begins_blank (h ∷ head) ≡ b → is_absent ts ≡ a → with_text (with_text ts (h ∷ head)) (32 ∷ tail) ≡ with_text ts (h ∷ (head ++ tail))
    by true false e f = rw (e, f, present-longer ts head, f) (longer-twice ts head tail)
    by true true e f = rw (e, f, present-push ts (h ∷ head)) (longer-push ts (h ∷ head) tail)
    by false a e f = rw (e, present-push ts (h ∷ head)) (longer-push ts (h ∷ head) tail)

-- ---- the physical lines

-- one of the plain lines is in two pieces in the folded ones, the first of them not empty
record IsFolded (plain folded : List (List ℕ)) : Type 0 where
  before : List (List ℕ)
  first : ℕ
  head : List ℕ
  tail : List ℕ
  after : List (List ℕ)
  plain_is : plain ≡ before ++ (first ∷ (head ++ tail)) ∷ after
  folded_is : folded ≡ before ++ (first ∷ head) ∷ (32 ∷ tail) ∷ after

IsFolded-here : (b : ℕ) (lines : List (List ℕ)) → IsFolded (onto_first b lines) ((b ∷ []) ∷ onto_first 32 lines)
IsFolded-here b [] = record { before = []; first = b; head = []; tail = []; after = []; plain_is = refl; folded_is = refl }
IsFolded-here b (line ∷ lines) = record { before = []; first = b; head = []; tail = line; after = lines; plain_is = refl; folded_is = refl }

IsFolded-line : (plain folded : List (List ℕ)) → IsFolded plain folded → IsFolded ([] ∷ plain) ([] ∷ folded)
IsFolded-line plain folded f = record {
  before = [] ∷ f.before;
  first = f.first;
  head = f.head;
  tail = f.tail;
  after = f.after;
  plain_is = ap (λ (ls : List (List ℕ)). [] ∷ ls) f.plain_is;
  folded_is = ap (λ (ls : List (List ℕ)). [] ∷ ls) f.folded_is;
}

IsFolded-byte : (c : ℕ) (plain folded : List (List ℕ)) → IsFolded plain folded → IsFolded (onto_first c plain) (onto_first c folded)
IsFolded-byte c plain folded f = by f.before f.plain_is f.folded_is
  where
    by : (before : List (List ℕ)) → plain ≡ before ++ (f.first ∷ (f.head ++ f.tail)) ∷ f.after → folded ≡ before ++ (f.first ∷ f.head) ∷ (32 ∷ f.tail) ∷ f.after
        → IsFolded (onto_first c plain) (onto_first c folded)
    by [] p q = record {
      before = [];
      first = c;
      head = f.first ∷ f.head;
      tail = f.tail;
      after = f.after;
      plain_is = ap (onto_first c) p;
      folded_is = ap (onto_first c) q;
    }
    by (line ∷ lines) p q = record {
      before = (c ∷ line) ∷ lines;
      first = f.first;
      head = f.head;
      tail = f.tail;
      after = f.after;
      plain_is = ap (onto_first c) p;
      folded_is = ap (onto_first c) q;
    }

module _ (after : List ℕ) (b : ℕ) (no_feed : (b == 10) ≡ false) (no_return : (b == 13) ≡ false) where
  abbrev folded_after : List ℕ
  folded_after = 13 ∷ 10 ∷ 32 ∷ after

  same_next : (front : List ℕ) → feeds_next (front ++ b ∷ folded_after) ≡ feeds_next (front ++ b ∷ after)
  same_next [] = refl
  same_next (c ∷ cs) = refl

  fold_here : IsFolded (physical_lines (b ∷ after)) (physical_lines (b ∷ folded_after))
  unfolding physical_lines
  fold_here = rw (no_feed, no_return) (IsFolded-here b (physical_lines after))

  fold_lines : (front : List ℕ) → IsFolded (physical_lines (front ++ b ∷ after)) (physical_lines (front ++ b ∷ folded_after))
  unfolding physical_lines
  fold_lines [] = fold_here
  fold_lines (c ∷ cs) = by (c == 10) ((c == 13) && feeds_next (cs ++ b ∷ after)) refl refl (fold_lines cs)
    where
      by : (feed return : Bool) → (c == 10) ≡ feed → ((c == 13) && feeds_next (cs ++ b ∷ after)) ≡ return
          → IsFolded (physical_lines (cs ++ b ∷ after)) (physical_lines (cs ++ b ∷ folded_after))
          → IsFolded (physical_lines ((c ∷ cs) ++ b ∷ after)) (physical_lines ((c ∷ cs) ++ b ∷ folded_after))
      by true return e f folded = rw e (IsFolded-line _ _ folded)
      by false true e f folded = rw (e, same_next cs, f) folded
      by false false e f folded = rw (e, same_next cs, f) (IsFolded-byte c _ _ folded)

-- ---- the law

with_texts-append : (ts before more : List (List ℕ)) → with_texts ts (before ++ more) ≡ with_texts (with_texts ts before) more
with_texts-append ts [] more = refl
with_texts-append ts (text ∷ before) more = with_texts-append (with_text ts text) before more

unfolded_alike : (plain folded : List (List ℕ)) → IsFolded plain folded → with_texts [] folded ≡ with_texts [] plain
unfolded_alike plain folded f =
    let so_far = with_texts [] f.before in
    ap (with_texts []) f.folded_is
    ∙ with_texts-append [] f.before ((f.first ∷ f.head) ∷ (32 ∷ f.tail) ∷ f.after)
    ∙ ap (λ (ts : List (List ℕ)). with_texts ts f.after) (two_pieces so_far f.first f.head f.tail)
    ∙ sym (with_texts-append [] f.before ((f.first ∷ (f.head ++ f.tail)) ∷ f.after))
    ∙ ap (with_texts []) (sym f.plain_is)

pub folding_does_not_matter : FoldingDoesNotMatter
folding_does_not_matter front after b no_feed no_return =
    texts-of (front ++ b ∷ 13 ∷ 10 ∷ 32 ∷ after)
    ∙ unfolded_alike _ _ (fold_lines after b no_feed no_return front)
    ∙ sym (texts-of (front ++ b ∷ after))
