-- The unfolded lines of a text with the bytes that they stand on.
use Rattle.std.proofs.Common.{◌≡◌, ◌⊎◌, inl, inr, ℕ, ◌==◌, ◌&&◌, not, Bool, true, false, List, [], ◌∷◌, ◌++◌}
use Rattle.std.proofs.Common.{refl, sym, ap, ◌∙◌, append_assoc, append-nil}
use Rattle.std.specs.List.{onto_first}
use Rattle.std.proofs.lemmas.Bool.{and_parts}
use Rattle.rr_model.specs.Text.Lines.{begins_blank, feeds_next, physical_lines}
use Rattle.rr_text.specs.Physical.{EndsWithFeed}
use Rattle.rr_events.specs.Cutting.{raw_texts}
use Rattle.rr_events.proofs.PartLemmas.{feeds-lines, onto_first-append, onto_first-some, IsSome}

-- ---- a text behind a line feed

-- the raw texts after a line feed stand behind those before it
record IsRawApart (front rest : List ℕ) : Type 0 where
  some : IsSome (raw_texts (front ++ 10 ∷ []))
  apart : raw_texts (front ++ 10 ∷ rest) ≡ raw_texts (front ++ 10 ∷ []) ++ raw_texts rest

same_blank : (front rest : List ℕ) → begins_blank (front ++ 10 ∷ rest) ≡ begins_blank (front ++ 10 ∷ [])
same_blank [] rest = refl
same_blank (c ∷ cs) rest = refl

raw-more : (b : ℕ) (front rest : List ℕ) → IsRawApart front rest → IsRawApart (b ∷ front) rest
raw-more b front rest is = by ((b == 10) && not (begins_blank (front ++ 10 ∷ []))) refl
  where
    by : (ends : Bool) → ((b == 10) && not (begins_blank (front ++ 10 ∷ []))) ≡ ends → IsRawApart (b ∷ front) rest
    by true e = record {
      some = rw e (record { first = b ∷ []; more = raw_texts (front ++ 10 ∷ []); is = refl });
      apart = rw (same_blank front rest, e) (ap (λ (ls : List (List ℕ)). (b ∷ []) ∷ ls) is.apart);
    }
    by false e = record {
      some = rw e (onto_first-some b (raw_texts (front ++ 10 ∷ [])));
      apart = rw (same_blank front rest, e) (ap (onto_first b) is.apart ∙ onto_first-append b _ (raw_texts rest) is.some);
    }

raw-apart : (front rest : List ℕ) → begins_blank rest ≡ false → IsRawApart front rest
raw-apart [] rest starts = record {
  some = record { first = 10 ∷ []; more = []; is = refl };
  apart = rw starts refl;
}
raw-apart (b ∷ front) rest starts = raw-more b front rest (raw-apart front rest starts)

-- the raw texts of a part, and then those of what follows and continues none
pub raws-parted : (part rest : List ℕ) → (rest ≡ []) ⊎ EndsWithFeed part → begins_blank rest ≡ false → raw_texts (part ++ rest) ≡ raw_texts part ++ raw_texts rest
raws-parted part rest (inl none) starts =
    ap (λ (r : List ℕ). raw_texts (part ++ r)) none ∙ ap raw_texts (append-nil part)
    ∙ sym (append-nil (raw_texts part)) ∙ ap (λ (r : List ℕ). raw_texts part ++ raw_texts r) (sym none)
raws-parted part rest (inr feed) starts =
    ap (λ (p : List ℕ). raw_texts (p ++ rest)) feed.is ∙ ap raw_texts (append_assoc feed.front (10 ∷ []) rest)
    ∙ (raw-apart feed.front rest starts).apart ∙ ap (λ (p : List ℕ). raw_texts p ++ raw_texts rest) (sym feed.is)

-- ---- one unfolded line

onto_first-none : (b : ℕ) (lines : List (List ℕ)) → onto_first b lines ≡ [] → lines ≡ []
onto_first-none b [] e = refl
onto_first-none b (line ∷ lines) e = absurd (cc)

-- a text without physical lines is empty
no-physical : (text : List ℕ) → physical_lines text ≡ [] → text ≡ []
unfolding physical_lines
no-physical [] e = refl
no-physical (b ∷ bs) e = by (b == 10) ((b == 13) && feeds_next bs) refl refl
  where
    by : (feed return : Bool) → (b == 10) ≡ feed → ((b == 13) && feeds_next bs) ≡ return → b ∷ bs ≡ []
    by true return p q = absurd (let none : [] ∷ physical_lines bs ≡ [] = rw p at e in cc)
    by false true p q =
        let none : physical_lines bs ≡ [] = rw (p, q) at e in
        let next = feeds-lines bs (and_parts (b == 13) (feeds_next bs) q).1 in
        absurd (let other : [] ∷ next.0 ≡ [] = sym next.1 ∙ none in cc)
    by false false p q = absurd (let some = onto_first-some b (physical_lines bs) in let other : some.first ∷ some.more ≡ [] = sym some.is ∙ rw (p, q) at e in cc)

-- the one physical line of a text is one unfolded line
abbrev IsOneWhole : List ℕ → Type 0
IsOneWhole text = (line : List ℕ) → physical_lines text ≡ line ∷ [] → raw_texts text ≡ text ∷ []

pub one-whole : (text line : List ℕ) → physical_lines text ≡ line ∷ [] → raw_texts text ≡ text ∷ []
unfolding physical_lines
one-whole [] line e = absurd (cc)
one-whole (b ∷ bs) line e = by (λ first p. one-whole bs first p) (b == 10) ((b == 13) && feeds_next bs) refl refl
  where
    with_first : IsOneWhole bs → (lines : List (List ℕ)) → physical_lines bs ≡ lines → onto_first b lines ≡ line ∷ [] → onto_first b (raw_texts bs) ≡ (b ∷ bs) ∷ []
    with_first shorter [] p q = rw (no-physical bs p) refl
    with_first shorter (first ∷ more) p q =
        let none : more ≡ [] = cc in
        rw (shorter first (p ∙ ap (λ (ls : List (List ℕ)). first ∷ ls) none)) refl

    by : IsOneWhole bs → (feed return : Bool) → (b == 10) ≡ feed → ((b == 13) && feeds_next bs) ≡ return → raw_texts (b ∷ bs) ≡ (b ∷ bs) ∷ []
    by shorter true return p q =
        let lines : [] ∷ physical_lines bs ≡ line ∷ [] = rw p at e in
        let none : physical_lines bs ≡ [] = cc in
        rw (p, no-physical bs none) refl
    by shorter false true p q =
        let lines : physical_lines bs ≡ line ∷ [] = rw (p, q) at e in
        rw (p, shorter line lines) refl
    by shorter false false p q =
        let lines : onto_first b (physical_lines bs) ≡ line ∷ [] = rw (p, q) at e in
        rw p (with_first shorter (physical_lines bs) refl lines)

onto_first-one : (b : ℕ) (text : List ℕ) (lines : List (List ℕ)) → onto_first b lines ≡ (b ∷ text) ∷ [] → (lines ≡ []) ⊎ (lines ≡ text ∷ [])
onto_first-one b text [] e = inl refl
onto_first-one b text (first ∷ more) e = inr (cc)

raws-some : (b : ℕ) (bs : List ℕ) → IsSome (raw_texts (b ∷ bs))
raws-some b bs = by ((b == 10) && not (begins_blank bs)) refl
  where
    by : (ends : Bool) → ((b == 10) && not (begins_blank bs)) ≡ ends → IsSome (raw_texts (b ∷ bs))
    by true e = rw e (record { first = b ∷ []; more = raw_texts bs; is = refl })
    by false e = rw e (onto_first-some b (raw_texts bs))

ends-none : (b : ℕ) (more : List ℕ) → begins_blank more ≡ true → ((b == 10) && not (begins_blank more)) ≡ false
ends-none b more blank = rw blank (by (b == 10))
  where
    by : (here : Bool) → (here && false) ≡ false
    by true = refl
    by false = refl

-- a line and what continues it are one unfolded line
pub longer-whole : (text more : List ℕ) → raw_texts text ≡ text ∷ [] → raw_texts more ≡ more ∷ [] → begins_blank more ≡ true → raw_texts (text ++ more) ≡ (text ++ more) ∷ []
longer-whole [] more one two blank = absurd (cc)
longer-whole (b ∷ []) more one two blank = rw (ends-none b more blank, two) refl
longer-whole (b ∷ c ∷ text) more one two blank = by (λ whole. longer-whole (c ∷ text) more whole two blank) ((b == 10) && not (begins_blank (c ∷ text))) refl
  where
    never : raw_texts (c ∷ text) ≡ [] → raw_texts (c ∷ text) ≡ (c ∷ text) ∷ []
    never none = absurd (let is = raws-some c text in let other : is.first ∷ is.more ≡ [] = sym is.is ∙ none in cc)

    rest_whole : onto_first b (raw_texts (c ∷ text)) ≡ (b ∷ c ∷ text) ∷ [] → raw_texts (c ∷ text) ≡ (c ∷ text) ∷ []
    rest_whole e = elim (onto_first-one b (c ∷ text) (raw_texts (c ∷ text)) e) [ inl none ↦ never none | inr is ↦ is ]

    by : (raw_texts (c ∷ text) ≡ (c ∷ text) ∷ [] → raw_texts ((c ∷ text) ++ more) ≡ ((c ∷ text) ++ more) ∷ []) → (ends : Bool)
        → ((b == 10) && not (begins_blank (c ∷ text))) ≡ ends → raw_texts ((b ∷ c ∷ text) ++ more) ≡ ((b ∷ c ∷ text) ++ more) ∷ []
    by longer true e = absurd (let two_lines : (b ∷ []) ∷ raw_texts (c ∷ text) ≡ (b ∷ c ∷ text) ∷ [] = rw e at one in cc)
    by longer false e =
        let first : onto_first b (raw_texts (c ∷ text)) ≡ (b ∷ c ∷ text) ∷ [] = rw e at one in
        rw (e, longer (rest_whole first)) refl
