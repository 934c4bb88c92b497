-- A text in parts of whole physical lines.
use Rattle.std.proofs.Common.{◌≡◌, ◌⊎◌, inl, inr, ℕ, ◌-◌, ◌≤◌, ◌==◌, ◌&&◌, Bool, true, false, List, [], ◌∷◌, ◌++◌, length, take}
use Rattle.std.proofs.Common.{refl, sym, ap, ◌∙◌, arith, append_assoc, append-nil, eqb-true}
use Rattle.std.specs.List.{onto_first}
use Rattle.std.proofs.lemmas.Bool.{and_parts}
use Rattle.std.proofs.lemmas.List.{append_cancel_right, length-append}
use Rattle.std.proofs.Math.Seq.{take-append_seam}
use Rattle.rr_model.specs.Text.Lines.{begins_blank, feeds_next, physical_lines}
use Rattle.rr_text.specs.Physical.{EndsWithFeed, IsCutAt, IsPart}

-- ---- the physical lines of two parts

-- there is a line
pub record IsSome (lines : List (List ℕ)) : Type 0 where
  pub first : List ℕ
  pub more : List (List ℕ)
  pub is : lines ≡ first ∷ more

-- the lines of a text after a line feed stand behind those before it
record IsFed (front rest : List ℕ) : Type 0 where
  some : IsSome (physical_lines (front ++ 10 ∷ []))
  apart : physical_lines (front ++ 10 ∷ rest) ≡ physical_lines (front ++ 10 ∷ []) ++ physical_lines rest

pub onto_first-some : (b : ℕ) (lines : List (List ℕ)) → IsSome (onto_first b lines)
onto_first-some b [] = record { first = b ∷ []; more = []; is = refl }
onto_first-some b (line ∷ lines) = record { first = b ∷ line; more = lines; is = refl }

pub onto_first-append : (b : ℕ) (lines more : List (List ℕ)) → IsSome lines → onto_first b (lines ++ more) ≡ onto_first b lines ++ more
onto_first-append b [] more some = absurd (let e = some.is in cc)
onto_first-append b (line ∷ lines) more some = refl

same_next : (front rest : List ℕ) → feeds_next (front ++ 10 ∷ rest) ≡ feeds_next (front ++ 10 ∷ [])
same_next [] rest = refl
same_next (c ∷ cs) rest = refl

fed-more : (b : ℕ) (front rest : List ℕ) → IsFed front rest → IsFed (b ∷ front) rest
unfolding physical_lines
fed-more b front rest fed = by (b == 10) ((b == 13) && feeds_next (front ++ 10 ∷ [])) refl refl
  where
    by : (feed return : Bool) → (b == 10) ≡ feed → ((b == 13) && feeds_next (front ++ 10 ∷ [])) ≡ return → IsFed (b ∷ front) rest
    by true return e f = record {
      some = rw e (record { first = []; more = physical_lines (front ++ 10 ∷ []); is = refl });
      apart = rw e (ap (λ (ls : List (List ℕ)). [] ∷ ls) fed.apart);
    }
    by false true e f = record { some = rw (e, f) fed.some; apart = rw (e, same_next front rest, f) fed.apart }
    by false false e f = record {
      some = rw (e, f) (onto_first-some b (physical_lines (front ++ 10 ∷ [])));
      apart = rw (e, same_next front rest, f) (ap (onto_first b) fed.apart ∙ onto_first-append b _ (physical_lines rest) fed.some);
    }

fed : (front rest : List ℕ) → IsFed front rest
unfolding physical_lines
fed [] rest = record { some = record { first = []; more = []; is = refl }; apart = refl }
fed (b ∷ front) rest = fed-more b front rest (fed front rest)

no-lines : (rest : List ℕ) → rest ≡ [] → physical_lines rest ≡ []
unfolding physical_lines
no-lines rest e = rw e refl

-- the physical lines of a text are those of the part, and then those of the rest
pub part-lines : (part rest : List ℕ) → (rest ≡ []) ⊎ EndsWithFeed part → physical_lines (part ++ rest) ≡ physical_lines part ++ physical_lines rest
part-lines part rest (inl none) =
    ap (λ (r : List ℕ). physical_lines (part ++ r)) none ∙ ap physical_lines (append-nil part)
    ∙ sym (append-nil (physical_lines part)) ∙ ap (λ (r : List (List ℕ)). physical_lines part ++ r) (sym (no-lines rest none))
part-lines part rest (inr feed) =
    ap (λ (p : List ℕ). physical_lines (p ++ rest)) feed.is ∙ ap physical_lines (append_assoc feed.front (10 ∷ []) rest) ∙ (fed feed.front rest).apart
    ∙ ap (λ (p : List ℕ). physical_lines p ++ physical_lines rest) (sym feed.is)

pub text-lines : (text part rest : List ℕ) → IsPart text part rest → physical_lines text ≡ physical_lines part ++ physical_lines rest
text-lines text part rest is = ap physical_lines is.joined ∙ part-lines part rest is.ends

-- the part of a first line has this line alone
pub cut-lines : (text line rest : List ℕ) (cut : IsCutAt text line rest) → physical_lines cut.part ≡ line ∷ []
cut-lines text line rest cut =
    append_cancel_right (physical_lines cut.part) (line ∷ []) (physical_lines rest) (sym (text-lines text cut.part rest cut.parts) ∙ cut.lines)

-- ---- one part after another

-- nothing follows nothing
none-parts : (part rest : List ℕ) → [] ≡ part ++ rest → (part ≡ []) × (rest ≡ [])
none-parts [] rest e = (refl, sym e)
none-parts (b ∷ part) rest e = absurd (cc)

more-feed : (part more : List ℕ) → EndsWithFeed more → EndsWithFeed (part ++ more)
more-feed part more feed = record {
  front = part ++ feed.front;
  is = ap (λ (m : List ℕ). part ++ m) feed.is ∙ sym (append_assoc part feed.front (10 ∷ []));
}

-- what a part that is cut off and the part after it have together
pub record AreJoined (text part more rest : List ℕ) : Type 0 where
  pub parts : IsPart text (part ++ more) rest
  pub lines : physical_lines (part ++ more) ≡ physical_lines part ++ physical_lines more

pub joined : (text part middle more rest : List ℕ) → IsPart text part middle → IsPart middle more rest → AreJoined text part more rest
joined text part middle more rest one two = by one.ends
  where
    whole : text ≡ (part ++ more) ++ rest
    whole = one.joined ∙ ap (λ (m : List ℕ). part ++ m) two.joined ∙ sym (append_assoc part more rest)

    by : (middle ≡ []) ⊎ EndsWithFeed part → AreJoined text part more rest
    by (inl none) =
        let left = none-parts more rest (sym none ∙ two.joined) in record {
          parts = record { joined = whole; ends = inl left.1 };
          lines = part-lines part more (inl left.0);
        }
    by (inr feed) = record {
      parts = record { joined = whole; ends = (elim two.ends [ inl none ↦ inl none | inr more_feed ↦ inr (more-feed part more more_feed) ]) };
      lines = part-lines part more (inr feed);
    }

-- the part before the rest is what stands before it
pub part-before : (text part rest : List ℕ) → text ≡ part ++ rest → take (length text - length rest) text ≡ part
part-before text part rest e =
    let count : length text - length rest ≡ length part = omega (arith, ap length e, length-append part rest) in
    rw count (ap (λ (t : List ℕ). take (length part) t) e ∙ take-append_seam part rest)

-- ---- blanks

blank-feed : (b : ℕ) (bs : List ℕ) → (b == 10) ≡ true → begins_blank (b ∷ bs) ≡ false
blank-feed b bs e = rw (eqb-true b 10 e) refl

blank-return : (b : ℕ) (bs : List ℕ) → (b == 13) ≡ true → begins_blank (b ∷ bs) ≡ false
blank-return b bs e = rw (eqb-true b 13 e) refl

pub feeds-lines : (bs : List ℕ) → feeds_next bs ≡ true → (more : List (List ℕ)) × (physical_lines bs ≡ [] ∷ more)
unfolding physical_lines
feeds-lines [] h = absurd (cc)
feeds-lines (b ∷ bs) h = (physical_lines bs, rw h refl)

onto_first-blank : (b : ℕ) (bs line : List ℕ) (lines more : List (List ℕ)) → onto_first b lines ≡ line ∷ more → begins_blank line ≡ begins_blank (b ∷ bs)
onto_first-blank b bs line [] more e = let same : line ≡ b ∷ [] = cc in ap begins_blank same
onto_first-blank b bs line (first ∷ lines) more e = let same : line ≡ b ∷ first = cc in ap begins_blank same

-- a text begins with a blank if its first physical line does
pub first-blank : (text line : List ℕ) (more : List (List ℕ)) → physical_lines text ≡ line ∷ more → begins_blank line ≡ begins_blank text
unfolding physical_lines
first-blank [] line more e = absurd (cc)
first-blank (b ∷ bs) line more e = by (b == 10) ((b == 13) && feeds_next bs) refl refl
  where
    by : (feed return : Bool) → (b == 10) ≡ feed → ((b == 13) && feeds_next bs) ≡ return → begins_blank line ≡ begins_blank (b ∷ bs)
    by true return p q =
        let lines : [] ∷ physical_lines bs ≡ line ∷ more = rw p at e in
        let same : line ≡ [] = cc in
        ap begins_blank same ∙ sym (blank-feed b bs p)
    by false true p q =
        let lines : physical_lines bs ≡ line ∷ more = rw (p, q) at e in
        let next = feeds-lines bs (and_parts (b == 13) (feeds_next bs) q).1 in
        let same : line ≡ [] = cc (next.1) in
        ap begins_blank same ∙ sym (blank-return b bs (and_parts (b == 13) (feeds_next bs) q).0)
    by false false p q = onto_first-blank b bs line (physical_lines bs) more (rw (p, q) at e)

-- a text that begins with a blank is not empty
pub blank-some : (text : List ℕ) → begins_blank text ≡ true → 1 ≤ length text
blank-some [] h = absurd (cc)
blank-some (b ∷ bs) h = omega arith
