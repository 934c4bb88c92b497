-- The first unfolded line of a text.
use Rattle.std.proofs.Common.{◌≡◌, ℕ, ◌+◌, ◌&&◌, Bool, true, false, if◌then◌else◌, List, [], ◌∷◌, ◌++◌, length}
use Rattle.std.proofs.Common.{refl, sym, ap, ◌∙◌, arith, Option, None, Some}
use Rattle.std.specs.Prelude.{MatchOption}
use Rattle.std.proofs.lemmas.Option.{MatchOption-at_none, MatchOption-at_some}
use Rattle.std.proofs.lemmas.List.{length-append}
use Rattle.rr_model.specs.Text.Lines.{begins_blank, continuation, onto_last, physical_lines, with_physical_line, with_physical_lines}
use Rattle.rr_model.specs.declared.line.Line.{Line}
use Rattle.rr_text.specs.Physical.{IsCutAt}
use Rattle.rr_events.specs.Cutting.{lines_at, IsContinued, IsCut, IsOneLine}
use Rattle.rr_events.specs.declared.cut.Cut.{Cut}
use Rattle.rr_events.proofs.CuttingLemmas.{parts_unfold_alone}
use Rattle.rr_events.proofs.PartLemmas.{cut-lines, first-blank, joined, text-lines}
use Rattle.rr_events.proofs.RawLemmas.{longer-whole, one-whole}

-- physical lines are taken in one after another
pub lines-append : (kb : Bool) (n : ℕ) (done : List Line) (texts more : List (List ℕ))
    → with_physical_lines kb n done (texts ++ more) ≡ with_physical_lines kb (n + length texts) (with_physical_lines kb n done texts) more
lines-append kb n done [] more = let none : n + 0 ≡ n = omega arith in rw none refl
lines-append kb n done (text ∷ texts) more =
    let count : (n + 1) + length texts ≡ n + length (text ∷ texts) = omega arith in
    lines-append kb (n + 1) (with_physical_line kb n done text) texts more
    ∙ ap (λ (k : ℕ). with_physical_lines kb k (with_physical_lines kb (n + 1) (with_physical_line kb n done text) texts) more) count

-- a first line continues none
alone : (n : ℕ) (text : List ℕ) → with_physical_line false n [] text ≡ record { number = n; text = text } ∷ []
alone n text = by (begins_blank text)
  where
    by : (b : Bool) → (if b && false then onto_last [] (continuation false text) else record { number = n; text = text } ∷ []) ≡ record { number = n; text = text } ∷ []
    by true = refl
    by false = refl

pub one-begun : (number : ℕ) (text first taken rest : List ℕ) → taken ≡ first → IsCutAt text first rest
    → IsOneLine number text (record { number = number; text = taken }) rest (number + 1)
one-begun number text first taken rest same cut =
    let lines = cut-lines text first rest cut in
    rw same record {
      part = cut.part;
      parts = cut.parts;
      unfolds = ap (with_physical_lines false number []) lines ∙ alone number first;
      whole = one-whole cut.part first lines;
      counted = omega (arith, ap length lines);
      later = omega arith;
      few = omega (arith, cut.shorter);
    }

pub one-longer : (number : ℕ) (text : List ℕ) (line : Line) (rest more taken after : List ℕ) (next : ℕ) → taken ≡ line.text ++ more
    → IsOneLine number text line rest next → IsContinued rest more after → IsOneLine number text (record { number = line.number; text = taken }) after (next + 1)
one-longer number text line rest more taken after next same one add =
    let cut = add.cut in
    let j = joined text one.part rest cut.part after one.parts cut.parts in
    let lines : physical_lines (one.part ++ cut.part) ≡ physical_lines one.part ++ add.line ∷ [] =
    j.lines ∙ ap (λ (ls : List (List ℕ)). physical_lines one.part ++ ls) (cut-lines rest add.line after cut) in
    let place = number + length (physical_lines one.part) in
    rw same record {
      part = one.part ++ cut.part;
      parts = j.parts;
      unfolds =
          ap (with_physical_lines false number []) lines ∙ lines-append false number [] (physical_lines one.part) (add.line ∷ [])
          ∙ ap (λ (ls : List Line). with_physical_line false place ls add.line) one.unfolds
          ∙ ap (λ (b : Bool). if b && true then onto_last (line ∷ []) (continuation false add.line)
          else line ∷ record { number = place; text = add.line } ∷ []) add.blank
          ∙ ap (λ (t : List ℕ). record { number = line.number; text = line.text ++ t } ∷ []) (sym add.adds);
      whole =
          longer-whole one.part cut.part one.whole (one-whole cut.part add.line (cut-lines rest add.line after cut))
          (sym (first-blank cut.part add.line [] (cut-lines rest add.line after cut)) ∙ add.blank);
      counted = omega (arith, one.counted, ap length lines, length-append (physical_lines one.part) (add.line ∷ []));
      later = omega (arith, one.later);
      few = omega (arith, one.few, cut.shorter);
    }

-- lines that a line which continues none follows are done
pub lines-apart : (kb : Bool) (n : ℕ) (done : List Line) (rest : List ℕ) → begins_blank rest ≡ false
    → with_physical_lines kb n done (physical_lines rest) ≡ done ++ with_physical_lines kb n [] (physical_lines rest)
lines-apart kb n done rest starts = by (physical_lines rest) refl
  where
    none : (done : List Line) → done ≡ done ++ []
    none [] = refl
    none (d ∷ done) = ap (λ (ls : List Line). d ∷ ls) (none done)

    by : (lines : List (List ℕ)) → physical_lines rest ≡ lines
        → with_physical_lines kb n done (physical_lines rest) ≡ done ++ with_physical_lines kb n [] (physical_lines rest)
    by [] e = rw e (none done)
    by (text ∷ texts) e = rw e (parts_unfold_alone kb n done text texts (first-blank rest text texts e ∙ starts))

-- the lines of a part and of a rest that continues none
pub lines-parted : (n : ℕ) (text part rest : List ℕ) → begins_blank rest ≡ false → physical_lines text ≡ physical_lines part ++ physical_lines rest
    → lines_at n text ≡ lines_at n part ++ lines_at (n + length (physical_lines part)) rest
lines-parted n text part rest starts lines =
    ap (with_physical_lines false n []) lines ∙ lines-append false n [] (physical_lines part) (physical_lines rest)
    ∙ lines-apart false (n + length (physical_lines part)) (lines_at n part) rest starts

-- a text has its first line, and then the lines of what follows
pub line-first : (number : ℕ) (text : List ℕ) (line : Line) (after : List ℕ) (next : ℕ) → IsCut number text line after next
    → lines_at number text ≡ line ∷ lines_at next after
line-first number text line after next cut =
    let one = cut.one in
    lines-parted number text one.part after cut.starts (text-lines text one.part after one.parts)
    ∙ ap (λ (k : ℕ). lines_at number one.part ++ lines_at k after) (sym one.counted)
    ∙ ap (λ (ls : List Line). ls ++ lines_at next after) one.unfolds

-- what an option says that is a cut, or none
pub cut-of : (number : ℕ) (text : List ℕ) (cut : Option Cut) (is : Cut) → cut ≡ Some is
    → MatchOption cut (text ≡ []) (λ cut. IsCut number text cut.line cut.after.now cut.next) → IsCut number text is.line is.after.now is.next
cut-of number text cut is e h = MatchOption-at_some (text ≡ []) (λ (cut : Cut). IsCut number text cut.line cut.after.now cut.next) is e h

pub no-cut : (number : ℕ) (text : List ℕ) (cut : Option Cut) → cut ≡ None
    → MatchOption cut (text ≡ []) (λ cut. IsCut number text cut.line cut.after.now cut.next) → text ≡ []
no-cut number text cut e h = MatchOption-at_none (text ≡ []) (λ (cut : Cut). IsCut number text cut.line cut.after.now cut.next) e h
