-- How a text comes apart again: at the first byte that cannot stand in a part.
use Rattle.std.proofs.Common.{◌≡◌, ℕ, ◌+◌, ◌<◌, ◌≤◌, ◌^◌, List, [], ◌∷◌, ◌++◌, length, get_or, drop, length-append, refl, sym, ap, subst, arith}
use Rattle.std.specs.Fmt.{decimal}
use Rattle.std.specs.List.{All}
use Rattle.std.proofs.lemmas.Fmt.{decimal_by_steps, decimal_injective}
use Rattle.std.proofs.lemmas.List.Elements.{All-nil, All-cons, All-head, All-tail, All-append}
use Rattle.rr_model.specs.Sets.DescriptorText.{text_of_lines, fields}
use Rattle.rr_model.specs.Sets.Printable.{IsInLine, IsPrintedNumber}

-- ---- two parts

-- the list is empty, or its first element does not meet P
abbrev pub Stops : {X : Type 0} → (X → Type 0) → List X → Type 0
Stops P [] = Unit {0}
Stops P (x ∷ xs) = P x → ⊥

pub first_same : {X : Type 0} (x y : X) (xs ys : List X) → x ∷ xs ≡ y ∷ ys → x ≡ y
first_same x y xs ys e = ap (λ l. get_or l 0 x) e

pub rest_same : {X : Type 0} (x y : X) (xs ys : List X) → x ∷ xs ≡ y ∷ ys → xs ≡ ys
rest_same x y xs ys e = ap (drop 1) e

module _ {X : Type 0} (P : X → Type 0) where
  -- a front that meets P ends where the other does
  ends_here : (z : X) (s b t : List X) → P z → Stops P s → s ≡ (z ∷ b) ++ t → ⊥
  ends_here z [] b t p st e = omega (arith, ap length e)
  ends_here z (x ∷ s) b t p st e = st (subst P (sym (first_same x z s (b ++ t) e)) p)

  pub split_only : (a b s t : List X) → All P a → All P b → Stops P s → Stops P t → a ++ s ≡ b ++ t → (a ≡ b) × (s ≡ t)
  split_only [] [] s t pa pb ss st e = (refl, e)
  split_only [] (z ∷ b) s t pa pb ss st e = absurd (ends_here z s b t (All-head P z b pb) ss e)
  split_only (z ∷ a) [] s t pa pb ss st e = absurd (ends_here z t a s (All-head P z a pa) st (sym e))
  split_only (z ∷ a) (w ∷ b) s t pa pb ss st e =
      let first : z ≡ w = first_same z w (a ++ s) (b ++ t) e in
      let rest = split_only a b s t (All-tail P z a pa) (All-tail P w b pb) ss st (rest_same z w (a ++ s) (b ++ t) e) in
      let front = rest.0 in
      (cc, rest.1)

-- ---- lines

pub lines_only : (ls ms : List (List ℕ)) → All (λ l. All IsInLine l) ls → All (λ l. All IsInLine l) ms → text_of_lines ls ≡ text_of_lines ms → ls ≡ ms
unfolding text_of_lines
lines_only [] [] hl hm e = refl
lines_only [] (m ∷ ms) hl hm e = absurd (omega (arith, ap length e, length-append m (10 ∷ text_of_lines ms)))
lines_only (l ∷ ls) [] hl hm e = absurd (omega (arith, ap length e, length-append l (10 ∷ text_of_lines ls)))
lines_only (l ∷ ls) (m ∷ ms) hl hm e =
    let Q : List ℕ → Type 0 = λ x. All IsInLine x in
    let parts = split_only IsInLine l m (10 ∷ text_of_lines ls) (10 ∷ text_of_lines ms) (All-head Q l ls hl) (All-head Q m ms hm) (λ h. omega arith)
    (λ h. omega arith) e in
    let first = parts.0 in
    let rest : ls ≡ ms = lines_only ls ms (All-tail Q l ls hl) (All-tail Q m ms hm) (rest_same 10 10 (text_of_lines ls) (text_of_lines ms) parts.1) in
    cc

-- ---- numbers after blanks

-- no blank either
abbrev pub IsInField : ℕ → Type 0
IsInField b = 33 ≤ b

pub decimal_in_field : (n : ℕ) → n < 2 ^ 64 → All IsInField (decimal n)
decimal_in_field =
    decimal_by_steps (λ n ds. All IsInField ds) (λ n h. All-cons IsInField (48 + n) [] (omega arith) (All-nil IsInField))
    (λ n ds h before. All-append IsInField ds _ before (All-cons IsInField _ [] (omega arith) (All-nil IsInField)))

pub fields_stop : (ns : List ℕ) → Stops IsInField (fields ns)
unfolding fields
fields_stop [] = tt
fields_stop (n ∷ ns) = λ h. omega arith

pub fields_only : (ns ms : List ℕ) → All IsPrintedNumber ns → All IsPrintedNumber ms → fields ns ≡ fields ms → ns ≡ ms
unfolding fields
fields_only [] [] hn hm e = refl
fields_only [] (m ∷ ms) hn hm e = absurd (omega (arith, ap length e))
fields_only (n ∷ ns) [] hn hm e = absurd (omega (arith, ap length e))
fields_only (n ∷ ns) (m ∷ ms) hn hm e =
    let of_n = All-head IsPrintedNumber n ns hn in
    let of_m = All-head IsPrintedNumber m ms hm in
    let parts = split_only IsInField (decimal n) (decimal m) (fields ns) (fields ms) (decimal_in_field n of_n) (decimal_in_field m of_m) (fields_stop ns)
    (fields_stop ms) (rest_same 32 32 (decimal n ++ fields ns) (decimal m ++ fields ms) e) in
    let first : n ≡ m = decimal_injective n m of_n of_m parts.0 in
    let rest : ns ≡ ms = fields_only ns ms (All-tail IsPrintedNumber n ns hn) (All-tail IsPrintedNumber m ms hm) parts.1 in
    cc

in_line : (bs : List ℕ) → All IsInField bs → All IsInLine bs
in_line [] h = All-nil IsInLine
in_line (b ∷ bs) h = All-cons IsInLine b bs (let l = All-head IsInField b bs h in omega arith) (in_line bs (All-tail IsInField b bs h))

pub field_in_line : (bs : List ℕ) → All IsInField bs → All IsInLine bs
field_in_line = in_line

pub fields_in_line : (ns : List ℕ) → All IsPrintedNumber ns → All IsInLine (fields ns)
unfolding fields
fields_in_line [] h = All-nil IsInLine
fields_in_line (n ∷ ns) h =
    All-cons IsInLine 32 (decimal n ++ fields ns) (omega arith)
    (All-append IsInLine (decimal n) (fields ns) (in_line (decimal n) (decimal_in_field n (All-head IsPrintedNumber n ns h)))
    (fields_in_line ns (All-tail IsPrintedNumber n ns h)))
