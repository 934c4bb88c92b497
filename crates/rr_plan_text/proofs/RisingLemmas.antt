-- A rising list that is put value by value is itself.
use Rattle.std.proofs.Common.{◌≡◌, ℕ, suc, ◌+◌, ◌<◌, List, [], ◌∷◌, ◌++◌, drop, get_or, length, ℤ, refl, sym, ap, subst, ◌∙◌, append_assoc, append-nil, drop-cons, arith}
use Rattle.std.specs.Prelude.{int_lt}
use Rattle.rr_model.specs.Rising.{Rises, with_value}
use Rattle.rr_model.proofs.RisingSetLemmas.{Rises-tail}
use Rattle.rr_text.proofs.WrittenListLemmas.{IsAbove, IsAbove-next, with_value-last}
use Rattle.rr_text.proofs.WrittenValueLemmas.{int_lt-transitive}

-- of the values those before the n-th are put; the others rise from them
pub record ArePut (put values : List ℤ) (n : ℕ) : Type 0 where
  pub whole : put ++ drop n values ≡ values
  pub above : IsAbove int_lt int_lt-transitive put (drop n values)
  pub rises : Rises int_lt (drop n values)

above_none : (xs : List ℤ) → IsAbove int_lt int_lt-transitive [] xs
above_none [] = tt
above_none (x ∷ xs) = refl

pub none_put : (put values : List ℤ) → put ≡ [] → Rises int_lt values → ArePut put values 0
none_put put values is rises =
    subst (λ p. ArePut p values 0) (sym is) (record { whole = refl; above = above_none values; rises = rises })

-- with the value x, which the others follow
next_put : (put new values later rest : List ℤ) (x : ℤ) → later ≡ x ∷ rest → put ++ later ≡ values → IsAbove int_lt int_lt-transitive put later
    → Rises int_lt later → new ≡ with_value int_lt put x
    → (new ++ rest ≡ values) × IsAbove int_lt int_lt-transitive new rest × Rises int_lt rest
next_put put new values later rest x is whole above rises made =
    let a : IsAbove int_lt int_lt-transitive put (x ∷ rest) = subst (IsAbove int_lt int_lt-transitive put) is above in
    let r : Rises int_lt (x ∷ rest) = subst (Rises int_lt) is rises in
    let last : new ≡ put ++ x ∷ [] = made ∙ with_value-last int_lt put x a in (
      ap (λ (l : List ℤ). l ++ rest) last ∙ append_assoc put (x ∷ []) rest ∙ ap (λ (l : List ℤ). put ++ l) (sym is) ∙ whole,
      subst (λ l. IsAbove int_lt int_lt-transitive l rest) (sym last) (IsAbove-next int_lt int_lt-transitive put x rest a r),
      Rises-tail int_lt x rest r,
    )

pub one_put : (put new values : List ℤ) (n : ℕ) (x d : ℤ) → n < length values → x ≡ get_or values n d → ArePut put values n
    → new ≡ with_value int_lt put x → ArePut new values (n + 1)
one_put put new values n x d l at so_far made =
    let e : n + 1 ≡ suc n = omega arith in
    let there : drop n values ≡ x ∷ drop (n + 1) values =
    drop-cons values n d l ∙ ap (λ m. get_or values n d ∷ drop m values) (sym e) ∙ ap (λ (v : ℤ). v ∷ drop (n + 1) values) (sym at) in
    let next = next_put put new values (drop n values) (drop (n + 1) values) x there so_far.whole so_far.above so_far.rises made in
    record { whole = next.0; above = next.1; rises = next.2 }

pub all_put : (put values : List ℤ) (n : ℕ) → drop n values ≡ [] → ArePut put values n → put ≡ values
all_put put values n none so_far = sym (append-nil put) ∙ ap (λ (l : List ℤ). put ++ l) (sym none) ∙ so_far.whole
