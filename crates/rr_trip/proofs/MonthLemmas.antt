-- The months of a difference, one after the other.
use Rattle.std.proofs.Common.{◌≡◌, ℕ, ◌+◌, Bool, true, false, ℤ, pos, ◌+ℤ◌, List, [], ◌∷◌, ◌++◌, ap, sym, ◌∙◌, append_assoc, append-nil, add-one, subst}
use Rattle.std.specs.Prelude.{Result, Ok, Err}
use Rattle.std.specs.Result.{OnOk}
use Rattle.rr_model.specs.declared.sketch.Sketch.{Sketch}
use Rattle.rr_trip.specs.Details.{AreMonths, ArePut, IsMonth, signs_from, three_months}
use Rattle.rr_trip.specs.Grid.{day_sign, has_month, month_after}
use Rattle.rr_trip.specs.declared.detail.Month.{Month}

-- one sign more
pub one_sign : (a b : Sketch) (first day : ℤ) (n sign : ℕ) (out next : List ℕ) → day ≡ first +ℤ pos n → out ≡ signs_from a b first n
    → sign ≡ day_sign a b day → next ≡ out ++ sign ∷ [] → next ≡ signs_from a b first (n + 1)
one_sign a b first day n sign out next at so_far is put =
    rw add-one (put ∙ ap (λ (o : List ℕ). o ++ sign ∷ []) so_far
    ∙ ap (λ (x : ℕ). signs_from a b first n ++ x ∷ []) (is ∙ ap (day_sign a b) at))

-- months of some days and those of others
both : (a b : Sketch) (firsts others : List ℤ) (months more : List Month) → AreMonths a b firsts months → AreMonths a b others more
    → AreMonths a b (firsts ++ others) (months ++ more)
both a b [] others [] more AreMonths.end h = h
both a b [] others (month ∷ months) more are h = elim are [ ]
both a b (first ∷ firsts) others months more (AreMonths.passed day days ms unmarked are) h =
    AreMonths.passed first (firsts ++ others) (months ++ more) unmarked (both a b firsts others months more are h)
both a b (first ∷ firsts) others (month ∷ months) more (AreMonths.marked day days m ms has is are) h =
    AreMonths.marked first (firsts ++ others) month (months ++ more) has is (both a b firsts others months more are h)

put_behind : (a b : Sketch) (firsts others : List ℤ) (old next last : List Month) → ArePut a b firsts old next → ArePut a b others next last
    → ArePut a b (firsts ++ others) old last
put_behind a b firsts others old next last one two = record {
  months = one.months ++ two.months;
  are = both a b firsts others one.months two.months one.are two.are;
  is = two.is ∙ ap (λ (ms : List Month). ms ++ two.months) one.is ∙ append_assoc old one.months two.months;
}

-- a month without a difference is not put
pub none_put : (a b : Sketch) (first day : ℤ) (old : List Month) (has : Bool) → first ≡ day → has ≡ has_month a b first → has ≡ false
    → ArePut a b (day ∷ []) old old
none_put a b first day old has same is unmarked =
    subst (λ (d : ℤ). ArePut a b (d ∷ []) old old) same (record {
      months = [];
      are = AreMonths.passed first [] [] (sym is ∙ unmarked) AreMonths.end;
      is = sym (append-nil old);
    })

-- another one is
pub one_put : (a b : Sketch) (first day : ℤ) (old next : List Month) (month : Month) (has : Bool) → first ≡ day → has ≡ has_month a b first → has ≡ true
    → IsMonth a b first month → next ≡ old ++ month ∷ [] → ArePut a b (day ∷ []) old next
one_put a b first day old next month has same is marked is_month put =
    subst (λ (d : ℤ). ArePut a b (d ∷ []) old next) same (record {
      months = month ∷ [];
      are = AreMonths.marked first [] month [] (sym is ∙ marked) is_month AreMonths.end;
      is = put;
    })

-- three months are put one after the other
pub three_put : {T E : Type 0} (r : Result T E) (a b : Sketch) (first second third : ℤ) (old one two next : List Month) → second ≡ month_after first
    → third ≡ month_after second → ArePut a b (first ∷ []) old one → ArePut a b (second ∷ []) one two → OnOk r (ArePut a b (third ∷ []) two next)
    → OnOk r (ArePut a b (three_months first) old next)
three_put (Ok x) a b first second third old one two next s t p q l =
    subst (λ (d : ℤ). ArePut a b (first ∷ d ∷ month_after d ∷ []) old next) s
    (subst (λ (d : ℤ). ArePut a b (first ∷ second ∷ d ∷ []) old next) t
    (put_behind a b (first ∷ second ∷ []) (third ∷ []) old two next (put_behind a b (first ∷ []) (second ∷ []) old one two p q) l))
three_put (Err e) a b first second third old one two next s t p q l = tt

-- months that are put behind none
pub from_none : (a b : Sketch) (firsts : List ℤ) (old next : List Month) → old ≡ [] → ArePut a b firsts old next → AreMonths a b firsts next
from_none a b firsts old next none put =
    subst (AreMonths a b firsts) (sym (put.is ∙ ap (λ (ms : List Month). ms ++ put.months) none)) put.are
