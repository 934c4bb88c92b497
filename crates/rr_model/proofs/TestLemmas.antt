-- Tests joined by 'and' and 'or', of a number against itself, and which seconds a kind has.
use Rattle.std.proofs.Common.{◌≡◌, ◌&&◌, ◌||◌, ◌==◌, ◌<◌, ◌≤◌, ℕ, ℤ, Bool, true, false, refl, sym, arith}
use Rattle.std.specs.Ordering.{int_eq}
use Rattle.std.proofs.lemmas.Int.{ints}
use Rattle.std.proofs.lemmas.Bool.Decides.{nat_tests}
use Rattle.rr_model.specs.Rule.DaysAndTimes.{seconds_of}
use Rattle.rr_model.specs.Sets.Tree.{has_second}
use Rattle.rr_model.specs.declared.kind.Kind.{Kind}
use Rattle.rr_model.specs.declared.kind.Kind.TheVariants.{Days, Moments}

pub or_swap : (a b c : Bool) → (a || (b || c)) ≡ (b || (a || c))
or_swap true true c = refl
or_swap true false c = refl
or_swap false true c = refl
or_swap false false c = refl

pub and_true : (b : Bool) → (b && true) ≡ b
and_true true = refl
and_true false = refl

-- two tests are the same if each answers yes when the other does
pub same_truth : (a b : Bool) → (a ≡ true → b ≡ true) → (b ≡ true → a ≡ true) → a ≡ b
same_truth true b f g = sym (f refl)
same_truth false true f g = g refl
same_truth false false f g = refl

pub without_or : (a b c : Bool) → ((a || false) && (b || false) && (c || false)) ≡ (a && b && c)
without_or true true true = refl
without_or true true false = refl
without_or true false c = refl
without_or false b c = refl

-- each number is equal to itself
pub eqb-same : (n : ℕ) → (n == n) ≡ true
eqb-same n = grind (arith, nat_tests)

pub int_eq-same : (d : ℤ) → int_eq d d ≡ true
int_eq-same d = grind (arith, ints)

-- a day has the seconds of its kind
pub has_second_is : (kind : Kind) (s : ℕ) → s < seconds_of kind → has_second kind s ≡ true
has_second_is Days s l = grind (arith, nat_tests)
has_second_is Moments s l = grind (arith, nat_tests)

-- and no second past those of its kind
pub has_second_not : (kind : Kind) (s : ℕ) → seconds_of kind ≤ s → has_second kind s ≡ false
has_second_not Days s l = grind (arith, nat_tests)
has_second_not Moments s l = grind (arith, nat_tests)
