-- What stands in a tree.
use Rattle.std.proofs.Common.{◌≡◌, ℕ, ◌<◌, true, false, ◌||◌, List, get_or, ℤ, refl, arith}
use Rattle.std.proofs.lemmas.Bool.Decides.{nat_tests}
use Rattle.std.proofs.lemmas.Bool.{false≢true, and_parts}
use Rattle.std.proofs.lemmas.List.Elements.{Contains-get_or}
use Rattle.rr_model.specs.Rising.Sets.{IsSecondsOfDay}
use Rattle.rr_model.specs.declared.kind.Kind.{Kind}
use Rattle.rr_model.specs.declared.kind.Kind.TheVariants.{Days, Moments}
use Rattle.rr_model.specs.Sets.Tree.{Tree, Forest, chosen_of, dates_of, union, many, upto, first_n, without, except, nothing, part, has_second, stands_at}
use Rattle.rr_model.specs.Sets.Tree.{some_stands_at}
use Rattle.rr_lazy.specs.Next.{IsFirstOccupied}

pub has_second_below : (kind : Kind) (s : ℕ) → has_second kind s ≡ true → s < 86_400
has_second_below Days s e = grind (arith, nat_tests)
has_second_below Moments s e = grind (arith, nat_tests)

mutual
  -- only seconds of a day stand
  pub stands_below : (tree : Tree) (d : ℤ) (s : ℕ) → stands_at tree d s ≡ true → s < 86_400
  stands_below (chosen_of rule kind start) d s e = has_second_below kind s (and_parts _ _ e).0
  stands_below (dates_of kind dates) d s e = has_second_below kind s (and_parts _ _ e).0
  stands_below (union a b) d s e = elim (stands_at a d s) as (λ x. stands_at a d s ≡ x → (x || stands_at b d s) ≡ true → s < 86_400) [
    | true ↦ λ f u. stands_below a d s f
    | false ↦ λ f u. stands_below b d s u
  ] refl e
  stands_below (many parts) d s e = some_below parts d s e
  stands_below (upto a kind at) d s e = stands_below a d s (and_parts _ _ e).0
  stands_below (first_n a n) d s e = stands_below a d s (and_parts _ _ e).0
  stands_below (without a kind dates) d s e = stands_below a d s (and_parts _ _ e).0
  stands_below (except a b) d s e = stands_below a d s (and_parts _ _ e).0

  some_below : (parts : Forest) (d : ℤ) (s : ℕ) → some_stands_at parts d s ≡ true → s < 86_400
  some_below nothing d s e = absurd (false≢true e)
  some_below (part a parts) d s e = elim (stands_at a d s) as (λ x. stands_at a d s ≡ x → (x || some_stands_at parts d s) ≡ true → s < 86_400) [
    | true ↦ λ f u. stands_below a d s f
    | false ↦ λ f u. some_below parts d s u
  ] refl e

-- so an occupied day's are
pub seconds_of_occupied : (tree : Tree) (from day : ℤ) (times : List ℕ) → IsFirstOccupied tree from day times → IsSecondsOfDay times
seconds_of_occupied tree from day times f = record {
  rises = f.all.rises;
  below_a_day = λ k d l. stands_below tree day (get_or times k d) ((f.all.exact (get_or times k d)).0 (Contains-get_or times k d l));
}
