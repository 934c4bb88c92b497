-- The first of rising seconds.
use Rattle.std.proofs.Common.{◌≡◌, ℕ, suc, ◌<◌, ◌≤◌, List, length, get_or, take, Contains, inl, inr, sym, ◌∙◌, arith}
use Rattle.std.specs.Prelude.{nat_lt}
use Rattle.std.proofs.lemmas.List.{get_or-take, get_or_default, length-take-le}
use Rattle.std.proofs.lemmas.Bool.{cases_lt}
use Rattle.std.proofs.lemmas.List.Elements.{All-take}
use Rattle.std.proofs.lemmas.Grind.{common_steps}
use Rattle.rr_model.specs.Rising.{Rises}
use Rattle.rr_model.specs.Rising.Sets.{IsSetOf, IsSecondsOfDay}
use Rattle.rr_times.specs.Split.{SplitsAt}
use Rattle.rr_model.proofs.RisingSetLemmas.{rising_at, Rises-from_places}

length-take_le : (n : ℕ) (xs : List ℕ) → (length (take n xs) ≤ n) × (length (take n xs) ≤ length xs)
length-take_le n xs = (grind (arith, common_steps), grind (arith, common_steps))

pub Rises-take : (n : ℕ) (xs : List ℕ) → Rises nat_lt xs → Rises nat_lt (take n xs)
Rises-take n xs r = Rises-from_places (take n xs) (λ k l.
    let s = length-take_le n xs in
    let a : get_or (take n xs) k 0 ≡ get_or xs k 0 = get_or-take n xs k 0 (omega (arith, s.0)) in
    let b : get_or (take n xs) (suc k) 0 ≡ get_or xs (suc k) 0 = get_or-take n xs (suc k) 0 (omega (arith, s.0)) in
    omega (arith, a, b, rising_at xs r k (suc k) (omega arith) (omega (arith, s.1))))

pub first_seconds : (n : ℕ) (xs : List ℕ) → IsSecondsOfDay xs → IsSecondsOfDay (take n xs)
first_seconds n xs s = record { rises = Rises-take n xs s.rises; below_a_day = All-take (λ x. x < 86_400) n xs s.below_a_day }

-- those below a bound are the first ones
pub first_below : (xs : List ℕ) (n bound : ℕ) → Rises nat_lt xs → SplitsAt xs n bound → IsSetOf nat_lt (take n xs) (λ s. Contains xs s × (s < bound))
first_below xs n bound r split = record {
  rises = Rises-take n xs r;
  exact = λ s. (
    (λ c. (let l = length-take_le n xs in
        let k : c.0 < n = omega (arith, c.1, l.0) in
        let m : c.0 < length xs = omega (arith, c.1, l.1) in
        let e : get_or xs c.0 s ≡ s = sym (get_or-take n xs c.0 s k) ∙ c.2 in
        let z : get_or xs c.0 0 ≡ s = get_or_default xs c.0 0 s m ∙ e in
        ((c.0, m, e), omega (arith, split.below c.0 k, z)))),
    (λ h. (let c = h.0 in
        let z : get_or xs c.0 0 ≡ s = get_or_default xs c.0 0 s c.1 ∙ c.2 in
        let k : c.0 < n = elim (cases_lt c.0 n) [ inl l ↦ l | inr g ↦ absurd (omega (arith, split.from c.0 g c.1, z, h.1)) ] in
        let whole : length (take n xs) ≡ n = length-take-le n xs split.within in
        (c.0, omega (arith, k, whole), get_or-take n xs c.0 s k ∙ c.2))),
  );
}
