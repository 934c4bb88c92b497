-- The test of a rule's members says what membership says.
use Rattle.std.proofs.Common.{◌≡◌, ◌↔◌, ℕ, nat_le, ◌≤◌, ◌&&◌, ℤ, ◌≤ℤ◌, refl, arith}
use Rattle.std.specs.Prelude.{IsTrue, int_le}
use Rattle.std.specs.Cmp.Derive.{both_true}
use Rattle.std.proofs.lemmas.Bool.{false≢true, and_parts}
use Rattle.std.proofs.lemmas.Bool.Decides.{nat_tests}
use Rattle.std.proofs.lemmas.Int.{ints}
use Rattle.rr_model.specs.Moment.{is_same_kind}
use Rattle.rr_model.specs.Rule.Chosen.{is_chosen}
use Rattle.rr_model.specs.Rule.Member.{members_to, is_until, is_within_end, is_member, IsWithinEnd, MembersAreTested}
use Rattle.rr_model.specs.declared.kind.Kind.{Kind}
use Rattle.rr_model.specs.declared.kind.Kind.TheVariants.{Days, Moments}
use Rattle.rr_model.specs.declared.rule.End.{End}
use Rattle.rr_model.specs.declared.rule.End.TheVariants.{Never, Until, Count, Both}

pub same_kind_is : (k l : Kind) → IsTrue (is_same_kind k l) ↔ (k ≡ l)
same_kind_is Days Days = (λ h. refl, λ e. refl)
same_kind_is Moments Moments = (λ h. refl, λ e. refl)
same_kind_is Days Moments = (λ h. absurd (false≢true h), λ e. absurd (cc))
same_kind_is Moments Days = (λ h. absurd (false≢true h), λ e. absurd (cc))

-- ---- ends, as tests

at_most : (n m : ℕ) → IsTrue (nat_le n m) ↔ (n ≤ m)
at_most n m = (λ h. grind (arith, nat_tests, h), λ h. grind (arith, nat_tests, h))

pub not_after : (t u : ℤ) → IsTrue (int_le t u) ↔ (t ≤ℤ u)
not_after t u = (λ h. grind (arith, ints, h), λ h. grind (arith, ints, h))

until_is : (other : Kind) (at : ℤ) (kind : Kind) (t : ℤ) → IsTrue (is_until other at kind t) ↔ ((other ≡ kind) × (t ≤ℤ at))
until_is other at kind t = (
  λ h. (let p = and_parts (is_same_kind other kind) (int_le t at) h in ((same_kind_is other kind).0 p.0, (not_after t at).0 p.1)),
  λ h. both_true {s = is_same_kind other kind} {t = int_le t at} ((same_kind_is other kind).1 h.0) ((not_after t at).1 h.1),
)

pub within_end_is : (end : End) (kind : Kind) (t : ℤ) (number : ℕ) → IsTrue (is_within_end end kind t number) ↔ IsWithinEnd end kind t number
within_end_is Never kind t number = (λ h. tt, λ h. refl)
within_end_is (Until other at) kind t number = until_is other at kind t
within_end_is (Count count) kind t number = at_most number count
within_end_is (Both other at count) kind t number = (
  λ h. (
      let p = and_parts (is_until other at kind t) (nat_le number count) h in
      let u = (until_is other at kind t).0 p.0 in
      (u.0, u.1, (at_most number count).0 p.1)),
  λ h. both_true {s = is_until other at kind t} {t = nat_le number count} ((until_is other at kind t).1 (h.0, h.1)) ((at_most number count).1 h.2),
)

pub members_are_tested : MembersAreTested
unfolding is_member
members_are_tested rule kind start t =
    let n = members_to rule kind start t in
    let from = is_chosen rule kind start t && int_le start t in (
      λ h. (
          let p = and_parts from (is_within_end rule.end kind t n) h in
          let q = and_parts (is_chosen rule kind start t) (int_le start t) p.0 in
          record { chosen = q.0; not_before = (not_after start t).0 q.1; within_end = (within_end_is rule.end kind t n).0 p.1 }),
      λ m. both_true {s = from} {t = is_within_end rule.end kind t n}
          (both_true {s = is_chosen rule kind start t} {t = int_le start t} m.chosen ((not_after start t).1 m.not_before))
          ((within_end_is rule.end kind t n).1 m.within_end),
    )
