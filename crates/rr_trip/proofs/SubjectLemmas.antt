-- What a line is of, by the groups that are read.
use Rattle.std.proofs.Common.{◌≡◌, ℕ, ◌<◌, Bool, List, length, get_or, None, Some}
use Rattle.rr_groups.specs.declared.group.Group.{Group}
use Rattle.rr_trip.specs.Report.{IsOwnSubject, IsPairSubject, has_other_title}
use Rattle.rr_trip.specs.declared.found.Found.{Found}
use Rattle.rr_trip.proofs.KnownLemmas.{item_at}

pub own_subject : (groups : List Group) (n : ℕ) (group : Group) (a b : List ℕ) → n < length groups → group ≡ get_or groups n group → a ≡ group.a.items
    → b ≡ group.b.items → IsOwnSubject groups n (record { key = group.key; a = a; b = b; partner = None })
own_subject groups n group a b below is of_a of_b = record {
  group = group;
  at = item_at groups n group below is;
  is = λ i. record { key = group.key; a = of_a i; b = of_b i; partner = None };
}

pub pair_subject : (groups : List Group) (n : ℕ) (found : Found) (group other : Group) (a b : List ℕ) (title : Bool) → n < length groups
    → group ≡ get_or groups n group → found.index < length groups → other ≡ get_or groups found.index other → a ≡ group.a.items → b ≡ other.b.items
    → title ≡ has_other_title found.likeness
    → IsPairSubject groups n found (record { key = group.key; a = a; b = b; partner = Some (record { key = other.key; has_other_title = title }) })
pair_subject groups n found group other a b title below is found_below other_is of_a of_b of_title = record {
  group = group;
  other = other;
  at = item_at groups n group below is;
  other_at = item_at groups found.index other found_below other_is;
  is = λ i. record { key = group.key; a = of_a i; b = of_b i; partner = Some (record { key = other.key; has_other_title = of_title i }) };
}
