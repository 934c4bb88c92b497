-- The order of lists of numbers, and the first pattern after those that share their first members.
use Rattle.std.proofs.Common.{◌≡◌, ◌⊎◌, inl, inr, ℕ, zero, suc, ◌+◌, ◌-◌, ◌*◌, ◌<◌, ◌≤◌, ◌==◌, ◌&&◌, ◌||◌, Bool, true, false, List, [], ◌∷◌, length, take, drop, ℤ, neg_ℤ, ◌≤ℤ◌, pos, negsuc, refl, sym, subst, ◌∙◌, arith}
use Rattle.std.specs.Prelude.{nat_lt, Option, Some, None, ⊤}
use Rattle.std.proofs.lemmas.Bool.{cases_eq, cases_lt, ne_eqb, false≢true}
use Rattle.std.proofs.lemmas.Bool.Decides.{nat_tests}
use Rattle.std.proofs.lemmas.Int.{ints}
use Rattle.std.proofs.lemmas.Nat.{mod_below}
use Rattle.rr_family.specs.GraphProfile.{form_place, index_place, key_lt, pattern_key}
use Rattle.rr_graphfind.specs.Order.{IsFirstThat, IsLater, NoneBefore, NoneWith, SameFirst, SameMembers, members_of}
use Rattle.rr_graphfind.specs.declared.next.Group.{Group}
use Rattle.rr_graphfind.specs.declared.next.Group.TheVariants as group
use Rattle.rr_model.specs.Graph.Uses.{most_interval, uses_day_of_month, uses_days, uses_index, uses_month}
use Rattle.rr_model.specs.Graph.Validity.{IsIndex, IsValidPattern, LiesIfUsed}
use Rattle.rr_model.specs.declared.graph.Form.{Form}
use Rattle.rr_model.specs.declared.graph.Form.TheVariants as form
use Rattle.rr_model.specs.declared.graph.Pattern.{Pattern}

-- ---- the test of the order

pub less_first : (x y : ℕ) (rest : Bool) → x < y → (nat_lt x y || ((x == y) && rest)) ≡ true
less_first x y rest l = (let less : nat_lt x y ≡ true = grind (arith, nat_tests) in rw less refl)

pub less_rest : (x y : ℕ) (rest : Bool) → x ≡ y → rest ≡ true → (nat_lt x y || ((x == y) && rest)) ≡ true
less_rest x y rest e h =
    let less : nat_lt x y ≡ false = grind (arith, nat_tests) in
    let equal : (x == y) ≡ true = grind (arith, nat_tests) in
    rw (less, equal, h) refl

not_less_first : (x y : ℕ) (rest : Bool) → y < x → (nat_lt x y || ((x == y) && rest)) ≡ false
not_less_first x y rest l =
    let less : nat_lt x y ≡ false = grind (arith, nat_tests) in
    let differ : (x == y) ≡ false = ne_eqb x y (λ e. omega (arith, e, l)) in
    rw (less, differ) refl

not_less_rest : (x y : ℕ) (rest : Bool) → x ≡ y → rest ≡ false → (nat_lt x y || ((x == y) && rest)) ≡ false
not_less_rest x y rest e h =
    let less : nat_lt x y ≡ false = grind (arith, nat_tests) in
    let equal : (x == y) ≡ true = grind (arith, nat_tests) in
    rw (less, equal, h) refl

-- three cases of the test
cases_less : (x y : ℕ) (rest : Bool) → (nat_lt x y || ((x == y) && rest)) ≡ true → (x < y) ⊎ ((x ≡ y) × (rest ≡ true))
cases_less x y rest h =
    elim (cases_lt x y) [
      | inl less ↦ inl less
      | inr most ↦ elim (cases_eq x y) [
        | inl e ↦ inr (e, (let t : (x == y) ≡ true = grind (arith, nat_tests) in let f : nat_lt x y ≡ false = grind (arith, nat_tests) in rw (f, t) at h))
        | inr differ ↦ absurd (false≢true (sym (not_less_first x y rest (omega (arith, most, differ))) ∙ h))
      ]
    ]

-- ---- lists of numbers

-- the number at a place of a list
abbrev pub number_at : ℕ → List ℕ → ℕ
number_at i [] = 0
number_at zero (x ∷ xs) = x
number_at (suc i) (x ∷ xs) = number_at i xs

-- no number of the first list is less than the one at its place of the other
abbrev pub NoneLess : List ℕ → List ℕ → Type 0
NoneLess (x ∷ xs) (y ∷ ys) = (y ≤ x) × NoneLess xs ys
NoneLess xs ys = ⊤

none_less : (xs ys : List ℕ) → NoneLess xs ys → key_lt xs ys ≡ false
none_less [] ys h = refl
none_less (x ∷ xs) [] h = refl
none_less (x ∷ xs) (y ∷ ys) h =
    elim (cases_eq x y) [
      | inl e ↦ not_less_rest x y (key_lt xs ys) e (none_less xs ys h.1)
      | inr differ ↦ not_less_first x y (key_lt xs ys) (let l = h.0 in omega (arith, l, differ))
    ]

-- with the next number after the same ones it comes later
later_next : (i : ℕ) (xs ys : List ℕ) → i < length xs → SameFirst i ys xs → number_at i ys ≡ number_at i xs + 1 → key_lt (take (suc i) xs) (take (suc i) ys) ≡ true
later_next i [] ys l same at = absurd (omega (arith, l))
later_next zero (x ∷ xs) [] l same at = absurd (omega (arith, at))
later_next (suc i) (x ∷ xs) [] l same at = absurd same
later_next zero (x ∷ xs) (y ∷ ys) l same at = less_first x y _ (omega (arith, at))
later_next (suc i) (x ∷ xs) (y ∷ ys) l same at = less_rest x y _ (sym same.0) (later_next i xs ys (omega (arith, l)) same.1 at)

-- of what comes later none is before that one, if none with its first numbers is
none_between : (i : ℕ) (xs ys zs : List ℕ) → SameFirst i ys xs → number_at i ys ≡ number_at i xs + 1
    → (SameFirst (suc i) zs ys → NoneLess (drop (suc i) zs) (drop (suc i) ys)) → key_lt (take (suc i) xs) (take (suc i) zs) ≡ true → key_lt zs ys ≡ false
none_between i [] ys zs same at least h = absurd (false≢true h)
none_between i (x ∷ xs) ys [] same at least h = absurd (false≢true h)
none_between zero (x ∷ xs) [] (z ∷ zs) same at least h = absurd (omega (arith, at))
none_between (suc i) (x ∷ xs) [] (z ∷ zs) same at least h = absurd same
none_between zero (x ∷ xs) (y ∷ ys) (z ∷ zs) same at least h =
    elim (cases_less x z _ h) [
      | inl less ↦ elim (cases_eq z y) [
        | inl e ↦ not_less_rest z y _ e (none_less zs ys (least (e, tt)))
        | inr differ ↦ not_less_first z y _ (omega (arith, at, less, differ))
      ]
      | inr rest ↦ absurd (false≢true rest.1)
    ]
none_between (suc i) (x ∷ xs) (y ∷ ys) (z ∷ zs) same at least h =
    elim (cases_less x z _ h) [
      | inl less ↦ not_less_first z y _ (let e = same.0 in omega (arith, e, less))
      | inr rest ↦ (let e : z ≡ y = sym rest.0 ∙ sym same.0 in
          not_less_rest z y _ e (none_between i xs ys zs same.1 at (λ more. least (e, more)) rest.1))
    ]

-- later by the first i numbers is later by one more
later_by_more : (i : ℕ) (xs ys : List ℕ) → key_lt (take i xs) (take i ys) ≡ true → key_lt (take (suc i) xs) (take (suc i) ys) ≡ true
later_by_more zero xs ys h = absurd (false≢true h)
later_by_more (suc i) [] ys h = absurd (false≢true h)
later_by_more (suc i) (x ∷ xs) [] h = absurd (false≢true h)
later_by_more (suc i) (x ∷ xs) (y ∷ ys) h =
    elim (cases_less x y _ h) [
      | inl less ↦ less_first x y _ less
      | inr rest ↦ less_rest x y _ rest.0 (later_by_more i xs ys rest.1)
    ]

-- later by one more number is later by the first i, or by that one
cases_later : (i : ℕ) (xs ys : List ℕ) → key_lt (take (suc i) xs) (take (suc i) ys) ≡ true
    → (key_lt (take i xs) (take i ys) ≡ true) ⊎ (SameFirst i ys xs × (number_at i xs < number_at i ys))
cases_later i [] ys h = absurd (false≢true h)
cases_later i (x ∷ xs) [] h = absurd (false≢true h)
cases_later zero (x ∷ xs) (y ∷ ys) h =
    elim (cases_less x y _ h) [
      | inl less ↦ inr (tt, less)
      | inr rest ↦ absurd (false≢true rest.1)
    ]
cases_later (suc i) (x ∷ xs) (y ∷ ys) h =
    elim (cases_less x y _ h) [
      | inl less ↦ inl (less_first x y _ less)
      | inr rest ↦ elim (cases_later i xs ys rest.1) [
        | inl before ↦ inl (less_rest x y _ rest.0 before)
        | inr at ↦ inr ((sym rest.0, at.0), at.1)
      ]
    ]

-- later by the first numbers, the same in them, or before
pub cases_order : (i : ℕ) (xs ys : List ℕ) → i ≤ length xs → i ≤ length ys
    → (key_lt (take i xs) (take i ys) ≡ true) ⊎ (SameFirst i ys xs ⊎ (key_lt ys xs ≡ true))
cases_order zero xs ys l m = inr (inl tt)
cases_order (suc i) [] ys l m = absurd (omega (arith, l))
cases_order (suc i) (x ∷ xs) [] l m = absurd (omega (arith, m))
cases_order (suc i) (x ∷ xs) (y ∷ ys) l m =
    elim (cases_lt x y) [
      | inl less ↦ inl (less_first x y _ less)
      | inr most ↦ elim (cases_eq x y) [
        | inl e ↦ elim (cases_order i xs ys (omega (arith, l)) (omega (arith, m))) [
          | inl later ↦ inl (less_rest x y _ e later)
          | inr other ↦ elim other [
            | inl same ↦ inr (inl (sym e, same))
            | inr before ↦ inr (inr (less_rest y x _ (sym e) before))
          ]
        ]
        | inr differ ↦ inr (inr (less_first y x _ (omega (arith, most, differ))))
      ]
    ]

-- what is later by the first numbers is later
pub later : (i : ℕ) (xs ys : List ℕ) → key_lt (take i xs) (take i ys) ≡ true → key_lt xs ys ≡ true
later zero xs ys h = absurd (false≢true h)
later (suc i) [] ys h = absurd (false≢true h)
later (suc i) (x ∷ xs) [] h = absurd (false≢true h)
later (suc i) (x ∷ xs) (y ∷ ys) h =
    elim (cases_less x y _ h) [
      | inl less ↦ less_first x y _ less
      | inr rest ↦ less_rest x y _ rest.0 (later i xs ys rest.1)
    ]

-- ---- patterns

-- the number of a member, in the order of members
abbrev pub member_at : ℕ → Pattern → ℕ
member_at i pattern = number_at i (pattern_key pattern)

-- the members after the first i of a pattern are the least that another may have
abbrev pub RestIsLeast : ℕ → Pattern → Type 0
RestIsLeast i next =
    (other : Pattern) → IsValidPattern other → SameMembers i other next → NoneLess (drop i (pattern_key other)) (drop i (pattern_key next))

module _ (i : ℕ) (pattern : Pattern) where
  -- if the next number of a member may stand, the first pattern with it is the next one
  pub next_number : i < 7 → (next : Pattern) → IsValidPattern next → SameMembers i next pattern → member_at i next ≡ member_at i pattern + 1
      → RestIsLeast (suc i) next → IsFirstThat (IsLater (suc i) pattern) (Some next)
  next_number few next valid same at least = (
    (valid, later_next i (pattern_key pattern) (pattern_key next) (omega (arith, few)) same at),
    λ other h. none_between i (pattern_key pattern) (pattern_key next) (pattern_key other) same at (least other h.0) h.1,
  )

  -- if none may have a greater one, it is the first after those that share one member less
  module _ (most : (other : Pattern) → IsValidPattern other → SameMembers i other pattern → member_at i other ≤ member_at i pattern) where
    by_fewer : (other : Pattern) → IsLater (suc i) pattern other → IsLater i pattern other
    by_fewer other h =
        elim (cases_later i (pattern_key pattern) (pattern_key other) h.1) [
          | inl before ↦ (h.0, before)
          | inr at ↦ absurd (let m = most other h.0 at.0 in let l = at.1 in omega (arith, m, l))
        ]

    pub last_number : (found : Option Pattern) → IsFirstThat (IsLater i pattern) found → IsFirstThat (IsLater (suc i) pattern) found
    last_number None none = λ other h. none other (by_fewer other h)
    last_number (Some next) first = (
      (first.0.0, later_by_more i (pattern_key pattern) (pattern_key next) first.0.1),
      λ other h. first.1 other (by_fewer other h),
    )

-- ---- the walk from one pattern to the next

pub few_members : (group : Group) → members_of group ≤ 7
few_members group.FirstDay = omega arith
few_members group.Month = omega arith
few_members group.Alone = omega arith

module _ (Passes : Pattern → Type 0) (valid_if : (other : Pattern) → Passes other → IsValidPattern other) (i : ℕ) (few : i ≤ 7) (pattern : Pattern)
    (none : NoneWith i pattern Passes) (before : NoneBefore Passes pattern) where
  -- what passes comes after all those with the first members of the pattern
  passes_later : (other : Pattern) → Passes other → IsLater i pattern other
  passes_later other passes =
      elim (cases_order i (pattern_key pattern) (pattern_key other) (omega (arith, few)) (omega (arith, few))) [
        | inl later ↦ (valid_if other passes, later)
        | inr others ↦ elim others [
          | inl same ↦ absurd (none other same passes)
          | inr earlier ↦ absurd (false≢true (sym (before other passes) ∙ earlier))
        ]
      ]

  pub none_before_next : (next : Pattern) → IsFirstThat (IsLater i pattern) (Some next) → NoneBefore Passes next
  none_before_next next first other passes = first.1 other (passes_later other passes)

  pub none_at_all : IsFirstThat (IsLater i pattern) None → IsFirstThat Passes None
  none_at_all last other passes = last other (passes_later other passes)

-- ---- how many patterns are left

-- the number that a list is in base 1,024, after these digits
abbrev number_after : ℕ → List ℕ → ℕ
number_after n [] = n
number_after n (x ∷ xs) = number_after (n * 1024 + x) xs

abbrev AreDigits : List ℕ → Type 0
AreDigits [] = ⊤
AreDigits (x ∷ xs) = (x < 1024) × AreDigits xs

greater_before : (m n : ℕ) (xs ys : List ℕ) → length xs ≡ length ys → AreDigits xs → m < n → number_after m xs < number_after n ys
greater_before m n [] [] e small l = l
greater_before m n [] (y ∷ ys) e small l = absurd (omega (arith, e))
greater_before m n (x ∷ xs) [] e small l = absurd (omega (arith, e))
greater_before m n (x ∷ xs) (y ∷ ys) e small l =
    greater_before (m * 1024 + x) (n * 1024 + y) xs ys (omega (arith, e)) small.1 (let h = small.0 in omega (arith, h, l))

greater_number : (n : ℕ) (xs ys : List ℕ) → length xs ≡ length ys → AreDigits xs → key_lt xs ys ≡ true → number_after n xs < number_after n ys
greater_number n [] ys e small h = absurd (false≢true h)
greater_number n (x ∷ xs) [] e small h = absurd (false≢true h)
greater_number n (x ∷ xs) (y ∷ ys) e small h =
    elim (cases_less x y _ h) [
      | inl less ↦ greater_before (n * 1024 + x) (n * 1024 + y) xs ys (omega (arith, e)) small.1 (omega (arith, less))
      | inr rest ↦ subst (λ z. number_after (n * 1024 + x) xs < number_after (n * 1024 + z) ys) rest.0
          (greater_number (n * 1024 + x) xs ys (omega (arith, e)) small.1 rest.1)
    ]

-- no number of members is greater
abbrev most_number : ℕ
most_number = number_after 1 (0 ∷ 0 ∷ 0 ∷ 0 ∷ 0 ∷ 0 ∷ 0 ∷ [])

unfoldable pub patterns_left : Pattern → ℕ
patterns_left pattern = most_number - number_after 0 (pattern_key pattern)

-- -1 to 4, with a place from 1 to 5
pub index_bounds : (used : Bool) (index : ℤ) → IsIndex used index
    → (neg_ℤ (pos 1) ≤ℤ index) × (index ≤ℤ pos 4) × (1 ≤ index_place index) × (index_place index ≤ 5)
index_bounds true (pos n) (inl h) =
    (let a = h.0 in let b = h.1 in (omega (arith, ints), b, omega (arith, ints, a), omega (arith, ints, b)))
index_bounds true (pos n) (inr e) = absurd (omega (arith, ints, e))
index_bounds true (negsuc n) (inl h) = (let a = h.0 in absurd (omega (arith, ints, a)))
index_bounds true (negsuc n) (inr e) = (let z : n ≡ 0 = omega (arith, ints, e) in (omega (arith, ints, z), omega (arith, ints), omega arith, omega (arith, z)))
index_bounds false (pos n) e = (omega (arith, ints), omega (arith, ints, e), omega (arith, ints, e), omega (arith, ints, e))
index_bounds false (negsuc n) e = absurd (omega (arith, ints, e))

most_of : (used : Bool) (low high otherwise n : ℕ) → otherwise ≤ high → LiesIfUsed used low high otherwise n → n ≤ high
most_of true low high otherwise n l h = h.1
most_of false low high otherwise n l h = omega (arith, l, h)

pub type_bounds : (f : Form) → (1 ≤ most_interval f) × (most_interval f ≤ 999) × (form_place f ≤ 5)
type_bounds form.Daily = (omega arith, omega arith, omega arith)
type_bounds form.Weekly = (omega arith, omega arith, omega arith)
type_bounds form.AbsoluteMonthly = (omega arith, omega arith, omega arith)
type_bounds form.RelativeMonthly = (omega arith, omega arith, omega arith)
type_bounds form.AbsoluteYearly = (omega arith, omega arith, omega arith)
type_bounds form.RelativeYearly = (omega arith, omega arith, omega arith)

are_digits : (p : Pattern) → IsValidPattern p → AreDigits (pattern_key p)
are_digits p v =
    let interval = v.interval_high in
    let bounds = type_bounds p.form in
    let few = bounds.1 in
    let type = bounds.2 in
    let week = mod_below (p.first_day + 1) 7 (omega arith) in
    let day = most_of (uses_day_of_month p.form) 1 31 0 p.day_of_month (omega arith) v.day_of_month in
    let month = most_of (uses_month p.form) 1 12 0 p.month (omega arith) v.month in
    let index = (index_bounds (uses_index p.form) p.index v.index).3 in
    let days = most_of (uses_days p.form) 1 127 0 p.days (omega arith) v.days in (
      omega (arith, interval, few),
      (omega (arith, type), (omega (arith, week), (omega (arith, day), (omega (arith, month), (omega (arith, index), (omega (arith, days), tt)))))),
    )

pub fewer_left : (i : ℕ) (pattern next : Pattern) → IsValidPattern pattern → IsLater i pattern next → patterns_left next < patterns_left pattern
unfolding patterns_left
fewer_left i pattern next valid h =
    let more = greater_number 0 (pattern_key pattern) (pattern_key next) refl (are_digits pattern valid) (later i (pattern_key pattern) (pattern_key next) h.1) in
    let most = greater_before 0 1 (pattern_key next) (0 ∷ 0 ∷ 0 ∷ 0 ∷ 0 ∷ 0 ∷ 0 ∷ []) refl (are_digits next h.0) (omega arith) in
    omega (arith, more, most)
