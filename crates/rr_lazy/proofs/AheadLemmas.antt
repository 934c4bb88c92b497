-- What is known of a part of a combinator that was asked.
use Rattle.std.proofs.Common.{◌≡◌, ◌≢◌, ◌⊎◌, ◌||◌, inl, inr, ℕ, ◌<◌, true, false, List, [], ◌∷◌, Contains, length, get_or, take}
use Rattle.std.proofs.Common.{Option, Some, None, Ok, ℤ, pos, negsuc, w64, to_z, of_z, ◌+ℤ◌, ◌≤ℤ◌, ◌<ℤ◌, refl, sym, subst, ◌∙◌, arith}
use Rattle.std.specs.Prelude.{is_some, nat_lt, ◌↔◌, IsTrue}
use Rattle.std.proofs.lemmas.Int.{ints, by_lt_z}
use Rattle.std.specs.Option.{ForSome, ForNone}
use Rattle.std.proofs.lemmas.Bool.{false≢true}
use Rattle.std.proofs.Math.Seq.{take-length}
use Rattle.rr_model.specs.Bounds.{first_day_of_all, latest_day}
use Rattle.rr_model.proofs.RisingSetLemmas.{set_itself, set_same, Contains-head, Contains-none}
use Rattle.rr_model.specs.Rising.Sets.{IsSetOf}
use Rattle.rr_model.specs.Calendar.{first_day_of_year}
use Rattle.rr_model.specs.Sets.Tree.{Tree, union, stands_at}
use Rattle.rr_lazy.specs.Next.{HasNone, IsFirstOccupied, IsNextIn, IsUnasked, with_set}
use Rattle.rr_lazy.proofs.FirstLemmas.{first_day_is}
use Rattle.rr_lazy.specs.Ahead.{IsGiven, IsAhead, IsAheadIn, IsGivenOn, IsGivenByBoth, HasOn, GaveDay, IsFirstOfBoth, IsLeftAfterDay, day_seen, IsOfDay}
use Rattle.rr_lazy.specs.DayTimes.{DayTimes}
use Rattle.rr_lazy.specs.declared.occupied_day.OccupiedDay.{OccupiedDay}

-- nothing on two stretches
pub join : (t : Tree) (from mid to : ℤ) → HasNone t from mid → HasNone t mid to → HasNone t from to
join t from mid to a b e s l u = by_lt_z {P = stands_at t e s ≡ false} e mid (λ below. a e s l below) (λ above. b e s above u)

given_from : (t : Tree) (from own own' : ℤ) (f : DayTimes) → (from ≤ℤ own) × HasNone t from own → IsFirstOccupied t own f.day f.times
    → own' ≡ f.day +ℤ pos 1 → IsGiven t own' from f.day f.times
given_from t from own own' f k x e = record {
  late = omega (arith, ints, k.0, x.late);
  before = join t from own f.day k.1 x.before;
  some = x.some;
  seconds = x.all;
  own_next = e;
}

-- a part of which nothing was known was asked
pub filled : (sets new : List (List ℕ)) (t : Tree) (own own' from to : ℤ) (ahead found : Option OccupiedDay) → is_some ahead ≡ false
    → IsNextIn new t own to (Ok found) own' → IsAheadIn sets t own from ahead → IsAheadIn new t own' from found
filled sets new t own own' from to (Some y) found n x k = absurd (cc)
filled sets new t own own' from to None (Some d) n x k = record {
  within = λ f q. (let i : f ≡ d = cc in rw i x.0);
  known = record {
    some =
        λ f q. (let i : f ≡ with_set new d = cc in rw i (given_from t from own own' (with_set new d) (k.known.none refl) x.1.0 x.1.2));
    none = λ q. absurd (cc);
  };
}
filled sets new t own own' from to None None n x k =
    let own_next = k.known.none refl in
    record {
      within = λ f q. absurd (cc);
      known = record {
        some = λ d q. absurd (cc);
        none = λ q. (omega (arith, ints, own_next.0, x.1), join t from own own' own_next.1 x.0);
      };
    }

-- the part gave this day
pub this_day : (ahead result : Option OccupiedDay) (day : ℤ) (found : OccupiedDay) → result ≡ Some found → IsOfDay ahead day result
    → (ahead ≡ Some found) × (found.day ≡ day)
this_day ahead result day found e w =
    elim w [
      | inl m ↦ (let is : ahead ≡ Some found = sym m.0 ∙ e in (is, m.1 found is))
      | inr m ↦ absurd (cc)
    ]

-- what is known of no day that is seen is known if the part gave none
pub seen_none : (sets : List (List ℕ)) (ahead : Option OccupiedDay) (P : Type 0) → ForNone ahead P → ForNone (day_seen sets ahead) P
seen_none sets None P n e = n refl
seen_none sets (Some f) P n e = absurd (cc)

-- a day that a part gave is within the table, and its seconds rise
pub given_on : (sets : List (List ℕ)) (t : Tree) (own from : ℤ) (ahead : Option OccupiedDay) → IsAheadIn sets t own from ahead
    → ForSome ahead (IsGivenOn sets)
given_on sets t own from None k f e = absurd (cc)
given_on sets t own from (Some g) k f e =
    let i : f ≡ g = cc in
    rw i (record { within = k.within g refl; rises = (k.known.some (with_set sets g) refl).seconds.rises })

-- the same from a later day on, which is not past what is known
pub advance : (t : Tree) (own from q : ℤ) (ahead : Option DayTimes) → IsAhead t own from ahead → from ≤ℤ q → ForSome ahead (λ x. q ≤ℤ x.day)
    → ForNone ahead (q ≤ℤ own) → IsAhead t own q ahead
advance t own from q ahead k l some none = record {
  some = λ f e. (let g = k.some f e in record {
    late = some f e;
    before = λ u s m n. g.before u s (omega (arith, ints, l, m)) n;
    some = g.some;
    seconds = g.seconds;
    own_next = g.own_next;
  });
  none = λ e. (none e, λ u s m n. (k.none e).1 u s (omega (arith, ints, l, m)) n);
}

-- the first day was taken
pub taken : (t : Tree) (own from : ℤ) (f : DayTimes) → IsAhead t own from (Some f) → IsAhead t own (f.day +ℤ pos 1) None
taken t own from f k = record {
  some = λ x q. absurd (cc);
  none = λ q. (let g = k.some f refl in (omega (arith, ints, g.own_next), λ u s m n. absurd (omega (arith, ints, g.own_next, m, n))));
}

-- a part has nothing before its first day, or before its own position
pub none_below : (t : Tree) (own from q : ℤ) (ahead : Option DayTimes) → IsAhead t own from ahead → ForSome ahead (λ x. q ≤ℤ x.day)
    → ForNone ahead (q ≤ℤ own) → HasNone t from q
none_below t own from q None k some none u s l m = (k.none refl).1 u s l (omega (arith, ints, none refl, m))
none_below t own from q (Some x) k some none u s l m = (k.some x refl).before u s l (omega (arith, ints, some x refl, m))

pub neither : (t u : Tree) (from q : ℤ) → HasNone t from q → HasNone u from q → HasNone (union t u) from q
neither t u from q a b e s l m = rw (a e s l m, b e s l m) refl

-- one side if no day was given
pub side_none : (t : Tree) (own from to q : ℤ) (ahead : Option DayTimes) → IsAhead t own from ahead → from ≤ℤ q → (q ≡ to +ℤ pos 1) ⊎ (q ≡ from)
    → ForSome ahead (λ x. to <ℤ x.day) → ForNone ahead (to <ℤ own) → IsAhead t own q ahead × HasNone t from q
side_none t own from to q ahead k l (inl e) some none =
    let s : ForSome ahead (λ x. q ≤ℤ x.day) = λ x h. omega (arith, ints, some x h, e) in
    let n : ForNone ahead (q ≤ℤ own) = λ h. omega (arith, ints, none h, e) in
    (advance t own from q ahead k l s n, none_below t own from q ahead k s n)
side_none t own from to q ahead k l (inr e) some none =
    let s : ForSome ahead (λ x. q ≤ℤ x.day) = λ x h. omega (arith, ints, (k.some x h).late, e) in
    let n : ForNone ahead (q ≤ℤ own) = λ h. omega (arith, ints, (k.none h).0, e) in
    (advance t own from q ahead k l s n, none_below t own from q ahead k s n)

-- ---- a day that is given

-- what a part gave for a day that is not after what it gave
pub on_day : (t : Tree) (own from d : ℤ) (ahead : Option DayTimes) → IsAhead t own from ahead → from ≤ℤ d → ForSome ahead (λ f. d ≤ℤ f.day)
    → ForNone ahead (d <ℤ own) → (s : ℕ) → (stands_at t d s ≡ true) ↔ HasOn ahead d s
on_day t own from d None k l some none s = (λ h. false≢true (sym ((k.none refl).1 d s l (none refl)) ∙ h), λ x. absurd x)
on_day t own from d (Some f) k l some none s =
    let g = k.some f refl in
    by_lt_z {P = (stands_at t d s ≡ true) ↔ ((f.day ≡ d) × Contains f.times s)} d f.day
    (λ m. (λ h. absurd (false≢true (sym (g.before d s l m) ∙ h)), λ x. absurd (omega (arith, ints, x.0, m))))
    (λ n. (let e : f.day ≡ d = omega (arith, ints, n, some f refl) in (
      λ h. (e, (g.seconds.exact s).1 (subst (λ x. stands_at t x s ≡ true) (sym e) h)),
      λ x. subst (λ y. stands_at t y s ≡ true) e ((g.seconds.exact s).0 x.1),
    )))

pub has_some : (t : Tree) (own from d : ℤ) (ahead : Option DayTimes) → IsAhead t own from ahead → GaveDay ahead d → (s : ℕ) × HasOn ahead d s
has_some t own from d None k g = absurd g
has_some t own from d (Some f) k g = member f.times refl
  where
    member : (times : List ℕ) → f.times ≡ times → (s : ℕ) × HasOn (Some f) d s
    member [] e = absurd ((k.some f refl).some e)
    member (s ∷ ss) e = (s, (g, subst (λ x. Contains x s) (sym e) (Contains-head s ss)))

module _ (t u : Tree) (own_t own_u from d to : ℤ) (a b : Option DayTimes) (ka : IsAhead t own_t from a) (kb : IsAhead u own_u from b)
    (first : IsFirstOfBoth a b to (Some d)) (na : ForNone a (d <ℤ own_t)) (nb : ForNone b (d <ℤ own_u)) where
  pub late : from ≤ℤ d
  late = elim first.1 [ inl g ↦ of a ka g | inr g ↦ of b kb g ]
    where
      of : {t : Tree} {own : ℤ} (x : Option DayTimes) → IsAhead t own from x → GaveDay x d → from ≤ℤ d
      of None k g = absurd g
      of (Some f) k g = omega (arith, ints, (k.some f refl).late, g)

  pub union_given : (times : List ℕ) → IsSetOf nat_lt times (λ s. HasOn a d s ⊎ HasOn b d s) → IsFirstOccupied (union t u) from d times
  union_given times set =
      let of_a = on_day t own_t from d a ka late first.2 na in
      let of_b = on_day u own_u from d b kb late first.3 nb in
      record {
        late = late;
        before = neither t u from d (none_below t own_t from d a ka first.2 (λ h. omega (arith, ints, na h)))
            (none_below u own_u from d b kb first.3 (λ h. omega (arith, ints, nb h)));
        some = λ e. (let m : (s : ℕ) × (HasOn a d s ⊎ HasOn b d s) =
            elim first.1 [
              | inl g ↦ (let x = has_some t own_t from d a ka g in (x.0, inl x.1))
              | inr g ↦
                  (let x = has_some u own_u from d b kb g in (x.0, inr x.1))
            ] in
            Contains-none m.0 (subst (λ x. Contains x m.0) e ((set.exact m.0).1 m.1)));
        all = set_same nat_lt (λ s. HasOn a d s ⊎ HasOn b d s) (λ s. IsTrue (stands_at (union t u) d s)) times set (λ s. (
          (λ m. elim m [
            | inl x ↦ rw ((of_a s).1 x) refl
            | inr y ↦
                rw ((of_b s).1 y) (elim (stands_at t d s) as (λ z. (z || true) ≡ true) [ true ↦ refl | false ↦ refl ])
          ]),
          (λ h. elim (stands_at t d s) as (λ z. stands_at t d s ≡ z → (z || stands_at u d s) ≡ true
              → HasOn a d s ⊎ HasOn b d s) [ true ↦ λ e f. inl ((of_a s).0 e) | false ↦ λ e f. inr ((of_b s).0 f) ] refl h),
        ));
      }

-- one side after the day d was given
pub side_given : (t : Tree) (own from d q : ℤ) (ahead left : Option DayTimes) → IsAhead t own from ahead → from ≤ℤ d → ForSome ahead (λ f. d ≤ℤ f.day)
    → ForNone ahead (d <ℤ own) → IsLeftAfterDay ahead d left → q ≡ d +ℤ pos 1 → IsAhead t own q left
side_given t own from d q None left k l some none w e =
    rw (e, w) (advance t own from (d +ℤ pos 1) None k (omega (arith, ints, l)) (λ x h. absurd (cc)) (λ h. omega (arith, ints, none refl)))
side_given t own from d q (Some f) left k l some none (inl w) e =
    rw (e, w.1) (subst (λ x. IsAhead t own (x +ℤ pos 1) None) w.0 (taken t own from f k))
side_given t own from d q (Some f) left k l some none (inr w) e =
    rw (e, w.1) (advance t own from (d +ℤ pos 1) (Some f) k (omega (arith, ints, l))
    (λ y h. (let i : y ≡ f = cc in let m = some f refl in rw i (below d f.day m w.0))) (λ h. absurd (cc)))
  where
    below : (d x : ℤ) → d ≤ℤ x → x ≢ d → (d +ℤ pos 1) ≤ℤ x
    below d x l n = by_lt_z {P = (d +ℤ pos 1) ≤ℤ x} d x (λ m. omega (arith, ints, m)) (λ g. absurd (n (omega (arith, ints, l, g))))

-- a day that is given, and the day after it, are numbers of the code
pub day_fits : (from day to : ℤ) → first_day_of_all ≤ℤ from → from ≤ℤ day → day ≤ℤ to → to ≤ℤ latest_day
    → (to_z w64 (of_z w64 day) ≡ day) × (to_z w64 (of_z w64 (day +ℤ pos 1)) ≡ day +ℤ pos 1)
day_fits from day to a b c d = (omega (arith, ints, a, b, c, d), omega (arith, ints, a, b, c, d))

-- a part that has not been asked
pub unasked_ahead : (t : Tree) (own : ℤ) → IsUnasked own → IsAhead t own (negsuc 719_161) None
unasked_ahead t own u = record {
  some = λ f q. absurd (cc);
  none = λ q. (let e : own ≡ negsuc 719_161 = u ∙ first_day_is in (omega (arith, ints, e), λ d s l h. absurd (omega (arith, ints, e, l, h))));
}

-- ---- by a table of sets

pub unasked_in : (sets : List (List ℕ)) (t : Tree) (own : ℤ) → IsUnasked own → IsAheadIn sets t own (negsuc 719_161) None
unasked_in sets t own u = record { within = λ f e. absurd (cc); known = unasked_ahead t own u }

-- one side if no day was given
pub side_none_in : (sets : List (List ℕ)) (t : Tree) (own from to q : ℤ) (ahead : Option OccupiedDay) → IsAheadIn sets t own from ahead
    → from ≤ℤ q → (q ≡ to +ℤ pos 1) ⊎ (q ≡ from) → ForSome (day_seen sets ahead) (λ x. to <ℤ x.day) → ForNone ahead (to <ℤ own)
    → IsAheadIn sets t own q ahead × HasNone t from q
side_none_in sets t own from to q ahead k l one some none =
    let s = side_none t own from to q (day_seen sets ahead) k.known l one some (seen_none sets ahead (to <ℤ own) none) in
    (record { within = k.within; known = s.0 }, s.1)

-- one side after the day d was given
pub side_given_in : (sets : List (List ℕ)) (t : Tree) (own from d q : ℤ) (ahead left : Option OccupiedDay) → IsAheadIn sets t own from ahead
    → from ≤ℤ d → ForSome (day_seen sets ahead) (λ f. d ≤ℤ f.day) → ForNone ahead (d <ℤ own) → IsLeftAfterDay (day_seen sets ahead) d (day_seen sets left)
    → ForSome left (λ f. ahead ≡ Some f) → q ≡ d +ℤ pos 1 → IsAheadIn sets t own q left
side_given_in sets t own from d q ahead left k l some none w same e = record {
  within = λ f h. k.within f (same f h);
  known = side_given t own from d q (day_seen sets ahead) (day_seen sets left) k.known l some (seen_none sets ahead (d <ℤ own) none) w e;
}

-- two parts of a union of which one gave a day
module _ (sets : List (List ℕ)) (t u : Tree) (own_t own_u from d to : ℤ) (a b : Option OccupiedDay) (ka : IsAheadIn sets t own_t from a)
    (kb : IsAheadIn sets u own_u from b) (first : IsFirstOfBoth (day_seen sets a) (day_seen sets b) to (Some d)) (na : ForNone a (to <ℤ own_t))
    (nb : ForNone b (to <ℤ own_u)) where
  before : (own : ℤ) (x : Option OccupiedDay) → ForNone x (to <ℤ own) → ForNone (day_seen sets x) (d <ℤ own)
  before own x n = seen_none sets x (d <ℤ own) (λ e. omega (arith, ints, n e, first.0))

  not_before : from ≤ℤ d
  not_before =
      late t u own_t own_u from d to (day_seen sets a) (day_seen sets b) ka.known kb.known first (before own_t a na) (before own_u b nb)

  -- the day is not before the position, and is a number of the code, as is the day after it
  pub union_day : first_day_of_year (pos 1) ≤ℤ from → to ≤ℤ latest_day
      → (from ≤ℤ d) × (to_z w64 (of_z w64 d) ≡ d) × (to_z w64 (of_z w64 (to_z w64 (of_z w64 d) +ℤ pos 1)) ≡ d +ℤ pos 1)
  union_day begun high =
      let fits = day_fits from d to (rw first_day_is at begun) not_before first.0 high in
      (not_before, fits.0, rw fits.0 fits.1)

  pub union_next : (new : List (List ℕ)) (found : Option OccupiedDay) → IsGivenByBoth sets a b d new found
      → IsNextIn new (union t u) from to (Ok found) (d +ℤ pos 1)
  union_next new None given = absurd (elim first.1 [ inl g ↦ given.0 g | inr g ↦ given.1 g ])
  union_next new (Some f) given =
      let times = (with_set new f).times in
      let none_a = before own_t a na in
      let none_b = before own_u b nb in
      let all = union_given t u own_t own_u from d to (day_seen sets a) (day_seen sets b) ka.known kb.known first none_a none_b times given.3 in
      (given.1.within, (subst (λ x. IsFirstOccupied (union t u) from x times) (sym given.0) all, rw given.0 first.0, rw given.0 refl))

-- ---- the seconds of a day by their number

-- a part that has the day with a second gave it
gave : (ahead : Option DayTimes) (day : ℤ) (s : ℕ) → HasOn ahead day s → GaveDay ahead day
gave None day s h = h
gave (Some f) day s h = h.0

-- both parts gave the day, and the number is that of the union
pub given_joined : (old new : List (List ℕ)) (a b : OccupiedDay) (x y : List ℕ) (number count : ℕ) → a.day ≡ b.day → x ≡ (with_set old a).times
    → y ≡ (with_set old b).times → number < length new → IsSetOf nat_lt (get_or new number []) (λ s. Contains x s ⊎ Contains y s)
    → count ≡ length (get_or new number [])
    → IsGivenByBoth old (Some a) (Some b) a.day new (Some (record { day = a.day; number = record { index = number }; count = count }))
given_joined old new a b x y number count e of_x of_y within set many =
    let whole : take count (get_or new number []) ≡ get_or new number [] = rw many (take-length (get_or new number [])) in (
      refl,
      record { within = (within, omega (arith, many)); rises = rw whole set.rises },
      inl refl,
      rw whole (set_same nat_lt (λ s. Contains x s ⊎ Contains y s)
          (λ s. HasOn (day_seen old (Some a)) a.day s ⊎ HasOn (day_seen old (Some b)) a.day s) (get_or new number []) set (λ s. (
            (λ m. elim m [
              | inl c ↦ inl (refl, subst (λ z. Contains z s) of_x c)
              | inr c ↦ inr (sym e, subst (λ z. Contains z s) of_y c)
            ]),
            (λ m. elim m [
              | inl c ↦ inl (subst (λ z. Contains z s) (sym of_x) c.1)
              | inr c ↦ inr (subst (λ z. Contains z s) (sym of_y) c.1)
            ]),
          ))),
    )

-- the first part alone gave the day
pub given_first : (sets : List (List ℕ)) (b : Option OccupiedDay) (found : OccupiedDay) → IsGivenOn sets found → (GaveDay (day_seen sets b) found.day → ⊥)
    → IsGivenByBoth sets (Some found) b found.day sets (Some found)
given_first sets b found g not_b = (
  refl,
  g,
  inl refl,
  set_same nat_lt (Contains ((with_set sets found).times)) (λ s. HasOn (day_seen sets (Some found)) found.day s ⊎ HasOn (day_seen sets b) found.day s)
      ((with_set sets found).times) (set_itself nat_lt ((with_set sets found).times) g.rises)
      (λ s. ((λ c. inl (refl, c)), (λ m. elim m [ inl c ↦ c.1 | inr c ↦ absurd (not_b (gave (day_seen sets b) found.day s c)) ]))),
)
