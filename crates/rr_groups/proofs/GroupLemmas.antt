-- The groups of sorted entries are those of two lists of keys.
use Rattle.std.proofs.Common.{◌≡◌, ℕ, ◌+◌, ◌-◌, ◌≤◌, Bool, true, false, append_assoc, cond, length-drop, List, [], ◌∷◌, ◌++◌, length, get_or, drop, map, sym, take, refl, ap, ◌∙◌, subst, arith}
use Rattle.std.specs.Cmp.{tied_itself}
use Rattle.std.specs.List.{All, Contains, filter, prefix_len, take_while}
use Rattle.std.specs.Ordering.{is_eq}
use Rattle.std.proofs.Math.Seq.{take-length}
use Rattle.std.proofs.lemmas.List.{append-nil, drop-drop, length-take, map-append}
use Rattle.std.proofs.lemmas.List.Elements.{All-cons, All-filter, All-head, All-map, All-nil, All-tail, filter-append}
use Rattle.std.proofs.lemmas.List.Sums.{take_while-cons}
use Rattle.rr_model.specs.declared.verdict.Side.{Side}
use Rattle.rr_model.specs.declared.verdict.Side.TheVariants.{A, B}
use Rattle.rr_seam.specs.Keys.{is_same_key, key_cmp}
use Rattle.rr_seam.specs.declared.key.Key.{Key}
use Rattle.rr_groups.specs.Entries.{IsSortedOf, after_a, entries_from, entries_of, front_of_a, has_key, indexes_in, is_of_a}
use Rattle.rr_groups.specs.Groups.{AreGroups, indexes_from, indexes_of, keys_of}
use Rattle.rr_groups.specs.Runs.{AreGroupsOf, IsGroupOf, IsRunAt}
use Rattle.rr_groups.specs.declared.entry.Entry.{Entry}
use Rattle.rr_groups.specs.declared.group.Group.{Group}
use Rattle.rr_groups.proofs.KeyLemmas.{key_cmp_total, key_exact}
use Rattle.rr_groups.proofs.RunLemmas.{Ascends, Ascends-from_sorted, HasLines, HasLines-given, HasLines-next, HasLines-none, IsFront-from_ascends, after, lowest}

-- ---- the groups of entries in order

abbrev entry_key : Entry → Key
entry_key entry = entry.key

abbrev group_key : Group → Key
group_key group = group.key

-- each key of entries has one group, that of the entries with its key, in their order
abbrev HasGroups : List Entry → List Group → Type 0
HasGroups entries groups = HasLines entry_key key_cmp key_cmp_total group_key IsGroupOf entries groups

next_group : (first : Entry) (more run : List Entry) (group : Group) (groups : List Group)
    → run ≡ take_while (has_key first.key) (first ∷ more) → Ascends entry_key key_cmp key_cmp_total (first ∷ more)
    → IsGroupOf first.key run group
    → (Ascends entry_key key_cmp key_cmp_total (drop (length run) (first ∷ more)) → HasGroups (drop (length run) (first ∷ more)) groups)
    → HasGroups (first ∷ more) (group ∷ groups)
next_group first more run group groups run_is up is grouped =
    let k = first.key in
    let fr = IsFront-from_ascends entry_key key_cmp key_cmp_total k (first ∷ more) up (lowest entry_key key_cmp key_cmp_total first more up) in
    let at : drop (length run) (first ∷ more) ≡ after entry_key key_cmp key_cmp_total k (first ∷ more) = ap (λ ys. drop (length ys) (first ∷ more)) run_is in
    HasLines-next entry_key key_cmp key_cmp_total group_key IsGroupOf key_exact first more group groups up is.of_key
    (subst (λ ys. IsGroupOf k ys group) run_is is)
    (subst (λ ys. HasGroups ys groups) at (grouped (subst (Ascends entry_key key_cmp key_cmp_total) (sym at) fr.ascends)))

have_groups : (entries : List Entry) (groups : List Group) → Ascends entry_key key_cmp key_cmp_total entries
    → AreGroupsOf entries groups → HasGroups entries groups
have_groups entries groups up AreGroupsOf.none = HasLines-none entry_key key_cmp key_cmp_total group_key IsGroupOf
have_groups entries groups up (AreGroupsOf.next _ run first group more_groups at is more) =
    let e = at.begins in
    subst (λ ys. HasGroups ys (group ∷ more_groups)) (sym e)
    (next_group first at.more run group more_groups (subst (λ ys. run ≡ take_while (has_key first.key) ys) e at.run_is)
    (subst (Ascends entry_key key_cmp key_cmp_total) e up) is
    (λ up_rest. subst (λ ys. HasGroups (drop (length run) ys) more_groups) e
    (have_groups (drop (length run) entries) more_groups
    (subst (λ ys. Ascends entry_key key_cmp key_cmp_total (drop (length run) ys)) (sym e) up_rest) more)))

-- what is left from a place on, taken whole
pub whole_rest : (start : ℕ) (entries : List Entry) → take (length entries - start) (drop start entries) ≡ drop start entries
whole_rest start entries = subst (λ n. take n (drop start entries) ≡ drop start entries) (length-drop start entries) (take-length (drop start entries))

-- the groups so far are those of the entries before this place
pub record IsUpTo (entries : List Entry) (groups : List Group) (start : ℕ) : Type 0 where
  pub joins : (more : List Group) → AreGroupsOf (drop start entries) more → AreGroupsOf entries (groups ++ more)
  pub within : start ≤ length entries

pub IsUpTo-start : (entries : List Entry) (groups : List Group) → groups ≡ [] → IsUpTo entries groups 0
IsUpTo-start entries groups none = record {
  joins = λ more are. subst (λ gs. AreGroupsOf entries (gs ++ more)) (sym none) are;
  within = omega arith;
}

-- a run has an entry at least, and no more than there are
pub run_length : (entries : List Entry) (first : Entry) (run : List Entry) → IsRunAt entries first run → (1 ≤ length run) × (length run ≤ length entries)
run_length entries first run at =
    let e : take_while (has_key first.key) (first ∷ at.more) ≡ first ∷ take_while (has_key first.key) at.more =
    take_while-cons (has_key first.key) first at.more
    ∙ ap (λ b. cond b (first ∷ take_while (has_key first.key) at.more) []) (ap is_eq (tied_itself key_cmp_total first.key)) in
    let r : run ≡ first ∷ take_while (has_key first.key) at.more = at.run_is ∙ ap (take_while (has_key first.key)) at.begins ∙ e in
    let t = length-take (prefix_len (has_key first.key) entries) entries in
    (omega (arith, ap length r), omega (arith, ap length at.run_is, t))

pub IsUpTo-next : (entries : List Entry) (groups : List Group) (start : ℕ) (first : Entry) (run : List Entry) (group : Group)
    → IsRunAt (drop start entries) first run → IsGroupOf first.key run group → IsUpTo entries groups start
    → IsUpTo entries (groups ++ group ∷ []) (start + length run)
IsUpTo-next entries groups start first run group at is so_far = record {
  joins = λ more are. subst (AreGroupsOf entries) (sym (append_assoc groups (group ∷ []) more))
      (so_far.joins (group ∷ more) (AreGroupsOf.next (drop start entries) run first group more at is
      (subst (λ es. AreGroupsOf es more) (sym (drop-drop (length run) start entries)) are)));
  within = omega (arith, so_far.within, run_length (drop start entries) first run at, length-drop start entries);
}

pub IsUpTo-end : (entries : List Entry) (groups : List Group) (start : ℕ) → IsUpTo entries groups start → drop start entries ≡ [] → AreGroupsOf entries groups
IsUpTo-end entries groups start so_far none =
    subst (AreGroupsOf entries) (append-nil groups) (so_far.joins [] (subst (λ es. AreGroupsOf es []) (sym none) AreGroupsOf.none))

-- ---- the entries of a key, by calendar

kept_by : (b : Bool) (entry : Entry) (entries : List Entry) (is : List ℕ) → indexes_in entries ≡ is
    → indexes_in (cond b (entry ∷ entries) entries) ≡ cond b (entry.index ∷ is) is
kept_by true entry entries is more = ap (λ xs. entry.index ∷ xs) more
kept_by false entry entries is more = more

-- the indexes of the entries of one calendar whose key passes a test
kept_indexes : (test : Key → Bool) (side : Side) (n : ℕ) (keys : List Key)
    → indexes_in (filter (λ (entry : Entry). test entry.key) (entries_from side n keys)) ≡ indexes_from test n keys
kept_indexes test side n [] = refl
kept_indexes test side n (k ∷ ks) =
    kept_by (test k) (record { key = k; side = side; index = n }) (filter (λ (entry : Entry). test entry.key) (entries_from side (n + 1) ks))
    (indexes_from test (n + 1) ks) (kept_indexes test side (n + 1) ks)

all_in_a : (n : ℕ) (keys : List Key) → All (λ x. is_of_a x ≡ true) (entries_from A n keys)
all_in_a n [] = All-nil (λ x. is_of_a x ≡ true)
all_in_a n (k ∷ ks) = All-cons (λ x. is_of_a x ≡ true) (record { key = k; side = A; index = n }) (entries_from A (n + 1) ks) refl (all_in_a (n + 1) ks)

all_in_b : (n : ℕ) (keys : List Key) → All (λ x. is_of_a x ≡ false) (entries_from B n keys)
all_in_b n [] = All-nil (λ x. is_of_a x ≡ false)
all_in_b n (k ∷ ks) = All-cons (λ x. is_of_a x ≡ false) (record { key = k; side = B; index = n }) (entries_from B (n + 1) ks) refl (all_in_b (n + 1) ks)

front_is : (xs ys : List Entry) → All (λ x. is_of_a x ≡ true) xs → All (λ y. is_of_a y ≡ false) ys → front_of_a (xs ++ ys) ≡ xs
front_is [] [] in_a in_b = refl
front_is [] (y ∷ ys) in_a in_b =
    take_while-cons is_of_a y ys ∙ ap (λ b. cond b (y ∷ take_while is_of_a ys) []) (All-head (λ x. is_of_a x ≡ false) y ys in_b)
front_is (x ∷ xs) ys in_a in_b =
    take_while-cons is_of_a x (xs ++ ys) ∙ ap (λ b. cond b (x ∷ take_while is_of_a (xs ++ ys)) []) (All-head (λ y. is_of_a y ≡ true) x xs in_a)
    ∙ ap (λ zs. x ∷ zs) (front_is xs ys (All-tail (λ y. is_of_a y ≡ true) x xs in_a) in_b)

drop_front : (xs ys : List Entry) → drop (length xs) (xs ++ ys) ≡ ys
drop_front [] ys = refl
drop_front (x ∷ xs) ys = drop_front xs ys

after_is : (xs ys : List Entry) → All (λ x. is_of_a x ≡ true) xs → All (λ y. is_of_a y ≡ false) ys → after_a (xs ++ ys) ≡ ys
after_is xs ys in_a in_b = ap (λ zs. drop (length zs) (xs ++ ys)) (front_is xs ys in_a in_b) ∙ drop_front xs ys

-- the entries of a key are the events with it in each calendar
module _ (a b : List Key) (k : Key) where
  abbrev of_a : List Entry
  of_a = filter (has_key k) (entries_from A 0 a)

  abbrev of_b : List Entry
  of_b = filter (has_key k) (entries_from B 0 b)

  in_a : All (λ x. is_of_a x ≡ true) of_a
  in_a = All-filter (has_key k) (λ x. is_of_a x ≡ true) (entries_from A 0 a) (all_in_a 0 a)

  in_b : All (λ y. is_of_a y ≡ false) of_b
  in_b = All-filter (has_key k) (λ y. is_of_a y ≡ false) (entries_from B 0 b) (all_in_b 0 b)

  front_indexes : indexes_in (front_of_a (filter (has_key k) (entries_of a b))) ≡ indexes_of k a
  front_indexes =
      ap (λ es. indexes_in (front_of_a es)) (filter-append (has_key k) (entries_from A 0 a) (entries_from B 0 b))
      ∙ ap indexes_in (front_is of_a of_b in_a in_b) ∙ kept_indexes (λ j. is_same_key j k) A 0 a

  after_indexes : indexes_in (after_a (filter (has_key k) (entries_of a b))) ≡ indexes_of k b
  after_indexes =
      ap (λ es. indexes_in (after_a es)) (filter-append (has_key k) (entries_from A 0 a) (entries_from B 0 b))
      ∙ ap indexes_in (after_is of_a of_b in_a in_b) ∙ kept_indexes (λ j. is_same_key j k) B 0 b

-- ---- keys of events

side_keys : (side : Side) (n : ℕ) (keys : List Key) → map entry_key (entries_from side n keys) ≡ keys
side_keys side n [] = refl
side_keys side n (k ∷ ks) = ap (λ js. k ∷ js) (side_keys side (n + 1) ks)

keys_of_entries : (a b : List Key) → map entry_key (entries_of a b) ≡ a ++ b
keys_of_entries a b =
    map-append entry_key (entries_from A 0 a) (entries_from B 0 b)
    ∙ ap (λ ks. ks ++ map entry_key (entries_from B 0 b)) (side_keys A 0 a)
    ∙ ap (λ ks. a ++ ks) (side_keys B 0 b)

-- ---- the groups

pub are_groups : (a b : List Key) (sorted : List Entry) (groups : List Group) → IsSortedOf (entries_of a b) sorted → AreGroupsOf sorted groups
    → AreGroups a b groups
are_groups a b sorted groups order grouped =
    let up = Ascends-from_sorted entry_key key_cmp key_cmp_total sorted order.rises in
    let is = HasLines-given entry_key key_cmp key_cmp_total group_key IsGroupOf (entries_of a b) sorted groups order.moved order.stable
    (have_groups sorted groups up grouped) in
    let same = keys_of_entries a b in
    record {
      rises = is.rises;
      every = subst (All (Contains (keys_of groups))) same (All-map (Contains (keys_of groups)) entry_key (entries_of a b) is.every);
      none_else = λ n d h. subst (λ ks. Contains ks (group_key (get_or groups n d))) same (is.none_else n d h);
      of_a = λ n d h. (is.said n d h).of_a ∙ front_indexes a b (group_key (get_or groups n d));
      of_b = λ n d h. (is.said n d h).of_b ∙ after_indexes a b (group_key (get_or groups n d));
    }
