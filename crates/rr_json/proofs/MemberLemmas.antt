-- Members that are put one after the other can be written and are read back, in rising order of their names.
use Rattle.std.proofs.Common.{◌≡◌, ℕ, suc, ◌≤◌, List, Ordering, Less, Equal, Greater, refl, ap, ◌∙◌, arith}
use Rattle.std.specs.Prelude.{⊤}
use Rattle.std.specs.BTreeMap.Comparable.{le_lt_trans}
use Rattle.std.specs.Cmp.Lexicographic.{slice_cmp}
use Rattle.std.specs.Ordering.{match_ordering, nat_cmp, ordering_reverse}
use Rattle.std.specs.Str.{IsUtf8}
use Rattle.std.proofs.lemmas.Cmp.{nat_list_cmp_total}
use Rattle.serde_json.specs.Data.{Data, Members, depth, member, members_depth, no_members, object, put}
use Rattle.rr_graph.proofs.JsonTextLemmas.{AreWritableMembers, IsBehind, IsWritable, joined}

-- ---- names that rise

-- the name is less than the first one
abbrev pub Begins : List ℕ → Members → Type 0
Begins k no_members = ⊤
Begins k (member l e ms) = slice_cmp nat_cmp k l ≡ Less

abbrev pub Rises : Members → Type 0
Rises no_members = ⊤
Rises (member k d ms) = Begins k ms × Rises ms

less_of : (k l : List ℕ) → slice_cmp nat_cmp k l ≡ Greater → slice_cmp nat_cmp l k ≡ Less
less_of k l h = nat_list_cmp_total.antisymm l k ∙ ap ordering_reverse h

greater_of : (k l : List ℕ) → slice_cmp nat_cmp k l ≡ Less → slice_cmp nat_cmp l k ≡ Greater
greater_of k l h = nat_list_cmp_total.antisymm l k ∙ ap ordering_reverse h

begins_at : (o : Ordering) (j k l : List ℕ) (d e : Data) (ms : Members) → slice_cmp nat_cmp j k ≡ Less → slice_cmp nat_cmp j l ≡ Less
    → Begins j (match_ordering o (member k d (member l e ms)) (member l d ms) (member l e (put k d ms)))
begins_at Less j k l d e ms of_k of_l = of_k
begins_at Equal j k l d e ms of_k of_l = of_l
begins_at Greater j k l d e ms of_k of_l = of_l

begins : (j k : List ℕ) (d : Data) (ms : Members) → slice_cmp nat_cmp j k ≡ Less → Begins j ms → Begins j (put k d ms)
begins j k d no_members of_k of_ms = of_k
begins j k d (member l e ms) of_k of_ms = begins_at (slice_cmp nat_cmp k l) j k l d e ms of_k of_ms

rises_at : (o : Ordering) (k l : List ℕ) (d e : Data) (ms : Members) → slice_cmp nat_cmp k l ≡ o → Begins l ms → Rises ms → Rises (put k d ms)
    → Rises (match_ordering o (member k d (member l e ms)) (member l d ms) (member l e (put k d ms)))
rises_at Less k l d e ms is of_l of_ms more = (is, (of_l, of_ms))
rises_at Equal k l d e ms is of_l of_ms more = (of_l, of_ms)
rises_at Greater k l d e ms is of_l of_ms more = (begins l k d ms (less_of k l is) of_l, more)

pub rises_more : (k : List ℕ) (d : Data) (ms : Members) → Rises ms → Rises (put k d ms)
rises_more k d no_members h = (tt, tt)
rises_more k d (member l e ms) h = rises_at (slice_cmp nat_cmp k l) k l d e ms refl h.0 h.1 (rises_more k d ms h.1)

-- ---- values that can be written

-- data that can be written nest at most so deep
pub record IsFine (n : ℕ) (d : Data) : Type 0 where
  pub writable : IsWritable d
  pub shallow : depth d ≤ n

abbrev pub AreFine : ℕ → Members → Type 0
AreFine n no_members = ⊤
AreFine n (member k d ms) = IsUtf8 k × IsFine n d × AreFine n ms

fine_at : (n : ℕ) (o : Ordering) (k l : List ℕ) (d e : Data) (ms : Members) → IsUtf8 k → IsFine n d → IsUtf8 l → IsFine n e → AreFine n ms → AreFine n (put k d ms)
    → AreFine n (match_ordering o (member k d (member l e ms)) (member l d ms) (member l e (put k d ms)))
fine_at n Less k l d e ms of_k of_d of_l of_e of_ms more = (of_k, of_d, (of_l, of_e, of_ms))
fine_at n Equal k l d e ms of_k of_d of_l of_e of_ms more = (of_l, of_d, of_ms)
fine_at n Greater k l d e ms of_k of_d of_l of_e of_ms more = (of_l, of_e, more)

pub fine_more : (n : ℕ) (k : List ℕ) (d : Data) (ms : Members) → IsUtf8 k → IsFine n d → AreFine n ms → AreFine n (put k d ms)
fine_more n k d no_members of_k of_d of_ms = (of_k, of_d, tt)
fine_more n k d (member l e ms) of_k of_d of_ms =
    fine_at n (slice_cmp nat_cmp k l) k l d e ms of_k of_d of_ms.0 of_ms.1 of_ms.2 (fine_more n k d ms of_k of_d of_ms.2)

-- ---- objects

-- a name that is greater than a greater one
beyond : (k l m : List ℕ) → slice_cmp nat_cmp k l ≡ Less → slice_cmp nat_cmp k m ≡ Greater → slice_cmp nat_cmp l m ≡ Greater
beyond k l m of_l of_m =
    let below = less_of k m of_m in
    greater_of m l (le_lt_trans nat_list_cmp_total m k l (rw below refl) of_l)

behind_next : (before : Members) (k l : List ℕ) (d : Data) → slice_cmp nat_cmp k l ≡ Less → IsBehind k before → IsBehind l (joined before (member k d no_members))
behind_next no_members k l d h b = (greater_of k l h, tt)
behind_next (member m e ms) k l d h b = (beyond k l m h b.0, behind_next ms k l d h b.1)

abbrev Starts : Members → Members → Type 0
Starts before no_members = ⊤
Starts before (member k d ms) = IsBehind k before

starts_next : (before ms : Members) (k : List ℕ) (d : Data) → Begins k ms → IsBehind k before → Starts (joined before (member k d no_members)) ms
starts_next before no_members k d h b = tt
starts_next before (member l e ms) k d h b = behind_next before k l d h b

writable_members : (n : ℕ) (before ms : Members) → Rises ms → AreFine n ms → Starts before ms → AreWritableMembers before ms
writable_members n before no_members r f s = tt
writable_members n before (member k d ms) r f s =
    (s, f.0, f.1.writable, writable_members n (joined before (member k d no_members)) ms r.1 f.2 (starts_next before ms k d r.0 s))

deep_members : (n : ℕ) (ms : Members) → AreFine n ms → members_depth ms ≤ n
deep_members n no_members f = omega arith
deep_members n (member k d ms) f = omega (arith, f.1.shallow, deep_members n ms f.2)

first_starts : (ms : Members) → Starts no_members ms
first_starts no_members = tt
first_starts (member k d ms) = tt

pub fine_object : (n : ℕ) (ms : Members) → Rises ms → AreFine n ms → IsFine (suc n) (object ms)
fine_object n ms r f = record { writable = writable_members n no_members ms r f (first_starts ms); shallow = omega (arith, deep_members n ms f) }
