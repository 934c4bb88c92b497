-- One day more.
use Rattle.std.proofs.Common.{◌≡◌, ℕ, suc, ◌+◌, List, [], ◌∷◌, ◌++◌, length, ℤ, pos, ◌+ℤ◌, refl, sym, ap, subst, ◌∙◌, arith}
use Rattle.std.proofs.lemmas.Int.{ints}
use Rattle.std.proofs.lemmas.List.{append-nil}
use Rattle.rr_model.specs.Sets.Sketch.{times_on}
use Rattle.rr_model.specs.declared.sketch.Sketch.{Sketch}
use Rattle.rr_rank.specs.declared.sums.Entry.{Entry}
use Rattle.rr_rank.specs.Counts.{IsBegin, IsRanked, count_on, days_before, entries_of, entry_if_some, with_day}
use Rattle.rr_rank.proofs.CountLemmas.{count-suc}

by_length : (entries : List Entry) (day : ℤ) (before : ℕ) (times : List ℕ)
    → with_day entries day before (length times) ≡ entries ++ entry_if_some day before times
by_length entries day before [] = sym (append-nil entries)
by_length entries day before (x ∷ xs) = refl

entries-zero : (s : Sketch) (q : ℤ) → [] ≡ entries_of s q 0
unfolding entries_of
entries-zero s q = refl

pub none_yet : (s : Sketch) (q : ℤ) (entries : List Entry) → entries ≡ [] → entries ≡ entries_of s q 0
none_yet s q entries e = e ∙ entries-zero s q

entries-suc : (s : Sketch) (q : ℤ) (n : ℕ)
    → entries_of s q n ++ entry_if_some (q +ℤ pos n) (count_on s q n) (times_on s (q +ℤ pos n)) ≡ entries_of s q (suc n)
unfolding entries_of
entries-suc s q n = refl

-- the entries and the count with one more day, as the code has them
pub next_entries : (s : Sketch) (q day at : ℤ) (n m before many : ℕ) (old new : List Entry) (times : List ℕ) → day ≡ q +ℤ pos n → m ≡ suc n → at ≡ day
    → times ≡ times_on s day → many ≡ length times → before ≡ count_on s q n → old ≡ entries_of s q n → new ≡ with_day old at before many
    → new ≡ entries_of s q m
next_entries s q day at n m before many old new times ed em ea et el ec eo en =
    let rest : times ≡ times_on s (q +ℤ pos n) = et ∙ ap (times_on s) ed in
    let whole : with_day old at before many ≡ with_day (entries_of s q n) (q +ℤ pos n) (count_on s q n) (length (times_on s (q +ℤ pos n))) =
    cc (eo, ea, ed, ec, el, rest) in
    en ∙ whole ∙ by_length (entries_of s q n) (q +ℤ pos n) (count_on s q n) (times_on s (q +ℤ pos n)) ∙ entries-suc s q n ∙ ap (entries_of s q) (sym em)

pub next_count : (s : Sketch) (q day : ℤ) (n m before many : ℕ) (times : List ℕ) → day ≡ q +ℤ pos n → m ≡ suc n → times ≡ times_on s day
    → many ≡ length times → before ≡ count_on s q n → before + many ≡ count_on s q m
next_count s q day n m before many times ed em et el ec =
    let rest : length times ≡ length (times_on s (q +ℤ pos n)) = ap (λ (l : List ℕ). length l) (et ∙ ap (times_on s) ed) in
    let next = count-suc s q n in
    let e : before + many ≡ count_on s q (suc n) = omega (arith, rest, next) in
    e ∙ ap (count_on s q) (sym em)

-- what is kept, once all days are counted
pub all_counted : (s : Sketch) (from day : ℤ) (head total before days : ℕ) (old new : List Entry) → IsBegin s from → s.settled ≡ from +ℤ pos before
    → days ≡ before + s.period → head ≡ count_on s from before → total ≡ count_on s from days → old ≡ entries_of s from days → day ≡ from +ℤ pos days
    → new ≡ old ++ record { day = day; before = total } ∷ [] → IsRanked s from head total new
all_counted s from day head total before days old new begin eb ed eh et eo ey en =
    let is : days_before s from ≡ before = omega (arith, ints) in
    let all : days_before s from + s.period ≡ days = omega arith in
    record {
      begin = begin;
      are_sums = rw all (en ∙ cc (eo, ey, et));
      is_head = eh ∙ ap (count_on s from) (sym is);
      is_total = et ∙ ap (count_on s from) (sym all);
    }

pub begin_at : (s : Sketch) (q r : ℤ) → q ≡ r → IsBegin s q → IsBegin s r
begin_at s q r e b = subst (λ (x : ℤ). IsBegin s x) e b
