-- One cell, one line and one month more of a picture.
use Rattle.std.proofs.Common.{◌≡◌, ℕ, zero, suc, ◌+◌, ◌-◌, ◌/◌, ◌%◌, ◌^◌, ◌<◌, ◌≤◌, Bool, ◌||◌, codes, length-append, ℤ, pos, ◌+ℤ◌, List, [], ◌∷◌, ◌++◌, length, refl, ap, sym, ◌∙◌, append_assoc, add-one, subst, arith, Option, None, Some}
use Rattle.std.specs.Prelude.{Result, Ok, Err}
use Rattle.std.specs.Result.{OnOk}
use Rattle.std.specs.Fmt.{decimal}
use Rattle.std.proofs.lemmas.Fmt.{decimal_nonempty, decimal_step}
use Rattle.rr_model.specs.Text.Moments.{decimal_of}
use Rattle.rr_model.specs.declared.sketch.Sketch.{Sketch}
use Rattle.rr_trip.specs.Grid.{HasPicture, IsPictureOf, blank_cells, cell_text, cells_text, day_sign, first_of_month, has_mark, is_mark, legend_text, month_after, months_text, notes_text, picture_text, times_of_day, times_or, unusual_text, usual_times}

pub one_painted : (a b : Sketch) (first day : ℤ) (n : ℕ) (old out next : List ℕ) → day ≡ first +ℤ pos n → out ≡ old ++ cells_text a b first n
    → next ≡ out ++ cell_text a b day → next ≡ old ++ cells_text a b first (n + 1)
one_painted a b first day n old out next is e h' =
    let h : next ≡ out ++ cell_text a b (first +ℤ pos n) = subst (λ d. next ≡ out ++ cell_text a b d) is h' in
    rw add-one (h ∙ ap (λ o. o ++ cell_text a b (first +ℤ pos n)) e ∙ append_assoc old (cells_text a b first n) (cell_text a b (first +ℤ pos n)))

-- one day more is looked at
pub one_marked : (a b : Sketch) (first day : ℤ) (n : ℕ) (marked next : Bool) (sign : ℕ) → day ≡ first +ℤ pos n → marked ≡ has_mark a b first n
    → sign ≡ day_sign a b day → next ≡ (marked || is_mark sign) → next ≡ has_mark a b first (n + 1)
one_marked a b first day n marked next sign is m s e =
    rw add-one (e ∙ ap (λ (x : Bool). x || is_mark sign) m ∙ ap (λ (x : ℕ). has_mark a b first n || is_mark x) (s ∙ ap (day_sign a b) is))

-- ---- texts that grow

-- one part more is put
pub put_next : (old out next all part : List ℕ) → out ≡ old ++ all → next ≡ out ++ part → next ≡ old ++ (all ++ part)
put_next old out next all part e h = h ∙ ap (λ (o : List ℕ). o ++ part) e ∙ append_assoc old all part

-- one cell without a day more
pub one_blank : (old out next : List ℕ) (n : ℕ) → out ≡ old ++ blank_cells n → next ≡ out ++ codes "    " → next ≡ old ++ blank_cells (n + 1)
one_blank old out next n e h = rw add-one (put_next old out next (blank_cells n) (codes "    ") e h)

-- one day more has its lines, that of A and that of B
pub one_listed : (usual : List ℕ) (a b : Sketch) (first day : ℤ) (n : ℕ) (old out of_a next : List ℕ) → day ≡ first +ℤ pos n
    → out ≡ old ++ legend_text usual a b first n → of_a ≡ out ++ unusual_text (codes "A") usual a day
    → next ≡ of_a ++ unusual_text (codes "B") usual b day → next ≡ old ++ legend_text usual a b first (n + 1)
one_listed usual a b first day n old out of_a next is e x y =
    let more : suc n ≡ n + 1 = omega arith in
    let in_a = unusual_text (codes "A") usual a (first +ℤ pos n) in
    let in_b = unusual_text (codes "B") usual b (first +ℤ pos n) in
    put_next old of_a next (legend_text usual a b first n ++ in_a) in_b
    (put_next old out of_a (legend_text usual a b first n) in_a e (x ∙ ap (λ (d : ℤ). out ++ unusual_text (codes "A") usual a d) is))
    (y ∙ ap (λ (d : ℤ). of_a ++ unusual_text (codes "B") usual b d) is)
    ∙ ap (λ (k : ℕ). old ++ legend_text usual a b first k) more

-- the last part was put behind the others
pub put_last : {T E : Type 0} (r : Result T E) (next out old all part : List ℕ) → out ≡ old ++ all → OnOk r (next ≡ out ++ part)
    → OnOk r (next ≡ old ++ (all ++ part))
put_last (Ok x) next out old all part e h = put_next old out next all part e h
put_last (Err x) next out old all part e h = tt

-- three parts were put one after the other
pub put_three : {T E : Type 0} (r : Result T E) (next two one old p q s : List ℕ) → one ≡ old ++ p → two ≡ one ++ q → OnOk r (next ≡ two ++ s)
    → OnOk r (next ≡ old ++ ((p ++ q) ++ s))
put_three r next two one old p q s e f h = put_last r next two old (p ++ q) s (put_next old one two p q e f) h

-- four parts were put one after the other
pub put_four : {T E : Type 0} (r : Result T E) (next three two one old p q s t : List ℕ) → one ≡ old ++ p → two ≡ one ++ q → three ≡ two ++ s
    → OnOk r (next ≡ three ++ t) → OnOk r (next ≡ old ++ (((p ++ q) ++ s) ++ t))
put_four r next three two one old p q s t e f g h =
    put_last r next three old ((p ++ q) ++ s) t (put_next old two three (p ++ q) s (put_next old one two p q e f) g) h

-- three months were put one after the other
pub months_put : {T E : Type 0} (r : Result T E) (next two one old : List ℕ) (text : ℤ → List ℕ) (first second third : ℤ) → second ≡ month_after first
    → third ≡ month_after second → one ≡ old ++ text first → two ≡ one ++ text second → OnOk r (next ≡ two ++ text third)
    → OnOk r (next ≡ old ++ ((text first ++ text (month_after first)) ++ text (month_after (month_after first))))
months_put r next two one old text first second third s t e f h =
    put_three r next two one old (text first) (text (month_after first)) (text (month_after (month_after first))) e
    (f ∙ ap (λ (d : ℤ). one ++ text d) s) (subst (λ (d : ℤ). OnOk r (next ≡ two ++ text d)) (t ∙ ap month_after s) h)

-- the first day that was answered is that of the month of the day
pub first_answered : (day first : ℤ) (o : Option ℤ) → o ≡ Some first → (HasPicture day → o ≡ Some (first_of_month day)) → HasPicture day
    → first ≡ first_of_month day
first_answered day first o is near h = let e = near h in cc

-- a day that has none is not painted
pub none_answered : (day : ℤ) (o : Option ℤ) → o ≡ None → (HasPicture day → o ≡ Some (first_of_month day)) → HasPicture day → ⊥
none_answered day o is near h = let e = near h in cc

-- the months of a picture were put, and the notes behind them
pub is_picture : (a b : Sketch) (day first : ℤ) (empty painted text usual : List ℕ) → empty ≡ [] → first ≡ first_of_month day
    → painted ≡ empty ++ months_text a b first → usual ≡ usual_times a b first 92 → text ≡ painted ++ notes_text usual a b first
    → IsPictureOf a b day text
is_picture a b day first empty painted text usual e f m u n =
    let months : painted ≡ months_text a b first = m ∙ ap (λ (o : List ℕ). o ++ months_text a b first) e in
    n ∙ ap (λ (o : List ℕ). o ++ notes_text usual a b first) months
    ∙ ap (λ (us : List ℕ). months_text a b first ++ notes_text us a b first) u ∙ ap (picture_text a b) f

-- ---- numbers

-- a number of several digits has one more than its tens
more_digits : (n : ℕ) → 10 ≤ n → n < 2 ^ 64 → length (decimal n) ≡ length (decimal (n / 10)) + 1
more_digits n low high = rw (decimal_step n low high) (length-append (decimal (n / 10)) ((48 + n % 10) ∷ []))

-- no zeros stand before a number of two digits or more
pub decimal_two : (n : ℕ) → 100 ≤ n → n < 2 ^ 64 → decimal_of 2 n ≡ decimal n
decimal_two n low high =
    let some : 0 < length (decimal (n / 10)) = decimal_nonempty (n / 10) (omega arith) in
    let none : 2 - length (decimal n) ≡ 0 = omega (arith, more_digits n (omega arith) high) in
    rw none refl

-- no zeros stand before a number of four digits or more
pub decimal_four : (n : ℕ) → 10_000 ≤ n → n < 2 ^ 64 → decimal_of 4 n ≡ decimal n
decimal_four n low high =
    let some : 0 < length (decimal (n / 10 / 10 / 10)) = decimal_nonempty (n / 10 / 10 / 10) (omega arith) in
    let one = more_digits n (omega arith) high in
    let two = more_digits (n / 10) (omega arith) (omega arith) in
    let three = more_digits (n / 10 / 10) (omega arith) (omega arith) in
    let none : 4 - length (decimal n) ≡ 0 = omega (arith, one, two, three) in
    rw none refl

-- ---- the usual times

-- no day has no times
pub usual_none : (a b : Sketch) (first : ℤ) → usual_times a b first 0 ≡ []
unfolding usual_times
usual_none a b first = refl

module _ (a b : Sketch) (first : ℤ) (i : ℕ) (times : List ℕ) (day : ℤ) (at : day ≡ first +ℤ pos i) (is : times ≡ times_of_day a b day)
    (none : usual_times a b first i ≡ []) where
  usual_here : usual_times a b first (suc i) ≡ times
  unfolding usual_times
  usual_here =
      ap (λ (ts : List ℕ). times_or ts (times_of_day a b (first +ℤ pos i))) none ∙ ap (times_of_day a b) (sym at) ∙ sym is

  pub usual_next : length times ≡ 0 → usual_times a b first (i + 1) ≡ []
  usual_next no_times = rw add-one (usual_here ∙ by times no_times)
    where
      by : (ts : List ℕ) → length ts ≡ 0 → ts ≡ []
      by [] e = refl
      by (s ∷ ss) e = absurd (omega (arith, e))

  -- what was found stays
  kept : (s : ℕ) (ss : List ℕ) (m : ℕ) → times ≡ s ∷ ss → usual_times a b first (suc i + m) ≡ s ∷ ss
  unfolding usual_times
  kept s ss zero e = let none : suc i + 0 ≡ suc i = omega arith in rw none (usual_here ∙ e)
  kept s ss (suc m) e =
      let more : suc i + suc m ≡ suc (suc i + m) = omega arith in
      rw more (ap (λ (ts : List ℕ). times_or ts (times_of_day a b (first +ℤ pos (suc i + m)))) (kept s ss m e))

  pub usual_found : (n : ℕ) → i < n → 0 < length times → times ≡ usual_times a b first n
  usual_found n below some = by times refl some
    where
      by : (ts : List ℕ) → times ≡ ts → 0 < length ts → times ≡ usual_times a b first n
      by [] e none = absurd (omega (arith, none))
      by (s ∷ ss) e more =
          let reached : suc i + (n - suc i) ≡ n = omega (arith, below) in
          e ∙ sym (kept s ss (n - suc i) e) ∙ ap (usual_times a b first) reached
