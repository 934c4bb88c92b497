-- What is read of the events of a key if dates may be read as the occurrences of their days.
use Rattle.std.proofs.Common.{◌≡◌, ℕ, ◌+◌, ◌<◌, ◌≤◌, Bool, true, false, if◌then◌else◌, List, [], ◌∷◌, ◌++◌, length, get_or, drop, map}
use Rattle.std.proofs.Common.{ℤ, Option, None, Some, Result, Ok, Err, refl, sym, subst, ap, ◌∙◌}
use Rattle.std.proofs.lemmas.List.{append-nil, append_assoc, drop_all, drop_more}
use Rattle.rr_model.specs.Series.Validity.{IsValidSeries}
use Rattle.rr_model.specs.declared.rule.Series.{Series}
use Rattle.rr_seam.specs.declared.refusal.KeyRefusal.{KeyRefusal}
use Rattle.rr_icalfile.specs.Days.{days_or_refusal, if_taken, is_mixed, read_days, reading_by, reading_of, series_by_days, with_times}
use Rattle.rr_icalfile.specs.Edited.{KeyEvents, edited_by}
use Rattle.rr_icalfile.specs.declared.day.Reading.{Reading}
use Rattle.rr_icalfile.specs.declared.event.Event.{Event}
use Rattle.rr_icalfile.proofs.EditedLemmas.{edited-valid}

-- ---- what is put of a list, one thing after the other

module _ {X Y : Type 0} (f : X → Y) (xs : List X) where
  pub put_next : (old new all : List Y) (n m : ℕ) (x : X) → (n < length xs) × (x ≡ get_or xs n x) → m ≡ n + 1 → new ≡ old ++ f x ∷ []
      → old ++ map f (drop n xs) ≡ all → new ++ map f (drop m xs) ≡ all
  put_next old new all n m x at more put so_far =
      let here : map f (drop n xs) ≡ f x ∷ map f (drop (n + 1) xs) =
      ap (map f) (drop_more xs n x at.0 ∙ ap (λ (y : X). y ∷ drop (n + 1) xs) (sym at.1)) in
      rw (more, put) (append_assoc old (f x ∷ []) (map f (drop (n + 1) xs)) ∙ ap (λ (ys : List Y). old ++ ys) (sym here) ∙ so_far)

  pub put_last : (old all : List Y) (n : ℕ) → length xs ≤ n → old ++ map f (drop n xs) ≡ all → old ≡ all
  put_last old all n over so_far =
      sym (append-nil old) ∙ ap (λ (ys : List X). old ++ map f ys) (sym (drop_all n xs over)) ∙ so_far

-- ---- the series that is read

taken_so : (b : Bool) (m : Result Series KeyRefusal) (series : Series) → (if b then if_taken m else None) ≡ Some series → m ≡ Ok series
taken_so true (Ok x) series h = cc
taken_so true (Err r) series h = absurd (cc)
taken_so false m series h = absurd (cc)

-- what is read with dates that are the occurrences of their days is the series of the events whose dates have the time of day of the start
module _ (offset : Option ℤ) where
  -- a reading of events that are refused
  pub record IsByDays (all : KeyEvents) (reading : Reading) : Type 0 where
    pub day : reading.day ≡ true
    pub series : edited_by offset (with_times all).series (with_times all).instances ≡ Ok reading.series

  by_days : (event : Event) (instances : List Event) (r : KeyRefusal) (reading : Reading) (found : Option Series)
      → series_by_days offset event instances ≡ found → days_or_refusal r found ≡ Ok reading
      → IsByDays (record { series = Some event; instances = instances }) reading
  by_days event instances r reading None is h = absurd (cc)
  by_days event instances r reading (Some series) is h =
      let same : record { series = series; day = true } ≡ reading = cc in
      let made : IsByDays (record { series = Some event; instances = instances }) (record { series = series; day = true }) =
      record { day = refl; series = taken_so _ _ series is } in
      subst (IsByDays (record { series = Some event; instances = instances })) same made

  pub read_by_days : (series : Option Event) (instances : List Event) (r : KeyRefusal) (reading : Reading)
      → read_days offset series instances r ≡ Ok reading → IsByDays (record { series = series; instances = instances }) reading
  read_by_days None instances r reading h = absurd (cc)
  read_by_days (Some event) instances r reading h = by (is_mixed r) h
    where
      by : (b : Bool) → (if b then days_or_refusal r (series_by_days offset event instances) else Err r) ≡ Ok reading
          → IsByDays (record { series = Some event; instances = instances }) reading
      by true e = by_days event instances r reading (series_by_days offset event instances) refl e
      by false e = absurd (cc)

  -- what is read, by what the events state with no leave
  pub record IsRead (all : KeyEvents) (lenient : Bool) (strict : Result Series KeyRefusal) (reading : Reading) : Type 0 where
    pub as_asked : (series : Series) → strict ≡ Ok series → (reading.day ≡ false) × (reading.series ≡ series)
    pub by_days : (r : KeyRefusal) → strict ≡ Err r → (lenient ≡ true) × IsByDays all reading

  pub read_so : (all : KeyEvents) (lenient : Bool) (strict : Result Series KeyRefusal) (reading : Reading)
      → reading_by offset lenient all strict ≡ Ok reading → IsRead all lenient strict reading
  read_so all lenient (Ok series) reading h = record {
    as_asked = λ s is. (cc, cc);
    by_days = λ r is. absurd (cc);
  }
  read_so all lenient (Err r) reading h = by lenient h
    where
      by : (b : Bool) → (if b then read_days offset all.series all.instances r else Err r) ≡ Ok reading → IsRead all b (Err r) reading
      by true e = record { as_asked = λ s is. absurd (cc); by_days = λ q is. (refl, read_by_days all.series all.instances r reading e) }
      by false e = absurd (cc)

-- ---- it is valid

pub reading-valid : (offset : Option ℤ) (lenient : Bool) (all : KeyEvents) (reading : Reading) → reading_of offset lenient all ≡ Ok reading
    → IsValidSeries reading.series
reading-valid offset lenient all reading h = by (edited_by offset all.series all.instances) refl (read_so offset all lenient _ reading h)
  where
    by : (strict : Result Series KeyRefusal) → edited_by offset all.series all.instances ≡ strict
        → IsRead offset all lenient (edited_by offset all.series all.instances) reading → IsValidSeries reading.series
    by (Ok series) is read =
        subst IsValidSeries (sym (read.as_asked series is).1) (edited-valid offset all.series all.instances series is)
    by (Err r) is read =
        edited-valid offset (with_times all).series (with_times all).instances reading.series (read.by_days r is).1.series
