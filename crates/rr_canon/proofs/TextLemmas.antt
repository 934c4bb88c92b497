-- A text is the text of one descriptor alone.
use Rattle.std.proofs.Common.{◌≡◌, ℕ, ◌-◌, ◌<◌, ◌≤◌, ◌^◌, List, [], ◌∷◌, ◌++◌, length, get_or, drop, map, replicate, refl, sym, ap, subst, ◌∙◌, arith, zero}
use Rattle.std.proofs.Common.{suc, ℤ, nat_abs}
use Rattle.std.specs.Prelude.{Option, Some, None, codes}
use Rattle.std.specs.Fmt.{decimal}
use Rattle.std.specs.List.{All}
use Rattle.std.proofs.lemmas.List.Elements.{All-nil, All-cons, All-head, All-tail, All-append, All-from_recursion}
use Rattle.rr_model.specs.Calendar.{year_of, month_of, day_of_month}
use Rattle.rr_model.specs.Text.Moments.{decimal_of, extended_date_text, extended_text}
use Rattle.rr_model.specs.Rising.Sets.{IsSecondsOfDay}
use Rattle.rr_model.specs.declared.kind.Kind.{Kind}
use Rattle.rr_model.specs.declared.kind.Kind.TheVariants.{Days, Moments}
use Rattle.rr_text.proofs.PrintedLemmas.{extended_text_injective, small_year, small_month}
use Rattle.rr_model.specs.Sets.Descriptor.{Run, Ending, Described}
use Rattle.rr_model.specs.Sets.DescriptorText.{fields, kind_line, seconds_line, set_lines, first_line, run_line, settled_line, ending_lines, lines_of, text_of}
use Rattle.rr_model.specs.Sets.Printable.{IsPrintedDay, IsPrintedNumber, IsPrintedRun, IsPrintedEnding, ArePrintedSets, IsPrintedIfSome, IsPrintedSet}
use Rattle.rr_model.specs.Sets.Printable.{IsPrinted, IsInLine, IsSetLine}
use Rattle.rr_canon.proofs.SplittingLemmas.{Stops, first_same, rest_same, split_only, lines_only, IsInField, decimal_in_field, fields_stop, fields_only}
use Rattle.rr_canon.proofs.SplittingLemmas.{field_in_line, fields_in_line}

-- ---- lists

map_only : {X Y : Type 0} (f : X → Y) (P : X → Type 0) → ((x y : X) → P x → P y → f x ≡ f y → x ≡ y) → (xs ys : List X) → All P xs → All P ys
    → map f xs ≡ map f ys → xs ≡ ys
map_only f P only [] [] hx hy e = refl
map_only f P only [] (y ∷ ys) hx hy e = absurd (omega (arith, ap length e))
map_only f P only (x ∷ xs) [] hx hy e = absurd (omega (arith, ap length e))
map_only f P only (x ∷ xs) (y ∷ ys) hx hy e =
    let first : x ≡ y = only x y (All-head P x xs hx) (All-head P y ys hy) (first_same (f x) (f y) (map f xs) (map f ys) e) in
    let rest : xs ≡ ys = map_only f P only xs ys (All-tail P x xs hx) (All-tail P y ys hy) (rest_same (f x) (f y) (map f xs) (map f ys) e) in
    cc

All-map : {X Y : Type 0} (f : X → Y) (P : X → Type 0) (Q : Y → Type 0) → ((x : X) → P x → Q (f x)) → (xs : List X) → All P xs → All Q (map f xs)
All-map f P Q h [] all = All-nil Q
All-map f P Q h (x ∷ xs) all = All-cons Q (f x) (map f xs) (h x (All-head P x xs all)) (All-map f P Q h xs (All-tail P x xs all))

All-every : {X : Type 0} (P : X → Type 0) → ((x : X) → P x) → (xs : List X) → All P xs
All-every P h [] = All-nil P
All-every P h (x ∷ xs) = All-cons P x xs (h x) (All-every P h xs)

-- ---- dates

zeros_in_field : (n : ℕ) → All IsInField (replicate n 48)
zeros_in_field zero = All-nil IsInField
zeros_in_field (suc n) = All-cons IsInField 48 (replicate n 48) (omega arith) (zeros_in_field n)

padded_in_field : (width n : ℕ) → n < 2 ^ 64 → All IsInField (decimal_of width n)
padded_in_field width n h =
    All-append IsInField (replicate (width - length (decimal n)) 48) (decimal n) (zeros_in_field (width - length (decimal n))) (decimal_in_field n h)

dash_in_field : All IsInField (codes "-")
dash_in_field = All-cons IsInField 45 [] (omega arith) (All-nil IsInField)

date_in_field : (d : ℤ) → IsPrintedDay d → All IsInField (extended_date_text d)
unfolding extended_date_text
date_in_field d printed =
    let year = padded_in_field 4 (nat_abs (year_of d)) (small_year d printed.0 printed.1) in
    let small = small_month d in
    let month = padded_in_field 2 (month_of d) (omega (arith, small.0)) in
    let day = padded_in_field 2 (day_of_month d) (omega (arith, small.1)) in
    let y = decimal_of 4 (nat_abs (year_of d)) in
    let m = decimal_of 2 (month_of d) in
    let k = decimal_of 2 (day_of_month d) in
    let dash = codes "-" in
    All-append IsInField (y ++ dash ++ m ++ dash) k
    (All-append IsInField (y ++ dash ++ m) dash
    (All-append IsInField (y ++ dash) m (All-append IsInField y dash year dash_in_field) month) dash_in_field) day

date_only : (d e : ℤ) → IsPrintedDay d → IsPrintedDay e → extended_date_text d ≡ extended_date_text e → d ≡ e
unfolding extended_text
date_only d e hd he same = extended_text_injective Days d e hd.0 hd.1 he.0 he.1 same

-- ---- lines

-- the numbers of a run
numbers_of : (run : Run) → IsPrintedRun run → All IsPrintedNumber (run.gap ∷ run.set ∷ run.count ∷ [])
numbers_of run h = All-from_recursion IsPrintedNumber (run.gap ∷ run.set ∷ run.count ∷ []) (h.gap, (h.set, (h.count, tt)))

run_is : (r s : Run) → r.gap ≡ s.gap → r.set ≡ s.set → r.count ≡ s.count → r ≡ s
run_is r s g n c = λ i. record { gap = g i; set = n i; count = c i }

run_only : (letter : ℕ) (r s : Run) → IsPrintedRun r → IsPrintedRun s → run_line letter r ≡ run_line letter s → r ≡ s
run_only letter r s hr hs e =
    let numbers = fields_only (r.gap ∷ r.set ∷ r.count ∷ []) (s.gap ∷ s.set ∷ s.count ∷ []) (numbers_of r hr) (numbers_of s hs)
    (rest_same letter letter (fields (r.gap ∷ r.set ∷ r.count ∷ [])) (fields (s.gap ∷ s.set ∷ s.count ∷ [])) e) in
    run_is r s (ap (λ l. get_or l 0 0) numbers) (ap (λ l. get_or l 1 0) numbers) (ap (λ l. get_or l 2 0) numbers)

run_in_line : (letter : ℕ) → 32 ≤ letter → (r : Run) → IsPrintedRun r → All IsInLine (run_line letter r)
run_in_line letter h r hr = All-cons IsInLine letter (fields (r.gap ∷ r.set ∷ r.count ∷ [])) h (fields_in_line (r.gap ∷ r.set ∷ r.count ∷ []) (numbers_of r hr))

first_line_only : (d e : ℤ) → IsPrintedDay d → IsPrintedDay e → first_line d ≡ first_line e → d ≡ e
first_line_only d e hd he same = date_only d e hd he (ap (drop 2) same)

first_in_line : (d : ℤ) → IsPrintedDay d → All IsInLine (first_line d)
first_in_line d h =
    All-cons IsInLine 102 (32 ∷ extended_date_text d) (omega arith)
    (All-cons IsInLine 32 (extended_date_text d) (omega arith) (field_in_line (extended_date_text d) (date_in_field d h)))

ending_is : (x y : Ending) → x.settled ≡ y.settled → x.period ≡ y.period → x.cycle ≡ y.cycle → x ≡ y
ending_is x y q p c = λ i. record { settled = q i; period = p i; cycle = c i }

period_number : (x : Ending) → IsPrintedEnding x → All IsPrintedNumber (x.period ∷ [])
period_number x h = All-cons IsPrintedNumber x.period [] h.period (All-nil IsPrintedNumber)

settled_line_only : (x y : Ending) → IsPrintedEnding x → IsPrintedEnding y → settled_line x ≡ settled_line y → (x.settled ≡ y.settled) × (x.period ≡ y.period)
settled_line_only x y hx hy e =
    let parts = split_only IsInField (extended_date_text x.settled) (extended_date_text y.settled) (fields (x.period ∷ [])) (fields (y.period ∷ []))
    (date_in_field x.settled hx.settled) (date_in_field y.settled hy.settled) (fields_stop (x.period ∷ [])) (fields_stop (y.period ∷ [])) (ap (drop 2) e) in
    let numbers = fields_only (x.period ∷ []) (y.period ∷ []) (period_number x hx) (period_number y hy) parts.1 in
    (date_only x.settled y.settled hx.settled hy.settled parts.0, ap (λ l. get_or l 0 0) numbers)

settled_in_line : (x : Ending) → IsPrintedEnding x → All IsInLine (settled_line x)
settled_in_line x h =
    All-cons IsInLine 113 (32 ∷ extended_date_text x.settled ++ fields (x.period ∷ [])) (omega arith)
    (All-cons IsInLine 32 (extended_date_text x.settled ++ fields (x.period ∷ [])) (omega arith)
    (All-append IsInLine (extended_date_text x.settled) (fields (x.period ∷ []))
    (field_in_line (extended_date_text x.settled) (date_in_field x.settled h.settled)) (fields_in_line (x.period ∷ []) (period_number x h))))

-- the line begins with this letter
abbrev pub Begins : ℕ → List ℕ → Type 0
Begins letter line = get_or line 0 0 ≡ letter

runs_begin : (letter : ℕ) (runs : List Run) → All (Begins letter) (map (run_line letter) runs)
runs_begin letter [] = All-nil (Begins letter)
runs_begin letter (r ∷ runs) = All-cons (Begins letter) (run_line letter r) (map (run_line letter) runs) refl (runs_begin letter runs)

-- ---- the ending

endings_only : (x y : Option Ending) → IsPrintedIfSome x → IsPrintedIfSome y → ending_lines x ≡ ending_lines y → x ≡ y
endings_only None None hx hy e = refl
endings_only None (Some y) hx hy e = absurd (omega (arith, ap length e))
endings_only (Some x) None hx hy e = absurd (omega (arith, ap length e))
endings_only (Some x) (Some y) hx hy e =
    let head = settled_line_only x y hx hy (first_same (settled_line x) (settled_line y) (map (run_line 99) x.cycle) (map (run_line 99) y.cycle) e) in
    let cycle = map_only (run_line 99) IsPrintedRun (run_only 99) x.cycle y.cycle hx.cycle hy.cycle
    (rest_same (settled_line x) (settled_line y) (map (run_line 99) x.cycle) (map (run_line 99) y.cycle) e) in
    ap Some (ending_is x y head.0 head.1 cycle)

ending_stops : (x : Option Ending) → Stops (Begins 98) (ending_lines x)
ending_stops None = tt
ending_stops (Some x) = λ e. omega (arith, e)

ending_in_line : (x : Option Ending) → IsPrintedIfSome x → All (λ l. All IsInLine l) (ending_lines x)
ending_in_line None h = All-nil (λ (l : List ℕ). All IsInLine l)
ending_in_line (Some x) h =
    All-cons (λ (l : List ℕ). All IsInLine l) (settled_line x) (map (run_line 99) x.cycle) (settled_in_line x h)
    (All-map (run_line 99) IsPrintedRun (λ l. All IsInLine l) (run_in_line 99 (omega arith)) x.cycle h.cycle)

-- ---- the lines of time sets, however they are written

described_is : (d e : Described) → d.kind ≡ e.kind → d.sets ≡ e.sets → d.first ≡ e.first → d.before ≡ e.before → d.ending ≡ e.ending → d ≡ e
described_is d e k s f b n = λ i. record { kind = k i; sets = s i; first = f i; before = b i; ending = n i }

module _ (set_line : List ℕ → List ℕ) (way : IsSetLine set_line) where
  set_begins : (times : List ℕ) → Begins 116 (set_line times)
  set_begins times = let b = way.begins times in ap (λ l. get_or l 0 0) b.1

  sets_begin : (k : Kind) (sets : List (List ℕ)) → All (Begins 116) (set_lines set_line k sets)
  sets_begin Days sets = All-nil (Begins 116)
  sets_begin Moments [] = All-nil (Begins 116)
  sets_begin Moments (times ∷ sets) = All-cons (Begins 116) (set_line times) (map set_line sets) (set_begins times) (sets_begin Moments sets)

  sets_only : (k : Kind) (xs ys : List (List ℕ)) → ArePrintedSets k xs → ArePrintedSets k ys → set_lines set_line k xs ≡ set_lines set_line k ys → xs ≡ ys
  sets_only Days xs ys hx hy e = hx ∙ sym hy
  sets_only Moments xs ys hx hy e = map_only set_line IsSecondsOfDay way.only xs ys hx hy e

  sets_in_line : (k : Kind) (sets : List (List ℕ)) → ArePrintedSets k sets → All (λ l. All IsInLine l) (set_lines set_line k sets)
  sets_in_line Days sets h = All-nil (λ (l : List ℕ). All IsInLine l)
  sets_in_line Moments sets h = All-map set_line IsSecondsOfDay (λ l. All IsInLine l) way.in_line sets h

  -- ---- the lines after the first

  -- the first occupied day, and what follows
  abbrev days_lines : Described → List (List ℕ)
  days_lines d = first_line d.first ∷ (map (run_line 98) d.before ++ ending_lines d.ending)

  kind_only : (k l : Kind) (xs ys : List (List ℕ)) → kind_line k ∷ xs ≡ kind_line l ∷ ys → k ≡ l
  kind_only Days Days xs ys e = refl
  kind_only Moments Moments xs ys e = refl
  kind_only Days Moments xs ys e = absurd (omega (arith, ap (λ l. get_or (get_or l 0 []) 0 0) e))
  kind_only Moments Days xs ys e = absurd (omega (arith, ap (λ l. get_or (get_or l 0 []) 0 0) e))

  days_only : (d e : Described) → IsPrintedSet d → IsPrintedSet e → days_lines d ≡ days_lines e
      → (d.first ≡ e.first) × (d.before ≡ e.before) × (d.ending ≡ e.ending)
  days_only d e hd he same =
      let first = first_line_only d.first e.first hd.first he.first
      (first_same (first_line d.first) (first_line e.first) (map (run_line 98) d.before ++ ending_lines d.ending)
      (map (run_line 98) e.before ++ ending_lines e.ending) same) in
      let rest = rest_same (first_line d.first) (first_line e.first) (map (run_line 98) d.before ++ ending_lines d.ending)
      (map (run_line 98) e.before ++ ending_lines e.ending) same in
      let parts = split_only (Begins 98) (map (run_line 98) d.before) (map (run_line 98) e.before) (ending_lines d.ending) (ending_lines e.ending)
      (runs_begin 98 d.before) (runs_begin 98 e.before) (ending_stops d.ending) (ending_stops e.ending) rest in (
        first,
        map_only (run_line 98) IsPrintedRun (run_only 98) d.before e.before hd.before he.before parts.0,
        endings_only d.ending e.ending hd.ending he.ending parts.1,
      )

  some_only : (d e : Described) → IsPrintedSet d → IsPrintedSet e → lines_of set_line (Some d) ≡ lines_of set_line (Some e) → d ≡ e
  some_only d e hd he same =
      let lines_d = set_lines set_line d.kind d.sets in
      let lines_e = set_lines set_line e.kind e.sets in
      let kind = kind_only d.kind e.kind (lines_d ++ days_lines d) (lines_e ++ days_lines e) same in
      let rest = rest_same (kind_line d.kind) (kind_line e.kind) (lines_d ++ days_lines d) (lines_e ++ days_lines e) same in
      let parts = split_only (Begins 116) lines_d lines_e (days_lines d) (days_lines e) (sets_begin d.kind d.sets) (sets_begin e.kind e.sets)
      (λ b. omega (arith, b)) (λ b. omega (arith, b)) rest in
      let moved : set_lines set_line d.kind d.sets ≡ set_lines set_line d.kind e.sets = parts.0 ∙ ap (λ k. set_lines set_line k e.sets) (sym kind) in
      let sets = sets_only d.kind d.sets e.sets hd.sets (subst (λ k. ArePrintedSets k e.sets) (sym kind) he.sets) moved in
      let days = days_only d e hd he parts.1 in
      described_is d e kind sets days.0 days.1 days.2

  pub said_only : (x y : Option Described) → IsPrinted x → IsPrinted y → lines_of set_line x ≡ lines_of set_line y → x ≡ y
  said_only None None hx hy e = refl
  said_only None (Some d) hx hy e = absurd (none_or_kind d.kind (set_lines set_line d.kind d.sets ++ days_lines d) e)
    where
      none_or_kind : (k : Kind) (xs : List (List ℕ)) → codes "none" ∷ [] ≡ kind_line k ∷ xs → ⊥
      none_or_kind Days xs e = omega (arith, ap (λ l. get_or (get_or l 0 []) 0 0) e)
      none_or_kind Moments xs e = omega (arith, ap (λ l. get_or (get_or l 0 []) 0 0) e)
  said_only (Some d) None hx hy e = absurd (none_or_kind d.kind (set_lines set_line d.kind d.sets ++ days_lines d) (sym e))
    where
      none_or_kind : (k : Kind) (xs : List (List ℕ)) → codes "none" ∷ [] ≡ kind_line k ∷ xs → ⊥
      none_or_kind Days xs e = omega (arith, ap (λ l. get_or (get_or l 0 []) 0 0) e)
      none_or_kind Moments xs e = omega (arith, ap (λ l. get_or (get_or l 0 []) 0 0) e)
  said_only (Some d) (Some e) hx hy same = ap Some (some_only d e hx hy same)

  word_in_line : All IsInLine (codes "none")
  word_in_line = All-from_recursion IsInLine (codes "none") (omega arith, (omega arith, (omega arith, (omega arith, tt))))

  kind_in_line : (k : Kind) → All IsInLine (kind_line k)
  kind_in_line Days = All-from_recursion IsInLine (codes "days") (omega arith, (omega arith, (omega arith, (omega arith, tt))))
  kind_in_line Moments =
      All-from_recursion IsInLine (codes "moments") (omega arith, (omega arith, (omega arith, (omega arith, (omega arith, (omega arith, (omega arith, tt)))))))

  lines_in_line : (x : Option Described) → IsPrinted x → All (λ l. All IsInLine l) (lines_of set_line x)
  lines_in_line None h = All-cons (λ (l : List ℕ). All IsInLine l) (codes "none") [] word_in_line (All-nil (λ (l : List ℕ). All IsInLine l))
  lines_in_line (Some d) h =
      let Q : List ℕ → Type 0 = λ l. All IsInLine l in
      All-cons Q (kind_line d.kind) (set_lines set_line d.kind d.sets ++ days_lines d) (kind_in_line d.kind)
      (All-append Q (set_lines set_line d.kind d.sets) (days_lines d) (sets_in_line d.kind d.sets h.sets)
      (All-cons Q (first_line d.first) (map (run_line 98) d.before ++ ending_lines d.ending) (first_in_line d.first h.first)
      (All-append Q (map (run_line 98) d.before) (ending_lines d.ending)
      (All-map (run_line 98) IsPrintedRun Q (run_in_line 98 (omega arith)) d.before h.before) (ending_in_line d.ending h.ending))))

  -- equal texts of one version say the same
  pub text_only : (title : List ℕ) (x y : Option Described) → All IsInLine title → IsPrinted x → IsPrinted y
      → text_of title set_line x ≡ text_of title set_line y → x ≡ y
  unfolding text_of
  text_only title x y ht hx hy e =
      let Q : List ℕ → Type 0 = λ l. All IsInLine l in
      let lines = lines_only (title ∷ lines_of set_line x) (title ∷ lines_of set_line y) (All-cons Q title (lines_of set_line x) ht (lines_in_line x hx))
      (All-cons Q title (lines_of set_line y) ht (lines_in_line y hy)) e in
      said_only x y hx hy (rest_same title title (lines_of set_line x) (lines_of set_line y) lines)

-- ---- version 1

below_in_line : (xs : List ℕ) → All (λ s. s < 86_400) xs → All IsPrintedNumber xs
below_in_line [] h = All-nil IsPrintedNumber
below_in_line (x ∷ xs) h =
    All-cons IsPrintedNumber x xs (let l = All-head (λ s. s < 86_400) x xs h in omega arith) (below_in_line xs (All-tail (λ s. s < 86_400) x xs h))

pub IsSetLine-seconds : IsSetLine seconds_line
IsSetLine-seconds = record {
  begins = λ times. (fields times, refl);
  in_line = λ times h. All-cons IsInLine 116 (fields times) (omega arith) (fields_in_line times (below_in_line times h.below_a_day));
  only = λ xs ys hx hy e. fields_only xs ys (below_in_line xs hx.below_a_day) (below_in_line ys hy.below_a_day) (rest_same 116 116 (fields xs) (fields ys) e);
}
