-- Printed texts tell dates and moments apart.
use Rattle.std.proofs.Common.{◌≡◌, ℕ, zero, suc, ◌-◌, ◌^◌, ◌<◌, ◌/◌, ◌%◌, ℤ, nat_abs, List, [], ◌∷◌, ◌++◌, length, take, drop, replicate, length-append}
use Rattle.std.proofs.Common.{append_assoc, refl, sym, ap, ◌∙◌, arith}
use Rattle.std.specs.Fmt.{decimal}
use Rattle.std.proofs.lemmas.Fmt.{decimal_is_IsNumeral, length-decimal-le}
use Rattle.std.proofs.lemmas.Int.{ints}
use Rattle.std.proofs.lemmas.List.{append_cancel_left, length-replicate}
use Rattle.std.proofs.Math.Seq.{take-append_seam}
use Rattle.rr_model.specs.Calendar.{IsDayWithin, year_of, month_of, day_of_month}
use Rattle.rr_model.specs.Text.Digits.{digits_value}
use Rattle.rr_model.specs.Moment.{day_part, second_part}
use Rattle.rr_model.specs.Moment.Years.{IsFromYearOne}
use Rattle.rr_model.specs.Text.Moments.{decimal_of, extended_date_text, extended_time_text, extended_text}
use Rattle.rr_model.specs.declared.kind.Kind.{Kind}
use Rattle.rr_model.specs.declared.kind.Kind.TheVariants.{Days, Moments}
use Rattle.rr_model.proofs.CalendarLemmas.{first_day_of_year_bounds, days_in_month_bounds, IsInYear-year_of, IsDate-year_of, day_number-year_of}
use Rattle.rr_text.proofs.MomentTextLemmas.{year_of-low}
use Rattle.rr_model.proofs.WholeLemmas.{floor_whole, floor_mod_below}

-- two texts whose ends are equally long have equal fronts and equal ends
parted : (a b s t : List ℕ) → length s ≡ length t → a ++ s ≡ b ++ t → (a ≡ b) × (s ≡ t)
parted a b s t same e =
    let long : length a ≡ length b = omega (arith, ap length e, length-append a s, length-append b t, same) in
    let front : a ≡ b = sym (take-append_seam a s) ∙ ap (take (length a)) e ∙ ap (λ n. take n (b ++ t)) long ∙ take-append_seam b t in
    (front, append_cancel_left b s t (ap (λ l. l ++ s) (sym front) ∙ e))

-- zeros in front change no number
digits_value-zeros : (n : ℕ) (ds : List ℕ) → digits_value (replicate n 48 ++ ds) ≡ digits_value ds
digits_value-zeros zero ds = refl
digits_value-zeros (suc n) ds = digits_value-zeros n ds

pub digits_value-padded : (width n : ℕ) → n < 2 ^ 64 → digits_value (decimal_of width n) ≡ n
digits_value-padded width n h = digits_value-zeros (width - length (decimal n)) (decimal n) ∙ (decimal_is_IsNumeral n h).1

padded_injective : (width m n : ℕ) → m < 2 ^ 64 → n < 2 ^ 64 → decimal_of width m ≡ decimal_of width n → m ≡ n
padded_injective width m n hm hn e = sym (digits_value-padded width m hm) ∙ ap digits_value e ∙ digits_value-padded width n hn

pub length-padded : (n : ℕ) → n < 100 → length (decimal_of 2 n) ≡ 2
length-padded n h =
    let digits = length-decimal-le 2 n (omega arith) (omega arith) (omega arith) in
    omega (arith, length-append (replicate (2 - length (decimal n)) 48) (decimal n), length-replicate {A = ℕ} (2 - length (decimal n)) 48, digits)

-- two parts of two digits after separators
unfoldable ends : ℕ → ℕ → ℕ → List ℕ
ends b y z = (b ∷ decimal_of 2 y) ++ (b ∷ decimal_of 2 z)

-- three parts with a separator between them
front_and_ends : (b y z : ℕ) (front : List ℕ) → front ++ (b ∷ []) ++ decimal_of 2 y ++ (b ∷ []) ++ decimal_of 2 z ≡ front ++ ends b y z
unfolding ends
front_and_ends b y z front = simp append_assoc refl

length-ends : (b y z : ℕ) → y < 100 → z < 100 → length (ends b y z) ≡ 6
unfolding ends
length-ends b y z hy hz = omega (arith, length-append (b ∷ decimal_of 2 y) (b ∷ decimal_of 2 z), length-padded y hy, length-padded z hz)

ends_injective : (b y z m k : ℕ) → y < 100 → z < 100 → m < 100 → k < 100 → ends b y z ≡ ends b m k → (y ≡ m) × (z ≡ k)
unfolding ends
ends_injective b y z m k hy hz hm hk e =
    let p = parted (b ∷ decimal_of 2 y) (b ∷ decimal_of 2 m) (b ∷ decimal_of 2 z) (b ∷ decimal_of 2 k) (omega (arith, length-padded z hz, length-padded k hk)) e in
    (padded_injective 2 y m (omega arith) (omega arith) (ap (drop 1) p.0), padded_injective 2 z k (omega arith) (omega arith) (ap (drop 1) p.1))

three_injective : (w b x y z l m k : ℕ) → x < 2 ^ 64 → l < 2 ^ 64 → y < 100 → z < 100 → m < 100 → k < 100
    → decimal_of w x ++ (b ∷ []) ++ decimal_of 2 y ++ (b ∷ []) ++ decimal_of 2 z ≡ decimal_of w l ++ (b ∷ []) ++ decimal_of 2 m ++ (b ∷ []) ++ decimal_of 2 k
    → (x ≡ l) × (y ≡ m) × (z ≡ k)
three_injective w b x y z l m k hx hl hy hz hm hk e =
    let same = sym (front_and_ends b y z (decimal_of w x)) ∙ e ∙ front_and_ends b m k (decimal_of w l) in
    let p = parted (decimal_of w x) (decimal_of w l) (ends b y z) (ends b m k) (length-ends b y z hy hz ∙ sym (length-ends b m k hm hk)) same in
    let q = ends_injective b y z m k hy hz hm hk p.1 in
    (padded_injective w x l hx hl p.0, q.0, q.1)

-- the numbers of a day's date are small
pub small_year : (d : ℤ) → IsFromYearOne d → IsDayWithin 0 d → nat_abs (year_of d) < 2 ^ 64
small_year d from near =
    let within = IsInYear-year_of d in
    let bounds = first_day_of_year_bounds (year_of d) in
    omega (arith, ints, year_of-low d from, within.begun, bounds.0, near.1)

pub small_month : (d : ℤ) → (month_of d < 100) × (day_of_month d < 100)
small_month d =
    let date = IsDate-year_of d in
    let bounds = days_in_month_bounds (year_of d) (month_of d) in
    (omega (arith, date.1), omega (arith, date.3, bounds.1))

date_text_injective : (d e : ℤ) → IsFromYearOne d → IsDayWithin 0 d → IsFromYearOne e → IsDayWithin 0 e → extended_date_text d ≡ extended_date_text e → d ≡ e
unfolding extended_date_text
date_text_injective d e fd nd fe ne same =
    let sd = small_month d in
    let se = small_month e in
    let parts = three_injective 4 45 (nat_abs (year_of d)) (month_of d) (day_of_month d) (nat_abs (year_of e)) (month_of e) (day_of_month e)
    (small_year d fd nd) (small_year e fe ne) sd.0 sd.1 se.0 se.1 same in
    let year : year_of d ≡ year_of e = omega (arith, ints, parts.0, year_of-low d fd, year_of-low e fe) in
    sym (day_number-year_of d) ∙ rw (year, parts.1, parts.2) (day_number-year_of e)

pub length-extended_time_text : (s : ℕ) → s < 86_400 → length (extended_time_text s) ≡ 8
unfolding extended_time_text
length-extended_time_text s h =
    let hour = length-padded (s / 3_600) (omega arith) in
    let rest = length-ends 58 (s / 60 % 60) (s % 60) (omega arith) (omega arith) in
    ap length (front_and_ends 58 (s / 60 % 60) (s % 60) (decimal_of 2 (s / 3_600)))
    ∙ omega (arith, length-append (decimal_of 2 (s / 3_600)) (ends 58 (s / 60 % 60) (s % 60)), hour, rest)

time_text_injective : (s r : ℕ) → s < 86_400 → r < 86_400 → extended_time_text s ≡ extended_time_text r → s ≡ r
unfolding extended_time_text
time_text_injective s r hs hr same =
    let parts = three_injective 2 58 (s / 3_600) (s / 60 % 60) (s % 60) (r / 3_600) (r / 60 % 60) (r % 60) (omega arith) (omega arith) (omega arith)
    (omega arith) (omega arith) (omega arith) same in
    omega (arith, parts.0, parts.1, parts.2)

-- A printed text is the text of one date or moment alone.
pub extended_text_injective : (k : Kind) (t u : ℤ) → IsFromYearOne (day_part k t) → IsDayWithin 0 (day_part k t) → IsFromYearOne (day_part k u)
    → IsDayWithin 0 (day_part k u) → extended_text k t ≡ extended_text k u → t ≡ u
unfolding extended_text
extended_text_injective Days t u ft nt fu nu same = date_text_injective t u ft nt fu nu same
extended_text_injective Moments t u ft nt fu nu same =
    let ht = floor_mod_below t 86_400 (omega arith) in
    let hu = floor_mod_below u 86_400 (omega arith) in
    let long = length-extended_time_text (second_part Moments t) ht ∙ sym (length-extended_time_text (second_part Moments u) hu) in
    let p = parted (extended_date_text (day_part Moments t) ++ (84 ∷ [])) (extended_date_text (day_part Moments u) ++ (84 ∷ []))
    (extended_time_text (second_part Moments t)) (extended_time_text (second_part Moments u)) long same in
    let q = parted (extended_date_text (day_part Moments t)) (extended_date_text (day_part Moments u)) (84 ∷ []) (84 ∷ []) refl p.0 in
    let day = date_text_injective (day_part Moments t) (day_part Moments u) ft nt fu nu q.0 in
    let second = time_text_injective (second_part Moments t) (second_part Moments u) ht hu p.1 in
    omega (arith, ints, floor_whole t 86_400 (omega arith), floor_whole u 86_400 (omega arith), day, second)
