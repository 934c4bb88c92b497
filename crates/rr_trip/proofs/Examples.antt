-- Worked rows of the definitions.
use Rattle.std.proofs.Common.{◌≡◌, ℕ, ℤ, List, [], ◌∷◌, ◌++◌, take, None, Some, codes, pos, negsuc, true, false, refl, ap, append-nil}
use Rattle.std.specs.Prelude.{Vec, unwrap_or}
use Rattle.std.specs.Fmt.{decimal}
use Rattle.std.specs.declared.alloc.Global.{Global}
use Rattle.rr_model.specs.declared.kind.Kind.TheVariants.{Days, Moments}
use Rattle.rr_model.specs.Text.Lists.{series_of_list}
use Rattle.rr_model.specs.declared.verdict.Side.TheVariants.{A, B}
use Rattle.rr_model.specs.declared.verdict.Verdict.TheVariants.{Yes}
use Rattle.rr_length.specs.Length.{length_of}
use Rattle.rr_seam.specs.Marks.{no_marks}
use Rattle.rr_seam.specs.declared.key.Key.TheVariants.{Line, Number, Uid}
use Rattle.rr_seam.specs.declared.refusal.KeyRefusal.TheVariants.{TwoSeries}
use Rattle.rr_title.specs.Title.{front_length}
use Rattle.rr_trip.specs.Likeness.{keys_by, local_text, text_by, numbers_text, utc_text, with_some_title, with_title}
use Rattle.rr_trip.specs.Printed.{line_text, name_text, said_line, said_text}
use Rattle.rr_trip.specs.Readings.{Reading, reading_of}
use Rattle.rr_trip.specs.Said.{is_empty, said_of_empty}
use Rattle.rr_trip.specs.Zoned.{Meaning}
use Rattle.rr_trip.specs.declared.features.Features.{Features}
use Rattle.rr_trip.specs.declared.features.FirstTimes.{FirstTimes}
use Rattle.rr_trip.specs.declared.features.FirstTimes.TheVariants as times
use Rattle.rr_trip.specs.declared.likeness.Likeness.TheVariants as likeness
use Rattle.rr_trip.specs.declared.report.Partner.{Partner}
use Rattle.rr_trip.specs.declared.said.Said.TheVariants.{Alike, Compared, Floating, Length, Only}
use Rattle.rr_trip.specs.declared.said.Zones.TheVariants.{Local}
use Rattle.rr_true.specs.Occurrences.{utc}

-- a line of a key without a zone in A alone
floats : said_text (codes "a") (Floating A) ≡ codes "differs a floating A"
floats = refl

-- a line of a key that both refuse in the same words
alike : said_text (codes "a") (Alike (TwoSeries 4)) ≡ codes "alike a A TwoSeries " ++ decimal 4
alike = refl

-- a line of a key of which one occurrence has two lengths
longer : said_text (codes "a") (Length (record { at = pos 0; a = length_of 0 3_600; b = length_of 0 900 }))
    ≡ codes "length a " ++ decimal 3_600 ++ codes " " ++ decimal 900
longer = refl

-- a line with its title, here an empty one, as its last field
titled : (in_a in_b : Vec ℕ Global)
    → line_text true (record { key = Uid (codes "a"); partner = None; said = Only B; marks = no_marks; title = Some []; in_a = in_a; in_b = in_b })
    ≡ codes "only B a \"\"\n"
unfolding said_line
titled in_a in_b = refl

-- how events are read, as the last words before it
marked : said_line (Uid (codes "a")) None (Floating A) (record { until = true; start = false; day = true }) None
    ≡ codes "differs a floating A until day\n"
unfolding said_line
marked = refl

-- ---- events that are found again under another key

abbrev b_of_other_title : Partner
b_of_other_title = record { key = Uid (codes "b"); has_other_title = true }

-- what events are called that have another key in B
pair_name : name_text (Line 7) (Some b_of_other_title) ≡ codes "line " ++ decimal 7 ++ codes " = b"
pair_name = refl

-- their line, with the word that says of another title, and the title
pair_line : said_line (Uid (codes "a")) (Some b_of_other_title) (Floating A) no_marks (Some (codes "Tea"))
    ≡ codes "differs a = b floating A title \"Tea\"\n"
unfolding said_line front_length
pair_line = refl

-- numbers with their signs
numbers : numbers_text (pos 5 ∷ negsuc 2 ∷ []) ≡ codes " +" ++ decimal 5 ++ (codes " -" ++ decimal 3)
numbers = ap (λ (ns : List ℕ). codes " +" ++ decimal 5 ++ (codes " -" ++ ns)) (append-nil (decimal 3))

-- events of this title that first occur so
abbrev tea : FirstTimes → Features
tea first = record { title = codes "Tea"; times = first }

abbrev untitled : FirstTimes → Features
untitled first = record { title = []; times = first }

-- refused events are alike by their title, though it is empty, and by nothing else
refused : text_by likeness.Moments (tea times.Unread) ≡ Some (codes "x\nTea")
refused = refl

refused_untitled : text_by likeness.Moments (untitled times.Unread) ≡ Some (codes "x\n")
refused_untitled = refl

refused_times : text_by likeness.Times (tea times.Unread) ≡ None
refused_times = refl

-- two events of a zone, at these local times and moments
module _ (local moments : Vec ℤ Global) (local_is : local.items ≡ pos 60 ∷ pos 120 ∷ []) (moments_are : moments.items ≡ negsuc 59 ∷ pos 0 ∷ []) where
  -- by their title and their moments
  by_moments : text_by likeness.Moments (tea (times.Zoned local moments)) ≡ with_title (codes "Tea") (utc_text (negsuc 59 ∷ pos 0 ∷ []))
  by_moments = ap (λ (us : List ℤ). with_title (codes "Tea") (Some (unwrap_or (utc_text us) (codes "n")))) moments_are

  -- those in which nothing occurs by their title alone
  none_occurs : local.items ≡ [] → text_by likeness.Moments (tea (times.Local Days local)) ≡ Some (codes "n\nTea")
  none_occurs none = ap (λ (ts : List ℤ). with_title (codes "Tea") (Some (unwrap_or (local_text Days ts) (codes "n")))) none

  -- by their title and their local times
  by_times : text_by likeness.Times (tea (times.Zoned local moments)) ≡ with_title (codes "Tea") (local_text Moments (pos 60 ∷ pos 120 ∷ []))
  by_times = ap (λ (ts : List ℤ). with_title (codes "Tea") (local_text Moments ts)) local_is

  -- by their title and the first moment
  by_start : text_by likeness.Start (tea (times.Zoned local moments)) ≡ with_title (codes "Tea") (utc_text (negsuc 59 ∷ []))
  by_start = ap (λ (us : List ℤ). with_some_title (codes "Tea") (utc_text (take 1 us))) moments_are

  -- events without a title are not found again by the first moment
  untitled_start : text_by likeness.Start (untitled (times.Zoned local moments)) ≡ None
  untitled_start = refl

  -- by their moments alone
  by_moments_alone : text_by likeness.OtherTitle (tea (times.Zoned local moments)) ≡ utc_text (negsuc 59 ∷ pos 0 ∷ [])
  by_moments_alone = ap utc_text moments_are

-- the texts of these
moment_text : utc_text (pos 0 ∷ []) ≡ Some (codes "u +" ++ decimal 0)
moment_text = ap (λ (ns : List ℕ). Some (codes "u +" ++ ns)) (append-nil (decimal 0))

date_text : local_text Days (pos 9 ∷ []) ≡ Some (codes "d +" ++ decimal 9)
date_text = ap (λ (ns : List ℕ). Some (codes "d +" ++ ns)) (append-nil (decimal 9))

-- an element has its text as its key; one without features or that is found already has a key of its own, another one in each calendar
keys_of_a : keys_by likeness.Moments A 0 (Some (tea times.Unread) ∷ None ∷ []) (None ∷ None ∷ []) ≡ Uid (codes "x\nTea") ∷ Line 1 ∷ []
keys_of_a = refl

keys_of_b : keys_by likeness.Moments B 0 (Some (tea times.Unread) ∷ []) (Some (record { index = 3; likeness = likeness.Times }) ∷ []) ≡ Number 0 ∷ []
keys_of_b = refl

-- ---- events of one calendar alone

-- what a cancelled event states has no occurrence, and what a single event states has one
cancelled : said_of_empty A (is_empty (series_of_list None [])) ≡ Compared Yes Local
cancelled = refl

single : said_of_empty A (is_empty (series_of_list (Some (record { kind = Days; at = pos 19_000; utc = false })) [])) ≡ Only A
single = refl

-- ---- zones

abbrev nothing : Meaning
nothing name = None

-- a series in UTC beside one without a zone
floating : reading_of nothing nothing Moments Moments (codes "Z" ∷ []) ([] ∷ []) ≡ Reading.floating B
floating = refl

-- dates beside moments
dates : reading_of nothing nothing Days Moments ([] ∷ []) (codes "Z" ∷ []) ≡ Reading.local
dates = refl

-- two names on one side
several : reading_of nothing nothing Moments Moments (codes "Z" ∷ codes "X" ∷ []) (codes "Z" ∷ []) ≡ Reading.unknown
several = refl

-- both in UTC
both : reading_of nothing nothing Moments Moments (codes "Z" ∷ []) (codes "Z" ∷ [])
    ≡ Reading.moments (record { name = codes "Z"; ahead = utc }) (record { name = codes "Z"; ahead = utc })
both = refl
