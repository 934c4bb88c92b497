-- What stays in local time.
use Rattle.std.proofs.Common.{◌≡◌, ◌==◌, ℕ, suc, ℤ, Bool, true, false, ◌&&◌, if◌then◌else◌, List, [], ◌∷◌, ◌++◌, get_or, map, All}
use Rattle.std.proofs.Common.{Option, None, Some, Ok, Err, refl, ap, ◌∙◌, codes, arith}
use Rattle.std.specs.List.{join_with_byte}
use Rattle.std.specs.Str.{str_eq_ignore_ascii_case}
use Rattle.std.proofs.lemmas.List.Splits.{join_with_byte-slice_split}
use Rattle.std.proofs.lemmas.Slice.Eq.{bytes_eq-Decides}
use Rattle.rr_model.specs.Moment.{is_same_kind}
use Rattle.rr_model.specs.Text.Lines.{without_mark}
use Rattle.rr_model.specs.Text.Moments.{basic}
use Rattle.rr_model.specs.Text.RuleValues.{pieces}
use Rattle.rr_model.specs.Text.Rules.{split_once}
use Rattle.rr_model.specs.Text.UsedLines.{trim}
use Rattle.rr_model.specs.declared.kind.Kind.TheVariants.{Moments}
use Rattle.rr_model.specs.declared.stamp.Stamp.{Stamp}
use Rattle.rr_events.specs.Finding.{before}
use Rattle.rr_events.specs.Segments.{Section, Sections, sections_of}
use Rattle.rr_ical.specs.declared.open_names.Sought.TheVariants.{EventsAndZones}
use Rattle.rr_zone.specs.Lines.{dates_front, dates_line, turned_line}
use Rattle.rr_zone.specs.Local.{has_zone, local_of_sections, local_parts, local_text, mentions_zone}
use Rattle.rr_zone.specs.OtherZones.{or_itself}
use Rattle.rr_zone.specs.Parts.{PartLines, events_in, part_of, zones_in}
use Rattle.rr_zone.specs.TextLaws.{HasNoUtc, HasNoZone, IsNotUtc, OtherDatesStay, OtherRulesStay, TextStays}
use Rattle.rr_zone.specs.Values.{in_years, local_dates, local_moment, local_part, local_part_by, with_date, written, written_by}
use Rattle.rr_zone.specs.declared.clock.LocalTime.{LocalTime}
use Rattle.rr_zone.specs.declared.value.Role.{Role}
use Rattle.rr_zone.specs.declared.value.Role.TheVariants.{End}
use Rattle.rr_zone.specs.declared.value.Written.{Written}
use Rattle.rr_zone.specs.declared.value.Written.TheVariants.{Kept}
use Rattle.rr_zone.proofs.SplitLemmas.{split_some, whole_again}

-- ---- values

either : (b : Bool) (x : Written) → (if b && false then x else Kept) ≡ Kept
either true x = refl
either false x = refl

kept : (local : ℤ → LocalTime) (role : Role) (stated : Option Stamp) → IsNotUtc stated → written_by local role stated ≡ Kept
kept local role None p = refl
kept local role (Some stamp) p = rw p (either (is_same_kind stamp.kind Moments) (in_years (written role (local stamp.at))))

all_kept : (local : ℤ → LocalTime) (role : Role) (texts : List (List ℕ)) → All (λ piece. IsNotUtc (basic (trim piece))) texts → local_dates local role texts ≡ texts
all_kept local role [] all = refl
all_kept local role (text ∷ texts) all =
    ap (λ (w : Written). with_date text w (local_dates local role texts)) (kept local role (basic (trim text)) (all 0 text (omega arith)))
    ∙ ap (λ (ts : List (List ℕ)). text ∷ ts) (all_kept local role texts (λ k d l. all (suc k) d (omega (arith, l))))

line_of : (front value : List ℕ) (texts : List (List ℕ)) (first : List ℕ) (more : List (List ℕ)) → texts ≡ first ∷ more
    → dates_line front value texts ≡ turned_line (dates_front front) front value (join_with_byte 44 texts)
line_of front value texts first more e = rw e refl

same_line : (turned front value : List ℕ) → turned_line turned front value value ≡ front ++ value
same_line turned front value = ap (λ (b : Bool). (if b then front else turned) ++ value) ((bytes_eq-Decides value value).1 refl)

pub other_dates_stay : OtherDatesStay
other_dates_stay local role front text all =
    let some = split_some (λ c. c == 44) text in
    ap (dates_line front text) (all_kept local role (pieces 44 text) all) ∙ line_of front text (pieces 44 text) some.first some.more some.is
    ∙ ap (turned_line (dates_front front) front text) (join_with_byte-slice_split 44 text) ∙ same_line (dates_front front) front text

-- ---- rules

same_map : (f : List ℕ → List ℕ) (xs : List (List ℕ)) → All (λ x. f x ≡ x) xs → map f xs ≡ xs
same_map f [] all = refl
same_map f (x ∷ xs) all =
    ap (λ (y : List ℕ). y ∷ map f xs) (all 0 x (omega arith)) ∙ ap (λ (ys : List (List ℕ)). x ∷ ys) (same_map f xs (λ k d l. all (suc k) d (omega (arith, l))))

joined : (b : ℕ) (f : List ℕ → List ℕ) (text : List ℕ) → All (λ x. f x ≡ x) (pieces b text) → join_with_byte b (map f (pieces b text)) ≡ text
joined b f text all = ap (join_with_byte b) (same_map f (pieces b text) all) ∙ join_with_byte-slice_split b text

moment_stays : (local : ℤ → LocalTime) (value : List ℕ) → IsNotUtc (basic (trim value)) → local_moment local End value ≡ value
moment_stays local value p = rw (kept local End (basic (trim value)) p) refl

part_stays : (local : ℤ → LocalTime) (text : List ℕ) (sides : Option (List ℕ × List ℕ)) → split_once 61 text ≡ sides → HasNoUtc sides → local_part_by local text sides ≡ text
part_stays local text None e p = refl
part_stays local text (Some (name, value)) e p = by (str_eq_ignore_ascii_case (trim name) (codes "UNTIL"))
  where
    by : (b : Bool) → (if b then (name ++ codes "=") ++ local_moment local End value else text) ≡ text
    by true = ap (λ (x : List ℕ). (name ++ codes "=") ++ x) (moment_stays local value p) ∙ whole_again 61 text name value e
    by false = refl

pub other_rules_stay : OtherRulesStay
other_rules_stay local text all =
    joined 59 (local_part local) text
    (λ k d l. part_stays local (get_or (pieces 59 text) k d) (split_once 61 (get_or (pieces 59 text) k d)) refl (all k d l))

-- ---- a whole text

stays_by : (bytes mark : List ℕ) (parts : List PartLines) → has_zone (zones_in parts) (events_in parts) parts ≡ false
    → or_itself bytes (if has_zone (zones_in parts) (events_in parts) parts then Some (mark ++ local_parts (zones_in parts) (events_in parts) parts) else None) ≡ bytes
stays_by bytes mark parts none = rw none refl

sections_stay : (bytes mark : List ℕ) (sections : Sections) → ((found : List Section) → sections ≡ Ok found → HasNoZone found) → or_itself bytes (local_of_sections mark sections) ≡ bytes
sections_stay bytes mark (Err refusal) none = refl
sections_stay bytes mark (Ok found) none = stays_by bytes mark (map part_of found) (none found refl)

pub text_stays : TextStays
unfolding local_text
text_stays bytes none = by (mentions_zone (without_mark bytes))
  where
    by : (b : Bool) → or_itself bytes (if b then local_of_sections (before bytes (without_mark bytes)) (sections_of EventsAndZones 1 (without_mark bytes)) else None) ≡ bytes
    by false = refl
    by true = sections_stay bytes (before bytes (without_mark bytes)) (sections_of EventsAndZones 1 (without_mark bytes)) none
