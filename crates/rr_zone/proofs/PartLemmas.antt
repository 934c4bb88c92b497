-- The steps of walks over the parts of a zone, and over the zones of a text.
use Rattle.std.proofs.Common.{◌≡◌, ℕ, zero, suc, ◌+◌, ◌-◌, ◌<◌, ◌≤◌, Bool, true, false, List, [], ◌∷◌, ◌++◌, append_assoc, append-nil, length, drop, get_or, map, take, refl, sym, ap, ◌∙◌, arith}
use Rattle.std.specs.Prelude.{Result, Ok, Err, if◌then◌else◌, ⊤}
use Rattle.std.specs.List.{filter, list_all}
use Rattle.std.proofs.lemmas.List.{at_drop_more, take_all}
use Rattle.rr_model.specs.Rule.Validity.{is_absent}
use Rattle.rr_model.specs.Text.Lines.{physical_lines}
use Rattle.rr_model.specs.Text.RuleValues.{◌>>=◌}
use Rattle.rr_model.specs.declared.refusal.Refusal.{Refusal}
use Rattle.rr_model.specs.declared.refusal.Refusal.TheVariants.{BadLine}
use Rattle.rr_ical.specs.Components.{open_after}
use Rattle.rr_events.specs.RawLines.{RawLine, lines_of}
use Rattle.rr_events.specs.Segments.{Section, Sections, cut_by, section_in, sections_from, sections_of, with_section}
use Rattle.rr_ical.specs.Sought.{is_within}
use Rattle.rr_events.specs.declared.find.Piece.{Piece}
use Rattle.rr_ical.specs.declared.open_names.Sought.{Sought}
use Rattle.rr_ical.specs.declared.open_names.Sought.TheVariants.{Observances}
use Rattle.rr_events.specs.declared.segment.Segment.{Segment}
use Rattle.rr_zone.specs.Zones.{ReadZone, are_same, first_number, observance_on, observances_of, raw_lines_in, some_observance, with_observance, zone_by, zone_of, zone_of_all}
use Rattle.rr_zone.specs.declared.observance.Observance.{Observance}
use Rattle.rr_zone.specs.declared.zone.ZoneFault.{ZoneFault}
use Rattle.rr_zone.specs.declared.zone.ZoneFault.TheVariants.{Differs}

-- nothing is left behind the last element
pub drop_past : {X : Type 0} (xs : List X) (i : ℕ) → length xs ≤ i → drop i xs ≡ []
drop_past [] zero l = refl
drop_past [] (suc i) l = refl
drop_past (x ∷ xs) zero l = absurd (omega arith)
drop_past (x ∷ xs) (suc i) l = drop_past xs i (omega arith)

-- an element that is read stands in front of the rest
pub at_read_more : {X Y : Type 0} (F : List X → Y) (xs : List X) (i : ℕ) (x : X) → i < length xs → x ≡ get_or xs i x
    → F (drop i xs) ≡ F (x ∷ drop (i + 1) xs)
at_read_more F xs i x h e = at_drop_more F xs i x h ∙ ap (λ y. F (y ∷ drop (i + 1) xs)) (sym e)

-- ---- the number of the last line stands in refusals alone

-- both are the same sections, or refusals
abbrev AreAlike : Sections → Sections → Type 0
AreAlike (Ok x) (Ok y) = x ≡ y
AreAlike (Ok x) (Err q) = ⊥
AreAlike (Err p) (Ok y) = ⊥
AreAlike (Err p) (Err q) = ⊤

with_section-alike : (is_component : Bool) (lines : List RawLine) (x y : Sections) → AreAlike x y
    → AreAlike (with_section is_component lines x) (with_section is_component lines y)
with_section-alike is_component lines (Ok x) (Ok y) p =
    let section : Section = record { is_component = is_component; lines = lines } in
    ap (λ (z : List Section). section ∷ z) p
with_section-alike is_component lines (Ok x) (Err q) p = absurd p
with_section-alike is_component lines (Err r) (Ok y) p = absurd p
with_section-alike is_component lines (Err r) (Err q) p = tt

cut_by-alike : (was is : Bool) (so_far : List RawLine) (line : RawLine) (f g : List RawLine → Sections) → ((begun : List RawLine) → AreAlike (f begun) (g begun))
    → AreAlike (cut_by was is so_far line f) (cut_by was is so_far line g)
cut_by-alike false false so_far line f g p = p (so_far ++ line ∷ [])
cut_by-alike false true so_far line f g p = with_section-alike false so_far (f (line ∷ [])) (g (line ∷ [])) (p (line ∷ []))
cut_by-alike true false so_far line f g p = with_section-alike true (so_far ++ line ∷ []) (f []) (g []) (p [])
cut_by-alike true true so_far line f g p = p (so_far ++ line ∷ [])

then-alike : (r : Result (List (List ℕ)) Refusal) (f g : List (List ℕ) → Sections) → ((after : List (List ℕ)) → AreAlike (f after) (g after))
    → AreAlike (r >>= f) (r >>= g)
then-alike (Ok after) f g p = p after
then-alike (Err refusal) f g p = tt

end-alike : (is_closed : Bool) (a b : ℕ) (so_far : List RawLine)
    → AreAlike (if is_closed then with_section false so_far (Ok []) else Err (BadLine a)) (if is_closed then with_section false so_far (Ok []) else Err (BadLine b))
end-alike true a b so_far = refl
end-alike false a b so_far = tt

alike : (sought : Sought) (a b : ℕ) (names : List (List ℕ)) (so_far lines : List RawLine)
    → AreAlike (sections_from sought a names so_far lines) (sections_from sought b names so_far lines)
alike sought a b names so_far [] = end-alike (is_absent names) a b so_far
alike sought a b names so_far (line ∷ lines) =
    then-alike (open_after names line.line) _ _
    (λ after. cut_by-alike (is_within sought names) (is_within sought after) so_far line _ _ (λ begun. alike sought a b after begun lines))

zone_by-alike : (number : ℕ) (x y : Sections) → AreAlike x y → zone_by number x ≡ zone_by number y
zone_by-alike number (Ok x) (Ok y) p = ap (λ z. some_observance number (observances_of z)) p
zone_by-alike number (Ok x) (Err q) p = absurd p
zone_by-alike number (Err r) (Ok y) p = absurd p
zone_by-alike number (Err r) (Err q) p = refl

-- the zone of a piece by its sections
pub zone_by_sections : (piece : Piece) (found : Sections) → sections_of Observances piece.first piece.text.now ≡ found
    → zone_by (first_number (lines_of (raw_lines_in piece))) found ≡ zone_of (raw_lines_in piece)
zone_by_sections piece found e =
    let number = first_number (lines_of (raw_lines_in piece)) in
    ap (zone_by number) (sym e)
    ∙ zone_by-alike number _ _ (alike Observances ((piece.first + length (physical_lines piece.text.now)) - 1) 0 [] [] (raw_lines_in piece))

-- ---- the observances of a zone, one by one

-- what is read, behind the observances so far
abbrev pub onto : List Observance → ReadZone → ReadZone
onto zone (Ok more) = Ok (zone ++ more)
onto zone (Err fault) = Err fault

pub onto_none : (read : ReadZone) → onto [] read ≡ read
onto_none (Ok more) = refl
onto_none (Err fault) = refl

onto_more : (zone : List Observance) (o : Observance) (read : ReadZone) → onto zone (with_observance (Ok o) read) ≡ onto (zone ++ o ∷ []) read
onto_more zone o (Ok more) = ap Ok (sym (append_assoc zone (o ∷ []) more))
onto_more zone o (Err fault) = refl

-- what the parts from an index on add to the observances so far
abbrev pub read_from : List Observance → List Segment → ReadZone
read_from zone parts = onto zone (observances_of (map section_in parts))

module _ (zone : List Observance) (parts : List Segment) (i : ℕ) (d : Segment) (all : ReadZone) (within : i < length parts)
    (so_far : read_from zone (drop i parts) ≡ all) where
  abbrev part : Segment
  part = get_or parts i d

  here : read_from zone (part ∷ drop (i + 1) parts) ≡ all
  here = sym (at_drop_more (read_from zone) parts i d within) ∙ so_far

  pub part_read : (o : Observance) (new : List Observance) → part.is_component ≡ true → Ok o ≡ observance_on (lines_of (raw_lines_in part.piece))
      → new ≡ zone ++ o ∷ [] → read_from new (drop (i + 1) parts) ≡ all
  part_read o new c e n =
      rw n (sym (onto_more zone o (observances_of (map section_in (drop (i + 1) parts)))) ∙ (rw (c, ← e) at here))

  pub part_passed : part.is_component ≡ false → read_from zone (drop (i + 1) parts) ≡ all
  part_passed c = rw c at here

  pub part_fault : (fault : ZoneFault) → part.is_component ≡ true → Err fault ≡ observance_on (lines_of (raw_lines_in part.piece)) → Err fault ≡ all
  part_fault fault c e = rw (c, ← e) at here

pub all_read : (zone : List Observance) (parts : List Segment) (i : ℕ) (all : ReadZone) → length parts ≤ i → read_from zone (drop i parts) ≡ all → Ok zone ≡ all
all_read zone parts i all past so_far =
    ap Ok (sym (append-nil zone)) ∙ ap (read_from zone) (sym (drop_past parts i past)) ∙ so_far

-- ---- the pieces that pass a test

module _ (p : List RawLine → Bool) where
  -- what is found, and then what passes of the rest
  abbrev pub found_from : List Piece → List Piece → List (List RawLine)
  found_from found rest = map raw_lines_in found ++ filter p (map raw_lines_in rest)

  module _ (found zones : List Piece) (i : ℕ) (d : Piece) (all : List (List RawLine)) (within : i < length zones)
      (so_far : found_from found (drop i zones) ≡ all) where
    abbrev zone : Piece
    zone = get_or zones i d

    next : found_from found (zone ∷ drop (i + 1) zones) ≡ all
    next = sym (at_drop_more (found_from found) zones i d within) ∙ so_far

    pub zone_found : (new : List Piece) → p (raw_lines_in zone) ≡ true → new ≡ found ++ zone ∷ [] → found_from new (drop (i + 1) zones) ≡ all
    zone_found new e n =
        rw n (joined found ∙ (rw e at next))
      where
        joined : (xs : List Piece) → found_from (xs ++ zone ∷ []) (drop (i + 1) zones)
            ≡ map raw_lines_in xs ++ raw_lines_in zone ∷ filter p (map raw_lines_in (drop (i + 1) zones))
        joined [] = refl
        joined (x ∷ xs) = ap (λ ys. raw_lines_in x ∷ ys) (joined xs)

    pub zone_passed : p (raw_lines_in zone) ≡ false → found_from found (drop (i + 1) zones) ≡ all
    zone_passed e = rw e at next

  pub all_found : (found zones : List Piece) (i : ℕ) (all : List (List RawLine)) → length zones ≤ i → found_from found (drop i zones) ≡ all
      → map raw_lines_in found ≡ all
  all_found found zones i all past so_far =
      sym (append-nil (map raw_lines_in found)) ∙ ap (found_from found) (sym (drop_past zones i past)) ∙ so_far

  -- ---- or all pass it

  abbrev pub all_from : List Piece → Bool
  all_from rest = list_all p (map raw_lines_in rest)

  module _ (zones : List Piece) (i : ℕ) (d : Piece) (all : Bool) (within : i < length zones) (so_far : all_from (drop i zones) ≡ all) where
    rest : all_from (get_or zones i d ∷ drop (i + 1) zones) ≡ all
    rest = sym (at_drop_more all_from zones i d within) ∙ so_far

    pub zone_same : p (raw_lines_in (get_or zones i d)) ≡ true → all_from (drop (i + 1) zones) ≡ all
    zone_same e = rw e at rest

-- ---- the first of some pieces

-- what follows the first element
pub all_but_first : {X : Type 0} (xs : List X) → take (length xs - 1) (drop 1 xs) ≡ drop 1 xs
all_but_first [] = refl
all_but_first (x ∷ xs) = take_all (length (x ∷ xs) - 1) xs (omega arith)

pub all_same : (named : List Piece) (d : Piece) (found : List (List RawLine)) → 1 ≤ length named → map raw_lines_in named ≡ found
    → are_same (lines_of (raw_lines_in (get_or named 0 d))) (map raw_lines_in (drop 1 named)) ≡ true → zone_of (raw_lines_in (get_or named 0 d)) ≡ zone_of_all found
all_same [] d found l e same = absurd (omega arith)
all_same (first ∷ others) d found l e same = rw (← e, same) refl

pub some_differ : (named : List Piece) (d : Piece) (found : List (List RawLine)) → 1 ≤ length named → map raw_lines_in named ≡ found
    → are_same (lines_of (raw_lines_in (get_or named 0 d))) (map raw_lines_in (drop 1 named)) ≡ false → Err Differs ≡ zone_of_all found
some_differ [] d found l e same = absurd (omega arith)
some_differ (first ∷ others) d found l e same = rw (← e, same) refl
