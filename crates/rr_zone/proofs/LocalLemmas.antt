-- The parts of a text one after another.
use Rattle.std.proofs.Common.{◌≡◌, ℕ, ◌+◌, ◌<◌, Bool, true, false, ◌||◌, List, ◌++◌, append_assoc, length, drop, get_or, map, refl, sym, ap, ◌∙◌}
use Rattle.std.proofs.Common.{Result, Ok, Err, OnOk}
use Rattle.std.specs.Prelude.{IfOk}
use Rattle.std.proofs.lemmas.List.{at_drop_more}
use Rattle.rr_events.specs.RawLines.{RawLine, bytes_of}
use Rattle.rr_events.specs.declared.find.Piece.{Piece}
use Rattle.rr_zone.specs.Events.{turning_start}
use Rattle.rr_zone.specs.Local.{has_zone, is_turned, is_turned_part, local_content, local_event, local_part, local_parts}
use Rattle.rr_zone.specs.Parts.{part_in}
use Rattle.rr_zone.specs.Zones.{raw_lines_in}
use Rattle.rr_zone.specs.declared.event.EventFacts.{EventFacts}
use Rattle.rr_zone.specs.declared.event.Start.{Start}
use Rattle.rr_zone.specs.declared.part.Content.TheVariants.{Event}
use Rattle.rr_zone.specs.declared.part.Part.{Part}
use Rattle.rr_zone.proofs.RewrittenLemmas.{all-bytes}

-- a piece is written as it stands
pub piece_put : (piece : Piece) (old new : List ℕ) → new ≡ old ++ piece.text.now → new ≡ old ++ bytes_of (raw_lines_in piece)
piece_put piece old new h = h ∙ ap (λ (t : List ℕ). old ++ t) (sym (all-bytes piece.first piece.text.now))

module _ (zones : List (List RawLine)) (events : List EventFacts) where
  -- an event by the start in whose zone it is written
  pub put_by_start : {A E : Type 0} (r : Result A E) (event : EventFacts) (raws : List RawLine) (old new : List ℕ) (start : Start)
      → start ≡ turning_start events event → OnOk r (new ≡ old ++ local_event zones start event.is_instance raws)
      → OnOk r (new ≡ old ++ local_content zones events (Event event) raws)
  put_by_start r event raws old new start e h = rw e at h

  pub told_by_start : {E : Type 0} (r : Result Bool E) (event : EventFacts) (start : Start) → start ≡ turning_start events event
      → IfOk r (λ turned. turned ≡ is_turned zones start) → IfOk r (λ turned. turned ≡ is_turned_part zones events (Event event))
  told_by_start r event start e h = rw e at h

  -- ---- from a part on

  abbrev pub parts_from : List Part → ℕ → List ℕ
  parts_from parts i = local_parts zones events (map part_in (drop i parts))

  abbrev pub zone_from : List Part → ℕ → Bool
  zone_from parts i = has_zone zones events (map part_in (drop i parts))

  pub part_written : (parts : List Part) (i : ℕ) (part : Part) (old new all : List ℕ) → i < length parts → part ≡ get_or parts i part
      → new ≡ old ++ local_part zones events (part_in part) → old ++ parts_from parts i ≡ all → new ++ parts_from parts (i + 1) ≡ all
  part_written parts i part old new all h e put so_far =
      let here : parts_from parts i ≡ local_part zones events (part_in part) ++ parts_from parts (i + 1) =
      at_drop_more (λ (ps : List Part). local_parts zones events (map part_in ps)) parts i part h
      ∙ ap (λ (p : Part). local_part zones events (part_in p) ++ parts_from parts (i + 1)) (sym e) in
      ap (λ (t : List ℕ). t ++ parts_from parts (i + 1)) put ∙ append_assoc old (local_part zones events (part_in part)) (parts_from parts (i + 1))
      ∙ ap (λ (t : List ℕ). old ++ t) (sym here) ∙ so_far

  or_more : (a b c : Bool) → ((a || b) || c) ≡ (a || (b || c))
  or_more true b c = refl
  or_more false b c = refl

  pub part_turned : (parts : List Part) (i : ℕ) (part : Part) (old turned new all : Bool) → i < length parts → part ≡ get_or parts i part
      → turned ≡ is_turned_part zones events part.content → new ≡ (old || turned) → (old || zone_from parts i) ≡ all → (new || zone_from parts (i + 1)) ≡ all
  part_turned parts i part old turned new all h e is put so_far =
      let here : zone_from parts i ≡ (is_turned_part zones events part.content || zone_from parts (i + 1)) =
      at_drop_more (λ (ps : List Part). has_zone zones events (map part_in ps)) parts i part h
      ∙ ap (λ (p : Part). is_turned_part zones events p.content || zone_from parts (i + 1)) (sym e) in
      ap (λ (b : Bool). b || zone_from parts (i + 1)) put ∙ or_more old turned (zone_from parts (i + 1))
      ∙ ap (λ (b : Bool). old || (b || zone_from parts (i + 1))) is ∙ ap (λ (b : Bool). old || b) (sym here) ∙ so_far
