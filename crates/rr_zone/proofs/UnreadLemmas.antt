-- The zones that can't be read, part by part.
use Rattle.std.proofs.Common.{◌≡◌, ℕ, ◌+◌, ◌<◌, Bool, not, List, [], ◌++◌, append_assoc, length, drop, get_or, map, refl, sym, ap, ◌∙◌}
use Rattle.std.proofs.Common.{Option, None, Some, Result}
use Rattle.std.specs.Prelude.{IfOk, bytes_eq}
use Rattle.std.proofs.lemmas.List.{at_drop_more}
use Rattle.rr_events.specs.RawLines.{RawLine}
use Rattle.rr_events.specs.declared.find.Piece.{Piece}
use Rattle.rr_zone.specs.Clocks.{local_time}
use Rattle.rr_zone.specs.Events.{turning_start}
use Rattle.rr_zone.specs.OtherZones.{event_line}
use Rattle.rr_zone.specs.Parts.{part_in}
use Rattle.rr_zone.specs.Rewritten.{local_lines}
use Rattle.rr_zone.specs.Unread.{needs_zone, unread_at, unread_by, unread_in, unread_of, with_unread}
use Rattle.rr_zone.specs.Zones.{raw_lines_in}
use Rattle.rr_zone.specs.declared.event.EventFacts.{EventFacts}
use Rattle.rr_zone.specs.declared.event.Start.{Start}
use Rattle.rr_zone.specs.declared.part.Part.{Part}
use Rattle.rr_zone.specs.declared.unread.UnreadZone.{UnreadZone}
use Rattle.rr_zone.proofs.RewrittenLemmas.{all-bytes}

-- the lines of an event that is turned by UTC itself
pub needed : (is_instance : Bool) (piece : Piece) (text : List ℕ) → text ≡ local_lines (event_line (local_time []) [] (Some []) is_instance) [] (raw_lines_in piece)
    → not (bytes_eq text piece.text.now) ≡ needs_zone is_instance (raw_lines_in piece)
needed is_instance piece text e =
    ap (λ (t : List ℕ). not (bytes_eq t piece.text.now)) e
    ∙ ap (λ (t : List ℕ). not (bytes_eq (local_lines (event_line (local_time []) [] (Some []) is_instance) [] (raw_lines_in piece)) t)) (sym (all-bytes piece.first piece.text.now))

module _ (zones : List (List RawLine)) (events : List EventFacts) where
  pub told_at : {E : Type 0} (r : Result (Option UnreadZone) E) (event : EventFacts) (start : Start) → start ≡ turning_start events event
      → IfOk r (λ x. x ≡ unread_at zones start) → IfOk r (λ x. x ≡ unread_by zones events event)
  told_at r event start e h = rw e at h

  abbrev pub unread_from : List Part → ℕ → List UnreadZone
  unread_from parts i = unread_in zones events (map part_in (drop i parts))

  put_first : (x : Option UnreadZone) (more : List UnreadZone) → with_unread x [] ++ more ≡ with_unread x more
  put_first None more = refl
  put_first (Some x) more = refl

  pub unread_more : (parts : List Part) (i : ℕ) (part : Part) (x : Option UnreadZone) (old new all : List UnreadZone) → i < length parts → part ≡ get_or parts i part
      → x ≡ unread_of zones events part.content (raw_lines_in part.piece) → new ≡ old ++ with_unread x [] → old ++ unread_from parts i ≡ all
      → new ++ unread_from parts (i + 1) ≡ all
  unread_more parts i part x old new all h e is put so_far =
      let rest = unread_from parts (i + 1) in
      let here : unread_from parts i ≡ with_unread (unread_of zones events part.content (raw_lines_in part.piece)) rest =
      at_drop_more (λ (ps : List Part). unread_in zones events (map part_in ps)) parts i part h
      ∙ ap (λ (p : Part). with_unread (unread_of zones events p.content (raw_lines_in p.piece)) rest) (sym e) in
      ap (λ (t : List UnreadZone). t ++ rest) put ∙ append_assoc old (with_unread x []) rest
      ∙ ap (λ (t : List UnreadZone). old ++ t) (put_first x rest ∙ ap (λ (u : Option UnreadZone). with_unread u rest) is ∙ sym here) ∙ so_far
