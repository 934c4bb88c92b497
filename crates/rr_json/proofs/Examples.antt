-- Worked lines of the definitions.
use Rattle.std.proofs.Common.{◌≡◌, ℕ, [], ◌∷◌, negsuc, true, None, Some, codes, refl}
use Rattle.std.specs.Prelude.{Vec}
use Rattle.std.specs.Fmt.{digits}
use Rattle.std.specs.declared.alloc.Global.{Global}
use Rattle.serde_json.proofs.OnLiterals.{serde_json_on_literals}
use Rattle.serde_json.specs.Data.{no_items}
use Rattle.serde_json.specs.Written.{compact_text}
use Rattle.rr_json.specs.Event.{event_json, key_json}
use Rattle.rr_json.specs.Files.{offset_json}
use Rattle.rr_json.specs.Json.{events_items}
use Rattle.rr_model.specs.declared.verdict.Side.TheVariants.{A}
use Rattle.rr_model.specs.declared.verdict.Verdict.TheVariants.{Yes}
use Rattle.rr_seam.specs.Marks.{no_marks}
use Rattle.rr_seam.specs.declared.key.Key.TheVariants.{Line}
use Rattle.rr_trip.specs.declared.report.ReportLine.{ReportLine}
use Rattle.rr_trip.specs.declared.said.Said.{Said}
use Rattle.rr_trip.specs.declared.said.Said.TheVariants.{Compared, Only}
use Rattle.rr_trip.specs.declared.said.Zones.TheVariants.{Local, Unknown}

-- a key without a name
of_line : compact_text (key_json (Line 12)) ≡ codes "{\"line\":12}"
unfolding serde_json_on_literals digits
of_line = refl

-- a stated offset, and one that is none
behind : compact_text (offset_json (Some (negsuc 12_599))) ≡ codes "\"-03:30\""
unfolding serde_json_on_literals digits
behind = refl

module _ (indexes : Vec ℕ Global) where
  abbrev line_of : Said → ReportLine
  line_of said = record { key = Line 7; partner = None; said = said; marks = no_marks; title = None; in_a = indexes; in_b = indexes }

  -- events that A alone has
  only_a : compact_text (event_json (line_of (Only A))) ≡ codes "{\"key\":{\"line\":7},\"side\":\"A\",\"verdict\":\"only\"}"
  unfolding serde_json_on_literals digits
  only_a = refl

  -- equal local times of which nobody can tell whether they are the same moments
  unsure : compact_text (event_json (line_of (Compared Yes Unknown))) ≡ codes "{\"key\":{\"line\":7},\"unsure\":true,\"verdict\":\"equal\"}"
  unfolding serde_json_on_literals digits
  unsure = refl

  -- equal events are left out, if only differences are asked for
  left_out : events_items true (line_of (Compared Yes Local) ∷ []) ≡ no_items
  left_out = refl
