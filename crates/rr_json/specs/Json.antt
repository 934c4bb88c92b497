-- A report as one JSON object (RFC 8259). The names of members are in rising order of their bytes.
use Rattle.std.specs.Prelude.{ℕ, Bool, not, ◌||◌, if◌then◌else◌, List, [], ◌∷◌, ◌++◌, codes, drop}
use Rattle.serde_json.specs.Data.{Data, Items, array, item, member, no_items, no_members, number, object, put, string, unsigned}
use Rattle.serde_json.specs.Written.{compact_text}
use Rattle.rr_facts.specs.Advice.{file_advice}
use Rattle.rr_facts.specs.Facts.{Facts}
use Rattle.rr_json.specs.Event.{event_json}
use Rattle.rr_json.specs.Files.{facts_members}
use Rattle.rr_model.specs.declared.verdict.Side.{Side}
use Rattle.rr_seam.specs.declared.file.FileRefusal.{FileRefusal}
use Rattle.rr_text.specs.Printed.{side_text}
use Rattle.rr_trip.specs.Counts.{counts_of, status_of}
use Rattle.rr_trip.specs.Printed.{file_refusal_text, is_difference}
use Rattle.rr_trip.specs.declared.report.Counts.{Counts}
use Rattle.rr_trip.specs.declared.report.ReportLine.{ReportLine}
use Rattle.rr_trip.specs.declared.report.Status.{Status}
use Rattle.rr_trip.specs.declared.report.Status.TheVariants.{Equal, Differs, Refused}

-- ---- parts of a report

-- the counts of a report
abbrev pub counts_json : Counts → Data
counts_json counts = object
    (member (codes "alike") (number (unsigned counts.alike))
    (member (codes "differs") (number (unsigned counts.differs))
    (member (codes "equal") (number (unsigned counts.equal))
    (member (codes "events") (number (unsigned counts.events))
    (member (codes "matched") (number (unsigned counts.matched))
    (member (codes "only_a") (number (unsigned counts.only_a))
    (member (codes "only_b") (number (unsigned counts.only_b))
    (member (codes "refused") (number (unsigned counts.refused))
    (member (codes "zone") (number (unsigned counts.zone)) no_members)))))))))

-- the events of a line before others; if equal events are left out, only those that a report prints then
abbrev pub with_event : Bool → ReportLine → Items → Items
with_event only_differences line items = if not only_differences || is_difference line.said then item (event_json line) items else items

-- the events of a report
abbrev pub events_items : Bool → List ReportLine → Items
events_items only_differences [] = no_items
events_items only_differences (line ∷ lines) = with_event only_differences line (events_items only_differences lines)

-- the status that the program ends with
abbrev pub status_number : Status → ℕ
status_number Equal = 0
status_number Differs = 1
status_number Refused = 2

-- ---- the objects

-- a report
abbrev pub report_json : Facts → List ReportLine → Data
report_json facts lines = object
    (member (codes "counts") (counts_json (counts_of lines))
    (member (codes "events") (array (events_items facts.only_differences lines))
    (facts_members facts (status_number (status_of (counts_of lines))))))

-- the refusal of a whole file: what to do about it, its name and number as a report prints them, and the side
abbrev pub refused_json : Side → FileRefusal → Data
refused_json side refusal = object
    (member (codes "advice") (string (file_advice refusal))
    (member (codes "refusal") (string (drop 1 (file_refusal_text refusal)))
    (member (codes "side") (string (side_text side)) no_members)))

-- the report of a comparison of which a whole file is refused
abbrev pub refusal_json : Facts → Side → FileRefusal → Data
refusal_json facts side refusal = object (put (codes "refused") (refused_json side refusal) (facts_members facts (status_number Refused)))

-- ---- the texts

-- a report as JSON, and a line feed
unfoldable pub json_text : Facts → List ReportLine → List ℕ
json_text facts lines = compact_text (report_json facts lines) ++ 10 ∷ []

-- the refusal of a whole file as JSON, and a line feed
unfoldable pub json_refusal_text : Facts → Side → FileRefusal → List ℕ
json_refusal_text facts side refusal = compact_text (refusal_json facts side refusal) ++ 10 ∷ []
