-- Whatever is said of whatever files, the text of a report is JSON: it is UTF-8, and is read back as the report.
use Rattle.std.specs.Prelude.{◌≡◌, ◌<◌, ◌^◌, ℕ, List, length, All, IfSome, Some}
use Rattle.std.specs.Str.{IsUtf8}
use Rattle.serde_json.specs.Data.{Data}
use Rattle.serde_json.specs.Read.{read}
use Rattle.rr_facts.specs.Facts.{Facts, FileFacts}
use Rattle.rr_json.specs.Json.{json_refusal_text, json_text, refusal_json, report_json}
use Rattle.rr_model.specs.declared.verdict.Side.{Side}
use Rattle.rr_seam.specs.declared.file.FileRefusal.{FileRefusal}
use Rattle.rr_seam.specs.declared.key.Key.{Key}
use Rattle.rr_seam.specs.declared.key.Key.TheVariants as key
use Rattle.rr_trip.specs.declared.report.ReportLine.{ReportLine}

-- ---- values as the program has them

-- each is a byte
abbrev pub AreBytes : List ℕ → Type 0
AreBytes text = All (λ byte. byte < 256) text

-- a number of a key fits into 64 bits, and a UID is bytes
abbrev pub IsKey : Key → Type 0
IsKey (key.Line line) = line < 2 ^ 64
IsKey (key.Number event) = event < 2 ^ 64
IsKey (key.Uid uid) = AreBytes uid

-- the keys and the title of a line are such
pub record IsLine (line : ReportLine) : Type 0 where
  pub key : IsKey line.key
  pub partner : IfSome line.partner (λ partner. IsKey partner.key)
  pub title : IfSome line.title AreBytes

-- the words of a file are UTF-8, and the number of its bytes fits into 64 bits
pub record IsFile (file : FileFacts) : Type 0 where
  pub name : IsUtf8 file.name
  pub language : IsUtf8 file.language
  pub few : length file.bytes < 2 ^ 64

-- the words of a comparison are UTF-8
pub record AreFacts (facts : Facts) : Type 0 where
  pub version : IsUtf8 facts.version
  pub old : IsFile facts.old
  pub new : IsFile facts.new
  pub zones : IfSome facts.zones IsUtf8

-- ---- JSON

-- a text is UTF-8, and is read as this report (RFC 8259)
pub record IsRead (text : List ℕ) (report : Data) : Type 0 where
  pub is_text : IsUtf8 text
  pub is_read : read text ≡ Some report

-- A report is read back.
abbrev pub ReportIsRead : Type 0
ReportIsRead =
    (facts : Facts) (lines : List ReportLine) → AreFacts facts → All IsLine lines → length lines < 2 ^ 64
    → IsRead (json_text facts lines) (report_json facts lines)

-- The report of a refused file is read back.
abbrev pub RefusalIsRead : Type 0
RefusalIsRead =
    (facts : Facts) (side : Side) (refusal : FileRefusal) → AreFacts facts
    → IsRead (json_refusal_text facts side refusal) (refusal_json facts side refusal)
