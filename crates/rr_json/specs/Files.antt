-- Which files were compared, and how, as JSON (RFC 8259). The names of members are in rising order of their bytes.
use Rattle.std.specs.Prelude.{ℕ, ℤ, pos, neg_ℤ, int_lt, ◌&&◌, if◌then◌else◌, List, codes, length, Option, None, Some}
use Rattle.serde_json.specs.Data.{Data, Members, boolean, member, no_members, null, number, object, string, unsigned}
use Rattle.rr_facts.specs.Facts.{Facts, FileFacts}
use Rattle.rr_facts.specs.Sum.{sum_text}
use Rattle.rr_trip.specs.Printed.{offset_text}

-- a stated offset from UTC as hours and minutes; null if there is none, or none of less than a day
abbrev pub offset_json : Option ℤ → Data
offset_json None = null
offset_json (Some offset) =
    if int_lt (neg_ℤ (pos 86_400)) offset && int_lt offset (pos 86_400) then string (offset_text offset) else null

-- a file: how many bytes it has, its language, its name as it was given, its stated offset, and its SHA-256 in hexadecimal digits
abbrev pub file_json : FileFacts → Data
file_json file = object
    (member (codes "bytes") (number (unsigned (length file.bytes)))
    (member (codes "language") (string file.language)
    (member (codes "name") (string file.name)
    (member (codes "offset") (offset_json file.offset)
    (member (codes "sha256") (string (sum_text file.bytes)) no_members)))))

-- a name, or null
abbrev pub name_json : Option (List ℕ) → Data
name_json None = null
name_json (Some name) = string name

-- the options of a comparison
abbrev pub options_json : Facts → Data
options_json facts = object
    (member (codes "by_uid") (boolean facts.by_uid)
    (member (codes "differences") (boolean facts.only_differences)
    (member (codes "strict") (boolean facts.strict)
    (member (codes "zones") (name_json facts.zones) no_members))))

-- Which files were compared and how, with the status that the program ends with, and by which release.
abbrev pub facts_members : Facts → ℕ → Members
facts_members facts status =
    member (codes "new") (file_json facts.new)
    (member (codes "old") (file_json facts.old)
    (member (codes "options") (options_json facts)
    (member (codes "status") (number (unsigned status))
    (member (codes "version") (string facts.version) no_members))))
