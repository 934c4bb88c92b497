-- Which files were compared, and how.
use Rattle.std.specs.Prelude.{ℕ, ℤ, Bool, List, Option, option_map}
use Rattle.std.specs.Borrow.{Bor}
use Rattle.rr_facts.specs.declared.facts.Facts.{Facts as GivenFacts}
use Rattle.rr_facts.specs.declared.facts.FileFacts.{FileFacts as GivenFileFacts}

-- one of two files: its name as it was given, the word of its language, its stated offset from UTC in seconds, and its bytes
pub record FileFacts : Type 0 where
  pub name : List ℕ
  pub language : List ℕ
  pub offset : Option ℤ
  pub bytes : List ℕ

-- a comparison: the release that compares, both files, whether equal events are left out, whether what is at odds with RFC 5545 is refused,
-- whether events are found again by their UID alone, and the name of a file that defines further zones
pub record Facts : Type 0 where
  pub version : List ℕ
  pub old : FileFacts
  pub new : FileFacts
  pub only_differences : Bool
  pub strict : Bool
  pub by_uid : Bool
  pub zones : Option (List ℕ)

-- the file that a value of the program is
abbrev pub file_facts_in : GivenFileFacts → FileFacts
file_facts_in file = record { name = file.name.now; language = file.language.now; offset = file.offset; bytes = file.bytes.now }

-- the comparison that a value of the program is
abbrev pub facts_in : GivenFacts → Facts
facts_in facts = record {
  version = facts.version.now;
  old = file_facts_in facts.old;
  new = file_facts_in facts.new;
  only_differences = facts.only_differences;
  strict = facts.strict;
  by_uid = facts.by_uid;
  zones = option_map (λ (name : Bor (List ℕ)). name.now) facts.zones;
}
