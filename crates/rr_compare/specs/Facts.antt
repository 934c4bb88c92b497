-- What a report says of the files that are compared.
use Rattle.std.specs.Prelude.{ℕ, ℤ, List, Option, codes}
use Rattle.rr_facts.specs.Facts.{Facts, FileFacts}
use Rattle.rr_compare.specs.Calendars.{Texts, new_language, offset_by, old_language}
use Rattle.rr_compare.specs.Operands.{Operand}
use Rattle.rr_compare.specs.Words.{Request}
use Rattle.rr_compare.specs.declared.operand.Language.{Language}
use Rattle.rr_compare.specs.declared.operand.Language.TheVariants.{Ics, Graph, Vcal}
use Rattle.rr_compare.specs.declared.release.TheConstants.{RELEASE}

-- the word of a language
abbrev pub word_of : Language → List ℕ
word_of Ics = codes "ics"
word_of Graph = codes "graph"
word_of Vcal = codes "vcal"

-- one of two files, in the language in which it is read, beside the stated offset of both
abbrev pub file_facts_of : Operand → Language → Option ℤ → List ℕ → FileFacts
file_facts_of file language both bytes = record { name = file.name; language = word_of language; offset = offset_by file.offset both; bytes = bytes }

-- a comparison of files in these languages, with their bytes as they were given
abbrev pub facts_of : Request → Language → Language → Texts → Facts
facts_of request a b texts = record {
  version = RELEASE.now;
  old = file_facts_of request.old a request.offset texts.old;
  new = file_facts_of request.new b request.offset texts.new;
  only_differences = request.only_differences;
  strict = request.strict;
  by_uid = request.by_uid;
  zones = request.zones;
}

-- a comparison of files, each in its language
abbrev pub facts_on : Request → Texts → Facts
facts_on request texts = facts_of request (old_language request texts) (new_language request texts) texts
