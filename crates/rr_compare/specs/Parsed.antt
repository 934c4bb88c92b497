-- What the values of the program mean.
use Rattle.std.specs.Prelude.{ℕ, List, map, Option, Some, option_map}
use Rattle.std.specs.Borrow.{Bor}
use Rattle.rr_compare.specs.Operands.{Operand}
use Rattle.rr_compare.specs.Words.{Asked, Given, Request, asked_of, comparison, help, version}
use Rattle.rr_compare.specs.declared.operand.Operand.{Operand as ParsedOperand}
use Rattle.rr_compare.specs.declared.words.Asked.{Asked as ParsedAsked}
use Rattle.rr_compare.specs.declared.words.Asked.TheVariants.{Help, Version, Comparison}
use Rattle.rr_compare.specs.declared.words.Given.{Given as ParsedGiven}
use Rattle.rr_compare.specs.declared.words.Request.{Request as ParsedRequest}

-- the texts that the words are
abbrev pub words_of : List (Bor (List ℕ)) → List (List ℕ)
words_of words = map (λ (w : Bor (List ℕ)). w.now) words

-- what the words ask, if they ask something
abbrev pub asked_of_words : List (Bor (List ℕ)) → Option Asked
asked_of_words words = asked_of (words_of words)

-- the text of a word, if there is one
abbrev pub word_in : Option (Bor (List ℕ)) → Option (List ℕ)
word_in word = option_map (λ (w : Bor (List ℕ)). w.now) word

-- the file that a value of the program is
abbrev pub operand_in : ParsedOperand → Operand
operand_in operand = record { language = operand.language; offset = operand.offset; name = operand.name.now }

-- the file that a value of the program is, if it is one
abbrev pub file_in : Option ParsedOperand → Option Operand
file_in operand = option_map operand_in operand

-- the words so far that a value of the program is
abbrev pub given_in : ParsedGiven → Given
given_in given = record {
  old = file_in given.old;
  new = file_in given.new;
  only_differences = given.only_differences;
  titles = given.titles;
  strict = given.strict;
  by_uid = given.by_uid;
  offset = given.offset;
  zones = word_in given.zones;
  show = word_in given.show;
  form = given.form;
  next = given.next;
}

-- the comparison that a value of the program is
abbrev pub request_in : ParsedRequest → Request
request_in request = record {
  old = operand_in request.old;
  new = operand_in request.new;
  only_differences = request.only_differences;
  titles = request.titles;
  strict = request.strict;
  by_uid = request.by_uid;
  offset = request.offset;
  zones = word_in request.zones;
  show = word_in request.show;
  form = request.form;
}

-- what is asked by a request of the program
abbrev pub comparison_in : ParsedRequest → Option Asked
comparison_in request = Some (comparison (request_in request))

-- what a value of the program asks
abbrev pub asked_in : ParsedAsked → Asked
asked_in Help = help
asked_in Version = version
asked_in (Comparison request) = comparison (request_in request)
