-- The words of the command line: two files, and options at any place.
use Rattle.std.specs.Prelude.{ℕ, ◌==◌, Bool, true, false, not, ◌&&◌, ◌||◌, if◌then◌else◌, ℤ, List, [], ◌∷◌, length, take, drop, slice_index}
use Rattle.std.specs.Prelude.{Option, Some, None, option_and_then, option_map, bytes_eq, codes}
use Rattle.std.specs.Option.{is_some}
use Rattle.rr_text.specs.Offset.{offset_of}
use Rattle.rr_compare.specs.Operands.{Operand, operand_of}
use Rattle.rr_compare.specs.declared.words.Form.{Form}
use Rattle.rr_compare.specs.declared.words.Form.TheVariants.{Lines, Json, Html}
use Rattle.rr_compare.specs.declared.words.Next.{Next}
use Rattle.rr_compare.specs.declared.words.Next.TheVariants.{Word, Offset, Zones, Name}

-- what is asked of two files: which they are, whether equal events are left out, whether lines have titles, whether what is at odds with
-- RFC 5545 is refused, whether events are found again by their UID alone, the stated offset of both from UTC in seconds, the name of a file that
-- defines further zones, that of the only event that is asked for, and in which form all of them are told
pub record Request : Type 0 where
  pub old : Operand
  pub new : Operand
  pub only_differences : Bool
  pub titles : Bool
  pub strict : Bool
  pub by_uid : Bool
  pub offset : Option ℤ
  pub zones : Option (List ℕ)
  pub show : Option (List ℕ)
  pub form : Form

-- what the words of the command ask for
pub data Asked : Type 0 where
  help : Asked
  version : Asked
  comparison : Request → Asked

-- what the words state so far
pub record Given : Type 0 where
  pub old : Option Operand
  pub new : Option Operand
  pub only_differences : Bool
  pub titles : Bool
  pub strict : Bool
  pub by_uid : Bool
  pub offset : Option ℤ
  pub zones : Option (List ℕ)
  pub show : Option (List ℕ)
  pub form : Form
  pub next : Next

-- what is stated before the first word
abbrev pub nothing_given : Given
nothing_given = record { old = None; new = None; only_differences = false; titles = false; strict = false; by_uid = false; offset = None; zones = None; show = None; form = Lines; next = Word }

-- an offset from UTC: hours after their sign, a colon, and minutes
abbrev pub offset_in : List ℕ → Option ℤ
offset_in text = if (length text == 6) && (slice_index text 3 == 58) then offset_of (take 3 text) (drop 4 text) else None

-- the words so far with a further file: A, or B if A is there; None if both are there
abbrev pub with_operand : Given → Operand → Option Given
with_operand given operand =
    if not (is_some given.old) then Some (record given { old = Some operand })
    else (if is_some given.new then None else Some (record given { new = Some operand }))

-- the words so far with the word of one file more; None if it names none
abbrev pub with_file : Given → List ℕ → Option Given
with_file given word = option_and_then (with_operand given) (operand_of word)

-- the words so far with the value of `--offset`; None if it is no offset
abbrev pub with_offset : Given → List ℕ → Option Given
with_offset given text = option_map (λ offset. record given { offset = Some offset; next = Word }) (offset_in text)

-- the words so far with the value of `--zones`; None if it is empty
abbrev pub with_zones : Given → List ℕ → Option Given
with_zones given [] = None
with_zones given (b ∷ bs) = Some (record given { zones = Some (b ∷ bs); next = Word })

-- the words so far with the value of `--show`; None if it is empty
abbrev pub with_name : Given → List ℕ → Option Given
with_name given [] = None
with_name given (b ∷ bs) = Some (record given { show = Some (b ∷ bs); next = Word })

-- a form is that of lines
abbrev pub is_lines : Form → Bool
is_lines Lines = true
is_lines Json = false
is_lines Html = false

-- the words so far with one word more that is no option's value; each option may be given once, and one form
abbrev pub with_option : Given → List ℕ → Option Given
with_option given word =
    if bytes_eq word (codes "--differences") && not given.only_differences then Some (record given { only_differences = true })
    else (if bytes_eq word (codes "--titles") && not given.titles then Some (record given { titles = true })
    else (if bytes_eq word (codes "--json") && is_lines given.form then Some (record given { form = Json })
    else (if bytes_eq word (codes "--html") && is_lines given.form then Some (record given { form = Html })
    else (if bytes_eq word (codes "--strict") && not given.strict then Some (record given { strict = true })
    else (if bytes_eq word (codes "--by-uid") && not given.by_uid then Some (record given { by_uid = true })
    else (if bytes_eq word (codes "--offset") && not (is_some given.offset) then Some (record given { next = Offset })
    else (if bytes_eq word (codes "--zones") && not (is_some given.zones) then Some (record given { next = Zones })
    else (if bytes_eq word (codes "--show") && not (is_some given.show) then Some (record given { next = Name })
    else with_file given word))))))))

-- the words so far with one word more, by what the word before asks for; None if it is refused
abbrev pub with_next : Next → Given → List ℕ → Option Given
with_next Word given word = with_option given word
with_next Offset given word = with_offset given word
with_next Zones given word = with_zones given word
with_next Name given word = with_name given word

-- the words so far with one word more; None if it is refused
abbrev pub with_word : Given → List ℕ → Option Given
with_word given word = with_next given.next given word

-- the words so far with these words more; None if one is refused
abbrev pub with_words : Given → List (List ℕ) → Option Given
with_words given [] = Some given
with_words given (word ∷ words) = option_and_then (λ next. with_words next words) (with_word given word)

-- what all the words of a comparison state; None if one is refused
abbrev pub given_of : List (List ℕ) → Option Given
given_of words = with_words nothing_given words

-- no option waits for its value
abbrev pub is_word : Next → Bool
is_word Word = true
is_word Offset = false
is_word Zones = false
is_word Name = false

-- a name is that of standard input
abbrev pub is_input : List ℕ → Bool
is_input name = bytes_eq name (codes "-")

-- this name is there, and is that of standard input
abbrev pub is_input_named : Option (List ℕ) → Bool
is_input_named None = false
is_input_named (Some name) = is_input name

-- two of the files are standard input: the two that are compared, or the one of further zones and one of these
abbrev pub share_input : Operand → Operand → Option (List ℕ) → Bool
share_input old new zones =
    if is_input_named zones then is_input old.name || is_input new.name else (is_input old.name && is_input new.name)

-- one event alone is asked for, which is told in lines, and another form for all of them
abbrev pub is_torn : Option (List ℕ) → Form → Bool
is_torn show form = is_some show && not (is_lines form)

-- What a comparison of two files asks for; None if an option waits for its value, two of the files are standard input, or one event is asked for
-- in a form of all. In a form that is not lines all events have titles.
abbrev pub request_by : Given → Operand → Operand → Option Request
request_by given old new =
    if not (is_word given.next) || share_input old new given.zones then None
    else (if is_torn given.show given.form then None
    else Some (record {
      old = old;
      new = new;
      only_differences = given.only_differences;
      titles = given.titles || not (is_lines given.form);
      strict = given.strict;
      by_uid = given.by_uid;
      offset = given.offset;
      zones = given.zones;
      show = given.show;
      form = given.form;
    }))

-- the comparison that the words ask
abbrev pub request_of : Given → Option Request
request_of given = option_and_then (λ old. option_and_then (λ new. request_by given old new) given.new) given.old

-- the words are this one alone
abbrev pub is_only : List ℕ → List (List ℕ) → Bool
is_only wanted [] = false
is_only wanted (word ∷ []) = bytes_eq word wanted
is_only wanted (word ∷ next ∷ words) = false

-- what the words ask, if they ask something
unfoldable pub asked_of : List (List ℕ) → Option Asked
asked_of words =
    if is_only (codes "--help") words then Some help
    else (if is_only (codes "--version") words then Some version
    else option_and_then (λ given. option_map comparison (request_of given)) (given_of words))

-- what words ask of two texts alone: nothing if they name a file of further zones
abbrev pub of_two_texts : Option Asked → Option Asked
of_two_texts None = None
of_two_texts (Some help) = Some help
of_two_texts (Some version) = Some version
of_two_texts (Some (comparison request)) = if is_some request.zones then None else Some (comparison request)
