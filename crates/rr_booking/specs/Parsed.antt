-- What the values of the program mean: a booking, and one of the others.
use Rattle.std.specs.Prelude.{ℕ, List, [], ◌∷◌, Vec, map, Bool, true, false, Option, Some, None}
use Rattle.std.specs.Global.{Global}
use Rattle.rr_answer.specs.Parsed.{operand_in}
use Rattle.rr_booking.specs.Booking.{Booking, Other}
use Rattle.rr_booking.specs.declared.request.Booking.{Booking as ParsedBooking}
use Rattle.rr_booking.specs.declared.request.Other.{Other as ParsedOther}
use Rattle.rr_booking.specs.declared.words.Three.{Three}

-- one of the others
abbrev pub other_in : ParsedOther → Other
other_in other = record { duration = other.duration; operand = operand_in other.operand; text = other.text.now }

-- a list of them
abbrev pub all_in : List ParsedOther → List Other
all_in others = map other_in others

-- a vector of them
abbrev pub others_in : Vec ParsedOther Global → List Other
others_in others = all_in others.items

-- a booking
abbrev pub booking_in : ParsedBooking → Booking
booking_in booking = record { duration = booking.duration; candidate = operand_in booking.candidate; others = others_in booking.others }

-- ---- words, three by three

-- the words of one of the others
pub record ThreeWords : Type 0 where
  pub seconds : List ℕ
  pub word : List ℕ
  pub count : List ℕ

-- the first three of some words; None if they are fewer
abbrev pub three_of : List (List ℕ) → Option ThreeWords
three_of (seconds ∷ word ∷ count ∷ words) = Some (record { seconds = seconds; word = word; count = count })
three_of words = None

-- those of the program
abbrev pub three_in : Three → ThreeWords
three_in three = record { seconds = three.seconds.now; word = three.word.now; count = three.count.now }

-- no words and no bytes are left
abbrev pub is_all_read : List (List ℕ) → List ℕ → Bool
is_all_read [] [] = true
is_all_read words bytes = false
