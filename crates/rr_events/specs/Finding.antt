-- The events that are found, as parts of the text.
use Rattle.std.specs.Prelude.{◌≡◌, ℕ, ◌+◌, ◌-◌, ◌≤◌, Bool, true, false, List, [], ◌∷◌, ◌++◌, length, take, map, Option, None, Some, unwrap_or, Vec, Result, Ok, Err, ⊤}
use Rattle.std.specs.Global.{Global}
use Rattle.rr_model.specs.declared.line.Line.{Line}
use Rattle.rr_model.specs.declared.refusal.Fault.{Fault}
use Rattle.rr_model.specs.declared.refusal.Fault.TheVariants.{Refused, NoMemory}
use Rattle.rr_events.specs.Cutting.{lines_at}
use Rattle.rr_events.specs.Events.{events_of}
use Rattle.rr_ical.specs.Components.{is_within_event, open_after}
use Rattle.rr_events.specs.declared.find.Finder.{Finder}
use Rattle.rr_events.specs.declared.find.Piece.{Piece}

-- ---- what is found

-- the unfolded lines of a piece, with the numbers of the whole text
abbrev pub lines_in : Piece → List Line
lines_in piece = lines_at piece.first piece.text.now

-- the pieces are the events of the text, or the refusal is that of its components
abbrev pub IsFound : List ℕ → Result (Vec Piece Global) Fault → Type 0
IsFound text (Ok found) = events_of text ≡ Ok (map lines_in found.items)
IsFound text (Err (Refused refusal)) = events_of text ≡ Err refusal
IsFound text (Err NoMemory) = ⊤

-- the lines of the piece have no greater numbers than the bytes of the text allow
abbrev pub IsPlaced : List ℕ → Piece → Type 0
IsPlaced text piece = piece.first + length piece.text.now ≤ 1 + length text

-- ---- one line more

-- what stands before the rest of a text
abbrev pub before : List ℕ → List ℕ → List ℕ
before text rest = take (length text - length rest) text

-- the piece begins where another does, and ends before the rest
pub record IsBefore (begun : Piece) (rest : List ℕ) (piece : Piece) : Type 0 where
  pub first : piece.first ≡ begun.first
  pub text : piece.text.now ≡ before begun.text.now rest

-- one piece more is found: from where `begun` begins to where the rest begins
pub record IsPushed (begun : Piece) (rest : List ℕ) (old new : List Piece) : Type 0 where
  pub piece : Piece
  pub is : IsBefore begun rest piece
  pub put : new ≡ old ++ piece ∷ []

-- an event that was begun is closed before the rest
pub record IsClosed (old new : Finder) (event : Piece) (rest : List ℕ) : Type 0 where
  pub names : new.names ≡ old.names
  pub begun : new.begun ≡ None
  pub found : IsPushed event rest old.found.items new.found.items

-- what is begun after a line: within an event what is begun already, or what begins here
abbrev pub begun_after : Bool → Option Piece → Piece → Option Piece
begun_after true begun here = Some (unwrap_or begun here)
begun_after false begun here = None

-- what is found after a line: outside of events what was begun is closed before the rest
abbrev pub IsFoundAfter : Bool → Option Piece → List ℕ → List Piece → List Piece → Type 0
IsFoundAfter true begun rest old new = new ≡ old
IsFoundAfter false None rest old new = new ≡ old
IsFoundAfter false (Some begun) rest old new = IsPushed begun rest old new

-- the finder has taken in one line
pub record IsNext (old new : Finder) (here : Piece) (line : Line) (rest : List ℕ) : Type 0 where
  pub names : open_after old.names line ≡ Ok new.names
  pub begun : new.begun ≡ begun_after (is_within_event new.names) old.begun here
  pub found : IsFoundAfter (is_within_event new.names) old.begun rest old.found.items new.found.items

-- a line is taken in, or refused
abbrev pub IsStep : Finder → Finder → Piece → Line → List ℕ → Result (Unit {0}) Fault → Type 0
IsStep old new here line rest (Ok done) = IsNext old new here line rest
IsStep old new here line rest (Err (Refused refusal)) = open_after old.names line ≡ Err refusal
IsStep old new here line rest (Err NoMemory) = ⊤
