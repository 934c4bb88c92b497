-- What may stand in a note.
use Rattle.std.specs.Prelude.{ℕ, ◌≤◌, ◌<◌, All, IfOk, IfSome, Option, Result, string_bytes, String}
use Rattle.std.specs.Global.{Global}
use Rattle.std.specs.declared.alloc.AllocError.{AllocError}

-- a visible character of ASCII, or a blank
abbrev pub IsVisible : ℕ → Type 0
IsVisible b = (32 ≤ b) × (b < 127)

-- the text has visible characters of ASCII and blanks alone, so no byte of a name or a word that a terminal would obey
abbrev pub IsVisibleText : String Global → Type 0
IsVisibleText text = All IsVisible (string_bytes text)

-- the note, if there is memory for one, is visible
abbrev pub IsVisibleNote : Result (String Global) AllocError → Type 0
IsVisibleNote note = IfOk note IsVisibleText

-- the note, if there is one, is visible
abbrev pub IsVisibleIfSome : Option (String Global) → Type 0
IsVisibleIfSome note = IfSome note IsVisibleText
