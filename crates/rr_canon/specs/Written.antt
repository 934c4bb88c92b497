-- What the lines of a descriptor add to the bytes of a writer, if these are known.
use Rattle.std.specs.Prelude.{ℕ, List, [], ◌∷◌, Option}
use Rattle.std.specs.Io.KnownBytes.{Appends}
use Rattle.rr_model.specs.Sets.Descriptor.{Run, Step}
use Rattle.rr_model.specs.Sets.DescriptorText.{text_of_lines}
use Rattle.rr_canon.specs.Said.{IsNextRun, text_of_runs}
use Rattle.rr_canon.specs.declared.lines.OpenRun.{OpenRun}

-- the lines were written, each with its line feed
abbrev pub WritesLines : Option (List ℕ) → Option (List ℕ) → List (List ℕ) → Type 0
WritesLines old new lines = Appends old new (text_of_lines lines)

-- one line was written
abbrev pub WritesLine : Option (List ℕ) → Option (List ℕ) → List ℕ → Type 0
WritesLine old new line = WritesLines old new (line ∷ [])

-- the lines of the runs were written, with this letter
abbrev pub WritesRuns : Option (List ℕ) → Option (List ℕ) → ℕ → List Run → Type 0
WritesRuns old new letter runs = Appends old new (text_of_runs letter runs)

-- one more step: what was written and what is still open are the same whatever follows
abbrev pub WritesNextRun : Option (List ℕ) → Option (List ℕ) → ℕ → Run → Step → Run → Type 0
WritesNextRun old new letter run step next = (bytes : List ℕ) × Appends old new bytes × IsNextRun letter run step [] bytes next

-- a run of days so far, as a descriptor has it
abbrev pub run_so_far : OpenRun → Run
run_so_far run = record { gap = run.gap; set = run.set; count = run.count }
