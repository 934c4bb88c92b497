use Rattle.std.proofs.Common.{◌≡◌, ◌++◌, ◌∷◌, [], ◌+◌, ◌≤◌, length}
use Rattle.rr_model.specs.Text.Lines.{physical_lines, with_physical_lines}
use Rattle.rr_text.proofs.unfold.lines_from.Given as goal

abbrev pub invariant-loop-text : goal.invariant-loop-text
invariant-loop-text l = record {
  so_far : with_physical_lines l.keep_blank (l.number + 1) (l.done ++ l.last ∷ []) (physical_lines l.rest) ≡ with_physical_lines l.keep_blank l.first [] (physical_lines l.bytes);
  few : l.number + length l.rest ≤ l.first + length l.bytes;
}

abbrev pub decreases-loop-text : goal.decreases-loop-text
decreases-loop-text l = length l.rest
