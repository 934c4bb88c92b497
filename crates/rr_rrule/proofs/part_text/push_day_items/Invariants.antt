use Rattle.std.specs.Prelude.{◌≡◌, ◌∷◌, ◌++◌, drop}
use Rattle.rr_model.specs.Text.Written.{day_item_text, lines_of}
use Rattle.rr_rrule.proofs.part_text.push_day_items.Given as goal

-- the others from here on are left
abbrev pub invariant-loop-other : goal.invariant-loop-other
invariant-loop-other l =
    l.line.items ++ lines_of (λ x. 44 ∷ day_item_text x) (drop l.other-index l.others) ≡ l.initial.line.items ++ lines_of (λ x. 44 ∷ day_item_text x)
    l.others
