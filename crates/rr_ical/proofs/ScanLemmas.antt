-- The used lines as far as they are scanned.
use Rattle.std.proofs.Common.{append-nil, ◌≡◌, ℕ, ◌+◌, ◌<◌, ◌≤◌, Bool, List, [], ◌∷◌, ◌++◌, length, get_or, drop, sym, ap, ◌∙◌, Ok, Err, Some, None, Option}
use Rattle.std.proofs.Common.{append_assoc}
use Rattle.std.specs.List.{cons_option}
use Rattle.std.proofs.lemmas.List.{at_drop_more, at_drop_all}
use Rattle.rr_model.specs.Text.Event.{Components, left_with, left_by, after_used, scan_from, scan_of, stop_at_end}
use Rattle.rr_model.specs.declared.line.Line.{Line}
use Rattle.rr_model.specs.declared.refusal.Refusal.{Refusal}
use Rattle.rr_model.specs.declared.used.UsedLine.{UsedLine}
use Rattle.rr_model.specs.declared.used.Scan.{Scan}

-- the scan with used lines before its own
abbrev pub after_lines : List UsedLine → Scan → Scan
after_lines used scan = record { used = used ++ scan.used; stop = scan.stop }

joined : (used : List UsedLine) (kept : Option UsedLine) (more : List UsedLine) → used ++ cons_option kept more ≡ (used ++ cons_option kept []) ++ more
joined used None more = sym (append_assoc used [] more)
joined used (Some line) more = sym (append_assoc used (line ∷ []) more)

pub after_lines-one : (used : List UsedLine) (kept : Option UsedLine) (scan : Scan)
    → after_lines used (after_used kept scan) ≡ after_lines (used ++ cons_option kept []) scan
after_lines-one used kept scan = ap (λ (ls : List UsedLine). record { used = ls; stop = scan.stop }) (joined used kept scan.used)

module _ (is_bare : Bool) (last : ℕ) (lines : List Line) where
  turn : (components : Components) (n : ℕ) (line : Line) → (n < length lines) → line ≡ get_or lines n line
      → scan_of is_bare last components (drop n lines) ≡ scan_from (left_by is_bare components line) (λ after. scan_of is_bare last after (drop (n + 1) lines))
  turn components n line lt at =
      at_drop_more (scan_of is_bare last components) lines n line lt
      ∙ ap (λ (l : Line). scan_from (left_by is_bare components l) (λ after. scan_of is_bare last after (drop (n + 1) lines))) (sym at)

  -- a line leaves these components and this used line
  pub goes_on : (components next : Components) (used more : List UsedLine) (kept : Option UsedLine) (n m : ℕ) (line : Line) (all : Scan) → n < length lines
      → line ≡ get_or lines n line → m ≡ n + 1
      → left_by is_bare components line ≡ Ok (left_with next kept) → more ≡ used ++ cons_option kept []
      → after_lines used (scan_of is_bare last components (drop n lines)) ≡ all → after_lines more (scan_of is_bare last next (drop m lines)) ≡ all
  goes_on components next used more kept n m line all lt at step leaves put so_far =
      rw (put, step)
      (sym (after_lines-one used kept (scan_of is_bare last next (drop (n + 1) lines)))
      ∙ ap (λ r. after_lines used (scan_from r (λ after. scan_of is_bare last after (drop (n + 1) lines)))) (sym leaves)
      ∙ ap (after_lines used) (sym (turn components n line lt at)) ∙ so_far)

  -- a line is refused
  pub ends : (components : Components) (used : List UsedLine) (n : ℕ) (line : Line) (refusal : Refusal) (all : Scan) → n < length lines
      → line ≡ get_or lines n line
      → left_by is_bare components line ≡ Err refusal
      → after_lines used (scan_of is_bare last components (drop n lines)) ≡ all → record { used = used; stop = Some refusal } ≡ all
  ends components used n line refusal all lt at refused so_far =
      ap (λ (ls : List UsedLine). record { used = ls; stop = Some refusal }) (sym (append-nil used))
      ∙ ap (λ r. after_lines used (scan_from r (λ after. scan_of is_bare last after (drop (n + 1) lines)))) (sym refused)
      ∙ ap (after_lines used) (sym (turn components n line lt at)) ∙ so_far

  -- no line is left
  pub done : (components : Components) (used : List UsedLine) (n : ℕ) (all : Scan) → length lines ≤ n
      → after_lines used (scan_of is_bare last components (drop n lines)) ≡ all → record { used = used; stop = stop_at_end last components } ≡ all
  done components used n all over so_far =
      ap (λ (ls : List UsedLine). record { used = ls; stop = stop_at_end last components }) (sym (append-nil used))
      ∙ ap (after_lines used) (sym (at_drop_all (scan_of is_bare last components) lines n over)) ∙ so_far
