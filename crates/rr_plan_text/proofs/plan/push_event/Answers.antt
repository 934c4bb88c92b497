use Rattle.std.proofs.Common.{◌≡◌, ◌++◌, ℕ, List, ap, length, ◌∙◌, arith}
use Rattle.rr_plan_text.proofs.TextLemmas.{line_of, written_event}
use Rattle.rr_plan_text.proofs.plan.push_event.Goals as goal

pub slice_bounds-extend_from_slice-count : goal.slice_bounds-extend_from_slice-count
slice_bounds-extend_from_slice-count c =
    let line = line_of c.in_ok-text.text.items _ (written_event c.args.event.now c.in_ok-text.text.items c.requires.repeats c.in_ok-text.ensures.text) in
    let some = line.0 in
    let same = ap length c.as_slice.ensures.value in
    omega (arith, some, same, c.as_slice.ensures.len, c.len.ensures)

pub returns : goal.returns
returns c =
    let line = line_of c.in_ok-text.text.items _ (written_event c.args.event.now c.in_ok-text.text.items c.requires.repeats c.in_ok-text.ensures.text) in
    let same = ap length c.as_slice.ensures.value in
    let long : c.len.result ≡ length c.in_ok-text.text.items = omega (arith, same, c.as_slice.ensures.len, c.len.ensures) in
    c.in_ok-extend_from_slice.ensures.items ∙ ap (λ (l : List ℕ). c.args.out.now.items ++ l) (rw (c.as_slice.ensures.value, long) (line.1))
