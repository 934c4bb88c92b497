use Rattle.std.proofs.Common.{◌+◌, List, length, drop, sym, subst, ◌∙◌, arith}
use Rattle.std.proofs.lemmas.List.{length-drop}
use Rattle.rr_groups.specs.Runs.{IsRunAt}
use Rattle.rr_groups.specs.declared.group.Group.{Group}
use Rattle.rr_groups.proofs.GroupLemmas.{IsUpTo, IsUpTo-end, IsUpTo-next, IsUpTo-start, run_length, whole_rest}
use Rattle.rr_groups.proofs.group.groups_of_entries.Goals as goal

pub loop-run-init : goal.loop-run-init
loop-run-init c = IsUpTo-start c.args.entries.now _ c.new-groups.ensures.items

pub loop-run-preserved : goal.loop-run-preserved
loop-run-preserved c =
    let entries = c.args.entries.now in
    let start = c.loop-run.start in
    let run = c.in-Some.run'.entries.now in
    let at = subst (λ es. IsRunAt es c.in-Some.run'.first.now run) (whole_rest start entries) c.in-Some.ensures in
    subst (λ gs. IsUpTo entries gs (start + length run)) (sym {A = List Group} c.in_ok-push.ensures.items)
    (IsUpTo-next entries c.loop-run.groups.items start c.in-Some.run'.first.now run c.in_ok-group_of_run.field-0 at c.in_ok-group_of_run.ensures c.loop-run.invariant)

pub loop-run-smaller : goal.loop-run-smaller
loop-run-smaller c =
    let entries = c.args.entries.now in
    let start = c.loop-run.start in
    let run = c.in-Some.run'.entries.now in
    let at = subst (λ es. IsRunAt es c.in-Some.run'.first.now run) (whole_rest start entries) c.in-Some.ensures in
    omega (arith, run_length (drop start entries) c.in-Some.run'.first.now run at, length-drop start entries, c.loop-run.invariant.within)

pub returns : goal.returns
returns c =
    let entries = c.args.entries.now in
    let start = c.loop-run.start in
    IsUpTo-end entries c.loop-run.groups.items start c.loop-run.invariant (sym (whole_rest start entries) ∙ (rw c.in_default.is at c.first_run.ensures))
