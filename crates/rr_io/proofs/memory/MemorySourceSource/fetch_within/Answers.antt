use Rattle.std.proofs.Common.{sym, ap, ◌∙◌, inl}
use Rattle.std.specs.Prelude.{nat_eq}
use Rattle.std.specs.List.{list_any}
use Rattle.rr_io.specs.Outside.{next_number}
use Rattle.rr_io.proofs.memory.MemorySourceSource.fetch_within.Goals as goal

pub returns-then-contains-clause-fails : goal.returns-then-contains-clause-fails
returns-then-contains-clause-fails c =
    rw (← c.self.view_is) (inl (
    ap (list_any (λ n. nat_eq n (next_number c.self.inside.fetches))) (sym c.deref.ensures.value)
    ∙ ap (λ number. list_any (λ n. nat_eq n number) c.deref.result.now) (sym c.saturating_add-self-inside.ensures)
    ∙ sym c.contains.ensures.value
    ∙ c.if-contains.true))
