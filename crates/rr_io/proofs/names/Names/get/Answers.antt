use Rattle.std.proofs.Common.{Some, option_map, Vec, ℕ, sym, ap, ◌∙◌}
use Rattle.std.specs.declared.alloc.Global.{Global}
use Rattle.rr_io.specs.Names.{bytes_at}
use Rattle.rr_io.proofs.NamesLemmas.{bytes_at-entries}
use Rattle.rr_io.proofs.names.Names.get.Goals as goal

pub returns-in-None : goal.returns-in-None
returns-in-None c =
    ap (option_map (λ (v : Vec ℕ Global). v.items)) c.in-None.ensures.value
    ∙ sym (bytes_at-entries c.self.inside.map c.args.name.now)
    ∙ ap (λ held. bytes_at held c.args.name.now) c.self.view_is

pub returns-in-Some : goal.returns-in-Some
returns-in-Some c =
    ap Some c.as_slice.ensures.value
    ∙ ap (option_map (λ (v : Vec ℕ Global). v.items)) c.in-Some.ensures.value
    ∙ sym (bytes_at-entries c.self.inside.map c.args.name.now)
    ∙ ap (λ held. bytes_at held c.args.name.now) c.self.view_is
