use Rattle.std.proofs.Common.{◌≡◌, ℕ, List, Some, option_map, Vec, cond, sym, ap, ◌∙◌, arith}
use Rattle.std.specs.Prelude.{bytes_eq}
use Rattle.std.specs.declared.alloc.Global.{Global}
use Rattle.std.specs.BTreeMap.{get_by_text}
use Rattle.std.proofs.lemmas.Map.Text.{text_keys}
use Rattle.rr_io.specs.Names.{bytes_at}
use Rattle.rr_io.proofs.NamesLemmas.{bytes_at-entries}
use Rattle.rr_io.proofs.names.Names.hold.Goals as goal

pub returns-clause-ok : goal.returns-clause-ok
returns-clause-ok c = λ other.
    let items : Vec ℕ Global → List ℕ = λ v. v.items in
    let set : option_map items (get_by_text c.insert.new.self other)
    ≡ cond (bytes_eq c.args.name.now other) (Some c.args.bytes.now) (option_map items (get_by_text c.self.inside.map other)) = grind (arith, text_keys) in
    bytes_at-entries c.insert.new.self other
    ∙ set
    ∙ ap (cond (bytes_eq c.args.name.now other) (Some c.args.bytes.now)) (sym (bytes_at-entries c.self.inside.map other)
    ∙ ap (λ held. bytes_at held other) c.self.view_is)
