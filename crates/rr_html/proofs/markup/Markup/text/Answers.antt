use Rattle.std.proofs.Math.Logic.{∥∥₁_map}
use Rattle.rr_html.proofs.markup.Markup.text.Goals as goal

pub invariant_of-self : goal.invariant_of-self
invariant_of-self c = ∥∥₁_map c.self.invariant c.push_escaped.ensures.markup
