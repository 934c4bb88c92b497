use Rattle.std.proofs.Common.{◌∙◌, ◌++◌, ℕ, ℤ, List, ap, sym, subst, w64, of_z, to_z, to_z-of_z}
use Rattle.std.specs.Str.{IsUtf8}
use Rattle.std.proofs.lemmas.Str.{IsUtf8-from_ascii}
use Rattle.rr_model.specs.Text.Moments.{extended_text}
use Rattle.rr_plan_text.proofs.MomentLemmas.{IsAscii-printed}
use Rattle.rr_plan_text.proofs.moments.moment_value.Goals as goal

pub unreachable-requires : goal.unreachable-requires
unreachable-requires c =
    let text = extended_text c.args.kind (to_z w64 (of_z w64 c.args.at)) in
    let written =
    c.as_slice.ensures.value ∙ c.in_ok-push_extended.ensures.ok ∙ ap (λ (l : List ℕ). l ++ text) c.new-bytes.ensures.items
    ∙ ap (λ (z : ℤ). extended_text c.args.kind z) (to_z-of_z c.ranges.at) in
    c.in_default.ensures.cases.0 (subst IsUtf8 (sym written) (IsUtf8-from_ascii _ (IsAscii-printed c.args.kind c.args.at c.requires)))
