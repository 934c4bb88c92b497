-- What bytes state, by whether they are UTF-8.
use Rattle.std.proofs.Common.{◌≡◌, ℕ, ℤ, List, Bool, true, false, Option, Result, Err, refl, sym, ap, subst, if◌then◌else◌}
use Rattle.std.specs.Str.{IsUtf8, is_utf8}
use Rattle.std.proofs.lemmas.Str.{is_utf8-from_IsUtf8, IsUtf8-from_is_utf8}
use Rattle.rr_model.specs.Answers.{Answers}
use Rattle.rr_model.specs.Graph.Reading.{graph_text, reads_graph}
use Rattle.rr_model.specs.declared.graph.GraphEvent.{GraphEvent}
use Rattle.rr_model.specs.declared.refusal.Fault.{Fault}
use Rattle.rr_model.specs.declared.refusal.Refusal.TheVariants.{NotText}

pub reads_text : (offset : Option ℤ) (bytes : List ℕ) (r : Result GraphEvent Fault) → IsUtf8 bytes → Answers (graph_text offset bytes) r
    → Answers (reads_graph offset bytes) r
unfolding reads_graph
reads_text offset bytes r text h =
    subst (λ (b : Bool). Answers (if b then graph_text offset bytes else Err NotText) r) (sym (is_utf8-from_IsUtf8 bytes text)) h

pub reads_no_text : (offset : Option ℤ) (bytes : List ℕ) → (IsUtf8 bytes → ⊥) → reads_graph offset bytes ≡ Err NotText
unfolding reads_graph
reads_no_text offset bytes none = by (is_utf8 bytes) refl
  where
    by : (b : Bool) → is_utf8 bytes ≡ b → (if is_utf8 bytes then graph_text offset bytes else Err NotText) ≡ Err NotText
    by true e = absurd (none (IsUtf8-from_is_utf8 bytes e))
    by false e = ap (λ (b : Bool). if b then graph_text offset bytes else Err NotText) e
