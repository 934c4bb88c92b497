-- What is held under a name, by the map that holds it.
use Rattle.std.proofs.Common.{◌≡◌, ℕ, List, [], ◌∷◌, Bool, true, false, cond, Option, Some, option_map, Vec, String, string_bytes, refl, sym, ap, ◌∙◌}
use Rattle.std.specs.Prelude.{map, bytes_eq}
use Rattle.std.specs.declared.alloc.Global.{Global}
use Rattle.std.specs.BTreeMap.{BTreeMap, get_by_text, is_at}
use Rattle.std.specs.Map.{lookup}
use Rattle.std.specs.Ordering.{nat_cmp}
use Rattle.std.specs.Cmp.Lexicographic.{slice_cmp}
use Rattle.std.proofs.lemmas.Map.Text.{is_eq-slice_cmp}
use Rattle.rr_io.specs.Names.{entries_of, bytes_at}

-- a choice of two is passed on to its parts
pub chosen : {A B : Type 0} (f : A → B) (b : Bool) (x : A) (old : Option A) → option_map f (cond b (Some x) old) ≡ cond b (Some (f x)) (option_map f old)
chosen f true x old = refl
chosen f false x old = refl

entry_at : (name : List ℕ) (es : List (String Global × Vec ℕ Global))
    → lookup (bytes_eq name) (map (λ e. (string_bytes e.0, e.1.items)) es)
    ≡ option_map (λ v. v.items) (lookup (is_at (λ k. slice_cmp nat_cmp name (string_bytes k))) es)
entry_at name [] = refl
entry_at name (e ∷ es) =
    ap (λ b. cond b (Some e.1.items) (lookup (bytes_eq name) (map (λ e. (string_bytes e.0, e.1.items)) es))) (sym (is_eq-slice_cmp name (string_bytes e.0)))
    ∙ ap (cond (is_at (λ k. slice_cmp nat_cmp name (string_bytes k)) e.0) (Some e.1.items)) (entry_at name es)
    ∙ sym (chosen (λ (v : Vec ℕ Global). v.items) (is_at (λ k. slice_cmp nat_cmp name (string_bytes k)) e.0) e.1
    (lookup (is_at (λ k. slice_cmp nat_cmp name (string_bytes k))) es))

pub bytes_at-entries : (m : BTreeMap (String Global) (Vec ℕ Global)) (name : List ℕ)
    → bytes_at (entries_of m) name ≡ option_map (λ v. v.items) (get_by_text m name)
bytes_at-entries m name = entry_at name m.entries
