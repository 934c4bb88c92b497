-- The text of a plan, put together from its parts.
use Rattle.std.proofs.Common.{◌≡◌, ℕ, suc, ◌+◌, ◌<◌, ◌≤◌, ℤ, List, [], ◌∷◌, ◌++◌, map, length, length-append, drop, get_or, take, true, false, refl, sym, ap, ap₂, ◌∙◌, append_assoc, drop-cons, arith}
use Rattle.std.specs.Prelude.{◌-◌, codes, nat_lt, None, Ok}
use Rattle.std.proofs.Math.Seq.{take-append_seam}
use Rattle.json.specs.Print.{escape_byte, quoted}
use Rattle.serde_json.specs.Data.{Data, Items, Members, array, item, member, no_items, no_members, object}
use Rattle.serde_json.specs.View.{items_of}
use Rattle.serde_json.specs.Written.{comma_if, compact_text, items_text, members_text}
use Rattle.rr_graph.specs.Written.{HasPattern, IsWrittenText}
use Rattle.rr_model.specs.Graph.Laws.{GraphIsReadBack}
use Rattle.rr_model.specs.Graph.Reading.{reads_graph}
use Rattle.rr_model.specs.Graph.Text.{graph_written}
use Rattle.rr_model.specs.Graph.Validity.{IsValidGraphEvent}
use Rattle.rr_model.specs.declared.graph.GraphEvent.{GraphEvent}
use Rattle.rr_model.specs.declared.graph.Repeat.{Repeat}
use Rattle.rr_model.specs.declared.graph.Repeat.TheVariants as repeat
use Rattle.rr_model.specs.declared.kind.Kind.{Kind}
use Rattle.rr_plan.specs.Plan.{BeginsOnPattern}
use Rattle.rr_plan.specs.declared.part.Part.{Part}
use Rattle.rr_plan_text.specs.PlanText.{PlanEventIsReadBack, event_json, moments_items, part_json, parts_items, plan_text, repeating_json}

-- ---- an event

repeating_text : (kind : Kind) (start : ℤ) (rep : Repeat) (text : List ℕ) → HasPattern rep → IsWrittenText kind start rep text
    → text ≡ compact_text (repeating_json kind start rep) ++ 10 ∷ []
unfolding graph_written
repeating_text kind start repeat.Once text h w = absurd h
repeating_text kind start (repeat.Pattern pattern range) text h w = w

pub written_event : (event : GraphEvent) (text : List ℕ) → HasPattern event.repeat → IsWrittenText event.kind event.start event.repeat text
    → text ≡ compact_text (event_json event) ++ 10 ∷ []
written_event event text h w = repeating_text event.kind event.start event.repeat text h w

-- ---- objects of two members

pub part_text : (part : Part) (out a b : List ℕ) → a ≡ compact_text (array (moments_items part.event.kind part.cancelled)) → b ≡ compact_text (event_json part.event)
    → (((out ++ codes "{\"cancelled\":") ++ a) ++ codes ",\"event\":") ++ b ++ 125 ∷ [] ≡ out ++ compact_text (part_json part)
unfolding escape_byte
part_text part out a b e f = rw (e, f) (simp append_assoc refl)

-- the text of an object with the members `parts`, a list, and `single`, and a line end
shape : (p s : List ℕ)
    → (codes "{\"parts\":[" ++ p) ++ (codes ",\"single\":" ++ (s ++ codes "}\n"))
    ≡ (123 ∷ (quoted (codes "parts") ++ 58 ∷ ((91 ∷ p) ++ (44 ∷ (quoted (codes "single") ++ 58 ∷ (s ++ 125 ∷ [])))))) ++ 10 ∷ []
unfolding escape_byte
shape p s =
    let rest : List ℕ = codes ",\"single\":" ++ (s ++ 125 ∷ []) in
    sym (ap (λ (l : List ℕ). codes "{\"parts\":[" ++ l)
    (append_assoc p rest (10 ∷ []) ∙ ap (λ (l : List ℕ). p ++ (codes ",\"single\":" ++ l)) (append_assoc s (125 ∷ []) (10 ∷ []))))

pub whole_text : (parts : List Part) (kind : Kind) (single : List ℤ) (listed a : List ℕ)
    → listed ++ 93 ∷ [] ≡ codes "{\"parts\":[" ++ items_text false (parts_items parts) → a ≡ compact_text (array (moments_items kind single))
    → ((listed ++ codes "],\"single\":") ++ a) ++ codes "}\n" ≡ plan_text parts kind single
unfolding escape_byte plan_text
whole_text parts kind single listed a e f =
    let rest : List ℕ = codes ",\"single\":" ++ (a ++ codes "}\n") in
    let split : ((listed ++ codes "],\"single\":") ++ a) ++ codes "}\n" ≡ (listed ++ 93 ∷ []) ++ rest = simp append_assoc refl in
    split ∙ ap (λ (l : List ℕ). l ++ rest) e ∙ rw f (shape (items_text false (parts_items parts)) (compact_text (array (moments_items kind single))))

-- ---- the list of the series

pub one_more_part : (parts : List Part) (k : ℕ) (d part : Part) (old out next : List ℕ) → k < length parts → part ≡ get_or parts k d
    → out ++ items_text (nat_lt 0 k) (items_of (map part_json (drop k parts))) ≡ old ++ items_text false (parts_items parts)
    → next ≡ (out ++ comma_if (nat_lt 0 k)) ++ compact_text (part_json part)
    → next ++ items_text (nat_lt 0 (k + 1)) (items_of (map part_json (drop (k + 1) parts))) ≡ old ++ items_text false (parts_items parts)
one_more_part parts k d part old out next l is so_far more =
    let rest : Items = items_of (map part_json (drop (k + 1) parts)) in
    let e : k + 1 ≡ suc k = omega arith in
    let there : drop k parts ≡ get_or parts k d ∷ drop (k + 1) parts =
    drop-cons parts k d l ∙ ap (λ n. get_or parts k d ∷ drop n parts) (sym e) in
    let later : nat_lt 0 (k + 1) ≡ true = grind arith in
    let comma : List ℕ = comma_if (nat_lt 0 k) in
    let one : List ℕ = compact_text (part_json part) in
    rw (later, more)
    ((simp append_assoc refl)
    ∙ ap (λ (p : Part). out ++ (comma ++ (compact_text (part_json p) ++ items_text true rest))) is
    ∙ ap (λ (ps : List Part). out ++ items_text (nat_lt 0 k) (items_of (map part_json ps))) (sym there)
    ∙ so_far)

-- ---- read back

repeating_read_back : GraphIsReadBack → (kind : Kind) (start : ℤ) (rep : Repeat)
    → IsValidGraphEvent (record { kind = kind; start = start; repeat = rep }) → BeginsOnPattern rep
    → reads_graph None (compact_text (repeating_json kind start rep) ++ 10 ∷ []) ≡ Ok (record { kind = kind; start = start; repeat = rep })
unfolding graph_written
repeating_read_back law kind start repeat.Once v h = absurd h
repeating_read_back law kind start (repeat.Pattern pattern range) v h = law kind start pattern range v h

pub event_is_read_back : GraphIsReadBack → PlanEventIsReadBack
event_is_read_back law event v h = repeating_read_back law event.kind event.start event.repeat v h

-- ---- a text without its line end

pub line_of : (text line : List ℕ) → text ≡ line ++ 10 ∷ [] → (1 ≤ length text) × (take (length text - 1) text ≡ line)
line_of text line e =
    let long : length text ≡ length line + 1 = ap length e ∙ length-append line (10 ∷ []) in
    let short : length text - 1 ≡ length line = omega (arith, long) in
    (omega (arith, long), ap₂ take short e ∙ take-append_seam line (10 ∷ []))
