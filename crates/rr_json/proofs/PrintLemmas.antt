-- A report put together from its parts.
use Rattle.std.proofs.Common.{◌≡◌, ℕ, ◌+◌, ◌<◌, ◌≤◌, List, [], ◌∷◌, ◌++◌, length, get_or, take, drop, ◌-◌, Bool, true, false, codes, refl, sym, ap, ap₂, ◌∙◌, append_assoc}
use Rattle.std.proofs.lemmas.List.{at_drop_all, drop_more}
use Rattle.std.specs.Prelude.{not, ◌||◌}
use Rattle.json.specs.Print.{escape_byte}
use Rattle.serde_json.specs.Data.{Items}
use Rattle.serde_json.specs.Written.{comma_if, compact_text, items_text, members_text}
use Rattle.rr_facts.specs.Facts.{Facts}
use Rattle.rr_json.specs.Event.{event_json}
use Rattle.rr_json.specs.Files.{facts_members}
use Rattle.rr_json.specs.Json.{counts_json, events_items, json_text, status_number, with_event}
use Rattle.rr_json.proofs.TextLemmas.{all_but_first}
use Rattle.rr_trip.specs.Counts.{counts_of, status_of}
use Rattle.rr_trip.specs.Printed.{is_difference}
use Rattle.rr_trip.specs.declared.report.Counts.{Counts}
use Rattle.rr_trip.specs.declared.report.ReportLine.{ReportLine}
use Rattle.rr_trip.specs.declared.report.Status.{Status}

-- ---- events

-- the events of a line behind others
pub one_told : (only later : Bool) (line : ReportLine) (out mid after : List ℕ) (rest : Items) → (not only || is_difference line.said) ≡ true
    → mid ≡ out ++ comma_if later → after ≡ mid ++ compact_text (event_json line)
    → after ++ items_text true rest ≡ out ++ items_text later (with_event only line rest)
one_told only later line out mid after rest told comma text =
    rw (told, text, comma)
    (append_assoc (out ++ comma_if later) (compact_text (event_json line)) (items_text true rest)
    ∙ append_assoc out (comma_if later) (compact_text (event_json line) ++ items_text true rest))

-- one line more
pub one_line : (only : Bool) (lines : List ReportLine) (i : ℕ) (d line : ReportLine) (later next : Bool) (out after all : List ℕ) → i < length lines
    → line ≡ get_or lines i d → ((rest : Items) → after ++ items_text next rest ≡ out ++ items_text later (with_event only line rest))
    → out ++ items_text later (events_items only (drop i lines)) ≡ all → after ++ items_text next (events_items only (drop (i + 1) lines)) ≡ all
one_line only lines i d line later next out after all l is put so_far =
    let there = drop_more lines i d l ∙ ap (λ (x : ReportLine). x ∷ drop (i + 1) lines) (sym is) in
    put (events_items only (drop (i + 1) lines)) ∙ ap (λ (xs : List ReportLine). out ++ items_text later (events_items only xs)) (sym there) ∙ so_far

-- no line is left
pub no_line : (only : Bool) (lines : List ReportLine) (i : ℕ) (later : Bool) (out all : List ℕ) → length lines ≤ i
    → out ++ items_text later (events_items only (drop i lines)) ≡ all → out ++ 93 ∷ [] ≡ all
no_line only lines i later out all end so_far =
    sym (at_drop_all (λ (xs : List ReportLine). out ++ items_text later (events_items only xs)) lines i end) ∙ so_far

-- ---- a report

-- an object without its first brace
pub without_brace : (seen text rest : List ℕ) → seen ≡ text → text ≡ 123 ∷ rest → take (length seen - 1) (drop 1 seen) ≡ rest
without_brace seen text rest is object = all_but_first seen ∙ ap (λ (l : List ℕ). drop 1 l) (is ∙ object)

grouped : (a c b e f n : List ℕ) → (((a ++ c) ++ b) ++ e) ++ 44 ∷ (f ++ n) ≡ (a ++ (c ++ (b ++ (e ++ 44 ∷ f)))) ++ n
grouped a c b e f n = simp append_assoc refl

behind_list : (listed f n : List ℕ) → ((listed ++ 93 ∷ 44 ∷ []) ++ f) ++ n ≡ (listed ++ 93 ∷ []) ++ 44 ∷ (f ++ n)
behind_list listed f n = simp append_assoc refl

-- the counts, the events, and what stands behind them
pub whole_text : (facts : Facts) (lines : List ReportLine) (listed : List ℕ)
    → listed ++ 93 ∷ []
    ≡ ((codes "{\"counts\":" ++ compact_text (counts_json (counts_of lines))) ++ codes ",\"events\":[")
    ++ items_text false (events_items facts.only_differences lines)
    → ((listed ++ codes "],") ++ members_text false (facts_members facts (status_number (status_of (counts_of lines))))) ++ 10 ∷ [] ≡ json_text facts lines
unfolding escape_byte json_text
whole_text facts lines listed e =
    let behind = members_text false (facts_members facts (status_number (status_of (counts_of lines)))) in
    behind_list listed behind (10 ∷ []) ∙ ap (λ (l : List ℕ). l ++ 44 ∷ (behind ++ 10 ∷ [])) e
    ∙ grouped (codes "{\"counts\":") (compact_text (counts_json (counts_of lines))) (codes ",\"events\":[")
    (items_text false (events_items facts.only_differences lines)) behind (10 ∷ [])

-- the parts of a report, one behind the other
pub whole_report : (facts : Facts) (lines seen : List ReportLine) (counts : Counts) (status : Status) (n : ℕ)
    → (start counted opened listed separated finished all : List ℕ) → counts ≡ counts_of lines → status ≡ status_of counts → n ≡ status_number status
    → seen ≡ lines → start ≡ codes "{\"counts\":" → counted ≡ start ++ compact_text (counts_json counts) → opened ≡ counted ++ codes ",\"events\":["
    → listed ++ 93 ∷ [] ≡ opened ++ items_text false (events_items facts.only_differences seen) → separated ≡ listed ++ codes "],"
    → finished ≡ separated ++ members_text false (facts_members facts n) → all ≡ finished ++ 10 ∷ [] → all ≡ json_text facts lines
whole_report facts lines seen counts status n start counted opened listed separated finished all of_counts of_status of_n of_seen of_start of_counted
    of_opened of_listed of_separated of_finished of_all =
    let first : counted ≡ codes "{\"counts\":" ++ compact_text (counts_json (counts_of lines)) =
    of_counted ∙ ap₂ (λ (s : List ℕ) (c : Counts). s ++ compact_text (counts_json c)) of_start of_counts in
    let events = ap₂ (λ (o : List ℕ) (xs : List ReportLine). o ++ items_text false (events_items facts.only_differences xs))
    (of_opened ∙ ap (λ (l : List ℕ). l ++ codes ",\"events\":[") first) of_seen in
    let ends : n ≡ status_number (status_of (counts_of lines)) = of_n ∙ ap status_number (of_status ∙ ap status_of of_counts) in
    of_all
    ∙ ap (λ (l : List ℕ). l ++ 10 ∷ [])
    (of_finished ∙ ap₂ (λ (s : List ℕ) (m : ℕ). s ++ members_text false (facts_members facts m)) of_separated ends)
    ∙ whole_text facts lines listed (of_listed ∙ events)
