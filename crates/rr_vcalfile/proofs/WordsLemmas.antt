-- What the events of indexes make, one after another.
use Rattle.std.proofs.Common.{◌≡◌, ℕ, ◌≤◌, ℤ, List, ◌++◌, length, map, Option, Result, Ok, Err, sym, ap, ◌∙◌}
use Rattle.std.specs.Prelude.{IfOk, option_map, option_to_list}
use Rattle.std.proofs.lemmas.List.{append-nil}
use Rattle.std.proofs.lemmas.Option.{slice_get-map, slice_get_past}
use Rattle.rr_model.specs.declared.line.Line.{Line}
use Rattle.rr_seam.specs.Words.{Words}
use Rattle.rr_vcalfile.specs.Parts.{lines_in}
use Rattle.rr_vcalfile.specs.Stated.{stated_in, text_at, texts_at}
use Rattle.rr_vcalfile.specs.Words.{words_in}
use Rattle.rr_vcalfile.specs.declared.part.Part.{Part}

-- beyond the last event nothing is put
pub none_put : {A : Type 0} (f : List Line → A) (found : List A) (parts : List Part) (index : ℕ) → length parts ≤ index
    → found ≡ found ++ map f (text_at (map lines_in parts) index)
none_put f found parts index past =
    sym (ap (λ (o : Option (List Line)). found ++ map f (option_to_list o))
    (slice_get-map lines_in parts index ∙ ap (option_map lines_in) (slice_get_past parts index past)) ∙ append-nil found)

-- the words of a file are those that it states
pub words_stated : {E : Type 0} (offset : Option ℤ) (parts listed : List Part) (indexes : List ℕ) (r : Result Words E) → listed ≡ parts
    → IfOk r (λ words. words ≡ words_in (texts_at (map lines_in listed) indexes))
    → IfOk r (λ words. words ≡ (stated_in offset (map lines_in parts) indexes).words)
unfolding stated_in
words_stated offset parts listed indexes (Ok words) same h = h ∙ ap (λ (ps : List Part). words_in (texts_at (map lines_in ps) indexes)) same
words_stated offset parts listed indexes (Err e) same h = tt
