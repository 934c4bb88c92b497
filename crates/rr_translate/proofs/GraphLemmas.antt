-- The text of the first pattern states the occurrences of its set.
use Rattle.std.proofs.Common.{ℕ, List, ℤ, refl, sym, subst, inr, None, Result, Ok, Err}
use Rattle.rr_family.specs.GraphProfile.{IsFirstPattern, event_of}
use Rattle.rr_graph.proofs.GraphReadBackLemmas.{graph_is_read_back}
use Rattle.rr_graph.proofs.OccurrenceLemmas.{counterpart_has_occurrences}
use Rattle.rr_graph.proofs.SoundLemmas.{counterpart_is_sound}
use Rattle.rr_graph.specs.Written.{IsWrittenText}
use Rattle.rr_graphfind.specs.Found.{IsFirstRepeat}
use Rattle.rr_model.specs.Graph.Validity.{IsValidGraphEvent}
use Rattle.rr_model.specs.Graph.Counterpart.{series_of_graph}
use Rattle.rr_model.specs.Graph.Text.{graph_written}
use Rattle.rr_model.specs.Moment.{Occurrences}
use Rattle.rr_model.specs.Series.Occurrences.{Occurs}
use Rattle.rr_model.specs.Sets.Verdict.{HaveEqualOccurrences}
use Rattle.rr_model.specs.declared.graph.Pattern.{Pattern}
use Rattle.rr_model.specs.declared.graph.Range.{Range}
use Rattle.rr_model.specs.declared.graph.Repeat.{Repeat}
use Rattle.rr_model.specs.declared.graph.Repeat.TheVariants as repeat
use Rattle.rr_model.specs.declared.kind.Kind.{Kind}
use Rattle.rr_model.specs.declared.lang.Lang.TheVariants.{Graph}
use Rattle.rr_translate.specs.Target.{States}
use Rattle.rr_model.specs.Series.FirstRefusal.{Limits, IsLimitRefusal}
use Rattle.rr_model.specs.declared.refusal.Fault.{Fault}
use Rattle.rr_model.specs.declared.refusal.Fault.TheVariants.{Refused, NoMemory}
use Rattle.rr_model.specs.declared.rule.Series.{Series}
use Rattle.rr_model.specs.declared.sketch.Sketch.{Sketch}
use Rattle.rr_model.specs.Sets.Sketch.{StandsIn, StandsFor}
use Rattle.rr_translate.specs.Translated.{IsGraphText, HasNoPattern, IsSaid, IsAnswered}
use Rattle.rr_model.proofs.EqualLemmas.{HaveEqualOccurrences-trans}
use Rattle.rr_translate.proofs.SetLemmas.{first_pattern_of, no_pattern_of}
use Rattle.rr_translate.proofs.SoundLemmas.{sound_is_not_refused}

module _ (P : Occurrences) (pattern : Pattern) (range : Range) (kind : Kind) (start : ℤ) (first : IsFirstPattern P pattern range kind start) where
  equal : HaveEqualOccurrences (Occurs (series_of_graph (event_of pattern range kind start))) P
  equal k t =
      let a = counterpart_has_occurrences (event_of pattern range kind start) k t first.is_pattern.valid in
      let b = first.is_pattern.equal k t in
      (λ o. b.0 (a.1 o), λ p. a.0 (b.1 p))

  graph_states : States Graph P (graph_written kind start pattern range)
  graph_states = record {
    series = series_of_graph (event_of pattern range kind start);
    is_read = rw (graph_is_read_back kind start pattern range first.is_pattern.valid first.begins) refl;
    sound = sound_is_not_refused _ (counterpart_is_sound (event_of pattern range kind start) first.is_pattern.valid);
    equal = equal;
  }

  -- the pattern as it is written
  pub is_graph_text : IsGraphText P (graph_written kind start pattern range)
  is_graph_text =
      record { pattern = pattern; range = range; kind = kind; start = start; is_first = first; written = refl; states = graph_states }

module _ (P Q : Occurrences) (same : HaveEqualOccurrences P Q) (kind : Kind) (start : ℤ) where
  -- an event that repeats by the first pattern is valid
  pub repeat_is_valid : (r : Repeat) → IsFirstRepeat P r kind start → IsValidGraphEvent (record { kind = kind; start = start; repeat = r })
  repeat_is_valid repeat.Once f = absurd f
  repeat_is_valid (repeat.Pattern pattern range) f = f.is_pattern.valid

  -- its text
  pub repeat_is_written : (r : Repeat) (text : List ℕ) → IsFirstRepeat P r kind start → IsWrittenText kind start r text → IsGraphText Q text
  repeat_is_written repeat.Once text f w = absurd f
  repeat_is_written (repeat.Pattern pattern range) text f w =
      subst (IsGraphText Q) (sym w) (is_graph_text Q pattern range kind start (first_pattern_of P Q same pattern range kind start f))

module _ (P Q : Occurrences) (same : HaveEqualOccurrences P Q) where
  -- the text of a set is that of each set with the same occurrences
  pub graph_text_of : (text : List ℕ) → IsGraphText P text → IsGraphText Q text
  graph_text_of text g = record {
    pattern = g.pattern;
    range = g.range;
    kind = g.kind;
    start = g.start;
    is_first = first_pattern_of P Q same g.pattern g.range g.kind g.start g.is_first;
    written = g.written;
    states =
        record { series = g.states.series; is_read = g.states.is_read; sound = g.states.sound; equal = HaveEqualOccurrences-trans _ P Q g.states.equal same };
  }

-- what is said of the days of a series that no limit refuses is what is answered of the series
pub said_is_answered : {X : Type 0} (items : X → List ℕ) (limits : Limits) (series : Series) (sketch : Sketch) (result : Result X Fault)
    → IsLimitRefusal limits series None → StandsFor sketch (Occurs series)
    → IsSaid (λ x. IsGraphText (StandsIn sketch) (items x)) (HasNoPattern (StandsIn sketch)) result
    → IsAnswered limits series (λ x. IsGraphText (Occurs series) (items x)) (HasNoPattern (Occurs series)) result
said_is_answered items limits series sketch (Ok x) judged stands s = (judged, graph_text_of (StandsIn sketch) (Occurs series) stands (items x) s)
said_is_answered items limits series sketch (Err (Refused refusal)) judged stands s =
    inr (judged, no_pattern_of (StandsIn sketch) (Occurs series) stands s.0, s.1)
said_is_answered items limits series sketch (Err NoMemory) judged stands s = tt
