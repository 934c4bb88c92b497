use Rattle.std.proofs.Common.{◌≡◌, ◌++◌, drop, map}
use Rattle.rr_vcalfile.specs.Parts.{lines_in}
use Rattle.rr_vcalfile.specs.Stated.{texts_at}
use Rattle.rr_vcalfile.specs.Words.{event_words}
use Rattle.rr_vcalfile.proofs.words.words_at.Given as goal

abbrev pub invariant-loop-index : goal.invariant-loop-index
invariant-loop-index l =
    l.words.items ++ map event_words (texts_at (map lines_in l.parts) (drop l.index-index l.indexes)) ≡ map event_words (texts_at (map lines_in l.parts) l.indexes)
