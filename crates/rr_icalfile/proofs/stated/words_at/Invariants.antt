use Rattle.std.proofs.Common.{◌≡◌, ◌++◌, drop, map}
use Rattle.rr_events.specs.Finding.{lines_in}
use Rattle.rr_icalfile.specs.Calendar.{texts_at}
use Rattle.rr_icalfile.specs.Words.{event_words}
use Rattle.rr_icalfile.proofs.stated.words_at.Given as goal

abbrev pub invariant-loop-index : goal.invariant-loop-index
invariant-loop-index l =
    l.words.items ++ map event_words (texts_at (map lines_in l.pieces) (drop l.index-index l.indexes)) ≡ map event_words (texts_at (map lines_in l.pieces) l.indexes)
