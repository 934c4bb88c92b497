use Rattle.rr_text.proofs.PrintedLemmas.{extended_text_injective}
use Rattle.rr_text.proofs.laws.printed_texts_differ.Goals as goal

pub returns : goal.returns
returns c = λ kind t u h k same. extended_text_injective kind t u h.0 h.1 k.0 k.1 same
