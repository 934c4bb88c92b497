use Rattle.rr_html.proofs.HtmlLemmas.{pages_are_clean as law}
use Rattle.rr_html.proofs.laws.pages_are_clean.Goals as goal

pub returns : goal.returns
returns c = law
