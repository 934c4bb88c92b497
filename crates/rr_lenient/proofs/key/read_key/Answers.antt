use Rattle.std.proofs.Common.{refl, ◌∙◌}
use Rattle.rr_lenient.specs.Read.{read_of}
use Rattle.rr_lenient.proofs.KeyLemmas.{marks_are, read_is}
use Rattle.rr_lenient.proofs.key.read_key.Goals as goal

pub returns : goal.returns
returns c =
    let given = c.args.key.series in
    let read = c.in_ok-read.read in
    let is = read_is c.lenient_is_one.ensures given read.series read.until read.start c.in_ok-read.ensures.read in record {
      series = is.0;
      valid = c.in_ok-read.ensures.valid;
      zones = refl;
      place = refl;
      lengths = refl;
      marks = c.or.ensures ∙ marks_are read.until read.start c.args.key.marks (read_of given) is.1 is.2;
    }
