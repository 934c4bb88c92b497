use Rattle.std.proofs.Common.{◌-◌, length, refl, arith}
use Rattle.std.proofs.lemmas.List.Elements.{All-get_or}
use Rattle.rr_differ.specs.Differences.{IsUpToMaxDay}
use Rattle.rr_differ.proofs.FurtherLemmas.{told_many, told_none, told_until}
use Rattle.rr_differ.proofs.further.further_of.Goals as goal

pub returns-then-found-lt2-clause-further : goal.returns-then-found-lt2-clause-further
returns-then-found-lt2-clause-further c = told_none c.args.found.now (omega (arith, c.if-found-lt2.true))

pub returns-then-count-gt-MOST_FURTHER-clause-further : goal.returns-then-count-gt-MOST_FURTHER-clause-further
returns-then-count-gt-MOST_FURTHER-clause-further c =
    told_many c.args.found.now (omega (arith, c.if-found-lt2.false, c.if-count-gt-MOST_FURTHER.true, c.requires.few))

pub returns-clause-further : goal.returns-clause-further
returns-clause-further c =
    told_until c.args.found.now (length c.args.found.now - 1) _ _ (omega (arith, c.if-found-lt2.false)) (omega (arith, c.if-found-lt2.false))
    (omega (arith, c.if-count-gt-MOST_FURTHER.false)) refl

pub returns-clause-day : goal.returns-clause-day
returns-clause-day c =
    All-get_or IsUpToMaxDay c.args.found.now (length c.args.found.now - 1) _ (omega (arith, c.if-found-lt2.false)) c.requires.days
