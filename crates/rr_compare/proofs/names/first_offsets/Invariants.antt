use Rattle.std.proofs.Common.{◌≡◌, drop}
use Rattle.rr_offsets.specs.Meanings.{meaning_in}
use Rattle.rr_compare.specs.Names.{first_meaning}
use Rattle.rr_compare.proofs.NameLemmas.{texts}
use Rattle.rr_compare.proofs.names.first_offsets.Given as goal

-- the names from here on decide
abbrev pub invariant-loop-name : goal.invariant-loop-name
invariant-loop-name l =
    first_meaning (meaning_in l.zones) (texts l.names) ≡ first_meaning (meaning_in l.zones) (texts (drop l.name-index l.names))
