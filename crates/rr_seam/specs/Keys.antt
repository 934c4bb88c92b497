-- What an event is found again by (RFC 5545, section 3.8.4.7; Microsoft Graph, event, iCalUId).
use Rattle.std.specs.Prelude.{Bool}
use Rattle.std.specs.Cmp.Lexicographic.{slice_cmp}
use Rattle.std.specs.Ordering.{is_eq, is_lt, nat_cmp}
use Rattle.std.specs.declared.cmp.Ordering.{Ordering}
use Rattle.std.specs.declared.cmp.Ordering.TheVariants.{Less, Greater}
use Rattle.rr_seam.specs.declared.key.Key.{Key}
use Rattle.rr_seam.specs.declared.key.Key.TheVariants as key

-- events without a name come first, by line, then by number in a list, then names by bytes
abbrev pub key_cmp : Key → Key → Ordering
key_cmp (key.Line n) (key.Line m) = nat_cmp n m
key_cmp (key.Line n) (key.Number m) = Less
key_cmp (key.Line n) (key.Uid v) = Less
key_cmp (key.Number n) (key.Line m) = Greater
key_cmp (key.Number n) (key.Number m) = nat_cmp n m
key_cmp (key.Number n) (key.Uid v) = Less
key_cmp (key.Uid u) (key.Line m) = Greater
key_cmp (key.Uid u) (key.Number m) = Greater
key_cmp (key.Uid u) (key.Uid v) = slice_cmp nat_cmp u v

-- one key is below another
abbrev pub key_lt : Key → Key → Bool
key_lt a b = is_lt (key_cmp a b)

-- the two keys are one key
abbrev pub is_same_key : Key → Key → Bool
is_same_key a b = is_eq (key_cmp a b)
