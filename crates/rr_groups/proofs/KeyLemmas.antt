-- Keys are in a total order, and two that tie are one key.
use Rattle.std.proofs.Common.{◌≡◌, sym, refl, ap}
use Rattle.std.specs.Cmp.{IsTotalOrder, nat_cmp_total}
use Rattle.std.specs.Cmp.Lexicographic.{nat_list_cmp_total}
use Rattle.std.specs.Ordering.{is_eq, is_lt, ordering_reverse}
use Rattle.std.specs.declared.cmp.Ordering.TheVariants.{Less, Equal}
use Rattle.std.proofs.lemmas.Bool.{true≢false}
use Rattle.std.proofs.lemmas.Map.Lookups.{exact_bytes, exact_unsigned}
use Rattle.rr_seam.specs.Keys.{key_cmp}
use Rattle.rr_seam.specs.declared.key.Key.{Key}
use Rattle.rr_seam.specs.declared.key.Key.TheVariants as key

key_antisymm : (x y : Key) → key_cmp x y ≡ ordering_reverse (key_cmp y x)
key_antisymm (key.Line n) (key.Line m) = nat_cmp_total.antisymm n m
key_antisymm (key.Line n) (key.Number m) = refl
key_antisymm (key.Line n) (key.Uid v) = refl
key_antisymm (key.Number n) (key.Line m) = refl
key_antisymm (key.Number n) (key.Number m) = nat_cmp_total.antisymm n m
key_antisymm (key.Number n) (key.Uid v) = refl
key_antisymm (key.Uid u) (key.Line m) = refl
key_antisymm (key.Uid u) (key.Number m) = refl
key_antisymm (key.Uid u) (key.Uid v) = nat_list_cmp_total.antisymm u v

key_trans : (x y z : Key) → key_cmp x y ≡ Less → key_cmp y z ≡ Less → key_cmp x z ≡ Less
key_trans (key.Line n) (key.Line m) (key.Line k) h g = nat_cmp_total.trans n m k h g
key_trans (key.Line n) (key.Line m) (key.Number k) h g = refl
key_trans (key.Line n) (key.Line m) (key.Uid w) h g = refl
key_trans (key.Line n) (key.Number m) (key.Line k) h g = absurd (true≢false (sym (ap is_lt g)))
key_trans (key.Line n) (key.Number m) (key.Number k) h g = refl
key_trans (key.Line n) (key.Number m) (key.Uid w) h g = refl
key_trans (key.Line n) (key.Uid v) (key.Line k) h g = absurd (true≢false (sym (ap is_lt g)))
key_trans (key.Line n) (key.Uid v) (key.Number k) h g = absurd (true≢false (sym (ap is_lt g)))
key_trans (key.Line n) (key.Uid v) (key.Uid w) h g = refl
key_trans (key.Number n) (key.Line m) z h g = absurd (true≢false (sym (ap is_lt h)))
key_trans (key.Number n) (key.Number m) (key.Line k) h g = absurd (true≢false (sym (ap is_lt g)))
key_trans (key.Number n) (key.Number m) (key.Number k) h g = nat_cmp_total.trans n m k h g
key_trans (key.Number n) (key.Number m) (key.Uid w) h g = refl
key_trans (key.Number n) (key.Uid v) (key.Line k) h g = absurd (true≢false (sym (ap is_lt g)))
key_trans (key.Number n) (key.Uid v) (key.Number k) h g = absurd (true≢false (sym (ap is_lt g)))
key_trans (key.Number n) (key.Uid v) (key.Uid w) h g = refl
key_trans (key.Uid u) (key.Line m) z h g = absurd (true≢false (sym (ap is_lt h)))
key_trans (key.Uid u) (key.Number m) z h g = absurd (true≢false (sym (ap is_lt h)))
key_trans (key.Uid u) (key.Uid v) (key.Line k) h g = absurd (true≢false (sym (ap is_lt g)))
key_trans (key.Uid u) (key.Uid v) (key.Number k) h g = absurd (true≢false (sym (ap is_lt g)))
key_trans (key.Uid u) (key.Uid v) (key.Uid w) h g = nat_list_cmp_total.trans u v w h g

key_congr : (x y z : Key) → key_cmp x y ≡ Equal → key_cmp x z ≡ key_cmp y z
key_congr (key.Line n) (key.Line m) (key.Line k) e = nat_cmp_total.congr n m k e
key_congr (key.Line n) (key.Line m) (key.Number k) e = refl
key_congr (key.Line n) (key.Line m) (key.Uid w) e = refl
key_congr (key.Line n) (key.Number m) z e = absurd (true≢false (sym (ap is_eq e)))
key_congr (key.Line n) (key.Uid v) z e = absurd (true≢false (sym (ap is_eq e)))
key_congr (key.Number n) (key.Line m) z e = absurd (true≢false (sym (ap is_eq e)))
key_congr (key.Number n) (key.Number m) (key.Line k) e = refl
key_congr (key.Number n) (key.Number m) (key.Number k) e = nat_cmp_total.congr n m k e
key_congr (key.Number n) (key.Number m) (key.Uid w) e = refl
key_congr (key.Number n) (key.Uid v) z e = absurd (true≢false (sym (ap is_eq e)))
key_congr (key.Uid u) (key.Line m) z e = absurd (true≢false (sym (ap is_eq e)))
key_congr (key.Uid u) (key.Number m) z e = absurd (true≢false (sym (ap is_eq e)))
key_congr (key.Uid u) (key.Uid v) (key.Line k) e = refl
key_congr (key.Uid u) (key.Uid v) (key.Number k) e = refl
key_congr (key.Uid u) (key.Uid v) (key.Uid w) e = nat_list_cmp_total.congr u v w e

pub key_cmp_total : IsTotalOrder key_cmp
key_cmp_total = record { antisymm = key_antisymm; trans = key_trans; congr = key_congr }

pub key_exact : (x y : Key) → key_cmp x y ≡ Equal → x ≡ y
key_exact (key.Line n) (key.Line m) e = ap key.Line (exact_unsigned n m e)
key_exact (key.Line n) (key.Number m) e = absurd (true≢false (sym (ap is_eq e)))
key_exact (key.Line n) (key.Uid v) e = absurd (true≢false (sym (ap is_eq e)))
key_exact (key.Number n) (key.Line m) e = absurd (true≢false (sym (ap is_eq e)))
key_exact (key.Number n) (key.Number m) e = ap key.Number (exact_unsigned n m e)
key_exact (key.Number n) (key.Uid v) e = absurd (true≢false (sym (ap is_eq e)))
key_exact (key.Uid u) (key.Line m) e = absurd (true≢false (sym (ap is_eq e)))
key_exact (key.Uid u) (key.Number m) e = absurd (true≢false (sym (ap is_eq e)))
key_exact (key.Uid u) (key.Uid v) e = ap key.Uid (exact_bytes u v e)
