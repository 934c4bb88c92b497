-- Names by the table, worked out from the definitions alone.
use Rattle.std.proofs.Common.{◌≡◌, true, false, codes, refl}
use Rattle.rr_windows.specs.Names.{is_same_zone, other_names}
use Rattle.rr_windows.specs.Table.{table}

windows_beside_berlin : is_same_zone (codes "W. Europe Standard Time") (codes "Europe/Berlin") ≡ true
unfolding is_same_zone other_names table
windows_beside_berlin = refl

berlin_beside_vienna : is_same_zone (codes "Europe/Berlin") (codes "Europe/Vienna") ≡ false
unfolding is_same_zone other_names table
berlin_beside_vienna = refl
