use Rattle.std.proofs.Common.{◌≡◌, sym, ap, subst, ◌∙◌, Contains, IfNone}
use Rattle.std.proofs.lemmas.Map.Made.{lookup_key_passes}
use Rattle.rr_shapes.specs.Slots.{IsKept}
use Rattle.rr_shapes.specs.Tables.{IsUnknown}
use Rattle.rr_shapes.proofs.SlotLemmas.{still_known}
use Rattle.rr_shapes.proofs.UnionLemmas.{finds_none, same_itself, same_pair, one_pair, there}
use Rattle.rr_shapes.proofs.pair_numbers.PairNumbers.get.Goals as goal
use Rattle.rr_shapes.proofs.pair_numbers.PairNumbers.get.Goals.{After-get_full, After-keep, in-Some+else-eq, in_default}

-- ---- if the slot has another pair

entries_stay : (c : After-get_full) → c.match-get.self-inside.known.entries ≡ c.self.inside.known.entries
entries_stay c = elim c.match-get.branch [
  | in-Some+else-eq w ↦ ap (λ u. u.known.entries) w.self-inside-is
  | in_default w ↦ ap (λ u. u.known.entries) w.self-inside-is
]

slots_stay : (c : After-get_full) → c.match-get.self-inside.slots.items ≡ c.self.inside.slots.items
slots_stay c = elim c.match-get.branch [
  | in-Some+else-eq w ↦ ap (λ u. u.slots.items) w.self-inside-is
  | in_default w ↦ ap (λ u. u.slots.items) w.self-inside-is
]

-- ---- and the map has the pair

found : (c : After-keep) → Contains c.match-get.self-inside.known.entries (c.args.pair, c.in_ok-number.number.now)
found c =
    let k = c.in_ok-number.field-0-1.now in
    let entries = c.match-get.self-inside.known.entries in
    let passes = lookup_key_passes (same_pair c.args.pair) entries k (sym c.in_ok-number.ensures.key) in
    subst (λ p. Contains entries (p, c.in_ok-number.number.now)) (sym (one_pair c.args.pair k passes))
    (there entries c.in_ok-number.field-0-0 (k, c.in_ok-number.number.now) c.in_ok-number.ensures.entry)

pub returns-clause-known : goal.returns-clause-known
returns-clause-known c =
    let at = goal.at.returns-clause-known c in
    subst (λ l. Contains l (c.args.pair, c.in_ok-number.number.now)) (entries_stay at.After-get_full ∙ c.self.view_is) (found at.After-keep)

pub invariant_of-self : goal.invariant_of-self
invariant_of-self c =
    let at = goal.at.invariant_of-self c in
    let entries = c.match-get.self-inside.known.entries in
    still_known c.self.inside.known.entries entries c.self.inside.slots.items c.keep.new.slots.items (c.args.pair, c.in_ok-number.number.now)
    c.self.invariant (subst (λ l. IsKept l c.keep.new.slots.items (c.args.pair, c.in_ok-number.number.now)) (slots_stay at.After-get_full) c.keep.ensures)
    (found at.After-keep) (λ known was other. subst (λ l. Contains l known) (sym (entries_stay at.After-get_full)) was)

pub returns-in_err-number-clause-unknown : goal.returns-in_err-number-clause-unknown
returns-in_err-number-clause-unknown c =
    let entries = c.match-get.self-inside.known.entries in
    let stays = entries_stay (goal.at.returns-in_err-number-clause-unknown c).After-get_full in
    subst (λ r. IfNone r (IsUnknown c.args.self.now c.args.pair)) (sym c.from_residual.ensures) (λ n known.
    finds_none (same_pair c.args.pair) entries c.args.pair n (same_itself c.args.pair) (sym c.in_err-number.ensures.value)
    (subst (λ l. Contains l (c.args.pair, n)) (sym (stays ∙ c.self.view_is)) known))
