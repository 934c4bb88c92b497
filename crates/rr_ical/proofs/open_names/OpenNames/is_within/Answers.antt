use Rattle.std.proofs.Common.{◌≡◌, ℕ, Bool, true, false, List, reverse, ap, sym, ◌∙◌, arith, nat_lt}
use Rattle.std.specs.Prelude.{◌||◌}
use Rattle.std.specs.List.{list_any}
use Rattle.std.proofs.lemmas.Bool.Decides.{nat_tests}
use Rattle.rr_model.specs.Text.Event.{is_event}
use Rattle.rr_ical.specs.Sought.{is_event_or_zone, is_observance, is_within, is_zone}
use Rattle.rr_ical.specs.declared.open_names.Sought.{Sought}
use Rattle.rr_ical.proofs.OpenNameLemmas.{any-counted, any-either}
use Rattle.rr_ical.proofs.open_names.OpenNames.is_within.Goals as goal

pub returns-in-Events : goal.returns-in-Events
returns-in-Events c =
    ap (λ (n : ℕ). nat_lt 0 n) c.self.invariant.0 ∙ any-counted is_event (reverse c.self.inside.names.items) ∙ ap (list_any is_event) c.self.view_is
    ∙ ap (λ (s : Sought). is_within s c.args.self.now) (sym c.in-Events.is)

-- whether an event or a zone is open
either : (events zones : ℕ) (names : List (List ℕ)) (now : List (List ℕ)) → nat_lt 0 events ≡ list_any is_event names → nat_lt 0 zones ≡ list_any is_zone names
    → names ≡ now → (nat_lt 0 events || nat_lt 0 zones) ≡ list_any is_event_or_zone now
either events zones names now e z same = ap (λ (b : Bool). b || nat_lt 0 zones) e ∙ ap (λ (b : Bool). list_any is_event names || b) z ∙ any-either is_event is_zone names ∙ ap (list_any is_event_or_zone) same

pub returns-then-self-gt0 : goal.returns-then-self-gt0
returns-then-self-gt0 c =
    let some : nat_lt 0 c.self.inside.events ≡ true = grind (arith, nat_tests, c.if-self-gt0.true) in
    some ∙ ap (λ (b : Bool). b || nat_lt 0 c.self.inside.zones) (sym some)
    ∙ either c.self.inside.events c.self.inside.zones (reverse c.self.inside.names.items) c.args.self.now
    (ap (λ (n : ℕ). nat_lt 0 n) c.self.invariant.0 ∙ any-counted is_event (reverse c.self.inside.names.items))
    (ap (λ (n : ℕ). nat_lt 0 n) c.self.invariant.1 ∙ any-counted is_zone (reverse c.self.inside.names.items)) c.self.view_is
    ∙ ap (λ (s : Sought). is_within s c.args.self.now) (sym c.in-EventsAndZones.is)

pub returns-else-self-gt0 : goal.returns-else-self-gt0
returns-else-self-gt0 c =
    let none : nat_lt 0 c.self.inside.events ≡ false = grind (arith, nat_tests, c.if-self-gt0.false) in
    ap (λ (b : Bool). b || nat_lt 0 c.self.inside.zones) (sym none)
    ∙ either c.self.inside.events c.self.inside.zones (reverse c.self.inside.names.items) c.args.self.now
    (ap (λ (n : ℕ). nat_lt 0 n) c.self.invariant.0 ∙ any-counted is_event (reverse c.self.inside.names.items))
    (ap (λ (n : ℕ). nat_lt 0 n) c.self.invariant.1 ∙ any-counted is_zone (reverse c.self.inside.names.items)) c.self.view_is
    ∙ ap (λ (s : Sought). is_within s c.args.self.now) (sym c.in-EventsAndZones.is)

pub returns-in-Observances : goal.returns-in-Observances
returns-in-Observances c =
    ap (λ (n : ℕ). nat_lt 0 n) c.self.invariant.2 ∙ any-counted is_observance (reverse c.self.inside.names.items) ∙ ap (list_any is_observance) c.self.view_is
    ∙ ap (λ (s : Sought). is_within s c.args.self.now) (sym c.in-Observances.is)
