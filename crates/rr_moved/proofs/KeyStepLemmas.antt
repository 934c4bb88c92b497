-- Steps of which the first refusal ends the key.
use Rattle.std.proofs.Common.{◌≡◌, ℕ, Bool, true, false, if◌then◌else◌, List, [], ◌∷◌, Result, Ok, Err, refl, ap, subst}
use Rattle.rr_model.specs.Answers.{Answers}
use Rattle.rr_model.specs.declared.refusal.Fault.{Fault}
use Rattle.rr_model.specs.declared.refusal.Fault.TheVariants as fault
use Rattle.rr_model.specs.declared.refusal.Refusal.{Refusal}
use Rattle.rr_seam.specs.Steps.{◌>=>◌, AnswersKey, at_event, fault_at, key_in_turn}
use Rattle.rr_seam.specs.declared.refusal.KeyFault.{KeyFault}
use Rattle.rr_seam.specs.declared.refusal.KeyFault.TheVariants.{Refused, NoMemory}
use Rattle.rr_seam.specs.declared.refusal.KeyRefusal.{KeyRefusal}

-- ---- what a call answers if it goes on, and if it ends

module _ {A B : Type 0} (f : A → Result B KeyRefusal) where
  pub goes_on : (m : Result A KeyRefusal) (x : A) (r : Result B KeyFault) → m ≡ Ok x → AnswersKey (f x) r → AnswersKey (m >=> f) r
  goes_on m x r is h = rw is h

  pub ends : (m : Result A KeyRefusal) (fault : KeyFault) → AnswersKey m (Err fault) → AnswersKey (m >=> f) (Err fault)
  ends m (Refused r) h = ap (λ n. n >=> f) h
  ends m NoMemory h = tt

pub at_event-ok : {A : Type 0} (line : ℕ) (m : Result A Refusal) (x : A) → m ≡ Ok x → at_event line m ≡ Ok x
at_event-ok line m x is = ap (at_event line) is

pub at_event-refused : {A : Type 0} (line : ℕ) (m : Result A Refusal) (r : Refusal) → m ≡ Err r
    → AnswersKey (at_event line m) (Err (fault_at line (fault.Refused r)))
at_event-refused line m r is = ap (at_event line) is

pub at_event-fault : {A : Type 0} (line : ℕ) (m : Result A Refusal) (f : Fault) → Answers m (Err f) → AnswersKey (at_event line m) (Err (fault_at line f))
at_event-fault line m (fault.Refused r) h = ap (at_event line) h
at_event-fault line m fault.NoMemory h = tt

-- ---- what follows if the steps end well

pub then_ok : {A B : Type 0} (m : Result A KeyRefusal) (f : A → Result B KeyRefusal) (y : B) → m >=> f ≡ Ok y → (x : A) × (m ≡ Ok x) × (f x ≡ Ok y)
then_ok (Ok x) f y h = (x, refl, h)
then_ok (Err r) f y h = absurd (cc)

pub was_ok : {A : Type 0} (line : ℕ) (m : Result A Refusal) (x : A) → at_event line m ≡ Ok x → m ≡ Ok x
was_ok line (Ok z) x h = cc
was_ok line (Err r) x h = absurd (cc)

pub passed : {A : Type 0} (b : Bool) (r : KeyRefusal) (m : Result A KeyRefusal) (y : A) → (if b then Err r else m) ≡ Ok y → (b ≡ false) × (m ≡ Ok y)
passed true r m y h = absurd (cc)
passed false r m y h = (refl, h)

pub in_turn-keeps : {X Y : Type 0} (step : X → Y → Result X KeyRefusal) (P : X → Type 0) → ((x : X) (y : Y) (z : X) → P x → step x y ≡ Ok z → P z)
    → (x : X) (ys : List Y) (z : X) → P x → key_in_turn step x ys ≡ Ok z → P z
in_turn-keeps step P keeps x [] z p h =
    let same : x ≡ z = cc in
    subst P same p
in_turn-keeps step P keeps x (y ∷ ys) z p h =
    let one = then_ok (step x y) (λ next. key_in_turn step next ys) z h in
    in_turn-keeps step P keeps one.0 ys z (keeps x y one.0 p one.1) one.2
