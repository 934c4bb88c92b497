-- What follows from what an answer says.
use Rattle.std.proofs.Common.{Option, None, Some, IfNone, IfSome}

module _ {A : Type 0} where
  -- if there is none, what follows from what that says
  pub none_then : {X Y : Type 0} (r : Option A) → (X → Y) → IfNone r X → IfNone r Y
  none_then None f h = f h
  none_then (Some x) f h = tt

  -- if there is one, what follows from what is said of it
  pub some_then : {X Y : A → Type 0} (r : Option A) → ((x : A) → X x → Y x) → IfSome r X → IfSome r Y
  some_then None f h = tt
  some_then (Some x) f h = f x h
