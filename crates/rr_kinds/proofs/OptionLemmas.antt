-- What holds of a result holds of it in other words.
use Rattle.std.specs.Prelude.{Option, None, Some, IfNone, IfSome}

pub if_none_map : {X : Type 0} (P Q : Type 0) → (P → Q) → (r : Option X) → IfNone r P → IfNone r Q
if_none_map P Q f None h = f h
if_none_map P Q f (Some x) h = tt

pub if_some_map : {X : Type 0} (P Q : X → Type 0) → ((x : X) → P x → Q x) → (r : Option X) → IfSome r P → IfSome r Q
if_some_map P Q f None h = tt
if_some_map P Q f (Some x) h = f x h
