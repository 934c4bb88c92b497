-- What is appended to known bytes, piece by piece.
use Rattle.std.proofs.Common.{◌≡◌, ℕ, List, [], ◌++◌, append_assoc, Option, Some, None, sym, ap, ◌∙◌}
use Rattle.std.proofs.lemmas.List.{append-nil}
use Rattle.std.specs.Io.KnownBytes.{Appends}

pub nothing_appended : (old : Option (List ℕ)) → Appends old old []
nothing_appended None = tt
nothing_appended (Some x) = sym (append-nil x)

-- two pieces, one after the other
pub two_appended : (old mid new : Option (List ℕ)) (xs ys : List ℕ) → Appends old mid xs → Appends mid new ys → Appends old new (xs ++ ys)
two_appended None mid new xs ys e f = tt
two_appended (Some x) None new xs ys e f = absurd e
two_appended (Some x) (Some y) None xs ys e f = f
two_appended (Some x) (Some y) (Some z) xs ys e f = f ∙ ap (λ t. t ++ ys) e ∙ append_assoc x xs ys

pub three_appended : (o0 o1 o2 o3 : Option (List ℕ)) (a b c : List ℕ) → Appends o0 o1 a → Appends o1 o2 b → Appends o2 o3 c
    → Appends o0 o3 (a ++ b ++ c)
three_appended o0 o1 o2 o3 a b c e1 e2 e3 = two_appended o0 o2 o3 (a ++ b) c (two_appended o0 o1 o2 a b e1 e2) e3

pub four_appended : (o0 o1 o2 o3 o4 : Option (List ℕ)) (a b c d : List ℕ) → Appends o0 o1 a → Appends o1 o2 b → Appends o2 o3 c → Appends o3 o4 d
    → Appends o0 o4 (a ++ b ++ c ++ d)
four_appended o0 o1 o2 o3 o4 a b c d e1 e2 e3 e4 = two_appended o0 o3 o4 (a ++ b ++ c) d (three_appended o0 o1 o2 o3 a b c e1 e2 e3) e4

pub five_appended : (o0 o1 o2 o3 o4 o5 : Option (List ℕ)) (a b c d e : List ℕ) → Appends o0 o1 a → Appends o1 o2 b → Appends o2 o3 c → Appends o3 o4 d
    → Appends o4 o5 e → Appends o0 o5 (a ++ b ++ c ++ d ++ e)
five_appended o0 o1 o2 o3 o4 o5 a b c d e e1 e2 e3 e4 e5 =
    two_appended o0 o4 o5 (a ++ b ++ c ++ d) e (four_appended o0 o1 o2 o3 o4 a b c d e1 e2 e3 e4) e5

pub appended_as : (old new : Option (List ℕ)) (xs ys : List ℕ) → xs ≡ ys → Appends old new xs → Appends old new ys
appended_as old new xs ys e h = rw e at h
