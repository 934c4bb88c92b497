-- What is read of a reader that is cut.
use Rattle.std.proofs.Common.{◌≡◌, ℕ, List, [], ◌++◌, take, Option, Some, None, option_map, IfSome, ap, ◌∙◌}

pub read_cut : (rest : Option (List ℕ)) (before after : List ℕ) (limit most : ℕ) → before ≡ [] → limit ≡ most
    → IfSome (option_map (take limit) rest) (λ bytes. after ≡ before ++ bytes) → IfSome rest (λ bytes. after ≡ take most bytes)
read_cut None before after limit most none cut read = tt
read_cut (Some bytes) before after limit most none cut read = read ∙ ap (λ b. b ++ take limit bytes) none ∙ ap (λ n. take n bytes) cut
