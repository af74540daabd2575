-- Pieces of a line.
use Rattle.std.proofs.Common.{◌≡◌, ℕ, ◌-◌, ◌≤◌, List, ◌++◌, length, replicate, take, ap, ◌∙◌}
use Rattle.std.proofs.lemmas.List.{take-replicate}

-- blanks in front of a list of blanks are blanks
pub padded : (line text : List ℕ) (missing place : ℕ) → text ≡ line ++ take missing (replicate 113 32) → missing ≡ place - length line → missing ≤ 113
    → text ≡ line ++ replicate (place - length line) 32
padded line text missing place put is few =
    put ∙ ap (λ (more : List ℕ). line ++ more) (take-replicate missing 113 32 few ∙ ap (λ n. replicate n 32) is)
