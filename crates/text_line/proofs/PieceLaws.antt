-- A short line put behind a line.
use Rattle.std.proofs.Common.{◌≡◌, ℕ, ◌+◌, ◌≤◌, List, ◌++◌, length, take, ap, sym, ◌∙◌, arith}
use Rattle.std.proofs.lemmas.List.{length-take-le, take-append-le, take-take}
use Rattle.std.proofs.Math.Seq.{take-append-add}

-- of k bytes put behind a line, the first n are the text of the other
pub piece_put : (len n k : ℕ) (bytes piece source rest line text : List ℕ)
    → take len bytes ≡ line → len ≤ length bytes → take n source ≡ text → n ≤ length source → length text ≤ k → k ≤ length source → piece ≡ take k source
    → take (len + n) (take len bytes ++ (piece ++ rest)) ≡ line ++ text
piece_put len n k bytes piece source rest line text is_line in_bytes is_text in_source short fits copied =
    let same : length text ≡ n = ap length (sym is_text) ∙ length-take-le n source in_source in
    let few : n ≤ k = omega arith in
    let whole : length piece ≡ k = ap length copied ∙ length-take-le k source fits in
    let put : take (len + n) (take len bytes ++ (piece ++ rest)) ≡ take len bytes ++ take n (piece ++ rest) =
    ap (λ m. take (m + n) (take len bytes ++ (piece ++ rest))) (sym (length-take-le len bytes in_bytes)) ∙ take-append-add (take len bytes) (piece ++ rest) n in
    let taken : take n (piece ++ rest) ≡ text =
    take-append-le n piece rest (omega arith) ∙ ap (take n) copied ∙ take-take n k source few ∙ is_text in
    put ∙ ap (λ (more : List ℕ). take len bytes ++ more) taken ∙ ap (λ (before : List ℕ). before ++ text) is_line
