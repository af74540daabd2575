-- A request reads as it was written.
use Rattle.std.proofs.Common.{◌≡◌, ℕ, suc, ◌^◌, ◌<◌, ◌≤◌, List, [], ◌∷◌, ◌++◌, length, take, drop, flat_map, All, nat_le, if◌then◌else◌}
use Rattle.std.proofs.Common.{Some, None, Option, Ok, option_and_then, option_map, refl, sym, ◌∙◌, ap, subst, append_assoc, length-append, arith}
use Rattle.std.proofs.lemmas.Bool.{le-leb}
use Rattle.std.proofs.lemmas.List.{append-nil}
use Rattle.std.proofs.lemmas.List.Elements.{All-head, All-tail}
use Rattle.std.proofs.Math.Seq.{take-append_seam, drop-append_seam}
use Rattle.std.proofs.lemmas.Nat.{from_le_bytes-to_le_bytes_8}
use Rattle.std.proofs.lemmas.Str.{is_utf8-from_IsUtf8}
use Rattle.std.specs.Int.{w64, from_le_bytes}
use Rattle.std.specs.Str.{is_utf8}
use Rattle.outside_io.specs.Shelf.{Kept}
use Rattle.command_calls.specs.Bytes.{AreWritable, IsFile, IsWord, all_named, named, number_bytes, request_bytes, sized}
use Rattle.command_calls.specs.Requests.{after_read, file_read, in_front, number_read, pieces_read, request_read, sized_read, text_read}
use Rattle.command_calls.proofs.RequestLaws.{complete}

-- what was read, and what stands after it
abbrev found : {A : Type 0} → A → List ℕ → Option (A × List ℕ)
found a rest = Some (a, rest)

halves : {A : Type 0} (of : List ℕ → A) (n : ℕ) (whole head rest : List ℕ) → n ≤ length whole → take n whole ≡ head → drop n whole ≡ rest
    → (if nat_le n (length whole) then found (of (take n whole)) (drop n whole) else None) ≡ found (of head) rest
halves of n whole head rest long is_head is_rest =
    subst (λ b. (if b then found (of (take n whole)) (drop n whole) else None) ≡ found (of head) rest) (sym (le-leb n (length whole) long))
    (ap (λ l. found (of l) (drop n whole)) is_head ∙ ap (λ l. found (of head) l) is_rest)

-- a head of eight bytes is a number
head_read : (head rest : List ℕ) → length head ≡ 8 → number_read (head ++ rest) ≡ found (from_le_bytes w64 head) rest
head_read head rest eight =
    halves (λ l. from_le_bytes w64 l) 8 (head ++ rest) head rest
    (let both = length-append head rest in omega (arith, both, eight))
    (subst (λ n. take n (head ++ rest) ≡ head) eight (take-append_seam head rest))
    (subst (λ n. drop n (head ++ rest) ≡ rest) eight (drop-append_seam head rest))

number_back : (n : ℕ) (rest : List ℕ) → n < 2 ^ 64 → number_read (number_bytes n ++ rest) ≡ found n rest
number_back n rest small = head_read (number_bytes n) rest refl ∙ ap (λ m. found m rest) (from_le_bytes-to_le_bytes_8 n small)

sized_back : (piece rest : List ℕ) → length piece < 2 ^ 64 → sized_read (sized piece ++ rest) ≡ found piece rest
unfolding sized
sized_back piece rest small =
    ap (λ l. sized_read l) (append_assoc (number_bytes (length piece)) piece rest)
    ∙ (ap (λ (o : Option (ℕ × List ℕ)). option_and_then (λ f. if nat_le f.0 (length f.1) then found (take f.0 f.1) (drop f.0 f.1) else None) o)
    (number_back (length piece) (piece ++ rest) small)
    ∙ halves (λ l. l) (length piece) (piece ++ rest) piece rest
    (let both = length-append piece rest in omega (arith, both)) (take-append_seam piece rest) (drop-append_seam piece rest))

text_back : (text : List ℕ) → IsWord text → (rest : List ℕ) → text_read (sized text ++ rest) ≡ found text rest
text_back text good rest =
    ap (λ (o : Option (List ℕ × List ℕ)). option_and_then (λ f. if is_utf8 f.0 then Some f else None) o) (sized_back text rest good.short)
    ∙ subst (λ b. (if b then found text rest else None) ≡ found text rest) (sym (is_utf8-from_IsUtf8 text good.utf8)) refl

file_back : (file : Kept) → IsFile file → (rest : List ℕ) → file_read (named file ++ rest) ≡ found file rest
unfolding named
file_back file good rest =
    ap (λ l. file_read l) (append_assoc (sized file.0) (sized file.1) rest)
    ∙ (ap (λ (o : Option (List ℕ × List ℕ)). option_and_then (λ name. option_map (λ content. ((name.0, content.0), content.1)) (sized_read name.1)) o)
    (text_back file.0 good.named (sized file.1 ++ rest))
    ∙ ap (λ (o : Option (List ℕ × List ℕ)). option_map (λ content. ((file.0, content.0), content.1)) o) (sized_back file.1 rest good.short))

pieces_back : {A : Type 0} (P : A → Type 0) (read : List ℕ → Option (A × List ℕ)) (written : A → List ℕ)
    → ((x : A) → P x → (rest : List ℕ) → read (written x ++ rest) ≡ found x rest)
    → (xs : List A) → All P xs → (rest : List ℕ) → pieces_read read (length xs) (flat_map written xs ++ rest) ≡ Ok (xs, rest)
unfolding pieces_read
pieces_back P read written back [] good rest = refl
pieces_back P read written back (x ∷ xs) good rest =
    let more : List ℕ = flat_map written xs ++ rest in
    ap (λ l. pieces_read read (suc (length xs)) l) (append_assoc (written x) (flat_map written xs) rest)
    ∙ (ap (λ o. after_read (length (written x ++ (flat_map written xs ++ rest))) o (λ f. in_front (f.0 ∷ []) (pieces_read read (length xs) f.1)))
    (back x (All-head P x xs good) (flat_map written xs ++ rest))
    ∙ ap (λ r. in_front (x ∷ []) r) (pieces_back P read written back xs (All-tail P x xs good) rest))

pub read_back : (words : List (List ℕ)) (files : List Kept) → AreWritable words files
    → request_read (request_bytes words files) ≡ Ok (record { words = words; files = files })
unfolding request_bytes all_named
read_back words files good =
    let body : List ℕ = flat_map sized words ++ flat_map named files in
    complete (number_bytes (length words) ++ (number_bytes (length files) ++ (flat_map sized words ++ flat_map named files))) (length words)
    (number_bytes (length files) ++ (flat_map sized words ++ flat_map named files)) (length files) (flat_map sized words ++ flat_map named files)
    (sym (number_back (length words) (number_bytes (length files) ++ (flat_map sized words ++ flat_map named files)) good.few_words))
    (sym (number_back (length files) (flat_map sized words ++ flat_map named files) good.few_files))
    words (flat_map named files) files []
    (pieces_back IsWord text_read sized text_back words good.all_words (flat_map named files))
    (ap (λ l. pieces_read file_read (length files) l) (sym (append-nil (flat_map named files)))
    ∙ pieces_back IsFile file_read named file_back files good.all_files [])
    refl
