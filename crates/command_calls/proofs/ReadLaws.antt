-- One more piece of a request.
use Rattle.std.proofs.Common.{◌≡◌, ℕ, suc, ◌+◌, ◌-◌, ◌<◌, ◌≤◌, List, [], ◌∷◌, ◌++◌, length, refl, sym, ◌∙◌, ap, arith}
use Rattle.std.proofs.Common.{Some, None, Option, Result, Ok, Err, append_assoc}
use Rattle.std.proofs.lemmas.List.{append-nil}
use Rattle.outside_io.specs.Shelf.{Kept}
use Rattle.command_calls.specs.Requests.{after_read, in_front, pieces_read}
use Rattle.command_calls.specs.Shelves.{RequestFiles}

in_front_twice : {A : Type 0} (xs ys : List A) (read : Result (List A × List ℕ) ℕ)
    → in_front xs (in_front ys read) ≡ in_front (xs ++ ys) read
in_front_twice xs ys (Ok others) = ap (λ l. Ok (l, others.1)) (sym (append_assoc xs ys others.0))
in_front_twice xs ys (Err left) = refl

-- some pieces were read, so many, and the bytes after them are these
pub record HaveRead {A : Type 0} (read : List ℕ → Option (A × List ℕ)) (count done : ℕ) (bytes : List ℕ) (before : List A) (rest : List ℕ) : Type 0 where
  pub so_far : pieces_read read count bytes ≡ in_front before (pieces_read read (count - done) rest)

-- one more was read
pub one_more : {A : Type 0} (read : List ℕ → Option (A × List ℕ)) (count done : ℕ) (bytes : List ℕ) (before : List A) (rest : List ℕ) (found : A) (after : List ℕ)
    → HaveRead read count done bytes before rest → done < count → Some (found, after) ≡ read rest
    → HaveRead read count (done + 1) bytes (before ++ found ∷ []) after
unfolding pieces_read
one_more read count done bytes before rest found after h below is =
    let n : ℕ = count - (done + 1) in
    let e : count - done ≡ suc (count - (done + 1)) = omega arith in
    record {
      so_far = h.so_far
          ∙ (ap (λ m. in_front before (pieces_read read m rest)) e
          ∙ (ap (λ r. in_front before (after_read (length rest) r (λ f. in_front (f.0 ∷ []) (pieces_read read (count - (done + 1)) f.1)))) (sym is)
          ∙ in_front_twice before (found ∷ []) (pieces_read read (count - (done + 1)) after)));
    }

-- one isn't well formed
pub malformed : {A : Type 0} (read : List ℕ → Option (A × List ℕ)) (count done : ℕ) (bytes : List ℕ) (before : List A) (rest : List ℕ)
    → HaveRead read count done bytes before rest → done < count → None ≡ read rest → pieces_read read count bytes ≡ Err (length rest)
unfolding pieces_read
malformed read count done bytes before rest h below is =
    let e : count - done ≡ suc (count - (done + 1)) = omega arith in
    h.so_far
    ∙ (ap (λ m. in_front before (pieces_read read m rest)) e
    ∙ ap (λ r. in_front before (after_read (length rest) r (λ f. in_front (f.0 ∷ []) (pieces_read read (count - (done + 1)) f.1)))) (sym is))

-- all were read
pub all_read : {A : Type 0} (read : List ℕ → Option (A × List ℕ)) (count done : ℕ) (bytes : List ℕ) (before : List A) (rest : List ℕ)
    → HaveRead read count done bytes before rest → count ≤ done → pieces_read read count bytes ≡ Ok (before, rest)
unfolding pieces_read
all_read read count done bytes before rest h most =
    let e : count - done ≡ 0 = omega arith in
    h.so_far ∙ (ap (λ m. in_front before (pieces_read read m rest)) e ∙ ap (λ l. Ok (l, rest)) (append-nil before))

-- a shelf that differs in its files alone, twice
pub same_but_files : (first then now : RequestFiles) (files : List Kept)
    → now ≡ record then { files = files } → then ≡ record first { files = then.files } → now ≡ record first { files = now.files }
same_but_files first then now files more before =
    more ∙ (ap (λ (s : RequestFiles). record s { files = files }) before
    ∙ ap (λ (l : List Kept). record first { files = l }) (sym (ap (λ (s : RequestFiles). s.files) more)))
