-- The parts of a request.
use Rattle.std.proofs.Common.{◌≡◌, ℕ, ◌==◌, Bool, true, false, List, length, Some, None, Option, Result, Ok, Err, if◌then◌else◌, sym, ◌∙◌, ap, subst}
use Rattle.outside_io.specs.Shelf.{Kept}
use Rattle.command_calls.specs.Requests.{after_all, after_read, file_read, number_read, parts_read, pieces_read, request_of, request_read, text_read}
use Rattle.command_calls.specs.Faults.{Answers}
use Rattle.command_calls.specs.declared.reading.RequestFault.{RequestFault}
use Rattle.command_calls.specs.declared.reading.RequestFault.TheVariants.{Malformed, NoMemory}

pub no_word_count : (bytes : List ℕ) → None ≡ number_read bytes → request_read bytes ≡ Err (length bytes)
unfolding request_read
no_word_count bytes is =
    ap (λ (found : Option (ℕ × List ℕ)). after_read (length bytes) found (λ w. after_read (length w.1) (number_read w.1) (λ f. parts_read w.0 f.0 f.1))) (sym is)

after_words : (bytes : List ℕ) (n : ℕ) (rest : List ℕ) → Some (n, rest) ≡ number_read bytes
    → request_read bytes ≡ after_read (length rest) (number_read rest) (λ f. parts_read n f.0 f.1)
unfolding request_read
after_words bytes n rest is =
    ap (λ (found : Option (ℕ × List ℕ)). after_read (length bytes) found (λ w. after_read (length w.1) (number_read w.1) (λ f. parts_read w.0 f.0 f.1))) (sym is)

pub no_file_count : (bytes : List ℕ) (n : ℕ) (rest : List ℕ) → Some (n, rest) ≡ number_read bytes → None ≡ number_read rest
    → request_read bytes ≡ Err (length rest)
no_file_count bytes n rest is none =
    after_words bytes n rest is ∙ ap (λ (found : Option (ℕ × List ℕ)). after_read (length rest) found (λ f. parts_read n f.0 f.1)) (sym none)

pub counted : (bytes : List ℕ) (n : ℕ) (rest : List ℕ) (m : ℕ) (behind : List ℕ) → Some (n, rest) ≡ number_read bytes → Some (m, behind) ≡ number_read rest
    → request_read bytes ≡ parts_read n m behind
counted bytes n rest m behind is more =
    after_words bytes n rest is ∙ ap (λ (found : Option (ℕ × List ℕ)). after_read (length rest) found (λ f. parts_read n f.0 f.1)) (sym more)

bad_words : (n m : ℕ) (behind : List ℕ) (fault : RequestFault) → Answers fault (pieces_read text_read n behind) → Answers fault (parts_read n m behind)
bad_words n m behind (Malformed left) h =
    ap (λ (r : Result (List (List ℕ) × List ℕ) ℕ). after_all r (λ words. after_all (pieces_read file_read m words.1) (λ files. request_of words.0 files))) h
bad_words n m behind NoMemory h = tt

after_those : (n m : ℕ) (behind : List ℕ) (words : List (List ℕ)) (after : List ℕ) → pieces_read text_read n behind ≡ Ok (words, after)
    → parts_read n m behind ≡ after_all (pieces_read file_read m after) (λ files. request_of words files)
after_those n m behind words after h =
    ap (λ (r : Result (List (List ℕ) × List ℕ) ℕ). after_all r (λ words. after_all (pieces_read file_read m words.1) (λ files. request_of words.0 files))) h

bad_files : (n m : ℕ) (behind : List ℕ) (words : List (List ℕ)) (after : List ℕ) (fault : RequestFault) → pieces_read text_read n behind ≡ Ok (words, after)
    → Answers fault (pieces_read file_read m after) → Answers fault (parts_read n m behind)
bad_files n m behind words after (Malformed left) is h =
    after_those n m behind words after is
    ∙ ap (λ (r : Result (List Kept × List ℕ) ℕ). after_all r (λ files. request_of words files)) h
bad_files n m behind words after NoMemory is h = tt

all_parts : (n m : ℕ) (behind : List ℕ) (words : List (List ℕ)) (after : List ℕ) (files : List Kept) (end : List ℕ)
    → pieces_read text_read n behind ≡ Ok (words, after) → pieces_read file_read m after ≡ Ok (files, end)
    → parts_read n m behind ≡ request_of words (files, end)
all_parts n m behind words after files end is more =
    after_those n m behind words after is
    ∙ ap (λ (r : Result (List Kept × List ℕ) ℕ). after_all r (λ files. request_of words files)) more

module _ (bytes : List ℕ) (n : ℕ) (rest : List ℕ) (m : ℕ) (behind : List ℕ) (is : Some (n, rest) ≡ number_read bytes) (more : Some (m, behind) ≡ number_read rest) where
  pub words_refused : (fault : RequestFault) → Answers fault (pieces_read text_read n behind) → Answers fault (request_read bytes)
  words_refused fault h = subst (Answers fault) (sym (counted bytes n rest m behind is more)) (bad_words n m behind fault h)

  pub files_refused : (words : List (List ℕ)) (after : List ℕ) (fault : RequestFault) → pieces_read text_read n behind ≡ Ok (words, after)
      → Answers fault (pieces_read file_read m after) → Answers fault (request_read bytes)
  files_refused words after fault read h = subst (Answers fault) (sym (counted bytes n rest m behind is more)) (bad_files n m behind words after fault read h)

  all_taken : (words : List (List ℕ)) (after : List ℕ) (files : List Kept) (end : List ℕ)
      → pieces_read text_read n behind ≡ Ok (words, after) → pieces_read file_read m after ≡ Ok (files, end)
      → request_read bytes ≡ request_of words (files, end)
  all_taken words after files end read others = counted bytes n rest m behind is more ∙ all_parts n m behind words after files end read others

  pub left_over : (words : List (List ℕ)) (after : List ℕ) (files : List Kept) (end : List ℕ)
      → pieces_read text_read n behind ≡ Ok (words, after) → pieces_read file_read m after ≡ Ok (files, end)
      → false ≡ (length end == 0) → request_read bytes ≡ Err (length end)
  left_over words after files end read others isnt =
      subst (λ (b : Bool). request_read bytes ≡ (if b then Ok (record { words = words; files = files }) else Err (length end))) (sym isnt)
      (all_taken words after files end read others)

  pub complete : (words : List (List ℕ)) (after : List ℕ) (files : List Kept) (end : List ℕ)
      → pieces_read text_read n behind ≡ Ok (words, after) → pieces_read file_read m after ≡ Ok (files, end)
      → true ≡ (length end == 0) → request_read bytes ≡ Ok (record { words = words; files = files })
  complete words after files end read others so =
      subst (λ (b : Bool). request_read bytes ≡ (if b then Ok (record { words = words; files = files }) else Err (length end))) (sym so)
      (all_taken words after files end read others)
