-- Text put together and taken line by line, and word by word.
use Rattle.std.proofs.Common.{◌≡◌, ℕ, ◌+◌, ◌≤◌, ◌<◌, List, [], ◌∷◌, ◌++◌, Option, length, take, drop, get_or, map, suc, refl, sym, ap, ◌∙◌, append_assoc, append-nil, add-one, arith}
use Rattle.std.specs.List.{concat, flat_map, join_with_byte}
use Rattle.std.proofs.Math.Seq.{split_at, take-length, take-suc}
use Rattle.std.proofs.lemmas.List.Concat.{flat_map-append}
use Rattle.std.proofs.lemmas.List.Folds.{concat-append}
use Rattle.text_line.specs.Words.{hex_byte, line}
use Rattle.outside_io.specs.Known.{grown}
use Rattle.outside_io.proofs.KnownLaws.{grown-nothing, grown-twice}
use Rattle.outside_io.proofs.TakesLaws.{took_first, took_then}

-- the lines up to one, and that line
lines-more : (lines : List (List ℕ)) (k : ℕ) (d : List ℕ) → k < length lines → concat (take (k + 1) lines) ≡ concat (take k lines) ++ get_or lines k d
lines-more lines k d inside =
    ap (λ n. concat (take n lines)) (add-one k)
    ∙ ap concat (take-suc lines k d inside)
    ∙ concat-append (take k lines) (get_or lines k d ∷ [])
    ∙ ap (λ text. concat (take k lines) ++ text) (append-nil (get_or lines k d))

-- all lines, around one
lines-around : (lines : List (List ℕ)) (k : ℕ) (d : List ℕ) → k < length lines
    → concat lines ≡ concat (take k lines) ++ (get_or lines k d ++ concat (drop (suc k) lines))
lines-around lines k d inside = ap concat (split_at lines k d inside) ∙ concat-append (take k lines) (get_or lines k d ∷ drop (suc k) lines)

-- no line was taken yet
pub none-taken : (lines : List (List ℕ)) (out : Option (List ℕ)) → out ≡ grown out (concat (take 0 lines))
none-taken lines out = sym (grown-nothing out)

-- one line more was taken
pub line-taken : (lines : List (List ℕ)) (k : ℕ) (d item piece : List ℕ) (out0 out1 out2 : Option (List ℕ)) → k < length lines → item ≡ get_or lines k d
    → piece ≡ item → out1 ≡ grown out0 (concat (take k lines)) → out2 ≡ grown out1 piece → out2 ≡ grown out0 (concat (take (k + 1) lines))
line-taken lines k d item piece out0 out1 out2 inside is same before after =
    after ∙ ap (grown out1) (same ∙ is) ∙ ap (λ out. grown out (get_or lines k d)) before
    ∙ grown-twice out0 (concat (take k lines)) (get_or lines k d) ∙ ap (grown out0) (sym (lines-more lines k d inside))

-- a part of it was taken
pub line-cut : (lines : List (List ℕ)) (k : ℕ) (d item piece : List ℕ) (out0 out1 out2 : Option (List ℕ)) → k < length lines → item ≡ get_or lines k d
    → piece ≡ item → out1 ≡ grown out0 (concat (take k lines)) → (n : ℕ) × (out2 ≡ grown out1 (take n piece))
    → (n : ℕ) × (out2 ≡ grown out0 (take n (concat lines)))
line-cut lines k d item piece out0 out1 out2 inside is same before (n, after) =
    rw (lines-around lines k d inside) (took_then out0 out1 out2 (concat (take k lines)) _ before
    (took_first out1 out2 (get_or lines k d) (concat (drop (suc k) lines)) (n, after ∙ ap (λ text. grown out1 (take n text)) (same ∙ is))))

-- all lines were taken
pub lines-taken : (lines : List (List ℕ)) (k : ℕ) (out0 out1 : Option (List ℕ)) → k ≤ length lines → length lines ≤ k
    → out1 ≡ grown out0 (concat (take k lines)) → out1 ≡ grown out0 (concat lines)
lines-taken lines k out0 out1 within all before =
    let e : k ≡ length lines = omega arith in
    before ∙ ap (λ taken. grown out0 (concat taken)) (ap (λ n. take n lines) e ∙ take-length lines)

-- bytes as two digits each, after a blank
pub spaced : List ℕ → List ℕ
spaced bytes = flat_map (λ byte. 32 ∷ hex_byte byte) bytes

pub spaced-none : (bytes : List ℕ) (start : List ℕ) → start ≡ start ++ spaced (take 0 bytes)
unfolding spaced
spaced-none bytes start = sym (append-nil start)

-- one byte more
pub spaced-more : (bytes : List ℕ) (k d : ℕ) (start now next : List ℕ) → k < length bytes → now ≡ start ++ spaced (take k bytes)
    → next ≡ now ++ (32 ∷ hex_byte (get_or bytes k d)) → next ≡ start ++ spaced (take (k + 1) bytes)
unfolding spaced
spaced-more bytes k d start now next inside before after =
    after
    ∙ ap (λ l. l ++ (32 ∷ hex_byte (get_or bytes k d))) before
    ∙ append_assoc start (spaced (take k bytes)) (32 ∷ hex_byte (get_or bytes k d))
    ∙ ap (λ l. start ++ l) (sym (
    ap (λ n. spaced (take n bytes)) (add-one k)
    ∙ ap spaced (take-suc bytes k d inside)
    ∙ flat_map-append (λ byte. 32 ∷ hex_byte byte) (take k bytes) (get_or bytes k d ∷ [])
    ∙ ap (λ l. spaced (take k bytes) ++ l) (append-nil (32 ∷ hex_byte (get_or bytes k d)))
    ))

-- a line of a word and such bytes
joined : (word : List ℕ) (bytes : List ℕ) → join_with_byte 32 (word ∷ map hex_byte bytes) ≡ word ++ spaced bytes
unfolding spaced
joined word [] = sym (append-nil word)
joined word (byte ∷ bytes) = ap (λ l. word ++ (32 ∷ l)) (joined (hex_byte byte) bytes)

pub spaced-line : (first second : List ℕ) (bytes : List ℕ) (k : ℕ) (now : List ℕ) → k ≤ length bytes → length bytes ≤ k
    → now ≡ (first ++ 32 ∷ second) ++ spaced (take k bytes) → now ++ 10 ∷ [] ≡ line (first ∷ second ∷ map hex_byte bytes)
spaced-line first second bytes k now within all before =
    let e : k ≡ length bytes = omega arith in
    ap (λ l. l ++ 10 ∷ []) (
    before
    ∙ ap (λ l. (first ++ 32 ∷ second) ++ spaced l) (ap (λ n. take n bytes) e ∙ take-length bytes)
    ∙ append_assoc first (32 ∷ second) (spaced bytes)
    ∙ ap (λ l. first ++ (32 ∷ l)) (sym (joined second bytes))
    )

-- words said one after another, each after a blank
unfoldable pub spoken : List ℕ → List (List ℕ) → List ℕ
spoken start [] = start
spoken start (word ∷ words) = spoken (start ++ 32 ∷ word) words

spoken-more : (start : List ℕ) (words : List (List ℕ)) (word : List ℕ) → spoken start (words ++ word ∷ []) ≡ spoken start words ++ 32 ∷ word
unfolding spoken
spoken-more start [] word = refl
spoken-more start (first ∷ words) word = spoken-more (start ++ 32 ∷ first) words word

pub first-said : (now start : List ℕ) → now ≡ start → now ≡ spoken start []
unfolding spoken
first-said now start is = is

pub said : {now next : List ℕ} (start word : List ℕ) (words : List (List ℕ)) → next ≡ now ++ 32 ∷ word → now ≡ spoken start words
    → next ≡ spoken start (words ++ word ∷ [])
said {now} {next} start word words after before = after ∙ ap (λ l. l ++ 32 ∷ word) before ∙ sym (spoken-more start words word)

-- make a line
spoken-joined : (start : List ℕ) (words : List (List ℕ)) → spoken start words ≡ join_with_byte 32 (start ∷ words)
unfolding spoken
spoken-joined start [] = refl
spoken-joined start (word ∷ words) = spoken-joined (start ++ 32 ∷ word) words ∙ by_rest words
  where
    by_rest : (rest : List (List ℕ)) → join_with_byte 32 ((start ++ 32 ∷ word) ∷ rest) ≡ join_with_byte 32 (start ∷ word ∷ rest)
    by_rest [] = refl
    by_rest (next ∷ rest) = append_assoc start (32 ∷ word) (32 ∷ join_with_byte 32 (next ∷ rest))

pub line-said : (now last start : List ℕ) (words : List (List ℕ)) → last ≡ now ++ 10 ∷ [] → now ≡ spoken start words → last ≡ line (start ∷ words)
line-said now last start words end before = end ∙ ap (λ l. l ++ 10 ∷ []) (before ∙ spoken-joined start words)
