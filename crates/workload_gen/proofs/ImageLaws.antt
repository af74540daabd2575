-- Bytes that are put into an image, and the image that they make.
use Rattle.std.proofs.Common.{◌≡◌, ℕ, ◌+◌, ◌-◌, ◌*◌, ◌<◌, ◌≤◌, List, [], ◌∷◌, ◌++◌, Some, length, replicate, slice_set, refl, sym, ap, ◌∙◌, lit≤, add-one, length-append, append_assoc, arith}
use Rattle.std.proofs.Math.Seq.{drop-append-add, sets, take-append_seam}
use Rattle.std.proofs.lemmas.List.{append-nil, drop-replicate, drop_all, drop_more, length-replicate, replicate-append-replicate}
use Rattle.std.proofs.lemmas.Grind.{common_steps}
use Rattle.std.proofs.lemmas.List.Edits.{sets-eq}
use Rattle.std.specs.List.{flat_map}
use Rattle.rom_image.specs.Addresses.{offset_of}
use Rattle.workload_gen.specs.Putting.{with_bytes}
use Rattle.workload_gen.specs.Roms.{bytes_of, filled, image_with, interrupt_vectors, program}

-- what stands before the bytes, they, and what stands behind them
with_bytes-sets : (bytes : List ℕ) (place : ℕ) (before : List ℕ) → with_bytes place bytes before ≡ sets before place bytes
unfolding with_bytes
with_bytes-sets [] place before = refl
with_bytes-sets (byte ∷ bytes) place before =
    with_bytes-sets bytes (place + 1) (slice_set before place byte) ∙ ap (λ n. sets (slice_set before place byte) n bytes) (add-one place)

-- bytes that are put behind a front, into zeros
with_bytes-zeros : (front bytes : List ℕ) (place count : ℕ) → length front ≡ place → length bytes ≤ count
    → with_bytes place bytes (front ++ replicate count 0) ≡ front ++ filled count bytes
with_bytes-zeros front bytes place count here room =
    let zeros = replicate count 0 in
    let size : length front + length bytes ≤ length (front ++ zeros) = omega (arith, length-append front zeros, length-replicate count (let z : ℕ = 0 in z)) in
    rw (
      ← here,
      with_bytes-sets bytes (length front) (front ++ zeros),
      sets-eq bytes (front ++ zeros) (length front) size,
      take-append_seam front zeros,
      drop-append-add front zeros (length bytes),
      drop-replicate {X = ℕ} (length bytes) count 0,
    )
    (append_assoc front bytes (replicate (count - length bytes) 0))

-- a part that is filled goes on in zeros
filled-more : (size more : ℕ) (bytes : List ℕ) → length bytes ≤ size → filled (size + more) bytes ≡ filled size bytes ++ replicate more 0
filled-more size more bytes room =
    let rest : size + more - length bytes ≡ size - length bytes + more = omega arith in
    rw (rest, ← replicate-append-replicate {A = ℕ} (size - length bytes) more 0) (sym (append_assoc bytes (replicate (size - length bytes) 0) (replicate more 0)))

pub length-filled : (size : ℕ) (bytes : List ℕ) → length bytes ≤ size → length (filled size bytes) ≡ size
length-filled size bytes room = grind (arith, common_steps)

-- two parts and an end, put into a blank image
parts-made : (low high : ℕ) (first second last blank : List ℕ) → length first ≤ low → length second ≤ high → blank ≡ replicate (low + (high + length last)) 0
    → with_bytes (low + high) last (with_bytes low second (with_bytes 0 first blank)) ≡ filled low first ++ filled high second ++ last
parts-made low high first second last blank f s zeros =
    let one = length-filled low first f in
    let two = length-filled high second s in
    let none : length last - length last ≡ 0 = omega arith in
    let all : length (filled low first ++ filled high second) ≡ low + high = omega (arith, one, two, length-append (filled low first) (filled high second)) in
    rw (
      zeros,
      with_bytes-zeros [] first 0 (low + (high + length last)) refl (omega arith),
      filled-more low (high + length last) first f,
      with_bytes-zeros (filled low first) second low (high + length last) one (omega arith),
      filled-more high (length last) second s,
      ← append_assoc (filled low first) (filled high second) (replicate (length last) 0),
      with_bytes-zeros (filled low first ++ filled high second) last (low + high) (length last) all (omega arith),
      none,
      append-nil last,
    ) refl

pub length-bytes : (words : List ℕ) → length (flat_map bytes_of words) ≡ 2 * length words
length-bytes [] = refl
length-bytes (word ∷ words) = omega (arith, length-bytes words)

-- the image, as its three lists are put into it
pub image_with-made : (words blank : List ℕ) → 2 * length words ≤ 14336 → blank ≡ replicate 43008 0
    → with_bytes 43002 interrupt_vectors (with_bytes 14336 program (with_bytes 0 (flat_map bytes_of words) blank)) ≡ image_with words
unfolding image_with program interrupt_vectors
image_with-made words blank room zeros =
    parts-made 14336 28666 (flat_map bytes_of words) program interrupt_vectors blank (omega (arith, length-bytes words)) (lit≤ tt) zeros

-- the first addresses of the vector ROM, and where they stand
pub offset_of-vector : (k : ℕ) → k < 14336 → offset_of (10240 + k) ≡ Some (0 + k)
offset_of-vector k within = grind arith

pub ruleset steps = (drop_all, drop_more)

pub ruleset parts = (image_with-made, length-bytes, offset_of-vector)
