-- Where the bytes of the image stand in the processor's addresses.
use Rattle.std.proofs.Common.{◌≡◌, ℕ, ◌+◌, ◌-◌, ◌*◌, ◌/◌, ◌%◌, ◌<◌, ◌≤◌, zero, List, [], ◌∷◌, ◌++◌, Some, length, get_or, refl, ap, ◌∙◌, length-append, zero-add, arith}
use Rattle.std.proofs.lemmas.Grind.{common_steps}
use Rattle.std.specs.List.{flat_map}
use Rattle.rom_image.specs.Addresses.{byte_of, offset_of}
use Rattle.workload_gen.specs.Roms.{HasWord, bytes_of, filled, image_of, image_with, interrupt_vectors, program}
use Rattle.workload_gen.specs.Words.{words_of}
use Rattle.workload_gen.proofs.ImageLaws.{length-bytes, length-filled, offset_of-vector}
use Rattle.workload_gen.proofs.WordLaws.{length-words_of}

-- the addresses of the program ROM, and where they stand
offset_of-program : (k : ℕ) → k < 28672 → offset_of (36864 + k) ≡ Some (14336 + k)
offset_of-program k within = grind arith

-- an item of a part that is filled, and a zero behind them
get-filled : (size : ℕ) (bytes : List ℕ) (i : ℕ) → i < length bytes → get_or (filled size bytes) i 0 ≡ get_or bytes i 0
get-filled size bytes i within = grind (arith, common_steps)

get-zero : (size : ℕ) (bytes : List ℕ) (i : ℕ) → length bytes ≤ i → i < size → get_or (filled size bytes) i 0 ≡ 0
get-zero size bytes i behind within = grind (arith, common_steps)

-- an item of each of three parts
get-part : (first last : List ℕ) (size i : ℕ) → length first ≡ size → (i < size → get_or (first ++ last) i 0 ≡ get_or first i 0) × (get_or (first ++ last) (size + i) 0 ≡ get_or last i 0)
get-part first last size i long = (λ within. grind (arith, common_steps), grind (arith, common_steps))

-- the two bytes of word k
get-bytes : (words : List ℕ) (k : ℕ) → k < length words
    → (get_or (flat_map bytes_of words) (2 * k) 0 ≡ get_or words k 0 % 256) × (get_or (flat_map bytes_of words) (2 * k + 1) 0 ≡ get_or words k 0 / 256 % 256)
get-bytes [] k within = absurd (omega arith)
get-bytes (word ∷ words) zero within = (refl, refl)
get-bytes (word ∷ words) (Prim.Native.Nat.suc k) within =
    let low : 2 * Prim.Native.Nat.suc k ≡ Prim.Native.Nat.suc (Prim.Native.Nat.suc (2 * k)) = omega arith in
    let high : 2 * Prim.Native.Nat.suc k + 1 ≡ Prim.Native.Nat.suc (Prim.Native.Nat.suc (2 * k + 1)) = omega arith in
    rw (high, low) (get-bytes words k (omega arith))

pub length-program : length program ≡ 73
unfolding program
length-program = refl

-- an item of each of the image's three parts
image-item : (words : List ℕ) (k : ℕ) → 2 * length words ≤ 14336
    → (k < 14336 → get_or (image_with words) k 0 ≡ get_or (filled 14336 (flat_map bytes_of words)) k 0)
    × (k < 28666 → get_or (image_with words) (14336 + k) 0 ≡ get_or (filled 28666 program) k 0)
    × (get_or (image_with words) (43002 + k) 0 ≡ get_or interrupt_vectors k 0)
unfolding image_with interrupt_vectors
image-item words k room =
    let first = filled 14336 (flat_map bytes_of words) in
    let second = filled 28666 program in
    let one : length first ≡ 14336 = length-filled 14336 (flat_map bytes_of words) (omega (arith, length-bytes words)) in
    let both : length (first ++ second) ≡ 43002 = omega (arith, length-append first second, one, length-filled 28666 program (omega (arith, length-program))) in (
      λ within. (get-part (first ++ second) interrupt_vectors 43002 k both).0 (omega arith) ∙ (get-part first second 14336 k one).0 within,
      λ within. (get-part (first ++ second) interrupt_vectors 43002 (14336 + k) both).0 (omega arith) ∙ (get-part first second 14336 k one).1,
      (get-part (first ++ second) interrupt_vectors 43002 k both).1,
    )

-- a byte of the vector ROM, and one of the program ROM before the interrupt vectors
vector-byte : (words : List ℕ) (k : ℕ) → 2 * length words ≤ 14336 → k < 14336 → byte_of (image_with words) (10240 + k) ≡ Some (get_or (filled 14336 (flat_map bytes_of words)) k 0)
vector-byte words k room within = rw (offset_of-vector k within, zero-add k) (ap (λ b. Some b) ((image-item words k room).0 within))

program-byte : (words : List ℕ) (k : ℕ) → 2 * length words ≤ 14336 → k < 28666 → byte_of (image_with words) (36864 + k) ≡ Some (get_or (filled 28666 program) k 0)
program-byte words k room within = let inside : k < 28672 = omega arith in rw (offset_of-program k inside) (ap (λ b. Some b) ((image-item words k room).1 within))

word-room : (seed : ℕ) → 2 * length (words_of seed) ≤ 14336
word-room seed = omega (arith, length-words_of seed)

pub words-there : (seed k : ℕ) → k < length (words_of seed) → HasWord (image_of seed) (10240 + 2 * k) (get_or (words_of seed) k 0)
words-there seed k within =
    let count = length-words_of seed in
    let bytes = length-bytes (words_of seed) in
    let item = get-bytes (words_of seed) k within in
    let next : 10240 + 2 * k + 1 ≡ 10240 + (2 * k + 1) = omega arith in
    let byte = λ (n : ℕ) (less : n < 2 * length (words_of seed)). vector-byte (words_of seed) n (word-room seed) (omega (arith, count))
    ∙ ap (λ b. Some b) (get-filled 14336 (flat_map bytes_of (words_of seed)) n (omega (arith, bytes))) in
    (byte (2 * k) (omega arith) ∙ ap (λ b. Some b) item.0, rw next (byte (2 * k + 1) (omega arith) ∙ ap (λ b. Some b) item.1))

pub program-there : (seed k : ℕ) → k < length program → byte_of (image_of seed) (36864 + k) ≡ Some (get_or program k 0)
program-there seed k within =
    program-byte (words_of seed) k (word-room seed) (omega (arith, length-program)) ∙ ap (λ b. Some b) (get-filled 28666 program k within)

pub vectors-there : (seed k : ℕ) → k < length interrupt_vectors → byte_of (image_of seed) (65530 + k) ≡ Some (get_or interrupt_vectors k 0)
unfolding interrupt_vectors
vectors-there seed k within =
    let addr : 65530 + k ≡ 36864 + (28666 + k) = omega arith in
    let place : 14336 + (28666 + k) ≡ 43002 + k = omega arith in
    let inside : 28666 + k < 28672 = omega arith in
    rw (addr, offset_of-program (28666 + k) inside, place) (ap (λ b. Some b) ((image-item (words_of seed) k (word-room seed)).2))

pub words-behind : (seed addr : ℕ) → 10866 ≤ addr → addr < 24576 → byte_of (image_of seed) addr ≡ Some 0
words-behind seed addr low high =
    let there : addr ≡ 10240 + (addr - 10240) = omega arith in
    let behind = get-zero 14336 (flat_map bytes_of (words_of seed)) (addr - 10240) (omega (arith, length-bytes (words_of seed), length-words_of seed)) (omega arith) in
    ap (λ a. byte_of (image_of seed) a) there ∙ vector-byte (words_of seed) (addr - 10240) (word-room seed) (omega arith) ∙ ap (λ b. Some b) behind

pub program-behind : (seed addr : ℕ) → 36937 ≤ addr → addr < 65530 → byte_of (image_of seed) addr ≡ Some 0
program-behind seed addr low high =
    let there : addr ≡ 36864 + (addr - 36864) = omega arith in
    let behind = get-zero 28666 program (addr - 36864) (omega (arith, length-program)) (omega arith) in
    ap (λ a. byte_of (image_of seed) a) there ∙ program-byte (words_of seed) (addr - 36864) (word-room seed) (omega arith) ∙ ap (λ b. Some b) behind

pub ruleset addresses = (program-there, vectors-there, words-behind, program-behind)
