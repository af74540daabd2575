-- How long the parts of a workload are.
use Rattle.std.proofs.Common.{◌≡◌, ℕ, ◌+◌, ◌/◌, ◌≤◌, ◌++◌, length, ap, ◌∙◌, length-append, arith}
use Rattle.std.specs.List.{flat_map}
use Rattle.rom_image.specs.declared.image.TheConstants.{IMAGE_LEN}
use Rattle.workload_gen.specs.Draws.{draws_of, number_after}
use Rattle.workload_gen.specs.Roms.{bytes_of, filled, image_of, image_with, interrupt_vectors, program}
use Rattle.workload_gen.specs.Tape.{entries_from, tape_of}
use Rattle.workload_gen.specs.Words.{choices, words_of}
use Rattle.workload_gen.proofs.AddressLaws.{length-program}
use Rattle.workload_gen.proofs.DrawLaws.{drop-draws_of, length-draws_of}
use Rattle.workload_gen.proofs.ImageLaws.{length-bytes, length-filled}
use Rattle.workload_gen.proofs.TapeLaws.{entries_from-count, entries_from-tape}
use Rattle.workload_gen.proofs.WordLaws.{length-words_of}

pub length-tape : (seed : ℕ) → length (tape_of seed).entries ≡ 200
unfolding tape_of
length-tape seed =
    ap (λ draws. length (entries_from 1 draws)) (drop-draws_of (length choices) 400 seed)
    ∙ entries_from-count (draws_of (number_after seed (length choices)) 400) 1
    ∙ ap (λ n. n / 2) (length-draws_of 400 (number_after seed (length choices)))

pub length-image : (seed : ℕ) → length (image_of seed) ≡ IMAGE_LEN
unfolding image_with interrupt_vectors
length-image seed =
    let words = flat_map bytes_of (words_of seed) in
    let room : length words ≤ 14336 = omega (arith, length-bytes (words_of seed), length-words_of seed) in
    omega (
      arith,
      length-filled 14336 words room,
      length-filled 28666 program (omega (arith, length-program)),
      length-append (filled 14336 words) (filled 28666 program),
      length-append (filled 14336 words ++ filled 28666 program) interrupt_vectors,
    )

pub ruleset sizes = (length-image, length-tape, length-words_of)

pub ruleset made = (drop-draws_of, entries_from-tape, length-draws_of, length-words_of)
