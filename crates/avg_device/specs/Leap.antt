-- Many clocks of the vector generator at once: a whole word, and the clocks of a draw.
use Rattle.std.specs.Prelude.{ℕ, ◌+◌, ◌-◌, ◌*◌, ◌==◌, if◌then◌else◌, List, [], replicate, pos}
use Rattle.avg_decode.specs.Word.{second_of, word_of}
use Rattle.board_base.specs.declared.record.Record.{Record}
use Rattle.board_base.specs.Vg.{VgValue}
use Rattle.avg_device.specs.Tick.{ended, next_word, word_executed, strokes_at, word_at}

-- the word at a word address
abbrev pub memory_word : List ℕ → ℕ → ℕ
memory_word memory pc = word_at memory (2 * pc)

-- a word that needs no second one is read and done
unfoldable pub short_done : ℕ → VgValue → VgValue
short_done word v = word_executed (word_of word) (pos 0, 0) (record v { pc = next_word v.pc; bytes = replicate 4 0 })

-- a word and its second one are read and done
unfoldable pub long_done : ℕ → ℕ → VgValue → VgValue
long_done word second v =
    word_executed (word_of word) (second_of second) (record v { pc = next_word (next_word v.pc); bytes = replicate 4 0 })

-- some of the clocks of a draw, or all of them
unfoldable pub drawn_for : ℕ → VgValue → VgValue
drawn_for n v = if n == v.left then ended v else record v { left = v.left - n }

-- their records: the stroke in the last clock of the draw
unfoldable pub strokes_for : ℕ → ℕ → VgValue → List Record
strokes_for clock n v = if n == v.left then strokes_at (clock + (n - 1)) v else []
