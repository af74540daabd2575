-- Instructions of the vector generator as a debugger shows them. This project's own choice.
use Rattle.std.specs.Prelude.{ℕ, ◌+◌, ◌-◌, ◌*◌, ◌%◌, List, [], ◌∷◌, ◌++◌, codes, unwrap_or, decimal, zero, suc}
use Rattle.std.specs.Fmt.{signed_decimal}
use Rattle.std.specs.List.{flat_map}
use Rattle.asm_avg.specs.declared.mnemonic.Mnemonic.TheVariants as mnemonic
use Rattle.asm_avg.specs.Statements.{text_of}
use Rattle.avg_decode.specs.declared.word.VgWord.{VgWord}
use Rattle.avg_decode.specs.declared.word.VgWord.TheVariants.{Vctr, Halt, Svec, Stat, Scal, Cntr, Jsrl, Rtsl, Jmpl}
use Rattle.avg_decode.specs.Word.{second_of, word_of}
use Rattle.board_base.specs.declared.vector_memory.TheConstants.{VECTOR_LEN}
use Rattle.board_map.specs.declared.address.TheConstants.{VECTOR_RAM_START}
use Rattle.text_line.specs.Words.{hex_word}
use Rattle.board_debug.specs.Bytes.{Seen, further}
use Rattle.board_debug.specs.Columns.{listed}

-- the operands of a statement behind its word: a blank before the first, a comma and a blank before
-- each other
abbrev pub operands : List (List ℕ) → List ℕ
operands [] = []
operands (first ∷ others) = (32 ∷ first) ++ flat_map (λ operand. 44 ∷ 32 ∷ operand) others

-- the address of a word, which counts from the start of the generator's memory
abbrev pub jump_text : ℕ → List ℕ
jump_text to = codes "$" ++ hex_word (VECTOR_RAM_START + 2 * to)

-- the statement of a word, with the second word of a long vector
abbrev pub statement_text : VgWord → ℕ → List ℕ
statement_text (Vctr dy) second =
    text_of mnemonic.Vctr ++ operands (signed_decimal (second_of second).0 ∷ signed_decimal dy ∷ decimal (second_of second).1 ∷ [])
statement_text Halt second = text_of mnemonic.Halt
statement_text (Svec dx dy z) second = text_of mnemonic.Svec ++ operands (signed_decimal dx ∷ signed_decimal dy ∷ decimal z ∷ [])
statement_text (Stat colour intensity) second = text_of mnemonic.Stat ++ operands (decimal colour ∷ decimal intensity ∷ [])
statement_text (Scal bin lin) second = text_of mnemonic.Scal ++ operands (decimal bin ∷ decimal lin ∷ [])
statement_text Cntr second = text_of mnemonic.Cntr
statement_text (Jsrl to) second = text_of mnemonic.Jsrl ++ operands (jump_text to ∷ [])
statement_text Rtsl second = text_of mnemonic.Rtsl
statement_text (Jmpl to) second = text_of mnemonic.Jmpl ++ operands (jump_text to ∷ [])

-- its words, each before a blank
abbrev pub words_text : VgWord → ℕ → ℕ → List ℕ
words_text (Vctr dy) word second = (hex_word word ++ 32 ∷ []) ++ (hex_word second ++ 32 ∷ [])
words_text _ word second = hex_word word ++ 32 ∷ []

-- the line of the instruction at an address that begins with this word, with the word after it
abbrev pub vdis_line : ℕ → ℕ → ℕ → List ℕ
vdis_line address word second = listed address 10 (words_text (word_of word) word second) (statement_text (word_of word) second)

-- how many bytes an instruction has
abbrev pub statement_size : VgWord → ℕ
statement_size (Vctr dy) = 4
statement_size _ = 2

-- the address so many bytes further in the generator's memory, whose first comes after its last
abbrev pub vg_further : ℕ → ℕ → ℕ
vg_further address n = VECTOR_RAM_START + ((address - VECTOR_RAM_START) + n) % VECTOR_LEN

-- the word at an address, the low byte first
abbrev pub word_seen : Seen → ℕ → ℕ
word_seen seen address = unwrap_or (seen address) 0 + 256 * unwrap_or (seen (further address 1)) 0

-- so many instructions from an address on
unfoldable pub vdis_text : Seen → ℕ → ℕ → List ℕ
vdis_text seen address zero = []
vdis_text seen address (suc count) =
    let word = word_seen seen address in
    vdis_line address word (word_seen seen (vg_further address 2)) ++ vdis_text seen (vg_further address (statement_size (word_of word))) count
