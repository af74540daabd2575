-- The outcome of `run IMAGE TAPE`, over files that are there and well-formed.
use Rattle.std.proofs.Common.{◌≡◌, ◌≤◌, ◌&&◌, ℕ, ◌+◌, Bool, true, false, not, nat_lt, List, length, Some, None, Result, Ok}
use Rattle.std.proofs.Common.{refl, arith, append-nil, if◌then◌else◌}
use Rattle.std.proofs.lemmas.Bool.Decides.{nat_tests}
use Rattle.std.proofs.lemmas.List.{take_all}
use Rattle.board_base.specs.Board.{BoardValue}
use Rattle.command_line.specs.CommandLine.{command_of}
use Rattle.command_line.specs.CommandValue.{run_of}
use Rattle.command_line.specs.Settings.{settings_from}
use Rattle.command_line.specs.Words.{is_dashed, name_of}
use Rattle.outside_io.specs.Events.{sending}
use Rattle.outside_io.specs.Shelf.{Files}
use Rattle.rom_image.specs.declared.image.TheConstants.{IMAGE_LEN}
use Rattle.run_log.specs.Slices.{last_board, last_events, run_events}
use Rattle.save_state.specs.declared.fault.StateFault.{StateFault}
use Rattle.tape_ports.specs.declared.tape.TheConstants.{TAPE_LIMIT}
use Rattle.tape_ports.specs.Grammar.{tape_of}
use Rattle.tape_ports.specs.Tape.{TapeValue}
use Rattle.gravitar_commands.specs.Outcome.{command_outcome, both_files, image_file, image_read, run_files, run_outcome, start_files, tape_file, tape_read}
use Rattle.gravitar_commands.specs.PlainRun.{plain_end, plain_outcome, plain_value, plain_words}

named : (word : List ℕ) (some plain : Bool) → (if some && plain then Some word else None) ≡ Some word → (some ≡ true) × (plain ≡ true)
named word true true is = (refl, refl)
named word true false is = absurd (cc)
named word false plain is = absurd (cc)

-- a name isn't empty, and isn't dashed
is_name : (word : List ℕ) → name_of word ≡ Some word → (nat_lt 0 (length word) ≡ true) × (not (is_dashed word) ≡ true)
is_name word is = named word (nat_lt 0 (length word)) (not (is_dashed word)) is

-- the words are read as a run with no option
pub plain-words : (image tape : List ℕ) → name_of image ≡ Some image → name_of tape ≡ Some tape
    → command_of (plain_words image tape) ≡ Some (run_of (plain_value image tape))
unfolding settings_from
plain-words image tape first second =
    let i = is_name image first in
    let t = is_name tape second in
    rw (i.1, t.1, i.0, t.0, i.1, t.1) refl

-- the files are read
image_is : (files : Files) (name bytes : List ℕ) → files name ≡ Some bytes → length bytes ≡ IMAGE_LEN → image_file files name ≡ Ok bytes
unfolding image_file image_read
image_is files name bytes there long = rw (there, take_all (IMAGE_LEN + 1) bytes (omega (arith, long)), long) refl

not_less : (a b : ℕ) → b ≤ a → nat_lt a b ≡ false
not_less a b most = grind (arith, nat_tests)

tape_is : (files : Files) (name text : List ℕ) (read : TapeValue) → files name ≡ Some text → length text ≤ TAPE_LIMIT → tape_of text ≡ Ok read
    → tape_file files name ≡ Ok read
unfolding tape_file tape_read
tape_is files name text read there short is =
    rw (there, take_all (TAPE_LIMIT + 1) text (omega (arith, short)), not_less TAPE_LIMIT (length text) short, is) refl

-- the run of them: no state file is read, whatever its reading would be
pub plain-outcome : (files : Files) (image tape bytes text : List ℕ) (read : TapeValue) (reading : Result BoardValue StateFault) (calls : ℕ)
    → files image ≡ Some bytes → length bytes ≡ IMAGE_LEN → files tape ≡ Some text → length text ≤ TAPE_LIMIT → tape_of text ≡ Ok read
    → command_outcome (run_of (plain_value image tape)) files reading calls ≡ plain_outcome bytes read
unfolding command_outcome run_files both_files start_files run_outcome last_board run_events last_events
plain-outcome files image tape bytes text read reading calls there long found short is =
    rw (image_is files image bytes there long, tape_is files tape text read found short is, append-nil (sending (plain_end bytes read))) refl
