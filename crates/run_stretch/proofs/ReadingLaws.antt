-- Bytes are read in one way, and a board is read again from its bytes.
use Rattle.std.proofs.Common.{◌≡◌, ℕ, ◌≤◌, Bool, List, length, take, drop, ◌++◌, Option, Some, None, IfSome, IsSomeAnd, Result, Ok, inl, refl, sym, ap, ◌∙◌, arith}
use Rattle.std.proofs.lemmas.List.{length-take-le}
use Rattle.board_base.specs.declared.vector_memory.TheConstants.{VECTOR_RAM_LEN, VECTOR_ROM_LEN}
use Rattle.board_base.specs.Board.{BoardValue}
use Rattle.board_base.specs.Mid.{IsMid, MidValue}
use Rattle.lockstep_board.specs.Order.{cleared}
use Rattle.lockstep_board.specs.Lockstep.{Board}
use Rattle.lockstep_board.specs.Run.{IsPlaced}
use Rattle.lockstep_board.specs.Peripherals.{board_of}
use Rattle.cpu_core.specs.Places.{IsPlace, given_by}
use Rattle.cpu_core.specs.Registers.{RegistersValue, registers_of}
use Rattle.keyframes.proofs.AlongLaws.{rom-after}
use Rattle.keyframes.proofs.ImageLaws.{Image, image_of}
use Rattle.save_state.proofs.OneBoard.{one_board}
use Rattle.save_state.specs.Reading.{IsWhole}
use Rattle.run_log.specs.Slices.{saved_bytes}
use Rattle.run_log.proofs.SlicesLaws.{reload-same}
use Rattle.tape_ports.specs.Tape.{TapeValue}
use Rattle.run_stretch.specs.declared.parts.Parts.{Parts}
use Rattle.run_stretch.specs.Reading.{ReadsParts}
use Rattle.run_stretch.specs.Stretches.{first_board}

ok-same : {A E : Type 0} (a b : A) → (let r : Result A E = Ok a in r) ≡ Ok b → a ≡ b
ok-same a b e = cc

-- the tape of a text is one
tape-same : (image board other tape : List ℕ) (p q : Parts) → ReadsParts image board tape (Ok p) → ReadsParts image other tape (Ok q) → q.tape ≡ p.tape
tape-same image board other tape p q r s = ok-same q.tape p.tape (sym s.2.1 ∙ r.2.1)

-- and so is the image of its bytes
image-same : (image board other tape : List ℕ) (p q : Parts) → ReadsParts image board tape (Ok p) → ReadsParts image other tape (Ok q) → q.image ≡ p.image
image-same image board other tape p q r s = s.0.1 ∙ sym r.0.1

-- what the same bytes are read as begins the same stretch
pub begins-same : (image board tape : List ℕ) (timers : Bool) (p q : Parts) → ReadsParts image board tape (Ok p) → ReadsParts image board tape (Ok q)
    → first_board timers q ≡ first_board timers p
begins-same image board tape timers p q r s =
    let boards : q.board ≡ p.board = one_board board q.board p.board s.1.2 r.1.2 s.1.1 r.1.1 in
    ap (λ (b : BoardValue). let parts : Parts = record { image = q.image; board = b; tape = q.tape } in first_board timers parts) boards
    ∙ ap (λ (i : List ℕ). let parts : Parts = record { image = i; board = p.board; tape = q.tape } in first_board timers parts)
    (image-same image board board tape p q r s)

pub entries-same : (image board other tape : List ℕ) (p q : Parts) → ReadsParts image board tape (Ok p) → ReadsParts image other tape (Ok q)
    → q.tape.entries ≡ p.tape.entries
entries-same image board other tape p q r s = ap (λ (t : TapeValue). t.entries) (tape-same image board other tape p q r s)

-- a board's state over an image, with no records
laid : Board → Image → Board
laid b image = record {
  cpu = b.cpu;
  peripherals = record (cleared b).peripherals {
    wired = image.wired;
    memory = take VECTOR_RAM_LEN b.peripherals.memory ++ image.rom;
    program = image.program;
  };
}

-- the image of a first board is that of its parts
first-image : (timers : Bool) (p : Parts) → IsWhole p.board
    → image_of (first_board timers p).peripherals
    ≡ (let i : Image = record { wired = timers; program = drop VECTOR_ROM_LEN p.image; rom = take VECTOR_ROM_LEN p.image } in i)
first-image timers p whole =
    let rom = take VECTOR_ROM_LEN p.image in
    ap (λ (r : List ℕ). let i : Image = record { wired = timers; program = drop VECTOR_ROM_LEN p.image; rom = r } in i)
    (rom-after VECTOR_RAM_LEN p.board.vram rom whole.board.vram)

-- a board over the image of some parts, saved and read again over the same image, is the board
-- without its records
pub begins-again : (image board bytes tape : List ℕ) (timers : Bool) (p q : Parts) (half : Board)
    → ReadsParts image board tape (Ok p) → ReadsParts image bytes tape (Ok q) → bytes ≡ saved_bytes half → IsWhole (board_of half.cpu half.peripherals)
    → image_of half.peripherals ≡ image_of (first_board timers p).peripherals → first_board timers q ≡ cleared half
unfolding saved_bytes laid
begins-again image board bytes tape timers p q half r s saved whole over =
    let again = board_of half.cpu half.peripherals in
    let boards : q.board ≡ again = one_board bytes q.board again s.1.2 whole s.1.1 (inl saved) in
    let same = image-same image board bytes tape p q r s in
    ap (λ (b : BoardValue). let parts : Parts = record { image = q.image; board = b; tape = q.tape } in first_board timers parts) boards
    ∙ ap (λ (i : List ℕ). let parts : Parts = record { image = i; board = again; tape = q.tape } in first_board timers parts) same
    ∙ ap (laid half) (sym (over ∙ first-image timers p r.1.2))
    ∙ reload-same (cleared half) (record { strokes = refl; levels1 = refl; levels2 = refl; written = refl })

-- a whole board stands where a run can bring it
placed-at : (r : RegistersValue) (mid : Option MidValue) (A : Type 0) → IfSome mid (λ _. A × IsSomeAnd mid (IsPlace r)) → IfSome mid IsMid
    → IfSome mid (λ m. 1 ≤ length (given_by m))
placed-at r None A place is = tt
placed-at r (Some m) A place is =
    let size = length-take-le m.count m.bytes (let few = is.count in let all = is.bytes in omega arith) in
    let started = place.1.started in
    omega arith

pub first-placed : (timers : Bool) (p : Parts) → IsWhole p.board → IsPlaced (first_board timers p)
first-placed timers p whole = placed-at (registers_of p.board.cpu) p.board.cpu.mid (p.board.cpu.jam ≡ None) whole.cpu.stands.place whole.cpu.mid
