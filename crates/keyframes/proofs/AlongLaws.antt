-- Boards kept along a run, and the run's parts.
use Rattle.std.proofs.Common.{◌≡◌, ℕ, ◌+◌, ◌-◌, ◌<◌, ◌≤◌, ◌||◌, nat_le, is_some, true, false, List, [], ◌∷◌, ◌++◌, Option, Some, None, length, get_or, take, drop, take-append-drop}
use Rattle.std.proofs.Common.{zero, suc, refl, sym, ap, ◌∙◌, subst, arith}
use Rattle.std.proofs.lemmas.Bool.Decides.{nat_tests}
use Rattle.std.proofs.Math.Seq.{drop-append_seam}
use Rattle.std.proofs.lemmas.List.{append_cancel_left}
use Rattle.board_base.specs.declared.vector_memory.TheConstants.{VECTOR_RAM_LEN}
use Rattle.board_base.specs.Board.{BoardValue}
use Rattle.tape_ports.specs.declared.entry.TapeEntry.{TapeEntry}
use Rattle.lockstep_board.specs.Order.{cleared, records_of}
use Rattle.lockstep_board.specs.Lockstep.{Board, step}
use Rattle.lockstep_board.specs.Run.{clock_steps, is_at, stepped, to_clock}
use Rattle.lockstep_board.specs.Steps.{StepsTo}
use Rattle.lockstep_board.proofs.Behind.{behind-cleared, to_clock-behind}
use Rattle.lockstep_board.proofs.Clocks.{step-clock, stepped-clock}
use Rattle.lockstep_board.proofs.Ends.{to_clock-ended, to_clock-split}
use Rattle.lockstep_board.proofs.Runs.{steps-none, steps-reached, steps_until-is}
use Rattle.keyframes.specs.Keys.{Keyframe}
use Rattle.keyframes.specs.Seeking.{Along, IsOnRun, over_image, run_start, state_of}
use Rattle.keyframes.proofs.ImageLaws.{Image, clock-image, image_of}

-- a state over an image
abbrev laid : Board → BoardValue → Image → Board
laid e state image =
    record (over_image e state) { peripherals = record (over_image e state).peripherals { wired = image.wired; memory = state.vram ++ image.rom; program = image.program } }

over_image-of : (e e' : Board) (state : BoardValue) → image_of e.peripherals ≡ image_of e'.peripherals → over_image e state ≡ over_image e' state
over_image-of e e' state same = ap (laid e state) same

-- over its own image the state of a board is the board without its records
over_image-own : (b : Board) → over_image b (state_of b) ≡ cleared b
over_image-own b =
    ap (λ (memory : List ℕ). let again : Board = record { cpu = b.cpu; peripherals = record (cleared b).peripherals { memory = memory } } in again)
    (take-append-drop VECTOR_RAM_LEN b.peripherals.memory)

-- the vector RAM of a state stands whole before the vector ROM
rom-behind : (n : ℕ) (ram rom : List ℕ) → ram ≡ take n (ram ++ rom) → drop n (ram ++ rom) ≡ rom
rom-behind n ram rom whole =
    append_cancel_left ram (drop n (ram ++ rom)) rom (ap (λ (l : List ℕ). l ++ drop n (ram ++ rom)) whole ∙ take-append-drop n (ram ++ rom))

start-image : (e : Board) (state : BoardValue) → state ≡ state_of (over_image e state) → image_of (over_image e state).peripherals ≡ image_of e.peripherals
start-image e state whole =
    ap (λ (rom : List ℕ). let image : Image = record { wired = e.peripherals.wired; program = e.peripherals.program; rom = rom } in image)
    (rom-behind VECTOR_RAM_LEN state.vram (drop VECTOR_RAM_LEN e.peripherals.memory) (ap (λ (s : BoardValue). s.vram) whole))

-- the vector ROM follows the whole vector RAM
pub rom-after : (n : ℕ) (ram rom : List ℕ) → length ram ≡ n → drop n (ram ++ rom) ≡ rom
rom-after n ram rom whole = ap (λ k. drop k (ram ++ rom)) (sym whole) ∙ drop-append_seam ram rom

-- an engine's image is that of the board at which the run begins
along-image : (kept : List Keyframe) (entries : List TapeEntry) (e : Board) → Along kept entries (run_start kept e)
    → image_of (run_start kept e).peripherals ≡ image_of e.peripherals
along-image [] entries e along = refl
along-image (first ∷ rest) entries e along = start-image e first.board (along.first first)

-- boards with the same image have the same start
pub start-same : (kept : List Keyframe) (e e' : Board) → 0 < length kept → image_of e.peripherals ≡ image_of e'.peripherals → run_start kept e ≡ run_start kept e'
start-same [] e e' some same = absurd (omega (arith, some))
start-same (first ∷ rest) e e' some same = over_image-of e e' first.board same

module _ (kept : List Keyframe) (entries : List TapeEntry) (e : Board) (along : Along kept entries (run_start kept e)) where
  abbrev start : Board
  start = run_start kept e

  -- a kept board that is taken on is that of the run at its clock
  pub loaded-board : (i : ℕ) (d : Keyframe) → i < length kept → over_image e (get_or kept i d).board ≡ cleared (to_clock entries (get_or kept i d).board.clock start)
  loaded-board i d h =
      let state = (get_or kept i d).board in
      let there = to_clock entries state.clock start in
      over_image-of e there state (sym (clock-image entries state.clock start ∙ along-image kept entries e along)) ∙ ap (over_image there) (along.each i d h)
      ∙ over_image-own there

  -- and the run begins where it began
  pub loaded-start : (i : ℕ) (d : Keyframe) → i < length kept → run_start kept (over_image e (get_or kept i d).board) ≡ start
  loaded-start i d h =
      let state = (get_or kept i d).board in
      start-same kept (over_image e state) e along.some
      (ap (λ (b : Board). image_of b.peripherals) (loaded-board i d h) ∙ clock-image entries state.clock start ∙ along-image kept entries e along)

-- records made before don't change where a run comes to
pub clock-cleared : (entries : List TapeEntry) (cut : ℕ) (b : Board) → cleared (to_clock entries cut (cleared b)) ≡ cleared (to_clock entries cut b)
clock-cleared entries cut b =
    sym (ap cleared (to_clock-behind entries cut (records_of b) (cleared b))) ∙ ap (λ (c : Board). cleared (to_clock entries cut c)) (behind-cleared b)

not-before : (jam : Option ℕ) (cut clock : ℕ) → cut ≤ clock → is_some jam || nat_le cut clock ≡ true
not-before jam cut clock h = grind (arith, nat_tests)

-- a run to a clock that isn't ahead is no step
pub clock-none : (entries : List TapeEntry) (cut : ℕ) (b : Board) → is_at cut b ≡ true → to_clock entries cut b ≡ b
unfolding to_clock stepped
clock-none entries cut b over = ap (λ n. stepped entries n b) (steps-none entries (is_at cut) (cut - b.peripherals.clock) b over)

pub clock-past : (entries : List TapeEntry) (cut : ℕ) (b : Board) → cut ≤ b.peripherals.clock → to_clock entries cut b ≡ b
clock-past entries cut b past = clock-none entries cut b (not-before b.cpu.jam cut b.peripherals.clock past)

not-at : (jam : Option ℕ) (cut until clock : ℕ) → is_some jam || nat_le cut clock ≡ false → clock < until → is_some jam || nat_le until clock ≡ false
not-at jam cut until clock e h = grind (arith, nat_tests)

reached-at : (entries : List TapeEntry) (cut until n : ℕ) (b last : Board) → StepsTo entries (is_at cut) n b last → b.peripherals.clock + n ≤ until
    → StepsTo entries (is_at until) n b last
reached-at entries cut until zero b last r h = r
reached-at entries cut until (suc n) b last r h =
    let one = step-clock entries b in (
      not-at b.cpu.jam cut until b.peripherals.clock r.0 (omega arith),
      reached-at entries cut until n (step entries b) last r.1 (omega (arith, one)),
    )

-- the end of a run to a clock is the board of the run at its own clock
own-clock : (entries : List TapeEntry) (cut : ℕ) (b : Board) → to_clock entries cut b ≡ to_clock entries (to_clock entries cut b).peripherals.clock b
unfolding to_clock
own-clock entries cut b =
    let n = clock_steps entries cut b in
    let last = stepped entries n b in
    let all = stepped-clock entries n b in
    sym (ap (λ k. stepped entries k b) (steps_until-is entries (is_at last.peripherals.clock) n (last.peripherals.clock - b.peripherals.clock) b last
    (reached-at entries cut last.peripherals.clock n b last (steps-reached entries (is_at cut) (cut - b.peripherals.clock) b) (omega (arith, all)))
    (not-before last.cpu.jam last.peripherals.clock last.peripherals.clock (omega arith)) (omega (arith, all))))

clock-later : (entries : List TapeEntry) (cut : ℕ) (b : Board) → b.peripherals.clock ≤ (to_clock entries cut b).peripherals.clock
unfolding to_clock
clock-later entries cut b = let all = stepped-clock entries (clock_steps entries cut b) b in omega (arith, all)

-- a run to a clock, as a part of a longer one
module _ (entries : List TapeEntry) (now then : Board) (cut : ℕ) (is : then ≡ cleared (to_clock entries cut now)) where
  pub part-on_run : (b : Board) → IsOnRun entries b now → IsOnRun entries b then
  part-on_run b on_run =
      let clock = (to_clock entries cut now).peripherals.clock in
      let same : then.peripherals.clock ≡ clock = ap (λ (c : Board). c.peripherals.clock) is in
      is ∙ ap cleared (own-clock entries cut now) ∙ ap (λ (c : Board). cleared (to_clock entries clock c)) on_run
      ∙ clock-cleared entries clock (to_clock entries now.peripherals.clock b)
      ∙ sym (ap cleared (to_clock-split entries now.peripherals.clock clock b (clock-later entries cut now))) ∙ ap (λ n. cleared (to_clock entries n b)) (sym same)

  pub part-image : image_of then.peripherals ≡ image_of now.peripherals
  part-image = ap (λ (c : Board). image_of c.peripherals) is ∙ clock-image entries cut now

  -- from its end a run to a later clock goes on
  pub part-rest : (later : ℕ) → cut ≤ later → cleared (to_clock entries later then) ≡ cleared (to_clock entries later now)
  part-rest later h =
      ap (λ (c : Board). cleared (to_clock entries later c)) is ∙ clock-cleared entries later (to_clock entries cut now)
      ∙ sym (ap cleared (to_clock-split entries cut later now h))

  -- and it is over at its own clock
  pub part-ended : is_at cut then ≡ true
  part-ended = subst (λ (c : Board). is_at cut c ≡ true) (sym is) (to_clock-ended entries cut now)

  -- where the longer one is over too, it is all of it
  pub part-last : (later : ℕ) (first : Board) → is_at later then ≡ true → cleared (to_clock entries later then) ≡ cleared (to_clock entries later first)
      → then ≡ cleared (to_clock entries later first)
  part-last later first over rest = is ∙ sym (ap cleared is) ∙ sym (ap cleared (clock-none entries later then over)) ∙ rest

-- a run that is over at one clock and not at a later one stands between them
pub between : (jam : Option ℕ) (sooner later clock : ℕ) → is_some jam || nat_le sooner clock ≡ true → is_some jam || nat_le later clock ≡ false
    → (sooner ≤ clock) × (clock < later)
between (Some opcode) sooner later clock over open_yet = cc
between None sooner later clock over open_yet = grind (arith, nat_tests)
