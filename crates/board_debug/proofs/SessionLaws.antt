-- The commands of a session, one after another.
use Rattle.std.proofs.Common.{◌≡◌, ℕ, ◌+◌, ◌<◌, ◌≤◌, true, List, [], ◌∷◌, ◌++◌, Option, Some, None, length, drop, get_or, sym, ap, subst, ◌∙◌, add-one}
use Rattle.std.specs.Option.{option_map}
use Rattle.std.proofs.Math.Seq.{drop-cons}
use Rattle.std.proofs.lemmas.List.{drop_all}
use Rattle.tape_ports.specs.Tape.{TapeValue}
use Rattle.lockstep_board.specs.Lockstep.{Board}
use Rattle.debug_script.specs.declared.command.Command.{Command}
use Rattle.debug_script.specs.Breakpoints.{Fit, StopsValue, are_few, stops_after}
use Rattle.board_debug.specs.declared.stop_reason.StopReason.{StopReason}
use Rattle.board_debug.specs.Looks.{stop_text}
use Rattle.board_debug.specs.Session.{Reached, board_after, board_at, command_text, reached_by, session_board, session_text, shown_text, text_at}

-- where a command has made turns
abbrev pub reached_at : Board → Option StopReason → Option Reached
reached_at b found = option_map (λ found. record { found = found; board = b }) found

-- what a command prints that has made turns
pub turned-text : (tape : TapeValue) (stops : StopsValue) (command : Command) (b after : Board) (found : StopReason) (result : Option StopReason)
    → result ≡ Some found → reached_at after result ≡ reached_by tape stops command b → stop_text found after ≡ command_text tape stops command b
turned-text tape stops command b after found result is reached =
    ap (λ (r : Option Reached). text_at r (shown_text command b)) (ap (reached_at after) (sym is) ∙ reached)

-- what one prints that has made none
pub shown-text : (tape : TapeValue) (stops : StopsValue) (command : Command) (b after : Board) (result : Option StopReason)
    → result ≡ None → reached_at after result ≡ reached_by tape stops command b → after ≡ board_after tape stops command b
    → shown_text command after ≡ command_text tape stops command b
shown-text tape stops command b after result is reached board =
    let none = ap (reached_at after) (sym is) ∙ reached in
    ap (shown_text command) (board ∙ ap (λ (r : Option Reached). board_at r b) (sym none))
    ∙ ap (λ (r : Option Reached). text_at r (shown_text command b)) none

-- the commands from one on
pub commands-from : (commands : List Command) (i : ℕ) (d : Command) → i < length commands
    → drop i commands ≡ get_or commands i d ∷ drop (i + 1) commands
commands-from commands i d inside =
    drop-cons commands i d inside ∙ ap (λ n. get_or commands i d ∷ drop n commands) (sym (add-one i))

pub fit-now : (stops : StopsValue) (commands : List Command) (i : ℕ) (command d : Command) → i < length commands → command ≡ get_or commands i d
    → Fit stops (drop i commands) → (are_few (stops_after command stops) ≡ true) × Fit (stops_after command stops) (drop (i + 1) commands)
fit-now stops commands i command d inside is fit =
    subst (Fit stops) (commands-from commands i d inside ∙ ap (λ (c : Command). c ∷ drop (i + 1) commands) (sym is)) fit

pub text-now : (tape : TapeValue) (stops : StopsValue) (commands : List Command) (i : ℕ) (command d : Command) (b : Board) → i < length commands
    → command ≡ get_or commands i d → session_text tape stops (drop i commands) b
    ≡ command_text tape stops command b ++ session_text tape (stops_after command stops) (drop (i + 1) commands) (board_after tape stops command b)
unfolding session_text
text-now tape stops commands i command d b inside is =
    ap (λ (cs : List Command). session_text tape stops cs b)
    (commands-from commands i d inside ∙ ap (λ (c : Command). c ∷ drop (i + 1) commands) (sym is))

pub board-now : (tape : TapeValue) (stops : StopsValue) (commands : List Command) (i : ℕ) (command d : Command) (b : Board) → i < length commands
    → command ≡ get_or commands i d → session_board tape stops (drop i commands) b
    ≡ session_board tape (stops_after command stops) (drop (i + 1) commands) (board_after tape stops command b)
unfolding session_board
board-now tape stops commands i command d b inside is =
    ap (λ (cs : List Command). session_board tape stops cs b)
    (commands-from commands i d inside ∙ ap (λ (c : Command). c ∷ drop (i + 1) commands) (sym is))

-- the same, with the stops and the board that it leaves
pub text-on : (tape : TapeValue) (stops next : StopsValue) (commands : List Command) (i : ℕ) (command d : Command) (b after : Board) → i < length commands
    → command ≡ get_or commands i d → next ≡ stops_after command stops → after ≡ board_after tape stops command b
    → session_text tape stops (drop i commands) b ≡ command_text tape stops command b ++ session_text tape next (drop (i + 1) commands) after
text-on tape stops next commands i command d b after inside is noted left =
    text-now tape stops commands i command d b inside is
    ∙ ap (λ (s : StopsValue). command_text tape stops command b ++ session_text tape s (drop (i + 1) commands) (board_after tape stops command b)) (sym noted)
    ∙ ap (λ (a : Board). command_text tape stops command b ++ session_text tape next (drop (i + 1) commands) a) (sym left)

pub board-on : (tape : TapeValue) (stops next : StopsValue) (commands : List Command) (i : ℕ) (command d : Command) (b after : Board) → i < length commands
    → command ≡ get_or commands i d → next ≡ stops_after command stops → after ≡ board_after tape stops command b
    → session_board tape stops (drop i commands) b ≡ session_board tape next (drop (i + 1) commands) after
board-on tape stops next commands i command d b after inside is noted left =
    board-now tape stops commands i command d b inside is
    ∙ ap (λ (s : StopsValue). session_board tape s (drop (i + 1) commands) (board_after tape stops command b)) (sym noted)
    ∙ ap (λ (a : Board). session_board tape next (drop (i + 1) commands) a) (sym left)

-- after the last of them
pub text-last : (tape : TapeValue) (stops : StopsValue) (commands : List Command) (i : ℕ) (b : Board) → length commands ≤ i
    → session_text tape stops (drop i commands) b ≡ []
unfolding session_text
text-last tape stops commands i b all = ap (λ (cs : List Command). session_text tape stops cs b) (drop_all i commands all)

pub board-last : (tape : TapeValue) (stops : StopsValue) (commands : List Command) (i : ℕ) (b : Board) → length commands ≤ i
    → session_board tape stops (drop i commands) b ≡ b
unfolding session_board
board-last tape stops commands i b all = ap (λ (cs : List Command). session_board tape stops cs b) (drop_all i commands all)
