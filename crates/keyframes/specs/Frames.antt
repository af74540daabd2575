-- How a kept board lies in its memory: its fields, and the places of its pages in a pool.
use Rattle.std.specs.Prelude.{ℕ, ◌+◌, ◌<◌, ◌≤◌, IsSome, List, Option, None, Some, [], flat_map, take, drop}
use Rattle.board_base.specs.Board.{BoardValue, ports_of}
use Rattle.board_base.specs.declared.board.TheConstants.{CLOCK_LIMIT}
use Rattle.keyframes.specs.declared.pages.TheConstants.{RAM_PAGES}
use Rattle.page_pool.specs.Pool.{Holding, held_at}
use Rattle.keyframes.specs.declared.frame.Rest.{Rest}
use Rattle.keyframes.specs.declared.frame.Frame.{Frame}

-- all fields of a board but its RAMs
abbrev pub rest_of : BoardValue → Rest
rest_of b = record {
  clock = b.clock;
  cpu = b.cpu;
  ports = ports_of b;
  divider = b.divider;
  vg = b.vg;
  sound1 = b.sound1;
  sound2 = b.sound2;
  earom = b.earom;
}

-- fields that a board can have
pub record IsRest (rest : Rest) : Type 0 where
  pub clock : rest.clock ≤ CLOCK_LIMIT + 16
  pub middle : IsSome rest.cpu.mid → rest.clock ≤ CLOCK_LIMIT
  pub in0 : rest.ports.in0 < 64

-- a board with these fields and RAMs
abbrev pub board_with : Rest → List ℕ → List ℕ → BoardValue
board_with rest ram vram = record {
  clock = rest.clock;
  cpu = rest.cpu;
  out = rest.ports.out;
  in0 = rest.ports.in0;
  in3 = rest.ports.in3;
  in4 = rest.ports.in4;
  divider = rest.divider;
  vg = rest.vg;
  sound1 = rest.sound1;
  sound2 = rest.sound2;
  earom = rest.earom;
  ram = ram;
  vram = vram;
}

-- the bytes of a page, where it is live
abbrev pub bytes_in : Option Holding → List ℕ
bytes_in None = []
bytes_in (Some page) = page.bytes

-- the bytes at a place
abbrev pub page_bytes : List (Option Holding) → ℕ → List ℕ
page_bytes pool place = bytes_in (held_at pool place)

-- the board of a frame
abbrev pub board_of : List (Option Holding) → Frame → BoardValue
board_of pool frame =
    board_with frame.rest (flat_map (page_bytes pool) (take RAM_PAGES frame.pages.items)) (flat_map (page_bytes pool) (drop RAM_PAGES frame.pages.items))
