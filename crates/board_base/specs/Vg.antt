-- The vector generator, as a plain record. Its phases and scales are this project's own choice.
use Rattle.std.specs.Prelude.{◌≡◌, ◌≢◌, ◌<◌, ◌≤◌, pos, true, length, replicate, All}
use Rattle.board_base.specs.declared.phase.TheConstants.{DRAW}
use Rattle.board_base.specs.declared.vg.TheConstants.{BEAM_EDGE, DELTA_EDGE}
use Rattle.board_base.specs.Ranges.{IsWithin}
use Rattle.board_base.specs.declared.vg.VgState.TheInside.{Inside}

-- the fields of `VgState`
abbrev pub VgValue : Type 0
VgValue = Inside

-- 8,192 words, a stack of four, and a vector of 1 to 8,192 clocks in the drawing phase alone
pub record IsVg (v : VgValue) : Type 0 where
  pub phase : v.phase ≤ DRAW
  pub pc : v.pc < 8192
  pub sp : v.sp < 4
  pub colour : v.colour < 8
  pub intensity : v.intensity < 16
  pub bin : v.bin < 8
  pub pen : v.pen < 16
  pub bytes : length v.bytes ≡ 4
  pub stack : length v.stack ≡ 4
  pub words : All (λ to. to < 8192) v.stack
  pub x : IsWithin BEAM_EDGE v.x
  pub y : IsWithin BEAM_EDGE v.y
  pub dx : IsWithin DELTA_EDGE v.dx
  pub dy : IsWithin DELTA_EDGE v.dy
  pub drawing : v.phase ≡ DRAW → 1 ≤ v.left
  pub longest : v.left ≤ 8192
  pub resting : v.phase ≢ DRAW → v.left ≡ 0

-- halted, all else 0
abbrev pub vg_at_power_on : VgValue
vg_at_power_on = record {
  halted = true;
  phase = 0;
  pc = 0;
  sp = 0;
  colour = 0;
  intensity = 0;
  lin = 0;
  bin = 0;
  pen = 0;
  bytes = replicate 4 0;
  stack = replicate 4 0;
  x = pos 0;
  y = pos 0;
  dx = pos 0;
  dy = pos 0;
  left = 0;
}
