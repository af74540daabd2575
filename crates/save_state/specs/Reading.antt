-- What reading bytes as a board answers.
use Rattle.std.specs.Prelude.{◌≡◌, ◌<◌, ℕ, ◌^◌, List, ◌∷◌, ◌++◌, length, take, drop, slice_index, Result, Ok, Err, None, All, IfSome, ◌≢◌, ◌⊎◌}
use Rattle.save_state.specs.declared.TheConstants.{STATE_LEN}
use Rattle.save_state.specs.declared.fault.StateFault.{StateFault}
use Rattle.save_state.specs.declared.fault.StateFault.TheVariants.{Field as Broken, Length, Version}
use Rattle.board_base.specs.Board.{BoardValue, IsBoard}
use Rattle.board_base.specs.Cpu.{CpuValue, IsCpu}
use Rattle.board_base.specs.Mid.{IsMid}
use Rattle.board_base.specs.Divider.{IsDivider}
use Rattle.board_base.specs.Earom.{IsEarom}
use Rattle.board_base.specs.Pokey.{IsPokey}
use Rattle.board_base.specs.Vg.{IsVg}
use Rattle.cpu_core.specs.Places.{IsProcessor}
use Rattle.save_state.specs.Fields.{Row, IsInFieldRange}
use Rattle.save_state.specs.StateBytes.{table, facts_of, processor_of, state_bytes, first_state_bytes}

-- a processor in range: pc is a number of 16 bits, and all else is as its type and the processor's
-- crate have it
pub record IsWholeCpu (c : CpuValue) : Type 0 where
  pub pc : c.pc < 2 ^ 16
  pub registers : IsCpu c
  pub mid : IfSome c.mid IsMid
  pub stands : IsProcessor c

-- a board in range: what each part's type keeps
pub record IsWhole (b : BoardValue) : Type 0 where
  pub board : IsBoard b
  pub cpu : IsWholeCpu b.cpu
  pub divider : IsDivider b.divider
  pub vg : IsVg b.vg
  pub sound1 : IsPokey b.sound1
  pub sound2 : IsPokey b.sound2
  pub earom : IsEarom b.earom

-- these bytes are a board's, in version 2, or in version 1 where its processor stands inside no
-- sequence
abbrev pub Spells : List ℕ → BoardValue → Type 0
Spells file b = (file ≡ state_bytes b) ⊎ ((file ≡ first_state_bytes b) × (b.cpu.mid ≡ None))

-- the bytes of a row's field are in its range, in a file of this version
abbrev pub Holds : ℕ → List ℕ → Row BoardValue → Type 0
Holds version file r = IsInFieldRange (processor_of file) (r.range (facts_of version file)) (take r.width (drop r.at file))

-- of these rows the first whose field is out of its range has this offset, in a file of this
-- version
pub record IsFirstBroken (version : ℕ) (file : List ℕ) (rows : List (Row BoardValue)) (offset : ℕ) : Type 0 where
  pub before : List (Row BoardValue)
  pub broken : Row BoardValue
  pub after : List (Row BoardValue)
  pub order : rows ≡ before ++ broken ∷ after
  pub good : All (Holds version file) before
  pub bad : ¬ Holds version file broken
  pub here : offset ≡ broken.at

-- the first field of a file of this version whose bytes are out of their range stands at this
-- offset
unfoldable pub BreaksFirst : ℕ → List ℕ → ℕ → Type 0
BreaksFirst version file offset = IsFirstBroken version file (table version) offset

-- each field of a file of this version is in its range, and has the bytes of a board's at its
-- offset
unfoldable pub HasFields : ℕ → List ℕ → BoardValue → Type 0
HasFields version file b = All (λ r. Holds version file r × (take r.width (drop r.at file) ≡ r.spelled b)) (table version)

-- how bytes are read as a board: their number is looked at first, and then their version
abbrev pub ReadsState : List ℕ → Result BoardValue StateFault → Type 0
ReadsState file (Ok b) = (length file ≡ STATE_LEN) × Spells file b × IsWhole b × HasFields (slice_index file 0) file b
ReadsState file (Err (Length n)) = (n ≡ length file) × (length file ≢ STATE_LEN)
ReadsState file (Err (Version v)) = (length file ≡ STATE_LEN) × (v ≡ slice_index file 0) × (v ≢ 1) × (v ≢ 2)
ReadsState file (Err (Broken at)) =
    (length file ≡ STATE_LEN) × ((slice_index file 0 ≡ 1) ⊎ (slice_index file 0 ≡ 2)) × BreaksFirst (slice_index file 0) file at
