-- Laws of stretches.
use Rattle.std.proofs.Common.{◌≡◌, ℕ, ◌≤◌, List, [], length, Some, sym, ap, subst, ◌∙◌, arith, is_some}
use Rattle.lockstep_board.specs.Order.{cleared}
use Rattle.lockstep_board.specs.Lockstep.{Board}
use Rattle.lockstep_board.specs.Peripherals.{board_of}
use Rattle.save_state.specs.Reading.{IsWhole}
use Rattle.outside_io.specs.Known.{grown}
use Rattle.run_log.proofs.SlicesLaws.{saved-cleared}
use Rattle.run_stretch.specs.declared.ended.Stretch.{Stretch}
use Rattle.run_stretch.specs.Kept.{kept}
use Rattle.run_stretch.specs.Stretches.{EndsAt}
use Rattle.run_stretch.proofs.KeptLaws.{kept-all, kept-most}

-- a stretch ends where its engine stands, but for the records
pub ends-behind : (room : ℕ) (text : List ℕ) (now last : Board) (s : Stretch) → EndsAt room text now s → now ≡ cleared last → EndsAt room text last s
ends-behind room text now last s ends is = record {
  bytes = ends.bytes;
  wanted = ends.wanted;
  board = saved-cleared last now s.board is ends.board;
  whole = subst (λ (b : Board). IsWhole (board_of b.cpu b.peripherals)) is ends.whole;
  clock = ends.clock ∙ ap (λ (b : Board). b.peripherals.clock) is;
  jammed = ends.jammed ∙ ap (λ (b : Board). is_some b.cpu.jam) is;
}

-- it has no more bytes than it counts
pub ends-fit : (room : ℕ) (text : List ℕ) (last : Board) (s : Stretch) → EndsAt room text last s → length s.output.items ≤ s.wanted
ends-fit room text last s ends =
    let most = kept-most room text in
    let bytes : length s.output.items ≡ length (kept room text) = ap length ends.bytes in
    let wanted = ends.wanted in
    omega arith

-- and where it has as many, it has all
pub ends-all : (room : ℕ) (text : List ℕ) (last : Board) (s : Stretch) → EndsAt room text last s → length s.output.items ≡ s.wanted → s.output.items ≡ text
ends-all room text last s ends all = ends.bytes ∙ kept-all room text (ap length (sym ends.bytes) ∙ all ∙ ends.wanted)

-- a sink that had taken nothing has what it took
pub grown-whole : (now before text : List ℕ) → Some now ≡ grown (Some before) text → before ≡ [] → now ≡ text
grown-whole now before text taken none = cc
