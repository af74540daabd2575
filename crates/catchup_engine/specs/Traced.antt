-- Runs whose turns are passed to a tracer. This project's own.
use Rattle.std.specs.Prelude.{◌≡◌, ℕ, ◌<◌, ◌≤◌, ◌⊎◌, Bool, true, false, List, zero, suc}
use Rattle.tape_ports.specs.declared.entry.TapeEntry.{TapeEntry}
use Rattle.lockstep_board.specs.Breaks.{turn, turned}
use Rattle.lockstep_board.specs.Lockstep.{Board}
use Rattle.lockstep_board.specs.Run.{is_over}
use Rattle.catchup_engine.specs.Trace.{TraceValue, step_trace}

module _ {T : Type 0} (next : T → TraceValue → ℕ → T) where
  -- a tracer that gets a board's next turn: its trace, and the program counter after it
  abbrev pub observed_once : List TapeEntry → T → Board → T
  observed_once entries w b = next w (step_trace entries b) (turn entries b).cpu.pc

  -- and of its next n turns
  unfoldable pub observed : List TapeEntry → ℕ → T → Board → T
  observed entries zero w b = w
  observed entries (suc n) w b = observed entries n (observed_once entries w b) (turn entries b)

  -- From b some turns lead to c, and a tracer that was w and gets each of them is v then; the flag
  -- says whether it has enough. After none of them but the last a run to this limit is over, or has
  -- it enough.
  pub record NotedTurns (enough : T → Bool) (entries : List TapeEntry) (limit : ℕ) (b c : Board) (w v : T) (flag : Bool) : Type 0 where
    pub count : ℕ
    pub board : c ≡ turned entries count b
    pub tracer : v ≡ observed entries count w b
    pub over : (k : ℕ) → k < count → is_over limit (turned entries k b) ≡ false
    pub goes_on : (k : ℕ) → 1 ≤ k → k < count → enough (observed entries k w b) ≡ false
    pub first : count ≡ 0 → flag ≡ false
    pub later : 1 ≤ count → flag ≡ enough v

  -- From b some turns lead to c, and a tracer that was w and gets each of them is v then. After
  -- none of them but the last a run to this limit is over, or has it enough; after the last it is
  -- so.
  pub record TracedRun (enough : T → Bool) (entries : List TapeEntry) (limit : ℕ) (b c : Board) (w v : T) : Type 0 where
    pub count : ℕ
    pub board : c ≡ turned entries count b
    pub tracer : v ≡ observed entries count w b
    pub over : (k : ℕ) → k < count → is_over limit (turned entries k b) ≡ false
    pub goes_on : (k : ℕ) → 1 ≤ k → k < count → enough (observed entries k w b) ≡ false
    pub ends : (is_over limit c ≡ true) ⊎ ((1 ≤ count) × (enough v ≡ true))
