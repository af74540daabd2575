-- Tracers that take the records of a run too, and what the laws of one say. This project's own.
use Rattle.std.specs.Prelude.{◌≡◌, ℕ, ◌≤◌, Bool, true, List, [], ◌++◌}
use Rattle.tape_ports.specs.declared.entry.TapeEntry.{TapeEntry}
use Rattle.lockstep_board.specs.Order.{HasNoRecords, cleared, Recorded, records_of}
use Rattle.lockstep_board.specs.Lockstep.{Board}
use Rattle.lockstep_board.specs.Run.{IsPlaced, is_over}
use Rattle.catchup_engine.specs.Trace.{TraceValue}
use Rattle.catchup_engine.specs.Traced.{TracedRun}

module _ {F : Type 0} (writes : F → List TapeEntry → ℕ → Board → List ℕ) (after_run : F → List TapeEntry → ℕ → Board → F) where
  -- a run that is over writes nothing, and changes nothing
  pub record IsStill (w : F) (entries : List TapeEntry) (limit : ℕ) (b : Board) : Type 0 where
    pub text : writes w entries limit b ≡ []
    pub state : after_run w entries limit b ≡ w

  abbrev pub StandsStill : Type 0
  StandsStill = (w : F) (entries : List TapeEntry) (limit : ℕ) (b : Board) → is_over limit b ≡ true → IsStill w entries limit b

module _ {F : Type 0} (next : F → TraceValue → ℕ → F) (enough : F → Bool) (can_follow : F → List TapeEntry → ℕ → Board → Type 0)
    (writes : F → List TapeEntry → ℕ → Board → List ℕ) (after_run : F → List TapeEntry → ℕ → Board → F)
    (can_take : F → Recorded → Type 0) (part_writes : F → Recorded → List ℕ) (after_part : F → Recorded → F) where
  -- From the board b a first part of the run led to c, and an observer that was w got its turns and
  -- is v. To take the records of this part and then to follow the rest of the run is to follow the
  -- whole.
  pub record IsFollowedInParts (w v : F) (entries : List TapeEntry) (limit : ℕ) (b c : Board) : Type 0 where
    pub room : can_take v (records_of c)
    pub rest : can_follow (after_part v (records_of c)) entries limit (cleared c)
    pub text : writes w entries limit b
        ≡ part_writes v (records_of c) ++ writes (after_part v (records_of c)) entries limit (cleared c)
    pub state : after_run w entries limit b ≡ after_run (after_part v (records_of c)) entries limit (cleared c)

  abbrev pub FollowsInParts : Type 0
  FollowsInParts =
      (w v : F) (entries : List TapeEntry) (limit part : ℕ) (b c : Board) → part ≤ limit → IsPlaced b → HasNoRecords b
      → can_follow w entries limit b → TracedRun next enough entries part b c w v → IsFollowedInParts w v entries limit b c
