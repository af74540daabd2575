-- The text of a run whose lines are written in parts.
use Rattle.std.proofs.Common.{◌≡◌, ℕ, List, [], ◌∷◌, ◌++◌, take, Option, Result, refl, sym, ap, ◌∙◌, append_assoc, append-nil}
use Rattle.std.proofs.lemmas.Grind.{flat_map-append}
use Rattle.std.proofs.lemmas.List.Concat.{flat_map-cons}
use Rattle.outside_io.specs.Known.{grown}
use Rattle.outside_io.specs.Sink.{Takes}
use Rattle.outside_io.proofs.KnownLaws.{grown-nothing}
use Rattle.outside_io.proofs.TakesLaws.{took_first, took_then, takes-then}
use Rattle.tape_ports.specs.declared.entry.TapeEntry.{TapeEntry}
use Rattle.lockstep_board.specs.Order.{HasNoRecords, cleared}
use Rattle.lockstep_board.specs.Lockstep.{Board}
use Rattle.lockstep_board.specs.Run.{to_boundary}
use Rattle.lockstep_board.proofs.Ended.{cleared-empty}
use Rattle.catchup_engine.specs.Traced.{observed}
use Rattle.cycle_profile.specs.Profile.{ProfileValue, after}
use Rattle.cycle_profile.specs.Text.{profile_text}
use Rattle.frame_list.specs.Frames.{FrameValue, started, ended, frame_text, frames_text, under_way}
use Rattle.log_text.specs.LogText.{last_text}
use Rattle.run_trace.specs.BoardFrames.{framed_text, run_events, run_frames}
use Rattle.run_trace.specs.BoardProfile.{no_profile, profiled_text, run_profile, run_turns}

-- the last line of a run that ended at a board
abbrev last_line : Board → List ℕ
last_line b = last_text b.peripherals.clock b.cpu.pc b.cpu.jam

-- it depends on no record
last-cleared : (b : Board) → last_line (cleared b) ≡ last_line b
last-cleared b = refl

-- the frames that ended, the one under way, and the last line
pub framed-is : (entries : List TapeEntry) (limit : ℕ) (b : Board) → HasNoRecords b
    → framed_text entries limit b
    ≡ frames_text (ended (started 0 b.peripherals.clock) (run_events entries limit (cleared b)))
    ++ (frame_text (under_way (started 0 b.peripherals.clock) (run_events entries limit (cleared b)))
    ++ last_line (cleared (to_boundary entries limit b)))
unfolding framed_text run_frames frames_text
framed-is entries limit b none =
    let events = run_events entries limit b in
    let first = started 0 b.peripherals.clock in
    let last = to_boundary entries limit b in
    let one : frames_text (under_way first events ∷ []) ≡ frame_text (under_way first events) =
    flat_map-cons frame_text (under_way first events) [] ∙ append-nil (frame_text (under_way first events)) in
    let same : events ≡ run_events entries limit (cleared b) = ap (run_events entries limit) (sym (cleared-empty b none)) in
    ap (λ l. l ++ last_line last) (flat_map-append frame_text (ended first events) (under_way first events ∷ []))
    ∙ append_assoc (frames_text (ended first events)) (frames_text (under_way first events ∷ [])) (last_line last)
    ∙ ap (λ l. frames_text (ended first events) ++ (l ++ last_line last)) one
    ∙ ap (λ l. frames_text (ended first events) ++ (frame_text (under_way first events) ++ l)) (sym (last-cleared last))
    ∙ ap (λ l. frames_text (ended first l) ++ (frame_text (under_way first l) ++ last_line (cleared last))) same

-- the last line, by the board at the end
pub last-at_end : (entries : List TapeEntry) (limit : ℕ) (b now : Board) → now ≡ cleared (to_boundary entries limit b)
    → last_line now ≡ last_line (cleared (to_boundary entries limit b))
last-at_end entries limit b now is = ap last_line is

module _ (entries : List TapeEntry) (limit : ℕ) (b : Board) (none : HasNoRecords b) (frames : FrameValue) (is : frames ≡ started 0 b.peripherals.clock)
    (out0 out1 : Option (List ℕ)) where
  abbrev lines : List ℕ
  lines = frames_text (ended (started 0 b.peripherals.clock) (run_events entries limit (cleared b)))

  abbrev one_line : List ℕ
  one_line = frame_text (under_way (started 0 b.peripherals.clock) (run_events entries limit (cleared b)))

  abbrev end_line : List ℕ
  end_line = last_line (cleared (to_boundary entries limit b))

  lines-are : frames_text (ended frames (run_events entries limit (cleared b))) ≡ lines
  lines-are = ap (λ (f : FrameValue). frames_text (ended f (run_events entries limit (cleared b)))) is

  line-is : (last : FrameValue) → last ≡ under_way frames (run_events entries limit (cleared b)) → frame_text last ≡ one_line
  line-is last end = ap frame_text (end ∙ ap (λ (f : FrameValue). under_way f (run_events entries limit (cleared b))) is)

  -- a fault came in the lines of the frames that ended
  pub framed-cut : ((k : ℕ) × (out1 ≡ grown out0 (take k (frames_text (ended frames (run_events entries limit (cleared b)))))))
      → (k : ℕ) × (out1 ≡ grown out0 (take k (framed_text entries limit b)))
  framed-cut (k, cut) =
      rw (framed-is entries limit b none)
      (took_first out0 out1 lines (one_line ++ end_line) (k, cut ∙ ap (λ text. grown out0 (take k text)) lines-are))

  module _ (whole : out1 ≡ grown out0 (frames_text (ended frames (run_events entries limit (cleared b))))) (last : FrameValue)
      (end : last ≡ under_way frames (run_events entries limit (cleared b))) (out2 : Option (List ℕ)) where
    -- or in that of the frame under way
    pub framed-cut-line : ((k : ℕ) × (out2 ≡ grown out1 (take k (frame_text last))))
        → (k : ℕ) × (out2 ≡ grown out0 (take k (framed_text entries limit b)))
    framed-cut-line (k, cut) =
        rw (framed-is entries limit b none)
        (took_then out0 out1 out2 lines (one_line ++ end_line) (whole ∙ ap (grown out0) lines-are)
        (took_first out1 out2 one_line end_line (k, cut ∙ ap (λ text. grown out1 (take k text)) (line-is last end))))

    -- or all was taken up to the last line
    pub framed-all : {T E : Type 0} (out3 : Option (List ℕ)) (now : Board) (result : Result T E) → out2 ≡ grown out1 (frame_text last)
        → now ≡ cleared (to_boundary entries limit b) → Takes out2 out3 (last_line now) result
        → Takes out0 out3 (framed_text entries limit b) result
    framed-all out3 now result line board took =
        let there : Takes out2 out3 end_line result = rw (last-at_end entries limit b now board) at took in
        rw (framed-is entries limit b none)
        (takes-then out0 out1 out3 lines (one_line ++ end_line) result (whole ∙ ap (grown out0) lines-are)
        (takes-then out1 out2 out3 one_line end_line result (line ∙ ap (grown out1) (line-is last end)) there))

-- the profile, and the last line
profiled-is : (entries : List TapeEntry) (limit : ℕ) (b : Board)
    → profiled_text entries limit b
    ≡ profile_text (run_profile entries limit b) ++ last_line (cleared (to_boundary entries limit b))
unfolding profiled_text
profiled-is entries limit b =
    let last = to_boundary entries limit b in
    ap (λ l. profile_text (run_profile entries limit b) ++ l) (sym (last-cleared last))

module _ (entries : List TapeEntry) (limit : ℕ) (b : Board) (first p : ProfileValue) (fresh : first ≡ no_profile b.cpu.pc)
    (is : p ≡ observed after entries (run_turns entries limit b) first b) (out0 out1 : Option (List ℕ)) (whole : out1 ≡ grown out0 []) (out2 : Option (List ℕ)) where
  abbrev bottom : List ℕ
  bottom = last_line (cleared (to_boundary entries limit b))

  profile-is : p ≡ run_profile entries limit b
  unfolding run_profile
  profile-is = is ∙ ap (λ (q : ProfileValue). observed after entries (run_turns entries limit b) q b) fresh

  start : out1 ≡ out0
  start = whole ∙ grown-nothing out0

  -- a fault came in the profile
  pub profiled-cut : ((k : ℕ) × (out2 ≡ grown out1 (take k (profile_text p))))
      → (k : ℕ) × (out2 ≡ grown out0 (take k (profiled_text entries limit b)))
  profiled-cut (k, cut) =
      rw (profiled-is entries limit b)
      (took_first out0 out2 (profile_text (run_profile entries limit b)) bottom (
        k,
        cut ∙ ap (λ out. grown out (take k (profile_text p))) start
            ∙ ap (λ (q : ProfileValue). grown out0 (take k (profile_text q))) profile-is,
      ))

  -- or all was taken up to the last line
  pub profiled-all : {T E : Type 0} (out3 : Option (List ℕ)) (now : Board) (result : Result T E) → out2 ≡ grown out1 (profile_text p)
      → now ≡ cleared (to_boundary entries limit b) → Takes out2 out3 (last_line now) result
      → Takes out0 out3 (profiled_text entries limit b) result
  profiled-all out3 now result text board took =
      let there : Takes out2 out3 bottom result = rw (last-at_end entries limit b now board) at took in
      rw (profiled-is entries limit b)
      (takes-then out0 out2 out3 (profile_text (run_profile entries limit b)) bottom result
      (text ∙ ap (λ out. grown out (profile_text p)) start ∙ ap (λ (q : ProfileValue). grown out0 (profile_text q)) profile-is) there)
