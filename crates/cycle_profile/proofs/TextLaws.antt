-- The lines of a profile as they are gathered.
use Rattle.std.proofs.Common.{◌≡◌, ℕ, ◌+◌, ◌<◌, ◌≤◌, List, [], ◌++◌, Option, Result, length, take, drop, get_or, refl, ap, sym, ◌∙◌, add-one, append_assoc, append-nil}
use Rattle.std.specs.Prelude.{IsErr}
use Rattle.std.proofs.Math.Seq.{drop-cons}
use Rattle.std.proofs.Math.ListN.{drop_of_length-le}
use Rattle.outside_io.specs.Known.{grown}
use Rattle.outside_io.specs.Sink.{Takes}
use Rattle.outside_io.proofs.KnownLaws.{grown-nothing}
use Rattle.outside_io.proofs.TakesLaws.{took_first}
use Rattle.outside_io.specs.Gathering.{IsGathered}
use Rattle.outside_io.proofs.GatherLaws.{gathered-longer, gathered-then, gathered-cut, gathered-end, takes-cut}
use Rattle.cycle_profile.specs.declared.counts.Counts.{Counts}
use Rattle.cycle_profile.specs.Text.{routine_text, routines_text}

-- an address with no clocks: no line is put
pub put-nothing : (out : Option (List ℕ)) (block : List ℕ) (address : ℕ) (counts : Counts) → counts.clocks ≡ 0
    → IsGathered out out (block ++ routine_text address counts) block
put-nothing out block address counts none =
    let text : routine_text address counts ≡ [] = rw none refl in
    record { sent = []; taken = sym (grown-nothing out); parts = ap (λ l. block ++ l) text ∙ append-nil block }

-- the lines from an address on: its own first
pub routines-first : (counts : List Counts) (i : ℕ) (d : Counts) → i < length counts
    → routines_text i (drop i counts) ≡ routine_text i (get_or counts i d) ++ routines_text (i + 1) (drop (i + 1) counts)
unfolding routines_text
routines-first counts i d below =
    ap (routines_text i) (drop-cons counts i d below)
    ∙ ap (λ n. routine_text i (get_or counts i d) ++ routines_text (i + 1) (drop n counts)) (sym (add-one i))

-- no address is left
pub routines-none : (counts : List Counts) (i : ℕ) → length counts ≤ i → routines_text i (drop i counts) ≡ []
unfolding routines_text
routines-none counts i above = rw (drop_of_length-le counts above) refl

-- of a text a first part was taken or waits in the block, and the rest is left
pub record Wrote (out0 out1 : Option (List ℕ)) (block all left : List ℕ) : Type 0 where
  pub done : List ℕ
  pub split : all ≡ done ++ left
  pub gathered : IsGathered out0 out1 done block

-- a piece more
pub wrote-piece : (out0 out1 out2 : Option (List ℕ)) (block piece more all left rest : List ℕ) → left ≡ piece ++ rest → Wrote out0 out1 block all left
    → IsGathered out1 out2 (block ++ piece) more → Wrote out0 out2 more all rest
wrote-piece out0 out1 out2 block piece more all left rest first before after = record {
  done = before.done ++ piece;
  split = before.split ∙ ap (λ l. before.done ++ l) first ∙ sym (append_assoc before.done piece rest);
  gathered = gathered-then out0 out1 out2 (before.done ++ piece) (block ++ piece) more (gathered-longer out0 out1 before.done block piece before.gathered) after;
}

-- a fault came before it was gathered
pub wrote-cut : {T E : Type 0} (out0 out1 out2 : Option (List ℕ)) (block piece all left rest last : List ℕ) (result : Result T E) → left ≡ piece ++ rest
    → Wrote out0 out1 block all left → IsErr result → (k : ℕ) × (out2 ≡ grown out1 (take k (block ++ piece))) → Takes out0 out2 (all ++ last) result
wrote-cut out0 out1 out2 block piece all left rest last result first before fault cut =
    let whole : all ++ last ≡ (before.done ++ piece) ++ (rest ++ last)
    = ap (λ l. l ++ last) (before.split ∙ ap (λ l. before.done ++ l) first ∙ sym (append_assoc before.done piece rest)) ∙ append_assoc (before.done ++ piece) rest last in
    rw whole (takes-cut out0 out2 _ result fault (took_first out0 out2 (before.done ++ piece) (rest ++ last)
    (gathered-cut out0 out1 out2 (before.done ++ piece) (block ++ piece) (gathered-longer out0 out1 before.done block piece before.gathered) cut)))

-- nothing is left
pub wrote-all : (out0 out1 : Option (List ℕ)) (block all left : List ℕ) → left ≡ [] → Wrote out0 out1 block all left → IsGathered out0 out1 all block
wrote-all out0 out1 block all left none before = rw (before.split ∙ ap (λ l. before.done ++ l) none ∙ append-nil before.done) before.gathered

-- the last piece was put, and what waited was taken
pub wrote-end : {T E : Type 0} (out0 out1 out2 out3 : Option (List ℕ)) (block piece last more all left : List ℕ) (result : Result T E) → piece ≡ last → left ≡ []
    → Wrote out0 out1 block all left → IsGathered out1 out2 (block ++ piece) more → Takes out2 out3 more result → Takes out0 out3 (all ++ last) result
wrote-end out0 out1 out2 out3 block piece last more all left result is none before put flushed =
    rw (← is) (gathered-end out0 out2 out3 (all ++ piece) more result
    (gathered-then out0 out1 out2 (all ++ piece) (block ++ piece) more (gathered-longer out0 out1 all block piece (wrote-all out0 out1 block all left none before)) put) flushed)

-- a fault came at the last piece
pub wrote-last_cut : {T E : Type 0} (out0 out1 out2 : Option (List ℕ)) (block piece last all left : List ℕ) (result : Result T E) → piece ≡ last → left ≡ []
    → Wrote out0 out1 block all left → IsErr result → (k : ℕ) × (out2 ≡ grown out1 (take k (block ++ piece))) → Takes out0 out2 (all ++ last) result
wrote-last_cut out0 out1 out2 block piece last all left result is none before fault cut =
    rw (← is) (takes-cut out0 out2 (all ++ piece) result fault
    (gathered-cut out0 out1 out2 (all ++ piece) (block ++ piece) (gathered-longer out0 out1 all block piece (wrote-all out0 out1 block all left none before)) cut))
