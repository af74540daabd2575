-- A mixer at work, a record at a time.
use Rattle.std.proofs.Common.{◌≡◌, ℕ, ◌+◌, ◌-◌, ◌≤◌, List, [], ◌∷◌, ◌++◌, Some, replicate, ap, ◌∙◌, refl, arith}
use Rattle.std.specs.List.{sum}
use Rattle.std.proofs.lemmas.Bool.{leb-true, false≢true}
use Rattle.std.proofs.lemmas.Bool.Decides.{nat_tests}
use Rattle.std.proofs.lemmas.List.Elements.{All-nil, All-cons}
use Rattle.board_base.specs.declared.part.Part.{Part}
use Rattle.board_base.specs.declared.part.Part.TheVariants.{Pokey1, Pokey2}
use Rattle.board_base.specs.declared.record.Record.{Record}
use Rattle.board_base.specs.declared.record.Record.TheVariants.{Levels}
use Rattle.board_base.specs.Records.{clock_of, MadeBetween}
use Rattle.sound_pcm.specs.Samples.{levels_at, levels_after, weight, weights, samples, group_after, bytes_of}
use Rattle.sound_pcm.specs.Mixing.{MixerValue, LevelsBetween, samples_of, mixed, held, changed}
use Rattle.sound_pcm.specs.Sooner.{MayPrecede, TakesSooner}
use Rattle.sound_pcm.specs.WholeRun.{AreFrom}
use Rattle.sound_pcm.proofs.GatherLaws.{bytes-append}
use Rattle.sound_pcm.proofs.LevelLaws.{IsOther, passed_over, at-sooner, map-range-steady}
use Rattle.sound_pcm.proofs.PartLaws.{mixer, Splits, split_at}

-- records from a clock on, none of which comes before a later one
pub made-from : (part : Part) (from to : ℕ) (records : List Record) → MadeBetween part from records to → AreFrom from records
made-from part from to [] made = All-nil (λ r. from ≤ clock_of r)
made-from part from to (first ∷ others) (makes, low, high, rest) =
    let more : AreFrom (clock_of first) others = made-from part (clock_of first) to others rest in
    All-cons (λ r. from ≤ clock_of r) first others low (λ k d inside. omega (arith, low, more k d inside))

-- the levels that are held weigh the same in each clock
still : (a b : List ℕ) (from n : ℕ) → weights a b [] [] from n ≡ replicate n (sum a + sum b)
unfolding weight levels_at
still a b from n = map-range-steady from n (sum a + sum b)

-- the samples of the clocks before one, with the levels that are held
abbrev pub holding : MixerValue → ℕ → List ℕ
holding m at = samples m.per m.sum m.count (replicate (at - m.clock) (sum m.sound1 + sum m.sound2))

-- no record is left
pub record IsLast (m : MixerValue) (sound1 sound2 : List Record) (upto : ℕ) : Type 0 where
  pub samples : samples_of m sound1 sound2 upto ≡ holding m upto
  pub state : mixed m sound1 sound2 upto ≡ held m upto

pub last : (m : MixerValue) (sound1 sound2 : List Record) (upto : ℕ) → sound1 ≡ [] → sound2 ≡ [] → IsLast m sound1 sound2 upto
unfolding samples_of mixed levels_after
last m sound1 sound2 upto none1 none2 =
    rw (none1, none2) record { samples = rw (still m.sound1 m.sound2 m.clock (upto - m.clock)) refl; state = rw (still m.sound1 m.sound2 m.clock (upto - m.clock)) refl }

-- the records of a POKEY at a clock before which no levels change: its levels then, and those that
-- are left
record Goes (from at to : ℕ) (before : List ℕ) (all : List Record) (after : List ℕ) (left : List Record) : Type 0 where
  splits : Splits from at before all [] after left
  between : LevelsBetween at left to

came : (from at to : ℕ) (before : List ℕ) (l1 l2 l3 l4 : ℕ) (left : List Record) → LevelsBetween from (Levels at l1 l2 l3 l4 ∷ left) to
    → Goes from at to before (Levels at l1 l2 l3 l4 ∷ left) (l1 ∷ l2 ∷ l3 ∷ l4 ∷ []) left
unfolding levels_at levels_after
came from at to before l1 l2 l3 l4 left (low, high, rest) = record {
  splits = record {
    sooner = λ k low high'. at-sooner before (Levels at l1 l2 l3 l4 ∷ left) at to k (omega arith, high, rest) high';
    later = λ k low. grind (arith, nat_tests);
    levels = refl;
  };
  between = rest;
}

stays : (from at to : ℕ) (before : List ℕ) (records : List Record) → LevelsBetween at records to → Goes from at to before records before records
unfolding levels_at
stays from at to before records between = record {
  splits = record { sooner = λ k low high. at-sooner before records at to k between high; later = λ k low. refl; levels = refl };
  between = between;
}

passes : (from to : ℕ) (before : List ℕ) (made : Record) (left : List Record) → IsOther made → LevelsBetween from (made ∷ left) to
    → Goes from from to before (made ∷ left) before left
passes from to before made left is between =
    let over = passed_over before made left is in
    record { splits = record { sooner = λ k low high. absurd (omega arith); later = λ k low. over.at k; levels = over.after }; between = over.between from to between }

-- what a mixer may take
pub record MayTake (m : MixerValue) (sound1 sound2 : List Record) (upto : ℕ) : Type 0 where
  pub from : m.clock ≤ upto
  pub made1 : LevelsBetween m.clock sound1 upto
  pub made2 : LevelsBetween m.clock sound2 upto

-- the samples up to a clock are made, and the next mixer makes the others
pub record IsTaken (m : MixerValue) (sound1 sound2 : List Record) (made : List ℕ) (next : MixerValue) (left1 left2 : List Record) (upto : ℕ) : Type 0 where
  pub may : MayTake next left1 left2 upto
  pub bytes : bytes_of (samples_of m sound1 sound2 upto) ≡ bytes_of made ++ bytes_of (samples_of next left1 left2 upto)
  pub state : mixed m sound1 sound2 upto ≡ mixed next left1 left2 upto

taken_on : (m : MixerValue) (sound1 sound2 left1 left2 : List Record) (after1 after2 : List ℕ) (at n upto : ℕ) → m.clock + n ≡ at → at ≤ upto
    → Goes m.clock at upto m.sound1 sound1 after1 left1 → Goes m.clock at upto m.sound2 sound2 after2 left2
    → IsTaken m sound1 sound2 (samples m.per m.sum m.count (replicate n (sum m.sound1 + sum m.sound2)))
    (mixer at m.per after1 after2 (group_after m.per m.sum m.count (replicate n (sum m.sound1 + sum m.sound2)))) left1 left2 upto
taken_on m sound1 sound2 left1 left2 after1 after2 at n upto is to one two =
    let step = split_at m sound1 sound2 [] [] left1 left2 after1 after2 (replicate n (sum m.sound1 + sum m.sound2)) at n upto is to
    (still m.sound1 m.sound2 m.clock n) one.splits two.splits in
    record {
      may = record { from = to; made1 = one.between; made2 = two.between };
      bytes = ap bytes_of step.samples ∙ bytes-append _ _;
      state = step.state;
    }

-- records of levels before the first of which another one may be taken
levels-later : (from at to l1 l2 l3 l4 : ℕ) (records : List Record) → LevelsBetween from records to → MayPrecede (Levels at l1 l2 l3 l4) records
    → LevelsBetween at records to
levels-later from at to l1 l2 l3 l4 [] made first = tt
levels-later from at to l1 l2 l3 l4 (Levels clock k1 k2 k3 k4 ∷ others) (low, high, rest) first = (leb-true at clock first, high, rest)
levels-later from at to l1 l2 l3 l4 (_ ∷ others) made first = absurd (false≢true first)

-- the clocks up to the next record of levels are held, and then it is taken on
pub taken : (m : MixerValue) (sound1 sound2 left1 left2 : List Record) (part : Part) (made : Record) (clock l1 l2 l3 l4 upto : ℕ)
    → made ≡ Levels clock l1 l2 l3 l4 → MayTake m sound1 sound2 upto → TakesSooner sound1 sound2 left1 left2 (Some (part, made))
    → IsTaken m sound1 sound2 (holding m clock) (changed (held m clock) part (Levels clock l1 l2 l3 l4)) left1 left2 upto
taken m sound1 sound2 left1 left2 Pokey1 made clock l1 l2 l3 l4 upto levels may (is, same, first) =
    let between : LevelsBetween m.clock (Levels clock l1 l2 l3 l4 ∷ left1) upto = rw (is, levels) at may.made1 in
    rw (is, same, levels) (taken_on m _ _ _ _ _ _ clock (clock - m.clock) upto (omega (arith, between.0)) (omega (arith, between.1))
    (came m.clock clock upto m.sound1 l1 l2 l3 l4 left1 between)
    (stays m.clock clock upto m.sound2 sound2 (levels-later m.clock clock upto l1 l2 l3 l4 sound2 may.made2 (rw levels at first))))
taken m sound1 sound2 left1 left2 Pokey2 made clock l1 l2 l3 l4 upto levels may (is, same, first) =
    let between : LevelsBetween m.clock (Levels clock l1 l2 l3 l4 ∷ left2) upto = rw (is, levels) at may.made2 in
    rw (is, same, levels) (taken_on m _ _ _ _ _ _ clock (clock - m.clock) upto (omega (arith, between.0)) (omega (arith, between.1))
    (stays m.clock clock upto m.sound1 sound1 (levels-later m.clock clock upto l1 l2 l3 l4 sound1 may.made1 (rw levels at first)))
    (came m.clock clock upto m.sound2 l1 l2 l3 l4 left2 between))
taken m sound1 sound2 left1 left2 _ made clock l1 l2 l3 l4 upto levels may none = absurd none

-- a record that isn't of levels is passed over
pub passed : (m : MixerValue) (sound1 sound2 left1 left2 : List Record) (part : Part) (made : Record) (upto : ℕ) → MayTake m sound1 sound2 upto
    → TakesSooner sound1 sound2 left1 left2 (Some (part, made)) → IsOther made → IsTaken m sound1 sound2 [] m left1 left2 upto
unfolding samples group_after
passed m sound1 sound2 left1 left2 Pokey1 made upto may (is, same, first) other =
    rw (is, same) (taken_on m _ _ _ _ m.sound1 m.sound2 m.clock 0 upto (omega arith) may.from
    (passes m.clock upto m.sound1 made left1 other (rw is at may.made1)) (stays m.clock m.clock upto m.sound2 sound2 may.made2))
passed m sound1 sound2 left1 left2 Pokey2 made upto may (is, same, first) other =
    rw (is, same) (taken_on m _ _ _ _ m.sound1 m.sound2 m.clock 0 upto (omega arith) may.from
    (stays m.clock m.clock upto m.sound1 sound1 may.made1) (passes m.clock upto m.sound2 made left2 other (rw is at may.made2)))
passed m sound1 sound2 left1 left2 _ made upto may none other = absurd none
