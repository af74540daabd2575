-- What the merged text of the four parts of the board says.
use Rattle.std.proofs.Common.{◌≡◌, ◌==◌, List, [], ◌∷◌, true, false, if◌then◌else◌, refl, ap, ◌∙◌, arith, suc}
use Rattle.std.specs.Prelude.{Some, None}
use Rattle.std.specs.List.{All, cons_option}
use Rattle.std.proofs.lemmas.Bool.{eqb-true}
use Rattle.std.proofs.lemmas.List.Elements.{All-cons, All-nil, All-tail}
use Rattle.board_base.specs.declared.part.Part.{Part}
use Rattle.board_base.specs.declared.part.Part.TheVariants.{Generator, Pokey1, Pokey2, Board}
use Rattle.board_base.specs.Sooner.{sooner_of}
use Rattle.log_text.specs.LogText.{PartRecord, merged, merged_text, log_text, made_by, place_of, IsNotAfter, IsInOrder, MergedIsOneLog}
use Rattle.log_text.proofs.NextLaws.{IsBefore, IsUpon, generator_first, pokey1_first, pokey2_first, board_first, next_none}

-- a record that isn't after others isn't after those of a part among them
before-made_by : (first : PartRecord) (part : Part) (others : List PartRecord) → All (IsNotAfter first) others → IsBefore first part (made_by part others)
unfolding made_by
before-made_by first part [] all = All-nil (λ other. IsNotAfter first (part, other))
before-made_by first part (other ∷ others) all =
    let more = before-made_by first part others (All-tail (IsNotAfter first) other others all) in
    elim (place_of other.0 == place_of part) as (λ b. (place_of other.0 == place_of part) ≡ b
    → IsBefore first part (cons_option (if b then Some other.1 else None) (made_by part others))) [
      | true ↦ λ e. All-cons (λ other. IsNotAfter first (part, other)) other.1 (made_by part others)
          (subst_part (all 0 other (omega arith)) (eqb-true (place_of other.0) (place_of part) e)) more
      | false ↦ λ e. more
    ] refl
  where
    subst_part : {first other : PartRecord} {part : Part} → IsNotAfter first other → place_of other.0 ≡ place_of part → IsNotAfter first (part, other.1)
    subst_part here same = record { clocks = here.clocks; parts = λ at. (let parts = here.parts at in omega arith) }

-- the first of a list in order isn't after those of any part
upon-made_by : (first : PartRecord) (others : List PartRecord) → IsInOrder (first ∷ others)
    → IsUpon first (made_by Generator (first ∷ others)) (made_by Pokey1 (first ∷ others)) (made_by Pokey2 (first ∷ others)) (made_by Board (first ∷ others))
upon-made_by first others ordered =
    let all = All-cons (IsNotAfter first) first others (record { clocks = omega arith; parts = λ _. omega arith })
    (λ k d inside. ordered 0 (suc k) d (omega arith) (omega arith)) in
    let before = λ (part : Part). before-made_by first part (first ∷ others) all in
    record { vector = before Generator; sound1 = before Pokey1; sound2 = before Pokey2; board = before Board }

others_in_order : (first : PartRecord) (others : List PartRecord) → IsInOrder (first ∷ others) → IsInOrder others
others_in_order first others ordered i j d order inside = ordered (suc i) (suc j) d (omega arith) (omega arith)

-- Over the records of each part of one list in order, the merged list is that list.
pub merged_is_one : (records : List PartRecord) → IsInOrder records
    → merged (made_by Generator records) (made_by Pokey1 records) (made_by Pokey2 records) (made_by Board records) ≡ records
unfolding made_by sooner_of
merged_is_one [] _ = next_none [] [] [] [] refl
merged_is_one ((Generator, made) ∷ others) ordered =
    generator_first made _ _ _ _ (upon-made_by (Generator, made) others ordered)
    ∙ ap (λ records. (Generator, made) ∷ records) (merged_is_one others (others_in_order _ others ordered))
merged_is_one ((Pokey1, made) ∷ others) ordered =
    pokey1_first made _ _ _ _ (upon-made_by (Pokey1, made) others ordered)
    ∙ ap (λ records. (Pokey1, made) ∷ records) (merged_is_one others (others_in_order _ others ordered))
merged_is_one ((Pokey2, made) ∷ others) ordered =
    pokey2_first made _ _ _ _ (upon-made_by (Pokey2, made) others ordered)
    ∙ ap (λ records. (Pokey2, made) ∷ records) (merged_is_one others (others_in_order _ others ordered))
merged_is_one ((Board, made) ∷ others) ordered =
    board_first made _ _ _ _ (upon-made_by (Board, made) others ordered)
    ∙ ap (λ records. (Board, made) ∷ records) (merged_is_one others (others_in_order _ others ordered))

-- And the merged text is the text of that list.
pub merged_is_one_log : (records : List PartRecord) → IsInOrder records → MergedIsOneLog records
unfolding merged_text
merged_is_one_log records ordered = ap log_text (merged_is_one records ordered)
