-- What a call that takes memory answers, beside what its definition gives. This project's own
-- choice.
use Rattle.std.specs.Prelude.{◌≡◌, Result, Ok, Err}
use Rattle.asm_text.specs.declared.fault.AsmFault.{AsmFault}
use Rattle.asm_text.specs.declared.fault.AsmFault.TheVariants.{TooLong, Line, OutOfMemory}

-- a fault is the definition's, unless memory ran out
abbrev pub Faults : {Y : Type 0} → AsmFault → Result Y AsmFault → Type 0
Faults OutOfMemory given = Unit {0}
Faults TooLong given = given ≡ Err TooLong
Faults (Line line cause) given = given ≡ Err (Line line cause)

-- an answer, as this view sees it, is what the definition gives, unless memory ran out
abbrev pub Answers : {X Y : Type 0} → (X → Y) → Result X AsmFault → Result Y AsmFault → Type 0
Answers view (Ok x) given = given ≡ Ok (view x)
Answers view (Err fault) given = Faults fault given
