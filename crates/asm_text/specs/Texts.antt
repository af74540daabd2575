-- The texts of faults. This project's own choice.
use Rattle.std.specs.Prelude.{ℕ, List, ◌++◌, codes, decimal}
use Rattle.asm_text.specs.declared.fault.AsmCause.{AsmCause}
use Rattle.asm_text.specs.declared.fault.AsmCause.TheVariants.{BadToken, BadNumber, NoSuchForm, TwiceNamed, UnknownName, OutOfRange, OutsideRom, Overlap}
use Rattle.asm_text.specs.declared.fault.AsmFault.{AsmFault}
use Rattle.asm_text.specs.declared.fault.AsmFault.TheVariants.{TooLong, Line, OutOfMemory}

-- what is wrong with a line
abbrev pub source_cause_text : AsmCause → List ℕ
source_cause_text BadToken = codes "bad token"
source_cause_text BadNumber = codes "bad number"
source_cause_text NoSuchForm = codes "no such form"
source_cause_text TwiceNamed = codes "twice named"
source_cause_text UnknownName = codes "unknown name"
source_cause_text OutOfRange = codes "out of range"
source_cause_text OutsideRom = codes "outside rom"
source_cause_text Overlap = codes "overlap"

-- why a source is refused
abbrev pub source_fault_text : AsmFault → List ℕ
source_fault_text TooLong = codes "too long"
source_fault_text (Line line cause) = codes "line " ++ decimal line ++ codes ": " ++ source_cause_text cause
source_fault_text OutOfMemory = codes "no memory"
