-- The words for why a text is no tape. They are this project's own.
use Rattle.std.specs.Prelude.{ℕ, List, ◌++◌, codes, decimal}
use Rattle.tape_ports.specs.declared.fault.LineCause.{LineCause}
use Rattle.tape_ports.specs.declared.fault.LineCause.TheVariants as cause
use Rattle.tape_ports.specs.declared.fault.TapeFault.{TapeFault}
use Rattle.tape_ports.specs.declared.fault.TapeFault.TheVariants.{TooLong, BadLine, OutOfMemory}

-- what is wrong with a line
abbrev pub line_cause_text : LineCause → List ℕ
line_cause_text cause.Form = codes "form"
line_cause_text cause.Port = codes "port"
line_cause_text cause.Clock = codes "clock"
line_cause_text cause.Falls = codes "falls"
line_cause_text cause.NoEnd = codes "no end"
line_cause_text cause.AfterEnd = codes "after end"

-- why a text is no tape
abbrev pub tape_fault_text : TapeFault → List ℕ
tape_fault_text TooLong = codes "too long"
tape_fault_text (BadLine line cause) = codes "line " ++ (decimal line ++ (codes ": " ++ line_cause_text cause))
tape_fault_text OutOfMemory = codes "no memory"
