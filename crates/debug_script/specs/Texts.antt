-- The words for why a text is no script. They are this project's own.
use Rattle.std.specs.Prelude.{ℕ, List, ◌++◌, codes, decimal}
use Rattle.debug_script.specs.declared.fault.ScriptFault.{ScriptFault}
use Rattle.debug_script.specs.declared.fault.ScriptFault.TheVariants.{TooLong, BadCommand, OutOfMemory}

-- why a text is no script
abbrev pub script_fault_text : ScriptFault → List ℕ
script_fault_text TooLong = codes "too long"
script_fault_text (BadCommand line) = codes "line " ++ (decimal line ++ codes ": command")
script_fault_text OutOfMemory = codes "no memory"
