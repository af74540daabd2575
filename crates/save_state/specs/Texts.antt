-- The text of a fault. This project's own choice.
use Rattle.std.specs.Prelude.{ℕ, List, ◌++◌, codes, decimal}
use Rattle.save_state.specs.declared.fault.StateFault.{StateFault}
use Rattle.save_state.specs.declared.fault.StateFault.TheVariants.{Field, Length, Version}

-- why bytes are no saved board
abbrev pub state_fault_text : StateFault → List ℕ
state_fault_text (Length n) = codes "length " ++ decimal n
state_fault_text (Version v) = codes "version " ++ decimal v
state_fault_text (Field at) = codes "field " ++ decimal at
