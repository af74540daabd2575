-- What comes of a part of a run that writes and stores.
use Rattle.std.specs.Prelude.{◌≡◌, ℕ, ◌≤◌, Result, Ok, Err}
use Rattle.outside_io.specs.Causes.{Raised}
use Rattle.outside_io.specs.Seen.{SameLoans, Seen}
use Rattle.run_log.specs.declared.outside_fault.OutsideFault.{OutsideFault}
use Rattle.run_log.specs.declared.outside_fault.OutsideFault.TheVariants.{Shelf, Out}

-- each fault comes where its own count rose
abbrev pub SliceFaults : {A : Type 0} → ℕ → ℕ → ℕ → ℕ → Result A OutsideFault → Type 0
SliceFaults shelf0 shelf1 out0 out1 (Ok _) = (shelf1 ≡ shelf0) × (out1 ≡ out0)
SliceFaults shelf0 shelf1 out0 out1 (Err Shelf) = Raised shelf0 shelf1 × (out1 ≡ out0)
SliceFaults shelf0 shelf1 out0 out1 (Err Out) = (shelf1 ≡ shelf0) × Raised out0 out1

-- what holds of a host after a part of a run
pub record KeepsHost {A : Type 0} (before now : Seen) (result : Result A OutsideFault) : Type 0 where
  pub loans : SameLoans before now
  pub faults : SliceFaults before.shelf_faults now.shelf_faults before.out_faults now.out_faults result
  pub absences : before.absences ≤ now.absences
