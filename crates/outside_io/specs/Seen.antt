-- What clauses see of a shelf and an output that are lent together, and what was done to both. This
-- project's own.
use Rattle.std.specs.Prelude.{◌≡◌, ℕ, ◌≤◌, List, [], ◌∷◌, Option, Result, OnErr, OnOk, ◌⊎◌}
use Rattle.outside_io.specs.Causes.{HasCause, Rose}
use Rattle.outside_io.specs.Events.{Event, Did, DidFirst, sending, stored}
use Rattle.outside_io.specs.Shelf.{Files, Kept}

-- The names of the two loans; the files, the stores and the text, each where it is known; and the
-- counts.
pub record Seen : Type 0 where
  pub shelf_loan : ℕ
  pub out_loan : ℕ
  pub files : Option Files
  pub stores : Option (List Kept)
  pub taken : Option (List ℕ)
  pub shelf_faults : ℕ
  pub out_faults : ℕ
  pub absences : ℕ

-- always true: the type of a host names by it the ghost members of its shelf and of its output
abbrev pub AreLent : ℕ → ℕ → Type 0
AreLent absences faults = Unit {0}

-- the same shelf and the same output are lent
pub record SameLoans (before now : Seen) : Type 0 where
  pub shelf : now.shelf_loan ≡ before.shelf_loan
  pub out : now.out_loan ≡ before.out_loan

-- all of these events were done
abbrev pub HostDid : List Event → Seen → Seen → Type 0
HostDid events before now = Did events before.taken now.taken before.stores now.stores

-- the first of them were done
abbrev pub HostDidFirst : List Event → Seen → Seen → Type 0
HostDidFirst events before now = DidFirst events before.taken now.taken before.stores now.stores

-- nothing was written or stored
abbrev pub HostDidNothing : Seen → Seen → Type 0
HostDidNothing before now = (now.taken ≡ before.taken) × (now.stores ≡ before.stores)

-- no count of faults has changed
abbrev pub NoFault : Seen → Seen → Type 0
NoFault before now = (now.shelf_faults ≡ before.shelf_faults) × (now.out_faults ≡ before.out_faults)

-- a count of faults has risen, and none fell
abbrev pub Faulted : Seen → Seen → Type 0
Faulted before now =
    (before.shelf_faults ≤ now.shelf_faults) × (before.out_faults ≤ now.out_faults)
    × (Rose before.shelf_faults now.shelf_faults ⊎ Rose before.out_faults now.out_faults)

-- what a store does
pub record HostStores {T E : Type 0} (before now : Seen) (name bytes : List ℕ) (result : Result T E) : Type 0 where
  pub loans : SameLoans before now
  pub did : OnOk result (HostDid (stored name bytes ∷ []) before now)
  pub nothing : OnErr result (HostDidNothing before now)
  pub shelf : HasCause before.shelf_faults now.shelf_faults result
  pub out : now.out_faults ≡ before.out_faults
  pub absences : before.absences ≤ now.absences

-- what a write does
pub record HostWrites {T E : Type 0} (before now : Seen) (text : List ℕ) (result : Result T E) : Type 0 where
  pub loans : SameLoans before now
  pub files : now.files ≡ before.files
  pub did : OnOk result (HostDid (sending text) before now)
  pub part : OnErr result (HostDidFirst (sending text) before now)
  pub shelf : now.shelf_faults ≡ before.shelf_faults
  pub out : HasCause before.out_faults now.out_faults result
  pub absences : now.absences ≡ before.absences
