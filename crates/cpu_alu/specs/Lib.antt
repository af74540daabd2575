pub mod Arithmetic
pub mod Decimal
pub mod Flags
pub mod Logic
pub mod Meaning
pub mod Shifts
