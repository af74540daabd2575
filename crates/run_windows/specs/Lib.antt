pub mod TurnObserver
pub mod Synced
pub mod SyncedMachine
pub mod RecordObserver
pub mod Windows
