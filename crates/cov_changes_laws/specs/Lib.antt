pub mod LoadedChanges
