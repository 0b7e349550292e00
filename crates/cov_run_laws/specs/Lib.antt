pub mod LoadedPrograms
