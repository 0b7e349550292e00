pub mod MarksView
pub mod MutantView
