-- What the code of a call answers, and what an exception leaves.
pub use Rattle.py_value.specs.Answering.{Answers, RaiseKeeps}
