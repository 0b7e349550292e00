use Rattle.std.proofs.Common.{◌≡◌, ◌++◌}
use Rattle.py_meaning.specs.Loading.{folder_of}
use Rattle.cov_run.proofs.paths.folder_of.Given as goal

abbrev pub invariant-loop-c : goal.invariant-loop-c
invariant-loop-c l = record {
  folder : l.folder ≡ folder_of l.yielded;
  whole : l.folder ++ l.part ≡ l.yielded;
}
