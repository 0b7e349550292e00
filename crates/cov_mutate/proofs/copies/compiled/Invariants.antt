use Rattle.std.proofs.Common.{◌≡◌, ◌++◌, drop, map}
use Rattle.cov_mutate.specs.Code.{code_of, sources}
use Rattle.py_code.specs.Loaded.{module_of}
use Rattle.cov_mutate.proofs.copies.compiled.Given as goal

abbrev pub invariant-loop-i : goal.invariant-loop-i
invariant-loop-i l =
    map module_of l.copies.items ++ map code_of (drop l.i (sources l.programs.modules.items l.modules)) ≡ map code_of (sources l.programs.modules.items l.modules)
