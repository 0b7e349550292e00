use Rattle.std.proofs.Common.{drop, map}
use Rattle.py_code.specs.Loaded.{module_of}
use Rattle.py_code.specs.Valid.{AreCodes}
use Rattle.py_code.proofs.code.Programs.are_valid.Given as goal

abbrev pub invariant-loop-program : goal.invariant-loop-program
invariant-loop-program l = AreCodes (map module_of (drop l.program-index l.program-items)) → AreCodes (map module_of l.program-items)
