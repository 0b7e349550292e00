-- The code of a module is one that a machine runs without missing anything.
use Rattle.std.specs.Prelude.{◌<◌, length}
use Rattle.py_code.specs.Valid.{most_units, IsCode}
use Rattle.py_compile.specs.Definitions.{definitions}
use Rattle.py_compile.specs.Units.{units_code}
use Rattle.py_scope.specs.Faults.{IsWellFormed}
use Rattle.py_syntax.specs.Tree.{Stmts}

-- The units of a module without a fault of scope are a code, if there is room for its `def`s beside
-- its body. The numbers of instructions lie in their lists. A jump leads to a place where as many
-- operands stand as it leaves, and back only to the mark of a line. A handler lies after its range,
-- which no other range crosses.
abbrev pub CodeFits : Type 0
CodeFits =
    (b : Stmts) → IsWellFormed b → length (definitions b) < most_units → IsCode (units_code b)
