-- A mutant, as one of the list of a module's mutants.
--     mutant_of                what it changes, and its tree
use Rattle.std.specs.Prelude.{string_bytes}
use Rattle.py_syntax.specs.Tree.{Stmts}
use Rattle.py_syntax.specs.View.{plain_module}
use Rattle.py_changes.specs.Mutants.{Marked}
use Rattle.cov_mutants.specs.declared.Mutant.{Mutant}

-- the line, the token and the other one, and the changed tree
abbrev pub mutant_of : Mutant → Marked × Stmts
mutant_of m =
    ((m.line, record { old = string_bytes m.old; new = string_bytes m.new }), plain_module m.module)
