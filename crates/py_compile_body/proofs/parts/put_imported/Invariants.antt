use Rattle.std.proofs.Common.{◌≡◌, ◌+◌, ◌++◌, drop}
use Rattle.py_syntax.specs.View.{plain_aliases}
use Rattle.py_compile_expr.specs.CellView.{plain_guard}
use Rattle.py_compile.specs.Statements.{import_size, import_code}
use Rattle.py_compile_body.proofs.parts.put_imported.Given as goal

abbrev pub invariant-loop-alias : goal.invariant-loop-alias
invariant-loop-alias l = record {
  cells : l.out ++ import_code (plain_guard l.guard) (plain_aliases (drop l.alias-index l.names)) ≡ l.initial.out ++ import_code (plain_guard l.guard) (plain_aliases l.names);
  place : l.to + import_size (plain_aliases (drop l.alias-index l.names)) ≡ l.initial.to + import_size (plain_aliases l.names);
}
