use Rattle.std.proofs.Common.{◌≡◌, ◌+◌, ◌++◌, drop}
use Rattle.py_syntax.specs.View.{plain_aliases}
use Rattle.py_compile_expr.specs.CellView.{plain_guard}
use Rattle.py_compile.specs.Statements.{take_size, take_code}
use Rattle.py_compile_body.proofs.parts.put_taken.Given as goal

abbrev pub invariant-loop-alias : goal.invariant-loop-alias
invariant-loop-alias l = record {
  cells : l.out ++ take_code (plain_guard l.guard) l.of (plain_aliases (drop l.alias-index l.names)) ≡ l.initial.out ++ take_code (plain_guard l.guard) l.of (plain_aliases l.names);
  place : l.to + take_size (plain_aliases (drop l.alias-index l.names)) ≡ l.initial.to + take_size (plain_aliases l.names);
}
