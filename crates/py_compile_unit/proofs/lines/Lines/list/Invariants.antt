use Rattle.std.proofs.Common.{◌≡◌, ◌++◌, drop}
use Rattle.py_compile_unit.proofs.lines.Lines.list.Given as goal

abbrev pub invariant-loop-line : goal.invariant-loop-line
invariant-loop-line l = l.list.items ++ drop l.line-index l.lines ≡ l.lines
