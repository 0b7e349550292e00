use Rattle.std.proofs.Common.{◌≡◌, ◌≤◌, ◌++◌, length}
use Rattle.py_builtins.proofs.Reading.{IsOpen}
use Rattle.py_builtins.proofs.lines.read_line.Given as goal

abbrev pub invariant-loop-count : goal.invariant-loop-count
invariant-loop-count g l = record {
  unended : IsOpen l.line.items;
  read : length l.line.items ≡ l._count;
  told : g.I.Source.tells → l.line.items ++ g.I.Source.left l.input ≡ g.I.Source.left l.fn.input;
  faults : g.I.Source.faults l.fn.input ≤ g.I.Source.faults l.input;
}
