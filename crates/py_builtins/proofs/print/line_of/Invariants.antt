use Rattle.std.proofs.Common.{◌≡◌, drop}
use Rattle.py_value.specs.View.{plains}
use Rattle.py_value.specs.HeapView.{plain_heap}
use Rattle.py_builtins.specs.Calls.{printed_text}
use Rattle.py_builtins.proofs.Printing.{line_from}
use Rattle.py_builtins.proofs.print.line_of.Given as goal

abbrev pub invariant-loop-i : goal.invariant-loop-i
invariant-loop-i l = line_from l.line l.i (drop l.i l.args) (plain_heap l.heap) ≡ printed_text (plains l.args) (plain_heap l.heap)
