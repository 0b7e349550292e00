use Rattle.std.proofs.Common.{◌≡◌, drop, length}
use Rattle.std.specs.Str.{chars}
use Rattle.py_builtins.specs.Displays.{all_escaped}
use Rattle.py_builtins.specs.Writing.{whole, ◌▸◌}
use Rattle.py_builtins.proofs.writer.Writer.push_all_escaped.Given as goal

abbrev pub invariant-loop-c : goal.invariant-loop-c
invariant-loop-c l = whole l.self.text ▸ whole (all_escaped l.mark (drop (length l.yielded) (chars l.text))) ≡ whole l.initial.self.text ▸ whole (all_escaped l.mark (chars l.text))
