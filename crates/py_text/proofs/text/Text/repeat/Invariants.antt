use Rattle.std.proofs.Common.{◌≡◌, ◌++◌, ◌-◌}
use Rattle.py_text.specs.Parts.{repeat}
use Rattle.py_text.proofs.text.Text.repeat.Given as goal

abbrev pub invariant-turns : goal.invariant-turns
invariant-turns l = l.body ++ repeat (l.times - l.counter) l.self ≡ repeat l.times l.self
