use Rattle.std.proofs.Common.{◌≡◌}
use Rattle.py_text.specs.Hashes.{mixed_all}
use Rattle.py_text.proofs.hash.mixed_all.Given as goal

abbrev pub invariant-loop-c : goal.invariant-loop-c
invariant-loop-c l = l.hash ≡ mixed_all l.start l.yielded
