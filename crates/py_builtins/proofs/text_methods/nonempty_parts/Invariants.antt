use Rattle.std.proofs.Common.{◌≡◌, ◌++◌, drop}
use Rattle.py_value.specs.View.{plains}
use Rattle.py_builtins.specs.Methods.{texts, nonempty, white_parts}
use Rattle.py_builtins.proofs.Splitting.{put_before}
use Rattle.py_builtins.proofs.text_methods.nonempty_parts.Given as goal

abbrev pub invariant-loop-c : goal.invariant-loop-c
invariant-loop-c l = plains l.parts.items ++ texts (nonempty (put_before l.part (white_parts (drop l.c-index l.characters)))) ≡ texts (nonempty (white_parts l.characters))
