use Rattle.std.proofs.Common.{◌≡◌, ◌++◌, length}
use denote.Text.{Utf8}
use denote.Shadow.{shadow}
use Rattle.std.specs.Str.{chars}
use Rattle.py_value.specs.View.{plains}
use Rattle.py_builtins.specs.Methods.{parts_between, texts}
use Rattle.py_builtins.proofs.text_methods.parts_between.Given as goal

abbrev pub invariant-loop-part : goal.invariant-loop-part
invariant-loop-part l = record {
  utf8 : shadow (Utf8 l.rest);
  parts : plains l.parts.items ++ texts (parts_between (chars l.separator) 0 (chars l.rest)) ≡ texts (parts_between (chars l.separator) 0 (chars l.text));
}

abbrev pub decreases-loop-part : goal.decreases-loop-part
decreases-loop-part l = length l.rest
