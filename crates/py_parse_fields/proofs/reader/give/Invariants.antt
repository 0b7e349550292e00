use Rattle.std.proofs.Common.{◌≡◌, vec_len}
use Rattle.py_grammar.specs.Machine.{give}
use Rattle.py_grammar.specs.Least.{least_name}
use Rattle.py_grammar.specs.Bare.{bare_out}
use Rattle.py_parse_fields.specs.Frames.{view_stack, view_class}
use Rattle.py_parse_fields.proofs.reader.give.Given as goal

abbrev pub invariant-frames : goal.invariant-frames
invariant-frames l = bare_out (give least_name (view_stack l.fn.frames.items) (view_class l.class)) ≡ bare_out (give least_name (view_stack l.frames.items) (view_class l.class))

abbrev pub decreases-frames : goal.decreases-frames
decreases-frames l = vec_len l.frames
