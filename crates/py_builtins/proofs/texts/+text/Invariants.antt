use Rattle.std.proofs.Common.{◌+◌, ◌*◌}
use Rattle.py_builtins.proofs.texts.+text.Given as goal

abbrev pub decreases-text : goal.decreases-text
decreases-text l = 2 * l.levels

abbrev pub decreases-exception_text : goal.decreases-exception_text
decreases-exception_text l = 2 * l.levels + 1
