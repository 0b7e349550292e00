use Rattle.std.proofs.Common.{◌≡◌, ◌++◌, map, take, string_bytes}
use Rattle.cov_calls.proofs.pattern_lists.copy_into.Given as goal

abbrev pub invariant-loop-text : goal.invariant-loop-text
invariant-loop-text l = map string_bytes l.texts.items ≡ map string_bytes l.fn.texts.items ++ map string_bytes (take l.text-index l.fn.more)
