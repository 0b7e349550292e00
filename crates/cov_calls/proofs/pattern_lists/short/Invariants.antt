use Rattle.std.proofs.Common.{◌≡◌, map, drop, string_bytes}
use Rattle.cov_step.specs.Phases.{short}
use Rattle.cov_calls.proofs.pattern_lists.short.Given as goal

abbrev pub invariant-loop-text : goal.invariant-loop-text
invariant-loop-text l = short (map string_bytes l.fn.texts) ≡ short (map string_bytes (drop l.text-index l.fn.texts))
