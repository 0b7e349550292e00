use Rattle.std.proofs.Common.{◌≡◌, ◌≤◌, ◌+◌, ℕ, cond, max, List, ◌++◌, length}
use Rattle.py_token.specs.Source.{line_count}
use Rattle.py_token.proofs.source.count_lines.Given as goal

abbrev pub invariant-loop-c : goal.invariant-loop-c
invariant-loop-c l = record {
  few : l.ends ≤ length l.yielded;
  same : (rest : List ℕ) → line_count (l.yielded ++ rest) ≡ l.ends + cond l.open (max 1 (line_count rest)) (line_count rest);
}
