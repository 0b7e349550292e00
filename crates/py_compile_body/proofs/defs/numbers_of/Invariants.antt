use Rattle.std.proofs.Common.{◌≡◌, ℕ, ◌+◌, ◌≤◌, drop, length}
use Rattle.std.specs.Prelude.{nat_eq, unwrap_or}
use Rattle.indexmap.specs.IndexMap.{get}
use Rattle.py_meaning.specs.Modules.{unit_at}
use Rattle.py_compile_body.specs.Parts.{at_lines}
use Rattle.py_compile_body.proofs.defs.numbers_of.Given as goal

abbrev pub invariant-lines : goal.invariant-lines
invariant-lines l = record {
  found : (q : ℕ) → unwrap_or (get nat_eq l.numbers q) (length l.lines) ≡ l.left + unit_at q (at_lines (drop l.left l.lines));
  within : l.left ≤ length l.lines;
}

abbrev pub decreases-lines : goal.decreases-lines
decreases-lines l = l.left
