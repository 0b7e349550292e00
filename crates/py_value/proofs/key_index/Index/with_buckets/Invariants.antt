use Rattle.std.proofs.Common.{◌≡◌, [], map}
use Rattle.std.specs.Prelude.{replicate}
use Rattle.py_value.proofs.key_index.Index.with_buckets.Given as goal

abbrev pub invariant-turns : goal.invariant-turns
invariant-turns l = map (λ places. places.items) l.buckets.items ≡ replicate l.counter []
