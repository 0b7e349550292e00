use Rattle.std.proofs.Common.{◌≡◌, ℕ, List, map, drop, Bor}
use Rattle.std.specs.List.{flat_map}
use Rattle.cov_text.specs.Missing.{with_items, run_items}
use Rattle.cov_text.specs.Stored.{items_of}
use Rattle.cov_text.proofs.missing.add_ranges.Given as goal

abbrev pub invariant-loop-run : goal.invariant-loop-run
invariant-loop-run l =
    with_items (items_of l.items.keys) (flat_map run_items (map (λ (r : Bor (List ℕ)). r.now) (drop l.run-index l.run-items)))
    ≡ with_items (items_of l.initial.items.keys) (flat_map run_items (map (λ (r : Bor (List ℕ)). r.now) l.run-items))
