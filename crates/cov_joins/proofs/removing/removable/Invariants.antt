use Rattle.std.proofs.Common.{◌≡◌, ℕ, List, [], ◌++◌, map, drop, string_bytes}
use Rattle.std.specs.BTreeSet.{contains_text}
use Rattle.cov_step.specs.Names.{is_named, removable}
use Rattle.cov_joins.proofs.removing.removable.Given as goal

-- the set holds what is done, and what is left follows the names so far
abbrev pub invariant-loop-name : goal.invariant-loop-name
invariant-loop-name l =
    (done : List (List ℕ)) × ((bs : List ℕ) → contains_text l.done bs ≡ is_named done bs)
    × (map (λ name. name.now) l.names.items ++ removable l.fn.own done (map string_bytes (drop l.name-index l.fn.others)) ≡ removable l.fn.own [] (map string_bytes l.fn.others))
