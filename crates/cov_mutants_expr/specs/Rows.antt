-- Rows of items, and a walk over one.
--     before, Added                items in front of a row, and one more item
--     Turned, Stepped              the mutants of an item in front of a row, and a copy of it
--     Going                        what holds between two items of a walk
--     put_pattern                  a pattern in front of others
use Rattle.std.specs.Prelude.{◌≡◌, List, [], ◌∷◌}
use Rattle.py_syntax.specs.declared.pattern.Pattern.{Pattern as PatternNode}
use Rattle.py_syntax.specs.Tree.{Patterns, patterns}
use Rattle.py_syntax.specs.View.{plain_pattern}
use Rattle.cov_mutants_expr.specs.Search.{Reached, past, changed}

-- items in front of a row, each put there by `put`
abbrev pub before : {N R : Type 0} → (N → R → R) → List N → R → R
before put [] r = r
before put (n ∷ ns) r = put n (before put ns r)

-- one more item, which `one` puts in front of a row
abbrev pub Added : {N R : Type 0} → (N → R → R) → List N → List N → (R → R) → Type 0
Added {R = R} put was now one = (r : R) → before put now r ≡ before put was (one r)

-- an item in front of a row, and the copy of it, whatever the row is
pub record Turned {X R : Type 0} (mutants : R → List (X × R)) (was now : Reached X)
    (item copy : R → R) : Type 0 where
  pub tree : (r : R) → changed was (item r) (mutants (item r)) ≡ copy (changed now r (mutants r))
  pub state : (r : R) → past was (mutants (item r)) ≡ past now (mutants r)

-- an item whose copy is one more of what was copied
pub record Stepped {X N R : Type 0} (put : N → R → R) (mutants : R → List (X × R))
    (was now : Reached X) (copied further : List N) (item : R → R) : Type 0 where
  pub copy : R → R
  pub turned : Turned mutants was now item copy
  pub added : Added put copied further copy

-- a walk over a row of which so much is copied, and the rest isn't
pub record Going {X N R : Type 0} (put : N → R → R) (mutants : R → List (X × R))
    (was now : Reached X) (all rest : R) (copied : List N) : Type 0 where
  pub tree : before put copied (changed now rest (mutants rest)) ≡ changed was all (mutants all)
  pub state : past now (mutants rest) ≡ past was (mutants all)

-- a pattern in front of others
abbrev pub put_pattern : PatternNode → Patterns → Patterns
put_pattern p r = patterns (plain_pattern p) r
