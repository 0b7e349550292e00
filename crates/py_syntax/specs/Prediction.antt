-- The arcs of a module that a reader of its text can predict, and those that are possible.
-- (coverage.py documentation, "Branch coverage measurement"; the rules are this project's own)
--     Arc, outside                           two neighbouring lines; the outside of a body is its
--                                            first line, negative
--     body_arcs                              the arcs of the body of a module or a function
--     module_arcs                            those of a module's body and of all its functions
--     by_ends, arcs_in_order                 arcs in their order, each once
--     predicted, possible                    of a module, in order
use Rattle.std.specs.Prelude.{ℕ, Bool, true, false, if◌then◌else◌, List, [], ◌∷◌, ◌++◌, map, ℤ, pos, neg_ℤ}
use Rattle.std.specs.declared.cmp.Ordering.{Ordering}
use Rattle.std.specs.Ordering.{int_cmp, ordering_then}
use Rattle.std.specs.BTreeSet.{insert_key}
use Rattle.py_syntax.specs.FirstMarks.{stmts_empty, stmts_first}
use Rattle.py_syntax.specs.Functions.{Function, functions, without_docstring}
use Rattle.py_syntax.specs.LastMarks.{onward, returning, raising, stmts_last}
use Rattle.py_syntax.specs.Neighbours.{stmts_pairs}
use Rattle.py_syntax.specs.Tree.{Stmts}

-- two neighbouring lines of a run
abbrev pub Arc : Type 0
Arc = ℤ × ℤ

-- where a run is before it enters a body with this first line, and after it
abbrev pub outside : ℕ → ℤ
outside first = neg_ℤ (pos first)

-- of a body without its docstring: what comes first in it, what follows what, after what it is
-- left, and the one arc of a body without a mark
abbrev pub body_arcs : Bool → ℕ → Stmts → List Arc
body_arcs any first b =
    map (λ l. (outside first, pos l)) (stmts_first b)
    ++ (map (λ p. (pos p.0, pos p.1)) (stmts_pairs any b)
    ++ (map (λ l. (pos l, outside first))
    (stmts_last any onward b ++ (stmts_last any returning b ++ stmts_last any raising b))
    ++ (if stmts_empty b then (outside first, outside first) ∷ [] else [])))

-- the arcs of the bodies of functions
abbrev pub functions_arcs : Bool → List Function → List Arc
functions_arcs any [] = []
functions_arcs any (f ∷ fs) =
    body_arcs any f.line (without_docstring f.body) ++ functions_arcs any fs

-- the body of a module is one whose first line is 1
abbrev pub module_arcs : Bool → Stmts → List Arc
module_arcs any m = body_arcs any 1 (without_docstring m) ++ functions_arcs any (functions m)

-- by the first line, then by the second
abbrev pub by_ends : Arc → Arc → Ordering
by_ends a b = ordering_then (int_cmp a.0 b.0) (int_cmp a.1 b.1)

-- arcs in their order, each once
abbrev pub arcs_in_order : List Arc → List Arc
arcs_in_order [] = []
arcs_in_order (a ∷ rest) = insert_key by_ends (arcs_in_order rest) a

-- the arcs of neighbours in the ways from an entry, a statement or a clause, where `raise` alone
-- raises
abbrev pub predicted : Stmts → List Arc
predicted m = arcs_in_order (module_arcs false m)

-- the same, where everything that marks a line may raise
abbrev pub possible : Stmts → List Arc
possible m = arcs_in_order (module_arcs true m)
