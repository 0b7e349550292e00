-- The code of small modules, tested: two `def`s on two lines, and on one.
use Rattle.std.proofs.Common.{◌≡◌, ℕ, true, false, List, [], ◌∷◌, refl, arith}
use Rattle.std.specs.Prelude.{codes}
use Rattle.py_syntax.specs.Functions.{functions, functions_in}
use Rattle.py_syntax.specs.Tree as T
use Rattle.py_syntax.specs.Tree.{Stmts}
use Rattle.py_meaning.specs.Modules.{unit_at}
use Rattle.py_meaning.proofs.Sources.{num, items, line, end}
use Rattle.py_code.specs.Units.{Module}
use Rattle.py_compile.specs.Units.{units_code}
use Rattle.py_world_laws.proofs.Checking.{are_makers}
use Rattle.py_line_laws.specs.OwnLines.{HaveOwnLines}

abbrev pass_on : ℕ → T.Suite
pass_on l = T.suite l l true (line l T.pass end)

-- a `def` with a default that jumps, and one without defaults, on these lines
--     def f(a=1 and 2): pass
--     def g(): pass
abbrev source : ℕ → ℕ → Stmts
source l k =
    line l (T.def (codes "f") (codes "a" ∷ []) (items (T.and (num 1) (num 2) ∷ [])) false (pass_on l)) (
    line k (T.def (codes "g") [] (items []) false (pass_on k)) (
    end))

abbrev script_of : Stmts → List Module
script_of b = record { name = []; units = units_code b } ∷ []

own_lines : HaveOwnLines (functions (source 1 2))
unfolding functions functions_in
own_lines = (((λ same. absurd (omega (arith, same))), tt), (tt, tt))

makes : are_makers (script_of (source 1 2)) ≡ true
unfolding functions functions_in unit_at
makes = refl

-- on one line the second one would name the unit of the first
one_line : HaveOwnLines (functions (source 1 1)) → ⊥
unfolding functions functions_in
one_line h = h.0.0 refl

makes_not : are_makers (script_of (source 1 1)) ≡ false
unfolding functions functions_in unit_at
makes_not = refl
