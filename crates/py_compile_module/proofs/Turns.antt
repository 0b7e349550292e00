-- Functions of a module in turn.
use Rattle.std.proofs.Common.{◌≡◌, ℕ, ◌+◌, ◌<◌, List, [], ◌∷◌, ◌++◌, map, drop, length, get_or, refl, ap, ◌∙◌}
use Rattle.std.specs.Prelude.{Some, slice_get}
use Rattle.std.specs.Option.{option_map}
use Rattle.std.proofs.lemmas.Option.{slice_get-map, slice_get_read}
use Rattle.py_compile.specs.Definitions.{Definition, function_of}
use Rattle.py_compile_expr.proofs.Turns.{the_drop, a_turn}
use Rattle.py_compile_module.specs.Scoped.{names_of_def}
use Rattle.py_compile_body.specs.Parts.{lines_of}
use Rattle.py_scope.specs.Scopes.{Names}
use Rattle.py_code.specs.Units.{Code}
use Rattle.py_compile_unit.specs.declared.functions.Def.{Def}
use Rattle.py_compile_unit.specs.Defs.{definition_of, line_of}

-- the names of the function whose `def` has so many before it
pub named : (all : List Names) (defs : List Def) (i : ℕ) (d : Def) → all ≡ map names_of_def (map definition_of defs) → i < length defs → d ≡ get_or defs i d
    → slice_get all i ≡ Some (names_of_def (definition_of d))
named all defs i d e lt is =
    ap (λ ns. slice_get ns i) e ∙ slice_get-map names_of_def (map definition_of defs) i
    ∙ ap (option_map names_of_def) (slice_get-map definition_of defs i)
    ∙ ap (λ o. option_map names_of_def (option_map definition_of o)) (slice_get_read defs (length defs) i d refl lt is)

-- one unit more
pub one_more : (f : Definition → Code) (now next w : List Code) (defs : List Def) (i : ℕ) (d : Def) → i < length defs → d ≡ get_or defs i d
    → next ≡ now ++ f (definition_of d) ∷ [] → now ++ map f (map definition_of (drop i defs)) ≡ w → next ++ map f (map definition_of (drop (i + 1) defs)) ≡ w
one_more f now next w defs i d lt is e h =
    a_turn now next w (f (definition_of d) ∷ []) (map f (map definition_of (drop (i + 1) defs))) (map f (map definition_of (drop i defs))) e
    (ap (λ ds. map f (map definition_of ds)) (the_drop defs i d lt is)) h

-- the lines of functions are those of their `def`s
pub lines_are : (ds : List Definition) → lines_of (map function_of ds) ≡ map line_of ds
lines_are [] = refl
lines_are (d ∷ ds) = ap (λ ls. d.function.line ∷ ls) (lines_are ds)
