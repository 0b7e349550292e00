-- A source has no function and imports no module, so its program is its module alone.
use Rattle.std.proofs.Common.{◌≡◌, ℕ, zero, suc, true, List, [], ◌∷◌, Option, Some, refl, arith, ap, ◌∙◌}
use Rattle.std.specs.Prelude.{nat_eq}
use Rattle.cov_make.specs.Source.{number_after, drawn}
use Rattle.py_text.specs.Comparison.{is_same_text}
use Rattle.py_syntax.specs.Functions.{functions}
use Rattle.py_syntax.specs.Tree.{Text, Stmts, stmt}
use Rattle.py_meaning.specs.Loading.{Files, file_at, imported, folder_of, loaded, load_from, with_imports, put_module}
use Rattle.py_meaning.specs.Modules.{LoadedModule}
use Rattle.cov_make_laws.specs.Loadings.{module_alone, program_alone, MadeAreAlone}
use Rattle.cov_make_laws.specs.Trees.{Form, If, For, Try, While, form_drawn, number_drawn, line_after, compound_end, statement, statements, made_tree}

-- ---- functions

functions_of_block : (f : Form) (v l : ℕ) (ss : Stmts)
    → functions (stmt l (line_after f l) (statement f v l) compound_end ss) ≡ functions ss
unfolding functions
functions_of_block If v l ss = refl
functions_of_block For v l ss = refl
functions_of_block Try v l ss = refl
functions_of_block While v l ss = refl

no_functions : (s l n : ℕ) → functions (statements s l n) ≡ []
unfolding statements functions
no_functions s l zero = refl
no_functions s l (suc n) =
    let q = drawn (number_after s) in
    let rest = statements (number_after s) (line_after (form_drawn q) l) n in
    functions_of_block (form_drawn q) (number_drawn q) l rest
    ∙ no_functions (number_after s) (line_after (form_drawn q) l) n

tree_no_functions : (seed size : ℕ) → functions (made_tree seed size) ≡ []
unfolding functions
tree_no_functions seed size = no_functions seed 2 size

-- ---- imports

imported_of_block : (f : Form) (v l : ℕ) (ss : Stmts)
    → imported (stmt l (line_after f l) (statement f v l) compound_end ss) ≡ imported ss
unfolding imported
imported_of_block If v l ss = refl
imported_of_block For v l ss = refl
imported_of_block Try v l ss = refl
imported_of_block While v l ss = refl

no_imported : (s l n : ℕ) → imported (statements s l n) ≡ []
unfolding statements imported
no_imported s l zero = refl
no_imported s l (suc n) =
    let q = drawn (number_after s) in
    let rest = statements (number_after s) (line_after (form_drawn q) l) n in
    imported_of_block (form_drawn q) (number_drawn q) l rest
    ∙ no_imported (number_after s) (line_after (form_drawn q) l) n

pub tree_no_imported : (seed size : ℕ) → imported (made_tree seed size) ≡ []
unfolding imported
tree_no_imported seed size = no_imported seed 2 size

-- ---- the program

same_text : (x : Text) → is_same_text x x ≡ true
same_text [] = refl
same_text (c ∷ cs) = let e : nat_eq c c ≡ true = grind arith in rw (e, same_text cs) refl

found_file : (path : Text) (t : Stmts) → file_at ((path, t) ∷ []) path ≡ Some t
unfolding file_at
found_file path t = rw (same_text path) refl

-- the modules, by the file that is found
unfoldable by_file : Text → Text → Files → Text → Option Stmts → List LoadedModule
by_file name path files folder found =
    load_from 2 files folder 0 (put_module name path [] found)

-- and by the names that its module imports
unfoldable by_imports : Files → Text → List LoadedModule → List Text → List LoadedModule
by_imports files folder ms xs = load_from 1 files folder 1 (with_imports files folder ms xs)

loads_alone : (name path : Text) (seed size : ℕ)
    → loaded (program_alone name path seed size) ≡ module_alone name path seed size
unfolding load_from with_imports by_file by_imports
loads_alone name path seed size =
    let files = (path, made_tree seed size) ∷ [] in
    ap (λ found. by_file name path files (folder_of path) found)
    (found_file path (made_tree seed size))
    ∙ ap (λ xs. by_imports files (folder_of path) (module_alone name path seed size) xs)
    (tree_no_imported seed size)

pub made_alone : MadeAreAlone
made_alone seed size = record {
  no_function = tree_no_functions seed size;
  no_import = tree_no_imported seed size;
  alone = λ name path. loads_alone name path seed size;
}
