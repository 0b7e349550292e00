-- Which files a program consists of (Python Language Reference, 5, "The import system").
--     Files, file_at             trees by the names of their files
--     imported                   the modules that statements import
--     with_imports, load_from    the modules that they load
--     Program, loaded            a program, and its modules
use Rattle.std.specs.Prelude.{ℕ, zero, suc, nat_eq, Bool, true, false, ◌||◌, if◌then◌else◌, List, [], ◌∷◌, ◌++◌, length, slice_get, Option, Some, None, codes}
use Rattle.py_text.specs.Comparison.{is_same_text}
use Rattle.py_syntax.specs.Gathering.{Gathering, everything, gather, gather_kind, gather_opt, gather_arms, gather_clauses, gather_cases}
use Rattle.py_syntax.specs.Tree.{Text, Alias, Stmts, OptSuite, Arms, Clauses, Cases, StmtKind, expr, assign, aug_assign, pass, break, continue, return, raise, assert, global, import, from, if', while, for, try, def, match}
use Rattle.py_meaning.specs.Modules.{LoadedModule, imported_number}

-- the files by their names, each as the tree that it spells
abbrev pub Files : Type 0
Files = List (Text × Stmts)

-- the tree of a file, where it is there
unfoldable pub file_at : Files → Text → Option Stmts
file_at [] x = None
file_at (f ∷ fs) x = if is_same_text x f.0 then Some f.1 else file_at fs x

-- the modules that an `import` names
abbrev pub alias_modules : List Alias → List Text
alias_modules [] = []
alias_modules (a ∷ rest) = a.name ∷ alias_modules rest

-- the module names that a statement names itself
abbrev pub own_imports : StmtKind → List Text
own_imports (expr e) = []
own_imports (assign ts e) = []
own_imports (aug_assign t op e) = []
own_imports pass = []
own_imports break = []
own_imports continue = []
own_imports (return e) = []
own_imports (raise e) = []
own_imports (assert e w) = []
own_imports (global xs) = []
own_imports (import names) = alias_modules names
own_imports (from m names) = m ∷ []
own_imports (if' arms o) = []
own_imports (while t s o) = []
own_imports (for t e s o) = []
own_imports (try s cs o fin) = []
own_imports (def x ps ds c s) = []
own_imports (match e last cs) = []

-- the imports of a function's body are among those of its text
abbrev pub importing : Gathering Text
importing = record {
  of_kind = λ first last k. own_imports k;
  of_arm = λ t s. [];
  of_clause = λ e x s. [];
  of_case = λ p g s. [];
  within = everything;
}

-- the module names that the imports of statements in a row name, in the order of the text
unfoldable pub imported : Stmts → List Text
imported ss = gather importing ss

-- those of a statement
unfoldable abbrev pub imported_in : StmtKind → List Text
unfolding imported
imported_in k = gather_kind importing (own_imports k) k

-- of the suite of an `else` or a `finally`, which may be missing
unfoldable abbrev pub opt_imported : OptSuite → List Text
unfolding imported
opt_imported o = gather_opt importing o

-- of the tests of an `if`
unfoldable abbrev pub arms_imported : Arms → List Text
unfolding imported
arms_imported arms = gather_arms importing arms

-- of the clauses of a `try`
unfoldable abbrev pub clauses_imported : Clauses → List Text
unfolding imported
clauses_imported cs = gather_clauses importing cs

-- of the cases of a `match`
unfoldable abbrev pub cases_imported : Cases → List Text
unfolding imported
cases_imported cs = gather_cases importing cs

-- the folder of a file's name: what stands up to its last `/`, with that
unfoldable pub folder_of : Text → Text
folder_of [] = []
folder_of (c ∷ cs) = with_front (nat_eq c 47) (folder_of cs)
  where
    with_front : Bool → Text → Text
    with_front slash [] = if slash then c ∷ [] else []
    with_front slash (d ∷ ds) = c ∷ d ∷ ds

-- the file of a module, in the script's folder
abbrev pub file_of : Text → Text → Text
file_of folder x = folder ++ x ++ codes ".py"

-- whether a module is loaded, and can be imported
abbrev pub is_loaded : List LoadedModule → Text → Bool
is_loaded ms x = is_found (imported_number ms x)
  where
    is_found : Option ℕ → Bool
    is_found None = false
    is_found (Some m) = true

-- the modules with one more, where its file is there
abbrev pub put_module : Text → Text → List LoadedModule → Option Stmts → List LoadedModule
put_module x path ms None = ms
put_module x path ms (Some body) = ms ++ record { name = x; path = path; body = body } ∷ []

-- the loaded modules with those that these names add: a file is loaded once, where it is there, and
-- none for `sys`
unfoldable pub with_imports : Files → Text → List LoadedModule → List Text → List LoadedModule
with_imports files folder ms [] = ms
with_imports files folder ms (x ∷ xs) =
    if is_same_text x (codes "sys") || is_loaded ms x
    then with_imports files folder ms xs
    else with_imports files folder
    (put_module x (file_of folder x) ms (file_at files (file_of folder x))) xs

-- goes on with a module, where it is there
abbrev pub on_module : Option LoadedModule → List LoadedModule → (LoadedModule → List LoadedModule)
    → List LoadedModule
on_module None ms f = ms
on_module (Some m) ms f = f m

-- The modules with those that the ones from a number on import, in turn. After the script each file
-- is loaded at most once.
unfoldable pub load_from : ℕ → Files → Text → ℕ → List LoadedModule → List LoadedModule
load_from zero files folder k ms = ms
load_from (suc n) files folder k ms =
    on_module (slice_get ms k) ms (λ m.
    load_from n files folder (suc k) (with_imports files folder ms (imported m.body)))

-- the files of a program, which of them is its script, and the name of the script's module
pub record Program : Type 0 where
  pub files : Files
  pub script : Text
  pub name : Text

-- the script under its name
abbrev pub script_alone : Program → List LoadedModule
script_alone p = put_module p.name p.script [] (file_at p.files p.script)

-- the script, and then the modules that are imported
abbrev pub loaded : Program → List LoadedModule
loaded p = load_from (suc (length p.files)) p.files (folder_of p.script) 0 (script_alone p)
