-- Trees of sources written down, and what a row shows of a run.
use Prim.Native.String.{String}
use Rattle.std.specs.Prelude.{ℕ, true, false, List, [], ◌∷◌, ◌++◌, map, ℤ, pos, codes}
use Rattle.std.specs.Fmt as F
use Rattle.std.specs.Str as str_
use Rattle.py_value.specs.Comparison as compare_
use Rattle.py_builtins.specs.Builtins as builtins_
use Rattle.py_builtins.specs.World as world_
use Rattle.py_builtins.specs.Texts as texts_
use Rattle.py_syntax.specs.Functions as functions_
use Rattle.py_syntax.specs.Tree as T
use Rattle.py_syntax.specs.Tree.{Text, Expr, Exprs, Pattern, Patterns, Stmts, StmtKind}
use Rattle.py_meaning.specs.Activations as activations_
use Rattle.py_meaning.specs.Assignments as assignments_
use Rattle.py_meaning.specs.Calls as calls_
use Rattle.py_meaning.specs.Computations as c_
use Rattle.py_meaning.specs.Crossings as crossings_
use Rattle.py_meaning.specs.Crossings.{crossings, lines_crossed, lines_thrown}
use Rattle.py_meaning.specs.Events as events_
use Rattle.py_meaning.specs.Expressions as expressions_
use Rattle.py_meaning.specs.Frames as frames_
use Rattle.py_meaning.specs.Imports as imports_
use Rattle.py_meaning.specs.Loading as loading_
use Rattle.py_meaning.specs.Loading.{Files, Program, loaded}
use Rattle.py_meaning.specs.Modules as modules_
use Rattle.py_meaning.specs.Patterns as patterns_
use Rattle.py_meaning.specs.Program as program_
use Rattle.py_builtins.specs.Outcomes.{status_of, err_of}
use Rattle.py_meaning.specs.Program.{Run, meaning}
use Rattle.py_meaning.specs.Statements as statements_

-- what has to unfold for a run to compute
unfoldable pub runs : Unit {0}
unfolding F.digits str_.chars str_.is_utf8 builtins_.numbers_before compare_.equal_within compare_.order_within world_.value_of world_.with_name world_.without_name world_.names_at world_.with_names_at world_.is_among world_.without_number texts_.str_text texts_.repr_text texts_.text_within texts_.display_within activations_.arcs_so_far activations_.arcs_of assignments_.assign_to assignments_.assign_each assignments_.assign_all assignments_.augment calls_.enter calls_.use_builtin calls_.call_value calls_.call_of c_.give c_.chain c_.step c_.tick c_.note c_.read c_.write c_.say c_.within c_.stop c_.value c_.ask c_.work c_.branch crossings_.activations crossings_.activations_from crossings_.crossings_of crossings_.ordered events_.told events_.told_of expressions_.eval expressions_.eval_each expressions_.eval_pairs expressions_.eval_links expressions_.eval_opt expressions_.eval_fragments expressions_.eval_parts frames_.framed frames_.in_unit frames_.calls imports_.begin imports_.module_of imports_.import_each imports_.take_each loading_.file_at loading_.imported loading_.imported_in loading_.opt_imported loading_.arms_imported loading_.clauses_imported loading_.cases_imported loading_.folder_of loading_.with_imports loading_.load_from functions_.functions functions_.functions_in functions_.opt_functions functions_.arms_functions functions_.clauses_functions functions_.cases_functions modules_.unit_at modules_.number_from patterns_.matched patterns_.matched_each patterns_.matched_one program_.run_modules program_.meaning program_.called statements_.using statements_.turns statements_.loop statements_.exec statements_.exec_kind statements_.exec_opt statements_.exec_arms statements_.exec_clauses statements_.exec_finally statements_.exec_cases lib.Utf8.encode
runs = tt

abbrev pub var : String → Expr
var x = T.name (codes x)

abbrev pub num : ℕ → Expr
num n = T.int (pos n)

abbrev pub quote : String → Expr
quote s = T.str (codes s ∷ [])

abbrev pub items : List Expr → Exprs
items [] = T.no_exprs
items (e ∷ es) = T.exprs e (items es)

abbrev pub call : Expr → List Expr → Expr
call f es = T.call f (items es) false

abbrev pub attr : Expr → String → Expr
attr e x = T.attr e (codes x)

abbrev pub list : List Expr → Expr
list es = T.list (items es) false

abbrev pub alternatives : List Pattern → Patterns
alternatives [] = T.no_patterns
alternatives (p ∷ ps) = T.patterns p (alternatives ps)

-- a statement in a line, and then the others
abbrev pub line : ℕ → StmtKind → Stmts → Stmts
line n k = T.stmt n n k (record { semicolon = false; newline = true })

abbrev pub end : Stmts
end = T.no_stmts

-- each with a line end
abbrev pub printed : List String → List ℕ
printed [] = []
printed (s ∷ rest) = codes s ++ 10 ∷ printed rest

-- what a row shows: what is written, the status, the steps, and the arcs in order, with those that a throw crossed
pub record Shown : Type 0 where
  pub out : List ℕ
  pub err : List ℕ
  pub status : ℕ
  pub steps : ℕ
  pub arcs : List (ℤ × ℤ)
  pub thrown : List (ℤ × ℤ)

-- the program whose script is `a.py`
abbrev pub program : Files → Program
program files = record { files = files; script = codes "a.py"; name = codes "__main__" }

abbrev pub shown : Files → ℕ → Run → Shown
shown files m run = record {
  out = run.out;
  err = err_of run.outcome;
  status = status_of run.outcome;
  steps = run.steps;
  arcs = lines_crossed (crossings (loaded (program files)) m run.items);
  thrown = lines_thrown (crossings (loaded (program files)) m run.items);
}

abbrev pub alone : Stmts → Files
alone source = (codes "a.py", source) ∷ []

-- the run of the script `a.py` without further words and with no input
abbrev pub run_in : Files → ℕ → Run
run_in files budget = meaning (program files) (codes "a.py" ∷ []) [] budget

abbrev pub row : Stmts → ℕ → Shown
row source budget = shown (alone source) 0 (run_in (alone source) budget)

-- the run of `a.py` with a second module
abbrev pub and_module : Text → Stmts → Stmts → Files
and_module path source script = (codes "a.py", script) ∷ (path, source) ∷ []

abbrev pub rows : Files → ℕ → ℕ → Shown
rows files m budget = shown files m (run_in files budget)

-- with words and input
abbrev pub fed : Stmts → List String → List ℕ → ℕ → Run
fed source words input budget = meaning (program (alone source)) (map codes words) input budget

abbrev pub written : Run → List ℕ × List ℕ × ℕ
written run = (run.out, err_of run.outcome, status_of run.outcome)
