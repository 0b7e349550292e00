-- How mutants are judged, by code and by the data of the unchanged programs.
--     Source, source_of, sources   the modules of programs, each with its tree
--     code_of                      code of them
--     units_in, with_units         the units of one module, and code with others in their place
--     Tried                        what each mutant is tried on
--     has_line, verdict_by, judge  a mutant
--     judged_from, judged_all      those of the modules but the script
--     passed_names                 the tests that passed
use Rattle.std.specs.Prelude.{ℕ, zero, suc, nat_eq, Bool, true, false, if◌then◌else◌, List, [], ◌∷◌, ◌++◌, map, string_bytes}
use Rattle.std.specs.List.{list_any}
use Rattle.std.specs.Str.{chars}
use Rattle.cov_data.specs.DataSet.{Text as Bytes, DataSet}
use Rattle.cov_data.specs.Rows.{lines_of}
use Rattle.cov_suite.specs.Passing.{has_passed, all_pass_in_code}
use Rattle.cov_suite.specs.Results.{TestView}
use Rattle.cov_verdicts.specs.Verdicts.{Verdict, killed, survived, unreached, JudgedView}
use Rattle.py_changes.specs.Mutants.{Marked, module_mutants}
use Rattle.py_code.specs.declared.code.Program.{Program}
use Rattle.py_code.specs.Units.{Code, Module as CodeModule}
use Rattle.py_compile.specs.Units.{units_code}
use Rattle.py_syntax.specs.Tree.{Text, Stmts}
use Rattle.py_syntax.specs.View.{plain_module}
use Rattle.py_syntax.specs.declared.stmt.Module.{Module}

-- a module: its name, its path as data have it, and its tree
pub record Source : Type 0 where
  pub name : Text
  pub path : Bytes
  pub body : Stmts

-- of a program and a tree
abbrev pub source_of : Program → Module → Source
source_of p t = record {
  name = chars (string_bytes p.name);
  path = string_bytes p.path;
  body = plain_module t;
}

-- programs beside their trees
abbrev pub sources : List Program → List Module → List Source
sources [] ts = []
sources (p ∷ ps) [] = []
sources (p ∷ ps) (t ∷ ts) = source_of p t ∷ sources ps ts

-- the code of a module
abbrev pub code_of : Source → CodeModule
code_of s = record { name = s.name; units = units_code s.body }

-- the units of the module with a number
abbrev pub units_in : List CodeModule → ℕ → List Code
units_in [] m = []
units_in (c ∷ cs) zero = c.units
units_in (c ∷ cs) (suc m) = units_in cs m

-- code with other units in place of those of the module with a number
abbrev pub with_units : List CodeModule → ℕ → List Code → List CodeModule
with_units [] m us = []
with_units (c ∷ cs) zero us = record c { units = us } ∷ cs
with_units (c ∷ cs) (suc m) us = c ∷ with_units cs m us

-- the code of all modules, the tests that passed, and the budget of the import and of each test
pub record Tried : Type 0 where
  pub code : List CodeModule
  pub names : List Text
  pub budget : ℕ

-- whether a line is one of these
abbrev pub has_line : List ℕ → ℕ → Bool
has_line lines l = list_any (λ k. nat_eq k l) lines

-- by whether its line was reached, and whether all tests that passed before pass
abbrev pub verdict_by : (reached pass : Bool) → Verdict
verdict_by false pass = unreached
verdict_by true true = survived
verdict_by true false = killed

-- a mutant of the module with a number, of which these lines were reached
abbrev pub judge : Tried → List ℕ → ℕ → Marked × Stmts → JudgedView
judge t lines m x = record {
  «module» = m;
  line = x.0.0;
  old = x.0.1.old;
  new = x.0.1.new;
  verdict = verdict_by (has_line lines x.0.0)
      (all_pass_in_code (with_units t.code m (units_code x.1)) t.budget t.names);
}

-- those of modules, the first of which has this number
abbrev pub judged_from : Tried → DataSet → ℕ → List Source → List JudgedView
judged_from t d m [] = []
judged_from t d m (s ∷ ss) =
    map (judge t (lines_of d s.path) m) (module_mutants s.body) ++ judged_from t d (suc m) ss

-- those of all modules but the script
abbrev pub judged_all : Tried → DataSet → List Source → List JudgedView
judged_all t d [] = []
judged_all t d (script ∷ others) = judged_from t d 1 others

-- the names of the tests that passed, in order
abbrev pub passed_names : List TestView → List Text
passed_names [] = []
passed_names (t ∷ ts) = if has_passed t.end then t.name ∷ passed_names ts else passed_names ts
