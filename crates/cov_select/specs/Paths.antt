-- The changed lines of whole lists of modules, under their paths.
--     module_beside, modules_beside     programs beside their trees, as modules
--     version_view, path_bytes          a module of the code, and its path
--     plain_change                      lines under a path, as the code holds them
--     lines_by_path                     lines of modules, by their numbers, under their paths
--     changes_by_path                   the changed lines of the old modules
--     compared_by_path, marks_by_path   those of modules that are compared, and all marks
use Rattle.std.specs.Prelude.{ℕ, suc, List, [], ◌∷◌, map, String, Vec, string_bytes, encode_utf8_all}
use Rattle.std.specs.Global.{Global}
use Rattle.std.specs.Str.{chars}
use Rattle.cov_data.specs.DataSet.{Text as Bytes}
use Rattle.py_changes.specs.Changed.{changed_module}
use Rattle.py_changes.specs.Changes.{changed_lines}
use Rattle.py_code.specs.declared.code.Program.{Program}
use Rattle.py_meaning.specs.Modules.{LoadedModule}
use Rattle.py_syntax.specs.declared.stmt.Module.{Module}
use Rattle.py_syntax.specs.Marks.{in_order, body_marks}
use Rattle.py_syntax.specs.View.{plain_module}
use Rattle.cov_select.specs.declared.modules.Version.{Version}

-- a program beside its tree
abbrev pub module_beside : Program → Module → LoadedModule
module_beside p t = record {
  name = chars (string_bytes p.name);
  path = chars (string_bytes p.path);
  body = plain_module t;
}

-- programs beside their trees, as many as there are of both
abbrev pub modules_beside : List Program → List Module → List LoadedModule
modules_beside [] ts = []
modules_beside (p ∷ ps) [] = []
modules_beside (p ∷ ps) (t ∷ ts) = module_beside p t ∷ modules_beside ps ts

-- a module that the code holds
abbrev pub version_view : Version → LoadedModule
version_view v = module_beside v.program.now v.tree.now

-- the path of a module that the code holds, in UTF-8
abbrev pub path_bytes : Program → Bytes
path_bytes p = encode_utf8_all (chars (string_bytes p.path))

-- lines under a path, as bytes and numbers
abbrev pub plain_change : String Global × Vec ℕ Global → Bytes × List ℕ
plain_change c = (string_bytes c.0, c.1.items)

-- each module's path in UTF-8, with the lines that belong to its number
abbrev pub lines_by_path : List LoadedModule → (ℕ → List ℕ) → List (Bytes × List ℕ)
lines_by_path [] lines = []
lines_by_path (m ∷ ms) lines =
    (encode_utf8_all m.path, lines 0) ∷ lines_by_path ms (λ n. lines (suc n))

-- each old module's path with its changed lines, each once, in order
abbrev pub changes_by_path : List LoadedModule → List LoadedModule → List (Bytes × List ℕ)
changes_by_path old new = lines_by_path old (λ m. in_order (changed_lines old new m))

-- the same, where modules are compared place by place
abbrev pub compared_by_path : List LoadedModule → List LoadedModule → List (Bytes × List ℕ)
compared_by_path [] bs = []
compared_by_path (a ∷ rest) [] = []
compared_by_path (a ∷ rest) (b ∷ bs) =
    (encode_utf8_all a.path, in_order (changed_module a.body b.body).0) ∷ compared_by_path rest bs

-- a module's path with all its marks, each once, in order
abbrev pub marks_under_path : LoadedModule → Bytes × List ℕ
marks_under_path m = (encode_utf8_all m.path, in_order (body_marks m.body))

-- those of each module, where all marks change
abbrev pub marks_by_path : List LoadedModule → List (Bytes × List ℕ)
marks_by_path = map marks_under_path
