-- The units of modules, and of programs that are code of them.
--     tree_names, tree_units        the names of the units of modules
--     unit_name, program_units      those of programs
--     HaveSamePaths                 programs on the paths of modules
--     UnitsLaw                      faithful programs have the units of their modules
use Rattle.std.specs.Prelude.{◌≡◌, List, [], ◌∷◌, map, All, string_bytes, encode_utf8_all}
use Rattle.py_code.specs.declared.code.Program.{Program}
use Rattle.py_code.specs.declared.code.Programs.{Programs}
use Rattle.py_code.specs.Loaded.{modules_of}
use Rattle.py_code.specs.Units.{Code}
use Rattle.py_compile.specs.ProgramRuns.{AreFaithful}
use Rattle.py_meaning.specs.Modules.{LoadedModule}
use Rattle.py_syntax.specs.Functions.{Function, functions}
use Rattle.cov_arcs.specs.Laws.{firsts_of}
use Rattle.cov_recorder.specs.Plan.{Named, HaveFirsts}
use Rattle.cov_recorder_laws.specs.Laws.{HasTextLines}

-- a function of a module, all names in UTF-8
abbrev pub tree_function : LoadedModule → Function → Named
tree_function m f = record {
  path = encode_utf8_all m.path;
  «module» = encode_utf8_all m.name;
  function = encode_utf8_all f.name;
  first = f.line;
}

-- the body of a module, without a name, which begins in line 1, and then its functions
abbrev pub tree_names : LoadedModule → List Named
tree_names m =
    record {
      path = encode_utf8_all m.path;
      «module» = encode_utf8_all m.name;
      function = [];
      first = 1;
    }
    ∷ map (tree_function m) (functions m.body)

-- those of each module
abbrev pub tree_units : List LoadedModule → List (List Named)
tree_units ms = map tree_names ms

-- a unit of a program
abbrev pub unit_name : Program → Code → Named
unit_name p u = record {
  path = string_bytes p.path;
  «module» = string_bytes p.name;
  function = encode_utf8_all u.name;
  first = u.first;
}

-- the units of each program
abbrev pub program_units : List Program → List (List Named)
program_units ps = map (λ p. map (unit_name p) p.code) ps

-- the programs lie on the paths of these modules
abbrev pub HaveSamePaths : List Program → List LoadedModule → Type 0
HaveSamePaths ps ms = map (λ p. string_bytes p.path) ps ≡ map (λ m. encode_utf8_all m.path) ms

-- Programs that are faithful code of these modules, on the same paths, have their units. The first
-- lines alone ask for no paths. Where the statement lines of the modules are those of texts, each
-- unit begins in such a line.
pub record UnitsLaw : Type 0 where
  pub same : (ps : Programs) (ms : List LoadedModule) → AreFaithful (modules_of ps) ms
      → HaveSamePaths ps.modules.items ms → program_units ps.modules.items ≡ tree_units ms
  pub firsts : (ps : Programs) (ms : List LoadedModule) → AreFaithful (modules_of ps) ms
      → map (λ units. map (λ unit. unit.first) units) (program_units ps.modules.items)
      ≡ firsts_of ms
  pub tree_firsts : (ms : List LoadedModule)
      → map (λ units. map (λ unit. unit.first) units) (tree_units ms) ≡ firsts_of ms
  pub begin : (ms : List LoadedModule) → All HasTextLines ms → HaveFirsts (tree_units ms)
