-- What the types of the code stand for.
use Rattle.std.specs.Prelude.{List, map, Vec}
use Rattle.std.specs.declared.alloc.Global.{Global}
use Rattle.py_syntax.specs.View.{plain_module}
use Rattle.py_meaning.specs.Modules.{LoadedModule}
use Rattle.cov_run.specs.declared.loaded.LoadedSource.{LoadedSource}

-- a loaded module: its name, its file and its tree
abbrev pub plain_source : LoadedSource → LoadedModule
plain_source s = record { name = s.name; path = s.path; body = plain_module s.module }

-- the modules of loaded sources
abbrev pub plain_sources : List LoadedSource → List LoadedModule
plain_sources = map plain_source

-- the modules of a list of them in memory
abbrev pub listed_sources : Vec LoadedSource Global → List LoadedModule
listed_sources sources = plain_sources sources.items
