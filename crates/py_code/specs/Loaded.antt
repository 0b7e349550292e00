-- Programs in memory, as the modules that they are.
use Rattle.std.specs.Prelude.{ℕ, List, map}
use Rattle.std.specs.Str.{chars}
use Rattle.std.specs.String.{string_bytes}
use Rattle.py_code.specs.declared.code.Program.{Program}
use Rattle.py_code.specs.declared.code.Programs.{Programs}
use Rattle.py_code.specs.Units.{Module}

-- a program in memory as the module that it is
abbrev pub module_of : Program → Module
module_of p = record { name = chars (string_bytes p.name); units = p.code }

-- the script first
abbrev pub modules_of : Programs → List Module
modules_of ps = map module_of ps.modules.items

-- the most modules: the number of each is one of 32 bits
abbrev pub most_numbered : ℕ
most_numbered = 4294967295
