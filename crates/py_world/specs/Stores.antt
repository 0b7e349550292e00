-- The store of a program, as the definition has it.
--     world_of     the world in a store
--     IsSetOrSame  a global that was set, or nothing was done
--     words_of     the words of a program
use Rattle.std.specs.Prelude.{◌≡◌, ℕ, Bool, true, false, List, map, String}
use Rattle.std.specs.declared.alloc.Global.{Global}
use Rattle.std.specs.Str.{chars}
use Rattle.std.specs.String.{string_bytes}
use Rattle.py_value.specs.HeapView.{plain_heap}
use Rattle.py_value.specs.Plain.{PlainValue}
use Rattle.py_builtins.specs.World.{World, with_global}
use Rattle.py_world.specs.declared.store.Store.{Store}
use Rattle.py_world.specs.Globals.{names_of}

-- the world in a store
abbrev pub world_of : Store → World
world_of s =
    record {
      globals = map names_of s.globals.items;
      begun = s.begun.items;
      heap = plain_heap s.heap;
      words
          = s.words.place;
    }

-- a global of a module was set to a value; or nothing was done
abbrev pub IsSetOrSame : Bool → ℕ → List ℕ → PlainValue → Store → Store → Type 0
IsSetOrSame true m name v s s2 = world_of s2 ≡ with_global m name v (world_of s)
IsSetOrSame false m name v s s2 = s2 ≡ s

-- a word of a program, as its characters
abbrev pub word : String Global → List ℕ
word x = chars (string_bytes x)

-- the words of a program, as their characters
abbrev pub words_of : List (String Global) → List (List ℕ)
words_of xs = map word xs
