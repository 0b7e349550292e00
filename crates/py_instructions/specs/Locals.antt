-- Slots in memory, as the definition has them.
use Rattle.std.specs.Prelude.{List, map, Option}
use Rattle.py_value.specs.Plain.{PlainValue}
use Rattle.py_world.specs.Values.{plain_option}
use Rattle.py_instructions.specs.declared.slots.Slots.{Slots}

-- each slot with its value, or unset
abbrev pub slots_of : Slots → List (Option PlainValue)
slots_of s = map plain_option s.values.items
