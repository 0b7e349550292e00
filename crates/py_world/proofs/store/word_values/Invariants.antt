use Rattle.std.proofs.Common.{◌≡◌, ◌++◌, map, drop}
use Rattle.py_value.specs.Plain.{str_value}
use Rattle.py_value.specs.View.{plains}
use Rattle.py_world.specs.Stores.{words_of}
use Rattle.py_world.proofs.store.word_values.Given as goal

abbrev pub invariant-loop-word : goal.invariant-loop-word
invariant-loop-word l = plains l.values.items ++ map str_value (words_of (drop l.word-index l.words)) ≡ map str_value (words_of l.words)
