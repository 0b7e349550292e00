-- What a text holds.
use Rattle.std.specs.Prelude.{ℕ, List, [], Option, Some, None}
use Rattle.std.specs.declared.rc.Rc.{Rc}
use Rattle.std.specs.declared.alloc.Global.{Global}

-- the characters that a text shares with its copies
abbrev pub shared_characters : Option (Rc (List ℕ) Global) → List ℕ
shared_characters None = []
shared_characters (Some shared) = shared.value
