-- The names and bytes that a shelf in memory is made of.
use Rattle.std.specs.Prelude.{ℕ, List, map, String, Vec, string_bytes}
use Rattle.std.specs.declared.alloc.Global.{Global}

-- as plain lists
abbrev pub plain_pairs : List (String Global × Vec ℕ Global) → List (List ℕ × List ℕ)
plain_pairs pairs = map (λ pair. (string_bytes pair.0, pair.1.items)) pairs
