-- The items as the code keeps them.
use Rattle.std.specs.Prelude.{ℕ, ℤ, List, map, String, string_bytes}
use Rattle.cov_text.specs.Missing.{Item}

-- items in memory as such
abbrev pub items_of : {Y : Type 0} → List (ℕ × String Y × ℤ) → List Item
items_of keys = map (λ key. (key.0, string_bytes key.1, key.2)) keys
