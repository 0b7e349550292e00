-- The files of a shelf: a map from names to bytes. A name is the bytes of its text.
use Rattle.std.specs.Prelude.{ℕ, List, [], ◌∷◌, Option, Some, None, if◌then◌else◌}
use Rattle.std.specs.Str.{bytes_eq}

-- the bytes of each file that is there
abbrev pub Files : Type 0
Files = List ℕ → Option (List ℕ)

-- the files of a list of names with their bytes. Of two pairs with one name the first counts
abbrev pub files_of : List (List ℕ × List ℕ) → Files
files_of [] name = None
files_of (pair ∷ pairs) name = if bytes_eq pair.0 name then Some pair.1 else files_of pairs name

-- the files with this name set to these bytes
abbrev pub with_file : List ℕ → List ℕ → Files → Files
with_file name bytes files other = if bytes_eq name other then Some bytes else files other
