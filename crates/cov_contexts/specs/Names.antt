-- The names of tests, and the labels that names give. Names are UTF-8, and labels are characters.
use Rattle.std.specs.Prelude.{ℕ, nat_eq, Bool, ◌&&◌, ◌||◌, if◌then◌else◌, List, ◌++◌, Option, Some, None, codes}
use Rattle.std.specs.List.{starts_with}
use Rattle.std.specs.Str.{chars, bytes_eq}

-- `module.function`
abbrev pub dotted : List ℕ → List ℕ → List ℕ
dotted «module» function = chars «module» ++ codes "." ++ chars function

-- whether the name begins with `test` or is `runTest`
-- (coverage.py documentation, "Dynamic contexts")
abbrev pub is_of_test : List ℕ → Bool
is_of_test function =
    starts_with nat_eq function (codes "test") || bytes_eq function (codes "runTest")

-- by the name rule, where it is on
abbrev pub label_by_name : Bool → List ℕ → List ℕ → Option (List ℕ)
label_by_name by_name «module» function =
    if by_name && is_of_test function then Some (dotted «module» function) else None
