-- Which paths a pattern omits: coverage.py, "Specifying source files", "File patterns".
--     some_end, first_then    what is asked of a list's ends, and of its first element and the rest
--     fits                    a pattern's component against a path's
--     covers                  the components of a pattern against those of a path
--     widened, omits          a pattern as it is read, and whether it omits a path
use Rattle.std.specs.Prelude.{ℕ, Bool, true, false, ◌&&◌, ◌||◌, ◌==◌, nat_eq, if◌then◌else◌, List, [], ◌∷◌, ◌++◌, codes}
use Rattle.std.specs.List.{slice_split, starts_with, ends_with}
use Rattle.std.specs.Str.{bytes_eq, chars}
use Rattle.cov_file_names.specs.Forms.{Text}

-- some end of the list passes: the list itself, what follows its first element, and so on to []
abbrev pub some_end : {A : Type 0} → (List A → Bool) → List A → Bool
some_end f [] = f []
some_end f (x ∷ xs) = f (x ∷ xs) || some_end f xs

-- the first element passes, and the rest passes
abbrev pub first_then : {A : Type 0} → (A → Bool) → (List A → Bool) → List A → Bool
first_then one f [] = false
first_then one f (x ∷ xs) = one x && f xs

-- `*` is any run of characters, `?` is one, and any other character is itself
abbrev pub fits : List ℕ → List ℕ → Bool
fits [] [] = true
fits [] (c ∷ cs) = false
fits (p ∷ ps) cs =
    if p == 42 then some_end (fits ps) cs else first_then (λ c. p == 63 || p == c) (fits ps) cs

-- `**` is any number of components
abbrev pub covers : List Text → List Text → Bool
covers [] [] = true
covers [] (part ∷ parts) = false
covers (p ∷ ps) parts =
    if bytes_eq p (codes "**") then some_end (covers ps) parts
    else first_then (λ part. fits (chars p) (chars part)) (covers ps) parts

-- a leading `*/` is read as `**/`, and a trailing `/*` as `/**`
abbrev pub widened : Text → Text
widened pattern =
    (if starts_with nat_eq pattern (codes "*/") then codes "*" else [])
    ++ (pattern ++ (if ends_with nat_eq pattern (codes "/*") then codes "*" else []))

-- the parts of a path between /
abbrev pub components : Text → List Text
components text = slice_split (λ b. b == 47) text

-- whether a pattern omits a path
abbrev pub omits : Text → Text → Bool
omits pattern path = covers (components (widened pattern)) (components path)
