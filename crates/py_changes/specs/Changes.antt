-- The changed lines of two lists of modules.
--     same_modules, all_fit       the two rules that speak of whole lists
--     are_compared                lists that are compared place by place
--     changed_lines               the changed lines of a module of the old list
use Rattle.std.specs.Prelude.{◌≡◌, ℕ, nat_eq, Bool, true, false, ◌&&◌, ◌||◌, if◌then◌else◌, List, [], ◌∷◌}
use Rattle.py_text.specs.Comparison.{is_same_text}
use Rattle.py_syntax.specs.Marks.{body_marks}
use Rattle.py_meaning.specs.Modules.{LoadedModule, body_of}
use Rattle.py_changes.specs.Same.{same_list}
use Rattle.py_changes.specs.Changed.{fits_body, changed_module}

-- the same names of modules, in the same order
abbrev pub same_modules : List LoadedModule → List LoadedModule → Bool
same_modules = same_list (λ a b. is_same_text a.name b.name)

-- each module that marked nothing is the same in the new list
abbrev pub all_fit : List LoadedModule → List LoadedModule → Bool
all_fit [] bs = true
all_fit (a ∷ rest) [] = true
all_fit (a ∷ rest) (b ∷ bs) = fits_body a.body b.body && all_fit rest bs

-- whether modules are compared place by place; else all their marks change
abbrev pub are_compared : List LoadedModule → List LoadedModule → Bool
are_compared old new = same_modules old new && all_fit old new

-- the changed lines of the module of the old list with a number
abbrev pub changed_lines : List LoadedModule → List LoadedModule → ℕ → List ℕ
changed_lines old new m =
    if are_compared old new
    then (changed_module (body_of old m) (body_of new m)).0
    else body_marks (body_of old m)

-- whether a line is one of a list
abbrev pub is_one_of : ℕ → List ℕ → Bool
is_one_of l [] = false
is_one_of l (k ∷ ks) = nat_eq l k || is_one_of l ks

-- a line of the old list's module with a number isn't changed
abbrev pub IsUnchanged : List LoadedModule → List LoadedModule → ℕ → ℕ → Type 0
IsUnchanged old new m l = is_one_of l (changed_lines old new m) ≡ false
