-- How much of a pattern's height is fixed by what is open round it.
use Rattle.std.specs.Prelude.{ℕ, suc, ◌+◌, max, List, [], ◌∷◌}
use Rattle.py_syntax.specs.Tree.{Patterns, no_patterns, patterns}
use Rattle.py_syntax.specs.Normal.{pattern_heights}
use Rattle.py_parse_pattern.specs.Machine.{Frame, frame, Stack, stack}

-- how many nodes a list adds above its items
abbrev pub levels : Patterns → ℕ
levels no_patterns = 0
levels (patterns p ps) = 1

-- the height of the node over a list, where there is one
abbrev pub over : Patterns → ℕ
over no_patterns = 0
over (patterns p ps) = suc (pattern_heights (patterns p ps))

-- the height of that node where others stand above it
abbrev pub raised : Patterns → ℕ → ℕ
raised no_patterns d = 0
raised (patterns p ps) d = suc (pattern_heights (patterns p ps)) + d

-- how many nodes stand above an item
abbrev pub depth : Patterns → List Frame → ℕ
depth is [] = levels is
depth is (frame b js bs ∷ fs) = suc (depth js fs + levels bs)

-- the height of what is open without the item
abbrev pub base : Patterns → List Frame → ℕ
base is [] = over is
base is (frame b js bs ∷ fs) =
    max (max (base js fs) (raised bs (depth js fs)))
    (suc (pattern_heights is) + (depth js fs + levels bs))

-- the height of what is open without a closed pattern
abbrev pub base_closed : Stack → ℕ
base_closed (stack is as' fs) = max (base is fs) (raised as' (depth is fs))

-- the height of what is open outside the innermost brackets
abbrev pub base_outside : List Frame → ℕ
base_outside [] = 0
base_outside (frame b js bs ∷ fs) = base_closed (stack js bs fs)
