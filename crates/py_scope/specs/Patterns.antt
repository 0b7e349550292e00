-- What a pattern may be blamed for.
--     repeats_in, has_repeats      names that stand twice
--     is_early, has_early          patterns that match everything and stand before others
--     binds, alternative_binds     patterns that bind a name, and those with an alternative that
--                                  does
--     is_twice_named               patterns that bind a name twice
use Rattle.std.specs.Prelude.{Bool, true, false, not, ◌&&◌, ◌||◌, List, [], ◌∷◌}
use Rattle.py_syntax.specs.Tree.{Text, Pattern, literal, capture, wild, member, sequence, p_or, p_as, p_paren, Patterns, no_patterns, patterns}
use Rattle.py_syntax.specs.Patterns.{is_irrefutable}
use Rattle.py_syntax.specs.Names.{is_among, add_name, pattern_names}

-- some name stands twice in a list, or in it and among the given ones
abbrev pub repeats_in : List Text → List Text → Bool
repeats_in before [] = false
repeats_in before (x ∷ xs) = is_among before x || repeats_in (add_name before x) xs

-- some name stands twice in a list
abbrev pub has_repeats : List Text → Bool
has_repeats = repeats_in []

-- no alternative follows
abbrev pub is_last : Patterns → Bool
is_last no_patterns = true
is_last (patterns p ps) = false

-- an irrefutable one stands before the last of these alternatives
abbrev pub is_early : Patterns → Bool
is_early no_patterns = false
is_early (patterns p ps) = (is_irrefutable p && not (is_last ps)) || is_early ps

-- Somewhere in it an irrefutable alternative stands before the last of its list.
abbrev mutual
  -- in a pattern
  pub has_early : Pattern → Bool
  has_early (literal minus c) = false
  has_early (capture x) = false
  has_early wild = false
  has_early (member m x) = false
  has_early (sequence b ps c) = some_early ps
  has_early (p_or ps) = is_early ps || some_early ps
  has_early (p_as p x) = has_early p
  has_early (p_paren p) = has_early p

  -- in one of these patterns
  pub some_early : Patterns → Bool
  some_early no_patterns = false
  some_early (patterns p ps) = has_early p || some_early ps

-- It binds a name.
abbrev mutual
  -- a pattern binds one
  pub binds : Pattern → Bool
  binds (literal minus c) = false
  binds (capture x) = true
  binds wild = false
  binds (member m x) = false
  binds (sequence b ps c) = some_binds ps
  binds (p_or ps) = some_binds ps
  binds (p_as p x) = true
  binds (p_paren p) = binds p

  -- one of these patterns does
  pub some_binds : Patterns → Bool
  some_binds no_patterns = false
  some_binds (patterns p ps) = binds p || some_binds ps

-- Somewhere in it an alternative binds a name.
abbrev mutual
  -- in a pattern
  pub alternative_binds : Pattern → Bool
  alternative_binds (literal minus c) = false
  alternative_binds (capture x) = false
  alternative_binds wild = false
  alternative_binds (member m x) = false
  alternative_binds (sequence b ps c) = some_alternative_binds ps
  alternative_binds (p_or ps) = some_binds ps
  alternative_binds (p_as p x) = alternative_binds p
  alternative_binds (p_paren p) = alternative_binds p

  -- in one of these patterns
  pub some_alternative_binds : Patterns → Bool
  some_alternative_binds no_patterns = false
  some_alternative_binds (patterns p ps) = alternative_binds p || some_alternative_binds ps

-- It binds a name twice, or an alternative binds one.
abbrev pub is_twice_named : Pattern → Bool
is_twice_named p = has_repeats (pattern_names p) || alternative_binds p
