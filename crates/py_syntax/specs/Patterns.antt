-- Patterns that match everything (Python Language Reference, 8.6.3, "Irrefutable Case Blocks").
use Rattle.std.specs.Prelude.{Bool, true, false, ◌||◌}
use Rattle.py_syntax.specs.Tree.{Pattern, literal, capture, wild, member, sequence, p_or, p_as, p_paren, Patterns, no_patterns, patterns}

abbrev mutual
  -- a name, `_`, one of these with `as` or in parentheses, or alternatives of which one matches
  -- everything
  pub is_irrefutable : Pattern → Bool
  is_irrefutable (literal minus c) = false
  is_irrefutable (capture x) = true
  is_irrefutable wild = true
  is_irrefutable (member m x) = false
  is_irrefutable (sequence b ps c) = false
  is_irrefutable (p_or ps) = has_irrefutable ps
  is_irrefutable (p_as p x) = is_irrefutable p
  is_irrefutable (p_paren p) = is_irrefutable p

  -- whether one of several patterns matches everything
  pub has_irrefutable : Patterns → Bool
  has_irrefutable no_patterns = false
  has_irrefutable (patterns p ps) = is_irrefutable p || has_irrefutable ps
