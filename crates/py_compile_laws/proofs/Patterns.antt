-- What a header of a case isn't blamed for: no alternative in its pattern binds a name.
use Rattle.std.proofs.Common.{◌≡◌, false}
use Rattle.py_syntax.specs.Tree.{Pattern, literal, capture, wild, member, sequence, p_or, p_as, p_paren, Patterns, no_patterns, patterns}
use Rattle.py_scope.specs.Patterns.{binds, some_binds, alternative_binds, some_alternative_binds}
use Rattle.py_compile.specs.Proper.{BindsNone, NoneBind, ProperPattern, ProperPatterns}
use Rattle.py_compile_laws.proofs.Nothing.{left_false, right_false}

mutual
  binds-none : (p : Pattern) → binds p ≡ false → BindsNone p
  binds-none (literal minus k) h = tt
  binds-none (capture x) h = cc
  binds-none wild h = tt
  binds-none (member m x) h = tt
  binds-none (sequence brackets qs comma) h = none-bind qs h
  binds-none (p_or qs) h = none-bind qs h
  binds-none (p_as q x) h = cc
  binds-none (p_paren q) h = binds-none q h

  none-bind : (ps : Patterns) → some_binds ps ≡ false → NoneBind ps
  none-bind no_patterns h = tt
  none-bind (patterns q qs) h = (binds-none q (left_false (binds q) (some_binds qs) h), none-bind qs (right_false (binds q) (some_binds qs) h))

mutual
  pub proper-pattern : (p : Pattern) → alternative_binds p ≡ false → ProperPattern p
  proper-pattern (literal minus k) h = tt
  proper-pattern (capture x) h = tt
  proper-pattern wild h = tt
  proper-pattern (member m x) h = tt
  proper-pattern (sequence brackets qs comma) h = proper-patterns qs h
  proper-pattern (p_or qs) h = none-bind qs h
  proper-pattern (p_as q x) h = proper-pattern q h
  proper-pattern (p_paren q) h = proper-pattern q h

  proper-patterns : (ps : Patterns) → some_alternative_binds ps ≡ false → ProperPatterns ps
  proper-patterns no_patterns h = tt
  proper-patterns (patterns q qs) h =
      (proper-pattern q (left_false (alternative_binds q) (some_alternative_binds qs) h), proper-patterns qs (right_false (alternative_binds q) (some_alternative_binds qs) h))
