-- The code of patterns, which take the value on top (Python Language Reference, 8.6.4, "Patterns").
-- After a match the values of the captured names stand below what still waits to be matched, the
-- first lowest.
--     captured                        the names that a pattern captures
--     pattern_size, pattern_code      patterns
--     names_code                      the names of a match bound
use Rattle.std.specs.Prelude.{ℕ, ◌+◌, Bool, false, List, [], ◌∷◌, ◌++◌, length, Option}
use Rattle.py_syntax.specs.Tree.{Text, Constant, c_int, c_str, c_none, c_bool, Pattern, literal, capture, wild, member, sequence, p_or, p_as, p_paren, Patterns, no_patterns, patterns}
use Rattle.py_meaning.specs.Literals.{run_together}
use Rattle.py_meaning.specs.Patterns.{with_sign, pattern_count}
use Rattle.py_code.specs.declared.instr.Instr.TheVariants.{Pop, Copy, Sink, Roll, Compare, Goto, Unless, Sequence}
use Rattle.py_code.specs.declared.instr.Question.{Question}
use Rattle.py_code.specs.declared.instr.Question.TheVariants.{Eq, Is}
use Rattle.py_code.specs.declared.unit.Constant.{Constant as Kept}
use Rattle.py_code.specs.declared.unit.Constant.TheVariants.{None as NoneConstant, Bool as BoolConstant, Int as IntConstant, Str as StrConstant}
use Rattle.py_compile_expr.specs.Cells.{constant, load, store, attribute, plain, Guard, Cell, put}

-- the constant of a literal pattern, after a minus or not
abbrev pub kept_constant : Bool → Constant → Kept
kept_constant minus (c_int n) = IntConstant (with_sign minus n)
kept_constant minus (c_str pieces) = StrConstant (run_together pieces)
kept_constant minus c_none = NoneConstant
kept_constant minus (c_bool b) = BoolConstant b

-- numbers and strings match by `==`; None, True and False as that value
abbrev pub constant_question : Constant → Question
constant_question (c_int n) = Eq
constant_question (c_str pieces) = Eq
constant_question c_none = Is
constant_question (c_bool b) = Is

-- the names that a pattern captures, in order
abbrev mutual
  -- those of a pattern
  pub captured : Pattern → List Text
  captured (literal minus k) = []
  captured (capture x) = x ∷ []
  captured wild = []
  captured (member m x) = []
  captured (sequence brackets qs comma) = captured_each qs
  captured (p_or qs) = []
  captured (p_as q x) = captured q ++ x ∷ []
  captured (p_paren q) = captured q

  -- those of patterns in a row
  pub captured_each : Patterns → List Text
  captured_each no_patterns = []
  captured_each (patterns q qs) = captured q ++ captured_each qs

abbrev mutual
  -- how many instructions a pattern takes
  pub pattern_size : Pattern → ℕ
  pattern_size (literal minus k) = 3
  pattern_size (capture x) = 1
  pattern_size wild = 1
  pattern_size (member m x) = 4
  pattern_size (sequence brackets qs comma) = 1 + items_size qs
  pattern_size (p_or qs) = one_size qs
  pattern_size (p_as q x) = 1 + pattern_size q + 1
  pattern_size (p_paren q) = pattern_size q

  -- the items of a sequence pattern
  pub items_size : Patterns → ℕ
  items_size no_patterns = 0
  items_size (patterns q qs) = pattern_size q + items_size qs

  -- alternatives
  pub one_size : Patterns → ℕ
  one_size no_patterns = 3
  one_size (patterns q no_patterns) = pattern_size q
  one_size (patterns q (patterns r rs)) = 1 + pattern_size q + 2 + one_size (patterns r rs)

-- Where a pattern stands: the handler, how many values wait below its value, and where a failed
-- match goes on, with how many operands less, after the value itself.
pub record Site : Type 0 where
  pub guard : Option Guard
  pub waiting : ℕ
  pub fail : ℕ
  pub extra : ℕ

-- with so many more values that wait
abbrev pub with_waiting : ℕ → Site → Site
with_waiting n s = record s { waiting = n + s.waiting; extra = n + s.extra }

-- with so many captured values
abbrev pub with_captured : ℕ → Site → Site
with_captured n s = record s { extra = n + s.extra }

abbrev mutual
  -- a pattern at a site, from a place on
  pub pattern_code : Site → ℕ → Pattern → List Cell
  pattern_code s p (literal minus k) =
      put s.guard (constant (kept_constant minus k))
      (put s.guard (plain (Compare (constant_question k)))
      (put s.guard (plain (Unless s.extra s.fail)) []))
  pattern_code s p (capture x) = put s.guard (plain (Sink s.waiting)) []
  pattern_code s p wild = put s.guard (plain Pop) []
  pattern_code s p (member m x) =
      put s.guard (load m)
      (put s.guard (attribute x)
      (put s.guard (plain (Compare Eq)) (put s.guard (plain (Unless s.extra s.fail)) [])))
  pattern_code s p (sequence brackets qs comma) =
      put s.guard (plain (Sequence (pattern_count qs) s.extra s.fail)) (items_code s (p + 1) qs)
  pattern_code s p (p_or qs) = one_code s p (p + one_size qs) qs
  pattern_code s p (p_as q x) =
      put s.guard (plain (Copy 0))
      (pattern_code (with_waiting 1 s) (p + 1) q ++ put s.guard (plain (Sink s.waiting)) [])
  pattern_code s p (p_paren q) = pattern_code s p q

  -- the first item is on top, and the others wait
  pub items_code : Site → ℕ → Patterns → List Cell
  items_code s p no_patterns = []
  items_code s p (patterns q qs) =
      pattern_code (with_waiting (pattern_count qs) s) p q
      ++ items_code (with_captured (length (captured q)) s) (p + pattern_size q) qs

  -- each alternative but the last matches a copy
  pub one_code : Site → ℕ → (end : ℕ) → Patterns → List Cell
  one_code s p end no_patterns =
      put s.guard (plain Pop)
      (put s.guard (constant (BoolConstant false))
      (put s.guard (plain (Unless s.extra s.fail)) []))
  one_code s p end (patterns q no_patterns) = pattern_code s p q
  one_code s p end (patterns q (patterns r rs)) =
      let next = p + 1 + pattern_size q + 2 in
      put s.guard (plain (Copy 0))
      (pattern_code (record { guard = s.guard; waiting = 1 + s.waiting; fail = next; extra = 0 })
      (p + 1) q
      ++ put s.guard (plain Pop)
      (put s.guard (plain (Goto end)) (one_code s next end (patterns r rs))))

-- the names bound, the first first; the value of the last one is on top
abbrev pub names_size : List Text → ℕ
names_size [] = 0
names_size (x ∷ xs) = 2 + names_size xs

-- the stores of captured values
abbrev pub names_code : Option Guard → List Text → List Cell
names_code g [] = []
names_code g (x ∷ xs) = put g (plain (Roll (length xs))) (put g (store x) (names_code g xs))
