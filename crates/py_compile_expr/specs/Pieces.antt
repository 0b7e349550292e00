-- Pieces of the code of expressions and patterns.
--     chars_code                 characters after the text on top
--     then_code, after_code      an expression with an instruction after it, or before it
--     row_code                   expressions in a row with an instruction after them
--     link_instr                 the instruction of a comparison in a chain
--     skip_instr                 one that leads past an expression
--     alternative_size, choice_code and the like        alternatives of a pattern
use Rattle.std.specs.Prelude.{ℕ, ◌+◌, ◌==◌, false, if◌then◌else◌, List, [], ◌++◌, Option}
use Rattle.py_syntax.specs.Tree.{Text, Expr, Exprs, Pattern}
use Rattle.py_code.specs.declared.instr.Instr.{Instr}
use Rattle.py_code.specs.declared.instr.Instr.TheVariants.{Pop, Copy, Extend, Compare, Goto, And, Or, Link, Unless}
use Rattle.py_code.specs.declared.instr.Question.{Question}
use Rattle.py_compile_expr.specs.declared.operators.Skip.{Skip}
use Rattle.py_compile_expr.specs.declared.operators.Skip.TheVariants.{And as SkipAnd, Or as SkipOr, Goto as SkipGoto}
use Rattle.py_code.specs.declared.unit.Constant.TheVariants.{Bool as BoolConstant, Str as StrConstant}
use Rattle.py_compile_expr.specs.Cells.{Op, constant, plain, Guard, Cell, put}
use Rattle.py_compile_expr.specs.Expressions.{expr_code, each_code}
use Rattle.py_compile_expr.specs.Patterns.{Site, pattern_size, pattern_code}

-- characters after the text on top
abbrev pub chars_code : Option Guard → Text → List Cell
chars_code g x = put g (constant (StrConstant x)) (put g (plain Extend) [])

-- an expression, and an instruction after it
abbrev pub then_code : Option Guard → ℕ → Expr → Op → List Cell
then_code g p e op = expr_code g p e ++ put g op []

-- an instruction, and an expression after it
abbrev pub after_code : Option Guard → ℕ → Instr → Expr → List Cell
after_code g p i e = put g (plain i) (expr_code g (p + 1) e)

-- expressions in a row, and an instruction after them
abbrev pub row_code : Option Guard → ℕ → Exprs → Instr → List Cell
row_code g p es i = each_code g p es ++ put g (plain i) []

-- where so many comparisons are left, this one among them
abbrev pub link_instr : Question → (end left : ℕ) → Instr
link_instr q end left = if left == 1 then Compare q else Link q end

-- what leads past an expression, to a place
abbrev pub skip_instr : Skip → ℕ → Instr
skip_instr SkipAnd to = And to
skip_instr SkipOr to = Or to
skip_instr SkipGoto to = Goto to

-- ---- pieces of patterns

-- the size of an alternative whose pattern takes so many instructions, where so many are left, this
-- one among them
abbrev pub alternative_size : (own left : ℕ) → ℕ
alternative_size own left = if left == 1 then own else own + 3

-- no alternative matches
abbrev pub none_code : Site → List Cell
none_code s =
    put s.guard (plain Pop)
    (put s.guard (constant (BoolConstant false)) (put s.guard (plain (Unless s.extra s.fail)) []))

-- an alternative that others follow matches a copy
abbrev pub alternative_code : Site → ℕ → (end : ℕ) → Pattern → List Cell
alternative_code s p end q =
    put s.guard (plain (Copy 0))
    (pattern_code
    (record {
      guard = s.guard;
      waiting = 1 + s.waiting;
      fail = p + 1 + pattern_size q + 2;
      extra = 0;
    }) (p + 1) q ++ put s.guard (plain Pop) (put s.guard (plain (Goto end)) []))

-- an alternative, where so many are left, this one among them
abbrev pub choice_code : Site → ℕ → (end left : ℕ) → Pattern → List Cell
choice_code s p end left q = if left == 1 then pattern_code s p q else alternative_code s p end q
