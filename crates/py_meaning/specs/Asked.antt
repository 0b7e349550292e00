-- The comparisons of a chain as questions about values (Python Language Reference, 6.10).
use Rattle.py_syntax.specs.declared.expr.Comparison.{Comparison}
use Rattle.py_syntax.specs.declared.expr.Comparison.TheVariants.{Op, Is, IsNot}
use Rattle.py_value.specs.Compared.{Comparison as Question, relates, is_it, is_not_it}

-- the question of a comparison
abbrev pub asked : Comparison → Question
asked (Op op) = relates op
asked Is = is_it
asked IsNot = is_not_it
