-- How a part of a tree is entered and left: its first mark, the jumps out of it, and the ways by
-- which it is left.
--     IsFirst                                the mark that comes first, or none
--     list_of, targets_of, targets_by        the targets of jumps
--     plain_way, way_of, IsLeft              the ways by which a part is left
use Rattle.std.specs.Prelude.{◌≡◌, ℕ, Bool, true, false, List, [], ◌∷◌, Option, Some, None, ℤ}
use Rattle.py_syntax.specs.declared.expr.Expr.{Expr as ExprNode}
use Rattle.py_syntax.specs.LastMarks.{Way, onward, breaking, continuing, returning, raising, comes}
use Rattle.py_syntax.specs.Tree.{Expr}
use Rattle.py_syntax.specs.View.{plain_expr}
use Rattle.cov_predict.specs.Walk.{Target, Targets}
use Rattle.cov_predict.specs.declared.jumps.Jump.{Jump}
use Rattle.cov_predict.specs.declared.jumps.Jump.TheVariants as jump
use Rattle.cov_predict.specs.declared.jumps.Jumps.{Jumps}
use Rattle.cov_predict.specs.declared.ways.Way.{Way as OwnWay}
use Rattle.cov_predict.specs.declared.ways.Way.TheVariants as own
use Rattle.cov_predict.specs.declared.ways.Ways.{Ways}

-- the mark that comes first in a part, with its first marks, and whether it is empty
abbrev pub IsFirst : Option ℕ → List ℕ → Bool → Type 0
IsFirst None ms e = (ms ≡ []) × (e ≡ true)
IsFirst (Some l) ms e = (ms ≡ l ∷ []) × (e ≡ false)

-- an expression that may be there
abbrev pub plain_option : Option ExprNode → Option Expr
plain_option None = None
plain_option (Some e) = Some (plain_expr e)

-- where a jump leads
abbrev pub list_of : Jump → List Target
list_of (jump.Mark l) = (l, false) ∷ []
list_of (jump.Always l) = (l, true) ∷ []
list_of (jump.Each ts) = ts.now

-- where the jumps out of a part lead
abbrev pub targets_of : Jumps → Targets
targets_of j = record {
  onward = list_of j.onward;
  breaking = list_of j.breaking;
  continuing = list_of j.continuing;
  returning = list_of j.returning;
  raising = list_of j.raising;
}

-- the targets of a mark that is left by a way
abbrev pub targets_by : Targets → Way → List Target
targets_by t onward = t.onward
targets_by t breaking = t.breaking
targets_by t continuing = t.continuing
targets_by t returning = t.returning
targets_by t raising = t.raising

-- a way that is no exception
abbrev pub plain_way : OwnWay → Way
plain_way own.Onward = onward
plain_way own.Breaking = breaking
plain_way own.Continuing = continuing
plain_way own.Returning = returning

-- whether a part is left by a way
abbrev pub way_of : Ways → Way → Bool
way_of ways onward = ways.onward
way_of ways breaking = ways.breaking
way_of ways continuing = ways.continuing
way_of ways returning = ways.returning
way_of ways raising = ways.raising

-- a part with these last marks is left by these ways
abbrev pub IsLeft : Ways → (Way → List ℕ) → Type 0
IsLeft ways last = (w : Way) → way_of ways w ≡ comes (last w)
