-- What happens in an activation of a module's body or of a function, and the arcs of its lines.
use Rattle.std.specs.Prelude.{ℕ, ◌==◌, Bool, true, false, if◌then◌else◌, List, [], ◌∷◌, ◌++◌}
use Rattle.py_value.specs.declared.exception.ExcKind.{ExcKind}
use Rattle.cov_event.specs.declared.event.CodeId.{CodeId}

-- A line is marked, or marked again as the header of a further turn of a loop; an exception is
-- thrown; or an activation is entered. An activation has its code, its items and whether it ended:
-- only one that was cut hasn't.
mutual
  -- what happens in an activation
  pub data Item : Type 0 where
    mark : (line : ℕ) → Item
    again : (line : ℕ) → Item
    throw : (kind : ExcKind) → Item
    sub : (a : Activation) → Item

  -- an activation of code
  pub data Activation : Type 0 where
    activation : (code : CodeId) (items : Items) (ended : Bool) → Activation

  -- the newest last
  pub data Items : Type 0 where
    no_items : Items
    more : (before : Items) (newest : Item) → Items

-- the line that is kept after these items. Lines are from 1 on, and 0 stands for the outside of the
-- body
abbrev pub kept_line : Items → ℕ
kept_line no_items = 0
kept_line (more before (mark l)) = l
kept_line (more before (again l)) = l
kept_line (more before (throw kind)) = kept_line before
kept_line (more before (sub a)) = kept_line before

-- a mark on the kept line is no line event
abbrev pub is_kept : ℕ → Items → Bool
is_kept l before = l == kept_line before

-- whether a throw came since the last line event
abbrev pub is_thrown : Items → Bool
is_thrown no_items = false
is_thrown (more before (mark l)) = if is_kept l before then is_thrown before else false
is_thrown (more before (again l)) = false
is_thrown (more before (throw kind)) = true
is_thrown (more before (sub a)) = is_thrown before

-- Two neighbouring lines, where 0 stands for the outside of the body, and whether a throw stands
-- between them.
pub record Arc : Type 0 where
  pub from : ℕ
  pub to : ℕ
  pub thrown : Bool

-- the arc from the line that is kept to a line
abbrev pub arc_to : Items → ℕ → Arc
arc_to before l = record { from = kept_line before; to = l; thrown = is_thrown before }

-- the arcs of the line events
unfoldable pub arcs_so_far : Items → List Arc
arcs_so_far no_items = []
arcs_so_far (more before (mark l)) =
    if is_kept l before then arcs_so_far before else arcs_so_far before ++ arc_to before l ∷ []
arcs_so_far (more before (again l)) = arcs_so_far before ++ arc_to before l ∷ []
arcs_so_far (more before (throw kind)) = arcs_so_far before
arcs_so_far (more before (sub a)) = arcs_so_far before

-- the arcs of an activation; one that ended has left its body
unfoldable pub arcs_of : Activation → List Arc
arcs_of (activation code items ended) =
    if ended then arcs_so_far items ++ arc_to items 0 ∷ [] else arcs_so_far items
