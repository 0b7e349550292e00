-- The arcs of a run in one of its modules, as its data shows them: the outside of a body is its
-- first line, negative.
use Rattle.std.specs.Prelude.{ℕ, zero, suc, nat_eq, Bool, if◌then◌else◌, List, [], ◌∷◌, ◌++◌, map, filter, ℤ, pos, neg_ℤ}
use Rattle.std.specs.declared.cmp.Ordering.{Ordering}
use Rattle.std.specs.Ordering.{int_cmp, ordering_then}
use Rattle.std.specs.BTreeSet.{insert_key}
use Rattle.cov_event.specs.declared.event.CodeId.{CodeId}
use Rattle.py_meaning.specs.Activations.{Activation, activation, Items, no_items, more, mark, again, throw, sub, Arc, arcs_of}
use Rattle.py_meaning.specs.Modules.{LoadedModule, unit_of}

unfoldable mutual
  -- all activations that were entered, one after the other, each in front of those that were
  -- entered in it
  pub activations : Items → List Activation
  activations no_items = []
  activations (more before (mark l)) = activations before
  activations (more before (again l)) = activations before
  activations (more before (throw kind)) = activations before
  activations (more before (sub a)) = activations before ++ activations_from a

  -- one, in front of those that were entered in it
  pub activations_from : Activation → List Activation
  activations_from (activation code items ended) = activation code items ended ∷ activations items

-- the code of an activation
abbrev pub activation_code : Activation → CodeId
activation_code (activation code items ended) = code

-- a line of a body with this first line
abbrev pub shown_line : ℕ → ℕ → ℤ
shown_line first zero = neg_ℤ (pos first)
shown_line first (suc l) = pos (suc l)

-- an arc as data show it
pub record Crossing : Type 0 where
  pub from : ℤ
  pub to : ℤ
  pub thrown : Bool

-- an arc of a body with this first line
abbrev pub crossing : ℕ → Arc → Crossing
crossing first a = record {
  from = shown_line first a.from;
  to = shown_line first a.to;
  thrown = a.thrown;
}

-- those of activations in a module
unfoldable pub crossings_of : List LoadedModule → ℕ → List Activation → List Crossing
crossings_of ms m [] = []
crossings_of ms m (a ∷ rest) =
    if nat_eq (activation_code a).module m
    then map (crossing (unit_of ms (activation_code a)).line) (arcs_of a)
    ++ crossings_of ms m rest
    else crossings_of ms m rest

-- in a module, at all places
abbrev pub crossings : List LoadedModule → ℕ → Items → List Crossing
crossings ms m items = crossings_of ms m (activations items)

-- the two lines of a crossing
abbrev pub ends : Crossing → ℤ × ℤ
ends c = (c.from, c.to)

-- by the first line, then by the second
abbrev pub by_lines : ℤ × ℤ → ℤ × ℤ → Ordering
by_lines a b = ordering_then (int_cmp a.0 b.0) (int_cmp a.1 b.1)

-- with more of them, each once and in order
unfoldable pub ordered : List (ℤ × ℤ) → List (ℤ × ℤ) → List (ℤ × ℤ)
ordered found [] = found
ordered found (a ∷ rest) = ordered (insert_key by_lines found a) rest

-- each once, in order
abbrev pub lines_crossed : List Crossing → List (ℤ × ℤ)
lines_crossed cs = ordered [] (map ends cs)

-- those that a throw crossed at some place
abbrev pub lines_thrown : List Crossing → List (ℤ × ℤ)
lines_thrown cs = ordered [] (map ends (filter (λ c. c.thrown) cs))
