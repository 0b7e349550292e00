-- What assignments do to their targets (Python Language Reference, 7.2, "Assignment statements").
--     no_target, target_count         what is no target; how many there are
--     assign_to, assign_each          a value to a target, and values to targets in a row
--     assign_all                      one value to each of several targets
--     augment                         `place op= e`
use Rattle.std.specs.Prelude.{ℕ, suc, List, [], ◌∷◌, Err}
use Rattle.py_value.specs.declared.cause.Cause.TheVariants.{NotSubscriptable}
use Rattle.py_operator.specs.declared.operator.BinOp.{BinOp}
use Rattle.py_value.specs.Causes.{raised_by}
use Rattle.py_value.specs.Operators.{in_place_of, index_of}
use Rattle.py_value.specs.Plain.{PlainValue}
use Rattle.py_syntax.specs.Tree.{Expr, name, int, str, fstr, none, bool, tuple, list, dict, paren, not', and, or, unary, binary, compare, cond, call, index, slice, attr, Exprs, no_exprs, exprs}
use Rattle.py_meaning.specs.Calls.{Calls}
use Rattle.py_meaning.specs.Computations.{Ans, M, give, write, value, ask, work}
use Rattle.py_meaning.specs.Expressions.{gives, eval}
use Rattle.py_builtins.specs.Items.{unpacked}
use Rattle.py_builtins.specs.Making.{stored}
use Rattle.py_meaning.specs.Places.{Place, fetched, bound}

-- what is no target has no items
abbrev pub no_target : M (Ans (Unit {0}))
no_target = give (Err (raised_by NotSubscriptable))

-- how many targets there are
abbrev pub target_count : Exprs → ℕ
target_count no_exprs = 0
target_count (exprs e es) = suc (target_count es)

unfoldable mutual
  -- a value assigned to a target
  pub assign_to : Calls → Place → Expr → PlainValue → M (Ans (Unit {0}))
  assign_to c p (name x) v = write (bound p.scope x v) (gives tt)
  assign_to c p (int n) v = no_target
  assign_to c p (str ps) v = no_target
  assign_to c p (fstr fs) v = no_target
  assign_to c p none v = no_target
  assign_to c p (bool b) v = no_target
  assign_to c p (tuple ts comma) v =
      value (ask (λ w. unpacked (target_count ts) v w.world.heap)) (λ vs. assign_each c p ts vs)
  assign_to c p (list ts comma) v =
      value (ask (λ w. unpacked (target_count ts) v w.world.heap)) (λ vs. assign_each c p ts vs)
  assign_to c p (dict ps comma) v = no_target
  assign_to c p (paren t) v = assign_to c p t v
  assign_to c p (not' e) v = no_target
  assign_to c p (and a b) v = no_target
  assign_to c p (or a b) v = no_target
  assign_to c p (unary s e) v = no_target
  assign_to c p (binary op a b) v = no_target
  assign_to c p (compare a ls) v = no_target
  assign_to c p (cond b t o) v = no_target
  assign_to c p (call f es comma) v = no_target
  assign_to c p (index of at) v =
      value (eval c p of) (λ o. value (eval c p at) (λ i. work (stored o i v)))
  assign_to c p (slice of low high) v = no_target
  assign_to c p (attr of x) v = no_target

  -- values to targets, from left to right
  pub assign_each : Calls → Place → Exprs → List PlainValue → M (Ans (Unit {0}))
  assign_each c p no_exprs vs = gives tt
  assign_each c p (exprs t ts) [] = gives tt
  assign_each c p (exprs t ts) (v ∷ vs) = value (assign_to c p t v) (λ u. assign_each c p ts vs)

-- one value to each of these targets, from left to right
unfoldable pub assign_all : Calls → Place → Exprs → PlainValue → M (Ans (Unit {0}))
assign_all c p no_exprs v = gives tt
assign_all c p (exprs t ts) v = value (assign_to c p t v) (λ u. assign_all c p ts v)

-- `place op= e`: the object and the index are evaluated once, and the place is read before the
-- right side (7.2.1)
unfoldable pub augment : Calls → Place → Expr → BinOp → Expr → M (Ans (Unit {0}))
augment c p (name x) op e =
    value (ask (fetched p.scope x)) (λ v.
    value (eval c p e) (λ w.
    value (work (in_place_of op v w)) (λ u. write (bound p.scope x u) (gives tt))))
augment c p (int n) op e = no_target
augment c p (str ps) op e = no_target
augment c p (fstr fs) op e = no_target
augment c p none op e = no_target
augment c p (bool b) op e = no_target
augment c p (tuple ts comma) op e = no_target
augment c p (list ts comma) op e = no_target
augment c p (dict ps comma) op e = no_target
augment c p (paren t) op e = no_target
augment c p (not' a) op e = no_target
augment c p (and a b) op e = no_target
augment c p (or a b) op e = no_target
augment c p (unary s a) op e = no_target
augment c p (binary o a b) op e = no_target
augment c p (compare a ls) op e = no_target
augment c p (cond b t o) op e = no_target
augment c p (call f es comma) op e = no_target
augment c p (index of at) op e =
    value (eval c p of) (λ o.
    value (eval c p at) (λ i.
    value (ask (λ s. index_of o i s.world.heap)) (λ v.
    value (eval c p e) (λ w. value (work (in_place_of op v w)) (λ u. work (stored o i u))))))
augment c p (slice of low high) op e = no_target
augment c p (attr of x) op e = no_target
