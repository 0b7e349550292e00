-- Where a reading from a place to another ends, said of all trees.
use Rattle.std.proofs.Common.{drop}
use Rattle.py_grammar.specs.Machine.{any, one, target}
use Rattle.py_grammar.specs.Reading.{Unexpected, TooDeep, Reads}
use Rattle.py_grammar.specs.ExprTrees.{OneOf}
use Rattle.py_grammar.specs.Ends.{IsExactEverywhere}
use Rattle.py_grammar.proofs.Exact.ExprExact.{exact, one_tree_of}

pub is_exact : IsExactEverywhere
is_exact goal limit ts at place asked some = record {
  reads = λ e h. exact goal asked limit (drop at ts) (Reads e (drop place ts)) some h.ends;
  unexpected = λ h. exact goal asked limit (drop at ts) (Unexpected (drop place ts)) some h.ends;
  too_deep = λ h. exact goal asked limit (drop at ts) (TooDeep (drop place ts)) some h.ends;
}

pub one_exprs : OneOf any
one_exprs = one_tree_of any tt

pub one_expr : OneOf one
one_expr = one_tree_of one tt

pub one_target : OneOf target
one_target = one_tree_of target tt
