-- Each expression is the same as itself.
use Rattle.std.proofs.Common.{ℕ, nat_eq, ℤ, pos, negsuc, Bool, true, false, IsTrue, List, [], ◌∷◌, refl}
use Rattle.std.proofs.lemmas.Bool.{eq-eqb}
use Rattle.py_operator.specs.declared.operator.BinOp.{BinOp}
use Rattle.py_operator.specs.declared.operator.BinOp.TheVariants.{Add, Sub, Mul, Floor, Mod}
use Rattle.py_operator.specs.declared.operator.CmpOp.{CmpOp}
use Rattle.py_operator.specs.declared.operator.CmpOp.TheVariants.{Eq, Ne, Lt, Le, Gt, Ge, In, NotIn}
use Rattle.py_text.specs.Comparison.{is_same_text}
use Rattle.py_text.proofs.SameTexts.{text_is_same}
use Rattle.py_text.proofs.TestLaws.{both_true}
use Rattle.py_syntax.specs.declared.expr.Comparison.{Comparison}
use Rattle.py_syntax.specs.declared.expr.Comparison.TheVariants.{Op, Is, IsNot}
use Rattle.py_syntax.specs.declared.expr.Sign.{Sign}
use Rattle.py_syntax.specs.declared.expr.Sign.TheVariants.{Minus, Plus}
use Rattle.py_syntax.specs.Tree.{Text, Expr, name, int, str, fstr, none, bool, tuple, list, dict, paren, not', and, or, unary, binary, compare, cond, call, index, slice, attr, Exprs, no_exprs, exprs, Pairs, no_pairs, pair, Links, no_links, link, OptExpr, absent, present, Fragments, no_fragments, plain, format, Parts, no_parts, text, field}
use Rattle.py_changes.specs.Same.{same_bool, same_int, same_operator, same_comparison_operator, same_comparison, same_sign, same_texts, same_expr, same_exprs, same_pairs, same_links, same_opt, same_fragments, same_parts}

bool-self : (b : Bool) → IsTrue (same_bool b b)
bool-self true = refl
bool-self false = refl

number-self : (n : ℕ) → IsTrue (nat_eq n n)
number-self n = eq-eqb n n refl

int-self : (n : ℤ) → IsTrue (same_int n n)
int-self (pos n) = number-self n
int-self (negsuc n) = number-self n

operator-self : (op : BinOp) → IsTrue (same_operator op op)
operator-self Add = refl
operator-self Sub = refl
operator-self Mul = refl
operator-self Floor = refl
operator-self Mod = refl

cmp-self : (op : CmpOp) → IsTrue (same_comparison_operator op op)
cmp-self Eq = refl
cmp-self Ne = refl
cmp-self Lt = refl
cmp-self Le = refl
cmp-self Gt = refl
cmp-self Ge = refl
cmp-self In = refl
cmp-self NotIn = refl

comparison-self : (c : Comparison) → IsTrue (same_comparison c c)
comparison-self (Op op) = cmp-self op
comparison-self Is = refl
comparison-self IsNot = refl

sign-self : (s : Sign) → IsTrue (same_sign s s)
sign-self Minus = refl
sign-self Plus = refl

texts-self : (xs : List Text) → IsTrue (same_texts xs xs)
texts-self [] = refl
texts-self (x ∷ xs) =
    both_true (is_same_text x x) (same_texts xs xs) (text_is_same x) (texts-self xs)

mutual
  pub expr-self : (e : Expr) → IsTrue (same_expr e e)
  expr-self (name x) = text_is_same x
  expr-self (int n) = int-self n
  expr-self (str ps) = texts-self ps
  expr-self (fstr fs) = fragments-self fs
  expr-self none = refl
  expr-self (bool b) = bool-self b
  expr-self (tuple es c) = both_true _ _ (exprs-self es) (bool-self c)
  expr-self (list es c) = both_true _ _ (exprs-self es) (bool-self c)
  expr-self (dict ps c) = both_true _ _ (pairs-self ps) (bool-self c)
  expr-self (paren e) = expr-self e
  expr-self (not' e) = expr-self e
  expr-self (and a b) = both_true _ _ (expr-self a) (expr-self b)
  expr-self (or a b) = both_true _ _ (expr-self a) (expr-self b)
  expr-self (unary s e) = both_true _ _ (sign-self s) (expr-self e)
  expr-self (binary op a b) =
      both_true _ _ (operator-self op) (both_true _ _ (expr-self a) (expr-self b))
  expr-self (compare a ls) = both_true _ _ (expr-self a) (links-self ls)
  expr-self (cond a b c) = both_true _ _ (expr-self a) (both_true _ _ (expr-self b) (expr-self c))
  expr-self (call f es c) =
      both_true _ _ (expr-self f) (both_true _ _ (exprs-self es) (bool-self c))
  expr-self (index f e) = both_true _ _ (expr-self f) (expr-self e)
  expr-self (slice f a b) = both_true _ _ (expr-self f) (both_true _ _ (opt-self a) (opt-self b))
  expr-self (attr f x) = both_true _ _ (expr-self f) (text_is_same x)

  pub exprs-self : (es : Exprs) → IsTrue (same_exprs es es)
  exprs-self no_exprs = refl
  exprs-self (exprs e es) = both_true _ _ (expr-self e) (exprs-self es)

  pairs-self : (ps : Pairs) → IsTrue (same_pairs ps ps)
  pairs-self no_pairs = refl
  pairs-self (pair k e ps) =
      both_true _ _ (expr-self k) (both_true _ _ (expr-self e) (pairs-self ps))

  links-self : (ls : Links) → IsTrue (same_links ls ls)
  links-self no_links = refl
  links-self (link c e ls) =
      both_true _ _ (comparison-self c) (both_true _ _ (expr-self e) (links-self ls))

  opt-self : (o : OptExpr) → IsTrue (same_opt o o)
  opt-self absent = refl
  opt-self (present e) = expr-self e

  fragments-self : (fs : Fragments) → IsTrue (same_fragments fs fs)
  fragments-self no_fragments = refl
  fragments-self (plain x fs) = both_true _ _ (text_is_same x) (fragments-self fs)
  fragments-self (format ps fs) = both_true _ _ (parts-self ps) (fragments-self fs)

  parts-self : (ps : Parts) → IsTrue (same_parts ps ps)
  parts-self no_parts = refl
  parts-self (text x ps) = both_true _ _ (text_is_same x) (parts-self ps)
  parts-self (field e ps) = both_true _ _ (expr-self e) (parts-self ps)
