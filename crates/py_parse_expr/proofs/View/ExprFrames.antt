-- What the machine does with a frame, in the forms in which the code does it.
use Rattle.std.proofs.Common.{◌≡◌, true, false, refl, sym, ap}
use Rattle.py_syntax.specs.declared.expr.Comparison.TheVariants.{Op}
use Rattle.py_syntax.specs.Tree.{Expr, Exprs, Links}
use Rattle.py_operator.specs.declared.operator.CmpOp.{CmpOp}
use Rattle.py_grammar.specs.TokenClasses.{BinaryOperator, TokenClass, t_compare, t_operator, t_not, t_is, t_comma, t_right_paren, t_right_bracket, operator_precedence, joined}
use Rattle.py_grammar.specs.Machine.{snoc, snoc_link, Opener, a_call, a_list, Ctx, on, first, right, compare_rest, in_items, ItemsComma, Linked, Next, Stuck, give, step}
use Rattle.py_parse_expr.specs.ExprTurns.{is_comma, closes}

pub give_right : (e a : Expr) (i : BinaryOperator) (k : Ctx) (t : TokenClass) → give e (on (right i a) k) t ≡ give (joined i a e) (on (first (operator_precedence i)) k) t
give_right e a i k (t_operator j) = refl
give_right e a i k t = refl

pub give_link : (a : Expr) (ls : Links) (op : CmpOp) (e : Expr) (k : Ctx) (t : TokenClass) → give e (on (compare_rest a ls op) k) t ≡ step (Linked a (snoc_link ls (Op op) e) k) t
give_link a ls op e k (t_compare p) = refl
give_link a ls op e k t_not = refl
give_link a ls op e k t_is = refl
give_link a ls op e k t = refl

pub give_comma : (e : Expr) (o : Opener) (es ns : Exprs) (k : Ctx) (t : TokenClass) → is_comma t ≡ true → ns ≡ snoc es e → give e (on (in_items o es) k) t ≡ Next (ItemsComma o ns k)
give_comma e o es ns k t_comma h is = ap (λ (x : Exprs). Next (ItemsComma o x k)) (sym is)
give_comma e o es ns k t h is = absurd cc

pub give_unclosed : (e : Expr) (o : Opener) (es : Exprs) (k : Ctx) (t : TokenClass) → is_comma t ≡ false → closes o t ≡ false → give e (on (in_items o es) k) t ≡ Stuck
give_unclosed e o es k t_comma h i = absurd cc
give_unclosed e (a_call f) es k t_right_paren h i = absurd cc
give_unclosed e a_list es k t_right_bracket h i = absurd cc
give_unclosed e (a_call f) es k t h i = refl
give_unclosed e a_list es k t h i = refl
