-- The code of a call by its callee.
use Rattle.std.proofs.Common.{◌≡◌, ℕ, ◌+◌, List, [], ◌++◌, Option, refl, sym, ap, ◌∙◌, arith, append_assoc}
use Rattle.py_code.specs.declared.instr.Instr.TheVariants.{Call}
use Rattle.py_syntax.specs.Tree.{Expr, name, int, str, fstr, none, bool, tuple, list, dict, paren, not', and, or, unary, binary, compare, cond, call, index, slice, attr, Exprs}
use Rattle.std.specs.Prelude.{Bool}
use Rattle.py_compile_expr.specs.Callees.{callee_code}
use Rattle.py_compile_expr.specs.Cells.{method, plain, Guard, Cell, put}
use Rattle.py_compile_expr.specs.Expressions.{count, expr_size, expr_code, each_size, each_code}

-- the values after what is called, and the call
abbrev args_code : Option Guard → ℕ → Exprs → List Cell
args_code g p es = each_code g p es ++ put g (plain (Call (count es))) []

pub call_size : (f : Expr) (es : Exprs) (c : Bool) → expr_size (call f es c) ≡ expr_size f + each_size es + 1
call_size (name x) es c = refl
call_size (int n) es c = refl
call_size (str ps) es c = refl
call_size (fstr fs) es c = refl
call_size none es c = refl
call_size (bool b) es c = refl
call_size (tuple ts d) es c = refl
call_size (list ts d) es c = refl
call_size (dict ps d) es c = refl
call_size (paren e) es c = refl
call_size (not' e) es c = refl
call_size (and a b) es c = refl
call_size (or a b) es c = refl
call_size (unary s e) es c = refl
call_size (binary op a b) es c = refl
call_size (compare a ls) es c = refl
call_size (cond b t o) es c = refl
call_size (call f ts d) es c = refl
call_size (index of at) es c = refl
call_size (slice of from to) es c = refl
call_size (attr e x) es c = refl

pub call_code : (g : Option Guard) (p : ℕ) (f : Expr) (es : Exprs) (c : Bool) → expr_code g p (call f es c) ≡ callee_code g p f ++ args_code g (p + expr_size f) es
call_code g p (name x) es c = refl
call_code g p (int n) es c = refl
call_code g p (str ps) es c = refl
call_code g p (fstr fs) es c = refl
call_code g p none es c = refl
call_code g p (bool b) es c = refl
call_code g p (tuple ts d) es c = refl
call_code g p (list ts d) es c = refl
call_code g p (dict ps d) es c = refl
call_code g p (paren e) es c = refl
call_code g p (not' e) es c = refl
call_code g p (and a b) es c = refl
call_code g p (or a b) es c = refl
call_code g p (unary s e) es c = refl
call_code g p (binary op a b) es c = refl
call_code g p (compare a ls) es c = refl
call_code g p (cond b t o) es c = refl
call_code g p (call f ts d) es c = refl
call_code g p (index of at) es c = refl
call_code g p (slice of from to) es c = refl
call_code g p (attr e x) es c =
    let here : p + expr_size e + 1 ≡ p + (expr_size e + 1) = omega arith in
    ap (λ n. expr_code g p e ++ put g (method x) (args_code g n es)) here ∙ sym (append_assoc (expr_code g p e) (put g (method x) []) (args_code g (p + (expr_size e + 1)) es))
