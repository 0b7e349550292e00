-- The code and the size of one form in memory, by what stands in it.
--     tuple_code .. cond_code          code
--     last_placed .. chosen_placed     places after it
--     each_added, pairs_added          turns of loops
use Rattle.std.proofs.Common.{◌≡◌, ℕ, ◌+◌, ◌<◌, List, [], ◌++◌, Option, Bool, length, drop, get_or, refl, sym, ap, ◌∙◌, arith, append_assoc}
use Rattle.std.specs.Global.{Vec}
use Rattle.py_operator.specs.declared.operator.BinOp.{BinOp}
use Rattle.py_code.specs.declared.instr.Instr.TheVariants.{Tuple, List as MakeList, Dict, AddPair, Binary, Goto, IfFalse, And, Or}
use Rattle.py_code.specs.declared.unit.Constant.TheVariants.{Str as StrConstant}
use Rattle.py_syntax.specs.declared.expr.Expr.{Expr as Node}
use Rattle.py_syntax.specs.declared.expr.Expr.TheVariants as variant
use Rattle.py_syntax.specs.declared.expr.Pair.{Pair, out-Pair}
use Rattle.py_syntax.specs.Tree.{Expr, fstr, dict, and, or, binary, compare, cond, Links, Pairs, Fragments}
use Rattle.py_syntax.specs.View.{plain_expr, plain_exprs, plain_pairs}
use Rattle.py_compile_expr.specs.Cells.{constant, plain, Guard, Cell, put}
use Rattle.py_compile_expr.specs.Expressions.{count, expr_size, expr_code, each_code, pairs_code, links_size, links_code, fragments_code}
use Rattle.py_compile_expr.specs.Pieces.{row_code, after_code, then_code}
use Rattle.py_compile_expr.proofs.Forms.{tuple_shown, list_shown, pair_first}
use Rattle.py_compile_expr.proofs.Turns.{the_drop, a_turn}

-- ---- code

pub tuple_code : (g : Option Guard) (p size : ℕ) (e : Node) (es : Vec Node) (c : Bool) (xs ys : List Node) → e ≡ variant.Tuple es c → xs ≡ es.items → ys ≡ es.items → size ≡ count (plain_exprs xs) → expr_code g p (plain_expr e) ≡ row_code g p (plain_exprs ys) (Tuple size)
tuple_code g p size e es c xs ys is first second long =
    ap (expr_code g p) (tuple_shown e es c ys is second)
    ∙ ap (λ n. row_code g p (plain_exprs ys) (Tuple n)) (sym (long ∙ ap (λ zs. count (plain_exprs zs)) (first ∙ sym second)))

pub list_code : (g : Option Guard) (p size : ℕ) (e : Node) (es : Vec Node) (c : Bool) (xs ys : List Node) → e ≡ variant.List es c → xs ≡ es.items → ys ≡ es.items → size ≡ count (plain_exprs xs) → expr_code g p (plain_expr e) ≡ row_code g p (plain_exprs ys) (MakeList size)
list_code g p size e es c xs ys is first second long =
    ap (expr_code g p) (list_shown e es c ys is second)
    ∙ ap (λ n. row_code g p (plain_exprs ys) (MakeList n)) (sym (long ∙ ap (λ zs. count (plain_exprs zs)) (first ∙ sym second)))

pub fstr_code : (g : Option Guard) (p q : ℕ) (e : Expr) (fs : Fragments) → e ≡ fstr fs → q ≡ p + 1 → expr_code g p e ≡ put g (constant (StrConstant [])) [] ++ fragments_code g q fs
fstr_code g p q e fs is place = ap (expr_code g p) is ∙ ap (λ n. put g (constant (StrConstant [])) (fragments_code g n fs)) (sym place)

pub dict_code : (g : Option Guard) (p q : ℕ) (e : Expr) (ps : Pairs) (c : Bool) → e ≡ dict ps c → q ≡ p + 1 → expr_code g p e ≡ put g (plain Dict) [] ++ pairs_code g q ps
dict_code g p q e ps c is place = ap (expr_code g p) is ∙ ap (λ n. put g (plain Dict) (pairs_code g n ps)) (sym place)

pub and_code : (g : Option Guard) (p q : ℕ) (e a b : Expr) → e ≡ and a b → q ≡ p + expr_size a → expr_code g p e ≡ expr_code g p a ++ after_code g q (And (q + 1 + expr_size b)) b
and_code g p q e a b is place = ap (expr_code g p) is ∙ ap (λ n. expr_code g p a ++ after_code g n (And (n + 1 + expr_size b)) b) (sym place)

pub or_code : (g : Option Guard) (p q : ℕ) (e a b : Expr) → e ≡ or a b → q ≡ p + expr_size a → expr_code g p e ≡ expr_code g p a ++ after_code g q (Or (q + 1 + expr_size b)) b
or_code g p q e a b is place = ap (expr_code g p) is ∙ ap (λ n. expr_code g p a ++ after_code g n (Or (n + 1 + expr_size b)) b) (sym place)

pub binary_code : (g : Option Guard) (p q : ℕ) (op : BinOp) (e a b : Expr) → e ≡ binary op a b → q ≡ p + expr_size a → expr_code g p e ≡ expr_code g p a ++ then_code g q b (plain (Binary op))
binary_code g p q op e a b is place = ap (expr_code g p) is ∙ ap (λ n. expr_code g p a ++ then_code g n b (plain (Binary op))) (sym place)

pub compare_code : (g : Option Guard) (p q : ℕ) (e a : Expr) (ls : Links) → e ≡ compare a ls → q ≡ p + expr_size a → expr_code g p e ≡ expr_code g p a ++ links_code g q (q + links_size ls) ls
compare_code g p q e a ls is place = ap (expr_code g p) is ∙ ap (λ n. expr_code g p a ++ links_code g n (n + links_size ls) ls) (sym place)

pub cond_code : (g : Option Guard) (p q r : ℕ) (e b t o : Expr) → e ≡ cond b t o → q ≡ p + expr_size t → r ≡ q + 1 + expr_size b
    → expr_code g p e ≡ expr_code g p t ++ (after_code g q (IfFalse (q + 1 + expr_size b + 1)) b ++ after_code g r (Goto (r + 1 + expr_size o)) o)
cond_code g p q r e b t o is first second =
    ap (expr_code g p) is
    ∙ ap (λ n. expr_code g p t ++ (after_code g n (IfFalse (n + 1 + expr_size b + 1)) b ++ after_code g (n + 1 + expr_size b) (Goto (n + 1 + expr_size b + 1 + expr_size o)) o)) (sym first)
    ∙ ap (λ n. expr_code g p t ++ (after_code g q (IfFalse (q + 1 + expr_size b + 1)) b ++ after_code g n (Goto (n + 1 + expr_size o)) o)) (sym second)

-- ---- places

pub last_placed : (p n : ℕ) → p + n + 1 ≡ p + (n + 1)
last_placed p n = omega arith

pub placed : (p q a b : ℕ) → q ≡ p + a → q + b ≡ p + (a + b)
placed p q a b e = omega (arith, e)

pub skipped_placed : (p q a b : ℕ) → q ≡ p + a → q + 1 + b ≡ p + (a + 1 + b)
skipped_placed p q a b e = omega (arith, e)

pub then_placed : (p q a b : ℕ) → q ≡ p + a → q + b + 1 ≡ p + (a + b + 1)
then_placed p q a b e = omega (arith, e)

pub chosen_placed : (p q r a b d : ℕ) → q ≡ p + a → r ≡ q + 1 + b → r + 1 + d ≡ p + (a + 1 + b + 1 + d)
chosen_placed p q r a b d e f = omega (arith, e, f)

-- ---- turns

pub each_added : (g : Option Guard) (p q : ℕ) (es : List Node) (i : ℕ) (e : Node) (now next w : List Cell) → i < length es → e ≡ get_or es i e
    → next ≡ now ++ expr_code g p (plain_expr e) → q ≡ p + expr_size (plain_expr e) → now ++ each_code g p (plain_exprs (drop i es)) ≡ w → next ++ each_code g q (plain_exprs (drop (i + 1) es)) ≡ w
each_added g p q es i e now next w lt is cells place h =
    let rest = drop (i + 1) es in
    a_turn now next w (expr_code g p (plain_expr e)) (each_code g q (plain_exprs rest)) (each_code g p (plain_exprs (drop i es))) cells
    (ap (λ ds. each_code g p (plain_exprs ds)) (the_drop es i e lt is) ∙ ap (λ n. expr_code g p (plain_expr e) ++ each_code g n (plain_exprs rest)) (sym place)) h

pub pairs_added : (g : Option Guard) (p q r s : ℕ) (ps : List Pair) (i : ℕ) (d : Pair) (now one two next w : List Cell) → i < length ps → d ≡ get_or ps i d
    → one ≡ now ++ expr_code g p (plain_expr (out-Pair d).key) → q ≡ p + expr_size (plain_expr (out-Pair d).key)
    → two ≡ one ++ expr_code g q (plain_expr (out-Pair d).value) → r ≡ q + expr_size (plain_expr (out-Pair d).value)
    → next ≡ two ++ put g (plain AddPair) [] → s ≡ r + 1
    → now ++ pairs_code g p (plain_pairs (drop i ps)) ≡ w → next ++ pairs_code g s (plain_pairs (drop (i + 1) ps)) ≡ w
pairs_added g p q r s ps i d now one two next w lt is first at_first second at_second third at_third h =
    let rest = drop (i + 1) ps in
    let k = plain_expr (out-Pair d).key in
    let v = plain_expr (out-Pair d).value in
    let split : pairs_code g p (plain_pairs (drop i ps)) ≡ expr_code g p k ++ (expr_code g q v ++ put g (plain AddPair) (pairs_code g s (plain_pairs rest))) =
    ap (λ ds. pairs_code g p (plain_pairs ds)) (the_drop ps i d lt is) ∙ ap (pairs_code g p) (pair_first d rest)
    ∙ ap (λ n. expr_code g p k ++ (expr_code g n v ++ put g (plain AddPair) (pairs_code g (n + expr_size v + 1) (plain_pairs rest)))) (sym at_first)
    ∙ ap (λ n. expr_code g p k ++ (expr_code g q v ++ put g (plain AddPair) (pairs_code g (n + 1) (plain_pairs rest)))) (sym at_second)
    ∙ ap (λ n. expr_code g p k ++ (expr_code g q v ++ put g (plain AddPair) (pairs_code g n (plain_pairs rest)))) (sym at_third) in
    a_turn two next w (put g (plain AddPair) []) (pairs_code g s (plain_pairs rest)) (put g (plain AddPair) (pairs_code g s (plain_pairs rest))) third refl
    (ap (λ cs. cs ++ put g (plain AddPair) (pairs_code g s (plain_pairs rest))) second ∙ append_assoc one (expr_code g q v) (put g (plain AddPair) (pairs_code g s (plain_pairs rest)))
    ∙ (ap (λ cs. cs ++ (expr_code g q v ++ put g (plain AddPair) (pairs_code g s (plain_pairs rest)))) first ∙ append_assoc now (expr_code g p k) (expr_code g q v ++ put g (plain AddPair) (pairs_code g s (plain_pairs rest)))
    ∙ (ap (λ cs. now ++ cs) (sym split) ∙ h)))
