-- What is shown of an expression in memory, by its parts as the code holds them.
--     name_shown .. cond_shown        an expression
--     pair_first                      the first of several pairs
use Rattle.std.specs.Prelude.{Box}
use Rattle.std.proofs.Common.{◌≡◌, List, ◌∷◌, Bool, ℤ, sym, ap, ◌∙◌}
use Rattle.std.specs.Global.{Global, Vec}
use Rattle.py_operator.specs.declared.operator.BinOp.{BinOp}
use Rattle.py_syntax.specs.declared.expr.Sign.{Sign}
use Rattle.py_syntax.specs.declared.expr.Expr.{Expr as Node}
use Rattle.py_syntax.specs.declared.expr.Expr as node
use Rattle.py_syntax.specs.declared.expr.Expr.TheVariants as variant
use Rattle.py_syntax.specs.declared.expr.Pair.{Pair, out-Pair}
use Rattle.py_syntax.specs.declared.expr.Pair as pairs_
use Rattle.py_syntax.specs.declared.expr.Link.{Link}
use Rattle.py_syntax.specs.declared.expr.Fragment.{Fragment}
use Rattle.py_syntax.specs.Tree.{Text, name, int, str, fstr, none, bool, tuple, list, dict, paren, not', and, or, unary, binary, compare, cond, pair}
use Rattle.py_syntax.specs.View.{plain_expr, plain_exprs, plain_pairs, plain_links, plain_fragments}

-- ---- forms by the parts that memory holds

str_is : (xs : Vec Text) → plain_expr (variant.Str xs) ≡ str xs.items
str_is xs = search node.the_lemmas

fstr_is : (fs : Vec Fragment) → plain_expr (variant.FStr fs) ≡ fstr (plain_fragments fs.items)
fstr_is fs = search node.the_lemmas

tuple_is : (es : Vec Node) (c : Bool) → plain_expr (variant.Tuple es c) ≡ tuple (plain_exprs es.items) c
tuple_is es c = search node.the_lemmas

list_is : (es : Vec Node) (c : Bool) → plain_expr (variant.List es c) ≡ list (plain_exprs es.items) c
list_is es c = search node.the_lemmas

dict_is : (ps : Vec Pair) (c : Bool) → plain_expr (variant.Dict ps c) ≡ dict (plain_pairs ps.items) c
dict_is ps c = search node.the_lemmas

paren_is : (a : Box Node Global) → plain_expr (variant.Paren a) ≡ paren (plain_expr a.value)
paren_is a = search node.the_lemmas

not_is : (a : Box Node Global) → plain_expr (variant.Not a) ≡ not' (plain_expr a.value)
not_is a = search node.the_lemmas

and_is : (a b : Box Node Global) → plain_expr (variant.And a b) ≡ and (plain_expr a.value) (plain_expr b.value)
and_is a b = search node.the_lemmas

or_is : (a b : Box Node Global) → plain_expr (variant.Or a b) ≡ or (plain_expr a.value) (plain_expr b.value)
or_is a b = search node.the_lemmas

unary_is : (s : Sign) (a : Box Node Global) → plain_expr (variant.Unary s a) ≡ unary s (plain_expr a.value)
unary_is s a = search node.the_lemmas

binary_is : (op : BinOp) (a b : Box Node Global) → plain_expr (variant.Binary op a b) ≡ binary op (plain_expr a.value) (plain_expr b.value)
binary_is op a b = search node.the_lemmas

compare_is : (a : Box Node Global) (ls : Vec Link) → plain_expr (variant.Compare a ls) ≡ compare (plain_expr a.value) (plain_links ls.items)
compare_is a ls = search node.the_lemmas

cond_is : (b t o : Box Node Global) → plain_expr (variant.Cond b t o) ≡ cond (plain_expr b.value) (plain_expr t.value) (plain_expr o.value)
cond_is b t o = search node.the_lemmas

-- ---- forms without parts of their own

pub name_shown : (e : Node) (x : Text) → e ≡ variant.Name x → plain_expr e ≡ name x
name_shown e x is = ap plain_expr is ∙ search node.the_lemmas

pub int_shown : (e : Node) (n : ℤ) → e ≡ variant.Int n → plain_expr e ≡ int n
int_shown e n is = ap plain_expr is ∙ search node.the_lemmas

pub str_shown : (e : Node) (xs : Vec Text) (ys : List Text) → e ≡ variant.Str xs → ys ≡ xs.items → plain_expr e ≡ str ys
str_shown e xs ys is same = ap plain_expr is ∙ str_is xs ∙ ap str (sym same)

pub none_shown : (e : Node) → e ≡ variant.None → plain_expr e ≡ none
none_shown e is = ap plain_expr is ∙ search node.the_lemmas

pub bool_shown : (e : Node) (b : Bool) → e ≡ variant.Bool b → plain_expr e ≡ bool b
bool_shown e b is = ap plain_expr is ∙ search node.the_lemmas

-- ---- forms with parts

pub fstr_shown : (e : Node) (fs : Vec Fragment) (xs : List Fragment) → e ≡ variant.FStr fs → xs ≡ fs.items → plain_expr e ≡ fstr (plain_fragments xs)
fstr_shown e fs xs is same = ap plain_expr is ∙ fstr_is fs ∙ ap (λ ys. fstr (plain_fragments ys)) (sym same)

pub tuple_shown : (e : Node) (es : Vec Node) (c : Bool) (xs : List Node) → e ≡ variant.Tuple es c → xs ≡ es.items → plain_expr e ≡ tuple (plain_exprs xs) c
tuple_shown e es c xs is same = ap plain_expr is ∙ tuple_is es c ∙ ap (λ ys. tuple (plain_exprs ys) c) (sym same)

pub list_shown : (e : Node) (es : Vec Node) (c : Bool) (xs : List Node) → e ≡ variant.List es c → xs ≡ es.items → plain_expr e ≡ list (plain_exprs xs) c
list_shown e es c xs is same = ap plain_expr is ∙ list_is es c ∙ ap (λ ys. list (plain_exprs ys) c) (sym same)

pub dict_shown : (e : Node) (ps : Vec Pair) (c : Bool) (xs : List Pair) → e ≡ variant.Dict ps c → xs ≡ ps.items → plain_expr e ≡ dict (plain_pairs xs) c
dict_shown e ps c xs is same = ap plain_expr is ∙ dict_is ps c ∙ ap (λ ys. dict (plain_pairs ys) c) (sym same)

pub paren_shown : (e : Node) (a : Box Node Global) (x : Node) → e ≡ variant.Paren a → x ≡ a.value → plain_expr e ≡ paren (plain_expr x)
paren_shown e a x is same = ap plain_expr is ∙ paren_is a ∙ ap (λ n. paren (plain_expr n)) (sym same)

pub not_shown : (e : Node) (a : Box Node Global) (x : Node) → e ≡ variant.Not a → x ≡ a.value → plain_expr e ≡ not' (plain_expr x)
not_shown e a x is same = ap plain_expr is ∙ not_is a ∙ ap (λ n. not' (plain_expr n)) (sym same)

pub and_shown : (e : Node) (a b : Box Node Global) (x y : Node) → e ≡ variant.And a b → x ≡ a.value → y ≡ b.value → plain_expr e ≡ and (plain_expr x) (plain_expr y)
and_shown e a b x y is first second =
    ap plain_expr is ∙ and_is a b ∙ ap (λ n. and (plain_expr n) (plain_expr b.value)) (sym first) ∙ ap (λ n. and (plain_expr x) (plain_expr n)) (sym second)

pub or_shown : (e : Node) (a b : Box Node Global) (x y : Node) → e ≡ variant.Or a b → x ≡ a.value → y ≡ b.value → plain_expr e ≡ or (plain_expr x) (plain_expr y)
or_shown e a b x y is first second =
    ap plain_expr is ∙ or_is a b ∙ ap (λ n. or (plain_expr n) (plain_expr b.value)) (sym first) ∙ ap (λ n. or (plain_expr x) (plain_expr n)) (sym second)

pub unary_shown : (e : Node) (s : Sign) (a : Box Node Global) (x : Node) → e ≡ variant.Unary s a → x ≡ a.value → plain_expr e ≡ unary s (plain_expr x)
unary_shown e s a x is same = ap plain_expr is ∙ unary_is s a ∙ ap (λ n. unary s (plain_expr n)) (sym same)

pub binary_shown : (e : Node) (op : BinOp) (a b : Box Node Global) (x y : Node) → e ≡ variant.Binary op a b → x ≡ a.value → y ≡ b.value → plain_expr e ≡ binary op (plain_expr x) (plain_expr y)
binary_shown e op a b x y is first second =
    ap plain_expr is ∙ binary_is op a b ∙ ap (λ n. binary op (plain_expr n) (plain_expr b.value)) (sym first) ∙ ap (λ n. binary op (plain_expr x) (plain_expr n)) (sym second)

pub compare_shown : (e : Node) (a : Box Node Global) (ls : Vec Link) (x : Node) (ys : List Link) → e ≡ variant.Compare a ls → x ≡ a.value → ys ≡ ls.items → plain_expr e ≡ compare (plain_expr x) (plain_links ys)
compare_shown e a ls x ys is first rest =
    ap plain_expr is ∙ compare_is a ls ∙ ap (λ n. compare (plain_expr n) (plain_links ls.items)) (sym first) ∙ ap (λ ks. compare (plain_expr x) (plain_links ks)) (sym rest)

pub cond_shown : (e : Node) (b t o : Box Node Global) (x y z : Node) → e ≡ variant.Cond b t o → x ≡ b.value → y ≡ t.value → z ≡ o.value → plain_expr e ≡ cond (plain_expr x) (plain_expr y) (plain_expr z)
cond_shown e b t o x y z is first second third =
    ap plain_expr is ∙ cond_is b t o
    ∙ ap (λ n. cond (plain_expr n) (plain_expr t.value) (plain_expr o.value)) (sym first)
    ∙ ap (λ n. cond (plain_expr x) (plain_expr n) (plain_expr o.value)) (sym second)
    ∙ ap (λ n. cond (plain_expr x) (plain_expr y) (plain_expr n)) (sym third)

-- ---- the first of several pairs

pub pair_first : (p : Pair) (ps : List Pair) → plain_pairs (p ∷ ps) ≡ pair (plain_expr (out-Pair p).key) (plain_expr (out-Pair p).value) (plain_pairs ps)
pair_first p ps = search pairs_.the_lemmas
