-- Each form of an expression, by its parts as the code holds them.
use Rattle.std.specs.Prelude.{Box, ℤ}
use Rattle.std.specs.Global.{Global}
use Rattle.std.proofs.Common.{◌≡◌, List, Bool, Option, Some, None, Vec, sym, ap, ◌∙◌}
use Rattle.py_operator.specs.declared.operator.BinOp.{BinOp}
use Rattle.py_syntax.specs.declared.expr.Expr.{Expr as Node}
use Rattle.py_syntax.specs.declared.expr.Expr as node
use Rattle.py_syntax.specs.declared.expr.Expr.TheVariants as variant
use Rattle.py_syntax.specs.declared.expr.Sign.{Sign}
use Rattle.py_syntax.specs.declared.expr.Pair.{Pair}
use Rattle.py_syntax.specs.declared.expr.Link.{Link}
use Rattle.py_syntax.specs.declared.expr.Fragment.{Fragment}
use Rattle.py_syntax.specs.Tree.{Text, name, int, str, fstr, none, bool, tuple, list, dict, paren, not', and, or, unary, binary, compare, cond, call, index, slice, attr}
use Rattle.py_syntax.specs.View.{plain_expr, plain_exprs, plain_pairs, plain_links, plain_fragments}
use Rattle.cov_places.specs.Bounds.{plain_bound}

plain-name : (x : Text) → plain_expr (variant.Name x) ≡ name x
plain-name x = search node.the_lemmas

pub name-is : (e : Node) (x : Text) → e ≡ variant.Name x → plain_expr e ≡ name x
name-is e x is = ap plain_expr is ∙ plain-name x

plain-str : (ps : Vec Text Global) → plain_expr (variant.Str ps) ≡ str ps.items
plain-str ps = search node.the_lemmas

pub str-is : (e : Node) (ps : Vec Text Global) (xs : List Text) → e ≡ variant.Str ps → xs ≡ ps.items → plain_expr e ≡ str xs
str-is e ps xs is p = ap plain_expr is ∙ plain-str ps ∙ ap str (sym p)

pub plain-none : plain_expr variant.None ≡ none
plain-none = search node.the_lemmas

pub none-is : (e : Node) → e ≡ variant.None → plain_expr e ≡ none
none-is e is = ap plain_expr is ∙ plain-none

pub plain-int : (n : ℤ) → plain_expr (variant.Int n) ≡ int n
plain-int n = search node.the_lemmas

pub int-is : (e : Node) (n : ℤ) → e ≡ variant.Int n → plain_expr e ≡ int n
int-is e n is = ap plain_expr is ∙ plain-int n

pub plain-bool : (b : Bool) → plain_expr (variant.Bool b) ≡ bool b
plain-bool b = search node.the_lemmas

pub bool-is : (e : Node) (b : Bool) → e ≡ variant.Bool b → plain_expr e ≡ bool b
bool-is e b is = ap plain_expr is ∙ plain-bool b

plain-fstr : (fs : Vec Fragment Global) → plain_expr (variant.FStr fs) ≡ fstr (plain_fragments fs.items)
plain-fstr fs = search node.the_lemmas

pub fstr-is : (e : Node) (fs : Vec Fragment Global) (d_fs : List Fragment) → e ≡ variant.FStr fs → d_fs ≡ fs.items → plain_expr e ≡ fstr (plain_fragments d_fs)
fstr-is e fs d_fs is e_fs = ap plain_expr is ∙ plain-fstr fs ∙ ap (λ (z : List Fragment). fstr (plain_fragments z)) (sym e_fs)

plain-tuple : (es : Vec Node Global) (c : Bool) → plain_expr (variant.Tuple es c) ≡ tuple (plain_exprs es.items) c
plain-tuple es c = search node.the_lemmas

pub tuple-is : (e : Node) (es : Vec Node Global) (c : Bool) (d_es : List Node) → e ≡ variant.Tuple es c → d_es ≡ es.items → plain_expr e ≡ tuple (plain_exprs d_es) c
tuple-is e es c d_es is e_es = ap plain_expr is ∙ plain-tuple es c ∙ ap (λ (z : List Node). tuple (plain_exprs z) c) (sym e_es)

plain-list : (es : Vec Node Global) (c : Bool) → plain_expr (variant.List es c) ≡ list (plain_exprs es.items) c
plain-list es c = search node.the_lemmas

pub list-is : (e : Node) (es : Vec Node Global) (c : Bool) (d_es : List Node) → e ≡ variant.List es c → d_es ≡ es.items → plain_expr e ≡ list (plain_exprs d_es) c
list-is e es c d_es is e_es = ap plain_expr is ∙ plain-list es c ∙ ap (λ (z : List Node). list (plain_exprs z) c) (sym e_es)

plain-dict : (ps : Vec Pair Global) (c : Bool) → plain_expr (variant.Dict ps c) ≡ dict (plain_pairs ps.items) c
plain-dict ps c = search node.the_lemmas

pub dict-is : (e : Node) (ps : Vec Pair Global) (c : Bool) (d_ps : List Pair) → e ≡ variant.Dict ps c → d_ps ≡ ps.items → plain_expr e ≡ dict (plain_pairs d_ps) c
dict-is e ps c d_ps is e_ps = ap plain_expr is ∙ plain-dict ps c ∙ ap (λ (z : List Pair). dict (plain_pairs z) c) (sym e_ps)

plain-paren : (a : Box Node Global) → plain_expr (variant.Paren a) ≡ paren (plain_expr a.value)
plain-paren a = search node.the_lemmas

pub paren-is : (e : Node) (a : Box Node Global) (d_a : Node) → e ≡ variant.Paren a → d_a ≡ a.value → plain_expr e ≡ paren (plain_expr d_a)
paren-is e a d_a is e_a = ap plain_expr is ∙ plain-paren a ∙ ap (λ (z : Node). paren (plain_expr z)) (sym e_a)

plain-not : (a : Box Node Global) → plain_expr (variant.Not a) ≡ not' (plain_expr a.value)
plain-not a = search node.the_lemmas

pub not-is : (e : Node) (a : Box Node Global) (d_a : Node) → e ≡ variant.Not a → d_a ≡ a.value → plain_expr e ≡ not' (plain_expr d_a)
not-is e a d_a is e_a = ap plain_expr is ∙ plain-not a ∙ ap (λ (z : Node). not' (plain_expr z)) (sym e_a)

plain-and : (a : Box Node Global) (b : Box Node Global) → plain_expr (variant.And a b) ≡ and (plain_expr a.value) (plain_expr b.value)
plain-and a b = search node.the_lemmas

pub and-is : (e : Node) (a : Box Node Global) (b : Box Node Global) (d_a : Node) (d_b : Node) → e ≡ variant.And a b → d_a ≡ a.value → d_b ≡ b.value → plain_expr e ≡ and (plain_expr d_a) (plain_expr d_b)
and-is e a b d_a d_b is e_a e_b = ap plain_expr is ∙ plain-and a b ∙ ap (λ (z : Node). and (plain_expr z) (plain_expr b.value)) (sym e_a) ∙ ap (λ (z : Node). and (plain_expr d_a) (plain_expr z)) (sym e_b)

plain-or : (a : Box Node Global) (b : Box Node Global) → plain_expr (variant.Or a b) ≡ or (plain_expr a.value) (plain_expr b.value)
plain-or a b = search node.the_lemmas

pub or-is : (e : Node) (a : Box Node Global) (b : Box Node Global) (d_a : Node) (d_b : Node) → e ≡ variant.Or a b → d_a ≡ a.value → d_b ≡ b.value → plain_expr e ≡ or (plain_expr d_a) (plain_expr d_b)
or-is e a b d_a d_b is e_a e_b = ap plain_expr is ∙ plain-or a b ∙ ap (λ (z : Node). or (plain_expr z) (plain_expr b.value)) (sym e_a) ∙ ap (λ (z : Node). or (plain_expr d_a) (plain_expr z)) (sym e_b)

plain-unary : (g : Sign) (a : Box Node Global) → plain_expr (variant.Unary g a) ≡ unary g (plain_expr a.value)
plain-unary g a = search node.the_lemmas

pub unary-is : (e : Node) (g : Sign) (a : Box Node Global) (d_a : Node) → e ≡ variant.Unary g a → d_a ≡ a.value → plain_expr e ≡ unary g (plain_expr d_a)
unary-is e g a d_a is e_a = ap plain_expr is ∙ plain-unary g a ∙ ap (λ (z : Node). unary g (plain_expr z)) (sym e_a)

plain-binary : (op : BinOp) (a : Box Node Global) (b : Box Node Global) → plain_expr (variant.Binary op a b) ≡ binary op (plain_expr a.value) (plain_expr b.value)
plain-binary op a b = search node.the_lemmas

pub binary-is : (e : Node) (op : BinOp) (a : Box Node Global) (b : Box Node Global) (d_a : Node) (d_b : Node) → e ≡ variant.Binary op a b → d_a ≡ a.value → d_b ≡ b.value → plain_expr e ≡ binary op (plain_expr d_a) (plain_expr d_b)
binary-is e op a b d_a d_b is e_a e_b = ap plain_expr is ∙ plain-binary op a b ∙ ap (λ (z : Node). binary op (plain_expr z) (plain_expr b.value)) (sym e_a) ∙ ap (λ (z : Node). binary op (plain_expr d_a) (plain_expr z)) (sym e_b)

plain-compare : (a : Box Node Global) (ls : Vec Link Global) → plain_expr (variant.Compare a ls) ≡ compare (plain_expr a.value) (plain_links ls.items)
plain-compare a ls = search node.the_lemmas

pub compare-is : (e : Node) (a : Box Node Global) (ls : Vec Link Global) (d_a : Node) (d_ls : List Link) → e ≡ variant.Compare a ls → d_a ≡ a.value → d_ls ≡ ls.items → plain_expr e ≡ compare (plain_expr d_a) (plain_links d_ls)
compare-is e a ls d_a d_ls is e_a e_ls = ap plain_expr is ∙ plain-compare a ls ∙ ap (λ (z : Node). compare (plain_expr z) (plain_links ls.items)) (sym e_a) ∙ ap (λ (z : List Link). compare (plain_expr d_a) (plain_links z)) (sym e_ls)

plain-cond : (a : Box Node Global) (b : Box Node Global) (c : Box Node Global) → plain_expr (variant.Cond a b c) ≡ cond (plain_expr a.value) (plain_expr b.value) (plain_expr c.value)
plain-cond a b c = search node.the_lemmas

pub cond-is : (e : Node) (a : Box Node Global) (b : Box Node Global) (c : Box Node Global) (d_a : Node) (d_b : Node) (d_c : Node) → e ≡ variant.Cond a b c → d_a ≡ a.value → d_b ≡ b.value → d_c ≡ c.value → plain_expr e ≡ cond (plain_expr d_a) (plain_expr d_b) (plain_expr d_c)
cond-is e a b c d_a d_b d_c is e_a e_b e_c = ap plain_expr is ∙ plain-cond a b c ∙ ap (λ (z : Node). cond (plain_expr z) (plain_expr b.value) (plain_expr c.value)) (sym e_a) ∙ ap (λ (z : Node). cond (plain_expr d_a) (plain_expr z) (plain_expr c.value)) (sym e_b) ∙ ap (λ (z : Node). cond (plain_expr d_a) (plain_expr d_b) (plain_expr z)) (sym e_c)

plain-call : (a : Box Node Global) (es : Vec Node Global) (c : Bool) → plain_expr (variant.Call a es c) ≡ call (plain_expr a.value) (plain_exprs es.items) c
plain-call a es c = search node.the_lemmas

pub call-is : (e : Node) (a : Box Node Global) (es : Vec Node Global) (c : Bool) (d_a : Node) (d_es : List Node) → e ≡ variant.Call a es c → d_a ≡ a.value → d_es ≡ es.items → plain_expr e ≡ call (plain_expr d_a) (plain_exprs d_es) c
call-is e a es c d_a d_es is e_a e_es = ap plain_expr is ∙ plain-call a es c ∙ ap (λ (z : Node). call (plain_expr z) (plain_exprs es.items) c) (sym e_a) ∙ ap (λ (z : List Node). call (plain_expr d_a) (plain_exprs z) c) (sym e_es)

plain-index : (a : Box Node Global) (b : Box Node Global) → plain_expr (variant.Index a b) ≡ index (plain_expr a.value) (plain_expr b.value)
plain-index a b = search node.the_lemmas

pub index-is : (e : Node) (a : Box Node Global) (b : Box Node Global) (d_a : Node) (d_b : Node) → e ≡ variant.Index a b → d_a ≡ a.value → d_b ≡ b.value → plain_expr e ≡ index (plain_expr d_a) (plain_expr d_b)
index-is e a b d_a d_b is e_a e_b = ap plain_expr is ∙ plain-index a b ∙ ap (λ (z : Node). index (plain_expr z) (plain_expr b.value)) (sym e_a) ∙ ap (λ (z : Node). index (plain_expr d_a) (plain_expr z)) (sym e_b)

plain-slice : (a : Box Node Global) (f : Option (Box Node Global)) (g : Option (Box Node Global)) → plain_expr (variant.Slice a f g) ≡ slice (plain_expr a.value) (plain_bound f) (plain_bound g)
plain-slice a None None = search node.the_lemmas
plain-slice a None (Some g) = search node.the_lemmas
plain-slice a (Some f) None = search node.the_lemmas
plain-slice a (Some f) (Some g) = search node.the_lemmas

pub slice-is : (e : Node) (a : Box Node Global) (f : Option (Box Node Global)) (g : Option (Box Node Global)) (d_a : Node) → e ≡ variant.Slice a f g → d_a ≡ a.value → plain_expr e ≡ slice (plain_expr d_a) (plain_bound f) (plain_bound g)
slice-is e a f g d_a is e_a = ap plain_expr is ∙ plain-slice a f g ∙ ap (λ (z : Node). slice (plain_expr z) (plain_bound f) (plain_bound g)) (sym e_a)

plain-attr : (a : Box Node Global) (x : Text) → plain_expr (variant.Attr a x) ≡ attr (plain_expr a.value) x
plain-attr a x = search node.the_lemmas

pub attr-is : (e : Node) (a : Box Node Global) (x : Text) (d_a : Node) → e ≡ variant.Attr a x → d_a ≡ a.value → plain_expr e ≡ attr (plain_expr d_a) x
attr-is e a x d_a is e_a = ap plain_expr is ∙ plain-attr a x ∙ ap (λ (z : Node). attr (plain_expr z) x) (sym e_a)
