-- The plain view of each form of an expression and a pattern, by its parts as the code holds them.
use Rattle.std.specs.Prelude.{Box, ℤ}
use Rattle.std.specs.Global.{Global}
use Rattle.std.proofs.Common.{◌≡◌, List, ◌∷◌, Bool, Option, Some, None, Vec, sym, ap, ◌∙◌}
use Rattle.std.specs.Option.{option_map}
use Rattle.py_operator.specs.declared.operator.BinOp.{BinOp}
use Rattle.py_syntax.specs.declared.expr.Expr.{Expr as Node}
use Rattle.py_syntax.specs.declared.expr.Expr as node
use Rattle.py_syntax.specs.declared.expr.Expr.TheVariants as variant
use Rattle.py_syntax.specs.declared.expr.Sign.{Sign}
use Rattle.py_syntax.specs.declared.expr.Pair.{Pair, out-Pair}
use Rattle.py_syntax.specs.declared.expr.Pair as pairs_
use Rattle.py_syntax.specs.declared.expr.Link.{Link, out-Link}
use Rattle.py_syntax.specs.declared.expr.Link as links_
use Rattle.py_syntax.specs.declared.expr.Fragment.{Fragment}
use Rattle.py_syntax.specs.declared.expr.Fragment as fragments_
use Rattle.py_syntax.specs.declared.expr.FormatPart.{FormatPart}
use Rattle.py_syntax.specs.declared.expr.FormatPart as parts_
use Rattle.py_syntax.specs.declared.pattern.Pattern.{Pattern as PatternNode}
use Rattle.py_syntax.specs.declared.pattern.Pattern as pattern_
use Rattle.py_syntax.specs.declared.pattern.Brackets.{Brackets}
use Rattle.py_syntax.specs.declared.pattern.Constant.{Constant as ConstantNode}
use Rattle.py_syntax.specs.Tree.{Text, name, int, str, fstr, none, bool, tuple, list, dict, paren, not', and, or, unary, binary, compare, cond, call, index, slice, attr, pair, link, plain, format, text, field, literal, capture, wild, member, sequence, p_or, p_as, p_paren}
use Rattle.py_syntax.specs.View.{plain_expr, plain_exprs, plain_pairs, plain_links, plain_fragments, plain_parts, opt_of, plain_constant, plain_pattern, plain_patterns}

-- ---- expressions

plain-name : (a0 : Text) → plain_expr (variant.Name a0) ≡ name a0
plain-name a0 = search node.the_lemmas

pub name-is : (e : Node) (a0 : Text) → e ≡ variant.Name a0 → plain_expr e ≡ name a0
name-is e a0 is = ap plain_expr is ∙ plain-name a0

plain-int : (a0 : ℤ) → plain_expr (variant.Int a0) ≡ int a0
plain-int a0 = search node.the_lemmas

pub int-is : (e : Node) (a0 : ℤ) → e ≡ variant.Int a0 → plain_expr e ≡ int a0
int-is e a0 is = ap plain_expr is ∙ plain-int a0

plain-str : (a0 : Vec Text Global) → plain_expr (variant.Str a0) ≡ str a0.items
plain-str a0 = search node.the_lemmas

pub str-is : (e : Node) (a0 : Vec Text Global) (x0 : List Text) → e ≡ variant.Str a0 → x0 ≡ a0.items → plain_expr e ≡ str x0
str-is e a0 x0 is p0 = ap plain_expr is ∙ plain-str a0 ∙ ap (λ (z : List Text). str z) (sym p0)

plain-fstr : (a0 : Vec Fragment Global) → plain_expr (variant.FStr a0) ≡ fstr (plain_fragments a0.items)
plain-fstr a0 = search node.the_lemmas

pub fstr-is : (e : Node) (a0 : Vec Fragment Global) (x0 : List Fragment) → e ≡ variant.FStr a0 → x0 ≡ a0.items → plain_expr e ≡ fstr (plain_fragments x0)
fstr-is e a0 x0 is p0 = ap plain_expr is ∙ plain-fstr a0 ∙ ap (λ (z : List Fragment). fstr (plain_fragments z)) (sym p0)

plain-none : plain_expr variant.None ≡ none
plain-none = search node.the_lemmas

pub none-is : (e : Node) → e ≡ variant.None → plain_expr e ≡ none
none-is e is = ap plain_expr is ∙ plain-none

plain-bool : (a0 : Bool) → plain_expr (variant.Bool a0) ≡ bool a0
plain-bool a0 = search node.the_lemmas

pub bool-is : (e : Node) (a0 : Bool) → e ≡ variant.Bool a0 → plain_expr e ≡ bool a0
bool-is e a0 is = ap plain_expr is ∙ plain-bool a0

plain-tuple : (a0 : Vec Node Global) (a1 : Bool) → plain_expr (variant.Tuple a0 a1) ≡ tuple (plain_exprs a0.items) a1
plain-tuple a0 a1 = search node.the_lemmas

pub tuple-is : (e : Node) (a0 : Vec Node Global) (a1 : Bool) (x0 : List Node) → e ≡ variant.Tuple a0 a1 → x0 ≡ a0.items → plain_expr e ≡ tuple (plain_exprs x0) a1
tuple-is e a0 a1 x0 is p0 = ap plain_expr is ∙ plain-tuple a0 a1 ∙ ap (λ (z : List Node). tuple (plain_exprs z) a1) (sym p0)

plain-list : (a0 : Vec Node Global) (a1 : Bool) → plain_expr (variant.List a0 a1) ≡ list (plain_exprs a0.items) a1
plain-list a0 a1 = search node.the_lemmas

pub list-is : (e : Node) (a0 : Vec Node Global) (a1 : Bool) (x0 : List Node) → e ≡ variant.List a0 a1 → x0 ≡ a0.items → plain_expr e ≡ list (plain_exprs x0) a1
list-is e a0 a1 x0 is p0 = ap plain_expr is ∙ plain-list a0 a1 ∙ ap (λ (z : List Node). list (plain_exprs z) a1) (sym p0)

plain-dict : (a0 : Vec Pair Global) (a1 : Bool) → plain_expr (variant.Dict a0 a1) ≡ dict (plain_pairs a0.items) a1
plain-dict a0 a1 = search node.the_lemmas

pub dict-is : (e : Node) (a0 : Vec Pair Global) (a1 : Bool) (x0 : List Pair) → e ≡ variant.Dict a0 a1 → x0 ≡ a0.items → plain_expr e ≡ dict (plain_pairs x0) a1
dict-is e a0 a1 x0 is p0 = ap plain_expr is ∙ plain-dict a0 a1 ∙ ap (λ (z : List Pair). dict (plain_pairs z) a1) (sym p0)

plain-paren : (a0 : Box Node Global) → plain_expr (variant.Paren a0) ≡ paren (plain_expr a0.value)
plain-paren a0 = search node.the_lemmas

pub paren-is : (e : Node) (a0 : Box Node Global) (x0 : Node) → e ≡ variant.Paren a0 → x0 ≡ a0.value → plain_expr e ≡ paren (plain_expr x0)
paren-is e a0 x0 is p0 = ap plain_expr is ∙ plain-paren a0 ∙ ap (λ (z : Node). paren (plain_expr z)) (sym p0)

plain-not : (a0 : Box Node Global) → plain_expr (variant.Not a0) ≡ not' (plain_expr a0.value)
plain-not a0 = search node.the_lemmas

pub not-is : (e : Node) (a0 : Box Node Global) (x0 : Node) → e ≡ variant.Not a0 → x0 ≡ a0.value → plain_expr e ≡ not' (plain_expr x0)
not-is e a0 x0 is p0 = ap plain_expr is ∙ plain-not a0 ∙ ap (λ (z : Node). not' (plain_expr z)) (sym p0)

plain-and : (a0 : Box Node Global) (a1 : Box Node Global) → plain_expr (variant.And a0 a1) ≡ and (plain_expr a0.value) (plain_expr a1.value)
plain-and a0 a1 = search node.the_lemmas

pub and-is : (e : Node) (a0 : Box Node Global) (a1 : Box Node Global) (x0 : Node) (x1 : Node) → e ≡ variant.And a0 a1 → x0 ≡ a0.value → x1 ≡ a1.value → plain_expr e ≡ and (plain_expr x0) (plain_expr x1)
and-is e a0 a1 x0 x1 is p0 p1 = ap plain_expr is ∙ plain-and a0 a1 ∙ ap (λ (z : Node). and (plain_expr z) (plain_expr a1.value)) (sym p0) ∙ ap (λ (z : Node). and (plain_expr x0) (plain_expr z)) (sym p1)

plain-or : (a0 : Box Node Global) (a1 : Box Node Global) → plain_expr (variant.Or a0 a1) ≡ or (plain_expr a0.value) (plain_expr a1.value)
plain-or a0 a1 = search node.the_lemmas

pub or-is : (e : Node) (a0 : Box Node Global) (a1 : Box Node Global) (x0 : Node) (x1 : Node) → e ≡ variant.Or a0 a1 → x0 ≡ a0.value → x1 ≡ a1.value → plain_expr e ≡ or (plain_expr x0) (plain_expr x1)
or-is e a0 a1 x0 x1 is p0 p1 = ap plain_expr is ∙ plain-or a0 a1 ∙ ap (λ (z : Node). or (plain_expr z) (plain_expr a1.value)) (sym p0) ∙ ap (λ (z : Node). or (plain_expr x0) (plain_expr z)) (sym p1)

plain-unary : (a0 : Sign) (a1 : Box Node Global) → plain_expr (variant.Unary a0 a1) ≡ unary a0 (plain_expr a1.value)
plain-unary a0 a1 = search node.the_lemmas

pub unary-is : (e : Node) (a0 : Sign) (a1 : Box Node Global) (x1 : Node) → e ≡ variant.Unary a0 a1 → x1 ≡ a1.value → plain_expr e ≡ unary a0 (plain_expr x1)
unary-is e a0 a1 x1 is p0 = ap plain_expr is ∙ plain-unary a0 a1 ∙ ap (λ (z : Node). unary a0 (plain_expr z)) (sym p0)

plain-binary : (a0 : BinOp) (a1 : Box Node Global) (a2 : Box Node Global) → plain_expr (variant.Binary a0 a1 a2) ≡ binary a0 (plain_expr a1.value) (plain_expr a2.value)
plain-binary a0 a1 a2 = search node.the_lemmas

pub binary-is : (e : Node) (a0 : BinOp) (a1 : Box Node Global) (a2 : Box Node Global) (x1 : Node) (x2 : Node) → e ≡ variant.Binary a0 a1 a2 → x1 ≡ a1.value → x2 ≡ a2.value → plain_expr e ≡ binary a0 (plain_expr x1) (plain_expr x2)
binary-is e a0 a1 a2 x1 x2 is p0 p1 = ap plain_expr is ∙ plain-binary a0 a1 a2 ∙ ap (λ (z : Node). binary a0 (plain_expr z) (plain_expr a2.value)) (sym p0) ∙ ap (λ (z : Node). binary a0 (plain_expr x1) (plain_expr z)) (sym p1)

plain-compare : (a0 : Box Node Global) (a1 : Vec Link Global) → plain_expr (variant.Compare a0 a1) ≡ compare (plain_expr a0.value) (plain_links a1.items)
plain-compare a0 a1 = search node.the_lemmas

pub compare-is : (e : Node) (a0 : Box Node Global) (a1 : Vec Link Global) (x0 : Node) (x1 : List Link) → e ≡ variant.Compare a0 a1 → x0 ≡ a0.value → x1 ≡ a1.items → plain_expr e ≡ compare (plain_expr x0) (plain_links x1)
compare-is e a0 a1 x0 x1 is p0 p1 = ap plain_expr is ∙ plain-compare a0 a1 ∙ ap (λ (z : Node). compare (plain_expr z) (plain_links a1.items)) (sym p0) ∙ ap (λ (z : List Link). compare (plain_expr x0) (plain_links z)) (sym p1)

plain-cond : (a0 : Box Node Global) (a1 : Box Node Global) (a2 : Box Node Global) → plain_expr (variant.Cond a0 a1 a2) ≡ cond (plain_expr a0.value) (plain_expr a1.value) (plain_expr a2.value)
plain-cond a0 a1 a2 = search node.the_lemmas

pub cond-is : (e : Node) (a0 : Box Node Global) (a1 : Box Node Global) (a2 : Box Node Global) (x0 : Node) (x1 : Node) (x2 : Node) → e ≡ variant.Cond a0 a1 a2 → x0 ≡ a0.value → x1 ≡ a1.value → x2 ≡ a2.value → plain_expr e ≡ cond (plain_expr x0) (plain_expr x1) (plain_expr x2)
cond-is e a0 a1 a2 x0 x1 x2 is p0 p1 p2 = ap plain_expr is ∙ plain-cond a0 a1 a2 ∙ ap (λ (z : Node). cond (plain_expr z) (plain_expr a1.value) (plain_expr a2.value)) (sym p0) ∙ ap (λ (z : Node). cond (plain_expr x0) (plain_expr z) (plain_expr a2.value)) (sym p1) ∙ ap (λ (z : Node). cond (plain_expr x0) (plain_expr x1) (plain_expr z)) (sym p2)

plain-call : (a0 : Box Node Global) (a1 : Vec Node Global) (a2 : Bool) → plain_expr (variant.Call a0 a1 a2) ≡ call (plain_expr a0.value) (plain_exprs a1.items) a2
plain-call a0 a1 a2 = search node.the_lemmas

pub call-is : (e : Node) (a0 : Box Node Global) (a1 : Vec Node Global) (a2 : Bool) (x0 : Node) (x1 : List Node) → e ≡ variant.Call a0 a1 a2 → x0 ≡ a0.value → x1 ≡ a1.items → plain_expr e ≡ call (plain_expr x0) (plain_exprs x1) a2
call-is e a0 a1 a2 x0 x1 is p0 p1 = ap plain_expr is ∙ plain-call a0 a1 a2 ∙ ap (λ (z : Node). call (plain_expr z) (plain_exprs a1.items) a2) (sym p0) ∙ ap (λ (z : List Node). call (plain_expr x0) (plain_exprs z) a2) (sym p1)

plain-index : (a0 : Box Node Global) (a1 : Box Node Global) → plain_expr (variant.Index a0 a1) ≡ index (plain_expr a0.value) (plain_expr a1.value)
plain-index a0 a1 = search node.the_lemmas

pub index-is : (e : Node) (a0 : Box Node Global) (a1 : Box Node Global) (x0 : Node) (x1 : Node) → e ≡ variant.Index a0 a1 → x0 ≡ a0.value → x1 ≡ a1.value → plain_expr e ≡ index (plain_expr x0) (plain_expr x1)
index-is e a0 a1 x0 x1 is p0 p1 = ap plain_expr is ∙ plain-index a0 a1 ∙ ap (λ (z : Node). index (plain_expr z) (plain_expr a1.value)) (sym p0) ∙ ap (λ (z : Node). index (plain_expr x0) (plain_expr z)) (sym p1)

plain-attr : (a0 : Box Node Global) (a1 : Text) → plain_expr (variant.Attr a0 a1) ≡ attr (plain_expr a0.value) a1
plain-attr a0 a1 = search node.the_lemmas

pub attr-is : (e : Node) (a0 : Box Node Global) (a1 : Text) (x0 : Node) → e ≡ variant.Attr a0 a1 → x0 ≡ a0.value → plain_expr e ≡ attr (plain_expr x0) a1
attr-is e a0 a1 x0 is p0 = ap plain_expr is ∙ plain-attr a0 a1 ∙ ap (λ (z : Node). attr (plain_expr z) a1) (sym p0)

plain-slice : (a : Box Node Global) (f t : Option (Box Node Global)) → plain_expr (variant.Slice a f t) ≡ slice (plain_expr a.value) (opt_of (option_map (λ b. plain_expr b.value) f)) (opt_of (option_map (λ b. plain_expr b.value) t))
plain-slice a None None = search node.the_lemmas
plain-slice a None (Some t) = search node.the_lemmas
plain-slice a (Some f) None = search node.the_lemmas
plain-slice a (Some f) (Some t) = search node.the_lemmas

pub slice-is : (e : Node) (a : Box Node Global) (f t : Option (Box Node Global)) (x : Node) → e ≡ variant.Slice a f t → x ≡ a.value → plain_expr e ≡ slice (plain_expr x) (opt_of (option_map (λ b. plain_expr b.value) f)) (opt_of (option_map (λ b. plain_expr b.value) t))
slice-is e a f t x is p = ap plain_expr is ∙ plain-slice a f t ∙ ap (λ (z : Node). slice (plain_expr z) (opt_of (option_map (λ b. plain_expr b.value) f)) (opt_of (option_map (λ b. plain_expr b.value) t))) (sym p)

-- ---- what stands in expressions

pub plain-pairs : (p : Pair) (ps : List Pair) → plain_pairs (p ∷ ps) ≡ pair (plain_expr (out-Pair p).key) (plain_expr (out-Pair p).value) (plain_pairs ps)
plain-pairs p ps = search pairs_.the_lemmas

pub plain-links : (l : Link) (ls : List Link) → plain_links (l ∷ ls) ≡ link (out-Link l).op (plain_expr (out-Link l).right) (plain_links ls)
plain-links l ls = search links_.the_lemmas

plain-Plain : (x : Text) (fs : List Fragment) → plain_fragments (fragments_.Plain x ∷ fs) ≡ plain x (plain_fragments fs)
plain-Plain x fs = search fragments_.the_lemmas

pub plain_fragment-is : (f : Fragment) (x : Text) (fs : List Fragment) → f ≡ fragments_.Plain x → plain_fragments (f ∷ fs) ≡ plain x (plain_fragments fs)
plain_fragment-is f x fs is = ap (λ k. plain_fragments (k ∷ fs)) is ∙ plain-Plain x fs

plain-Format : (ps : Vec FormatPart Global) (fs : List Fragment) → plain_fragments (fragments_.Format ps ∷ fs) ≡ format (plain_parts ps.items) (plain_fragments fs)
plain-Format ps fs = search fragments_.the_lemmas

pub format-is : (f : Fragment) (ps : Vec FormatPart Global) (xs : List FormatPart) (fs : List Fragment) → f ≡ fragments_.Format ps → xs ≡ ps.items → plain_fragments (f ∷ fs) ≡ format (plain_parts xs) (plain_fragments fs)
format-is f ps xs fs is p = ap (λ k. plain_fragments (k ∷ fs)) is ∙ plain-Format ps fs ∙ ap (λ (k : List FormatPart). format (plain_parts k) (plain_fragments fs)) (sym p)

plain-Chars : (x : Text) (ps : List FormatPart) → plain_parts (parts_.Chars x ∷ ps) ≡ text x (plain_parts ps)
plain-Chars x ps = search parts_.the_lemmas

pub chars-is : (p : FormatPart) (x : Text) (ps : List FormatPart) → p ≡ parts_.Chars x → plain_parts (p ∷ ps) ≡ text x (plain_parts ps)
chars-is p x ps is = ap (λ k. plain_parts (k ∷ ps)) is ∙ plain-Chars x ps

plain-Field : (e : Node) (ps : List FormatPart) → plain_parts (parts_.Field e ∷ ps) ≡ field (plain_expr e) (plain_parts ps)
plain-Field e ps = search parts_.the_lemmas

pub field-is : (p : FormatPart) (e : Node) (ps : List FormatPart) → p ≡ parts_.Field e → plain_parts (p ∷ ps) ≡ field (plain_expr e) (plain_parts ps)
field-is p e ps is = ap (λ k. plain_parts (k ∷ ps)) is ∙ plain-Field e ps

-- ---- patterns

plain-capture : (a0 : Text) → plain_pattern (pattern_.Capture a0) ≡ capture a0
plain-capture a0 = search pattern_.the_lemmas

pub capture-is : (e : PatternNode) (a0 : Text) → e ≡ pattern_.Capture a0 → plain_pattern e ≡ capture a0
capture-is e a0 is = ap plain_pattern is ∙ plain-capture a0

plain-wild : plain_pattern pattern_.Wild ≡ wild
plain-wild = search pattern_.the_lemmas

pub wild-is : (e : PatternNode) → e ≡ pattern_.Wild → plain_pattern e ≡ wild
wild-is e is = ap plain_pattern is ∙ plain-wild

plain-member : (a0 : Text) (a1 : Text) → plain_pattern (pattern_.Member a0 a1) ≡ member a0 a1
plain-member a0 a1 = search pattern_.the_lemmas

pub member-is : (e : PatternNode) (a0 : Text) (a1 : Text) → e ≡ pattern_.Member a0 a1 → plain_pattern e ≡ member a0 a1
member-is e a0 a1 is = ap plain_pattern is ∙ plain-member a0 a1

plain-sequence : (a0 : Brackets) (a1 : Vec PatternNode Global) (a2 : Bool) → plain_pattern (pattern_.Sequence a0 a1 a2) ≡ sequence a0 (plain_patterns a1.items) a2
plain-sequence a0 a1 a2 = search pattern_.the_lemmas

pub sequence-is : (e : PatternNode) (a0 : Brackets) (a1 : Vec PatternNode Global) (a2 : Bool) (x1 : List PatternNode) → e ≡ pattern_.Sequence a0 a1 a2 → x1 ≡ a1.items → plain_pattern e ≡ sequence a0 (plain_patterns x1) a2
sequence-is e a0 a1 a2 x1 is p0 = ap plain_pattern is ∙ plain-sequence a0 a1 a2 ∙ ap (λ (z : List PatternNode). sequence a0 (plain_patterns z) a2) (sym p0)

plain-p_or : (a0 : Vec PatternNode Global) → plain_pattern (pattern_.Or a0) ≡ p_or (plain_patterns a0.items)
plain-p_or a0 = search pattern_.the_lemmas

pub p_or-is : (e : PatternNode) (a0 : Vec PatternNode Global) (x0 : List PatternNode) → e ≡ pattern_.Or a0 → x0 ≡ a0.items → plain_pattern e ≡ p_or (plain_patterns x0)
p_or-is e a0 x0 is p0 = ap plain_pattern is ∙ plain-p_or a0 ∙ ap (λ (z : List PatternNode). p_or (plain_patterns z)) (sym p0)

plain-p_as : (a0 : Box PatternNode Global) (a1 : Text) → plain_pattern (pattern_.As a0 a1) ≡ p_as (plain_pattern a0.value) a1
plain-p_as a0 a1 = search pattern_.the_lemmas

pub p_as-is : (e : PatternNode) (a0 : Box PatternNode Global) (a1 : Text) (x0 : PatternNode) → e ≡ pattern_.As a0 a1 → x0 ≡ a0.value → plain_pattern e ≡ p_as (plain_pattern x0) a1
p_as-is e a0 a1 x0 is p0 = ap plain_pattern is ∙ plain-p_as a0 a1 ∙ ap (λ (z : PatternNode). p_as (plain_pattern z) a1) (sym p0)

plain-p_paren : (a0 : Box PatternNode Global) → plain_pattern (pattern_.Paren a0) ≡ p_paren (plain_pattern a0.value)
plain-p_paren a0 = search pattern_.the_lemmas

pub p_paren-is : (e : PatternNode) (a0 : Box PatternNode Global) (x0 : PatternNode) → e ≡ pattern_.Paren a0 → x0 ≡ a0.value → plain_pattern e ≡ p_paren (plain_pattern x0)
p_paren-is e a0 x0 is p0 = ap plain_pattern is ∙ plain-p_paren a0 ∙ ap (λ (z : PatternNode). p_paren (plain_pattern z)) (sym p0)

plain-literal : (m : Bool) (c : ConstantNode) → plain_pattern (pattern_.Literal m c) ≡ literal m (plain_constant c)
plain-literal m c = search pattern_.the_lemmas

pub literal-is : (p : PatternNode) (m : Bool) (c : ConstantNode) → p ≡ pattern_.Literal m c → plain_pattern p ≡ literal m (plain_constant c)
literal-is p m c is = ap plain_pattern is ∙ plain-literal m c
