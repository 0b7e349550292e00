-- The code of one form of expression or pattern in memory, by the code of its parts.
use Rattle.std.specs.Prelude.{Box, option_map}
use Rattle.std.proofs.Common.{◌≡◌, ℕ, ◌+◌, List, [], ◌++◌, Bool, Option, Some, None, length, sym, ap, ◌∙◌}
use Rattle.std.specs.Global.{Global, Vec}
use Rattle.py_code.specs.declared.instr.Bounds.{Bounds}
use Rattle.py_code.specs.declared.instr.Instr.TheVariants.{Copy, Sink, Index, Slice, Call, Sequence}
use Rattle.py_syntax.specs.declared.expr.Expr.{Expr as Node}
use Rattle.py_syntax.specs.declared.expr.Expr as node
use Rattle.py_syntax.specs.declared.expr.Expr.TheVariants as variant
use Rattle.py_syntax.specs.declared.pattern.Brackets.{Brackets}
use Rattle.py_syntax.specs.declared.pattern.Pattern.{Pattern as PatternNode}
use Rattle.py_syntax.specs.declared.pattern.Pattern as pattern_node
use Rattle.py_syntax.specs.declared.pattern.Pattern.TheVariants as pattern_variant
use Rattle.py_syntax.specs.Tree.{Text, Expr, call, index, slice, attr, Exprs, OptExpr, p_as, sequence}
use Rattle.py_syntax.specs.View.{plain_expr, plain_exprs, opt_of, plain_pattern, plain_patterns}
use Rattle.py_compile_expr.specs.Callees.{callee_code}
use Rattle.py_compile_expr.specs.Cells.{attribute, plain, Guard, put}
use Rattle.py_compile_expr.specs.Expressions.{bounds, count, expr_size, expr_code, each_size, opt_size, opt_code}
use Rattle.py_compile_expr.specs.Pieces.{row_code}
use Rattle.py_compile_expr.specs.Patterns.{Site, with_waiting, pattern_code, items_code}
use Rattle.py_compile_expr.proofs.Alternatives.{patterns-are}
use Rattle.py_compile_expr.proofs.Calls.{call_size, call_code}

call_is : (f : Box Node Global) (es : Vec Node) (c : Bool) → plain_expr (variant.Call f es c) ≡ call (plain_expr f.value) (plain_exprs es.items) c
call_is f es c = search node.the_lemmas

index_is : (a b : Box Node Global) → plain_expr (variant.Index a b) ≡ index (plain_expr a.value) (plain_expr b.value)
index_is a b = search node.the_lemmas

abbrev pub bound_is : Option (Box Node Global) → OptExpr
bound_is b = opt_of (option_map (λ (x : Box Node Global). plain_expr x.value) b)

slice_is : (a : Box Node Global) (f t : Option (Box Node Global)) → plain_expr (variant.Slice a f t) ≡ slice (plain_expr a.value) (bound_is f) (bound_is t)
slice_is a None None = search node.the_lemmas
slice_is a None (Some t) = search node.the_lemmas
slice_is a (Some f) None = search node.the_lemmas
slice_is a (Some f) (Some t) = search node.the_lemmas

attr_is : (a : Box Node Global) (x : Text) → plain_expr (variant.Attr a x) ≡ attr (plain_expr a.value) x
attr_is a x = search node.the_lemmas

-- ---- what is shown of a node, by its parts as the code holds them

pub call_shown : (e : Node) (f : Box Node Global) (es : Vec Node) (c : Bool) (h : Node) (xs : List Node) → e ≡ variant.Call f es c → h ≡ f.value → xs ≡ es.items → plain_expr e ≡ call (plain_expr h) (plain_exprs xs) c
call_shown e f es c h xs is first rest =
    ap plain_expr is ∙ call_is f es c ∙ ap (λ n. call (plain_expr n) (plain_exprs es.items) c) (sym first) ∙ ap (λ ns. call (plain_expr h) (plain_exprs ns) c) (sym rest)

pub index_shown : (e : Node) (a b : Box Node Global) (x y : Node) → e ≡ variant.Index a b → x ≡ a.value → y ≡ b.value → plain_expr e ≡ index (plain_expr x) (plain_expr y)
index_shown e a b x y is first second =
    ap plain_expr is ∙ index_is a b ∙ ap (λ n. index (plain_expr n) (plain_expr b.value)) (sym first) ∙ ap (λ n. index (plain_expr x) (plain_expr n)) (sym second)

pub slice_shown : (e : Node) (a : Box Node Global) (f t : Option (Box Node Global)) (x : Node) → e ≡ variant.Slice a f t → x ≡ a.value → plain_expr e ≡ slice (plain_expr x) (bound_is f) (bound_is t)
slice_shown e a f t x is first = ap plain_expr is ∙ slice_is a f t ∙ ap (λ n. slice (plain_expr n) (bound_is f) (bound_is t)) (sym first)

pub attr_shown : (e : Node) (a : Box Node Global) (x : Node) (y z : Text) → e ≡ variant.Attr a y → x ≡ a.value → z ≡ y → plain_expr e ≡ attr (plain_expr x) z
attr_shown e a x y z is first same = ap plain_expr is ∙ attr_is a y ∙ ap (λ n. attr (plain_expr n) y) (sym first) ∙ ap (λ t. attr (plain_expr x) t) (sym same)

-- ---- code by the parts

pub call_node-size : (e f : Expr) (es : Exprs) (c : Bool) → e ≡ call f es c → expr_size e ≡ expr_size f + each_size es + 1
call_node-size e f es c is = ap expr_size is ∙ call_size f es c

pub call_node : (g : Option Guard) (p q : ℕ) (e f : Expr) (es : Exprs) (c : Bool) → e ≡ call f es c → q ≡ p + expr_size f → expr_code g p e ≡ callee_code g p f ++ row_code g q es (Call (count es))
call_node g p q e f es c is place = ap (expr_code g p) is ∙ call_code g p f es c ∙ ap (λ n. callee_code g p f ++ row_code g n es (Call (count es))) (sym place)

pub index_node : (g : Option Guard) (p q : ℕ) (e a b : Expr) → e ≡ index a b → q ≡ p + expr_size a → expr_code g p e ≡ expr_code g p a ++ (expr_code g q b ++ put g (plain Index) [])
index_node g p q e a b is place = ap (expr_code g p) is ∙ ap (λ n. expr_code g p a ++ (expr_code g n b ++ put g (plain Index) [])) (sym place)

pub slice_node-size : (e a : Expr) (f t : OptExpr) → e ≡ slice a f t → expr_size e ≡ expr_size a + opt_size f + opt_size t + 1
slice_node-size e a f t is = ap expr_size is

pub slice_node : (g : Option Guard) (p q r : ℕ) (b : Bounds) (e a : Expr) (f t : OptExpr) → e ≡ slice a f t → q ≡ p + expr_size a → r ≡ q + opt_size f → b ≡ bounds f t
    → expr_code g p e ≡ expr_code g p a ++ (opt_code g q f ++ (opt_code g r t ++ put g (plain (Slice b)) []))
slice_node g p q r b e a f t is first second ends =
    ap (expr_code g p) is
    ∙ ap (λ n. expr_code g p a ++ (opt_code g n f ++ (opt_code g (n + opt_size f) t ++ put g (plain (Slice (bounds f t))) []))) (sym first)
    ∙ ap (λ n. expr_code g p a ++ (opt_code g q f ++ (opt_code g n t ++ put g (plain (Slice (bounds f t))) []))) (sym second)
    ∙ ap (λ n. expr_code g p a ++ (opt_code g q f ++ (opt_code g r t ++ put g (plain (Slice n)) []))) (sym ends)

pub attr_node : (g : Option Guard) (p : ℕ) (e a : Expr) (x : Text) → e ≡ attr a x → expr_code g p e ≡ expr_code g p a ++ put g (attribute x) []
attr_node g p e a x is = ap (expr_code g p) is

-- ---- patterns

as_is : (q : Box PatternNode Global) (x : Text) → plain_pattern (pattern_variant.As q x) ≡ p_as (plain_pattern q.value) x
as_is q x = search pattern_node.the_lemmas

sequence_is : (b : Brackets) (qs : Vec PatternNode) (c : Bool) → plain_pattern (pattern_variant.Sequence b qs c) ≡ sequence b (plain_patterns qs.items) c
sequence_is b qs c = search pattern_node.the_lemmas

pub as_node : (s inside : Site) (p q : ℕ) (e : PatternNode) (a : Box PatternNode Global) (x : Text) (d : PatternNode) → e ≡ pattern_variant.As a x → d ≡ a.value → inside ≡ with_waiting 1 s → q ≡ p + 1
    → pattern_code s p (plain_pattern e) ≡ put s.guard (plain (Copy 0)) [] ++ (pattern_code inside q (plain_pattern d) ++ put s.guard (plain (Sink s.waiting)) [])
as_node s inside p q e a x d is same site place =
    ap (λ n. pattern_code s p (plain_pattern n)) is ∙ ap (pattern_code s p) (as_is a x)
    ∙ ap (λ n. put s.guard (plain (Copy 0)) (pattern_code (with_waiting 1 s) (p + 1) (plain_pattern n) ++ put s.guard (plain (Sink s.waiting)) [])) (sym same)
    ∙ ap (λ k. put s.guard (plain (Copy 0)) (pattern_code k (p + 1) (plain_pattern d) ++ put s.guard (plain (Sink s.waiting)) [])) (sym site)
    ∙ ap (λ n. put s.guard (plain (Copy 0)) (pattern_code inside n (plain_pattern d) ++ put s.guard (plain (Sink s.waiting)) [])) (sym place)

pub sequence_node : (s : Site) (p q size : ℕ) (e : PatternNode) (b : Brackets) (qs : Vec PatternNode) (c : Bool) (ds : List PatternNode) → e ≡ pattern_variant.Sequence b qs c → ds ≡ qs.items → size ≡ length qs.items → q ≡ p + 1
    → pattern_code s p (plain_pattern e) ≡ put s.guard (plain (Sequence size s.extra s.fail)) [] ++ items_code s q (plain_patterns ds)
sequence_node s p q size e b qs c ds is same long place =
    ap (λ n. pattern_code s p (plain_pattern n)) is ∙ ap (pattern_code s p) (sequence_is b qs c)
    ∙ ap (λ n. put s.guard (plain (Sequence n s.extra s.fail)) (items_code s (p + 1) (plain_patterns qs.items))) (patterns-are qs.items ∙ sym long)
    ∙ ap (λ n. put s.guard (plain (Sequence size s.extra s.fail)) (items_code s n (plain_patterns qs.items))) (sym place)
    ∙ ap (λ xs. put s.guard (plain (Sequence size s.extra s.fail)) (items_code s q (plain_patterns xs))) (sym same)
