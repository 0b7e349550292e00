-- The names in each form of an expression, by its parts as the code holds them.
use Rattle.std.specs.Prelude.{Box, ℤ}
use Rattle.std.specs.Global.{Global}
use Rattle.std.proofs.Common.{◌≡◌, List, [], ◌∷◌, ◌++◌, Bool, Option, Some, None, Vec, sym, ap, ◌∙◌, append_assoc}
use Rattle.std.specs.Option.{option_map}
use Rattle.py_operator.specs.declared.operator.BinOp.{BinOp}
use Rattle.py_syntax.specs.declared.expr.Expr.{Expr as Node}
use Rattle.py_syntax.specs.declared.expr.Expr as node
use Rattle.py_syntax.specs.declared.expr.Expr.TheVariants as variant
use Rattle.py_syntax.specs.declared.expr.Sign.{Sign}
use Rattle.py_syntax.specs.declared.expr.Pair.{Pair, out-Pair}
use Rattle.py_syntax.specs.declared.expr.Pair as pairs_
use Rattle.py_syntax.specs.declared.expr.Link.{Link, out-Link}
use Rattle.py_syntax.specs.declared.expr.Link as links_
use Rattle.py_syntax.specs.declared.expr.Fragment.{Fragment}
use Rattle.py_syntax.specs.declared.expr.Fragment as fragments_
use Rattle.py_syntax.specs.declared.expr.FormatPart.{FormatPart}
use Rattle.py_syntax.specs.declared.expr.FormatPart as parts_
use Rattle.py_syntax.specs.Tree.{Text, name, int, str, fstr, none, bool, tuple, list, dict, paren, not', and, or, unary, binary, compare, cond, call, index, slice, attr, pair, link, plain, format, text, field}
use Rattle.py_syntax.specs.View.{plain_expr, plain_exprs, plain_pairs, plain_links, plain_fragments, plain_parts, opt_of}
use Rattle.py_scope.specs.declared.occurrence.Occurrence.{Occurrence}
use Rattle.py_scope.specs.declared.occurrence.Occurrence.TheVariants.{Uses}
use Rattle.py_scope.specs.Occurrences.{in_expr, in_exprs, in_pairs, in_links, in_fragments, in_parts, in_option}
use Rattle.py_scope.specs.Parts.{in_end}

abbrev names : Node → List Occurrence
names e = in_expr (plain_expr e)

pub plain-name : (x : Text) → plain_expr (variant.Name x) ≡ name x
plain-name x = search node.the_lemmas

pub name-is : (e : Node) (x : Text) → e ≡ variant.Name x → names e ≡ Uses x ∷ []
name-is e x is = ap names is ∙ ap in_expr (plain-name x)

plain-int : (n : ℤ) → plain_expr (variant.Int n) ≡ int n
plain-int n = search node.the_lemmas

pub int-is : (e : Node) (n : ℤ) → e ≡ variant.Int n → names e ≡ []
int-is e n is = ap names is ∙ ap in_expr (plain-int n)

plain-str : (ps : Vec Text Global) → plain_expr (variant.Str ps) ≡ str ps.items
plain-str ps = search node.the_lemmas

pub str-is : (e : Node) (ps : Vec Text Global) → e ≡ variant.Str ps → names e ≡ []
str-is e ps is = ap names is ∙ ap in_expr (plain-str ps)

plain-fstr : (fs : Vec Fragment Global) → plain_expr (variant.FStr fs) ≡ fstr (plain_fragments fs.items)
plain-fstr fs = search node.the_lemmas

pub fstr-is : (e : Node) (fs : Vec Fragment Global) (xs : List Fragment) → e ≡ variant.FStr fs → xs ≡ fs.items → names e ≡ in_fragments (plain_fragments xs)
fstr-is e fs xs is p = ap names is ∙ ap in_expr (plain-fstr fs) ∙ ap (λ (k : List Fragment). in_fragments (plain_fragments k)) (sym p)

plain-none : plain_expr variant.None ≡ none
plain-none = search node.the_lemmas

pub none-is : (e : Node) → e ≡ variant.None → names e ≡ []
none-is e is = ap names is ∙ ap in_expr plain-none

plain-bool : (b : Bool) → plain_expr (variant.Bool b) ≡ bool b
plain-bool b = search node.the_lemmas

pub bool-is : (e : Node) (b : Bool) → e ≡ variant.Bool b → names e ≡ []
bool-is e b is = ap names is ∙ ap in_expr (plain-bool b)

pub plain-tuple : (es : Vec Node Global) (c : Bool) → plain_expr (variant.Tuple es c) ≡ tuple (plain_exprs es.items) c
plain-tuple es c = search node.the_lemmas

pub tuple-is : (e : Node) (es : Vec Node Global) (c : Bool) (xs : List Node) → e ≡ variant.Tuple es c → xs ≡ es.items → names e ≡ in_exprs (plain_exprs xs)
tuple-is e es c xs is p = ap names is ∙ ap in_expr (plain-tuple es c) ∙ ap (λ (k : List Node). in_exprs (plain_exprs k)) (sym p)

pub plain-list : (es : Vec Node Global) (c : Bool) → plain_expr (variant.List es c) ≡ list (plain_exprs es.items) c
plain-list es c = search node.the_lemmas

pub list-is : (e : Node) (es : Vec Node Global) (c : Bool) (xs : List Node) → e ≡ variant.List es c → xs ≡ es.items → names e ≡ in_exprs (plain_exprs xs)
list-is e es c xs is p = ap names is ∙ ap in_expr (plain-list es c) ∙ ap (λ (k : List Node). in_exprs (plain_exprs k)) (sym p)

pub plain-dict : (ps : Vec Pair Global) (c : Bool) → plain_expr (variant.Dict ps c) ≡ dict (plain_pairs ps.items) c
plain-dict ps c = search node.the_lemmas

pub dict-is : (e : Node) (ps : Vec Pair Global) (c : Bool) (xs : List Pair) → e ≡ variant.Dict ps c → xs ≡ ps.items → names e ≡ in_pairs (plain_pairs xs)
dict-is e ps c xs is p = ap names is ∙ ap in_expr (plain-dict ps c) ∙ ap (λ (k : List Pair). in_pairs (plain_pairs k)) (sym p)

pub plain-paren : (a : Box Node Global) → plain_expr (variant.Paren a) ≡ paren (plain_expr a.value)
plain-paren a = search node.the_lemmas

pub paren-is : (e : Node) (a : Box Node Global) (x : Node) → e ≡ variant.Paren a → x ≡ a.value → names e ≡ names x
paren-is e a x is p = ap names is ∙ ap in_expr (plain-paren a) ∙ ap (λ (k : Node). names k) (sym p)

plain-not : (a : Box Node Global) → plain_expr (variant.Not a) ≡ not' (plain_expr a.value)
plain-not a = search node.the_lemmas

pub not-is : (e : Node) (a : Box Node Global) (x : Node) → e ≡ variant.Not a → x ≡ a.value → names e ≡ names x
not-is e a x is p = ap names is ∙ ap in_expr (plain-not a) ∙ ap (λ (k : Node). names k) (sym p)

plain-and : (a : Box Node Global) (b : Box Node Global) → plain_expr (variant.And a b) ≡ and (plain_expr a.value) (plain_expr b.value)
plain-and a b = search node.the_lemmas

pub and-is : (e : Node) (a : Box Node Global) (b : Box Node Global) (x : Node) (y : Node) → e ≡ variant.And a b → x ≡ a.value → y ≡ b.value → names e ≡ names x ++ names y
and-is e a b x y is p q = ap names is ∙ ap in_expr (plain-and a b) ∙ ap (λ (k : Node). names k ++ names b.value) (sym p) ∙ ap (λ (k : Node). names x ++ names k) (sym q)

plain-or : (a : Box Node Global) (b : Box Node Global) → plain_expr (variant.Or a b) ≡ or (plain_expr a.value) (plain_expr b.value)
plain-or a b = search node.the_lemmas

pub or-is : (e : Node) (a : Box Node Global) (b : Box Node Global) (x : Node) (y : Node) → e ≡ variant.Or a b → x ≡ a.value → y ≡ b.value → names e ≡ names x ++ names y
or-is e a b x y is p q = ap names is ∙ ap in_expr (plain-or a b) ∙ ap (λ (k : Node). names k ++ names b.value) (sym p) ∙ ap (λ (k : Node). names x ++ names k) (sym q)

plain-unary : (s : Sign) (a : Box Node Global) → plain_expr (variant.Unary s a) ≡ unary s (plain_expr a.value)
plain-unary s a = search node.the_lemmas

pub unary-is : (e : Node) (s : Sign) (a : Box Node Global) (x : Node) → e ≡ variant.Unary s a → x ≡ a.value → names e ≡ names x
unary-is e s a x is p = ap names is ∙ ap in_expr (plain-unary s a) ∙ ap (λ (k : Node). names k) (sym p)

plain-binary : (op : BinOp) (a : Box Node Global) (b : Box Node Global) → plain_expr (variant.Binary op a b) ≡ binary op (plain_expr a.value) (plain_expr b.value)
plain-binary op a b = search node.the_lemmas

pub binary-is : (e : Node) (op : BinOp) (a : Box Node Global) (b : Box Node Global) (x : Node) (y : Node) → e ≡ variant.Binary op a b → x ≡ a.value → y ≡ b.value → names e ≡ names x ++ names y
binary-is e op a b x y is p q = ap names is ∙ ap in_expr (plain-binary op a b) ∙ ap (λ (k : Node). names k ++ names b.value) (sym p) ∙ ap (λ (k : Node). names x ++ names k) (sym q)

plain-compare : (a : Box Node Global) (ls : Vec Link Global) → plain_expr (variant.Compare a ls) ≡ compare (plain_expr a.value) (plain_links ls.items)
plain-compare a ls = search node.the_lemmas

pub compare-is : (e : Node) (a : Box Node Global) (ls : Vec Link Global) (x : Node) (ys : List Link) → e ≡ variant.Compare a ls → x ≡ a.value → ys ≡ ls.items → names e ≡ names x ++ in_links (plain_links ys)
compare-is e a ls x ys is p q = ap names is ∙ ap in_expr (plain-compare a ls) ∙ ap (λ (k : Node). names k ++ in_links (plain_links ls.items)) (sym p) ∙ ap (λ (k : List Link). names x ++ in_links (plain_links k)) (sym q)

plain-cond : (a : Box Node Global) (b : Box Node Global) (d : Box Node Global) → plain_expr (variant.Cond a b d) ≡ cond (plain_expr a.value) (plain_expr b.value) (plain_expr d.value)
plain-cond a b d = search node.the_lemmas

pub cond-is : (e : Node) (a : Box Node Global) (b : Box Node Global) (d : Box Node Global) (x : Node) (y : Node) (z : Node) → e ≡ variant.Cond a b d → x ≡ a.value → y ≡ b.value → z ≡ d.value → names e ≡ names x ++ (names y ++ names z)
cond-is e a b d x y z is p q r = ap names is ∙ ap in_expr (plain-cond a b d) ∙ ap (λ (k : Node). names k ++ (names b.value ++ names d.value)) (sym p) ∙ ap (λ (k : Node). names x ++ (names k ++ names d.value)) (sym q) ∙ ap (λ (k : Node). names x ++ (names y ++ names k)) (sym r)

plain-call : (a : Box Node Global) (es : Vec Node Global) (c : Bool) → plain_expr (variant.Call a es c) ≡ call (plain_expr a.value) (plain_exprs es.items) c
plain-call a es c = search node.the_lemmas

pub call-is : (e : Node) (a : Box Node Global) (es : Vec Node Global) (c : Bool) (x : Node) (ys : List Node) → e ≡ variant.Call a es c → x ≡ a.value → ys ≡ es.items → names e ≡ names x ++ in_exprs (plain_exprs ys)
call-is e a es c x ys is p q = ap names is ∙ ap in_expr (plain-call a es c) ∙ ap (λ (k : Node). names k ++ in_exprs (plain_exprs es.items)) (sym p) ∙ ap (λ (k : List Node). names x ++ in_exprs (plain_exprs k)) (sym q)

plain-index : (a : Box Node Global) (b : Box Node Global) → plain_expr (variant.Index a b) ≡ index (plain_expr a.value) (plain_expr b.value)
plain-index a b = search node.the_lemmas

pub index-is : (e : Node) (a : Box Node Global) (b : Box Node Global) (x : Node) (y : Node) → e ≡ variant.Index a b → x ≡ a.value → y ≡ b.value → names e ≡ names x ++ names y
index-is e a b x y is p q = ap names is ∙ ap in_expr (plain-index a b) ∙ ap (λ (k : Node). names k ++ names b.value) (sym p) ∙ ap (λ (k : Node). names x ++ names k) (sym q)

plain-slice : (a : Box Node Global) (f : Option (Box Node Global)) (t : Option (Box Node Global)) → plain_expr (variant.Slice a f t) ≡ slice (plain_expr a.value) (opt_of (option_map (λ b. plain_expr b.value) f)) (opt_of (option_map (λ b. plain_expr b.value) t))
plain-slice a None None = search node.the_lemmas
plain-slice a None (Some t) = search node.the_lemmas
plain-slice a (Some f) None = search node.the_lemmas
plain-slice a (Some f) (Some t) = search node.the_lemmas

pub slice-is : (e : Node) (a : Box Node Global) (f : Option (Box Node Global)) (t : Option (Box Node Global)) (x : Node) → e ≡ variant.Slice a f t → x ≡ a.value → names e ≡ names x ++ (in_end f ++ in_end t)
slice-is e a f t x is p = ap names is ∙ ap in_expr (plain-slice a f t) ∙ ap (λ (k : Node). names k ++ (in_end f ++ in_end t)) (sym p)

plain-attr : (a : Box Node Global) (t : Text) → plain_expr (variant.Attr a t) ≡ attr (plain_expr a.value) t
plain-attr a t = search node.the_lemmas

pub attr-is : (e : Node) (a : Box Node Global) (t : Text) (x : Node) → e ≡ variant.Attr a t → x ≡ a.value → names e ≡ names x
attr-is e a t x is p = ap names is ∙ ap in_expr (plain-attr a t) ∙ ap (λ (k : Node). names k) (sym p)

pub end-is : (o : Option (Box Node Global)) (b : Box Node Global) (x : Node) → o ≡ Some b → x ≡ b.value → in_end o ≡ names x
end-is o b x is p = ap in_end is ∙ ap names (sym p)

pub option-is : (o : Option Node) (x : Node) → o ≡ Some x → in_option (option_map plain_expr o) ≡ names x
option-is o x is = ap (λ k. in_option (option_map plain_expr k)) is

-- ---- lists

plain-pairs : (p : Pair) (ps : List Pair) → plain_pairs (p ∷ ps) ≡ pair (plain_expr (out-Pair p).key) (plain_expr (out-Pair p).value) (plain_pairs ps)
plain-pairs p ps = search pairs_.the_lemmas

pub pairs-step : (p : Pair) (ps : List Pair) → in_pairs (plain_pairs (p ∷ ps)) ≡ (names (out-Pair p).key ++ names (out-Pair p).value) ++ in_pairs (plain_pairs ps)
pairs-step p ps = ap in_pairs (plain-pairs p ps) ∙ sym (append_assoc (names (out-Pair p).key) (names (out-Pair p).value) (in_pairs (plain_pairs ps)))

plain-links : (l : Link) (ls : List Link) → plain_links (l ∷ ls) ≡ link (out-Link l).op (plain_expr (out-Link l).right) (plain_links ls)
plain-links l ls = search links_.the_lemmas

pub links-step : (l : Link) (ls : List Link) → in_links (plain_links (l ∷ ls)) ≡ names (out-Link l).right ++ in_links (plain_links ls)
links-step l ls = ap in_links (plain-links l ls)

plain-Plain : (x : Text) (fs : List Fragment) → plain_fragments (fragments_.Plain x ∷ fs) ≡ plain x (plain_fragments fs)
plain-Plain x fs = search fragments_.the_lemmas

plain-Format : (ps : Vec FormatPart Global) (fs : List Fragment) → plain_fragments (fragments_.Format ps ∷ fs) ≡ format (plain_parts ps.items) (plain_fragments fs)
plain-Format ps fs = search fragments_.the_lemmas

pub plain_fragment-is : (f : Fragment) (x : Text) (fs : List Fragment) → f ≡ fragments_.Plain x → in_fragments (plain_fragments (f ∷ fs)) ≡ [] ++ in_fragments (plain_fragments fs)
plain_fragment-is f x fs is = ap (λ k. in_fragments (plain_fragments (k ∷ fs))) is ∙ ap in_fragments (plain-Plain x fs)

pub format-is : (f : Fragment) (ps : Vec FormatPart Global) (xs : List FormatPart) (fs : List Fragment) → f ≡ fragments_.Format ps → xs ≡ ps.items → in_fragments (plain_fragments (f ∷ fs)) ≡ in_parts (plain_parts xs) ++ in_fragments (plain_fragments fs)
format-is f ps xs fs is p = ap (λ k. in_fragments (plain_fragments (k ∷ fs))) is ∙ ap in_fragments (plain-Format ps fs) ∙ ap (λ k. in_parts (plain_parts k) ++ in_fragments (plain_fragments fs)) (sym p)

plain-Chars : (x : Text) (ps : List FormatPart) → plain_parts (parts_.Chars x ∷ ps) ≡ text x (plain_parts ps)
plain-Chars x ps = search parts_.the_lemmas

plain-Field : (e : Node) (ps : List FormatPart) → plain_parts (parts_.Field e ∷ ps) ≡ field (plain_expr e) (plain_parts ps)
plain-Field e ps = search parts_.the_lemmas

pub chars-is : (p : FormatPart) (x : Text) (ps : List FormatPart) → p ≡ parts_.Chars x → in_parts (plain_parts (p ∷ ps)) ≡ [] ++ in_parts (plain_parts ps)
chars-is p x ps is = ap (λ k. in_parts (plain_parts (k ∷ ps))) is ∙ ap in_parts (plain-Chars x ps)

pub field-is : (p : FormatPart) (e : Node) (ps : List FormatPart) → p ≡ parts_.Field e → in_parts (plain_parts (p ∷ ps)) ≡ names e ++ in_parts (plain_parts ps)
field-is p e ps is = ap (λ k. in_parts (plain_parts (k ∷ ps))) is ∙ ap in_parts (plain-Field e ps)
