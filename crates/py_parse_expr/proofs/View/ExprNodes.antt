-- One more at the end of what the code holds.
use Rattle.std.specs.Prelude.{Box, IfOk, option_map}
use Rattle.std.proofs.Common.{◌≡◌, ℕ, suc, max, Bool, true, false, cond, ◌&&◌, List, [], ◌∷◌, ◌++◌, Option, Some, None, Result, Ok, Err, refl, sym, ap, ◌∙◌, arith}
use Rattle.std.specs.declared.alloc.AllocError.{AllocError}
use Rattle.std.specs.Global.{Global, Vec}
use Rattle.py_operator.specs.declared.operator.BinOp.{BinOp}
use Rattle.py_syntax.specs.declared.expr.Sign.{Sign}
use Rattle.py_syntax.specs.declared.expr.Comparison.{Comparison}
use Rattle.py_syntax.specs.declared.expr.Expr.{Expr as Node}
use Rattle.py_syntax.specs.declared.expr.Expr as node
use Rattle.py_syntax.specs.declared.expr.Pair as node_pair
use Rattle.py_syntax.specs.declared.expr.Link as node_link
use Rattle.py_syntax.specs.declared.expr.Fragment as node_fragment
use Rattle.py_syntax.specs.declared.expr.Pair.{Pair}
use Rattle.py_syntax.specs.declared.expr.Link.{Link}
use Rattle.py_syntax.specs.declared.expr.Fragment.{Fragment}
use Rattle.py_syntax.specs.declared.expr.FormatPart.{FormatPart}
use Rattle.py_syntax.specs.declared.expr.Fragment.TheVariants as fragment_
use Rattle.py_syntax.specs.declared.expr.Expr.TheVariants as variant
use Rattle.py_syntax.specs.Tree.{Text, Expr, name, none, bool, str, fstr, tuple, list, dict, paren, not', and, or, unary, binary, compare, cond as if_else, call, index, slice, attr, OptExpr, exprs, Pairs, pair, Links, link, Fragments, no_fragments, plain, format, Parts}
use Rattle.py_syntax.specs.Normal.{is_target, are_targets, height, heights, height_entries, height_links, height_fragments, height_parts}
use Rattle.py_syntax.specs.View.{PlainFragment, a_plain, a_format, fragments_of, opt_of, plain_expr, plain_exprs, plain_pairs, plain_links, plain_fragments, plain_parts}
use Rattle.py_grammar.specs.Machine.{snoc, snoc_pair, snoc_link, snoc_plain, snoc_format, has_format, texts, strings_of}
use Rattle.py_parse_expr.specs.declared.expr_nodes.Measured.{Measured}
use Rattle.py_parse_expr.specs.declared.expr_nodes.Row.{Row}
use Rattle.py_parse_expr.specs.declared.expr_nodes.Entries.{Entries}
use Rattle.py_parse_expr.specs.declared.expr_nodes.Chain.{Chain}
use Rattle.py_parse_expr.specs.ExprViews.{capped, plains, view_measured, view_row, view_entries, view_links, IsMeasured, AreMeasured, AreEntries, IsChain, Makes}
use Rattle.py_grammar.proofs.Least.Grows.{heights_snoc, entries_snoc, links_snoc, targets_snoc}
use Rattle.py_grammar.proofs.Least.LeastNeverFalls.{plain_snoc, format_snoc}

pub exprs_more : (es : List Node) (e : Node) → plain_exprs (es ++ e ∷ []) ≡ snoc (plain_exprs es) (plain_expr e)
exprs_more [] e = refl
exprs_more (f ∷ es) e = ap (exprs (plain_expr f)) (exprs_more es e)

pair_first : (p : Pair) (ps : List Pair) → plain_pairs (p ∷ ps) ≡ pair (plain_expr p.key) (plain_expr p.value) (plain_pairs ps)
pair_first p ps = search (node.the_lemmas, node_pair.the_lemmas)

pub pairs_more : (ps : List Pair) (k v : Node) → plain_pairs (ps ++ record { key = k; value = v } ∷ []) ≡ snoc_pair (plain_pairs ps) (plain_expr k) (plain_expr v)
pairs_more [] k v = search (node.the_lemmas, node_pair.the_lemmas)
pairs_more (p ∷ ps) k v = pair_first p (ps ++ record { key = k; value = v } ∷ []) ∙ ap (pair (plain_expr p.key) (plain_expr p.value)) (pairs_more ps k v) ∙ ap (λ (x : Pairs). snoc_pair x (plain_expr k) (plain_expr v)) (sym (pair_first p ps))

link_first : (l : Link) (ls : List Link) → plain_links (l ∷ ls) ≡ link l.op (plain_expr l.right) (plain_links ls)
link_first l ls = search (node.the_lemmas, node_link.the_lemmas)

pub links_more : (ls : List Link) (op : Comparison) (e : Node) → plain_links (ls ++ record { op = op; right = e } ∷ []) ≡ snoc_link (plain_links ls) op (plain_expr e)
links_more [] op e = search (node.the_lemmas, node_link.the_lemmas)
links_more (l ∷ ls) op e = link_first l (ls ++ record { op = op; right = e } ∷ []) ∙ ap (link l.op (plain_expr l.right)) (links_more ls op e) ∙ ap (λ (x : Links). snoc_link x op (plain_expr e)) (sym (link_first l ls))

-- what is kept beside items, with one more
pub row_more : (r n : Row) (t : Measured) → AreMeasured r → IsMeasured t → view_row n ≡ snoc (view_row r) (view_measured t) → n.height ≡ max r.height t.height → n.targets ≡ (r.targets && t.target) → AreMeasured n
row_more r n t are is same height targets =
    let h = heights_snoc (view_row r) (view_measured t) in
    let e = ap heights same in
    let one = are.height in
    let two = is.height in
    record {
      height = omega arith;
      targets = targets ∙ ap (λ (b : Bool). b && t.target) are.targets ∙ ap (λ (b : Bool). are_targets (view_row r) && b) is.target ∙ sym (targets_snoc (view_row r) (view_measured t)) ∙ ap are_targets (sym same);
    }

pub entries_more : (ps n : Entries) (k v : Measured) → AreEntries ps → IsMeasured k → IsMeasured v → view_entries n ≡ snoc_pair (view_entries ps) (view_measured k) (view_measured v) → n.height ≡ max ps.height (max k.height v.height) → AreEntries n
entries_more ps n k v are key value same height =
    let h = entries_snoc (view_entries ps) (view_measured k) (view_measured v) in
    let e = ap height_entries same in
    let one = key.height in
    let two = value.height in
    omega arith

pub chain_more : (c n : Chain) (op : Comparison) (t : Measured) → IsChain c → IsMeasured t → plain_expr n.first.value ≡ plain_expr c.first.value → view_links n ≡ snoc_link (view_links c) op (view_measured t) → n.height ≡ max c.height t.height → IsChain n
chain_more c n op t is measured first same height' =
    let h = links_snoc (view_links c) op (view_measured t) in
    let e = ap height_links same in
    let f = ap height first in
    let two = measured.height in
    omega arith

-- ---- strings

pub plains_more : (xs : List Text) (x : Text) → plains (xs ++ x ∷ []) ≡ snoc_plain (plains xs) x
plains_more [] x = refl
plains_more (y ∷ xs) x = ap (plain y) (plains_more xs x)

pub plains_none : (xs : List Text) → has_format (plains xs) ≡ false
plains_none [] = refl
plains_none (x ∷ xs) = plains_none xs

pub plains_texts : (xs : List Text) → texts (plains xs) ≡ xs
plains_texts [] = refl
plains_texts (x ∷ xs) = ap (λ (ys : List Text). x ∷ ys) (plains_texts xs)

pub plains_low : (xs : List Text) → height_fragments (plains xs) ≡ 0
plains_low [] = refl
plains_low (x ∷ xs) = plains_low xs

pub strings_plain : (xs : List Text) → strings_of (plains xs) ≡ str xs
strings_plain xs = ap (λ (b : Bool). cond b (fstr (plains xs)) (str (texts (plains xs)))) (plains_none xs) ∙ ap str (plains_texts xs)

pub strings_mixed : (fs : Fragments) → has_format fs ≡ true → strings_of fs ≡ fstr fs
strings_mixed fs h = ap (λ (b : Bool). cond b (fstr fs) (str (texts fs))) h

text_step : (p : PlainFragment) (rest all : List PlainFragment) (x : Text) → fragments_of all ≡ snoc_plain (fragments_of rest) x → fragments_of (p ∷ all) ≡ snoc_plain (fragments_of (p ∷ rest)) x
text_step (a_plain y) rest all x h = ap (plain y) h
text_step (a_format ps) rest all x h = ap (format ps) h

format_step : (p : PlainFragment) (rest all : List PlainFragment) (qs : Parts) → fragments_of all ≡ snoc_format (fragments_of rest) qs → fragments_of (p ∷ all) ≡ snoc_format (fragments_of (p ∷ rest)) qs
format_step (a_plain y) rest all qs h = ap (plain y) h
format_step (a_format ps) rest all qs h = ap (format ps) h

pub fragments_text : (fs : List Fragment) (x : Text) → plain_fragments (fs ++ fragment_.Plain x ∷ []) ≡ snoc_plain (plain_fragments fs) x
fragments_text [] x = search (node.the_lemmas, node_fragment.the_lemmas)
fragments_text (f ∷ fs) x = text_step _ _ _ x (fragments_text fs x)

pub fragments_format : (fs : List Fragment) (f : Fragment) (qs : Parts) → plain_fragments (f ∷ []) ≡ format qs no_fragments → plain_fragments (fs ++ f ∷ []) ≡ snoc_format (plain_fragments fs) qs
fragments_format [] f qs is = is
fragments_format (g ∷ fs) f qs is = format_step _ _ _ qs (fragments_format fs f qs is)

pub a_format_is : (ps : Vec FormatPart) → plain_fragments (fragment_.Format ps ∷ []) ≡ format (plain_parts ps.items) no_fragments
a_format_is ps = search (node.the_lemmas, node_fragment.the_lemmas)

-- ---- what is kept beside runs of strings

abbrev IsMixed : Fragments → ℕ → Type 0
IsMixed fs h = (has_format fs ≡ true) × (h ≡ capped (height_fragments fs))

pub mixed_text : (fs n : Fragments) (x : Text) (h : ℕ) → n ≡ snoc_plain fs x → IsMixed fs h → IsMixed n h
mixed_text fs n x h is valid = (ap has_format is ∙ (plain_snoc fs x).0 ∙ valid.0, valid.1 ∙ ap capped (sym (ap height_fragments is ∙ (plain_snoc fs x).1)))

pub mixed_format : (fs n : Fragments) (qs : Parts) (h a m : ℕ) → n ≡ snoc_format fs qs → h ≡ capped (height_fragments fs) → a ≡ capped (height_parts qs) → m ≡ max h a → IsMixed n m
mixed_format fs n qs h a m is valid high most =
    let f = format_snoc fs qs in
    let all : height_fragments n ≡ max (height_fragments fs) (height_parts qs) = ap height_fragments is ∙ f.1 in
    (ap has_format is ∙ f.0, omega arith)

pub first_format : (xs : List Text) (n : Fragments) (qs : Parts) (a : ℕ) → n ≡ snoc_format (plains xs) qs → a ≡ capped (height_parts qs) → IsMixed n a
first_format xs n qs a is high =
    let none = plains_low xs in
    mixed_format (plains xs) n qs 0 a a is (omega arith) high (omega arith)

pub plain_height : (xs : List Text) → 1 ≡ capped (height (strings_of (plains xs)))
plain_height xs = ap (λ (e : Expr). capped (height e)) (sym (strings_plain xs))

pub mixed_height : (fs : Fragments) (h n : ℕ) → IsMixed fs h → n ≡ capped (suc h) → n ≡ capped (height (strings_of fs))
mixed_height fs h n valid is =
    let same = ap height (strings_mixed fs valid.0) in
    let high = valid.1 in
    omega arith

pub str_is : (xs : Vec Text) → plain_expr (variant.Str xs) ≡ strings_of (plains xs.items)
str_is xs = go xs ∙ sym (strings_plain xs.items)
  where
    go : (xs : Vec Text) → plain_expr (variant.Str xs) ≡ str xs.items
    go xs = search node.the_lemmas

pub fstr_is : (fs : Vec Fragment) → has_format (plain_fragments fs.items) ≡ true → plain_expr (variant.FStr fs) ≡ strings_of (plain_fragments fs.items)
fstr_is fs some = go fs ∙ sym (strings_mixed (plain_fragments fs.items) some)
  where
    go : (fs : Vec Fragment) → plain_expr (variant.FStr fs) ≡ fstr (plain_fragments fs.items)
    go fs = search (node.the_lemmas, node_fragment.the_lemmas)

pub plain_target : (xs : List Text) → false ≡ is_target (strings_of (plains xs))
plain_target xs = ap is_target (sym (strings_plain xs))

pub mixed_target : (fs : Fragments) → has_format fs ≡ true → false ≡ is_target (strings_of fs)
mixed_target fs some = ap is_target (sym (strings_mixed fs some))

-- ---- words

pub none_is : plain_expr variant.None ≡ none
none_is = search node.the_lemmas

pub bool_is : (b : Bool) → plain_expr (variant.Bool b) ≡ bool b
bool_is b = search node.the_lemmas

-- ---- trees in boxes

pub name_is : (x : Text) → plain_expr (variant.Name x) ≡ name x
name_is x = search node.the_lemmas

pub tuple_is : (es : Vec Node) (c : Bool) → plain_expr (variant.Tuple es c) ≡ tuple (plain_exprs es.items) c
tuple_is es c = search node.the_lemmas

pub list_is : (es : Vec Node) (c : Bool) → plain_expr (variant.List es c) ≡ list (plain_exprs es.items) c
list_is es c = search node.the_lemmas

pub dict_is : (ps : Vec Pair) (c : Bool) → plain_expr (variant.Dict ps c) ≡ dict (plain_pairs ps.items) c
dict_is ps c = search (node.the_lemmas, node_pair.the_lemmas)

pub paren_is : (e : Box Node Global) → plain_expr (variant.Paren e) ≡ paren (plain_expr e.value)
paren_is e = search node.the_lemmas

pub not_is : (e : Box Node Global) → plain_expr (variant.Not e) ≡ not' (plain_expr e.value)
not_is e = search node.the_lemmas

pub and_is : (a b : Box Node Global) → plain_expr (variant.And a b) ≡ and (plain_expr a.value) (plain_expr b.value)
and_is a b = search node.the_lemmas

pub or_is : (a b : Box Node Global) → plain_expr (variant.Or a b) ≡ or (plain_expr a.value) (plain_expr b.value)
or_is a b = search node.the_lemmas

pub unary_is : (s : Sign) (e : Box Node Global) → plain_expr (variant.Unary s e) ≡ unary s (plain_expr e.value)
unary_is s e = search node.the_lemmas

pub binary_is : (op : BinOp) (a b : Box Node Global) → plain_expr (variant.Binary op a b) ≡ binary op (plain_expr a.value) (plain_expr b.value)
binary_is op a b = search node.the_lemmas

pub compare_is : (a : Box Node Global) (ls : Vec Link) → plain_expr (variant.Compare a ls) ≡ compare (plain_expr a.value) (plain_links ls.items)
compare_is a ls = search (node.the_lemmas, node_link.the_lemmas)

pub cond_is : (b t o : Box Node Global) → plain_expr (variant.Cond b t o) ≡ if_else (plain_expr b.value) (plain_expr t.value) (plain_expr o.value)
cond_is b t o = search node.the_lemmas

pub call_is : (f : Box Node Global) (es : Vec Node) (c : Bool) → plain_expr (variant.Call f es c) ≡ call (plain_expr f.value) (plain_exprs es.items) c
call_is f es c = search node.the_lemmas

pub index_is : (a b : Box Node Global) → plain_expr (variant.Index a b) ≡ index (plain_expr a.value) (plain_expr b.value)
index_is a b = search node.the_lemmas

abbrev pub bound_is : Option (Box Node Global) → OptExpr
bound_is b = opt_of (option_map (λ (x : Box Node Global). plain_expr x.value) b)

pub slice_is : (a : Box Node Global) (f t : Option (Box Node Global)) → plain_expr (variant.Slice a f t) ≡ slice (plain_expr a.value) (bound_is f) (bound_is t)
slice_is a None None = search node.the_lemmas
slice_is a None (Some t) = search node.the_lemmas
slice_is a (Some f) None = search node.the_lemmas
slice_is a (Some f) (Some t) = search node.the_lemmas

pub attr_is : (a : Box Node Global) (x : Text) → plain_expr (variant.Attr a x) ≡ attr (plain_expr a.value) x
attr_is a x = search node.the_lemmas

-- a tree with what is kept beside it
pub boxed_makes : (e : Expr) (n : Node) (h : ℕ) (b : Bool) (r : Result Measured AllocError) → IfOk r (λ t. t.expr.value ≡ n) → IfOk r (λ t. t.height ≡ h) → IfOk r (λ t. t.target ≡ b) → plain_expr n ≡ e → h ≡ capped (height e) → b ≡ is_target e → IfOk r (Makes e)
boxed_makes e n h b (Ok t) is high form shows height' target' =
    let same : plain_expr t.expr.value ≡ e = ap plain_expr is ∙ shows in
    record { is = same; valid = record { height = high ∙ height' ∙ ap (λ (x : Expr). capped (height x)) (sym same); target = form ∙ target' ∙ ap is_target (sym same) } }
boxed_makes e n h b (Err x) is high form shows height' target' = tt
