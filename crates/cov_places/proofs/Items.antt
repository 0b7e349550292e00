-- One item of the parts of an expression in front of a row, and rows of them.
use Rattle.std.proofs.Common.{◌≡◌, List, [], ◌∷◌, Vec, Global, refl, ap}
use Rattle.py_syntax.specs.declared.expr.Comparison.{Comparison}
use Rattle.py_syntax.specs.declared.expr.Expr.{Expr as Node}
use Rattle.py_syntax.specs.declared.expr.Pair.{Pair, roll-Pair}
use Rattle.py_syntax.specs.declared.expr.Pair as pairs_
use Rattle.py_syntax.specs.declared.expr.Link.{Link, roll-Link}
use Rattle.py_syntax.specs.declared.expr.Link as links_
use Rattle.py_syntax.specs.declared.expr.Fragment.{Fragment}
use Rattle.py_syntax.specs.declared.expr.Fragment as fragments_
use Rattle.py_syntax.specs.declared.expr.FormatPart.{FormatPart}
use Rattle.py_syntax.specs.declared.expr.FormatPart as parts_
use Rattle.py_syntax.specs.Tree.{Text, Pairs, pair, Links, link, Fragments, plain, format, Parts, text, field}
use Rattle.py_syntax.specs.View.{PlainFragment, a_plain, a_format, PlainPart, a_text, a_field, fragments_of, parts_of, plain_expr, plain_exprs, plain_pairs, plain_links, plain_fragments, plain_parts}
use Rattle.cov_places.specs.ItemRows.{put_expr, put_pair, put_link, fragments_before, put_fragment, parts_before, put_part}

pub pair-put : (k v : Node) (r : Pairs) → put_pair (roll-Pair (record { key = k; value = v })) r ≡ pair (plain_expr k) (plain_expr v) r
pair-put k v r = search pairs_.the_lemmas

pub link-put : (op : Comparison) (e : Node) (r : Links) → put_link (roll-Link (record { op = op; right = e })) r ≡ link op (plain_expr e) r
link-put op e r = search links_.the_lemmas

plain-Plain : (x : Text) (fs : List Fragment) → plain_fragments (fragments_.Plain x ∷ fs) ≡ plain x (plain_fragments fs)
plain-Plain x fs = search fragments_.the_lemmas

plain-Format : (ps : Vec FormatPart Global) (fs : List Fragment) → plain_fragments (fragments_.Format ps ∷ fs) ≡ format (plain_parts ps.items) (plain_fragments fs)
plain-Format ps fs = search fragments_.the_lemmas

plain-Chars : (x : Text) (ps : List FormatPart) → plain_parts (parts_.Chars x ∷ ps) ≡ text x (plain_parts ps)
plain-Chars x ps = search parts_.the_lemmas

plain-Field : (e : Node) (ps : List FormatPart) → plain_parts (parts_.Field e ∷ ps) ≡ field (plain_expr e) (plain_parts ps)
plain-Field e ps = search parts_.the_lemmas

pub plain-put : (x : Text) (r : Fragments) → put_fragment (fragments_.Plain x) r ≡ plain x r
plain-put x r = ap (λ fs. fragments_before fs r) (plain-Plain x [])

pub format-put : (ps : Vec FormatPart Global) (r : Fragments) → put_fragment (fragments_.Format ps) r ≡ format (plain_parts ps.items) r
format-put ps r = ap (λ fs. fragments_before fs r) (plain-Format ps [])

pub chars-put : (x : Text) (r : Parts) → put_part (parts_.Chars x) r ≡ text x r
chars-put x r = ap (λ ps. parts_before ps r) (plain-Chars x [])

pub field-put : (e : Node) (r : Parts) → put_part (parts_.Field e) r ≡ field (plain_expr e) r
field-put e r = ap (λ ps. parts_before ps r) (plain-Field e [])

-- ---- rows

pub exprs-step : (e : Node) (es : List Node) → plain_exprs (e ∷ es) ≡ put_expr e (plain_exprs es)
exprs-step e es = refl

pub pairs-step : (p : Pair) (ps : List Pair) → plain_pairs (p ∷ ps) ≡ put_pair p (plain_pairs ps)
pairs-step p ps = search pairs_.the_lemmas

pub links-step : (l : Link) (ls : List Link) → plain_links (l ∷ ls) ≡ put_link l (plain_links ls)
links-step l ls = search links_.the_lemmas

-- what a piece is in front of others, by its view
a_piece : (p : PlainFragment) (fs : List PlainFragment)
    → fragments_of (p ∷ fs) ≡ fragments_before (fragments_of (p ∷ [])) (fragments_of fs)
a_piece (a_plain x) fs = refl
a_piece (a_format ps) fs = refl

pub fragments-step : (f : Fragment) (fs : List Fragment) → plain_fragments (f ∷ fs) ≡ put_fragment f (plain_fragments fs)
fragments-step f fs = a_piece _ _

a_part : (p : PlainPart) (ps : List PlainPart)
    → parts_of (p ∷ ps) ≡ parts_before (parts_of (p ∷ [])) (parts_of ps)
a_part (a_text x) ps = refl
a_part (a_field e) ps = refl

pub parts-step : (p : FormatPart) (ps : List FormatPart) → plain_parts (p ∷ ps) ≡ put_part p (plain_parts ps)
parts-step p ps = a_part _ _
