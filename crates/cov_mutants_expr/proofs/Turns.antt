-- The next item of each row of parts of an expression.
use Rattle.std.specs.Prelude.{Box}
use Rattle.std.specs.Global.{Global}
use Rattle.std.proofs.Common.{◌≡◌, List, Option, Some, Vec, Result, Ok, Err, IfOk, OnOk, refl, sym, ap, ◌∙◌, subst}
use Rattle.std.specs.Result.{IsOkAnd}
use Rattle.py_syntax.specs.declared.expr.Comparison.{Comparison}
use Rattle.py_syntax.specs.declared.expr.Expr.{Expr as Node}
use Rattle.py_syntax.specs.declared.expr.Pair.{Pair, out-Pair}
use Rattle.py_syntax.specs.declared.expr.Link.{Link, out-Link}
use Rattle.py_syntax.specs.declared.expr.Fragment.{Fragment}
use Rattle.py_syntax.specs.declared.expr.Fragment as fragments_
use Rattle.py_syntax.specs.declared.expr.FormatPart.{FormatPart}
use Rattle.py_syntax.specs.declared.expr.FormatPart as parts_
use Rattle.py_syntax.specs.Tree.{Text, exprs, pair, link, present, plain, format, text, field}
use Rattle.py_syntax.specs.View.{plain_expr, plain_parts}
use Rattle.py_changes.specs.Mutants.{Token, where_operands, comparison_change, expr_mutants, exprs_mutants, pairs_mutants, links_mutants, opt_mutants, fragments_mutants, parts_mutants}
use Rattle.cov_places.specs.Bounds.{plain_bound}
use Rattle.cov_mutants_expr.specs.Search.{Reached, Copied}
use Rattle.cov_places.specs.ItemRows.{put_expr, put_pair, put_link, put_fragment, put_part}
use Rattle.cov_mutants_expr.specs.Rows.{Added, Stepped}
use Rattle.cov_mutants_expr.proofs.Copies.{copied-one, copied-as}
use Rattle.cov_mutants_expr.proofs.RowLaws.{turned-none, turned-one, turned-two, turned-as}
use Rattle.cov_places.proofs.Items.{plain-put, format-put, chars-put, field-put}

-- what a result that is there holds
pub with_ok : {T E : Type 0} {P Q : T → Type 0} {G : Type 0} (q : Result T E)
    → ((x : T) → P x → Q x → G) → IfOk q P → IsOkAnd q Q → G
with_ok (Ok x) f h k = f x h k
with_ok (Err e) f h k = absurd k

pub expr-stepped : {E : Type 0} (q : Result (Box Node Global) E) (s t : Reached Token) (e : Node)
    (out next : List Node) → IfOk q (λ b. Copied expr_mutants s t (plain_expr e) (plain_expr b.value))
    → IsOkAnd q (λ p. Added put_expr out next (exprs (plain_expr p.value)))
    → Stepped put_expr exprs_mutants s t out next (put_expr e)
expr-stepped q s t e out next h k =
    with_ok q (λ b g a. record {
      copy = exprs (plain_expr b.value);
      turned = turned-one exprs (λ r. refl) g;
      added = a;
    }) h k

pub pair-stepped : {E : Type 0} (q : Result (Box Node Global) E) (s t u : Reached Token) (p : Pair) (key : Node)
    (x y : Node) → x ≡ (out-Pair p).key → y ≡ (out-Pair p).value
    → (out next : List Pair) → Copied expr_mutants s t (plain_expr x) (plain_expr key)
    → IfOk q (λ b. Copied expr_mutants t u (plain_expr y) (plain_expr b.value))
    → IsOkAnd q (λ b. Added put_pair out next (pair (plain_expr key) (plain_expr b.value)))
    → Stepped put_pair pairs_mutants s u out next (put_pair p)
pair-stepped q s t u p key x y ex ey out next f h k =
    with_ok q (λ b g a. record {
      copy = pair (plain_expr key) (plain_expr b.value);
      turned = turned-as (λ r. ap (λ z. pair (plain_expr z) (plain_expr (out-Pair p).value) r) (sym ex) ∙ ap (λ z. pair (plain_expr x) (plain_expr z) r) (sym ey)) (turned-two pair (λ r. refl) f g);
      added = a;
    }) h k

pub link-stepped : {E : Type 0} (q : Result (Box Node Global) E) (s t u : Reached Token) (l : Link) (o op op' : Comparison)
    (x : Node) → o ≡ (out-Link l).op → op ≡ (out-Link l).op → x ≡ (out-Link l).right
    → (out next : List Link) → Copied comparison_change s t o op'
    → IfOk q (λ b. Copied (λ e. where_operands op (expr_mutants e)) t u (plain_expr x) (plain_expr b.value))
    → IsOkAnd q (λ b. Added put_link out next (link op' (plain_expr b.value)))
    → Stepped put_link links_mutants s u out next (put_link l)
link-stepped q s t u l o op op' x eo ep ex out next f h k =
    with_ok q (λ b g a. record {
      copy = link op' (plain_expr b.value);
      turned = turned-as (λ r. ap (λ z. link z (plain_expr (out-Link l).right) r) (sym ep) ∙ ap (λ z. link op (plain_expr z) r) (sym ex))
          (turned-two link (λ r. refl) (subst (λ z. Copied comparison_change s t z op') (eo ∙ sym ep) f) g);
      added = a;
    }) h k

pub plain-stepped : {E : Type 0} (r : Result (Unit {0}) E) (s : Reached Token) (f : Fragment) (x : Text)
    (out next : List Fragment) → f ≡ fragments_.Plain x → OnOk r (Added put_fragment out next (plain x))
    → OnOk r (Stepped put_fragment fragments_mutants s s out next (put_fragment f))
plain-stepped (Ok u) s f x out next is h = record {
  copy = plain x;
  turned = turned-as (λ r. ap (λ z. put_fragment z r) is ∙ plain-put x r) (turned-none (plain x) (λ r. refl));
  added = h;
}
plain-stepped (Err e) s f x out next is h = tt

pub format-stepped : {E D : Type 0} (q : Result (Vec FormatPart Global) D) (r : Result (Unit {0}) E) (s t : Reached Token) (f : Fragment)
    (ps : Vec FormatPart Global) (xs : List FormatPart) (out next : List Fragment) → f ≡ fragments_.Format ps → xs ≡ ps.items
    → IfOk q (λ v. Copied parts_mutants s t (plain_parts xs) (plain_parts v.items))
    → OnOk r (IsOkAnd q (λ p. Added put_fragment out next (format (plain_parts p.items))))
    → OnOk r (Stepped put_fragment fragments_mutants s t out next (put_fragment f))
format-stepped q (Ok u) s t f ps xs out next is e h k =
    with_ok q (λ v g a. record {
      copy = format (plain_parts v.items);
      turned = turned-as (λ r. ap (λ z. put_fragment z r) is ∙ format-put ps r ∙ ap (λ (z : List FormatPart). format (plain_parts z) r) (sym e)) (turned-one format (λ r. refl) g);
      added = a;
    }) h k
format-stepped q (Err d) s t f ps xs out next is e h k = tt

pub chars-stepped : {E : Type 0} (r : Result (Unit {0}) E) (s : Reached Token) (p : FormatPart) (x : Text)
    (out next : List FormatPart) → p ≡ parts_.Chars x → OnOk r (Added put_part out next (text x))
    → OnOk r (Stepped put_part parts_mutants s s out next (put_part p))
chars-stepped (Ok u) s p x out next is h = record {
  copy = text x;
  turned = turned-as (λ r. ap (λ z. put_part z r) is ∙ chars-put x r) (turned-none (text x) (λ r. refl));
  added = h;
}
chars-stepped (Err e) s p x out next is h = tt

pub field-stepped : {E D : Type 0} (q : Result (Box Node Global) D) (r : Result (Unit {0}) E) (s t : Reached Token) (p : FormatPart)
    (e : Node) (out next : List FormatPart) → p ≡ parts_.Field e
    → IfOk q (λ b. Copied expr_mutants s t (plain_expr e) (plain_expr b.value))
    → OnOk r (IsOkAnd q (λ b. Added put_part out next (field (plain_expr b.value))))
    → OnOk r (Stepped put_part parts_mutants s t out next (put_part p))
field-stepped q (Ok u) s t p e out next is h k =
    with_ok q (λ b g a. record {
      copy = field (plain_expr b.value);
      turned = turned-as (λ r. ap (λ z. put_part z r) is ∙ field-put e r) (turned-one field (λ r. refl) g);
      added = a;
    }) h k
field-stepped q (Err d) s t p e out next is h k = tt

-- ---- operands of comparisons, and bounds

pub a_bound : (s t : Reached Token) (o : Option (Box Node Global)) (b : Box Node Global) (x y : Node) → o ≡ Some b → x ≡ b.value
    → Copied expr_mutants s t (plain_expr x) (plain_expr y) → Copied opt_mutants s t (plain_bound o) (present (plain_expr y))
a_bound s t o b x y is e h = copied-as (ap plain_bound is ∙ ap (λ z. present (plain_expr z)) (sym e)) refl (copied-one present refl h)
