-- What is the same is equal.
use Rattle.std.proofs.Common.{◌≡◌, ℕ, nat_eq, ℤ, pos, negsuc, Bool, true, false, ◌&&◌, IsTrue, List, [], ◌∷◌, Option, Some, None, refl, ap}
use Rattle.std.proofs.lemmas.Bool.{eqb-true}
use Rattle.py_operator.specs.declared.operator.BinOp.{BinOp}
use Rattle.py_operator.specs.declared.operator.BinOp.TheVariants.{Add, Sub, Mul, Floor, Mod}
use Rattle.py_operator.specs.declared.operator.CmpOp.{CmpOp}
use Rattle.py_operator.specs.declared.operator.CmpOp.TheVariants.{Eq, Ne, Lt, Le, Gt, Ge, In, NotIn}
use Rattle.py_text.specs.Comparison.{is_same_text}
use Rattle.py_text.proofs.SameTexts.{same_text}
use Rattle.py_text.proofs.TestLaws.{first_true, second_true}
use Rattle.py_syntax.specs.declared.expr.Comparison.{Comparison}
use Rattle.py_syntax.specs.declared.expr.Comparison.TheVariants.{Op, Is, IsNot}
use Rattle.py_syntax.specs.declared.expr.Sign.{Sign}
use Rattle.py_syntax.specs.declared.expr.Sign.TheVariants.{Minus, Plus}
use Rattle.py_syntax.specs.declared.pattern.Brackets.{Brackets}
use Rattle.py_syntax.specs.declared.pattern.Brackets.TheVariants.{Round, Square, Bare}
use Rattle.py_syntax.specs.Tree.{Text, Expr, name, int, str, fstr, none, bool, tuple, list, dict, paren, not', and, or, unary, binary, compare, cond, call, index, slice, attr, Exprs, no_exprs, exprs, Pairs, no_pairs, pair, Links, no_links, link, OptExpr, absent, present, Fragments, no_fragments, plain, format, Parts, no_parts, text, field}
use Rattle.py_syntax.specs.Tree.{Constant, c_int, c_str, c_none, c_bool, Pattern, literal, capture, wild, member, sequence, p_or, p_as, p_paren, Patterns, no_patterns, patterns, Alias}
use Rattle.py_changes.specs.Same.{same_bool, same_int, same_operator, same_comparison_operator, same_comparison, same_sign, same_brackets, same_list, same_option, same_texts, same_alias, same_expr, same_exprs, same_pairs, same_links, same_opt, same_fragments, same_parts, same_maybe, same_constant, same_pattern, same_patterns}

pub no : {A : Type 0} → IsTrue false → A
no h = absurd cc

-- two functions of equal arguments
pub two : {A B C : Type 0} (f : A → B → C) {a a' : A} {b b' : B} → a ≡ a' → b ≡ b' → f a b ≡ f a' b'
two f p q = cc

pub three : {A B C D : Type 0} (f : A → B → C → D) {a a' : A} {b b' : B} {c c' : C} → a ≡ a'
    → b ≡ b' → c ≡ c' → f a b c ≡ f a' b' c'
three f p q r = cc

-- both parts of a test
pub both : (a b : Bool) → IsTrue (a && b) → IsTrue a × IsTrue b
both a b h = (first_true a b h, second_true a b h)

pub number-is : (m n : ℕ) → IsTrue (nat_eq m n) → m ≡ n
number-is m n h = eqb-true m n h

pub bool-is : (a b : Bool) → IsTrue (same_bool a b) → a ≡ b
bool-is true true h = refl
bool-is false false h = refl
bool-is true false h = no h
bool-is false true h = no h

pub int-is : (a b : ℤ) → IsTrue (same_int a b) → a ≡ b
int-is (pos m) (pos n) h = ap pos (number-is m n h)
int-is (negsuc m) (negsuc n) h = ap negsuc (number-is m n h)
int-is (pos m) (negsuc n) h = no h
int-is (negsuc m) (pos n) h = no h

pub operator-is : (a b : BinOp) → IsTrue (same_operator a b) → a ≡ b
operator-is Add Add h = refl
operator-is Sub Sub h = refl
operator-is Mul Mul h = refl
operator-is Floor Floor h = refl
operator-is Mod Mod h = refl
operator-is a b h = no h

cmp-is : (a b : CmpOp) → IsTrue (same_comparison_operator a b) → a ≡ b
cmp-is Eq Eq h = refl
cmp-is Ne Ne h = refl
cmp-is Lt Lt h = refl
cmp-is Le Le h = refl
cmp-is Gt Gt h = refl
cmp-is Ge Ge h = refl
cmp-is In In h = refl
cmp-is NotIn NotIn h = refl
cmp-is a b h = no h

comparison-is : (a b : Comparison) → IsTrue (same_comparison a b) → a ≡ b
comparison-is (Op a) (Op b) h = ap Op (cmp-is a b h)
comparison-is Is Is h = refl
comparison-is IsNot IsNot h = refl
comparison-is a b h = no h

sign-is : (a b : Sign) → IsTrue (same_sign a b) → a ≡ b
sign-is Minus Minus h = refl
sign-is Plus Plus h = refl
sign-is a b h = no h

brackets-is : (a b : Brackets) → IsTrue (same_brackets a b) → a ≡ b
brackets-is Round Round h = refl
brackets-is Square Square h = refl
brackets-is Bare Bare h = refl
brackets-is a b h = no h

pub text-is : (x y : Text) → IsTrue (is_same_text x y) → x ≡ y
text-is x y h = same_text x y h

pub list-is : {A : Type 0} (same : A → A → Bool) → ((a b : A) → IsTrue (same a b) → a ≡ b)
    → (us bs : List A) → IsTrue (same_list same us bs) → us ≡ bs
list-is same is [] [] h = refl
list-is same is (a ∷ us) (b ∷ bs) h =
    let t = both (same a b) (same_list same us bs) h in two (λ x xs. x ∷ xs) (is a b t.0)
    (list-is same is us bs t.1)
list-is same is [] (b ∷ bs) h = no h
list-is same is (a ∷ us) [] h = no h

pub option-is : {A : Type 0} (same : A → A → Bool) → ((a b : A) → IsTrue (same a b) → a ≡ b)
    → (a b : Option A) → IsTrue (same_option same a b) → a ≡ b
option-is same is None None h = refl
option-is same is (Some a) (Some b) h = ap Some (is a b h)
option-is same is None (Some b) h = no h
option-is same is (Some a) None h = no h

pub texts-is : (xs ys : List Text) → IsTrue (same_texts xs ys) → xs ≡ ys
texts-is xs ys h = list-is is_same_text text-is xs ys h

pub alias-is : (a b : Alias) → IsTrue (same_alias a b) → a ≡ b
alias-is a b h =
    let t = both (is_same_text a.name b.name) (same_option is_same_text a.bound b.bound) h in
    two (λ x y. record { name = x; bound = y }) (text-is a.name b.name t.0)
    (option-is is_same_text text-is a.bound b.bound t.1)

mutual
  pub expr-is : (a b : Expr) → IsTrue (same_expr a b) → a ≡ b
  expr-is (name x) (name y) h = ap name (text-is x y h)
  expr-is (int m) (int n) h = ap int (int-is m n h)
  expr-is (str ps) (str qs) h = ap str (texts-is ps qs h)
  expr-is (fstr fs) (fstr gs) h = ap fstr (fragments-is fs gs h)
  expr-is none none h = refl
  expr-is (bool b) (bool c) h = ap bool (bool-is b c h)
  expr-is (tuple es c) (tuple fs d) h =
      let t = both (same_exprs es fs) (same_bool c d) h in two tuple (exprs-is es fs t.0)
      (bool-is c d t.1)
  expr-is (list es c) (list fs d) h =
      let t = both (same_exprs es fs) (same_bool c d) h in two list (exprs-is es fs t.0)
      (bool-is c d t.1)
  expr-is (dict ps c) (dict qs d) h =
      let t = both (same_pairs ps qs) (same_bool c d) h in two dict (pairs-is ps qs t.0)
      (bool-is c d t.1)
  expr-is (paren e) (paren f) h = ap paren (expr-is e f h)
  expr-is (not' e) (not' f) h = ap not' (expr-is e f h)
  expr-is (and a b) (and c d) h =
      let t = both (same_expr a c) (same_expr b d) h in two and (expr-is a c t.0) (expr-is b d t.1)
  expr-is (or a b) (or c d) h =
      let t = both (same_expr a c) (same_expr b d) h in two or (expr-is a c t.0) (expr-is b d t.1)
  expr-is (unary s e) (unary r f) h =
      let t = both (same_sign s r) (same_expr e f) h in two unary (sign-is s r t.0)
      (expr-is e f t.1)
  expr-is (binary op a b) (binary oq c d) h =
      let t = both (same_operator op oq) (same_expr a c && same_expr b d) h in
      let u = both (same_expr a c) (same_expr b d) t.1 in
      three binary (operator-is op oq t.0) (expr-is a c u.0) (expr-is b d u.1)
  expr-is (compare a ls) (compare b ms) h =
      let t = both (same_expr a b) (same_links ls ms) h in two compare (expr-is a b t.0)
      (links-is ls ms t.1)
  expr-is (cond a b c) (cond d e f) h =
      let t = both (same_expr a d) (same_expr b e && same_expr c f) h in
      let u = both (same_expr b e) (same_expr c f) t.1 in
      three cond (expr-is a d t.0) (expr-is b e u.0) (expr-is c f u.1)
  expr-is (call f es c) (call g fs d) h =
      let t = both (same_expr f g) (same_exprs es fs && same_bool c d) h in
      let u = both (same_exprs es fs) (same_bool c d) t.1 in
      three call (expr-is f g t.0) (exprs-is es fs u.0) (bool-is c d u.1)
  expr-is (index f e) (index g d) h =
      let t = both (same_expr f g) (same_expr e d) h in two index (expr-is f g t.0)
      (expr-is e d t.1)
  expr-is (slice f a b) (slice g c d) h =
      let t = both (same_expr f g) (same_opt a c && same_opt b d) h in
      let u = both (same_opt a c) (same_opt b d) t.1 in
      three slice (expr-is f g t.0) (opt-is a c u.0) (opt-is b d u.1)
  expr-is (attr f x) (attr g y) h =
      let t = both (same_expr f g) (is_same_text x y) h in two attr (expr-is f g t.0)
      (text-is x y t.1)
  expr-is a b h = no h

  pub exprs-is : (a b : Exprs) → IsTrue (same_exprs a b) → a ≡ b
  exprs-is no_exprs no_exprs h = refl
  exprs-is (exprs e es) (exprs f fs) h =
      let t = both (same_expr e f) (same_exprs es fs) h in two exprs (expr-is e f t.0)
      (exprs-is es fs t.1)
  exprs-is a b h = no h

  pairs-is : (a b : Pairs) → IsTrue (same_pairs a b) → a ≡ b
  pairs-is no_pairs no_pairs h = refl
  pairs-is (pair k e ps) (pair j f qs) h =
      let t = both (same_expr k j) (same_expr e f && same_pairs ps qs) h in
      let u = both (same_expr e f) (same_pairs ps qs) t.1 in
      three pair (expr-is k j t.0) (expr-is e f u.0) (pairs-is ps qs u.1)
  pairs-is a b h = no h

  links-is : (a b : Links) → IsTrue (same_links a b) → a ≡ b
  links-is no_links no_links h = refl
  links-is (link c e ls) (link d f ms) h =
      let t = both (same_comparison c d) (same_expr e f && same_links ls ms) h in
      let u = both (same_expr e f) (same_links ls ms) t.1 in
      three link (comparison-is c d t.0) (expr-is e f u.0) (links-is ls ms u.1)
  links-is a b h = no h

  opt-is : (a b : OptExpr) → IsTrue (same_opt a b) → a ≡ b
  opt-is absent absent h = refl
  opt-is (present e) (present f) h = ap present (expr-is e f h)
  opt-is a b h = no h

  fragments-is : (a b : Fragments) → IsTrue (same_fragments a b) → a ≡ b
  fragments-is no_fragments no_fragments h = refl
  fragments-is (plain x fs) (plain y gs) h =
      let t = both (is_same_text x y) (same_fragments fs gs) h in two plain (text-is x y t.0)
      (fragments-is fs gs t.1)
  fragments-is (format ps fs) (format qs gs) h =
      let t = both (same_parts ps qs) (same_fragments fs gs) h in two format (parts-is ps qs t.0)
      (fragments-is fs gs t.1)
  fragments-is a b h = no h

  parts-is : (a b : Parts) → IsTrue (same_parts a b) → a ≡ b
  parts-is no_parts no_parts h = refl
  parts-is (text x ps) (text y qs) h =
      let t = both (is_same_text x y) (same_parts ps qs) h in two text (text-is x y t.0)
      (parts-is ps qs t.1)
  parts-is (field e ps) (field f qs) h =
      let t = both (same_expr e f) (same_parts ps qs) h in two field (expr-is e f t.0)
      (parts-is ps qs t.1)
  parts-is a b h = no h

pub maybe-is : (a b : Option Expr) → IsTrue (same_maybe a b) → a ≡ b
maybe-is a b h = option-is same_expr expr-is a b h

constant-is : (a b : Constant) → IsTrue (same_constant a b) → a ≡ b
constant-is (c_int m) (c_int n) h = ap c_int (int-is m n h)
constant-is (c_str ps) (c_str qs) h = ap c_str (texts-is ps qs h)
constant-is c_none c_none h = refl
constant-is (c_bool b) (c_bool c) h = ap c_bool (bool-is b c h)
constant-is a b h = no h

mutual
  pub pattern-is : (a b : Pattern) → IsTrue (same_pattern a b) → a ≡ b
  pattern-is (literal m c) (literal n d) h =
      let t = both (same_bool m n) (same_constant c d) h in two literal (bool-is m n t.0)
      (constant-is c d t.1)
  pattern-is (capture x) (capture y) h = ap capture (text-is x y h)
  pattern-is wild wild h = refl
  pattern-is (member m x) (member n y) h =
      let t = both (is_same_text m n) (is_same_text x y) h in two member (text-is m n t.0)
      (text-is x y t.1)
  pattern-is (sequence b ps c) (sequence d qs e) h =
      let t = both (same_brackets b d) (same_patterns ps qs && same_bool c e) h in
      let u = both (same_patterns ps qs) (same_bool c e) t.1 in
      three sequence (brackets-is b d t.0) (patterns-is ps qs u.0) (bool-is c e u.1)
  pattern-is (p_or ps) (p_or qs) h = ap p_or (patterns-is ps qs h)
  pattern-is (p_as p x) (p_as q y) h =
      let t = both (same_pattern p q) (is_same_text x y) h in two p_as (pattern-is p q t.0)
      (text-is x y t.1)
  pattern-is (p_paren p) (p_paren q) h = ap p_paren (pattern-is p q h)
  pattern-is a b h = no h

  patterns-is : (a b : Patterns) → IsTrue (same_patterns a b) → a ≡ b
  patterns-is no_patterns no_patterns h = refl
  patterns-is (patterns p ps) (patterns q qs) h =
      let t = both (same_pattern p q) (same_patterns ps qs) h in two patterns (pattern-is p q t.0)
      (patterns-is ps qs t.1)
  patterns-is a b h = no h
