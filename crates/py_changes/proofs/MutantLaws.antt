-- Each mutant of an expression differs from it.
use Rattle.std.proofs.Common.{◌≡◌, ℤ, pos, ◌+ℤ◌, ◌-ℤ◌, int_eq, Bool, true, false, not, ◌&&◌, if◌then◌else◌, IsTrue, List, [], ◌∷◌, ◌++◌, map, refl, sym, ap, ◌∙◌, subst}
use Rattle.std.specs.List.{AllByRecursion}
use Rattle.std.proofs.Math.IntN.{+ℤ-neg_ℤ_cancel, +ℤ_comm, +ℤ_idl}
use Rattle.py_operator.specs.declared.operator.BinOp.{BinOp}
use Rattle.py_operator.specs.declared.operator.BinOp.TheVariants.{Add, Sub, Mul, Floor, Mod}
use Rattle.py_operator.specs.declared.operator.CmpOp.TheVariants.{Eq, Ne, Lt, Le, Gt, Ge, In, NotIn}
use Rattle.py_text.specs.Comparison.{is_same_text}
use Rattle.py_syntax.specs.declared.expr.Comparison.{Comparison}
use Rattle.py_syntax.specs.declared.expr.Comparison.TheVariants.{Op, Is, IsNot}
use Rattle.py_syntax.specs.Tree.{Expr, name, int, str, fstr, none, bool, tuple, list, dict, paren, not', and, or, unary, binary, compare, cond, call, index, slice, attr, Exprs, no_exprs, exprs, Pairs, no_pairs, pair, Links, no_links, link, OptExpr, absent, present, Fragments, no_fragments, plain, format, Parts, no_parts, text, field}
use Rattle.py_changes.specs.Same.{same_bool, same_int, same_operator, same_comparison, same_sign, same_expr, same_exprs, same_pairs, same_links, same_opt, same_fragments, same_parts}
use Rattle.py_changes.specs.Mutants.{Changes, around, operator_change, comparison_change, number_change, truth_change, other_operator, other_number, where_operands, expr_mutants, exprs_mutants, pairs_mutants, links_mutants, opt_mutants, fragments_mutants, parts_mutants, MutantsDiffer}
use Rattle.py_changes.proofs.SameLaws.{no, int-is}
use Rattle.std.proofs.lemmas.List.Elements.{All-from_recursion}
use Rattle.py_changes.proofs.Lists.{all-joined}
use Rattle.py_changes.proofs.SameItself.{expr-self}

left-false : (a b : Bool) → a ≡ false → (a && b) ≡ false
left-false true b h = absurd cc
left-false false b h = refl

right-false : (a b : Bool) → b ≡ false → (a && b) ≡ false
right-false true b h = h
right-false false b h = refl

-- what holds of each tree of some mutants
abbrev pub Each : {X A : Type 0} → (A → Type 0) → List (X × A) → Type 0
Each P xs = AllByRecursion (λ x. P x.1) xs

pub each-mapped : {X A B : Type 0} (P : B → Type 0) (f : A → B) (Q : A → Type 0)
    → ((x : A) → Q x → P (f x)) → (xs : List (X × A)) → Each Q xs → Each P (around f xs)
each-mapped P f Q i [] h = tt
each-mapped P f Q i (x ∷ xs) h = (i x.1 h.0, each-mapped P f Q i xs h.1)

pub each-joined : {X A : Type 0} (P : A → Type 0) (xs ys : List (X × A)) → Each P xs → Each P ys
    → Each P (xs ++ ys)
each-joined P xs ys h k = all-joined (λ y. P y.1) xs ys h k

of-operands : {X A : Type 0} (P : A → Type 0) (op : Comparison) (xs : List (X × A)) → Each P xs
    → Each P (where_operands op xs)
of-operands P (Op op) xs h = h
of-operands P Is xs h = tt
of-operands P IsNot xs h = tt

operator-differs : (op : BinOp) → same_operator op (other_operator op) ≡ false
operator-differs Add = refl
operator-differs Sub = refl
operator-differs Mul = refl
operator-differs Floor = refl
operator-differs Mod = refl

comparison-differs : (op : Comparison)
    → Each (λ oq. same_comparison op oq ≡ false) (comparison_change op)
comparison-differs (Op Eq) = (refl, tt)
comparison-differs (Op Ne) = (refl, tt)
comparison-differs (Op Lt) = (refl, tt)
comparison-differs (Op Le) = (refl, tt)
comparison-differs (Op Gt) = (refl, tt)
comparison-differs (Op Ge) = (refl, tt)
comparison-differs (Op In) = tt
comparison-differs (Op NotIn) = tt
comparison-differs Is = tt
comparison-differs IsNot = tt

truth-differs : (b : Bool) → same_bool b (not b) ≡ false
truth-differs true = refl
truth-differs false = refl

not-same : (m n : ℤ) (b : Bool) → same_int m n ≡ b → (m ≡ n → ⊥) → b ≡ false
not-same m n true e h = absurd (h (int-is m n e))
not-same m n false e h = refl

one-more : (n : ℤ) → n ≡ n +ℤ pos 1 → ⊥
one-more n e = absurd (no (subst (λ z. IsTrue (same_int (pos 0) z)) (sym one-is-zero) refl))
  where
    one-is-zero : pos 1 ≡ pos 0
    one-is-zero =
        sym (+ℤ-neg_ℤ_cancel (pos 1) n)
        ∙ ap (λ z. z -ℤ n) (+ℤ_comm (pos 1) n ∙ sym e ∙ sym (+ℤ_idl n)) ∙ +ℤ-neg_ℤ_cancel (pos 0) n

greatest : (n : ℤ) → int_eq n (pos 9223372036854775807) ≡ true → n ≡ pos 0 → ⊥
greatest n e h = absurd (zero-is-not (subst (λ x. int_eq x (pos 9223372036854775807) ≡ true) h e))
  where
    zero-is-not : int_eq (pos 0) (pos 9223372036854775807) ≡ true → ⊥
    zero-is-not p = no p

number-case : (n : ℤ) (b : Bool) → int_eq n (pos 9223372036854775807) ≡ b
    → n ≡ (if b then pos 0 else n +ℤ pos 1) → ⊥
number-case n true e h = greatest n e h
number-case n false e h = one-more n h

number-differs : (n : ℤ) → same_int n (other_number n) ≡ false
number-differs n =
    not-same n (other_number n) (same_int n (other_number n)) refl
    (number-case n (int_eq n (pos 9223372036854775807)) refl)

mutual
  pub expr-differs : (e : Expr) → Each (λ f. same_expr e f ≡ false) (expr_mutants e)
  expr-differs (name x) = tt
  expr-differs (int n) =
      each-mapped (λ y. same_expr (int n) y ≡ false) (λ x. int x) (λ x. same_int n x ≡ false)
      (λ x h. h) (number_change n) (number-differs n, tt)
  expr-differs (str ps) = tt
  expr-differs (fstr fs) =
      each-mapped (λ y. same_expr (fstr fs) y ≡ false) (λ x. fstr x)
      (λ x. same_fragments fs x ≡ false) (λ x h. h) (fragments_mutants fs) (fragments-differ fs)
  expr-differs none = tt
  expr-differs (bool b) =
      each-mapped (λ y. same_expr (bool b) y ≡ false) (λ x. bool x) (λ x. same_bool b x ≡ false)
      (λ x h. h) (truth_change b) (truth-differs b, tt)
  expr-differs (tuple es c) =
      each-mapped (λ y. same_expr (tuple es c) y ≡ false) (λ x. tuple x c)
      (λ x. same_exprs es x ≡ false) (λ x h. left-false (same_exprs es x) (same_bool c c) h)
      (exprs_mutants es) (exprs-differ es)
  expr-differs (list es c) =
      each-mapped (λ y. same_expr (list es c) y ≡ false) (λ x. list x c)
      (λ x. same_exprs es x ≡ false) (λ x h. left-false (same_exprs es x) (same_bool c c) h)
      (exprs_mutants es) (exprs-differ es)
  expr-differs (dict ps c) =
      each-mapped (λ y. same_expr (dict ps c) y ≡ false) (λ x. dict x c)
      (λ x. same_pairs ps x ≡ false) (λ x h. left-false (same_pairs ps x) (same_bool c c) h)
      (pairs_mutants ps) (pairs-differ ps)
  expr-differs (paren e) =
      each-mapped (λ y. same_expr (paren e) y ≡ false) (λ x. paren x) (λ x. same_expr e x ≡ false)
      (λ x h. h) (expr_mutants e) (expr-differs e)
  expr-differs (not' e) =
      each-mapped (λ y. same_expr (not' e) y ≡ false) (λ x. not' x) (λ x. same_expr e x ≡ false)
      (λ x h. h) (expr_mutants e) (expr-differs e)
  expr-differs (and a b) =
      each-joined (λ y. same_expr (and a b) y ≡ false) (around (λ x. and x b) (expr_mutants a))
      (around (λ x. and a x) (expr_mutants b))
      (each-mapped (λ y. same_expr (and a b) y ≡ false) (λ x. and x b) (λ x. same_expr a x ≡ false)
      (λ x h. left-false (same_expr a x) (same_expr b b) h) (expr_mutants a) (expr-differs a))
      (each-mapped (λ y. same_expr (and a b) y ≡ false) (λ x. and a x) (λ x. same_expr b x ≡ false)
      (λ x h. right-false (same_expr a a) (same_expr b x) (h)) (expr_mutants b) (expr-differs b))
  expr-differs (or a b) =
      each-joined (λ y. same_expr (or a b) y ≡ false) (around (λ x. or x b) (expr_mutants a))
      (around (λ x. or a x) (expr_mutants b))
      (each-mapped (λ y. same_expr (or a b) y ≡ false) (λ x. or x b) (λ x. same_expr a x ≡ false)
      (λ x h. left-false (same_expr a x) (same_expr b b) h) (expr_mutants a) (expr-differs a))
      (each-mapped (λ y. same_expr (or a b) y ≡ false) (λ x. or a x) (λ x. same_expr b x ≡ false)
      (λ x h. right-false (same_expr a a) (same_expr b x) (h)) (expr_mutants b) (expr-differs b))
  expr-differs (unary s e) =
      each-mapped (λ y. same_expr (unary s e) y ≡ false) (λ x. unary s x)
      (λ x. same_expr e x ≡ false) (λ x h. right-false (same_sign s s) (same_expr e x) (h))
      (expr_mutants e) (expr-differs e)
  expr-differs (binary op a b) =
      each-joined (λ y. same_expr (binary op a b) y ≡ false)
      (around (λ x. binary op x b) (expr_mutants a))
      ((around (λ oq. binary oq a b) (operator_change op))
      ++ (around (λ x. binary op a x) (expr_mutants b)))
      (each-mapped (λ y. same_expr (binary op a b) y ≡ false) (λ x. binary op x b)
      (λ x. same_expr a x ≡ false)
      (λ x h. right-false (same_operator op op) (same_expr a x && same_expr b b)
      (left-false (same_expr a x) (same_expr b b) h)) (expr_mutants a) (expr-differs a))
      (each-joined (λ y. same_expr (binary op a b) y ≡ false)
      (around (λ oq. binary oq a b) (operator_change op))
      (around (λ x. binary op a x) (expr_mutants b))
      (each-mapped (λ y. same_expr (binary op a b) y ≡ false) (λ oq. binary oq a b)
      (λ oq. same_operator op oq ≡ false)
      (λ oq h. left-false (same_operator op oq) (same_expr a a && same_expr b b) h)
      (operator_change op) (operator-differs op, tt))
      (each-mapped (λ y. same_expr (binary op a b) y ≡ false) (λ x. binary op a x)
      (λ x. same_expr b x ≡ false)
      (λ x h. right-false (same_operator op op) (same_expr a a && same_expr b x)
      (right-false (same_expr a a) (same_expr b x) (h))) (expr_mutants b) (expr-differs b)))
  expr-differs (compare a ls) =
      each-joined (λ y. same_expr (compare a ls) y ≡ false)
      (around (λ x. compare x ls) (expr_mutants a)) (around (λ x. compare a x) (links_mutants ls))
      (each-mapped (λ y. same_expr (compare a ls) y ≡ false) (λ x. compare x ls)
      (λ x. same_expr a x ≡ false) (λ x h. left-false (same_expr a x) (same_links ls ls) h)
      (expr_mutants a) (expr-differs a))
      (each-mapped (λ y. same_expr (compare a ls) y ≡ false) (λ x. compare a x)
      (λ x. same_links ls x ≡ false) (λ x h. right-false (same_expr a a) (same_links ls x) (h))
      (links_mutants ls) (links-differ ls))
  expr-differs (cond a b c) =
      each-joined (λ y. same_expr (cond a b c) y ≡ false) (around (λ x. cond x b c) (expr_mutants a))
      ((around (λ x. cond a x c) (expr_mutants b))
      ++ (around (λ x. cond a b x) (expr_mutants c)))
      (each-mapped (λ y. same_expr (cond a b c) y ≡ false) (λ x. cond x b c)
      (λ x. same_expr a x ≡ false)
      (λ x h. left-false (same_expr a x) (same_expr b b && same_expr c c) h) (expr_mutants a)
      (expr-differs a))
      (each-joined (λ y. same_expr (cond a b c) y ≡ false) (around (λ x. cond a x c) (expr_mutants b))
      (around (λ x. cond a b x) (expr_mutants c))
      (each-mapped (λ y. same_expr (cond a b c) y ≡ false) (λ x. cond a x c)
      (λ x. same_expr b x ≡ false)
      (λ x h. right-false (same_expr a a) (same_expr b x && same_expr c c)
      (left-false (same_expr b x) (same_expr c c) h)) (expr_mutants b) (expr-differs b))
      (each-mapped (λ y. same_expr (cond a b c) y ≡ false) (λ x. cond a b x)
      (λ x. same_expr c x ≡ false)
      (λ x h. right-false (same_expr a a) (same_expr b b && same_expr c x)
      (right-false (same_expr b b) (same_expr c x) (h))) (expr_mutants c) (expr-differs c)))
  expr-differs (call f es c) =
      each-joined (λ y. same_expr (call f es c) y ≡ false) (around (λ x. call x es c) (expr_mutants f))
      (around (λ x. call f x c) (exprs_mutants es))
      (each-mapped (λ y. same_expr (call f es c) y ≡ false) (λ x. call x es c)
      (λ x. same_expr f x ≡ false)
      (λ x h. left-false (same_expr f x) (same_exprs es es && same_bool c c) h) (expr_mutants f)
      (expr-differs f)) (each-mapped (λ y. same_expr (call f es c) y ≡ false) (λ x. call f x c)
      (λ x. same_exprs es x ≡ false)
      (λ x h. right-false (same_expr f f) (same_exprs es x && same_bool c c)
      (left-false (same_exprs es x) (same_bool c c) h)) (exprs_mutants es) (exprs-differ es))
  expr-differs (index f e) =
      each-joined (λ y. same_expr (index f e) y ≡ false) (around (λ x. index x e) (expr_mutants f))
      (around (λ x. index f x) (expr_mutants e))
      (each-mapped (λ y. same_expr (index f e) y ≡ false) (λ x. index x e)
      (λ x. same_expr f x ≡ false) (λ x h. left-false (same_expr f x) (same_expr e e) h)
      (expr_mutants f) (expr-differs f))
      (each-mapped (λ y. same_expr (index f e) y ≡ false) (λ x. index f x)
      (λ x. same_expr e x ≡ false) (λ x h. right-false (same_expr f f) (same_expr e x) (h))
      (expr_mutants e) (expr-differs e))
  expr-differs (slice f a b) =
      each-joined (λ y. same_expr (slice f a b) y ≡ false) (around (λ x. slice x a b) (expr_mutants f))
      ((around (λ x. slice f x b) (opt_mutants a))
      ++ (around (λ x. slice f a x) (opt_mutants b)))
      (each-mapped (λ y. same_expr (slice f a b) y ≡ false) (λ x. slice x a b)
      (λ x. same_expr f x ≡ false)
      (λ x h. left-false (same_expr f x) (same_opt a a && same_opt b b) h) (expr_mutants f)
      (expr-differs f))
      (each-joined (λ y. same_expr (slice f a b) y ≡ false) (around (λ x. slice f x b) (opt_mutants a))
      (around (λ x. slice f a x) (opt_mutants b))
      (each-mapped (λ y. same_expr (slice f a b) y ≡ false) (λ x. slice f x b)
      (λ x. same_opt a x ≡ false) (λ x h. right-false (same_expr f f) (same_opt a x && same_opt b b)
      (left-false (same_opt a x) (same_opt b b) h)) (opt_mutants a) (opt-differs a))
      (each-mapped (λ y. same_expr (slice f a b) y ≡ false) (λ x. slice f a x)
      (λ x. same_opt b x ≡ false) (λ x h. right-false (same_expr f f) (same_opt a a && same_opt b x)
      (right-false (same_opt a a) (same_opt b x) (h))) (opt_mutants b) (opt-differs b)))
  expr-differs (attr f x) =
      each-mapped (λ y. same_expr (attr f x) y ≡ false) (λ z. attr z x) (λ z. same_expr f z ≡ false)
      (λ z h. left-false (same_expr f z) (is_same_text x x) h) (expr_mutants f) (expr-differs f)

  pub exprs-differ : (e : Exprs) → Each (λ f. same_exprs e f ≡ false) (exprs_mutants e)
  exprs-differ no_exprs = tt
  exprs-differ (exprs e es) =
      each-joined (λ y. same_exprs (exprs e es) y ≡ false) (around (λ x. exprs x es) (expr_mutants e))
      (around (λ x. exprs e x) (exprs_mutants es))
      (each-mapped (λ y. same_exprs (exprs e es) y ≡ false) (λ x. exprs x es)
      (λ x. same_expr e x ≡ false) (λ x h. left-false (same_expr e x) (same_exprs es es) h)
      (expr_mutants e) (expr-differs e))
      (each-mapped (λ y. same_exprs (exprs e es) y ≡ false) (λ x. exprs e x)
      (λ x. same_exprs es x ≡ false) (λ x h. right-false (same_expr e e) (same_exprs es x) (h))
      (exprs_mutants es) (exprs-differ es))

  pub pairs-differ : (e : Pairs) → Each (λ f. same_pairs e f ≡ false) (pairs_mutants e)
  pairs-differ no_pairs = tt
  pairs-differ (pair k e ps) =
      each-joined (λ y. same_pairs (pair k e ps) y ≡ false)
      (around (λ x. pair x e ps) (expr_mutants k)) ((around (λ x. pair k x ps) (expr_mutants e))
      ++ (around (λ x. pair k e x) (pairs_mutants ps)))
      (each-mapped (λ y. same_pairs (pair k e ps) y ≡ false) (λ x. pair x e ps)
      (λ x. same_expr k x ≡ false)
      (λ x h. left-false (same_expr k x) (same_expr e e && same_pairs ps ps) h) (expr_mutants k)
      (expr-differs k))
      (each-joined (λ y. same_pairs (pair k e ps) y ≡ false)
      (around (λ x. pair k x ps) (expr_mutants e)) (around (λ x. pair k e x) (pairs_mutants ps))
      (each-mapped (λ y. same_pairs (pair k e ps) y ≡ false) (λ x. pair k x ps)
      (λ x. same_expr e x ≡ false)
      (λ x h. right-false (same_expr k k) (same_expr e x && same_pairs ps ps)
      (left-false (same_expr e x) (same_pairs ps ps) h)) (expr_mutants e) (expr-differs e))
      (each-mapped (λ y. same_pairs (pair k e ps) y ≡ false) (λ x. pair k e x)
      (λ x. same_pairs ps x ≡ false)
      (λ x h. right-false (same_expr k k) (same_expr e e && same_pairs ps x)
      (right-false (same_expr e e) (same_pairs ps x) (h))) (pairs_mutants ps) (pairs-differ ps)))

  pub links-differ : (e : Links) → Each (λ f. same_links e f ≡ false) (links_mutants e)
  links-differ no_links = tt
  links-differ (link op e ls) =
      each-joined (λ y. same_links (link op e ls) y ≡ false)
      (around (λ oq. link oq e ls) (comparison_change op))
      ((around (λ x. link op x ls) (where_operands op (expr_mutants e)))
      ++ (around (λ x. link op e x) (links_mutants ls)))
      (each-mapped (λ y. same_links (link op e ls) y ≡ false) (λ oq. link oq e ls)
      (λ oq. same_comparison op oq ≡ false)
      (λ oq h. left-false (same_comparison op oq) (same_expr e e && same_links ls ls) h)
      (comparison_change op) (comparison-differs op))
      (each-joined (λ y. same_links (link op e ls) y ≡ false)
      (around (λ x. link op x ls) (where_operands op (expr_mutants e)))
      (around (λ x. link op e x) (links_mutants ls))
      (each-mapped (λ y. same_links (link op e ls) y ≡ false) (λ x. link op x ls)
      (λ x. same_expr e x ≡ false)
      (λ x h. right-false (same_comparison op op) (same_expr e x && same_links ls ls)
      (left-false (same_expr e x) (same_links ls ls) h)) (where_operands op (expr_mutants e))
      (of-operands (λ x. same_expr e x ≡ false) op (expr_mutants e) (expr-differs e)))
      (each-mapped (λ y. same_links (link op e ls) y ≡ false) (λ x. link op e x)
      (λ x. same_links ls x ≡ false)
      (λ x h. right-false (same_comparison op op) (same_expr e e && same_links ls x)
      (right-false (same_expr e e) (same_links ls x) (h))) (links_mutants ls) (links-differ ls)))

  pub opt-differs : (e : OptExpr) → Each (λ f. same_opt e f ≡ false) (opt_mutants e)
  opt-differs absent = tt
  opt-differs (present e) =
      each-mapped (λ y. same_opt (present e) y ≡ false) (λ x. present x)
      (λ x. same_expr e x ≡ false) (λ x h. h) (expr_mutants e) (expr-differs e)

  pub fragments-differ : (e : Fragments)
      → Each (λ f. same_fragments e f ≡ false) (fragments_mutants e)
  fragments-differ no_fragments = tt
  fragments-differ (plain x fs) =
      each-mapped (λ y. same_fragments (plain x fs) y ≡ false) (λ z. plain x z)
      (λ z. same_fragments fs z ≡ false)
      (λ z h. right-false (is_same_text x x) (same_fragments fs z) h) (fragments_mutants fs)
      (fragments-differ fs)
  fragments-differ (format ps fs) =
      each-joined (λ y. same_fragments (format ps fs) y ≡ false)
      (around (λ x. format x fs) (parts_mutants ps)) (around (λ x. format ps x) (fragments_mutants fs))
      (each-mapped (λ y. same_fragments (format ps fs) y ≡ false) (λ x. format x fs)
      (λ x. same_parts ps x ≡ false) (λ x h. left-false (same_parts ps x) (same_fragments fs fs) h)
      (parts_mutants ps) (parts-differ ps))
      (each-mapped (λ y. same_fragments (format ps fs) y ≡ false) (λ x. format ps x)
      (λ x. same_fragments fs x ≡ false)
      (λ x h. right-false (same_parts ps ps) (same_fragments fs x) (h)) (fragments_mutants fs)
      (fragments-differ fs))

  pub parts-differ : (e : Parts) → Each (λ f. same_parts e f ≡ false) (parts_mutants e)
  parts-differ no_parts = tt
  parts-differ (text x ps) =
      each-mapped (λ y. same_parts (text x ps) y ≡ false) (λ z. text x z)
      (λ z. same_parts ps z ≡ false) (λ z h. right-false (is_same_text x x) (same_parts ps z) h)
      (parts_mutants ps) (parts-differ ps)
  parts-differ (field e ps) =
      each-joined (λ y. same_parts (field e ps) y ≡ false) (around (λ x. field x ps) (expr_mutants e))
      (around (λ x. field e x) (parts_mutants ps))
      (each-mapped (λ y. same_parts (field e ps) y ≡ false) (λ x. field x ps)
      (λ x. same_expr e x ≡ false) (λ x h. left-false (same_expr e x) (same_parts ps ps) h)
      (expr_mutants e) (expr-differs e))
      (each-mapped (λ y. same_parts (field e ps) y ≡ false) (λ x. field e x)
      (λ x. same_parts ps x ≡ false) (λ x h. right-false (same_expr e e) (same_parts ps x) (h))
      (parts_mutants ps) (parts-differ ps))

pub mutants_differ : MutantsDiffer
mutants_differ e =
    (expr-self e, All-from_recursion (λ x. same_expr e x.1 ≡ false) (expr_mutants e) (expr-differs e))
