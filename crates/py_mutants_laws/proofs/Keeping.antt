-- Mutants of normal expressions are normal, and stand where these do.
use Rattle.std.proofs.Common.{◌≡◌, suc, ◌≤◌, Bool, true, ◌&&◌, Option, Some, None, refl, ap, subst}
use Rattle.py_operator.specs.declared.operator.BinOp.{BinOp}
use Rattle.py_operator.specs.declared.operator.BinOp.TheVariants.{Add, Sub, Mul, Floor, Mod}
use Rattle.py_operator.specs.declared.operator.CmpOp.TheVariants.{Eq, Ne, Lt, Le, Gt, Ge, In, NotIn}
use Rattle.py_syntax.specs.declared.expr.Comparison.{Comparison}
use Rattle.py_syntax.specs.declared.expr.Comparison.TheVariants.{Op, Is, IsNot}
use Rattle.py_syntax.specs.Tree.{Expr, name, int, str, fstr, none, bool, tuple, list, dict, paren, not', and, or, unary, binary, compare, cond, call, index, slice, attr, Exprs, no_exprs, exprs, Pairs, no_pairs, pair, Links, no_links, link, OptExpr, absent, present, Fragments, no_fragments, plain, format, Parts, no_parts, text, field}
use Rattle.py_syntax.specs.Normal.{Precedence, rank, precedence, At, Compared, HasFormat, Normal, NormalLinks, NormalItems, NormalEntries, EachEntry, NormalBound, NormalFragments, NormalParts, is_target, are_targets, is_place}
use Rattle.py_syntax.specs.Normal as normal_
use Rattle.py_changes.specs.Mutants.{around, other_operator, operator_change, comparison_change, number_change, truth_change, expr_mutants, exprs_mutants, pairs_mutants, links_mutants, opt_mutants, fragments_mutants, parts_mutants, maybe_mutants}
use Rattle.py_changes.proofs.MutantLaws.{Each, each-mapped, each-joined}
use Rattle.py_mutants_laws.proofs.Naming.{each-around}
use Rattle.py_mutants_laws.proofs.Versions.{Kept, KeptAll, KeptMaybe}

-- an expression of the same precedence stands in the same places
at : (p : Precedence) {e f : Expr} → Kept e f → At p e → At p f
at p h n = subst (λ q. rank p ≤ rank q) h.level n

-- of an expression and its mutant
as-form : {e f : Expr} → precedence e ≡ precedence f → (Normal e → Normal f)
    → is_target e ≡ is_target f → is_place e ≡ is_place f → Kept e f
as-form l n t p = record { level = l; normal = n; target = t; place = p }

operator-kept : (op : BinOp) (a b : Expr) → Kept (binary op a b) (binary (other_operator op) a b)
operator-kept Add a b = as-form refl (λ n. n) refl refl
operator-kept Sub a b = as-form refl (λ n. n) refl refl
operator-kept Mul a b = as-form refl (λ n. n) refl refl
operator-kept Floor a b = as-form refl (λ n. n) refl refl
operator-kept Mod a b = as-form refl (λ n. n) refl refl

comparison-kept : (op : Comparison)
    → Each (λ oq. (e : Expr) → Compared op e → Compared oq e) (comparison_change op)
comparison-kept (Op Eq) = (λ e n. n, tt)
comparison-kept (Op Ne) = (λ e n. n, tt)
comparison-kept (Op Lt) = (λ e n. n, tt)
comparison-kept (Op Le) = (λ e n. n, tt)
comparison-kept (Op Gt) = (λ e n. n, tt)
comparison-kept (Op Ge) = (λ e n. n, tt)
comparison-kept (Op In) = tt
comparison-kept (Op NotIn) = tt
comparison-kept Is = tt
comparison-kept IsNot = tt

-- the keys and values of a dict
abbrev KeptPairs : Pairs → Pairs → Type 0
KeptPairs ps qs =
    ((c : Bool) → NormalEntries ps c → NormalEntries qs c) × (EachEntry ps → EachEntry qs)

-- a chain of comparisons
abbrev KeptLinks : Links → Links → Type 0
KeptLinks ls ms =
    ((a : Expr) → Normal (compare a ls) → Normal (compare a ms)) ×
    (NormalLinks ls → NormalLinks ms)

-- the pieces of an f-string
abbrev KeptFragments : Fragments → Fragments → Type 0
KeptFragments fs gs = (HasFormat fs → HasFormat gs) × (NormalFragments fs → NormalFragments gs)

compare-first : (a x : Expr) (ls : Links) → Kept a x → Normal (compare a ls) → Normal
    (compare x ls)
compare-first a x no_links h n = n
compare-first a x (link op e ls) h n = (at normal_.LSum h n.0, h.normal n.1, n.2, n.3, n.4)

tuple-first : (e x : Expr) (es : Exprs) (c : Bool) → Kept e x → Normal (tuple (exprs e es) c)
    → Normal (tuple (exprs x es) c)
tuple-first e x no_exprs c h n = (at normal_.LExpr h n.0, h.normal n.1, n.2)
tuple-first e x (exprs d ds) c h n = (at normal_.LExpr h n.0, h.normal n.1, n.2, n.3, n.4)

mutual
  pub expr-kept : (e : Expr) → Each (Kept e) (expr_mutants e)
  expr-kept (name x) = tt
  expr-kept (str ps) = tt
  expr-kept none = tt
  expr-kept (int n) =
      each-around (Kept (int n)) (λ z. int z)
      (λ z. as-form refl (λ n. n) refl refl)
      (number_change n)
  expr-kept (fstr fs) =
      each-mapped (Kept (fstr fs)) (λ z. fstr z) (KeptFragments fs)
      (λ z h. as-form refl (λ n. (h.0 n.0, h.1 n.1)) refl refl) (fragments_mutants fs)
      (fragments-kept fs)
  expr-kept (bool b) =
      each-around (Kept (bool b)) (λ z. bool z)
      (λ z. as-form refl (λ n. n) refl refl)
      (truth_change b)
  expr-kept (tuple es c) =
      each-mapped (Kept (tuple es c)) (λ z. tuple z c) (KeptAll es)
      (λ z h. as-form (h.level c) (h.spread c) h.targets refl)
      (exprs_mutants es) (exprs-kept es)
  expr-kept (list es c) =
      each-mapped (Kept (list es c)) (λ z. list z c) (KeptAll es)
      (λ z h. as-form refl (h.items c) h.targets refl)
      (exprs_mutants es) (exprs-kept es)
  expr-kept (dict ps c) =
      each-mapped (Kept (dict ps c)) (λ z. dict z c) (KeptPairs ps)
      (λ z h. as-form refl (h.0 c) refl refl)
      (pairs_mutants ps) (pairs-kept ps)
  expr-kept (paren e) =
      each-mapped (Kept (paren e)) (λ z. paren z) (Kept e)
      (λ z h. as-form refl h.normal h.target refl)
      (expr_mutants e) (expr-kept e)
  expr-kept (not' e) =
      each-mapped (Kept (not' e)) (λ z. not' z) (Kept e)
      (λ z h. as-form refl (λ n. (at normal_.LNot h n.0, h.normal n.1)) refl refl)
      (expr_mutants e)
      (expr-kept e)
  expr-kept (and a b) =
      each-joined (Kept (and a b)) (around (λ z. and z b) (expr_mutants a)) _ (each-mapped (Kept
      (and a b)) (λ z. and z b) (Kept a)
      (λ z h. as-form refl (λ n. (at normal_.LAnd h n.0, h.normal n.1, n.2, n.3)) refl refl)
      (expr_mutants a) (expr-kept a))
      (each-mapped (Kept (and a b)) (λ z. and a z) (Kept b)
      (λ z h. as-form refl (λ n. (n.0, n.1, at normal_.LNot h n.2, h.normal n.3)) refl refl)
      (expr_mutants b) (expr-kept b))
  expr-kept (or a b) =
      each-joined (Kept (or a b)) (around (λ z. or z b) (expr_mutants a)) _ (each-mapped (Kept
      (or a b)) (λ z. or z b) (Kept a)
      (λ z h. as-form refl (λ n. (at normal_.LOr h n.0, h.normal n.1, n.2, n.3)) refl refl)
      (expr_mutants a) (expr-kept a))
      (each-mapped (Kept (or a b)) (λ z. or a z) (Kept b)
      (λ z h. as-form refl (λ n. (n.0, n.1, at normal_.LAnd h n.2, h.normal n.3)) refl refl)
      (expr_mutants b) (expr-kept b))
  expr-kept (unary s e) =
      each-mapped (Kept (unary s e)) (λ z. unary s z) (Kept e)
      (λ z h. as-form refl (λ n. (at normal_.LUnary h n.0, h.normal n.1)) refl refl)
      (expr_mutants e)
      (expr-kept e)
  expr-kept (binary op a b) =
      each-joined (Kept (binary op a b)) (around (λ z. binary op z b) (expr_mutants a)) _
      (each-mapped (Kept (binary op a b)) (λ z. binary op z b) (Kept a)
      (λ z h. as-form refl (λ n. (at (normal_.op_precedence op) h n.0, h.normal n.1, n.2, n.3))
      refl refl) (expr_mutants a)
      (expr-kept a))
      (each-joined (Kept (binary op a b)) (around (λ z. binary z a b) (operator_change op)) _
      (operator-kept op a b, tt)
      (each-mapped (Kept (binary op a b)) (λ z. binary op a z) (Kept b)
      (λ z h. as-form refl (λ n. (
        n.0,
        n.1,
        at (normal_.right_precedence op)
            h n.2,
        h.normal n.3,
      )) refl refl) (expr_mutants b) (expr-kept b)))
  expr-kept (compare a ls) =
      each-joined (Kept (compare a ls)) (around (λ z. compare z ls) (expr_mutants a)) _
      (each-mapped (Kept (compare a ls)) (λ z. compare z ls) (Kept a)
      (λ z h. as-form refl (compare-first a z ls h) refl refl) (expr_mutants a) (expr-kept a))
      (each-mapped (Kept (compare a ls)) (λ z. compare a z) (KeptLinks ls)
      (λ z h. as-form refl (h.0 a) refl refl)
      (links_mutants ls) (links-kept ls))
  expr-kept (cond a b c) =
      each-joined (Kept (cond a b c)) (around (λ z. cond z b c) (expr_mutants a)) _ (each-mapped
      (Kept (cond a b c)) (λ z. cond z b c) (Kept a)
      (λ z h. as-form refl (λ n. (at normal_.LOr h n.0, h.normal n.1, n.2, n.3, n.4, n.5))
      refl refl)
      (expr_mutants a) (expr-kept a))
      (each-joined (Kept (cond a b c)) (around (λ z. cond a z c) (expr_mutants b)) _ (each-mapped
      (Kept (cond a b c)) (λ z. cond a z c) (Kept b)
      (λ z h. as-form refl (λ n. (n.0, n.1, at normal_.LOr h n.2, h.normal n.3, n.4, n.5))
      refl refl)
      (expr_mutants b) (expr-kept b))
      (each-mapped (Kept (cond a b c)) (λ z. cond a b z) (Kept c)
      (λ z h. as-form refl (λ n. (n.0, n.1, n.2, n.3, at normal_.LExpr h n.4, h.normal n.5))
      refl refl)
      (expr_mutants c) (expr-kept c)))
  expr-kept (call f es c) =
      each-joined (Kept (call f es c)) (around (λ z. call z es c) (expr_mutants f)) _ (each-mapped
      (Kept (call f es c)) (λ z. call z es c) (Kept f)
      (λ z h. as-form refl (λ n. (at normal_.LPost h n.0, h.normal n.1, n.2)) refl refl)
      (expr_mutants f)
      (expr-kept f))
      (each-mapped (Kept (call f es c)) (λ z. call f z c) (KeptAll es)
      (λ z h. as-form refl (λ n. (n.0, n.1, h.items c n.2)) refl refl) (exprs_mutants es)
      (exprs-kept es))
  expr-kept (index f d) =
      each-joined (Kept (index f d)) (around (λ z. index z d) (expr_mutants f)) _ (each-mapped
      (Kept (index f d)) (λ z. index z d) (Kept f)
      (λ z h. as-form refl (λ n. (at normal_.LPost h n.0, h.normal n.1, n.2)) refl refl)
      (expr_mutants f)
      (expr-kept f))
      (each-mapped (Kept (index f d)) (λ z. index f z) (Kept d)
      (λ z h. as-form refl (λ n. (n.0, n.1, h.normal n.2)) refl refl) (expr_mutants d)
      (expr-kept d))
  expr-kept (slice f a b) =
      each-joined (Kept (slice f a b)) (around (λ z. slice z a b) (expr_mutants f)) _ (each-mapped
      (Kept (slice f a b)) (λ z. slice z a b) (Kept f)
      (λ z h. as-form refl (λ n. (at normal_.LPost h n.0, h.normal n.1, n.2, n.3)) refl refl)
      (expr_mutants f) (expr-kept f))
      (each-joined (Kept (slice f a b)) (around (λ z. slice f z b) (opt_mutants a)) _ (each-mapped
      (Kept (slice f a b)) (λ z. slice f z b) (λ z. NormalBound a → NormalBound z)
      (λ z h. as-form refl (λ n. (n.0, n.1, h n.2, n.3)) refl refl) (opt_mutants a) (opt-kept a))
      (each-mapped (Kept (slice f a b)) (λ z. slice f a z) (λ z. NormalBound b → NormalBound z)
      (λ z h. as-form refl (λ n. (n.0, n.1, n.2, h n.3)) refl refl) (opt_mutants b) (opt-kept b)))
  expr-kept (attr f x) =
      each-mapped (Kept (attr f x)) (λ z. attr z x) (Kept f)
      (λ z h. as-form refl (λ n. (at normal_.LPost h n.0, h.normal n.1)) refl refl)
      (expr_mutants f)
      (expr-kept f)

  pub exprs-kept : (es : Exprs) → Each (KeptAll es) (exprs_mutants es)
  exprs-kept no_exprs = tt
  exprs-kept (exprs e es) =
      each-joined (KeptAll (exprs e es)) (around (λ x. exprs x es) (expr_mutants e)) _
      (each-mapped (KeptAll (exprs e es)) (λ x. exprs x es) (Kept e)
      (λ x h. record {
        each = λ n. (at normal_.LExpr h n.0, h.normal n.1, n.2);
        counted = refl;
        targets = ap (λ b. b && are_targets es) h.target;
        items = λ c n. (at normal_.LExpr h n.0, h.normal n.1, n.2);
        level = λ c. refl;
        spread = λ c. tuple-first e x es c h;
        after = λ d c n. (n.0, n.1, at normal_.LExpr h n.2, h.normal n.3, n.4);
        assigned = λ n. (h.normal n.0, subst (λ b. b ≡ true) h.target n.1, n.2);
        assigns = λ g n. ((h.normal n.0.0, subst (λ b. b ≡ true) h.target n.0.1, n.0.2), n.1);
        defaults = λ p. absurd cc;
      }) (expr_mutants e) (expr-kept e))
      (each-mapped (KeptAll (exprs e es)) (λ fs. exprs e fs) (KeptAll es)
      (λ fs h. record {
        each = λ n. (n.0, n.1, h.each n.2);
        counted = ap suc h.counted;
        targets = ap (λ b. is_target e && b) h.targets;
        items = λ c n. (n.0, n.1, h.each n.2);
        level = λ c. refl;
        spread = λ c. h.after e c;
        after = λ d c n. (n.0, n.1, n.2, n.3, h.each n.4);
        assigned = λ n. (n.0, n.1, h.assigned n.2);
        assigns = λ g n. ((n.0.0, n.0.1, h.assigned n.0.2), n.1);
        defaults = λ p. absurd cc;
      }) (exprs_mutants es) (exprs-kept es))

  pairs-kept : (v : Pairs) → Each (KeptPairs v) (pairs_mutants v)
  pairs-kept no_pairs = tt
  pairs-kept (pair k d ps) =
      each-joined (KeptPairs (pair k d ps)) (around (λ z. pair z d ps) (expr_mutants k)) _
      (each-mapped (KeptPairs (pair k d ps)) (λ z. pair z d ps) (Kept k)
      (λ z h. (
        λ c n. (at normal_.LExpr h n.0, h.normal n.1, n.2, n.3, n.4),
        λ n.
            (at normal_.LExpr h n.0, h.normal n.1, n.2, n.3, n.4),
      )) (expr_mutants k) (expr-kept k))
      (each-joined (KeptPairs (pair k d ps)) (around (λ z. pair k z ps) (expr_mutants d)) _
      (each-mapped (KeptPairs (pair k d ps)) (λ z. pair k z ps) (Kept d)
      (λ z h. (
        λ c n. (n.0, n.1, at normal_.LExpr h n.2, h.normal n.3, n.4),
        λ n.
            (n.0, n.1, at normal_.LExpr h n.2, h.normal n.3, n.4),
      )) (expr_mutants d) (expr-kept d))
      (each-mapped (KeptPairs (pair k d ps)) (λ z. pair k d z) (KeptPairs ps)
      (λ z h. (λ c n. (n.0, n.1, n.2, n.3, h.1 n.4), λ n. (n.0, n.1, n.2, n.3, h.1 n.4)))
      (pairs_mutants ps) (pairs-kept ps)))

  links-kept : (v : Links) → Each (KeptLinks v) (links_mutants v)
  links-kept no_links = tt
  links-kept (link (Op op) d ls) =
      each-joined (KeptLinks (link (Op op) d ls)) (around (λ z. link z d ls) (comparison_change
      (Op op))) _ (each-mapped (KeptLinks (link (Op op) d ls)) (λ z. link z d ls) (λ z. (e : Expr)
      → Compared (Op op) e → Compared z e)
      (λ z h. (λ a n. (n.0, n.1, h d n.2, n.3, n.4), λ n. (h d n.0, n.1, n.2))) (comparison_change
      (Op op)) (comparison-kept (Op op)))
      (each-joined (KeptLinks (link (Op op) d ls)) (around (λ z. link (Op op) z ls)
      (expr_mutants d)) _ (each-mapped (KeptLinks (link (Op op) d ls)) (λ z. link (Op op) z ls)
      (Kept d)
      (λ z h. (
        λ a n. (n.0, n.1, at normal_.LSum h n.2, h.normal n.3, n.4),
        λ n.
            (at normal_.LSum h n.0, h.normal n.1, n.2),
      )) (expr_mutants d) (expr-kept d))
      (each-mapped (KeptLinks (link (Op op) d ls)) (λ z. link (Op op) d z) (KeptLinks ls)
      (λ z h. (λ a n. (n.0, n.1, n.2, n.3, h.1 n.4), λ n. (n.0, n.1, h.1 n.2))) (links_mutants ls)
      (links-kept ls)))
  links-kept (link Is d ls) =
      each-mapped (KeptLinks (link Is d ls)) (λ z. link Is d z) (KeptLinks ls)
      (λ z h. (λ a n. (n.0, n.1, n.2, n.3, h.1 n.4), λ n. (n.0, n.1, h.1 n.2))) (links_mutants ls)
      (links-kept ls)
  links-kept (link IsNot d ls) =
      each-mapped (KeptLinks (link IsNot d ls)) (λ z. link IsNot d z) (KeptLinks ls)
      (λ z h. (λ a n. (n.0, n.1, n.2, n.3, h.1 n.4), λ n. (n.0, n.1, h.1 n.2))) (links_mutants ls)
      (links-kept ls)

  opt-kept : (v : OptExpr) → Each (λ z. NormalBound v → NormalBound z) (opt_mutants v)
  opt-kept absent = tt
  opt-kept (present e) =
      each-mapped (λ w. NormalBound (present e) → NormalBound w) (λ z. present z) (Kept e)
      (λ z h. λ n. (at normal_.LExpr h n.0, h.normal n.1)) (expr_mutants e) (expr-kept e)

  fragments-kept : (v : Fragments) → Each (KeptFragments v) (fragments_mutants v)
  fragments-kept no_fragments = tt
  fragments-kept (plain x fs) =
      each-mapped (KeptFragments (plain x fs)) (λ z. plain x z) (KeptFragments fs)
      (λ z h. h) (fragments_mutants fs) (fragments-kept fs)
  fragments-kept (format ps fs) =
      each-joined (KeptFragments (format ps fs)) (around (λ z. format z fs) (parts_mutants ps)) _
      (each-mapped (KeptFragments (format ps fs)) (λ z. format z fs)
      (λ z. NormalParts ps → NormalParts z)
      (λ z h. (λ n. n, λ n. (h n.0, n.1))) (parts_mutants ps) (parts-kept ps))
      (each-mapped (KeptFragments (format ps fs)) (λ z. format ps z) (KeptFragments fs)
      (λ z h. (λ n. n, λ n. (n.0, h.1 n.1))) (fragments_mutants fs) (fragments-kept fs))

  parts-kept : (v : Parts) → Each (λ z. NormalParts v → NormalParts z) (parts_mutants v)
  parts-kept no_parts = tt
  parts-kept (text x ps) =
      each-mapped (λ w. NormalParts (text x ps) → NormalParts w) (λ z. text x z)
      (λ z. NormalParts ps → NormalParts z)
      (λ z h. h) (parts_mutants ps) (parts-kept ps)
  parts-kept (field e ps) =
      each-joined (λ w. NormalParts (field e ps) → NormalParts w) (around (λ z. field z ps)
      (expr_mutants e)) _ (each-mapped (λ w. NormalParts (field e ps) → NormalParts w)
      (λ z. field z ps) (Kept e)
      (λ z h. λ n. (h.normal n.0, n.1)) (expr_mutants e) (expr-kept e))
      (each-mapped (λ w. NormalParts (field e ps) → NormalParts w) (λ z. field e z)
      (λ z. NormalParts ps → NormalParts z)
      (λ z h. λ n. (n.0, h n.1)) (parts_mutants ps) (parts-kept ps))

pub maybe-kept : (e : Option Expr) → Each (KeptMaybe e) (maybe_mutants e)
maybe-kept None = tt
maybe-kept (Some e) =
    each-mapped (KeptMaybe (Some e)) (λ x. Some x) (Kept e)
    (λ x h. record {
      loose = h.normal;
      tight = λ n. (at normal_.LExpr h n.0, h.normal n.1);
      clause = λ y n. (at normal_.LExpr h n.0, h.normal n.1);
    }) (expr_mutants e) (expr-kept e)
