-- In mutants of expressions the same names occur, and none is a docstring.
use Rattle.std.proofs.Common.{◌≡◌, false, List, [], ◌∷◌, ◌++◌, Option, Some, None, refl, ap}
use Rattle.py_syntax.specs.declared.expr.Comparison.{Comparison}
use Rattle.py_syntax.specs.declared.expr.Comparison.TheVariants.{Op, Is, IsNot}
use Rattle.py_syntax.specs.Functions.{is_string}
use Rattle.py_syntax.specs.Names.{target_names, targets_names}
use Rattle.py_syntax.specs.Tree.{Expr, name, int, str, fstr, none, bool, tuple, list, dict, paren, not', and, or, unary, binary, compare, cond, call, index, slice, attr, Exprs, no_exprs, exprs, Pairs, no_pairs, pair, Links, no_links, link, OptExpr, absent, present, Fragments, no_fragments, plain, format, Parts, no_parts, text, field}
use Rattle.py_scope.specs.Occurrences.{in_expr, in_exprs, in_pairs, in_links, in_optional, in_fragments, in_parts, in_target, in_targets}
use Rattle.py_changes.specs.Mutants.{around, operator_change, comparison_change, number_change, truth_change, where_operands, expr_mutants, exprs_mutants, pairs_mutants, links_mutants, opt_mutants, fragments_mutants, parts_mutants, maybe_mutants}
use Rattle.py_changes.proofs.MutantLaws.{Each, each-mapped, each-joined}
use Rattle.py_mutants_laws.proofs.Versions.{SameNames, SameNamesAll, SameNamesMaybe}

-- what holds of all trees around some changes
pub each-around : {X A B : Type 0} (P : B → Type 0) (f : A → B) → ((x : A) → P (f x))
    → (xs : List (X × A)) → Each P (around f xs)
each-around P f h [] = tt
each-around P f h (x ∷ xs) = (h x.1, each-around P f h xs)

of-operands : {X A : Type 0} (P : A → Type 0) (op : Comparison) (xs : List (X × A)) → Each P xs
    → Each P (where_operands op xs)
of-operands P (Op op) xs h = h
of-operands P Is xs h = tt
of-operands P IsNot xs h = tt

-- of an expression and its mutant
as-form : {e f : Expr} → target_names e ≡ target_names f → is_string e ≡ false
    → is_string f ≡ false → in_expr e ≡ in_expr f → in_target e ≡ in_target f → SameNames e f
as-form p q r u a = record { targets = p; old = q; new = r; uses = u; assigned = a }

mutual
  pub expr-names : (e : Expr) → Each (SameNames e) (expr_mutants e)
  expr-names (name x) = tt
  expr-names (str ps) = tt
  expr-names none = tt
  expr-names (int n) =
      each-around (SameNames (int n)) (λ z. int z)
      (λ z. as-form refl refl refl refl refl)
      (number_change n)
  expr-names (fstr fs) =
      each-mapped (SameNames (fstr fs)) (λ z. fstr z) (λ z. in_fragments fs ≡ in_fragments z)
      (λ z h. as-form refl refl refl h h)
      (fragments_mutants fs) (fragments-names fs)
  expr-names (bool b) =
      each-around (SameNames (bool b)) (λ z. bool z)
      (λ z. as-form refl refl refl refl refl)
      (truth_change b)
  expr-names (tuple es c) =
      each-mapped (SameNames (tuple es c)) (λ z. tuple z c) (SameNamesAll es)
      (λ z h. as-form h.targets refl refl h.uses h.assigned) (exprs_mutants es) (exprs-names es)
  expr-names (list es c) =
      each-mapped (SameNames (list es c)) (λ z. list z c) (SameNamesAll es)
      (λ z h. as-form h.targets refl refl h.uses h.assigned) (exprs_mutants es) (exprs-names es)
  expr-names (dict ps c) =
      each-mapped (SameNames (dict ps c)) (λ z. dict z c) (λ z. in_pairs ps ≡ in_pairs z)
      (λ z h. as-form refl refl refl h h)
      (pairs_mutants ps) (pairs-names ps)
  expr-names (paren e) =
      each-mapped (SameNames (paren e)) (λ z. paren z) (SameNames e)
      (λ z h. as-form h.targets refl refl h.uses h.assigned) (expr_mutants e) (expr-names e)
  expr-names (not' e) =
      each-mapped (SameNames (not' e)) (λ z. not' z) (SameNames e)
      (λ z h. as-form refl refl refl h.uses h.uses)
      (expr_mutants e) (expr-names e)
  expr-names (and a b) =
      each-joined (SameNames (and a b)) (around (λ z. and z b) (expr_mutants a)) _ (each-mapped
      (SameNames (and a b)) (λ z. and z b) (SameNames a)
      (λ z h. as-form refl refl refl ((ap (λ u. u ++ in_expr b) h.uses)) ((ap
      (λ u. u ++ in_expr b) h.uses))) (expr_mutants a) (expr-names a))
      (each-mapped (SameNames (and a b)) (λ z. and a z) (SameNames b)
      (λ z h. as-form refl refl refl ((ap (λ u. in_expr a ++ u) h.uses)) ((ap
      (λ u. in_expr a ++ u) h.uses))) (expr_mutants b) (expr-names b))
  expr-names (or a b) =
      each-joined (SameNames (or a b)) (around (λ z. or z b) (expr_mutants a)) _ (each-mapped
      (SameNames (or a b)) (λ z. or z b) (SameNames a)
      (λ z h. as-form refl refl refl ((ap (λ u. u ++ in_expr b) h.uses)) ((ap
      (λ u. u ++ in_expr b) h.uses))) (expr_mutants a) (expr-names a))
      (each-mapped (SameNames (or a b)) (λ z. or a z) (SameNames b)
      (λ z h. as-form refl refl refl ((ap (λ u. in_expr a ++ u) h.uses)) ((ap
      (λ u. in_expr a ++ u) h.uses))) (expr_mutants b) (expr-names b))
  expr-names (unary s e) =
      each-mapped (SameNames (unary s e)) (λ z. unary s z) (SameNames e)
      (λ z h. as-form refl refl refl h.uses h.uses)
      (expr_mutants e) (expr-names e)
  expr-names (binary op a b) =
      each-joined (SameNames (binary op a b)) (around (λ z. binary op z b) (expr_mutants a)) _
      (each-mapped (SameNames (binary op a b)) (λ z. binary op z b) (SameNames a)
      (λ z h. as-form refl refl refl ((ap (λ u. u ++ in_expr b) h.uses)) ((ap
      (λ u. u ++ in_expr b) h.uses))) (expr_mutants a) (expr-names a))
      (each-joined (SameNames (binary op a b)) (around (λ z. binary z a b) (operator_change op)) _
      (each-around (SameNames (binary op a b)) (λ z. binary z a b)
      (λ z. as-form refl refl refl refl refl)
      (operator_change op))
      (each-mapped (SameNames (binary op a b)) (λ z. binary op a z) (SameNames b)
      (λ z h. as-form refl refl refl ((ap (λ u. in_expr a ++ u) h.uses)) ((ap
      (λ u. in_expr a ++ u) h.uses))) (expr_mutants b) (expr-names b)))
  expr-names (compare a ls) =
      each-joined (SameNames (compare a ls)) (around (λ z. compare z ls) (expr_mutants a)) _
      (each-mapped (SameNames (compare a ls)) (λ z. compare z ls) (SameNames a)
      (λ z h. as-form refl refl refl ((ap (λ u. u ++ in_links ls) h.uses)) ((ap
      (λ u. u ++ in_links ls) h.uses))) (expr_mutants a) (expr-names a))
      (each-mapped (SameNames (compare a ls)) (λ z. compare a z) (λ z. in_links ls ≡ in_links z)
      (λ z h. as-form refl refl refl ((ap (λ u. in_expr a ++ u) h)) ((ap (λ u. in_expr a ++ u)
      h))) (links_mutants ls) (links-names ls))
  expr-names (cond a b c) =
      each-joined (SameNames (cond a b c)) (around (λ z. cond z b c) (expr_mutants a)) _
      (each-mapped (SameNames (cond a b c)) (λ z. cond z b c) (SameNames a)
      (λ z h. as-form refl refl refl ((ap (λ u. u ++ (in_expr b ++ in_expr c)) h.uses)) ((ap
      (λ u. u ++ (in_expr b ++ in_expr c)) h.uses))) (expr_mutants a) (expr-names a))
      (each-joined (SameNames (cond a b c)) (around (λ z. cond a z c) (expr_mutants b)) _
      (each-mapped (SameNames (cond a b c)) (λ z. cond a z c) (SameNames b)
      (λ z h. as-form refl refl refl ((ap (λ u. in_expr a ++ (u ++ in_expr c)) h.uses)) ((ap
      (λ u. in_expr a ++ (u ++ in_expr c)) h.uses)))
      (expr_mutants b) (expr-names b))
      (each-mapped (SameNames (cond a b c)) (λ z. cond a b z) (SameNames c)
      (λ z h. as-form refl refl refl ((ap (λ u. in_expr a ++ (in_expr b ++ u)) h.uses)) ((ap
      (λ u. in_expr a ++ (in_expr b ++ u)) h.uses)))
      (expr_mutants c) (expr-names c)))
  expr-names (call f es c) =
      each-joined (SameNames (call f es c)) (around (λ z. call z es c) (expr_mutants f)) _
      (each-mapped (SameNames (call f es c)) (λ z. call z es c) (SameNames f)
      (λ z h. as-form refl refl refl ((ap (λ u. u ++ in_exprs es) h.uses)) ((ap
      (λ u. u ++ in_exprs es) h.uses))) (expr_mutants f) (expr-names f))
      (each-mapped (SameNames (call f es c)) (λ z. call f z c) (SameNamesAll es)
      (λ z h. as-form refl refl refl ((ap (λ u. in_expr f ++ u) h.uses)) ((ap
      (λ u. in_expr f ++ u) h.uses))) (exprs_mutants es)
      (exprs-names es))
  expr-names (index f d) =
      each-joined (SameNames (index f d)) (around (λ z. index z d) (expr_mutants f)) _
      (each-mapped (SameNames (index f d)) (λ z. index z d) (SameNames f)
      (λ z h. as-form refl refl refl ((ap (λ u. u ++ in_expr d) h.uses)) ((ap
      (λ u. u ++ in_expr d) h.uses))) (expr_mutants f) (expr-names f))
      (each-mapped (SameNames (index f d)) (λ z. index f z) (SameNames d)
      (λ z h. as-form refl refl refl ((ap (λ u. in_expr f ++ u) h.uses)) ((ap
      (λ u. in_expr f ++ u) h.uses))) (expr_mutants d) (expr-names d))
  expr-names (slice f a b) =
      each-joined (SameNames (slice f a b)) (around (λ z. slice z a b) (expr_mutants f)) _
      (each-mapped (SameNames (slice f a b)) (λ z. slice z a b) (SameNames f)
      (λ z h. as-form refl refl refl ((ap (λ u. u ++ (in_optional a ++ in_optional b)) h.uses))
      ((ap (λ u. u ++ (in_optional a ++ in_optional b)) h.uses))) (expr_mutants f) (expr-names f))
      (each-joined (SameNames (slice f a b)) (around (λ z. slice f z b) (opt_mutants a)) _
      (each-mapped (SameNames (slice f a b)) (λ z. slice f z b)
      (λ z. in_optional a ≡ in_optional z)
      (λ z h. as-form refl refl refl ((ap (λ u. in_expr f ++ (u ++ in_optional b)) h)) ((ap
      (λ u. in_expr f ++ (u ++ in_optional b)) h)))
      (opt_mutants a) (opt-names a))
      (each-mapped (SameNames (slice f a b)) (λ z. slice f a z)
      (λ z. in_optional b ≡ in_optional z)
      (λ z h. as-form refl refl refl ((ap (λ u. in_expr f ++ (in_optional a ++ u)) h)) ((ap
      (λ u. in_expr f ++ (in_optional a ++ u)) h)))
      (opt_mutants b) (opt-names b)))
  expr-names (attr f x) =
      each-mapped (SameNames (attr f x)) (λ z. attr z x) (SameNames f)
      (λ z h. as-form refl refl refl h.uses h.uses)
      (expr_mutants f) (expr-names f)

  pub exprs-names : (es : Exprs) → Each (SameNamesAll es) (exprs_mutants es)
  exprs-names no_exprs = tt
  exprs-names (exprs e es) =
      each-joined (SameNamesAll (exprs e es)) (around (λ x. exprs x es) (expr_mutants e)) _
      (each-mapped (SameNamesAll (exprs e es)) (λ x. exprs x es) (SameNames e)
      (λ x h. record {
        targets = ap (λ xs. xs ++ targets_names es) h.targets;
        uses = ap (λ xs. xs ++ in_exprs es) h.uses;
        assigned = ap (λ xs. xs ++ in_targets es) h.assigned;
      }) (expr_mutants e) (expr-names e))
      (each-mapped (SameNamesAll (exprs e es)) (λ fs. exprs e fs) (SameNamesAll es)
      (λ fs h. record {
        targets = ap (λ xs. target_names e ++ xs) h.targets;
        uses = ap (λ xs. in_expr e ++ xs) h.uses;
        assigned = ap (λ xs. in_target e ++ xs) h.assigned;
      }) (exprs_mutants es) (exprs-names es))

  pairs-names : (v : Pairs) → Each (λ z. in_pairs v ≡ in_pairs z) (pairs_mutants v)
  pairs-names no_pairs = tt
  pairs-names (pair k d ps) =
      each-joined (λ w. in_pairs (pair k d ps) ≡ in_pairs w) (around (λ z. pair z d ps)
      (expr_mutants k)) _ (each-mapped (λ w. in_pairs (pair k d ps) ≡ in_pairs w)
      (λ z. pair z d ps) (SameNames k)
      (λ z h. (ap (λ u. u ++ (in_expr d ++ in_pairs ps)) h.uses)) (expr_mutants k) (expr-names k))
      (each-joined (λ w. in_pairs (pair k d ps) ≡ in_pairs w) (around (λ z. pair k z ps)
      (expr_mutants d)) _ (each-mapped (λ w. in_pairs (pair k d ps) ≡ in_pairs w)
      (λ z. pair k z ps) (SameNames d)
      (λ z h. (ap (λ u. in_expr k ++ (u ++ in_pairs ps)) h.uses)) (expr_mutants d) (expr-names d))
      (each-mapped (λ w. in_pairs (pair k d ps) ≡ in_pairs w) (λ z. pair k d z)
      (λ z. in_pairs ps ≡ in_pairs z)
      (λ z h. (ap (λ u. in_expr k ++ (in_expr d ++ u)) h)) (pairs_mutants ps) (pairs-names ps)))

  links-names : (v : Links) → Each (λ z. in_links v ≡ in_links z) (links_mutants v)
  links-names no_links = tt
  links-names (link op d ls) =
      each-joined (λ w. in_links (link op d ls) ≡ in_links w) (around (λ z. link z d ls)
      (comparison_change op)) _ (each-around (λ w. in_links (link op d ls) ≡ in_links w)
      (λ z. link z d ls) (λ z. refl) (comparison_change op))
      (each-joined (λ w. in_links (link op d ls) ≡ in_links w) (around (λ z. link op z ls)
      (where_operands op (expr_mutants d))) _ (each-mapped (λ w. in_links (link op d ls)
      ≡ in_links w) (λ z. link op z ls) (SameNames d)
      (λ z h. (ap (λ u. u ++ in_links ls) h.uses)) (where_operands op (expr_mutants d))
      (of-operands (SameNames d) op (expr_mutants d) (expr-names d)))
      (each-mapped (λ w. in_links (link op d ls) ≡ in_links w) (λ z. link op d z)
      (λ z. in_links ls ≡ in_links z)
      (λ z h. (ap (λ u. in_expr d ++ u) h)) (links_mutants ls) (links-names ls)))

  opt-names : (v : OptExpr) → Each (λ z. in_optional v ≡ in_optional z) (opt_mutants v)
  opt-names absent = tt
  opt-names (present e) =
      each-mapped (λ w. in_optional (present e) ≡ in_optional w) (λ z. present z) (SameNames e)
      (λ z h. h.uses) (expr_mutants e) (expr-names e)

  fragments-names : (v : Fragments) → Each (λ z. in_fragments v ≡ in_fragments z)
      (fragments_mutants v)
  fragments-names no_fragments = tt
  fragments-names (plain x fs) =
      each-mapped (λ w. in_fragments (plain x fs) ≡ in_fragments w) (λ z. plain x z)
      (λ z. in_fragments fs ≡ in_fragments z)
      (λ z h. h) (fragments_mutants fs) (fragments-names fs)
  fragments-names (format ps fs) =
      each-joined (λ w. in_fragments (format ps fs) ≡ in_fragments w) (around (λ z. format z fs)
      (parts_mutants ps)) _ (each-mapped (λ w. in_fragments (format ps fs) ≡ in_fragments w)
      (λ z. format z fs) (λ z. in_parts ps ≡ in_parts z)
      (λ z h. (ap (λ u. u ++ in_fragments fs) h)) (parts_mutants ps) (parts-names ps))
      (each-mapped (λ w. in_fragments (format ps fs) ≡ in_fragments w) (λ z. format ps z)
      (λ z. in_fragments fs ≡ in_fragments z)
      (λ z h. (ap (λ u. in_parts ps ++ u) h)) (fragments_mutants fs) (fragments-names fs))

  parts-names : (v : Parts) → Each (λ z. in_parts v ≡ in_parts z) (parts_mutants v)
  parts-names no_parts = tt
  parts-names (text x ps) =
      each-mapped (λ w. in_parts (text x ps) ≡ in_parts w) (λ z. text x z)
      (λ z. in_parts ps ≡ in_parts z)
      (λ z h. h) (parts_mutants ps) (parts-names ps)
  parts-names (field e ps) =
      each-joined (λ w. in_parts (field e ps) ≡ in_parts w) (around (λ z. field z ps)
      (expr_mutants e)) _ (each-mapped (λ w. in_parts (field e ps) ≡ in_parts w) (λ z. field z ps)
      (SameNames e)
      (λ z h. (ap (λ u. u ++ in_parts ps) h.uses)) (expr_mutants e) (expr-names e))
      (each-mapped (λ w. in_parts (field e ps) ≡ in_parts w) (λ z. field e z)
      (λ z. in_parts ps ≡ in_parts z)
      (λ z h. (ap (λ u. in_expr e ++ u) h)) (parts_mutants ps) (parts-names ps))

pub maybe-names : (e : Option Expr) → Each (SameNamesMaybe e) (maybe_mutants e)
maybe-names None = tt
maybe-names (Some e) =
    each-mapped (SameNamesMaybe (Some e)) (λ x. Some x) (SameNames e)
    (λ x h. record { there = refl; uses = h.uses }) (expr_mutants e) (expr-names e)
