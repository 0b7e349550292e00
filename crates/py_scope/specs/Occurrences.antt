-- The occurrences of names in a body of a module or a function, in the order of the text. The body
-- of a function that it defines is none of it; the defaults of that function's parameters are.
--     in_expr                               of an expression; in_exprs and the like for what stands
--                                           in it
--     in_target, in_pattern                 of what is assigned to
--     assigning, in_aliases, declaring      names as occurrences
--     own_occurrences, seeing               of what each part of a text gives itself
--     occurrences, in_kind                  of statements; in_suite and the like for what stands in
--                                           them
use Rattle.std.specs.Prelude.{ℕ, List, [], ◌∷◌, ◌++◌, map, Option, Some, None}
use Rattle.py_syntax.specs.Gathering.{Gathering, nothing, gather, gather_kind, gather_suite, gather_opt, gather_arms, gather_clauses, gather_cases}
use Rattle.py_syntax.specs.Tree.{Text, Expr, name, int, str, fstr, none, bool, tuple, list, dict, paren, not', and, or, unary, binary, compare, cond, call, index, slice, attr, Exprs, no_exprs, exprs, Pairs, no_pairs, pair, Links, no_links, link, OptExpr, absent, present, Fragments, no_fragments, plain, format, Parts, no_parts, text, field}
use Rattle.py_syntax.specs.Tree.{Alias, Pattern, literal, capture, wild, member, sequence, p_or, p_as, p_paren, Patterns, no_patterns, patterns}
use Rattle.py_syntax.specs.Tree.{Stmts, Suite, OptSuite, Arms, Clauses, Cases, StmtKind, expr, assign, aug_assign, pass, break, continue, return, raise, assert, global, import, from, if', while, for, try, def, match}
use Rattle.py_syntax.specs.Names.{alias_name}
use Rattle.py_scope.specs.declared.occurrence.Occurrence.{Occurrence}
use Rattle.py_scope.specs.declared.occurrence.Occurrence.TheVariants.{Uses, Assigns, Declares}

abbrev mutual
  -- of an expression: each name in it is used
  pub in_expr : Expr → List Occurrence
  in_expr (name x) = Uses x ∷ []
  in_expr (int n) = []
  in_expr (str ps) = []
  in_expr (fstr fs) = in_fragments fs
  in_expr none = []
  in_expr (bool b) = []
  in_expr (tuple es c) = in_exprs es
  in_expr (list es c) = in_exprs es
  in_expr (dict ps c) = in_pairs ps
  in_expr (paren e) = in_expr e
  in_expr (not' e) = in_expr e
  in_expr (and a b) = in_expr a ++ in_expr b
  in_expr (or a b) = in_expr a ++ in_expr b
  in_expr (unary s e) = in_expr e
  in_expr (binary op a b) = in_expr a ++ in_expr b
  in_expr (compare a ls) = in_expr a ++ in_links ls
  in_expr (cond b t o) = in_expr b ++ (in_expr t ++ in_expr o)
  in_expr (call f es c) = in_expr f ++ in_exprs es
  in_expr (index a b) = in_expr a ++ in_expr b
  in_expr (slice a f t) = in_expr a ++ (in_optional f ++ in_optional t)
  in_expr (attr a x) = in_expr a

  -- of expressions in a row
  pub in_exprs : Exprs → List Occurrence
  in_exprs no_exprs = []
  in_exprs (exprs e es) = in_expr e ++ in_exprs es

  -- of the pairs of a dict
  pub in_pairs : Pairs → List Occurrence
  in_pairs no_pairs = []
  in_pairs (pair k v ps) = in_expr k ++ (in_expr v ++ in_pairs ps)

  -- of the comparisons of a chain
  pub in_links : Links → List Occurrence
  in_links no_links = []
  in_links (link op e ls) = in_expr e ++ in_links ls

  -- of a bound of a slice, where there is one
  pub in_optional : OptExpr → List Occurrence
  in_optional absent = []
  in_optional (present e) = in_expr e

  -- of neighbouring strings
  pub in_fragments : Fragments → List Occurrence
  in_fragments no_fragments = []
  in_fragments (plain x fs) = in_fragments fs
  in_fragments (format ps fs) = in_parts ps ++ in_fragments fs

  -- of the parts of an f-string
  pub in_parts : Parts → List Occurrence
  in_parts no_parts = []
  in_parts (text x ps) = in_parts ps
  in_parts (field e ps) = in_expr e ++ in_parts ps

-- of an expression, where there is one
abbrev pub in_option : Option Expr → List Occurrence
in_option None = []
in_option (Some e) = in_expr e

-- of a target
abbrev mutual
  -- a name is assigned; in an item its object and its index are used
  pub in_target : Expr → List Occurrence
  in_target (name x) = Assigns x ∷ []
  in_target (int n) = in_expr (int n)
  in_target (str ps) = in_expr (str ps)
  in_target (fstr fs) = in_expr (fstr fs)
  in_target none = in_expr none
  in_target (bool b) = in_expr (bool b)
  in_target (tuple es c) = in_targets es
  in_target (list es c) = in_targets es
  in_target (dict ps c) = in_expr (dict ps c)
  in_target (paren e) = in_target e
  in_target (not' e) = in_expr (not' e)
  in_target (and a b) = in_expr (and a b)
  in_target (or a b) = in_expr (or a b)
  in_target (unary s e) = in_expr (unary s e)
  in_target (binary op a b) = in_expr (binary op a b)
  in_target (compare a ls) = in_expr (compare a ls)
  in_target (cond b t o) = in_expr (cond b t o)
  in_target (call f es c) = in_expr (call f es c)
  in_target (index a b) = in_expr (index a b)
  in_target (slice a f t) = in_expr (slice a f t)
  in_target (attr a x) = in_expr (attr a x)

  -- of targets in a row
  pub in_targets : Exprs → List Occurrence
  in_targets no_exprs = []
  in_targets (exprs e es) = in_target e ++ in_targets es

-- of a pattern; `m.x` Uses m
abbrev mutual
  -- the names that are captured are assigned
  pub in_pattern : Pattern → List Occurrence
  in_pattern (literal minus c) = []
  in_pattern (capture x) = Assigns x ∷ []
  in_pattern wild = []
  in_pattern (member m x) = Uses m ∷ []
  in_pattern (sequence b ps c) = in_patterns ps
  in_pattern (p_or ps) = in_patterns ps
  in_pattern (p_as p x) = in_pattern p ++ Assigns x ∷ []
  in_pattern (p_paren p) = in_pattern p

  -- of patterns in a row
  pub in_patterns : Patterns → List Occurrence
  in_patterns no_patterns = []
  in_patterns (patterns p ps) = in_pattern p ++ in_patterns ps

-- names that are assigned
abbrev pub assigning : List Text → List Occurrence
assigning xs = map Assigns xs

-- names that are imported
abbrev pub in_aliases : List Alias → List Occurrence
in_aliases names = assigning (map alias_name names)

-- names that a statement on this line declares `global`
abbrev pub declaring : ℕ → List Text → List Occurrence
declaring line xs = map (λ x. Declares x line) xs

-- of a name that a clause binds, where it does
abbrev pub in_bound : Option Text → List Occurrence
in_bound None = []
in_bound (Some x) = Assigns x ∷ []

-- what occurs in a statement on this line itself
abbrev pub own_occurrences : ℕ → StmtKind → List Occurrence
own_occurrences line (expr e) = in_expr e
own_occurrences line (assign ts e) = in_targets ts ++ in_expr e
own_occurrences line (aug_assign t op e) = in_target t ++ in_expr e
own_occurrences line pass = []
own_occurrences line break = []
own_occurrences line continue = []
own_occurrences line (return e) = in_option e
own_occurrences line (raise e) = in_option e
own_occurrences line (assert e w) = in_expr e ++ in_option w
own_occurrences line (global xs) = declaring line xs
own_occurrences line (import names) = in_aliases names
own_occurrences line (from m names) = in_aliases names
own_occurrences line (if' arms o) = []
own_occurrences line (while t s o) = in_expr t
own_occurrences line (for t e s o) = in_target t ++ in_expr e
own_occurrences line (try s cs o fin) = []
own_occurrences line (def x ps ds c s) = Assigns x ∷ in_exprs ds
own_occurrences line (match e last cs) = in_expr e

-- What occurs in a test, a clause and a case itself. What occurs in the body of a function is none
-- of it.
abbrev pub seeing : Gathering Occurrence
seeing = record {
  of_kind = λ first last k. own_occurrences first k;
  of_arm = λ t s. in_expr t;
  of_clause = λ e x s. in_option e ++ in_bound x;
  of_case = λ p g s. in_pattern p ++ in_option g;
  within = nothing;
}

-- of statements in a row
abbrev pub occurrences : Stmts → List Occurrence
occurrences ss = gather seeing ss

-- of a statement with this first line
abbrev pub in_kind : ℕ → StmtKind → List Occurrence
in_kind line k = gather_kind seeing (own_occurrences line k) k

-- of a suite
abbrev pub in_suite : Suite → List Occurrence
in_suite s = gather_suite seeing s

-- of the suite of an `else` or a `finally`, which may be missing
abbrev pub in_opt : OptSuite → List Occurrence
in_opt o = gather_opt seeing o

-- of the tests of an `if`
abbrev pub in_arms : Arms → List Occurrence
in_arms arms = gather_arms seeing arms

-- of the clauses of a `try`
abbrev pub in_clauses : Clauses → List Occurrence
in_clauses cs = gather_clauses seeing cs

-- of the cases of a `match`
abbrev pub in_cases : Cases → List Occurrence
in_cases cs = gather_cases seeing cs
