-- The names that a body of a module or a function assigns, and those that it declares `global`. The
-- body of a function that it defines is none of it. (Python Language Reference, "Naming and
-- binding")
--     is_among, add_name, distinct           lists of names
--     target_names, pattern_names            what a target and a pattern assign
--     alias_name                             what an import assigns
--     Binding, binding                       a name that is bound, and what each part of a text
--                                            binds itself
--     bindings, kind_bindings                what statements bind; suite_bindings and the like for
--                                            what stands in them
--     assigned_names, declared_names         what statements assign, and what they declare `global`
--     local_names, global_names, is_local    the names of a function
use Rattle.std.specs.Prelude.{Bool, not, ◌&&◌, if◌then◌else◌, List, [], ◌∷◌, ◌++◌, map, filter, bytes_eq, unwrap_or, option_to_list}
use Rattle.std.specs.List.{list_any}
use Rattle.py_syntax.specs.Gathering.{Gathering, nothing, gather, gather_kind, gather_suite, gather_opt, gather_arms, gather_clauses, gather_cases}
use Rattle.py_syntax.specs.Tree.{Text, Expr, name, int, str, fstr, none, bool, tuple, list, dict, paren, not', and, or, unary, binary, compare, cond, call, index, slice, attr, Exprs, no_exprs, exprs}
use Rattle.py_syntax.specs.Tree.{Alias, Pattern, literal, capture, wild, member, sequence, p_or, p_as, p_paren, Patterns, no_patterns, patterns}
use Rattle.py_syntax.specs.Tree.{Stmts, Suite, OptSuite, Arms, Clauses, Cases, StmtKind, expr, assign, aug_assign, pass, break, continue, return, raise, assert, global, import, from, if', while, for, try, def, match}

-- ---- names

-- whether a name stands in a list
abbrev pub is_among : List Text → Text → Bool
is_among xs x = list_any (bytes_eq x) xs

-- each name once, where it first stands: those that are met already, and then others
abbrev pub add_name : List Text → Text → List Text
add_name xs x = if is_among xs x then xs else (xs ++ x ∷ [])

-- names that are met already, and then those of a list
abbrev pub add_names : List Text → List Text → List Text
add_names xs [] = xs
add_names xs (y ∷ ys) = add_names (add_name xs y) ys

-- the names of a list, each once
abbrev pub distinct : List Text → List Text
distinct = add_names []

-- ---- what parts of statements assign, in the order of the text

abbrev mutual
  -- a target: a name, or the names of what it is made of
  pub target_names : Expr → List Text
  target_names (name x) = x ∷ []
  target_names (int n) = []
  target_names (str ps) = []
  target_names (fstr fs) = []
  target_names none = []
  target_names (bool b) = []
  target_names (tuple es c) = targets_names es
  target_names (list es c) = targets_names es
  target_names (dict ps c) = []
  target_names (paren e) = target_names e
  target_names (not' e) = []
  target_names (and a b) = []
  target_names (or a b) = []
  target_names (unary s e) = []
  target_names (binary op a b) = []
  target_names (compare a ls) = []
  target_names (cond b t o) = []
  target_names (call f es c) = []
  target_names (index f e) = []
  target_names (slice f low high) = []
  target_names (attr f x) = []

  -- targets in a row
  pub targets_names : Exprs → List Text
  targets_names no_exprs = []
  targets_names (exprs e es) = target_names e ++ targets_names es

abbrev mutual
  -- a pattern: the names that it captures
  pub pattern_names : Pattern → List Text
  pattern_names (literal minus c) = []
  pattern_names (capture x) = x ∷ []
  pattern_names wild = []
  pattern_names (member m x) = []
  pattern_names (sequence b ps c) = patterns_names ps
  pattern_names (p_or ps) = patterns_names ps
  pattern_names (p_as p x) = pattern_names p ++ x ∷ []
  pattern_names (p_paren p) = pattern_names p

  -- patterns in a row
  pub patterns_names : Patterns → List Text
  patterns_names no_patterns = []
  patterns_names (patterns p ps) = pattern_names p ++ patterns_names ps

-- an import
abbrev pub alias_name : Alias → Text
alias_name i = unwrap_or i.bound i.name

-- ---- the names that statements bind, in the order of the text, as often as they do

-- a name that is assigned, or declared `global`
pub data Binding : Type 0 where
  assigns : (x : Text) → Binding
  declares : (x : Text) → Binding

-- names that are assigned
abbrev pub assigning_all : List Text → List Binding
assigning_all = map assigns

-- names that are declared `global`
abbrev pub declaring_all : List Text → List Binding
declaring_all = map declares

-- the names that a statement binds itself
abbrev pub own_bindings : StmtKind → List Binding
own_bindings (expr e) = []
own_bindings (assign ts e) = assigning_all (targets_names ts)
own_bindings (aug_assign t op e) = assigning_all (target_names t)
own_bindings pass = []
own_bindings break = []
own_bindings continue = []
own_bindings (return e) = []
own_bindings (raise e) = []
own_bindings (assert e w) = []
own_bindings (global xs) = declaring_all xs
own_bindings (import names) = assigning_all (map alias_name names)
own_bindings (from m names) = assigning_all (map alias_name names)
own_bindings (if' arms o) = []
own_bindings (while t s o) = []
own_bindings (for t e s o) = assigning_all (target_names t)
own_bindings (try s cs o fin) = []
own_bindings (def x ps ds c s) = assigns x ∷ []
own_bindings (match e last cs) = []

-- A clause binds the name of its exception, and a case what its pattern captures. What the body of
-- a function binds is the function's own.
abbrev pub binding : Gathering Binding
binding = record {
  of_kind = λ first last k. own_bindings k;
  of_arm = λ t s. [];
  of_clause = λ e x s. assigning_all (option_to_list x);
  of_case = λ p g s. assigning_all (pattern_names p);
  within = nothing;
}

-- statements in a row
abbrev pub bindings : Stmts → List Binding
bindings ss = gather binding ss

-- a statement
abbrev pub kind_bindings : StmtKind → List Binding
kind_bindings k = gather_kind binding (own_bindings k) k

-- a suite
abbrev pub suite_bindings : Suite → List Binding
suite_bindings s = gather_suite binding s

-- the suite of an `else` or a `finally`, which may be missing
abbrev pub opt_bindings : OptSuite → List Binding
opt_bindings o = gather_opt binding o

-- the tests of an `if`
abbrev pub arms_bindings : Arms → List Binding
arms_bindings arms = gather_arms binding arms

-- the clauses of a `try`
abbrev pub clauses_bindings : Clauses → List Binding
clauses_bindings cs = gather_clauses binding cs

-- the cases of a `match`
abbrev pub cases_bindings : Cases → List Binding
cases_bindings cs = gather_cases binding cs

-- those that are assigned
abbrev pub assigned_in : List Binding → List Text
assigned_in [] = []
assigned_in (assigns x ∷ bs) = x ∷ assigned_in bs
assigned_in (declares x ∷ bs) = assigned_in bs

-- those that are declared `global`
abbrev pub declared_in : List Binding → List Text
declared_in [] = []
declared_in (assigns x ∷ bs) = declared_in bs
declared_in (declares x ∷ bs) = x ∷ declared_in bs

-- the names that statements assign
abbrev pub assigned_names : Stmts → List Text
assigned_names b = assigned_in (bindings b)

-- the names that statements declare `global`
abbrev pub declared_names : Stmts → List Text
declared_names b = declared_in (bindings b)

-- ---- the names of a function with these parameters and this body

-- The local ones: those that it assigns and doesn't declare `global`, each once, in the order of
-- their first assignments; a parameter is assigned first.
abbrev pub local_names : List Text → Stmts → List Text
local_names params b =
    filter (λ x. not (is_among (declared_names b) x)) (distinct (params ++ assigned_names b))

-- The ones that it declares `global`, each once.
abbrev pub global_names : Stmts → List Text
global_names b = distinct (declared_names b)

-- whether a name is local in it
abbrev pub is_local : List Text → Stmts → Text → Bool
is_local params b x = is_among (params ++ assigned_names b) x && not (is_among (declared_names b) x)
