-- The mutants of a module, in the order of the changed tokens. Each changes one operator,
-- comparison, number or truth value, and has the line of the mark that it stands at.
--     other_operator .. other_number         the changes
--     Token, operator_text .. truth_text     the token that is changed, and what stands in its place
--     Changes, around                        what can stand for a part of a tree, with the tokens
--     operator_change .. truth_change        of one token
--     expr_mutants, exprs_mutants            of expressions; pairs_mutants and the like for what
--                                            stands in them
--     Marked, Mutants, at_mark, header_line  with the lines of their marks
--     stmts_mutants, kind_mutants            of statements; suite_mutants and the like for what
--                                            stands in them
--     module_mutants                         of a module
--     MutantsDiffer                          what is proved of those of expressions
use Rattle.std.specs.Prelude.{◌≡◌, Bool, true, false, IsTrue, All, ℕ, ℤ, pos, ◌+ℤ◌, not, if◌then◌else◌, List, [], ◌∷◌, ◌++◌, map, Option, Some, None, codes}
use Rattle.std.specs.Fmt.{signed_decimal}
use Rattle.std.specs.Ordering.{int_eq}
use Rattle.py_operator.specs.declared.operator.BinOp.{BinOp}
use Rattle.py_operator.specs.declared.operator.BinOp.TheVariants.{Add, Sub, Mul, Floor, Mod}
use Rattle.py_operator.specs.declared.operator.CmpOp.{CmpOp}
use Rattle.py_operator.specs.declared.operator.CmpOp.TheVariants.{Eq, Ne, Lt, Le, Gt, Ge, In, NotIn}
use Rattle.py_syntax.specs.declared.expr.Comparison.{Comparison}
use Rattle.py_syntax.specs.declared.expr.Comparison.TheVariants.{Op, Is, IsNot}
use Rattle.py_syntax.specs.Tree.{Text, Expr, name, int, str, fstr, none, bool, tuple, list, dict, paren, not', and, or, unary, binary, compare, cond, call, index, slice, attr, Exprs, no_exprs, exprs, Pairs, no_pairs, pair, Links, no_links, link, OptExpr, absent, present, Fragments, no_fragments, plain, format, Parts, no_parts, text, field}
use Rattle.py_syntax.specs.Tree.{Stmts, no_stmts, stmt, Suite, suite, OptSuite, no_suite, has_suite, Arms, no_arms, arm, Clauses, no_clauses, clause, Cases, no_cases, case, StmtKind, expr, assign, aug_assign, pass, break, continue, return, raise, assert, global, import, from, if', while, for, try, def, match}
use Rattle.py_changes.specs.Same.{same_expr}

-- `+` and `-` for each other, `*` and `//` too, and `*` for `%`
abbrev pub other_operator : BinOp → BinOp
other_operator Add = Sub
other_operator Sub = Add
other_operator Mul = Floor
other_operator Floor = Mul
other_operator Mod = Mul

-- `==` and `!=` for each other, `<` and `<=`, and `>` and `>=`; the others have none
abbrev pub other_comparison : CmpOp → Option CmpOp
other_comparison Eq = Some Ne
other_comparison Ne = Some Eq
other_comparison Lt = Some Le
other_comparison Le = Some Lt
other_comparison Gt = Some Ge
other_comparison Ge = Some Gt
other_comparison In = None
other_comparison NotIn = None

-- one more, and 0 for the greatest number
abbrev pub other_number : ℤ → ℤ
other_number n = if int_eq n (pos 9223372036854775807) then pos 0 else n +ℤ pos 1

-- ---- tokens

-- the token that a mutant changes, and the one that it has there
pub record Token : Type 0 where
  pub old : Text
  pub new : Text

-- how an operator is written
abbrev pub operator_text : BinOp → Text
operator_text Add = codes "+"
operator_text Sub = codes "-"
operator_text Mul = codes "*"
operator_text Floor = codes "//"
operator_text Mod = codes "%"

-- how the operator of an augmented assignment is written
abbrev pub augmented_text : BinOp → Text
augmented_text Add = codes "+="
augmented_text Sub = codes "-="
augmented_text Mul = codes "*="
augmented_text Floor = codes "//="
augmented_text Mod = codes "%="

-- how a comparison is written
abbrev pub comparison_text : CmpOp → Text
comparison_text Eq = codes "=="
comparison_text Ne = codes "!="
comparison_text Lt = codes "<"
comparison_text Le = codes "<="
comparison_text Gt = codes ">"
comparison_text Ge = codes ">="
comparison_text In = codes "in"
comparison_text NotIn = codes "not in"

-- how a truth value is written
abbrev pub truth_text : Bool → Text
truth_text true = codes "True"
truth_text false = codes "False"

-- ---- expressions

-- what can stand for a part of a tree, each with the token that it changes
abbrev pub Changes : Type 0 → Type 0
Changes A = List (Token × A)

-- the same in what stands around them
abbrev pub around : {X A B : Type 0} → (A → B) → List (X × A) → List (X × B)
around f xs = map (λ x. (x.0, f x.1)) xs

-- an operator changes to the other one
abbrev pub operator_change : BinOp → Changes BinOp
operator_change op = (
  (record { old = operator_text op; new = operator_text (other_operator op) }),
  other_operator op,
) ∷ []

-- so does that of an augmented assignment
abbrev pub augmented_change : BinOp → Changes BinOp
augmented_change op = (
  (record { old = augmented_text op; new = augmented_text (other_operator op) }),
  other_operator op,
) ∷ []

-- a comparison changes to the one that there may be for it
abbrev pub changes_to : CmpOp → Option CmpOp → Changes Comparison
changes_to op None = []
changes_to op (Some oq) = (
  (record { old = comparison_text op; new = comparison_text oq }),
  Op oq,
) ∷ []

-- `is` changes to nothing
abbrev pub comparison_change : Comparison → Changes Comparison
comparison_change (Op op) = changes_to op (other_comparison op)
comparison_change Is = []
comparison_change IsNot = []

-- a number changes to the next one
abbrev pub number_change : ℤ → Changes ℤ
number_change n = (
  (record { old = signed_decimal n; new = signed_decimal (other_number n) }),
  other_number n,
) ∷ []

-- a truth value changes to the other one
abbrev pub truth_change : Bool → Changes Bool
truth_change b = ((record { old = truth_text b; new = truth_text (not b) }), not b) ∷ []

-- `None` stands on the right of `is`, and nothing changes in it
abbrev pub where_operands : {X : Type 0} → Comparison → List X → List X
where_operands (Op op) ms = ms
where_operands Is ms = []
where_operands IsNot ms = []

abbrev mutual
  -- of an expression
  pub expr_mutants : Expr → Changes Expr
  expr_mutants (name x) = []
  expr_mutants (int n) = around int (number_change n)
  expr_mutants (str ps) = []
  expr_mutants (fstr fs) = around fstr (fragments_mutants fs)
  expr_mutants none = []
  expr_mutants (bool b) = around bool (truth_change b)
  expr_mutants (tuple es c) = around (λ fs. tuple fs c) (exprs_mutants es)
  expr_mutants (list es c) = around (λ fs. list fs c) (exprs_mutants es)
  expr_mutants (dict ps c) = around (λ qs. dict qs c) (pairs_mutants ps)
  expr_mutants (paren e) = around paren (expr_mutants e)
  expr_mutants (not' e) = around not' (expr_mutants e)
  expr_mutants (and a b) =
      around (λ x. and x b) (expr_mutants a) ++ around (λ x. and a x) (expr_mutants b)
  expr_mutants (or a b) = around (λ x. or x b) (expr_mutants a) ++ around (λ x. or a x) (expr_mutants b)
  expr_mutants (unary s e) = around (λ x. unary s x) (expr_mutants e)
  expr_mutants (binary op a b) =
      around (λ x. binary op x b) (expr_mutants a)
      ++ (around (λ oq. binary oq a b) (operator_change op)
      ++ around (λ x. binary op a x) (expr_mutants b))
  expr_mutants (compare a ls) =
      around (λ x. compare x ls) (expr_mutants a) ++ around (λ ms. compare a ms) (links_mutants ls)
  expr_mutants (cond a b c) =
      around (λ x. cond x b c) (expr_mutants a)
      ++ (around (λ x. cond a x c) (expr_mutants b) ++ around (λ x. cond a b x) (expr_mutants c))
  expr_mutants (call f es c) =
      around (λ x. call x es c) (expr_mutants f) ++ around (λ fs. call f fs c) (exprs_mutants es)
  expr_mutants (index f e) =
      around (λ x. index x e) (expr_mutants f) ++ around (λ x. index f x) (expr_mutants e)
  expr_mutants (slice f a b) =
      around (λ x. slice x a b) (expr_mutants f)
      ++ (around (λ x. slice f x b) (opt_mutants a) ++ around (λ x. slice f a x) (opt_mutants b))
  expr_mutants (attr f x) = around (λ g. attr g x) (expr_mutants f)

  -- of expressions in a row
  pub exprs_mutants : Exprs → Changes Exprs
  exprs_mutants no_exprs = []
  exprs_mutants (exprs e es) =
      around (λ x. exprs x es) (expr_mutants e) ++ around (λ fs. exprs e fs) (exprs_mutants es)

  -- of the keys and values of a dict
  pub pairs_mutants : Pairs → Changes Pairs
  pairs_mutants no_pairs = []
  pairs_mutants (pair k e ps) =
      around (λ x. pair x e ps) (expr_mutants k)
      ++ (around (λ x. pair k x ps) (expr_mutants e) ++ around (λ qs. pair k e qs) (pairs_mutants ps))

  -- of the operators and operands of a chain of comparisons
  pub links_mutants : Links → Changes Links
  links_mutants no_links = []
  links_mutants (link op e ls) =
      around (λ oq. link oq e ls) (comparison_change op)
      ++ (around (λ x. link op x ls) (where_operands op (expr_mutants e))
      ++ around (λ ms. link op e ms) (links_mutants ls))

  -- of a bound of a slice, which may be missing
  pub opt_mutants : OptExpr → Changes OptExpr
  opt_mutants absent = []
  opt_mutants (present e) = around present (expr_mutants e)

  -- of the pieces of an f-string
  pub fragments_mutants : Fragments → Changes Fragments
  fragments_mutants no_fragments = []
  fragments_mutants (plain x fs) = around (λ gs. plain x gs) (fragments_mutants fs)
  fragments_mutants (format ps fs) =
      around (λ qs. format qs fs) (parts_mutants ps) ++ around (λ gs. format ps gs) (fragments_mutants fs)

  -- of what stands in a piece of an f-string
  pub parts_mutants : Parts → Changes Parts
  parts_mutants no_parts = []
  parts_mutants (text x ps) = around (λ qs. text x qs) (parts_mutants ps)
  parts_mutants (field e ps) =
      around (λ x. field x ps) (expr_mutants e) ++ around (λ qs. field e qs) (parts_mutants ps)

-- of an expression of a statement, which may be missing
abbrev pub maybe_mutants : Option Expr → Changes (Option Expr)
maybe_mutants None = []
maybe_mutants (Some e) = around Some (expr_mutants e)

-- ---- statements

-- the line of a mark, with the token that is changed there
abbrev pub Marked : Type 0
Marked = ℕ × Token

-- what can stand for a part of a text, each with the line of its mark and its token
abbrev pub Mutants : Type 0 → Type 0
Mutants A = List (Marked × A)

-- all at the mark of one line
abbrev pub at_mark : {A : Type 0} → ℕ → Changes A → Mutants A
at_mark l xs = map (λ x. ((l, x.0), x.1)) xs

-- the line of the header in front of a suite, which its mark has
abbrev pub header_line : Suite → ℕ
header_line (suite l a i b) = l

abbrev mutual
  -- of statements in a row
  pub stmts_mutants : Stmts → Mutants Stmts
  stmts_mutants no_stmts = []
  stmts_mutants (stmt l a k e r) =
      around (λ j. stmt l a j e r) (kind_mutants l k)
      ++ around (λ s. stmt l a k e s) (stmts_mutants r)

  -- of a statement with this first line
  pub kind_mutants : ℕ → StmtKind → Mutants StmtKind
  kind_mutants l (expr e) = around expr (at_mark l (expr_mutants e))
  kind_mutants l (assign ts e) =
      around (λ us. assign us e) (at_mark l (exprs_mutants ts))
      ++ around (λ f. assign ts f) (at_mark l (expr_mutants e))
  kind_mutants l (aug_assign t op e) =
      around (λ u. aug_assign u op e) (at_mark l (expr_mutants t))
      ++ (around (λ oq. aug_assign t oq e) (at_mark l (augmented_change op))
      ++ around (λ f. aug_assign t op f) (at_mark l (expr_mutants e)))
  kind_mutants l pass = []
  kind_mutants l break = []
  kind_mutants l continue = []
  kind_mutants l (return e) = around return (at_mark l (maybe_mutants e))
  kind_mutants l (raise e) = around raise (at_mark l (maybe_mutants e))
  kind_mutants l (assert e w) =
      around (λ f. assert f w) (at_mark l (expr_mutants e))
      ++ around (λ v. assert e v) (at_mark l (maybe_mutants w))
  kind_mutants l (global xs) = []
  kind_mutants l (import names) = []
  kind_mutants l (from m names) = []
  kind_mutants l (if' arms o) =
      around (λ bs. if' bs o) (arms_mutants arms) ++ around (λ q. if' arms q) (opt_suite_mutants o)
  kind_mutants l (while e s o) =
      around (λ f. while f s o) (at_mark l (expr_mutants e))
      ++ (around (λ t. while e t o) (suite_mutants s)
      ++ around (λ q. while e s q) (opt_suite_mutants o))
  kind_mutants l (for x e s o) =
      around (λ y. for y e s o) (at_mark l (expr_mutants x))
      ++ (around (λ f. for x f s o) (at_mark l (expr_mutants e))
      ++ (around (λ t. for x e t o) (suite_mutants s)
      ++ around (λ q. for x e s q) (opt_suite_mutants o)))
  kind_mutants l (try s cs o fin) =
      around (λ t. try t cs o fin) (suite_mutants s)
      ++ (around (λ ds. try s ds o fin) (clauses_mutants cs)
      ++ (around (λ q. try s cs q fin) (opt_suite_mutants o)
      ++ around (λ q. try s cs o q) (opt_suite_mutants fin)))
  kind_mutants l (def x ps ds c s) =
      around (λ es. def x ps es c s) (at_mark l (exprs_mutants ds))
      ++ around (λ t. def x ps ds c t) (suite_mutants s)
  kind_mutants l (match e last cs) =
      around (λ f. match f last cs) (at_mark l (expr_mutants e))
      ++ around (λ ds. match e last ds) (cases_mutants cs)

  -- of a suite
  pub suite_mutants : Suite → Mutants Suite
  suite_mutants (suite l a i b) = around (λ c. suite l a i c) (stmts_mutants b)

  -- of the suite of an `else` or a `finally`, which may be missing
  pub opt_suite_mutants : OptSuite → Mutants OptSuite
  opt_suite_mutants no_suite = []
  opt_suite_mutants (has_suite s) = around has_suite (suite_mutants s)

  -- of the tests of an `if`
  pub arms_mutants : Arms → Mutants Arms
  arms_mutants no_arms = []
  arms_mutants (arm e s r) =
      around (λ f. arm f s r) (at_mark (header_line s) (expr_mutants e))
      ++ (around (λ t. arm e t r) (suite_mutants s)
      ++ around (λ q. arm e s q) (arms_mutants r))

  -- of the clauses of a `try`
  pub clauses_mutants : Clauses → Mutants Clauses
  clauses_mutants no_clauses = []
  clauses_mutants (clause e x s r) =
      around (λ f. clause f x s r) (at_mark (header_line s) (maybe_mutants e))
      ++ (around (λ t. clause e x t r) (suite_mutants s)
      ++ around (λ q. clause e x s q) (clauses_mutants r))

  -- of the cases of a `match`
  pub cases_mutants : Cases → Mutants Cases
  cases_mutants no_cases = []
  cases_mutants (case p g s r) =
      around (λ h. case p h s r) (at_mark (header_line s) (maybe_mutants g))
      ++ (around (λ t. case p g t r) (suite_mutants s)
      ++ around (λ q. case p g s q) (cases_mutants r))

-- of a module
abbrev pub module_mutants : Stmts → Mutants Stmts
module_mutants b = stmts_mutants b

-- An expression is the same as itself, and each of its mutants isn't.
abbrev pub MutantsDiffer : Type 0
MutantsDiffer =
    (e : Expr) → IsTrue (same_expr e e) × All (λ x. same_expr e x.1 ≡ false) (expr_mutants e)
