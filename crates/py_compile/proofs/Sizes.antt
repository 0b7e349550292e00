-- The code of statements is as long as its size says, wherever it stands.
use Rattle.std.proofs.Common.{◌≡◌, ℕ, suc, ◌+◌, Bool, true, false, List, [], ◌∷◌, length, Option, Some, None, refl, ap, ◌∙◌, arith}
use Rattle.py_operator.specs.declared.operator.BinOp.{BinOp}
use Rattle.py_syntax.specs.Functions.{Function}
use Rattle.py_syntax.specs.Tree.{Text, Alias, Expr, name, int, str, fstr, none, bool, tuple, list, dict, paren, not', and, or, unary, binary, compare, cond, call, index, slice, attr, Exprs, no_exprs, exprs}
use Rattle.py_syntax.specs.Tree.{Stmts, no_stmts, stmt, suite, OptSuite, no_suite, has_suite, Arms, no_arms, arm, Clauses, no_clauses, clause, Cases, no_cases, case, StmtKind, expr, assign, aug_assign, pass, break, continue, return, raise, assert, global, import, from, if', while, for, try, def, match}
use Rattle.py_meaning.specs.Modules.{unit_at}
use Rattle.py_meaning.specs.Statements.{has_clauses}
use Rattle.py_compile_expr.specs.Cells.{Guard, Cell}
use Rattle.py_compile_expr.specs.Expressions.{expr_size, expr_code, each_size, each_code}
use Rattle.py_compile_expr.specs.Patterns.{Site, captured, pattern_size, pattern_code, names_size, names_code}
use Rattle.py_compile_expr.specs.Targets.{target_size, target_code, all_size}
use Rattle.py_compile_expr.proofs.Sizes.{both, expr_length, each_length, target_length, all_length, pattern_length, names_length}
use Rattle.py_compile.specs.Statements.{option_size, option_code, import_size, import_code, take_size, take_code, augment_size, augment_code, raise_size, raise_code, assert_size, assert_code, function_size, function_code, caught_size, caught_code, guard_size, guard_code, tried_size, tried_code, module_code, stmts_size, kind_size, opt_size, arms_size, clauses_size, cases_size, stmts_code, kind_code, opt_code, arms_code, clauses_code, cases_code}
use Rattle.py_compile.specs.Ways.{Ways, under, in_finally, in_try, in_loop, in_clause, is_there, in_hand}

-- ---- parts

option_length : (g : Option Guard) (p : ℕ) (e : Option Expr) → length (option_code g p e) ≡ option_size e
option_length g p None = refl
option_length g p (Some e) = expr_length g p e

pub import_length : (g : Option Guard) (names : List Alias) → length (import_code g names) ≡ import_size names
import_length g [] = refl
import_length g (a ∷ rest) = let h = import_length g rest in omega arith

pub take_length : (g : Option Guard) (m : Text) (names : List Alias) → length (take_code g m names) ≡ take_size names
take_length g m [] = refl
take_length g m (a ∷ rest) = let h = take_length g m rest in omega arith

augment_length : (g : Option Guard) (p : ℕ) (t : Expr) (op : BinOp) (e : Expr) → length (augment_code g p t op e) ≡ augment_size t e
augment_length g p (name x) op e =
    ap suc (both (expr_code g (p + 1) e) _ (expr_size e) 2 (expr_length g (p + 1) e) refl) ∙ omega arith
augment_length g p (int n) op e = refl
augment_length g p (str pieces) op e = refl
augment_length g p (fstr pieces) op e = refl
augment_length g p none op e = refl
augment_length g p (bool b) op e = refl
augment_length g p (tuple es comma) op e = refl
augment_length g p (list es comma) op e = refl
augment_length g p (dict ps comma) op e = refl
augment_length g p (paren t) op e = refl
augment_length g p (not' a) op e = refl
augment_length g p (and a b) op e = refl
augment_length g p (or a b) op e = refl
augment_length g p (unary s a) op e = refl
augment_length g p (binary o a b) op e = refl
augment_length g p (compare a links) op e = refl
augment_length g p (cond body test orelse) op e = refl
augment_length g p (call f es comma) op e = refl
augment_length g p (index of at) op e =
    let read = p + expr_size of + expr_size at + 3 in
    both (expr_code g p of) _ (expr_size of) (expr_size at + (suc (suc (suc (expr_size e + 3))))) (expr_length g p of) (both (expr_code g (p + expr_size of) at) _ (expr_size at) (suc (suc (suc (expr_size e + 3)))) (expr_length g (p + expr_size of) at) (ap (λ n. suc (suc (suc n))) (both (expr_code g read e) _ (expr_size e) 3 (expr_length g read e) refl))) ∙ omega arith
augment_length g p (slice of low high) op e = refl
augment_length g p (attr of x) op e = refl

raise_length : (handled : Option ℕ) (w : Ways) (p : ℕ) (e : Option Expr) → length (raise_code handled w p e) ≡ raise_size (is_there handled) e
raise_length None w p None = refl
raise_length (Some below) w p None = refl
raise_length None w p (Some e) = both (expr_code w.guard p e) _ (expr_size e) 1 (expr_length w.guard p e) refl
raise_length (Some below) w p (Some e) = both (expr_code w.guard p e) _ (expr_size e) 1 (expr_length w.guard p e) refl

assert_length : (g : Option Guard) (p : ℕ) (e : Option Expr) → length (assert_code g p e) ≡ assert_size e
assert_length g p None = refl
assert_length g p (Some e) = both (expr_code g p e) _ (expr_size e) 1 (expr_length g p e) refl

pub function_length : (g : Option Guard) (p u : ℕ) (es : Exprs) → length (function_code g p u es) ≡ function_size es
function_length g p u no_exprs = refl
function_length g p u (exprs e es) = both (each_code g p (exprs e es)) _ (each_size (exprs e es)) 2 (each_length g p (exprs e es)) refl

pub caught_length : (g : Option Guard) (p next : ℕ) (e : Option Expr) → length (caught_code g p next e) ≡ caught_size e
caught_length g p next None = refl
caught_length g p next (Some e) = both (expr_code g p e) _ (expr_size e) 2 (expr_length g p e) refl

pub guard_length : (g : Option Guard) (p next : ℕ) (e : Option Expr) → length (guard_code g p next e) ≡ guard_size e
guard_length g p next None = refl
guard_length g p next (Some e) = both (expr_code g p e) _ (expr_size e) 1 (expr_length g p e) refl

pub tried_length : (has : Bool) (w : Ways) (p b o c : ℕ) (f : Ways → ℕ → List Cell) (g : ℕ → List Cell) (h : ℕ → ℕ → List Cell)
    → ((v : Ways) (q : ℕ) → in_hand v ≡ in_hand w → length (f v q) ≡ b) → ((q : ℕ) → length (g q) ≡ o) → ((q end : ℕ) → length (h q end) ≡ c)
    → length (tried_code has w p b o c f g h) ≡ tried_size has b o c
tried_length false w p b o c f g h hf hg hh = both (f w p) (g (p + b)) b o (hf w p refl) (hg (p + b))
tried_length true w p b o c f g h hf hg hh =
    let begin = p + b + o + 1 in
    both (f (in_try w begin) p) _ b (o + suc c) (hf (in_try w begin) p refl) (both (g (p + b)) _ o (suc c) (hg (p + b)) (ap suc (hh begin (begin + c)))) ∙ omega arith

-- ---- statements

mutual
  pub stmts_length : (fs : List Function) (w : Ways) (p : ℕ) (ss : Stmts) → length (stmts_code fs w p ss) ≡ stmts_size (in_hand w) ss
  stmts_length fs w p no_stmts = refl
  stmts_length fs w p (stmt first last kind end rest) =
      both (kind_code fs w p first kind) _ (kind_size (in_hand w) kind) (stmts_size (in_hand w) rest) (kind_length fs w p first kind) (stmts_length fs w (p + kind_size (in_hand w) kind) rest)

  pub kind_length : (fs : List Function) (w : Ways) (p l : ℕ) (k : StmtKind) → length (kind_code fs w p l k) ≡ kind_size (in_hand w) k
  kind_length fs w p l (expr e) =
      ap suc (both (expr_code w.guard (p + 1) e) _ (expr_size e) 1 (expr_length w.guard (p + 1) e) refl) ∙ omega arith
  kind_length fs w p l (assign targets e) =
      ap suc (both (expr_code w.guard (p + 1) e) _ (expr_size e) (all_size targets) (expr_length w.guard (p + 1) e) (all_length w.guard (p + 1 + expr_size e) targets)) ∙ omega arith
  kind_length fs w p l (aug_assign place op e) = let h = augment_length w.guard (p + 1) place op e in omega arith
  kind_length fs w p l pass = refl
  kind_length fs w p l break = refl
  kind_length fs w p l continue = refl
  kind_length fs w p l (return e) =
      ap suc (both (option_code w.guard (p + 1) e) _ (option_size e) 1 (option_length w.guard (p + 1) e) refl) ∙ omega arith
  kind_length fs w p l (raise e) = let h = raise_length w.handled w (p + 1) e in omega arith
  kind_length fs w p l (assert test why) =
      let fails = p + 1 + expr_size test + 1 in
      ap suc (both (expr_code w.guard (p + 1) test) _ (expr_size test) (suc (assert_size why)) (expr_length w.guard (p + 1) test) (ap suc (assert_length w.guard fails why))) ∙ omega arith
  kind_length fs w p l (global xs) = refl
  kind_length fs w p l (import names) = let h = import_length w.guard names in omega arith
  kind_length fs w p l (from m names) =
      ap suc (both (module_code w.guard m) _ 3 (take_size names) refl (take_length w.guard m names)) ∙ omega arith
  kind_length fs w p l (if' arms orelse) =
      let rest = p + arms_size (in_hand w) arms in
      both (arms_code fs w p (rest + opt_size (in_hand w) orelse) arms) _ (arms_size (in_hand w) arms) (opt_size (in_hand w) orelse)
      (arms_length fs w p (rest + opt_size (in_hand w) orelse) arms) (opt_length fs w rest orelse)
  kind_length fs w p l (while test (suite first last inline body) orelse) =
      let begin = p + 3 + expr_size test + 1 in
      let back = begin + stmts_size (in_hand w) body in
      let rest = back + 1 in
      let inner = in_loop w 0 (rest + opt_size (in_hand w) orelse) back in
      ap (λ n. suc (suc (suc n))) (both (expr_code w.guard (p + 3) test) _ (expr_size test) (suc (stmts_size (in_hand w) body + suc (opt_size (in_hand w) orelse))) (expr_length w.guard (p + 3) test) (ap suc (both (stmts_code fs inner begin body) _ (stmts_size (in_hand w) body) (suc (opt_size (in_hand w) orelse)) (stmts_length fs inner begin body) (ap suc (opt_length fs w rest orelse))))) ∙ omega arith
  kind_length fs w p l (for target over (suite first last inline body) orelse) =
      let again = p + 1 + expr_size over + 2 in
      let begin = again + 2 + target_size target in
      let back = begin + stmts_size (in_hand w) body in
      let rest = back + 1 in
      let inner = in_loop (under w) 1 (rest + opt_size (in_hand w) orelse) back in
      ap suc (both (expr_code w.guard (p + 1) over) _ (expr_size over) (suc (suc (suc (suc (target_size target + (stmts_size (in_hand w) body + suc (opt_size (in_hand w) orelse))))))) (expr_length w.guard (p + 1) over) (ap (λ n. suc (suc (suc (suc n)))) (both (target_code w.guard (again + 2) target) _ (target_size target) (stmts_size (in_hand w) body + suc (opt_size (in_hand w) orelse)) (target_length w.guard (again + 2) target) (both (stmts_code fs inner begin body) _ (stmts_size (in_hand w) body) (suc (opt_size (in_hand w) orelse)) (stmts_length fs inner begin body) (ap suc (opt_length fs w rest orelse)))))) ∙ omega arith
  kind_length fs w p l (try (suite first last inline body) clauses orelse no_suite) =
      ap suc (tried_length (has_clauses clauses) w (p + 1) (stmts_size (in_hand w) body) (opt_size (in_hand w) orelse) (clauses_size (in_hand w) clauses) (λ v q. stmts_code fs v q body) (λ q. opt_code fs w q orelse) (λ q end. clauses_code fs w q end clauses) (λ v q e. stmts_length fs v q body ∙ ap (λ h. stmts_size h body) e) (λ q. opt_length fs w q orelse) (λ q end. clauses_length fs w q end clauses)) ∙ omega arith
  kind_length fs w p l (try (suite first last inline body) clauses orelse (has_suite (suite f g i finally))) =
      let normal = p + 1 + tried_size (has_clauses clauses) (stmts_size (in_hand w) body) (opt_size (in_hand w) orelse) (clauses_size (in_hand w) clauses) in
      let inner = in_finally w (normal + 1) in
      let settle = normal + 1 + stmts_size (in_hand w) finally in
      ap suc (both (tried_code (has_clauses clauses) inner (p + 1) (stmts_size (in_hand w) body) (opt_size (in_hand w) orelse) (clauses_size (in_hand w) clauses) (λ v q. stmts_code fs v q body) (λ q. opt_code fs inner q orelse) (λ q end. clauses_code fs inner q end clauses)) _ (tried_size (has_clauses clauses) (stmts_size (in_hand w) body) (opt_size (in_hand w) orelse) (clauses_size (in_hand w) clauses)) (suc (stmts_size (in_hand w) finally + 4)) (tried_length (has_clauses clauses) inner (p + 1) (stmts_size (in_hand w) body) (opt_size (in_hand w) orelse) (clauses_size (in_hand w) clauses) (λ v q. stmts_code fs v q body) (λ q. opt_code fs inner q orelse) (λ q end. clauses_code fs inner q end clauses) (λ v q e. stmts_length fs v q body ∙ ap (λ h. stmts_size h body) e) (λ q. opt_length fs inner q orelse) (λ q end. clauses_length fs inner q end clauses)) (ap suc (both (stmts_code fs (under w) (normal + 1) finally) _ (stmts_size (in_hand w) finally) 4 (stmts_length fs (under w) (normal + 1) finally) refl))) ∙ omega arith
  kind_length fs w p l (def x params defaults comma body) =
      ap suc (both (function_code w.guard (p + 1) (unit_at l fs) defaults) _ (function_size defaults) 1 (function_length w.guard (p + 1) (unit_at l fs) defaults) refl) ∙ omega arith
  kind_length fs w p l (match subject header cases) =
      let first = p + 1 + expr_size subject in
      ap suc (both (expr_code w.guard (p + 1) subject) _ (expr_size subject) (cases_size (in_hand w) cases) (expr_length w.guard (p + 1) subject) (cases_length fs w first (first + cases_size (in_hand w) cases) cases)) ∙ omega arith

  pub opt_length : (fs : List Function) (w : Ways) (p : ℕ) (o : OptSuite) → length (opt_code fs w p o) ≡ opt_size (in_hand w) o
  opt_length fs w p no_suite = refl
  opt_length fs w p (has_suite (suite first last inline body)) = stmts_length fs w p body

  pub arms_length : (fs : List Function) (w : Ways) (p end : ℕ) (xs : Arms) → length (arms_code fs w p end xs) ≡ arms_size (in_hand w) xs
  arms_length fs w p end no_arms = refl
  arms_length fs w p end (arm test (suite first last inline body) rest) =
      let begin = p + 1 + expr_size test + 1 in
      let next = begin + stmts_size (in_hand w) body + 1 in
      ap suc (both (expr_code w.guard (p + 1) test) _ (expr_size test) (suc (stmts_size (in_hand w) body + suc (arms_size (in_hand w) rest))) (expr_length w.guard (p + 1) test) (ap suc (both (stmts_code fs w begin body) _ (stmts_size (in_hand w) body) (suc (arms_size (in_hand w) rest)) (stmts_length fs w begin body) (ap suc (arms_length fs w next end rest))))) ∙ omega arith

  pub clauses_length : (fs : List Function) (w : Ways) (p end : ℕ) (cs : Clauses) → length (clauses_code fs w p end cs) ≡ clauses_size (in_hand w) cs
  clauses_length fs w p end no_clauses = refl
  clauses_length fs w p end (clause kind None (suite first last inline body) rest) =
      let begin = p + 1 + caught_size kind in
      let next = begin + stmts_size true body + 2 in
      ap suc (both (caught_code w.guard (p + 1) next kind) _ (caught_size kind) (stmts_size true body + (suc (suc (clauses_size (in_hand w) rest)))) (caught_length w.guard (p + 1) next kind) (both (stmts_code fs (in_clause w) begin body) _ (stmts_size true body) (suc (suc (clauses_size (in_hand w) rest))) (stmts_length fs (in_clause w) begin body) (ap (λ n. suc (suc n)) (clauses_length fs w next end rest)))) ∙ omega arith
  clauses_length fs w p end (clause kind (Some x) (suite first last inline body) rest) =
      let begin = p + 1 + caught_size kind + 2 in
      let release = begin + stmts_size true body + 1 in
      let next = release + 7 in
      let inner = in_finally (in_clause w) release in
      ap suc (both (caught_code w.guard (p + 1) next kind) _ (caught_size kind) (suc (suc (stmts_size true body + (suc (suc (suc (suc (suc (suc (suc (suc (clauses_size (in_hand w) rest)))))))))))) (caught_length w.guard (p + 1) next kind) (ap (λ n. suc (suc n)) (both (stmts_code fs inner begin body) _ (stmts_size true body) (suc (suc (suc (suc (suc (suc (suc (suc (clauses_size (in_hand w) rest))))))))) (stmts_length fs inner begin body) (ap (λ n. suc (suc (suc (suc (suc (suc (suc (suc n)))))))) (clauses_length fs w next end rest))))) ∙ omega arith

  pub cases_length : (fs : List Function) (w : Ways) (p end : ℕ) (cs : Cases) → length (cases_code fs w p end cs) ≡ cases_size (in_hand w) cs
  cases_length fs w p end no_cases = refl
  cases_length fs w p end (case q guard (suite first last inline body) rest) =
      let bind = p + 2 + pattern_size q in
      let chosen = bind + names_size (captured q) + guard_size guard in
      let begin = chosen + 1 in
      let next = begin + stmts_size (in_hand w) body + 1 in
      let site : Site = record { guard = w.guard; waiting = 0; fail = next; extra = 0 } in
      ap (λ n. suc (suc n)) (both (pattern_code site (p + 2) q) _ (pattern_size q) (names_size (captured q) + (guard_size guard + suc (stmts_size (in_hand w) body + suc (cases_size (in_hand w) rest)))) (pattern_length site (p + 2) q) (both (names_code w.guard (captured q)) _ (names_size (captured q)) (guard_size guard + suc (stmts_size (in_hand w) body + suc (cases_size (in_hand w) rest))) (names_length w.guard (captured q)) (both (guard_code w.guard (bind + names_size (captured q)) next guard) _ (guard_size guard) (suc (stmts_size (in_hand w) body + suc (cases_size (in_hand w) rest))) (guard_length w.guard (bind + names_size (captured q)) next guard) (ap suc (both (stmts_code fs w begin body) _ (stmts_size (in_hand w) body) (suc (cases_size (in_hand w) rest)) (stmts_length fs w begin body) (ap suc (cases_length fs w next end rest))))))) ∙ omega arith
