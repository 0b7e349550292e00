-- The places of the code of parts of statements have one number of operands each.
use Rattle.std.proofs.Common.{◌≡◌, ℕ, suc, ◌+◌, ◌-◌, ◌<◌, ◌≤◌, true, false, List, [], ◌∷◌, Option, Some, None, refl, arith}
use Rattle.py_operator.specs.declared.operator.BinOp.{BinOp}
use Rattle.py_syntax.specs.Names.{alias_name}
use Rattle.py_syntax.specs.Tree.{Text, Alias, Expr, name, int, str, fstr, none, bool, tuple, list, dict, paren, not', and, or, unary, binary, compare, cond, call, index, slice, attr, Exprs, no_exprs, exprs}
use Rattle.py_code.specs.declared.instr.Instr.TheVariants.{Pop, Copy, Sink, List as MakeList, InPlace, Index, StoreIndex, IfFalse, Function as MakeFunction, FunctionWith, Raise, Reraise, Assertion, AssertionWith, Catches}
use Rattle.py_code.specs.declared.unit.Constant.TheVariants.{None as NoneConstant}
use Rattle.py_compile_expr.specs.Cells.{constant, load, store, imports, module_named, takes, plain, Guard}
use Rattle.py_compile_expr.specs.Expressions.{count, expr_size, each_size}
use Rattle.py_compile.specs.Statements.{option_size, option_code, module_code, import_size, import_code, take_size, take_code, no_place_code, augment_size, augment_code, raise_size, raise_code, assert_size, assert_code, function_size, function_code, caught_size, caught_code, guard_size, guard_code}
use Rattle.py_compile.specs.Ways.{Ways, is_there}
use Rattle.py_code_laws.proofs.Blocks.{Block, resize}
use Rattle.py_code_laws.proofs.Pieces.{Run, At, Any, moved, step, calm, fork, stop, finish, after, only}
use Rattle.py_code_laws.proofs.ExpressionFits.{Fit, expr_fits, each_fits}
use Rattle.py_code_laws.proofs.PatternFits.{Fails}

pub option_fits : {units : ℕ} (g : Option Guard) (m p d q : ℕ) (e : Option Expr) → p + option_size e ≡ q → m ≤ d → Fit units g m p d q (suc d) (option_size e) (option_code g p e)
option_fits g m p d q None at le = only (calm (constant NoneConstant) 0 1 d d (suc d) refl (omega arith) (omega arith) tt (omega arith) (finish at refl))
option_fits g m p d q (Some e) at le = expr_fits g m p d q e at le

pub module_fits : {units : ℕ} (g : Option Guard) (m p d q : ℕ) (x : Text) → p + 3 ≡ q → m ≤ d → Fit units g m p d q (suc d) 3 (module_code g x)
module_fits g m p d q x at le =
    only (step (imports x) 0 1 d d (suc d) true refl (omega arith) (omega arith) le tt (omega arith)
    (calm (plain Pop) 1 0 d (suc d) d refl (omega arith) (omega arith) tt (omega arith)
    (step (module_named x) 0 1 d d (suc d) true refl (omega arith) (omega arith) le tt (omega arith) (finish (omega arith) refl))))

pub import_fits : {units : ℕ} (g : Option Guard) (m p d q : ℕ) (names : List Alias) → p + import_size names ≡ q → m ≤ d → Fit units g m p d q d (import_size names) (import_code g names)
import_fits g m p d q [] at le = finish (omega arith) refl
import_fits g m p d q (a ∷ rest) at le =
    resize (omega arith) (only (after refl (omega arith) (module_fits g m p d (p + 3) a.name refl le)
    (calm (store (alias_name a)) 1 0 d (suc d) d refl (omega arith) (omega arith) tt (omega arith) (import_fits g m (p + 3 + 1) d q rest (omega arith) le))))

-- after the module on top, which is taken away
pub take_fits : {units : ℕ} (g : Option Guard) (m p d q : ℕ) (x : Text) (names : List Alias) → p + take_size names ≡ q → m ≤ d → Fit units g m p (suc d) q d (take_size names) (take_code g x names)
take_fits g m p d q x [] at le = only (calm (plain Pop) 1 0 d (suc d) d refl (omega arith) (omega arith) tt (omega arith) (finish at refl))
take_fits g m p d q x (a ∷ rest) at le =
    resize (omega arith) (only (step (takes x a.name) 1 2 d (suc d) (suc (suc d)) true refl (omega arith) (omega arith) le tt (omega arith)
    (calm (store (alias_name a)) 1 0 (suc d) (suc (suc d)) (suc d) refl (omega arith) (omega arith) tt (omega arith) (take_fits g m (p + 1 + 1) d q x rest (omega arith) le))))

no_place : {units : ℕ} (g : Option Guard) (m p d q : ℕ) → p + 4 ≡ q → m ≤ d → Fit units g m p d q d 4 (no_place_code g)
no_place g m p d q at le =
    only (calm (constant NoneConstant) 0 1 d d (suc d) refl (omega arith) (omega arith) tt (omega arith)
    (calm (constant NoneConstant) 0 1 (suc d) (suc d) (suc (suc d)) refl (omega arith) (omega arith) tt (omega arith)
    (step (plain Index) 2 1 d (suc (suc d)) (suc d) true refl (omega arith) (omega arith) le tt (omega arith)
    (calm (plain Pop) 1 0 d (suc d) d refl (omega arith) (omega arith) tt (omega arith) (finish (omega arith) refl)))))

pub augment_fits : {units : ℕ} (g : Option Guard) (m p d q : ℕ) (place : Expr) (op : BinOp) (e : Expr) → p + augment_size place e ≡ q → m ≤ d → Fit units g m p d q d (augment_size place e) (augment_code g p place op e)
augment_fits g m p d q (name x) op e at le =
    resize (omega arith) (only (step (load x) 0 1 d d (suc d) true refl (omega arith) (omega arith) le tt (omega arith)
    (after refl (omega arith) (expr_fits g m (p + 1) (suc d) (p + 1 + expr_size e) e refl (omega arith))
    (step (plain (InPlace op)) 2 1 d (suc (suc d)) (suc d) true refl (omega arith) (omega arith) le tt (omega arith)
    (calm (store x) 1 0 d (suc d) d refl (omega arith) (omega arith) tt (omega arith) (finish (omega arith) refl))))))
augment_fits g m p d q (int n) op e at le = no_place g m p d q at le
augment_fits g m p d q (str ps) op e at le = no_place g m p d q at le
augment_fits g m p d q (fstr fs) op e at le = no_place g m p d q at le
augment_fits g m p d q none op e at le = no_place g m p d q at le
augment_fits g m p d q (bool b) op e at le = no_place g m p d q at le
augment_fits g m p d q (tuple es c) op e at le = no_place g m p d q at le
augment_fits g m p d q (list es c) op e at le = no_place g m p d q at le
augment_fits g m p d q (dict ps c) op e at le = no_place g m p d q at le
augment_fits g m p d q (paren t) op e at le = no_place g m p d q at le
augment_fits g m p d q (not' a) op e at le = no_place g m p d q at le
augment_fits g m p d q (and a b) op e at le = no_place g m p d q at le
augment_fits g m p d q (or a b) op e at le = no_place g m p d q at le
augment_fits g m p d q (unary s a) op e at le = no_place g m p d q at le
augment_fits g m p d q (binary o a b) op e at le = no_place g m p d q at le
augment_fits g m p d q (compare a ls) op e at le = no_place g m p d q at le
augment_fits g m p d q (cond b t o) op e at le = no_place g m p d q at le
augment_fits g m p d q (call f es c) op e at le = no_place g m p d q at le
augment_fits g m p d q (index of i) op e at le =
    let read = p + expr_size of + expr_size i + 3 in
    resize (omega arith) (only (after refl (omega arith) (expr_fits g m p d (p + expr_size of) of refl le)
    (after refl (omega arith) (expr_fits g m (p + expr_size of) (suc d) (p + expr_size of + expr_size i) i refl (omega arith))
    (calm (plain (Copy 1)) 2 3 d (suc (suc d)) (suc (suc (suc d))) refl (omega arith) (omega arith) tt (omega arith)
    (calm (plain (Copy 1)) 2 3 (suc d) (suc (suc (suc d))) (suc (suc (suc (suc d)))) refl (omega arith) (omega arith) tt (omega arith)
    (step (plain Index) 2 1 (suc (suc d)) (suc (suc (suc (suc d)))) (suc (suc (suc d))) true refl (omega arith) (omega arith) (omega arith) tt (omega arith)
    (moved (omega arith) (after refl (omega arith) (expr_fits g m read (suc (suc (suc d))) (read + expr_size e) e refl (omega arith))
    (step (plain (InPlace op)) 2 1 (suc (suc d)) (suc (suc (suc (suc d)))) (suc (suc (suc d))) true refl (omega arith) (omega arith) (omega arith) tt (omega arith)
    (calm (plain (Sink 2)) 3 3 d (suc (suc (suc d))) (suc (suc (suc d))) refl (omega arith) (omega arith) tt (omega arith)
    (step (plain StoreIndex) 3 0 d (suc (suc (suc d))) d true refl (omega arith) (omega arith) le tt (omega arith) (finish (omega arith) refl))))))))))))
augment_fits g m p d q (slice of low high) op e at le = no_place g m p d q at le
augment_fits g m p d q (attr of x) op e at le = no_place g m p d q at le

pub assert_fits : {units : ℕ} (g : Option Guard) (m p d q : ℕ) (why : Option Expr) → p + assert_size why ≡ q → m ≤ d → Fit units g m p d q d (assert_size why) (assert_code g p why)
assert_fits g m p d q None at le = only (stop (plain Assertion) 0 0 d d d true refl (omega arith) (omega arith) le tt (omega arith) (finish at refl))
assert_fits g m p d q (Some e) at le =
    resize (omega arith) (only (after refl (omega arith) (expr_fits g m p d (p + expr_size e) e refl le)
    (stop (plain AssertionWith) 1 1 d (suc d) d true refl (omega arith) (omega arith) le tt (omega arith) (finish (omega arith) refl))))

pub function_fits : {units : ℕ} (g : Option Guard) (m p d q unit : ℕ) (es : Exprs) → 0 < unit → unit < units → p + function_size es ≡ q → m ≤ d → Fit units g m p d q (suc d) (function_size es) (function_code g p unit es)
function_fits g m p d q unit no_exprs pos lt at le = only (calm (plain (MakeFunction unit)) 0 1 d d (suc d) refl (omega arith) (omega arith) (pos, lt) (omega arith) (finish at refl))
function_fits g m p d q unit (exprs e es) pos lt at le =
    let n = count (exprs e es) in
    resize (omega arith) (only (after refl (omega arith) (each_fits g m p d (p + each_size (exprs e es)) (n + d) (exprs e es) refl refl le)
    (step (plain (MakeList n)) n 1 d (n + d) (suc d) true refl refl (omega arith) le tt (omega arith)
    (calm (plain (FunctionWith unit)) 1 1 d (suc d) (suc d) refl (omega arith) (omega arith) (pos, lt) (omega arith) (finish (omega arith) refl)))))

-- an exception that is handled stands among the operands
abbrev pub Held : Option ℕ → ℕ → Type 0
Held None d = Unit {0}
Held (Some below) d = below < d

pub raise_fits : {units : ℕ} (handled : Option ℕ) (w : Ways) (p q : ℕ) (e : Option Expr) → Held handled w.depth → p + raise_size (is_there handled) e ≡ q → Fit units w.guard w.depth p w.depth q w.depth (raise_size (is_there handled) e) (raise_code handled w p e)
raise_fits None w p q None held at =
    only (calm (constant NoneConstant) 0 1 w.depth w.depth (suc w.depth) refl (omega arith) (omega arith) tt (omega arith)
    (stop (plain Raise) 1 1 w.depth (suc w.depth) w.depth true refl (omega arith) (omega arith) (omega arith) tt (omega arith) (finish (omega arith) refl)))
raise_fits (Some below) w p q None held at =
    only (stop (plain (Reraise (w.depth - below - 1))) (suc (w.depth - below - 1)) 0 w.depth w.depth w.depth true refl (omega arith) (omega (arith, held)) (omega arith) tt (omega arith) (finish at refl))
raise_fits None w p q (Some e) held at =
    resize (omega arith) (only (after refl (omega arith) (expr_fits w.guard w.depth p w.depth (p + expr_size e) e refl (omega arith))
    (stop (plain Raise) 1 1 w.depth (suc w.depth) w.depth true refl (omega arith) (omega arith) (omega arith) tt (omega arith) (finish (omega arith) refl))))
raise_fits (Some below) w p q (Some e) held at =
    resize (omega arith) (only (after refl (omega arith) (expr_fits w.guard w.depth p w.depth (p + expr_size e) e refl (omega arith))
    (stop (plain Raise) 1 1 w.depth (suc w.depth) w.depth true refl (omega arith) (omega arith) (omega arith) tt (omega arith) (finish (omega arith) refl))))

-- below the exception on top; where the clause doesn't catch it, the next one is tried
pub caught_fits : {units : ℕ} (g : Option Guard) (m p d q next : ℕ) (kind : Option Expr) → p + caught_size kind ≡ q → q ≤ next → m ≤ d
    → Block units (Run g m q (suc d) (Fails (suc d) next)) (At p (suc d) Any) p (caught_size kind) (caught_code g p next kind)
caught_fits g m p d q next None at ahead le = finish (omega arith) refl
caught_fits g m p d q next (Some e) at ahead le =
    resize (omega arith) (only (after refl (omega arith) (expr_fits g m p (suc d) (p + expr_size e) e refl (omega arith))
    (step (plain Catches) 2 2 d (suc (suc d)) (suc (suc d)) true refl (omega arith) (omega arith) le tt (omega arith)
    (fork (plain (IfFalse next)) 1 0 0 (suc d) (suc (suc d)) (suc d) (suc d) next false refl (omega arith) (omega arith) (omega arith) (omega arith) tt (omega arith) (omega arith)
    (finish (omega arith) refl) (λ l there h. h.also)))))

-- the same for the guard of a case
pub guard_fits : {units : ℕ} (g : Option Guard) (m p d q next : ℕ) (guard : Option Expr) → p + guard_size guard ≡ q → q ≤ next → m ≤ d
    → Block units (Run g m q d (Fails d next)) (At p d Any) p (guard_size guard) (guard_code g p next guard)
guard_fits g m p d q next None at ahead le = finish (omega arith) refl
guard_fits g m p d q next (Some e) at ahead le =
    resize (omega arith) (only (after refl (omega arith) (expr_fits g m p d (p + expr_size e) e refl le)
    (fork (plain (IfFalse next)) 1 0 0 d (suc d) d d next false refl (omega arith) (omega arith) (omega arith) le tt (omega arith) (omega arith)
    (finish (omega arith) refl) (λ l there h. h.also))))
