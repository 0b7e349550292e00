-- The code in front of suites and after them, by the places of its parts.
use Rattle.std.proofs.Common.{◌≡◌, ℕ, ◌+◌, Option, Some, None, [], ◌++◌, sym, ap, ◌∙◌}
use Rattle.std.proofs.lemmas.List.{append-nil}
use Rattle.py_syntax.specs.Tree.{Text, Expr, Pattern}
use Rattle.py_code.specs.declared.instr.Instr.TheVariants.{Pop, Copy, Goto, IfFalse, Walk, Next, Caught, Ending, Release}
use Rattle.py_compile_expr.specs.Cells.{store, unset, marks, marks_again, plain, Guard, put}
use Rattle.py_compile_expr.specs.Expressions.{expr_size, expr_code}
use Rattle.py_compile_expr.specs.Patterns.{captured, pattern_size, pattern_code, names_size, names_code}
use Rattle.py_compile.specs.Statements.{caught_code, guard_code, exits_code}
use Rattle.py_compile.specs.Ways.{Ways, under}
use Rattle.py_compile_body.specs.Parts.{while_head, for_head, clause_head, release_code, case_head}

pub while_head_node : (g : Option Guard) (p l rest first q : ℕ) (e : Expr) → first ≡ p + 3 → q ≡ p + 3
    → while_head g p l e rest ≡ put g (marks l) [] ++ (put g (plain (Goto first)) [] ++ (put g (marks_again l) [] ++ (expr_code g q e ++ put g (plain (IfFalse rest)) [])))
while_head_node g p l rest first q e a b =
    ap (λ n. put g (marks l) (put g (plain (Goto n)) (put g (marks_again l) (expr_code g (p + 3) e ++ put g (plain (IfFalse rest)) [])))) (sym a)
    ∙ ap (λ n. put g (marks l) (put g (plain (Goto first)) (put g (marks_again l) (expr_code g n e ++ put g (plain (IfFalse rest)) [])))) (sym b)

pub for_head_node : (g : Option Guard) (p l rest first : ℕ) (e : Expr) → first ≡ p + 1 + expr_size e + 2 + 1
    → for_head g p l e rest
    ≡ put g (marks l) (expr_code g (p + 1) e) ++ (put g (plain Walk) [] ++ (put g (plain (Goto first)) [] ++ (put g (marks_again l) [] ++ put g (plain (Next rest)) [])))
for_head_node g p l rest first e a =
    ap (λ n. put g (marks l) (expr_code g (p + 1) e ++ put g (plain Walk) (put g (plain (Goto n)) (put g (marks_again l) (put g (plain (Next rest)) []))))) (sym a)

pub release_node : (w v : Ways) (p q : ℕ) (x y : Text) → y ≡ x → v ≡ under w → q ≡ p + 1 + 2
    → release_code w p x ≡ put w.guard (plain Ending) [] ++ (put w.guard (unset y) [] ++ (put w.guard (plain Release) [] ++ exits_code v q))
release_node w v p q x y a b e =
    let F = λ (z : Text) (u : Ways) (n : ℕ). put w.guard (plain Ending) (put w.guard (unset z) (put w.guard (plain Release) (exits_code u n))) in
    ap (λ z. F z (under w) (p + 1 + 2)) (sym a) ∙ ap (λ u. F y u (p + 1 + 2)) (sym b) ∙ ap (F y v) (sym e)

pub clause_head_unnamed : (g : Option Guard) (p l next q : ℕ) (k : Option Expr) → q ≡ p + 1 → clause_head g p l next k None ≡ put g (marks l) [] ++ caught_code g q next k
clause_head_unnamed g p l next q k a = ap (put g (marks l)) (append-nil (caught_code g (p + 1) next k) ∙ ap (λ n. caught_code g n next k) (sym a))

pub clause_head_named : (g : Option Guard) (p l next q : ℕ) (k : Option Expr) (x : Text) → q ≡ p + 1
    → clause_head g p l next k (Some x) ≡ put g (marks l) [] ++ (caught_code g q next k ++ (put g (plain Caught) [] ++ put g (store x) []))
clause_head_named g p l next q k x a = ap (λ n. put g (marks l) (caught_code g n next k ++ put g (plain Caught) (put g (store x) []))) (sym a)

pub case_head_node : (g : Option Guard) (p l next a b : ℕ) (q : Pattern) (k : Option Expr) → a ≡ p + 2 → b ≡ p + 2 + pattern_size q + names_size (captured q)
    → case_head g p l next q k
    ≡ put g (marks l) [] ++ (put g (plain (Copy 0)) [] ++ (pattern_code (record { guard = g; waiting = 0; fail = next; extra = 0 }) a q
    ++ (names_code g (captured q) ++ (guard_code g b next k ++ put g (plain Pop) []))))
case_head_node g p l next a b q k d e =
    let F = λ (m n : ℕ). put g (marks l) (put g (plain (Copy 0)) (pattern_code (record { guard = g; waiting = 0; fail = next; extra = 0 }) m q
    ++ (names_code g (captured q) ++ (guard_code g n next k ++ put g (plain Pop) [])))) in
    ap (λ m. F m (p + 2 + pattern_size q + names_size (captured q))) (sym d) ∙ ap (F a) (sym e)
