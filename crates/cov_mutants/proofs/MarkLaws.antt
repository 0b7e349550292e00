-- From what stands at a mark to the mutants with its line.
use Rattle.std.specs.Prelude.{Box}
use Rattle.std.specs.Global.{Global}
use Rattle.std.proofs.Common.{Vec, ◌≡◌, ℕ, zero, suc, List, [], ◌∷◌, Option, Some, Result, Ok, Err, IfOk, refl, ap, ◌∙◌}
use Rattle.std.specs.Option.{option_map}
use Rattle.py_syntax.specs.Tree.{Expr, Exprs}
use Rattle.py_syntax.specs.declared.expr.Expr.{Expr as Node}
use Rattle.py_syntax.specs.View.{plain_expr, plain_exprs}
use Rattle.py_changes.specs.Mutants.{Token, Marked, around, at_mark, expr_mutants, exprs_mutants, maybe_mutants}
use Rattle.cov_mutants_expr.specs.Search.{Reached, left, found, past, changed, Copied}
use Rattle.cov_mutants_expr.specs.SearchView.{seen}
use Rattle.cov_mutants.specs.MarksView.{line_at, at_line, marked}
use Rattle.cov_mutants.specs.declared.marks.Marks.{Marks}
use Rattle.cov_mutants_expr.specs.declared.search.Search.{Search}
use Rattle.cov_mutants_expr.proofs.Copies.{copied-one, copied-as}

past-mark : {A : Type 0} (was l : ℕ) (s : Reached Token) (xs : List (Token × A))
    → at_line (line_at was l s) (past s xs) ≡ past (at_line was s) (at_mark l xs)
past-mark was l (found t) xs = refl
past-mark was l (left n) [] = refl
past-mark was l (left zero) (x ∷ xs) = refl
past-mark was l (left (suc n)) (x ∷ xs) = past-mark was l (left n) xs

changed-mark : {A : Type 0} (was l : ℕ) (s : Reached Token) (a : A) (xs : List (Token × A))
    → changed s a xs ≡ changed (at_line was s) a (at_mark l xs)
changed-mark was l (found t) a xs = refl
changed-mark was l (left n) a [] = refl
changed-mark was l (left zero) a (x ∷ xs) = refl
changed-mark was l (left (suc n)) a (x ∷ xs) = changed-mark was l (left n) a xs

-- a search that came to a mark and copied what stands at it
pub marked-copied : {A : Type 0} (mutants : A → List (Token × A)) (was come now : Marks) (l : ℕ) (a copy : A)
    → come.search ≡ was.search → come.line ≡ line_at was.line l (seen was.search)
    → now.line ≡ come.line → Copied mutants (seen come.search) (seen now.search) a copy
    → Copied (λ x. at_mark l (mutants x)) (marked was) (marked now) a copy
marked-copied mutants was come now l a copy same line kept h = record {
  tree =
      h.tree ∙ ap (λ s. changed (seen s) a (mutants a)) same
      ∙ changed-mark was.line l (seen was.search) a (mutants a);
  state =
      ap (λ k. at_line k (seen now.search)) (kept ∙ line)
      ∙ ap (at_line (line_at was.line l (seen was.search))) (h.state ∙ ap (λ s. past (seen s) (mutants a)) same)
      ∙ past-mark was.line l (seen was.search) (mutants a);
}

-- ---- results

pub box-marked : {E : Type 0} (r : Result (Box Node Global) E) (was come : Marks) (s : Search) (l : ℕ) (e : Expr)
    → come.search ≡ was.search → come.line ≡ line_at was.line l (seen was.search)
    → IfOk r (λ b. Copied expr_mutants (seen come.search) (seen s) e (plain_expr b.value))
    → IfOk r (λ b. Copied (λ x. at_mark l (expr_mutants x)) (marked was)
    (marked (record { search = s; line = come.line })) e (plain_expr b.value))
box-marked (Ok b) was come s l e same line h = marked-copied expr_mutants was come (record { search = s; line = come.line }) l e (plain_expr b.value) same line refl h
box-marked (Err u) was come s l e same line h = tt

pub row-marked : {E : Type 0} (r : Result (Vec Node Global) E) (was come : Marks) (s : Search) (l : ℕ) (es : Exprs)
    → come.search ≡ was.search → come.line ≡ line_at was.line l (seen was.search)
    → IfOk r (λ v. Copied exprs_mutants (seen come.search) (seen s) es (plain_exprs v.items))
    → IfOk r (λ v. Copied (λ x. at_mark l (exprs_mutants x)) (marked was)
    (marked (record { search = s; line = come.line })) es (plain_exprs v.items))
row-marked (Ok v) was come s l es same line h = marked-copied exprs_mutants was come (record { search = s; line = come.line }) l es (plain_exprs v.items) same line refl h
row-marked (Err u) was come s l es same line h = tt

mark-around : {A B : Type 0} (l : ℕ) (F : A → B) (xs : List (Token × A)) → at_mark l (around F xs) ≡ around F (at_mark l xs)
mark-around l F [] = refl
mark-around l F (x ∷ xs) = ap (λ ys. ((l, x.0), F x.1) ∷ ys) (mark-around l F xs)

pub some-marked : (l : ℕ) (s t : Reached Marked) (o : Option Node) (e x y : Node) → o ≡ Some e → x ≡ y
    → Copied (λ z. at_mark l (expr_mutants z)) s t (plain_expr e) (plain_expr y)
    → Copied (λ z. at_mark l (maybe_mutants z)) s t (option_map plain_expr o) (Some (plain_expr x))
some-marked l s t o e x y is same h =
    copied-as (ap (option_map plain_expr) is) (ap (λ z. Some (plain_expr z)) same) (copied-one Some (mark-around l Some (expr_mutants (plain_expr e))) h)
