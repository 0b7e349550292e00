-- The mark that comes first, statement by statement.
use Rattle.std.proofs.Common.{◌≡◌, ℕ, ◌+◌, ◌<◌, ◌≤◌, Bool, true, false, Option, Some, None, List, [], ◌∷◌, ◌++◌, length, drop, get_or, refl, ap, sym, subst, ◌∙◌}
use Rattle.std.proofs.Math.ListN.{drop_of_length-le}
use Rattle.std.specs.Prelude.{◌&&◌, not}
use Rattle.py_syntax.specs.declared.stmt.LineEnd.{LineEnd}
use Rattle.py_syntax.specs.declared.stmt.Stmt.{Stmt, out-Stmt}
use Rattle.py_syntax.specs.FirstMarks as first_
use Rattle.py_syntax.specs.FirstMarks.{only, stmts_first, stmts_empty, kind_first, kind_empty}
use Rattle.py_syntax.specs.Tree.{Stmts, StmtKind as Kind, no_stmts, stmt}
use Rattle.py_syntax.specs.View.{plain_stmts, plain_kind}
use Rattle.cov_predict.specs.Leaving.{IsFirst}
use Rattle.cov_predict.specs.Steps.{FirstIn}
use Rattle.cov_predict.proofs.Rows.{the-row}
use Rattle.cov_predict.proofs.Turns.{plain-Stmts}

-- two parts have the same first mark
pub record SameFirst (a b : Stmts) : Type 0 where
  pub firsts : stmts_first a ≡ stmts_first b
  pub empty : stmts_empty a ≡ stmts_empty b

first-row : (f l : ℕ) (k : Kind) (e : LineEnd) (rest : Stmts) → stmts_first (stmt f l k e rest) ≡ kind_first f k ++ only (kind_empty k) (stmts_first rest)
unfolding first_.stmts_first
first-row f l k e rest = refl

empty-row : (f l : ℕ) (k : Kind) (e : LineEnd) (rest : Stmts) → stmts_empty (stmt f l k e rest) ≡ (kind_empty k && stmts_empty rest)
unfolding first_.stmts_empty
empty-row f l k e rest = refl

pub found : (xs : List Stmt) (i : ℕ) (s : Stmt) (line : ℕ) → i < length xs → s ≡ get_or xs i s
    → IsFirst (Some line) (kind_first (out-Stmt s).first (plain_kind (out-Stmt s).kind)) (kind_empty (plain_kind (out-Stmt s).kind))
    → SameFirst (plain_stmts (drop i xs)) (plain_stmts xs) → IsFirst (Some line) (stmts_first (plain_stmts xs)) (stmts_empty (plain_stmts xs))
found xs i s line lt is h same =
    let rest = plain_stmts (drop (i + 1) xs) in
    let f = (out-Stmt s).first in
    let k = plain_kind (out-Stmt s).kind in (
      sym same.firsts ∙ ap stmts_first (the-row xs i s lt is) ∙ first-row f (out-Stmt s).last k (out-Stmt s).end rest
          ∙ ap (λ z. z ++ only (kind_empty k) (stmts_first rest)) h.0 ∙ ap (λ z. (line ∷ []) ++ only z (stmts_first rest)) h.1,
      sym same.empty ∙ ap stmts_empty (the-row xs i s lt is) ∙ empty-row f (out-Stmt s).last k (out-Stmt s).end rest ∙ ap (λ z. z && stmts_empty rest) h.1,
    )

pub passed : (xs : List Stmt) (i : ℕ) (s : Stmt) → i < length xs → s ≡ get_or xs i s
    → IsFirst None (kind_first (out-Stmt s).first (plain_kind (out-Stmt s).kind)) (kind_empty (plain_kind (out-Stmt s).kind))
    → SameFirst (plain_stmts (drop i xs)) (plain_stmts xs) → SameFirst (plain_stmts (drop (i + 1) xs)) (plain_stmts xs)
passed xs i s lt is h same =
    let rest = plain_stmts (drop (i + 1) xs) in
    let f = (out-Stmt s).first in
    let k = plain_kind (out-Stmt s).kind in
    record {
      firsts =
          sym (ap stmts_first (the-row xs i s lt is) ∙ first-row f (out-Stmt s).last k (out-Stmt s).end rest
          ∙ ap (λ z. z ++ only (kind_empty k) (stmts_first rest)) h.0 ∙ ap (λ z. only z (stmts_first rest)) h.1)
          ∙ same.firsts;
      empty = sym (ap stmts_empty (the-row xs i s lt is) ∙ empty-row f (out-Stmt s).last k (out-Stmt s).end rest ∙ ap (λ z. z && stmts_empty rest) h.1) ∙ same.empty;
    }

nothing : (stmts_first no_stmts ≡ []) × (stmts_empty no_stmts ≡ true)
unfolding first_.stmts_first first_.stmts_empty
nothing = (refl, refl)

pub none : (xs : List Stmt) (i : ℕ) → length xs ≤ i → SameFirst (plain_stmts (drop i xs)) (plain_stmts xs) → IsFirst None (stmts_first (plain_stmts xs)) (stmts_empty (plain_stmts xs))
none xs i le same =
    let gone = drop_of_length-le xs le in
    (sym same.firsts ∙ ap (λ z. stmts_first (plain_stmts z)) gone ∙ nothing.0, sym same.empty ∙ ap (λ z. stmts_empty (plain_stmts z)) gone ∙ nothing.1)

-- what comes first after a statement that marks nothing is what comes first from it on
pub pass-on : (s : Stmt) (rest : List Stmt) (r : Option ℕ) → IsFirst None (kind_first (out-Stmt s).first (plain_kind (out-Stmt s).kind)) (kind_empty (plain_kind (out-Stmt s).kind))
    → FirstIn (s ∷ rest) r → FirstIn rest r
pass-on s rest r h k =
    let f = (out-Stmt s).first in
    let kind = plain_kind (out-Stmt s).kind in
    let R = plain_stmts rest in
    let firsts : stmts_first (plain_stmts (s ∷ rest)) ≡ stmts_first R =
    ap stmts_first (plain-Stmts s rest) ∙ first-row f (out-Stmt s).last kind (out-Stmt s).end R
    ∙ ap (λ z. z ++ only (kind_empty kind) (stmts_first R)) h.0 ∙ ap (λ z. only z (stmts_first R)) h.1 in
    let empty : stmts_empty (plain_stmts (s ∷ rest)) ≡ stmts_empty R =
    ap stmts_empty (plain-Stmts s rest) ∙ empty-row f (out-Stmt s).last kind (out-Stmt s).end R ∙ ap (λ z. z && stmts_empty R) h.1 in
    subst (λ ms. IsFirst r ms (stmts_empty R)) firsts (subst (λ e. IsFirst r (stmts_first (plain_stmts (s ∷ rest))) e) empty k)
