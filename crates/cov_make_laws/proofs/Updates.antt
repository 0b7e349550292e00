-- What `t = t op k` does alone in its suite.
use Rattle.std.proofs.Common.{◌≡◌, ℕ, suc, List, [], ap, ℤ, pos, Option, Some, None, Result, Ok}
use Rattle.py_value.specs.declared.cause.Cause.{Cause}
use Rattle.py_operator.specs.declared.operator.BinOp.{BinOp}
use Rattle.py_operator.specs.declared.operator.BinOp.TheVariants.{Add, Sub, Floor}
use Rattle.py_value.specs.Answers.{◌>>=◌, in_words}
use Rattle.py_value.specs.Causes.{raised_by}
use Rattle.py_value.specs.Operators.{gives}
use Rattle.py_value.specs.Numbers.{arithmetic}
use Rattle.py_value.specs.Plain.{int_value, PlainHeap, PlainRaised}
use Rattle.py_syntax.specs.Tree as T
use Rattle.py_syntax.specs.Tree.{Expr, Stmts}
use Rattle.py_meaning.specs.Activations.{Items, more, mark}
use Rattle.py_meaning.specs.Assignments.{assign_all}
use Rattle.py_meaning.specs.Calls.{Calls}
use Rattle.py_meaning.specs.Computations.{Res, done, give, chain, step, value, worked}
use Rattle.py_meaning.specs.Modules.{LoadedModule}
use Rattle.py_meaning.specs.Statements.{Out, normal, next, simply, exec}
use Rattle.cov_make_laws.specs.Trees.{read_t, number, update_t, simple_end, i_name}
use Rattle.cov_make_laws.proofs.States.{at_t, place}
use Rattle.cov_make_laws.proofs.Unfolds.{runs}

-- the statement of a suite
abbrev pub updating : ℕ → BinOp → Expr → Stmts
updating l op e = T.stmt l l (update_t op e) simple_end T.no_stmts

module _ (c : Calls) (ms : List LoadedModule) (e : Option PlainRaised) (x input : List ℕ) where
  -- what it comes to, by what the operation answers
  abbrev by_answer : ℕ → Result ℤ Cause → ℤ → Option ℤ → PlainHeap → Items → ℕ → Res Out
  by_answer l r t i h items n =
      chain (step (mark l) (simply
      (value (worked (in_words raised_by (r >>= λ m. gives h (int_value m))))
      (λ v. assign_all c (place ms e) (T.exprs read_t T.no_exprs) v))))
      (λ o. next o (give normal)) (at_t x input t i h items) n

  -- it sets `t` to u, in one step
  abbrev pub Sets : ℕ → Stmts → ℤ → ℤ → Option ℤ → PlainHeap → Items → ℕ → Type 0
  Sets l ss t u i h items n =
      exec c (place ms e) ss (at_t x input t i h items) (suc n)
      ≡ done normal (at_t x input u i h (more items (mark l))) n

  pub sets_add : (l k : ℕ) (t u : ℤ) (i : Option ℤ) (h : PlainHeap) (items : Items) (n : ℕ)
      → arithmetic Add t (pos k) ≡ Ok u
      → Sets l (updating l Add (number k)) t u i h items n
  unfolding runs
  sets_add l k t u None h items n is = ap (λ r. by_answer l r t None h items (suc n)) is
  sets_add l k t u (Some i) h items n is = ap (λ r. by_answer l r t (Some i) h items (suc n)) is

  pub sets_sub : (l k : ℕ) (t u : ℤ) (i : Option ℤ) (h : PlainHeap) (items : Items) (n : ℕ)
      → arithmetic Sub t (pos k) ≡ Ok u
      → Sets l (updating l Sub (number k)) t u i h items n
  unfolding runs
  sets_sub l k t u None h items n is = ap (λ r. by_answer l r t None h items (suc n)) is
  sets_sub l k t u (Some i) h items n is = ap (λ r. by_answer l r t (Some i) h items (suc n)) is

  pub sets_floor : (l k : ℕ) (t u : ℤ) (i : Option ℤ) (h : PlainHeap) (items : Items) (n : ℕ)
      → arithmetic Floor t (pos k) ≡ Ok u
      → Sets l (updating l Floor (number k)) t u i h items n
  unfolding runs
  sets_floor l k t u None h items n is = ap (λ r. by_answer l r t None h items (suc n)) is
  sets_floor l k t u (Some i) h items n is =
      ap (λ r. by_answer l r t (Some i) h items (suc n)) is

  -- and with the variable of a `for`
  pub sets_i : (l k : ℕ) (t u : ℤ) (h : PlainHeap) (items : Items) (n : ℕ)
      → arithmetic Add t (pos k) ≡ Ok u
      → Sets l (updating l Add (T.name i_name)) t u (Some (pos k)) h items n
  unfolding runs
  sets_i l k t u h items n is =
      ap (λ r. by_answer l r t (Some (pos k)) h items (suc n)) is
