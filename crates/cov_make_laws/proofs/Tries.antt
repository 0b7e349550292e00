-- What a block `try` does.
use Rattle.std.proofs.Common.{◌≡◌, ℕ, zero, suc, ◌+◌, ◌<◌, ◌≤◌, ◌^◌, true, List, arith, ap, ℤ, pos, Option, Some, None, Ok}
use Rattle.py_value.specs.declared.cause.Cause.TheVariants.{DivisionByZero}
use Rattle.py_value.specs.declared.exception.ExcKind.TheVariants.{ZeroDivisionError}
use Rattle.py_operator.specs.declared.operator.BinOp.TheVariants.{Add, Floor}
use Rattle.py_value.specs.Causes.{raised_by}
use Rattle.py_value.specs.Numbers.{arithmetic}
use Rattle.py_value.specs.Plain.{PlainHeap, PlainRaised}
use Rattle.py_syntax.specs.Tree as T
use Rattle.py_meaning.specs.Activations.{Items, more, mark, throw}
use Rattle.py_meaning.specs.Calls.{Calls}
use Rattle.py_meaning.specs.Computations.{Res, done, bind, give, write}
use Rattle.py_meaning.specs.Modules.{LoadedModule}
use Rattle.py_meaning.specs.Statements.{Out, normal, exec_kind, exec_opt, exec_finally, released, handle, exec_clauses}
use Rattle.cov_make_laws.specs.Trees.{Try, zero_division, number, update_t, line_suite, statement}
use Rattle.cov_make_laws.proofs.Integers.{val, adds, divides}
use Rattle.cov_make_laws.proofs.States.{at_t, place, Ended}
use Rattle.cov_make_laws.proofs.Unfolds.{runs}
use Rattle.cov_make_laws.proofs.Updates.{sets_add, sets_floor}

module _ (c : Calls) (ms : List LoadedModule) (e : Option PlainRaised) (x input : List ℕ)
    (l : ℕ) where
  -- what the digit 0 told before its clause
  abbrev thrown : Items → Items
  thrown items =
      more (more (more (more items (mark l)) (mark (l + 1))) (throw ZeroDivisionError))
      (mark (l + 1 + 1))

  -- what follows the suite of the clause
  abbrev after_clause : Res Out → Res Out
  after_clause r =
      bind (bind r (λ o. write (released (place ms e).scope None) (give o)))
      (λ o. exec_finally c (place ms e) T.no_suite o)

  try_zero : (t u : ℤ) (i : Option ℤ) (h : PlainHeap) (items : Items) (n : ℕ)
      → arithmetic Add t (pos 5) ≡ Ok u
      → exec_kind c (place ms e) l (statement Try 0 l) (at_t x input t i h items)
      (suc (suc (suc (suc n))))
      ≡ done normal (at_t x input u i h (more (thrown items) (mark (l + 1 + 1 + 1)))) n
  unfolding runs
  try_zero t u None h items n is =
      ap after_clause
      (sets_add c ms (Some (raised_by DivisionByZero)) x input (l + 1 + 1 + 1) 5 t u None h
      (thrown items) n is)
  try_zero t u (Some i) h items n is =
      ap after_clause
      (sets_add c ms (Some (raised_by DivisionByZero)) x input (l + 1 + 1 + 1) 5 t u (Some i) h
      (thrown items) n is)

  -- what follows the suite of the `try`
  abbrev after_suite : Res Out → Res Out
  after_suite r =
      bind (bind r (λ o. handle true o
      (exec_clauses c (place ms e) (T.clause (Some (T.name zero_division)) None
      (line_suite (l + 1 + 1) (update_t Add (number 5))) T.no_clauses))
      (exec_opt c (place ms e) T.no_suite)))
      (λ o. exec_finally c (place ms e) T.no_suite o)

  try_other : (v : ℕ) (t u : ℤ) (i : Option ℤ) (h : PlainHeap) (items : Items) (n : ℕ)
      → arithmetic Floor t (pos v) ≡ Ok u
      → exec_kind c (place ms e) l (statement Try v l) (at_t x input t i h items) (suc (suc n))
      ≡ done normal (at_t x input u i h (more (more items (mark l)) (mark (l + 1)))) n
  unfolding runs
  try_other v t u i h items n is =
      ap after_suite
      (sets_floor c ms e x input (l + 1) v t u i h (more items (mark l)) n is)

  pub try_block : (v u : ℕ) (i : Option ℤ) (h : PlainHeap) (items : Items) (n : ℕ)
      → u < 2 ^ 39 → 13 ≤ n
      → Ended x input u n 151
      (exec_kind c (place ms e) l (statement Try v l) (at_t x input (val u) i h items) n)
  try_block zero u i h items zero low enough = absurd (omega (arith, enough))
  try_block zero u i h items (suc zero) low enough = absurd (omega (arith, enough))
  try_block zero u i h items (suc (suc zero)) low enough = absurd (omega (arith, enough))
  try_block zero u i h items (suc (suc (suc zero))) low enough = absurd (omega (arith, enough))
  try_block zero u i h items (suc (suc (suc (suc n)))) low enough = record {
    w = u + 5;
    i = i;
    h = h;
    items = _;
    left = n;
    is = try_zero (val u) (val (u + 5)) i h items n (adds u 5 (omega (arith, low)));
    fewer = omega arith;
    paid = omega arith;
  }
  try_block (suc v) u i h items zero low enough = absurd (omega (arith, enough))
  try_block (suc v) u i h items (suc zero) low enough = absurd (omega (arith, enough))
  try_block (suc v) u i h items (suc (suc n)) low enough =
      let d = divides u v low in
      record {
        w = d.0;
        i = i;
        h = h;
        items = _;
        left = n;
        is = try_other (suc v) (val u) (val d.0) i h items n d.2;
        fewer = omega arith;
        paid = omega (arith, d.1);
      }
