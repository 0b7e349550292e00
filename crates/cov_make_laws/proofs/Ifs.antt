-- What a block `if` does.
use Rattle.std.proofs.Common.{◌≡◌, ℕ, zero, suc, ◌+◌, ◌<◌, ◌≤◌, ◌^◌, true, false, List, refl, arith, ℤ, Bool, if◌then◌else◌, Option, Some, None}
use Rattle.py_operator.specs.declared.operator.BinOp.TheVariants.{Add}
use Rattle.py_value.specs.Plain.{bool_value, PlainHeap, PlainRaised}
use Rattle.py_meaning.specs.Activations.{Items, more, mark}
use Rattle.py_meaning.specs.Calls.{Calls}
use Rattle.py_meaning.specs.Computations.{State, Res, branch}
use Rattle.py_meaning.specs.Expressions.{gives}
use Rattle.py_meaning.specs.Modules.{LoadedModule}
use Rattle.py_meaning.specs.Statements.{Out, using, exec, exec_kind}
use Rattle.cov_make_laws.specs.Trees.{If, number, statement}
use Rattle.cov_make_laws.proofs.Integers.{val, adds}
use Rattle.cov_make_laws.proofs.States.{at_t, place, Ended, of_same}
use Rattle.cov_make_laws.proofs.Unfolds.{runs}
use Rattle.cov_make_laws.proofs.Updates.{updating, sets_add}

module _ (c : Calls) (ms : List LoadedModule) (e : Option PlainRaised) (x input : List ℕ) where
  -- the suites, by what the test says
  unfoldable by_test : ℕ → State → ℕ → Bool → Res Out
  by_test l s n b =
      using (if b then gives (bool_value true) else gives (bool_value false))
      (λ v. branch v (exec c (place ms e) (updating (l + 1) Add (number 1)))
      (exec c (place ms e) (updating (l + 1 + 1 + 1) Add (number 2)))) s n

  if_is : (v l : ℕ) (t : ℤ) (i : Option ℤ) (h : PlainHeap) (items : Items) (n : ℕ)
      → (b : Bool)
      × (exec_kind c (place ms e) l (statement If v l) (at_t x input t i h items) (suc n)
      ≡ by_test l (at_t x input t i h (more items (mark l))) n b)
  unfolding runs by_test
  if_is v l t None h items n = (_, refl)
  if_is v l t (Some i) h items n = (_, refl)

  if_ends : (l u : ℕ) (i : Option ℤ) (h : PlainHeap) (items : Items) (n : ℕ) (b : Bool)
      → u < 2 ^ 39
      → Ended x input u (suc n) 11 (by_test l (at_t x input (val u) i h items) (suc n) b)
  unfolding runs by_test
  if_ends l u i h items n true low = record {
    w = u + 1;
    i = i;
    h = h;
    items = _;
    left = n;
    is = sets_add c ms e x input (l + 1) 1 (val u) (val (u + 1)) i h items n
        (adds u 1 (omega (arith, low)));
    fewer = omega arith;
    paid = omega arith;
  }
  if_ends l u i h items n false low = record {
    w = u + 2;
    i = i;
    h = h;
    items = _;
    left = n;
    is = sets_add c ms e x input (l + 1 + 1 + 1) 2 (val u) (val (u + 2)) i h items n
        (adds u 2 (omega (arith, low)));
    fewer = omega arith;
    paid = omega arith;
  }

  pub if_block : (v l u : ℕ) (i : Option ℤ) (h : PlainHeap) (items : Items) (n : ℕ)
      → u < 2 ^ 39 → 13 ≤ n
      → Ended x input u n 151
      (exec_kind c (place ms e) l (statement If v l) (at_t x input (val u) i h items) n)
  if_block v l u i h items zero low enough = absurd (omega (arith, enough))
  if_block v l u i h items (suc zero) low enough = absurd (omega (arith, enough))
  if_block v l u i h items (suc (suc n)) low enough =
      let is = if_is v l (val u) i h items (suc n) in
      of_same x input u u (suc (suc n)) (suc n) 11 140 _ _ is.1 (omega arith) (omega arith)
      (if_ends l u i h (more items (mark l)) n is.0 low)
