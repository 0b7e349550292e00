-- What a block `while` does.
use Rattle.std.proofs.Common.{◌≡◌, ℕ, zero, suc, ◌+◌, ◌-◌, ◌*◌, ◌<◌, ◌≤◌, ◌^◌, true, false, List, refl, arith, ap, ◌∙◌, ℤ, pos, Bool, if◌then◌else◌, Option, Some, None, Result, Ok}
use Rattle.std.specs.Ordering.{int_cmp, is_gt}
use Rattle.py_value.specs.declared.cause.Cause.{Cause}
use Rattle.py_operator.specs.declared.operator.BinOp.TheVariants.{Sub, Mul}
use Rattle.py_operator.specs.declared.operator.CmpOp.TheVariants.{Gt}
use Rattle.py_value.specs.Answers.{◌>>=◌, in_words}
use Rattle.py_value.specs.Causes.{raised_by}
use Rattle.py_value.specs.Compared.{compared, relates}
use Rattle.py_value.specs.Operators as operators
use Rattle.py_value.specs.Numbers.{arithmetic}
use Rattle.py_value.specs.Plain.{int_value, bool_value, PlainHeap, PlainRaised}
use Rattle.py_syntax.specs.declared.expr.Comparison.TheVariants.{Op}
use Rattle.py_syntax.specs.Tree as T
use Rattle.py_syntax.specs.Tree.{Expr}
use Rattle.py_meaning.specs.Activations.{Item, Items, more, mark, again}
use Rattle.py_meaning.specs.Calls.{Calls}
use Rattle.py_meaning.specs.Computations.{State, Res, done, bind, chain, value, worked, branch, ask}
use Rattle.py_meaning.specs.Expressions.{eval, gives}
use Rattle.py_meaning.specs.Modules.{LoadedModule}
use Rattle.py_meaning.specs.Statements.{Out, normal, using, looped, if_turn, Loop, turns, while_loop, exec, exec_kind, exec_opt}
use Rattle.cov_make_laws.specs.Trees.{While, read_t, number, statement}
use Rattle.cov_make_laws.proofs.Draws.{each_digit}
use Rattle.cov_make_laws.proofs.Integers.{val, takes, above}
use Rattle.cov_make_laws.proofs.States.{at_t, place, Ended, of_same}
use Rattle.cov_make_laws.proofs.Unfolds.{runs}
use Rattle.cov_make_laws.proofs.Updates.{updating, sets_sub}

-- the bound of a digit
abbrev Product : ℕ → ℕ → Type 0
Product v m = arithmetic Mul (pos v) (pos 10) ≡ Ok (pos m)

product : (v : ℕ) → v < 7 → Product v (v * 10)
product v h = each_digit (λ v. Product v (v * 10)) refl refl refl refl refl refl refl v h

-- the test
abbrev while_test : ℕ → Expr
while_test v = T.compare read_t (T.link (Op Gt) (T.binary Mul (number v) (number 10)) T.no_links)

-- there is a turn, or none
abbrev a_turn : Option (Unit {0})
a_turn = Some tt

abbrev no_turn : Option (Unit {0})
no_turn = None

module _ (c : Calls) (ms : List LoadedModule) (e : Option PlainRaised) (x input : List ℕ)
    (v l : ℕ) where
  -- the loop
  abbrev this_loop : Loop (Unit {0})
  this_loop =
      while_loop l (eval c (place ms e) (while_test v))
      (exec c (place ms e) (updating (l + 1) Sub (number 7)))
      (exec_opt c (place ms e) T.no_suite)

  -- a turn that was found, and those after it
  abbrev after_found : ℕ → Option (Unit {0}) → State → ℕ → Res Out
  after_found k found =
      if_turn found (exec_opt c (place ms e) T.no_suite)
      (λ y. chain (exec c (place ms e) (updating (l + 1) Sub (number 7)))
      (λ o. looped o (turns this_loop k (again l) (Some tt))))

  -- the turns, by what the product answers
  unfoldable by_product : ℕ → ℤ → PlainHeap → Result ℤ Cause → State → ℕ → Res Out
  by_product k t h r s n =
      using (value (value (worked (in_words raised_by (r >>= λ m. operators.gives h (int_value m))))
      (λ w. value (ask (λ s. compared (relates Gt) (int_value t) w s.world.heap))
      (λ b. if b then gives (bool_value true) else gives (bool_value false))))
      (λ y. branch y (gives a_turn) (gives no_turn)))
      (after_found k) s n

  -- the turns, by what the comparison answers
  unfoldable by_test : ℕ → Bool → State → ℕ → Res Out
  by_test k b s n =
      using (value (if b then gives (bool_value true) else gives (bool_value false))
      (λ y. branch y (gives a_turn) (gives no_turn)))
      (after_found k) s n

  turn_is : (m : ℕ) (t : ℤ) (i : Option ℤ) (h : PlainHeap) (items : Items) (k n : ℕ) (it : Item)
      (before : Option (Unit {0})) → Product v m
      → turns this_loop (suc k) it before (at_t x input t i h items) (suc n)
      ≡ by_test k (is_gt (int_cmp t (pos m))) (at_t x input t i h (more items it)) n
  unfolding runs by_product by_test
  turn_is m t None h items k n it before is =
      ap (λ r. by_product k t h r (at_t x input t None h (more items it)) n) is
  turn_is m t (Some i) h items k n it before is =
      ap (λ r. by_product k t h r (at_t x input t (Some i) h (more items it)) n) is

  goes_on : (u w : ℕ) (i : Option ℤ) (h : PlainHeap) (items : Items) (k n : ℕ) → u ≡ w + 7
      → u < 2 ^ 40
      → by_test k true (at_t x input (val u) i h items) (suc n)
      ≡ turns this_loop k (again l) (Some tt)
      (at_t x input (val w) i h (more items (mark (l + 1)))) n
  unfolding runs by_test
  goes_on u w i h items k n is low =
      ap (λ r. bind r (λ o. looped o (turns this_loop k (again l) (Some tt))))
      (sets_sub c ms e x input (l + 1) 7 (val u) (val w) i h items n (takes u w is low))

  stops : (u : ℕ) (i : Option ℤ) (h : PlainHeap) (items : Items) (k n : ℕ)
      → by_test k false (at_t x input (val u) i h items) n
      ≡ done normal (at_t x input (val u) i h items) n
  unfolding runs by_test
  stops u i h items k n = refl

  mutual
    -- the turns that are left, whatever the turn before
    while_turns : (m u : ℕ) (i : Option ℤ) (h : PlainHeap) (items : Items) (k n : ℕ) (it : Item)
        (before : Option (Unit {0})) → Product v m → u < 2 ^ 40 → 2 * u + 7 ≤ 7 * n → n ≤ k
        → Ended x input u n 7 (turns this_loop k it before (at_t x input (val u) i h items) n)
    while_turns m u i h items k zero it before is low enough deep =
        absurd (omega (arith, enough))
    while_turns m u i h items zero (suc n) it before is low enough deep =
        absurd (omega (arith, deep))
    while_turns m u i h items (suc k) (suc n) it before is low enough deep =
        of_same x input u u (suc n) n 0 7 _ _ (turn_is m (val u) i h items k n it before is)
        (omega arith) (omega arith)
        (after_test m u i h (more items it) k n (is_gt (int_cmp (val u) (pos m))) refl is low
        (omega (arith, enough)) (omega (arith, deep)))

    after_test : (m u : ℕ) (i : Option ℤ) (h : PlainHeap) (items : Items) (k n : ℕ) (b : Bool)
        → is_gt (int_cmp (val u) (pos m)) ≡ b → Product v m → u < 2 ^ 40 → 2 * u ≤ 7 * n → n ≤ k
        → Ended x input u n 0 (by_test k b (at_t x input (val u) i h items) n)
    after_test m u i h items k n false so is low enough deep = record {
      w = u;
      i = i;
      h = h;
      items = items;
      left = n;
      is = stops u i h items k n;
      fewer = omega arith;
      paid = omega arith;
    }
    after_test m u i h items k zero true so is low enough deep =
        absurd (omega (arith, enough, above u m so))
    after_test m u i h items k (suc n) true so is low enough deep =
        let seven : u ≡ (u - 7) + 7 = omega (arith, above u m so) in
        let d = while_turns m (u - 7) i h (more items (mark (l + 1))) k n (again l) (Some tt) is
        (omega (arith, low)) (omega (arith, enough, above u m so)) (omega (arith, deep)) in
        record {
          w = d.w;
          i = d.i;
          h = d.h;
          items = d.items;
          left = d.left;
          is = goes_on u (u - 7) i h items k n seven low ∙ d.is;
          fewer = omega (arith, d.fewer);
          paid = omega (arith, d.paid, seven);
        }

  while_is : (s : State) (n : ℕ)
      → exec_kind c (place ms e) l (statement While v l) s n ≡ turns this_loop n (mark l) None s n
  unfolding runs
  while_is s n = refl

  pub while_block : (u : ℕ) (i : Option ℤ) (h : PlainHeap) (items : Items) (n : ℕ) → v < 7
      → u < 2 ^ 39 → 2 * u + 7 ≤ 7 * n
      → Ended x input u n 151
      (exec_kind c (place ms e) l (statement While v l) (at_t x input (val u) i h items) n)
  while_block u i h items n small low enough =
      of_same x input u u n n 7 144 _ _ (while_is (at_t x input (val u) i h items) n)
      (omega arith) (omega arith)
      (while_turns (v * 10) u i h items n n (mark l) None (product v small) (omega (arith, low))
      (omega (arith, enough)) (omega arith))
