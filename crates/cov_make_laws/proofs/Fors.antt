-- What a block `for` does.
use Rattle.std.proofs.Common.{◌≡◌, ℕ, zero, suc, ◌+◌, ◌*◌, ◌<◌, ◌≤◌, ◌^◌, false, List, [], ◌∷◌, ◌++◌, refl, arith, ap, ◌∙◌, ℤ, pos, Option, Some, None, Ok}
use Rattle.std.specs.Prelude.{length, slice_get}
use Rattle.py_operator.specs.declared.operator.BinOp.TheVariants.{Add}
use Rattle.py_value.specs.Heaps.{list_items}
use Rattle.py_value.specs.Plain.{PlainValue, int_value, list_at, list_object, PlainHeap, PlainRaised}
use Rattle.py_value.specs.Sequences.{most_items}
use Rattle.py_builtins.specs.Builtins.{numbers_before}
use Rattle.py_syntax.specs.Tree as T
use Rattle.py_syntax.specs.Tree.{Expr}
use Rattle.py_meaning.specs.Activations.{Item, Items, more, mark, again}
use Rattle.py_meaning.specs.Assignments.{assign_to}
use Rattle.py_meaning.specs.Calls.{Calls}
use Rattle.py_meaning.specs.Computations.{State, Res, done, bind, give, chain, value}
use Rattle.py_meaning.specs.Expressions.{eval, gives}
use Rattle.py_meaning.specs.Modules.{LoadedModule}
use Rattle.py_meaning.specs.Statements.{Out, normal, using, looped, if_turn, Loop, turns, walked, Walked, for_loop, exec, exec_kind, exec_opt}
use Rattle.cov_make_laws.specs.Trees.{For, i_name, range_name, number, statement}
use Rattle.cov_make_laws.proofs.Draws.{each_digit}
use Rattle.cov_make_laws.proofs.Integers.{val, adds}
use Rattle.cov_make_laws.proofs.States.{at_t, place, Ended}
use Rattle.cov_make_laws.proofs.Unfolds.{runs}
use Rattle.cov_make_laws.proofs.Updates.{updating, sets_i}

-- ---- the numbers of a `range`

abbrev numbers : ℕ → List PlainValue
numbers v = numbers_before most_items (pos v) (pos 1) (pos 0)

-- the items of the newest list
new_items : (h : PlainHeap) (vs : List PlainValue)
    → list_items (h ++ list_object vs ∷ []) (length h) ≡ vs
new_items [] vs = refl
new_items (o ∷ h) vs = new_items h vs

item_at : (v j : ℕ) → v < 7 → j < v → slice_get (numbers v) j ≡ Some (int_value (pos j))
unfolding runs
item_at zero j small h = absurd (omega (arith, h))
item_at (suc zero) zero small h = refl
item_at (suc zero) (suc j) small h = absurd (omega (arith, h))
item_at (suc (suc zero)) zero small h = refl
item_at (suc (suc zero)) (suc zero) small h = refl
item_at (suc (suc zero)) (suc (suc j)) small h = absurd (omega (arith, h))
item_at (suc (suc (suc zero))) zero small h = refl
item_at (suc (suc (suc zero))) (suc zero) small h = refl
item_at (suc (suc (suc zero))) (suc (suc zero)) small h = refl
item_at (suc (suc (suc zero))) (suc (suc (suc j))) small h = absurd (omega (arith, h))
item_at (suc (suc (suc (suc zero)))) zero small h = refl
item_at (suc (suc (suc (suc zero)))) (suc zero) small h = refl
item_at (suc (suc (suc (suc zero)))) (suc (suc zero)) small h = refl
item_at (suc (suc (suc (suc zero)))) (suc (suc (suc zero))) small h = refl
item_at (suc (suc (suc (suc zero)))) (suc (suc (suc (suc j)))) small h =
    absurd (omega (arith, h))
item_at (suc (suc (suc (suc (suc zero))))) zero small h = refl
item_at (suc (suc (suc (suc (suc zero))))) (suc zero) small h = refl
item_at (suc (suc (suc (suc (suc zero))))) (suc (suc zero)) small h = refl
item_at (suc (suc (suc (suc (suc zero))))) (suc (suc (suc zero))) small h = refl
item_at (suc (suc (suc (suc (suc zero))))) (suc (suc (suc (suc zero)))) small h = refl
item_at (suc (suc (suc (suc (suc zero))))) (suc (suc (suc (suc (suc j))))) small h =
    absurd (omega (arith, h))
item_at (suc (suc (suc (suc (suc (suc zero)))))) zero small h = refl
item_at (suc (suc (suc (suc (suc (suc zero)))))) (suc zero) small h = refl
item_at (suc (suc (suc (suc (suc (suc zero)))))) (suc (suc zero)) small h = refl
item_at (suc (suc (suc (suc (suc (suc zero)))))) (suc (suc (suc zero))) small h = refl
item_at (suc (suc (suc (suc (suc (suc zero)))))) (suc (suc (suc (suc zero)))) small h = refl
item_at (suc (suc (suc (suc (suc (suc zero)))))) (suc (suc (suc (suc (suc zero))))) small h = refl
item_at (suc (suc (suc (suc (suc (suc zero)))))) (suc (suc (suc (suc (suc (suc j)))))) small h =
    absurd (omega (arith, h))
item_at (suc (suc (suc (suc (suc (suc (suc v))))))) j small h = absurd (omega (arith, small))

no_item : (v : ℕ) → v < 7 → slice_get (numbers v) v ≡ None
unfolding runs
no_item v small =
    each_digit (λ v. slice_get (numbers v) v ≡ None) refl refl refl refl refl refl refl v small

-- how far a `for` has come over a list of so many items
abbrev come : ℕ → ℕ → ℕ → PlainValue → Walked
come a count j item = record { value = list_at a; length = count; place = j; item = item }

-- ---- its turns

abbrev range_call : ℕ → Expr
range_call v = T.call (T.name range_name) (T.exprs (number v) T.no_exprs) false

module _ (c : Calls) (ms : List LoadedModule) (e : Option PlainRaised) (x input : List ℕ)
    (l : ℕ) where
  -- the loop
  abbrev this_loop : ℕ → Loop Walked
  this_loop v =
      for_loop l (eval c (place ms e) (range_call v)) (assign_to c (place ms e) (T.name i_name))
      (exec c (place ms e) (updating (l + 1) Add (T.name i_name)))
      (exec_opt c (place ms e) T.no_suite)

  -- a turn that was found, and those after it
  abbrev after_found : ℕ → ℕ → Option Walked → State → ℕ → Res Out
  after_found v k found =
      if_turn found (exec_opt c (place ms e) T.no_suite)
      (λ w. chain (using (assign_to c (place ms e) (T.name i_name) w.item)
      (λ u. exec c (place ms e) (updating (l + 1) Add (T.name i_name))))
      (λ o. looped o (turns (this_loop v) k (again l) (Some w))))

  -- the turns, by the item that is found
  unfoldable by_found : ℕ → ℕ → ℕ → ℕ → ℕ → Option PlainValue → State → ℕ → Res Out
  by_found v k a count j o s n =
      using (gives (walked (list_at a) count j o)) (after_found v k) s n

  -- the turns, by the items of the list
  unfoldable by_items : ℕ → ℕ → ℕ → ℕ → ℕ → List PlainValue → State → ℕ → Res Out
  by_items v k a count j vs s n =
      using (value (give (Ok (slice_get vs j))) (λ y. gives (walked (list_at a) count j y)))
      (after_found v k) s n

  -- all turns, by the items of the list
  unfoldable by_list : ℕ → ℕ → ℕ → List PlainValue → State → ℕ → Res Out
  by_list v k a vs s n =
      using (value (give (Ok (length vs))) (λ count.
      value (give (Ok (slice_get vs 0))) (λ y. gives (walked (list_at a) count 0 y))))
      (after_found v k) s n

  later_turn : (v a count j : ℕ) (item : PlainValue) (t : ℤ) (i : Option ℤ) (h : PlainHeap)
      (items : Items) (k n : ℕ) (it : Item) → list_items h a ≡ numbers v
      → turns (this_loop v) (suc k) it (Some (come a count j item)) (at_t x input t i h items)
      (suc n)
      ≡ by_found v k a count j (slice_get (numbers v) j) (at_t x input t i h (more items it)) n
  unfolding runs by_found by_items
  later_turn v a count j item t i h items k n it is =
      ap (λ vs. by_items v k a count j vs (at_t x input t i h (more items it)) n) is

  -- the list of a `range` is new
  abbrev with_numbers : ℕ → PlainHeap → PlainHeap
  with_numbers v h = h ++ list_object (numbers v) ∷ []

  list_is : (v : ℕ) (h : PlainHeap) (k : ℕ) (s : State) (n : ℕ)
      → by_list v k (length h) (list_items (with_numbers v h) (length h)) s n
      ≡ by_list v k (length h) (numbers v) s n
  list_is v h k s n = ap (λ vs. by_list v k (length h) vs s n) (new_items h (numbers v))

  -- the state in which its first item is looked for
  abbrev begun : ℤ → Option ℤ → PlainHeap → Items → Item → ℕ → State
  begun t i h items it v = at_t x input t i (with_numbers v h) (more items it)

  abbrev BeginsSo : ℤ → Option ℤ → PlainHeap → Items → ℕ → ℕ → Item → ℕ → Type 0
  BeginsSo t i h items k n it v =
      turns (this_loop v) (suc k) it None (at_t x input t i h items) (suc n)
      ≡ by_found v k (length h) (length (numbers v)) 0 (slice_get (numbers v) 0)
      (begun t i h items it v) n

  first_turn : (v : ℕ) (t : ℤ) (i : Option ℤ) (h : PlainHeap) (items : Items) (k n : ℕ)
      (it : Item) → v < 7 → BeginsSo t i h items k n it v
  unfolding runs by_found by_list
  first_turn v t None h items k n it small =
      each_digit (BeginsSo t None h items k n it)
      (list_is 0 h k (begun t None h items it 0) n)
      (list_is 1 h k (begun t None h items it 1) n)
      (list_is 2 h k (begun t None h items it 2) n)
      (list_is 3 h k (begun t None h items it 3) n)
      (list_is 4 h k (begun t None h items it 4) n)
      (list_is 5 h k (begun t None h items it 5) n)
      (list_is 6 h k (begun t None h items it 6) n) v small
  first_turn v t (Some i) h items k n it small =
      each_digit (BeginsSo t (Some i) h items k n it)
      (list_is 0 h k (begun t (Some i) h items it 0) n)
      (list_is 1 h k (begun t (Some i) h items it 1) n)
      (list_is 2 h k (begun t (Some i) h items it 2) n)
      (list_is 3 h k (begun t (Some i) h items it 3) n)
      (list_is 4 h k (begun t (Some i) h items it 4) n)
      (list_is 5 h k (begun t (Some i) h items it 5) n)
      (list_is 6 h k (begun t (Some i) h items it 6) n) v small

  -- what follows the suite of a turn
  abbrev after_turn : ℕ → ℕ → ℕ → ℕ → ℕ → Res Out → Res Out
  after_turn v k a count j r =
      bind r (λ o. looped o (turns (this_loop v) k (again l)
      (Some (come a count (suc j) (int_value (pos j))))))

  goes_on : (v a count j u : ℕ) (i : Option ℤ) (h : PlainHeap) (items : Items) (k n : ℕ)
      → u + j < 2 ^ 40
      → by_found v k a count j (Some (int_value (pos j))) (at_t x input (val u) i h items) (suc n)
      ≡ turns (this_loop v) k (again l) (Some (come a count (suc j) (int_value (pos j))))
      (at_t x input (val (u + j)) (Some (pos j)) h (more items (mark (l + 1)))) n
  unfolding runs by_found
  goes_on v a count j u None h items k n low =
      ap (after_turn v k a count j)
      (sets_i c ms e x input (l + 1) j (val u) (val (u + j)) h items n (adds u j low))
  goes_on v a count j u (Some i) h items k n low =
      ap (after_turn v k a count j)
      (sets_i c ms e x input (l + 1) j (val u) (val (u + j)) h items n (adds u j low))

  stops : (v a count j u : ℕ) (i : Option ℤ) (h : PlainHeap) (items : Items) (k n : ℕ)
      → by_found v k a count j None (at_t x input (val u) i h items) n
      ≡ done normal (at_t x input (val u) i h items) n
  unfolding runs by_found
  stops v a count j u i h items k n = refl

  -- the turns that are left, of which there are r
  for_turns : (v a count j r u : ℕ) (i : Option ℤ) (h : PlainHeap) (items : Items) (k n : ℕ)
      (o : Option PlainValue) → o ≡ slice_get (numbers v) j → list_items h a ≡ numbers v → v < 7
      → j + r ≡ v → u < 2 ^ 39 + 6 * j → 2 * r ≤ n → n ≤ k
      → Ended x input u n (24 * r) (by_found v k a count j o (at_t x input (val u) i h items) n)
  for_turns v a count j zero u i h items k n o found is small at low enough deep = record {
    w = u;
    i = i;
    h = h;
    items = items;
    left = n;
    is = ap (λ o. by_found v k a count j o (at_t x input (val u) i h items) n)
        (found ∙ ap (slice_get (numbers v)) (omega (arith, at)) ∙ no_item v small)
        ∙ stops v a count j u i h items k n;
    fewer = omega arith;
    paid = omega arith;
  }
  for_turns v a count j (suc r) u i h items k zero o found is small at low enough deep =
      absurd (omega (arith, enough))
  for_turns v a count j (suc r) u i h items k (suc zero) o found is small at low enough deep =
      absurd (omega (arith, enough))
  for_turns v a count j (suc r) u i h items zero (suc (suc n)) o found is small at low enough
      deep =
      absurd (omega (arith, deep))
  for_turns v a count j (suc r) u i h items (suc k) (suc (suc n)) o found is small at low enough
      deep =
      let d = for_turns v a count (suc j) r (u + j) (Some (pos j)) h
      (more (more items (mark (l + 1))) (again l)) k n (slice_get (numbers v) (suc j)) refl
      is small (omega (arith, at)) (omega (arith, low, at, small)) (omega (arith, enough))
      (omega (arith, deep)) in
      record {
        w = d.w;
        i = d.i;
        h = d.h;
        items = d.items;
        left = d.left;
        is = ap (λ o. by_found v (suc k) a count j o (at_t x input (val u) i h items)
            (suc (suc n))) (found ∙ item_at v j small (omega (arith, at)))
            ∙ goes_on v a count j u i h items (suc k) (suc n) (omega (arith, low, at, small))
            ∙ later_turn v a count (suc j) (int_value (pos j)) (val (u + j)) (Some (pos j)) h
            (more items (mark (l + 1))) k n (again l) is
            ∙ d.is;
        fewer = omega (arith, d.fewer);
        paid = omega (arith, d.paid, at, small);
      }

  for_is : (v : ℕ) (s : State) (n : ℕ)
      → exec_kind c (place ms e) l (statement For v l) s n
      ≡ turns (this_loop v) n (mark l) None s n
  unfolding runs
  for_is v s n = refl

  pub for_block : (v u : ℕ) (i : Option ℤ) (h : PlainHeap) (items : Items) (n : ℕ) → v < 7
      → u < 2 ^ 39 → 13 ≤ n
      → Ended x input u n 151
      (exec_kind c (place ms e) l (statement For v l) (at_t x input (val u) i h items) n)
  for_block v u i h items zero small low enough = absurd (omega (arith, enough))
  for_block v u i h items (suc n) small low enough =
      let d = for_turns v (length h) (length (numbers v)) 0 v u i (with_numbers v h)
      (more items (mark l)) n n (slice_get (numbers v) 0) refl (new_items h (numbers v))
      small (omega arith) (omega (arith, low)) (omega (arith, enough, small)) (omega arith) in
      record {
        w = d.w;
        i = d.i;
        h = d.h;
        items = d.items;
        left = d.left;
        is = for_is v (at_t x input (val u) i h items) (suc n)
            ∙ first_turn v (val u) i h items n n (mark l) small
            ∙ d.is;
        fewer = omega (arith, d.fewer);
        paid = omega (arith, d.paid, small);
      }
