-- Walks over rows, item by item.
use Rattle.std.proofs.Common.{◌≡◌, ℕ, ◌+◌, ◌<◌, ◌≤◌, List, [], ◌∷◌, ◌++◌, drop, length, get_or, refl, ap, sym, ◌∙◌}
use Rattle.std.proofs.Math.ListN.{drop_of_length-le}
use Rattle.py_changes.specs.Mutants.{around}
use Rattle.cov_places.proofs.Counts.{the_drop}
use Rattle.cov_mutants_expr.specs.Search.{Reached, past, changed, Copied}
use Rattle.cov_mutants_expr.specs.Rows.{before, Added, Turned, Stepped, Going}
use Rattle.cov_mutants_expr.proofs.Copies.{past-none, changed-none, past-around, past-then, changed-around, changed-two, changed-three}

before-more : {N R : Type 0} (put : N → R → R) (ns : List N) (n : N) (r : R)
    → before put (ns ++ n ∷ []) r ≡ before put ns (put n r)
before-more put [] n r = refl
before-more put (m ∷ ns) n r = ap (put m) (before-more put ns n r)

-- one more item, by what it puts in front of a row
pub one_more : {N R : Type 0} (put : N → R → R) (was now : List N) (n : N) (one : R → R)
    → now ≡ was ++ n ∷ [] → ((r : R) → put n r ≡ one r) → Added put was now one
one_more put was now n one e h r =
    ap (λ ns. before put ns r) e ∙ before-more put was n r ∙ ap (before put was) (h r)

-- a row is its items in front of nothing
pub all-before : {N R : Type 0} (put : N → R → R) (rows : List N → R)
    → ((n : N) (ns : List N) → rows (n ∷ ns) ≡ put n (rows ns)) → (ns : List N)
    → before put ns (rows []) ≡ rows ns
all-before put rows step [] = refl
all-before put rows step (n ∷ ns) = ap (put n) (all-before put rows step ns) ∙ sym (step n ns)

-- the next item
pub goes_on : {X N R : Type 0} {put : N → R → R} {mutants : R → List (X × R)} (rows : List N → R)
    → ((n : N) (ns : List N) → rows (n ∷ ns) ≡ put n (rows ns)) → (was now next : Reached X)
    (all : R) (items : List N) (i : ℕ) (x : N) (copied further : List N) → i < length items
    → x ≡ get_or items i x → Stepped put mutants now next copied further (put x)
    → Going put mutants was now all (rows (drop i items)) copied
    → Going put mutants was next all (rows (drop (i + 1) items)) further
goes_on {put = put} {mutants = mutants} rows step was now next all items i x copied further lt is s g =
    let rest = rows (drop (i + 1) items) in
    let this : rows (drop i items) ≡ put x rest = ap rows (the_drop items i x lt is) ∙ step x (drop (i + 1) items) in record {
      tree =
          s.added (changed next rest (mutants rest)) ∙ ap (before put copied) (sym (s.turned.tree rest))
          ∙ ap (λ r. before put copied (changed now r (mutants r))) (sym this) ∙ g.tree;
      state = sym (s.turned.state rest) ∙ ap (λ r. past now (mutants r)) (sym this) ∙ g.state;
    }

-- the end of a row
pub at_end : {X N R : Type 0} {put : N → R → R} {mutants : R → List (X × R)} (rows : List N → R)
    → ((n : N) (ns : List N) → rows (n ∷ ns) ≡ put n (rows ns)) → mutants (rows []) ≡ []
    → (was now : Reached X) (items : List N) (i : ℕ) (copied : List N) → length items ≤ i
    → Going put mutants was now (rows items) (rows (drop i items)) copied
    → Copied mutants was now (rows items) (rows copied)
at_end {R = R} {put = put} {mutants = mutants} rows step none was now items i copied le g =
    let end : rows (drop i items) ≡ rows [] = ap rows (drop_of_length-le items le) in record {
      tree =
          sym (all-before put rows step copied)
          ∙ ap (before put copied) (sym (ap (changed now (rows [])) none ∙ changed-none now (rows [])))
          ∙ ap (λ r. before put copied (changed now r (mutants r))) (sym end) ∙ g.tree;
      state =
          sym (ap (past now) none ∙ past-none R now) ∙ ap (λ r. past now (mutants r)) (sym end) ∙ g.state;
    }

-- ---- items of one part, two and three, in front of a row

pub turned-none : {X R : Type 0} {mutants : R → List (X × R)} (F : R → R) {s : Reached X}
    → ((r : R) → mutants (F r) ≡ around F (mutants r)) → Turned mutants s s F F
turned-none {mutants = mutants} F {s = s} e = record {
  tree = λ r. ap (changed s (F r)) (e r) ∙ changed-around F s r (mutants r);
  state = λ r. ap (past s) (e r) ∙ past-around F s (mutants r);
}

pub turned-one : {X A R : Type 0} {firsts : A → List (X × A)} {mutants : R → List (X × R)}
    (F : A → R → R) {s t : Reached X} {a a' : A}
    → ((r : R) → mutants (F a r) ≡ around (λ x. F x r) (firsts a) ++ around (λ y. F a y) (mutants r))
    → Copied firsts s t a a' → Turned mutants s t (F a) (F a')
turned-one {firsts = firsts} {mutants = mutants} F {s = s} {a = a} {a' = a'} e h = record {
  tree = λ r. ap (changed s (F a r)) (e r) ∙ changed-two F s a r (firsts a) (mutants r)
      ∙ ap (λ x. F x (changed (past s (firsts a)) r (mutants r))) (sym h.tree)
      ∙ ap (λ u. F a' (changed u r (mutants r))) (sym h.state);
  state = λ r. ap (past s) (e r) ∙ past-then (λ x. F x r) s (firsts a) (around (λ y. F a y) (mutants r))
      ∙ past-around (F a) (past s (firsts a)) (mutants r) ∙ ap (λ u. past u (mutants r)) (sym h.state);
}

pub turned-two : {X A B R : Type 0} {firsts : A → List (X × A)} {seconds : B → List (X × B)}
    {mutants : R → List (X × R)} (F : A → B → R → R) {s t u : Reached X} {a a' : A} {b b' : B}
    → ((r : R) → mutants (F a b r) ≡ around (λ x. F x b r) (firsts a)
    ++ (around (λ y. F a y r) (seconds b) ++ around (λ z. F a b z) (mutants r)))
    → Copied firsts s t a a' → Copied seconds t u b b' → Turned mutants s u (F a b) (F a' b')
turned-two {firsts = firsts} {seconds = seconds} {mutants = mutants} F {s = s} {a = a} {a' = a'} {b = b} {b' = b'} e h k =
    let two = k.state ∙ ap (λ r. past r (seconds b)) h.state in record {
      tree = λ r. ap (changed s (F a b r)) (e r) ∙ changed-three F s a b r (firsts a) (seconds b) (mutants r)
          ∙ ap (λ x. F x (changed (past s (firsts a)) b (seconds b)) (changed (past (past s (firsts a)) (seconds b)) r (mutants r))) (sym h.tree)
          ∙ ap (λ y. F a' y (changed (past (past s (firsts a)) (seconds b)) r (mutants r))) (sym (k.tree ∙ ap (λ q. changed q b (seconds b)) h.state))
          ∙ ap (λ q. F a' b' (changed q r (mutants r))) (sym two);
      state = λ r. ap (past s) (e r)
          ∙ past-then (λ x. F x b r) s (firsts a) (around (λ y. F a y r) (seconds b) ++ around (λ z. F a b z) (mutants r))
          ∙ past-then (λ y. F a y r) (past s (firsts a)) (seconds b) (around (λ z. F a b z) (mutants r))
          ∙ past-around (F a b) (past (past s (firsts a)) (seconds b)) (mutants r)
          ∙ ap (λ q. past q (mutants r)) (sym two);
    }

-- ---- turns

-- the same under another name
pub turned-as : {X R : Type 0} {mutants : R → List (X × R)} {s t : Reached X} {item other copy : R → R}
    → ((r : R) → item r ≡ other r) → Turned mutants s t other copy → Turned mutants s t item copy
turned-as {mutants = mutants} {s = s} e h = record {
  tree = λ r. ap (λ x. changed s x (mutants x)) (e r) ∙ h.tree r;
  state = λ r. ap (λ x. past s (mutants x)) (e r) ∙ h.state r;
}

-- the end of a row in which nothing changes
pub all_copied : {N R : Type 0} (put : N → R → R) (rows : List N → R)
    → ((n : N) (ns : List N) → rows (n ∷ ns) ≡ put n (rows ns)) → (items : List N) (i : ℕ)
    (copied : List N) → length items ≤ i → before put copied (rows (drop i items)) ≡ rows items
    → rows copied ≡ rows items
all_copied put rows step items i copied le g =
    sym (all-before put rows step copied)
    ∙ ap (λ ns. before put copied (rows ns)) (sym (drop_of_length-le items le)) ∙ g
