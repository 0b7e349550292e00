-- Where the machine of expressions stops, and what that says of all trees of the form that is asked for.
use Rattle.std.proofs.Common.{◌≡◌, ℕ, ◌≤◌, ◌<◌, nat_le, Bool, true, false, cond, List, [], ◌∷◌, ◌++◌, Option, Some, None, refl, sym, ap, subst, ◌∙◌, arith, append_assoc}
use Rattle.std.proofs.lemmas.Bool.{leb-true, leb-false}
use Rattle.std.proofs.lemmas.List.{append-nil}
use Rattle.py_syntax.specs.Tree.{Expr}
use Rattle.py_syntax.specs.Kinds.{Kind, End}
use Rattle.py_syntax.specs.Tokens.{tokens}
use Rattle.py_syntax.specs.Normal.{Normal, height}
use Rattle.py_grammar.specs.Machine.{Goal, any, one, target, targets, State, Out, Next, Stuck, Left, step, start, class, Leaves, run}
use Rattle.py_grammar.specs.Least.{finished, least}
use Rattle.py_grammar.specs.Reading as reading
use Rattle.py_grammar.specs.Reading.{Ending, Unexpected, TooDeep, within}
use Rattle.py_grammar.proofs.Sound.{before, Reads, step_reads}
use Rattle.py_grammar.proofs.Sound.Valid.{Sound, Meets, Keeps}
use Rattle.py_grammar.proofs.Sound.Keeps.{step_keeps}
use Rattle.py_grammar.proofs.Sound.Spelled.{outcome, class_spells, class_valid, start_any, start_one, start_target, run_reads, run_keeps}
use Rattle.py_grammar.proofs.Least.Finish.{Closes, finish}
use Rattle.py_grammar.proofs.Least.Finishes.{finishes}
use Rattle.py_grammar.proofs.Least.LeastNeverFalls.{Grows, step_grows}
use Rattle.py_grammar.proofs.Complete.Targets.{reads_any, reads_one, reads_target}
use Rattle.py_grammar.specs.ExprTrees.{IsAsked, IsOf, BeginsExpr, BeginsWithin, IsTree, IsExpr, IsUnexpected, IsTooDeep, OneOf}
use Rattle.py_grammar.proofs.Exact.ExprTokens.{parted}
use Rattle.py_grammar.proofs.Exact.ExprLeft.{LeavesIt, step_left}
use Rattle.py_grammar.proofs.Exact.ExprStuck.{stuck, left, step_stuck, refused}

-- ---- the forms that may be asked for

meant : (g : Goal) (e : Expr) → IsAsked g → Normal e × Meets g e → IsOf g e
meant any e h m = m.0
meant one e h m = m
meant target e h m = m
meant (targets f es) e h m = absurd h

start_valid : (g : Goal) → IsAsked g → Sound g (start g)
start_valid any h = start_any
start_valid one h = start_one
start_valid target h = start_target
start_valid (targets f es) h = absurd h

start_before : (g : Goal) (r : List Kind) → IsAsked g → before (start g) r ≡ r
start_before any r h = refl
start_before one r h = refl
start_before target r h = refl
start_before (targets f es) r h = absurd h

start_low : (g : Goal) → IsAsked g → least (start g) ≡ 1
start_low any h = refl
start_low one h = refl
start_low target h = refl
start_low (targets f es) h = absurd h

end_closes : (g : Goal) → Closes g (class End)
end_closes any = (omega arith, refl, refl)
end_closes one = (omega arith, refl)
end_closes target = (omega arith, refl, refl, λ h. cc)
end_closes (targets f es) = (omega arith, refl, refl, λ h. cc)

reads_all : (g : Goal) (e : Expr) → IsAsked g → IsOf g e → run (start g) (tokens e (End ∷ [])) ≡ Leaves e (End ∷ [])
reads_all any e h n = reads_any e n End [] (end_closes any)
reads_all one e h n = reads_one e n.0 n.1 End [] (end_closes one)
reads_all target e h n = reads_target e n.0 n.1 End [] (end_closes target)
reads_all (targets f es) e h n = absurd h

-- ---- the state after some tokens

abbrev next : Out → Option State
next (Next n) = Some n
next Stuck = None
next (Left e) = None

abbrev pub steps : State → List Kind → Option State
steps s [] = Some s
steps s (t ∷ ts) = elim (step s (class t)) [ Next n ↦ steps n ts | Stuck ↦ None | Left e ↦ None ]

abbrev carried : Out → List Kind → Option State
carried o ts = elim o as (λ (w : Out). Option State) [ Next n ↦ steps n ts | Stuck ↦ None | Left e ↦ None ]

steps_before : (s n : State) (ts r : List Kind) → steps s ts ≡ Some n → before s (ts ++ r) ≡ before n r
steps_before s n [] r h = let same : s ≡ n = cc in ap (λ (m : State). before m r) same
steps_before s n (t ∷ ts) r h = go (λ m. steps_before m n ts r) (step s (class t)) (step_reads s (class t)) h
  where
    go : ((m : State) → steps m ts ≡ Some n → before m (ts ++ r) ≡ before n r) → (o : Out) → Reads (class t) (before s) o → carried o ts ≡ Some n → before s (t ∷ ts ++ r) ≡ before n r
    go rec (Next m) reads h = ap (before s) (sym (class_spells t (ts ++ r))) ∙ sym (reads (ts ++ r)) ∙ rec m h
    go rec Stuck reads h = absurd cc
    go rec (Left e) reads h = absurd cc

steps_valid : (g : Goal) (s n : State) (ts : List Kind) → Sound g s → steps s ts ≡ Some n → Sound g n
steps_valid g s n [] valid h = let same : s ≡ n = cc in subst (Sound g) same valid
steps_valid g s n (t ∷ ts) valid h = go (λ m. steps_valid g m n ts) (step s (class t)) (step_keeps g s (class t) (class_valid t) valid) h
  where
    go : ((m : State) → Sound g m → steps m ts ≡ Some n → Sound g n) → (o : Out) → Keeps g o → carried o ts ≡ Some n → Sound g n
    go rec (Next m) keeps h = rec m keeps h
    go rec Stuck keeps h = absurd cc
    go rec (Left e) keeps h = absurd cc

steps_snoc : (s n : State) (ts : List Kind) (t : Kind) → steps s ts ≡ Some n → steps s (ts ++ t ∷ []) ≡ next (step n (class t))
steps_snoc s n [] t h = let same : s ≡ n = cc in ap (λ (m : State). carried (step m (class t)) []) same ∙ last (step n (class t))
  where
    last : (o : Out) → carried o [] ≡ next o
    last (Next m) = refl
    last Stuck = refl
    last (Left e) = refl
steps_snoc s n (u ∷ ts) t h = go (λ m. steps_snoc m n ts t) (step s (class u)) h
  where
    go : ((m : State) → steps m ts ≡ Some n → steps m (ts ++ t ∷ []) ≡ next (step n (class t))) → (o : Out) → carried o ts ≡ Some n → carried o (ts ++ t ∷ []) ≡ next (step n (class t))
    go rec (Next m) h = rec m h
    go rec Stuck h = absurd cc
    go rec (Left e) h = absurd cc

run_steps : (s n : State) (ts r : List Kind) → steps s ts ≡ Some n → run s (ts ++ r) ≡ run n r
run_steps s n [] r h = let same : s ≡ n = cc in ap (λ (m : State). run m r) same
run_steps s n (t ∷ ts) r h = go (λ m. run_steps m n ts r) (step s (class t)) h
  where
    go : ((m : State) → steps m ts ≡ Some n → run m (ts ++ r) ≡ run n r) → (o : Out) → carried o ts ≡ Some n → outcome o t (ts ++ r) ≡ run n r
    go rec (Next m) h = rec m h
    go rec Stuck h = absurd cc
    go rec (Left e) h = absurd cc

run_least : (s : State) (ts : List Kind) (e : Expr) (r : List Kind) → run s ts ≡ Leaves e r → least s ≤ height e
run_least s [] e r h = absurd cc
run_least s (t ∷ ts) e r h = go (λ m. run_least m ts e r) (step s (class t)) (step_grows s (class t)) h
  where
    go : ((m : State) → run m ts ≡ Leaves e r → least m ≤ height e) → (o : Out) → Grows (least s) o → outcome o t ts ≡ Leaves e r → least s ≤ height e
    go rec (Next m) grows h = let low = rec m h in omega arith
    go rec Stuck grows h = absurd cc
    go rec (Left d) grows h = let same : d ≡ e = cc in subst (λ (x : Expr). least s ≤ height x) same grows

-- what a whole reading passes, its beginning passes, at no greater height
passes : (s : State) (front : List Kind) (b : Kind) (bs : List Kind) (e : Expr) (t : Kind) → run s (front ++ b ∷ bs) ≡ Leaves e (t ∷ []) → (n : State) × (steps s front ≡ Some n) × (least n ≤ height e)
passes s [] b bs e t h = (s, refl, run_least s (b ∷ bs) e (t ∷ []) h)
passes s (u ∷ us) b bs e t h = go (λ m. passes m us b bs e t) (step s (class u)) h
  where
    after : (us : List Kind) → us ++ b ∷ bs ≡ [] → ⊥
    after [] h = absurd cc
    after (v ∷ vs) h = absurd cc

    go : ((m : State) → run m (us ++ b ∷ bs) ≡ Leaves e (t ∷ []) → (n : State) × (steps m us ≡ Some n) × (least n ≤ height e)) → (o : Out) → outcome o u (us ++ b ∷ bs) ≡ Leaves e (t ∷ []) → (n : State) × (carried o us ≡ Some n) × (least n ≤ height e)
    go rec (Next m) h = rec m h
    go rec Stuck h = absurd cc
    go rec (Left d) h = let none : us ++ b ∷ bs ≡ [] = cc in absurd (after us none)

-- ---- viable prefixes

-- a list with something at its end is a list that ends with it
unsnoc : (xs : List Kind) (y : Kind) (ys zs : List Kind) (t : Kind) → xs ++ y ∷ ys ≡ zs ++ t ∷ [] → (more : List Kind) × (zs ≡ xs ++ more)
unsnoc [] y ys zs t h = (zs, refl)
unsnoc (x ∷ xs) y ys [] t h = let none : xs ++ y ∷ ys ≡ [] = cc in absurd (some xs none)
  where
    some : (xs : List Kind) → xs ++ y ∷ ys ≡ [] → ⊥
    some [] h = absurd cc
    some (z ∷ zs) h = absurd cc
unsnoc (x ∷ xs) y ys (z ∷ zs) t h =
    let first : x ≡ z = cc in
    let rest : xs ++ y ∷ ys ≡ zs ++ t ∷ [] = cc in
    let rec = unsnoc xs y ys zs t rest in
    (rec.0, ap (λ (w : Kind). w ∷ zs) (sym first) ∙ ap (λ (w : List Kind). x ∷ w) rec.1)

-- the tokens of an expression and an end
ended_list : (e : Expr) (front more : List Kind) → tokens e [] ≡ front ++ more → tokens e (End ∷ []) ≡ front ++ (more ++ End ∷ [])
ended_list e front more h = parted e [] (End ∷ []) ∙ ap (λ (x : List Kind). x ++ End ∷ []) h ∙ append_assoc front more (End ∷ [])

module _ (g : Goal) (asked : IsAsked g) where
  finished_of : (s : State) → Sound g s → IsOf g (finished s)
  finished_of s valid = meant g (finished s) asked (run_keeps g s (finish s (End ∷ [])) (finished s) (End ∷ []) valid (finishes g s End [] valid (end_closes g)))

  -- the least tree of a state begins with what was read
  finished_begins : (front : List Kind) (s : State) → steps (start g) front ≡ Some s → (more : List Kind) × (tokens (finished s) [] ≡ front ++ more)
  finished_begins front s h = go (finish s (End ∷ [])) refl
    where
      valid : Sound g s
      valid = steps_valid g (start g) s front (start_valid g asked) h

      go : (ts : List Kind) → finish s (End ∷ []) ≡ ts → (more : List Kind) × (tokens (finished s) [] ≡ front ++ more)
      go [] is = let none = sym (ap (run s) is) ∙ finishes g s End [] valid (end_closes g) in absurd cc
      go (t ∷ ts) is =
          let runs = sym (ap (run s) is) ∙ finishes g s End [] valid (end_closes g) in
          let all : front ++ t ∷ ts ≡ tokens (finished s) [] ++ End ∷ [] = sym (start_before g (front ++ t ∷ ts) asked) ∙ steps_before (start g) s front (t ∷ ts) h ∙ run_reads s (t ∷ ts) (finished s) (End ∷ []) runs ∙ parted (finished s) [] (End ∷ []) in
          unsnoc front t ts (tokens (finished s) []) End all

  within_from : (limit : ℕ) (front : List Kind) (s : State) → steps (start g) front ≡ Some s → least s ≤ limit → BeginsWithin g limit front
  within_from limit front s h low =
      let f = finished_begins front s h in
      (finished s, f.0, (finished_of s (steps_valid g (start g) s front (start_valid g asked) h), f.1), low)

  some_more : (s : State) (front more : List Kind) (e : Expr) → run s (front ++ (more ++ End ∷ [])) ≡ Leaves e (End ∷ []) → (n : State) × (steps s front ≡ Some n) × (least n ≤ height e)
  some_more s front [] e h = passes s front End [] e End h
  some_more s front (m ∷ more) e h = passes s front m (more ++ End ∷ []) e End h

  passed : (front : List Kind) (e : Expr) (more : List Kind) → IsOf g e → tokens e [] ≡ front ++ more → (n : State) × (steps (start g) front ≡ Some n) × (least n ≤ height e)
  passed front e more n h = some_more (start g) front more e (ap (run (start g)) (sym (ended_list e front more h)) ∙ reads_all g e asked n)

  begins_to : (front : List Kind) → BeginsExpr g front → (s : State) × (steps (start g) front ≡ Some s)
  begins_to front b = let x = passed front b.0 b.1 b.2.0 b.2.1 in (x.0, x.1)

  within_to : (limit : ℕ) (front : List Kind) → BeginsWithin g limit front → (s : State) × (steps (start g) front ≡ Some s) × (least s ≤ limit)
  within_to limit front b = let x = passed front b.0 b.1 b.2.0 b.2.1 in let low = x.2 in let high = b.3 in (x.0, x.1, omega arith)

  -- Two trees of one list are one tree.
  pub one_tree_of : OneOf g
  one_tree_of d e n m same =
      let de = ended_list d (tokens e []) [] (same ∙ sym (append-nil (tokens e []))) in
      let ee = parted e [] (End ∷ []) in
      let both = sym (reads_all g d asked n) ∙ ap (run (start g)) (de ∙ sym ee) ∙ reads_all g e asked m in
      cc

  -- ---- where the machine stops

  no_next : (front : List Kind) (s : State) (t : Kind) → steps (start g) front ≡ Some s → next (step s (class t)) ≡ None → BeginsExpr g (front ++ t ∷ []) → ⊥
  no_next front s t h none b =
      let x = begins_to (front ++ t ∷ []) b in
      let both = sym x.1 ∙ steps_snoc (start g) s front t h ∙ none in
      absurd cc

  -- after a tree the end leaves it
  tree_left : (front : List Kind) (s : State) → steps (start g) front ≡ Some s → IsTree g front → left (step s (class End)) ≡ true
  tree_left front s h tree =
      let all = ended_list tree.0 front [] (tree.1.1 ∙ sym (append-nil front)) in
      let runs = sym (run_steps (start g) s front (End ∷ []) h) ∙ ap (run (start g)) (sym all) ∙ reads_all g tree.0 asked tree.1.0 in
      go (step s (class End)) runs
    where
      go : (o : Out) → outcome o End [] ≡ Leaves tree.0 (End ∷ []) → left o ≡ true
      go (Next n) h = absurd cc
      go Stuck h = absurd cc
      go (Left e) h = refl

  abbrev How : ℕ → State → Ending → Type 0
  How limit s (Unexpected []) = Unit {0}
  How limit s (Unexpected (t ∷ ts)) = step s (class t) ≡ Stuck
  How limit s (TooDeep []) = ⊥
  How limit s (TooDeep (t ∷ ts)) = (n : State) × (step s (class t) ≡ Next n) × (limit < least n)
  How limit s (reading.Reads e []) = ⊥
  How limit s (reading.Reads e (t ∷ ts)) = step s (class t) ≡ Left e

  means_left : (limit : ℕ) (front : List Kind) (s : State) (e : Expr) (t : Kind) (ts : List Kind) → steps (start g) front ≡ Some s → least s ≤ limit → step s (class t) ≡ Left e → IsExpr g limit e front (t ∷ ts)
  means_left limit front s e t ts h low is =
      let valid = steps_valid g (start g) s front (start_valid g asked) h in
      let it : finished s ≡ e = subst (LeavesIt (finished s)) is (step_left s (class t)) in
      let keeps = subst (Keeps g) is (step_keeps g s (class t) (class_valid t) valid) in
      let reads = subst (Reads (class t) (before s)) is (step_reads s (class t)) in
      let spelled : tokens e [] ≡ front = reads [] ∙ sym (steps_before (start g) s front [] h) ∙ start_before g (front ++ []) asked ∙ append-nil front in
      (meant g e asked keeps, spelled, subst (λ (x : Expr). height x ≤ limit) it low, no_next front s t h (ap next is))

  means_deep : (limit : ℕ) (front : List Kind) (s n : State) (t : Kind) (ts : List Kind) → steps (start g) front ≡ Some s → least s ≤ limit → step s (class t) ≡ Next n → limit < least n → IsTooDeep g limit front (t ∷ ts)
  means_deep limit front s n t ts h low is high =
      let all : steps (start g) (front ++ t ∷ []) ≡ Some n = steps_snoc (start g) s front t h ∙ ap next is in
      let b = within_from (least n) (front ++ t ∷ []) n all (omega arith) in
      (within_from limit front s h low, (b.0, b.1, b.2), too_high all)
    where
      too_high : steps (start g) (front ++ t ∷ []) ≡ Some n → BeginsWithin g limit (front ++ t ∷ []) → ⊥
      too_high all v =
          let x = within_to limit (front ++ t ∷ []) v in
          let same : n ≡ x.0 = let both = sym all ∙ x.1 in cc in
          let low = subst (λ (m : State). least m ≤ limit) (sym same) x.2 in
          absurd (omega arith)

  means_stuck : (limit : ℕ) (front : List Kind) (s : State) (t : Kind) (ts : List Kind) → steps (start g) front ≡ Some s → least s ≤ limit → step s (class t) ≡ Stuck → IsUnexpected g limit front (t ∷ ts)
  means_stuck limit front s t ts h low is = (
    within_from limit front s h low,
    no_next front s t h (ap next is),
    λ tree. refused g t (step_stuck g s (class t) (steps_valid g (start g) s front (start_valid g asked) h) (ap stuck is) (tree_left front s h tree)),
  )

  abbrev pub Means : ℕ → List Kind → Ending → Type 0
  Means limit front (Unexpected rest) = IsUnexpected g limit front rest
  Means limit front (TooDeep rest) = IsTooDeep g limit front rest
  Means limit front (reading.Reads e rest) = IsExpr g limit e front rest

  means : (limit : ℕ) (front : List Kind) (s : State) (e : Ending) → steps (start g) front ≡ Some s → least s ≤ limit → How limit s e → Means limit front e
  means limit front s (Unexpected []) h low how = within_from limit front s h low
  means limit front s (Unexpected (t ∷ ts)) h low how = means_stuck limit front s t ts h low how
  means limit front s (TooDeep []) h low how = absurd how
  means limit front s (TooDeep (t ∷ ts)) h low how = means_deep limit front s how.0 t ts h low how.1 how.2
  means limit front s (reading.Reads e []) h low how = absurd how
  means limit front s (reading.Reads e (t ∷ ts)) h low how = means_left limit front s e t ts h low how

  abbrev pub rest_of : Ending → List Kind
  rest_of (Unexpected rest) = rest
  rest_of (TooDeep rest) = rest
  rest_of (reading.Reads e rest) = rest

  record Stops (limit : ℕ) (s : State) (ts : List Kind) (e : Ending) : Type 0 where
    pub front : List Kind
    pub last : State
    pub split : ts ≡ front ++ rest_of e
    pub passes : steps s front ≡ Some last
    pub low : least last ≤ limit
    pub how : How limit last e

  abbrev ending : ℕ → Out → Kind → List Kind → Ending
  ending limit o t ts = elim o as (λ (w : Out). Ending) [ Next n ↦ cond (nat_le (least n) limit) (within limit n ts) (TooDeep (t ∷ ts)) | Stuck ↦ Unexpected (t ∷ ts) | Left e ↦ reading.Reads e (t ∷ ts) ]

  stops : (limit : ℕ) (s : State) (ts : List Kind) → least s ≤ limit → Stops limit s ts (within limit s ts)
  stops limit s [] low = record { front = []; last = s; split = refl; passes = refl; low = low; how = tt }
  stops limit s (t ∷ ts) low = go (λ n. stops limit n ts) (step s (class t)) refl
    where
      next_stops : ((n : State) → least n ≤ limit → Stops limit n ts (within limit n ts)) → (n : State) → step s (class t) ≡ Next n → (b : Bool) → nat_le (least n) limit ≡ b → Stops limit s (t ∷ ts) (cond b (within limit n ts) (TooDeep (t ∷ ts)))
      next_stops rec n is true le =
          let r = rec n (leb-true _ _ le) in
          record { front = t ∷ r.front; last = r.last; split = ap (λ (x : List Kind). t ∷ x) r.split; passes = ap (λ (o : Out). carried o r.front) is ∙ r.passes; low = r.low; how = r.how }
      next_stops rec n is false le = record { front = []; last = s; split = refl; passes = refl; low = low; how = (n, is, leb-false _ _ le) }

      go : ((n : State) → least n ≤ limit → Stops limit n ts (within limit n ts)) → (o : Out) → step s (class t) ≡ o → Stops limit s (t ∷ ts) (ending limit o t ts)
      go rec (Next n) is = next_stops rec n is (nat_le (least n) limit) refl
      go rec Stuck is = record { front = []; last = s; split = refl; passes = refl; low = low; how = is }
      go rec (Left e) is = record { front = []; last = s; split = refl; passes = refl; low = low; how = is }

  -- Where a reading within the limit ends, and what that says of all trees.
  pub exact : (limit : ℕ) (ts : List Kind) (e : Ending) → 1 ≤ limit → within limit (start g) ts ≡ e → (front : List Kind) × (ts ≡ front ++ rest_of e) × Means limit front e
  exact limit ts e some is =
      let first = start_low g asked in
      let s = subst (Stops limit (start g) ts) is (stops limit (start g) ts (omega arith)) in
      (s.front, s.split, means limit s.front s.last e s.passes s.low s.how)
