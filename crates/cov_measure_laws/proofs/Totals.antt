-- There are as many rows as places, module by module.
use Rattle.std.proofs.Common.{◌≡◌, ◌&&◌, ℕ, zero, suc, ◌+◌, ◌<◌, ◌≤◌, nat_eq, Bool, true, false, cond, List, [], ◌∷◌, length, map, filter, Option, count_by, refl, ap, sym, subst, ◌∙◌, arith}
use Rattle.std.specs.List.{AllByRecursion, sum_by, range_with_len}
use Rattle.std.proofs.lemmas.Bool.{eqb-true, eq-eqb}
use Rattle.std.proofs.lemmas.List.{length-map}
use Rattle.std.proofs.lemmas.List.Sums.{sum_by-cons}
use Rattle.cov_data.specs.DataSet.{Text}
use Rattle.py_meaning.specs.Activations.{Items}
use Rattle.py_meaning.specs.Events.{events_in}
use Rattle.py_meaning.specs.Modules.{LoadedModule}
use Rattle.py_meaning.specs.Program.{run_modules, called}
use Rattle.cov_arcs.specs.Laws.{unit_lines}
use Rattle.cov_recorder.specs.Plan.{Named, set_of, path_of}
use Rattle.cov_recorder.specs.Recording.{Recording, has_arc}
use Rattle.cov_measure_laws.specs.Places.{Step, steps_told, is_counted, spot, spot_of, RecordedPlacesLaw, mine, PlanPlaces, ModulesPlacesLaw, CallPlacesLaw}
use Rattle.cov_measure_laws.specs.Totals.{KeepsTotals, ModulesTotalsLaw, CallTotalsLaw}
use Rattle.cov_arcs.proofs.Following.{none-add, add-none}
use Rattle.cov_measure_laws.proofs.Whole.{steps-units}

count-map : {X Y : Type 0} (p : Y → Bool) (f : X → Y) (xs : List X) → count_by p (map f xs) ≡ count_by (λ x. p (f x)) xs
count-map p f [] = refl
count-map p f (x ∷ xs) = sum_by-cons (λ y. cond (p y) 1 0) (f x) (map f xs) ∙ ap (λ n. cond (p (f x)) 1 0 + n) (count-map p f xs) ∙ sym (sum_by-cons (λ x. cond (p (f x)) 1 0) x xs)

count-filter : {X : Type 0} (p q : X → Bool) (xs : List X) → count_by p (filter q xs) ≡ count_by (λ x. q x && p x) xs
count-filter p q [] = refl
count-filter p q (x ∷ xs) = first (q x) ∙ ap (λ n. cond (q x && p x) 1 0 + n) (count-filter p q xs) ∙ sym (sum_by-cons (λ x. cond (q x && p x) 1 0) x xs)
  where
    first : (b : Bool) → count_by p (cond b (x ∷ filter q xs) (filter q xs)) ≡ cond (b && p x) 1 0 + count_by p (filter q xs)
    first true = sum_by-cons (λ y. cond (p y) 1 0) x (filter q xs)
    first false = none-add (count_by p (filter q xs))

-- ---- sums

sum-zero : (xs : List ℕ) → sum_by (λ m. 0) xs ≡ 0
sum-zero [] = refl
sum-zero (x ∷ xs) = sum_by-cons (λ m. 0) x xs ∙ sym (none-add (sum_by (λ m. 0) xs)) ∙ sum-zero xs

sum-add : (f g : ℕ → ℕ) (xs : List ℕ) → sum_by (λ m. f m + g m) xs ≡ sum_by f xs + sum_by g xs
sum-add f g [] = refl
sum-add f g (x ∷ xs) =
    let a = sum_by-cons (λ m. f m + g m) x xs in
    let b = sum_by-cons f x xs in
    let c = sum_by-cons g x xs in
    let d = sum-add f g xs in
    omega (arith, a, b, c, d)

module _ (k : ℕ) (x : ℕ → ℕ) where
  abbrev at : ℕ → ℕ
  at m = cond (nat_eq k m) (x m) 0

  at-other : (m : ℕ) → (k ≡ m → ⊥) → at m ≡ 0
  at-other m other = go (nat_eq k m) refl
    where
      go : (b : Bool) → nat_eq k m ≡ b → cond b (x m) 0 ≡ 0
      go true e = absurd (other (eqb-true k m e))
      go false e = refl

  sum-before : (a n : ℕ) → k < a → sum_by at (range_with_len a n) ≡ 0
  sum-before a zero h = refl
  sum-before a (suc n) h =
      sum_by-cons at a (range_with_len (a + 1) n) ∙ ap (λ y. y + sum_by at (range_with_len (a + 1) n)) (at-other a (λ e. omega (arith, h, e))) ∙ sym (none-add (sum_by at (range_with_len (a + 1) n))) ∙ sum-before (a + 1) n (omega (arith, h))

  sum-one : (a n : ℕ) → a ≤ k → k < a + n → sum_by at (range_with_len a n) ≡ x k
  sum-one a zero low high = absurd (omega (arith, low, high))
  sum-one a (suc n) low high = sum_by-cons at a (range_with_len (a + 1) n) ∙ go (nat_eq k a) refl (λ other. sum-one (a + 1) n (omega (arith, low, other)) (omega (arith, high)))
    where
      apart : nat_eq k a ≡ false → k ≡ a → ⊥
      apart e same =
          let is : true ≡ false = sym (eq-eqb k a same) ∙ e in
          cc

      go : (b : Bool) → nat_eq k a ≡ b → ((k ≡ a → ⊥) → sum_by at (range_with_len (a + 1) n) ≡ x k) → cond b (x a) 0 + sum_by at (range_with_len (a + 1) n) ≡ x k
      go true e later =
          let same : k ≡ a = eqb-true k a e in
          ap (λ y. x a + y) (sum-before (a + 1) n (omega (arith, same))) ∙ add-none (x a) ∙ ap x (sym same)
      go false e later = sym (none-add (sum_by at (range_with_len (a + 1) n))) ∙ later (apart e)

-- ---- steps, module by module

module _ (q : Step → Bool) (n : ℕ) where
  of-module : List Step → ℕ → ℕ
  of-module steps m = count_by (λ a. q (m, a)) (mine m steps)

  here : Step → ℕ → ℕ
  here s m = cond (nat_eq s.0 m) (cond (q (m, s.1)) 1 0) 0

  module-cons : (s : Step) (rest : List Step) (m : ℕ) → of-module (s ∷ rest) m ≡ here s m + of-module rest m
  unfolding of-module here
  module-cons s rest m = go (nat_eq s.0 m)
    where
      go : (b : Bool) → count_by (λ a. q (m, a)) (map (λ (t : Step). t.1) (cond b (s ∷ filter (λ t. nat_eq t.0 m) rest) (filter (λ t. nat_eq t.0 m) rest))) ≡ cond b (cond (q (m, s.1)) 1 0) 0 + count_by (λ a. q (m, a)) (mine m rest)
      go true = sum_by-cons (λ a. cond (q (m, a)) 1 0) s.1 (mine m rest)
      go false = none-add (count_by (λ a. q (m, a)) (mine m rest))

  pub by-modules : (steps : List Step) → AllByRecursion (λ (s : Step). s.0 < n) steps → count_by q steps ≡ sum_by (λ m. count_by (λ a. q (m, a)) (mine m steps)) (range_with_len 0 n)
  unfolding of-module here
  by-modules [] h = sym (sum-zero (range_with_len 0 n))
  by-modules (s ∷ rest) h =
      let one : sum_by (here s) (range_with_len 0 n) ≡ cond (q (s.0, s.1)) 1 0 = sum-one s.0 (λ m. cond (q (m, s.1)) 1 0) 0 n (omega arith) (omega (arith, h.0)) in
      sum_by-cons (λ s. cond (q s) 1 0) s rest
      ∙ ap (λ k. cond (q s) 1 0 + k) (by-modules rest h.1)
      ∙ ap (λ k. k + sum_by (of-module rest) (range_with_len 0 n)) (sym one)
      ∙ sym (sum-add (here s) (of-module rest) (range_with_len 0 n))
      ∙ ap (λ f. sum_by f (range_with_len 0 n)) (λ i m. sym (module-cons s rest m) i)

-- ---- a run

module _ {S C : Type 0} (asks : C → Text → Text → Option (List ℕ) → C → Type 0) (state : S → Recording × C) (recorded : RecordedPlacesLaw asks state) where
  keeps : (ms : List LoadedModule) (items : Items) → PlanPlaces ms items → KeepsTotals asks state ms items
  keeps ms items places plan new same took =
      let has = recorded plan (events_in items) new took in
      let steps = steps_told plan [] (events_in items) in
      let each = (places plan same).places in
      let long : length plan.units ≡ length ms = sym (length-map plan.units (λ units. map (λ (unit : Named). unit.first) units)) ∙ ap length same ∙ length-map ms unit_lines in
      record {
        rows = has.rows;
        counted = has.counted;
        totals = λ p.
            let q : Step → Bool = λ s. is_counted plan s && p (spot_of plan s) in
            sym (count-map p spot has.rows)
            ∙ ap (count_by p) has.spots
            ∙ count-map p (spot_of plan) (filter (is_counted plan) steps)
            ∙ count-filter (λ s. p (spot_of plan s)) (is_counted plan) steps
            ∙ by-modules q (length ms) steps (subst (λ n. AllByRecursion (λ (s : Step). s.0 < n) steps) long (steps-units plan [] (events_in items)))
            ∙ ap (λ f. sum_by f (range_with_len 0 (length ms))) (λ i m. each m (λ a. has_arc (set_of plan m) a && p (path_of plan m, a)) i);
      }

  pub modules_totals : ModulesPlacesLaw → ModulesTotalsLaw asks state
  modules_totals places ms some lines words input budget = keeps ms (run_modules ms words input budget).items (places ms some lines words input budget)

  pub call_totals : CallPlacesLaw → CallTotalsLaw asks state
  call_totals places ms lines w input r budget = keeps ms (called ms w input r budget).items (places ms lines w input r budget)
