-- Mutants and modules that are judged one after another.
use Rattle.std.proofs.Common.{◌≡◌, ℕ, zero, suc, ◌+◌, ◌<◌, List, [], ◌∷◌, ◌++◌, map, length, drop, Contains, Some, None, slice_get, append_assoc, refl, ap, sym, ◌∙◌, add-one, arith}
use Rattle.std.proofs.lemmas.List.{append-nil, map-append}
use Rattle.std.proofs.lemmas.List.Elements.{All-contains}
use Rattle.cov_data.specs.DataSet.{DataSet}
use Rattle.cov_data.specs.Rows.{lines_of}
use Rattle.cov_verdicts.specs.Verdicts.{JudgedView}
use Rattle.py_changes.specs.Mutants.{Marked, module_mutants}
use Rattle.py_mutants_laws.specs.Sound.{MutantsAreWellFormed}
use Rattle.py_scope.specs.Faults.{IsWellFormed, faults_of, functions_of}
use Rattle.py_scope.specs.Scopes.{Names}
use Rattle.py_syntax.specs.Tree.{Stmts}
use Rattle.cov_mutate.specs.declared.Judged.{Judged}
use Rattle.cov_mutate.specs.Code.{Source, Tried, judge, judged_from, judged_all}
use Rattle.cov_mutate.specs.Meant.{view_of}

-- ---- a list by numbers

none-left : {X : Type 0} (xs : List X) (n : ℕ) → None ≡ slice_get xs n → drop n xs ≡ []
none-left [] zero e = refl
none-left [] (suc n) e = refl
none-left (x ∷ xs) zero e = absurd cc
none-left (x ∷ xs) (suc n) e = none-left xs n e

pub one-left : {X : Type 0} (xs : List X) (n : ℕ) (x : X) → Some x ≡ slice_get xs n → (drop n xs ≡ x ∷ drop (suc n) xs) × (n < length xs) × Contains xs x
one-left [] zero x e = absurd cc
one-left [] (suc n) x e = absurd cc
one-left (y ∷ xs) zero x e = let same : y ≡ x = cc in (ap (λ z. z ∷ xs) same, omega arith, (0, omega arith, same))
one-left (y ∷ xs) (suc n) x e = let t = one-left xs n x e in (t.0, omega (arith, t.1), (suc t.2.0, omega (arith, t.2.1), t.2.2))

-- ---- mutants

module _ (law : MutantsAreWellFormed) (a : Stmts) (n : ℕ) (x : Marked × Stmts) (at : Some x ≡ slice_get (module_mutants a) n) where
  same-scopes : (faults_of x.1 ≡ faults_of a) × (functions_of x.1 ≡ functions_of a)
  same-scopes = All-contains (λ y. (faults_of y.1 ≡ faults_of a) × (functions_of y.1 ≡ functions_of a)) (module_mutants a) x (law a) (one-left (module_mutants a) n x at).2

  pub mutant-formed : IsWellFormed a → IsWellFormed x.1
  mutant-formed well = same-scopes.0 ∙ well

  pub mutant-names : (scopes : List Names) → scopes ≡ functions_of a → scopes ≡ functions_of x.1
  mutant-names scopes e = e ∙ sym same-scopes.1

module _ (f : Marked × Stmts → JudgedView) (all : List (Marked × Stmts)) (before : List JudgedView) where
  -- one more is judged
  pub mutant-step : (n m : ℕ) (x : Marked × Stmts) (old new : List Judged) (j : Judged) → Some x ≡ slice_get all n → m ≡ suc n → view_of j ≡ f x → new ≡ old ++ j ∷ []
      → map view_of old ++ map f (drop n all) ≡ before → map view_of new ++ map f (drop m all) ≡ before
  mutant-step n m x old new j at next seen more h =
      ap (λ k. map view_of new ++ map f (drop k all)) next
      ∙ ap (λ vs. vs ++ map f (drop (suc n) all)) (ap (map view_of) more ∙ map-append view_of old (j ∷ []))
      ∙ append_assoc (map view_of old) (view_of j ∷ []) (map f (drop (suc n) all))
      ∙ ap (λ v. map view_of old ++ v ∷ map f (drop (suc n) all)) seen
      ∙ ap (λ xs. map view_of old ++ map f xs) (sym (one-left all n x at).0) ∙ h

  -- none is left
  pub mutants-end : (n : ℕ) (made : List Judged) → None ≡ slice_get all n → map view_of made ++ map f (drop n all) ≡ before → map view_of made ≡ before
  mutants-end n made none h = sym (append-nil (map view_of made)) ∙ ap (λ xs. map view_of made ++ map f xs) (sym (none-left all n none)) ∙ h

-- ---- modules

pub modules-start : (t : Tried) (d : DataSet) (srcs : List Source) → judged_from t d 1 (drop 1 srcs) ≡ judged_all t d srcs
modules-start t d [] = refl
modules-start t d (s ∷ srcs) = refl

module _ (t : Tried) (d : DataSet) (srcs : List Source) (all : List JudgedView) where
  pub module-step : (m : ℕ) (s : Source) (lines : List ℕ) (body : Stmts) (old new : List JudgedView) → drop m srcs ≡ s ∷ drop (m + 1) srcs → lines ≡ lines_of d s.path → body ≡ s.body → new ≡ old ++ map (judge t lines m) (module_mutants body)
      → old ++ judged_from t d m (drop m srcs) ≡ all → new ++ judged_from t d (m + 1) (drop (m + 1) srcs) ≡ all
  module-step m s lines body old new here are same more h =
      ap (λ vs. vs ++ judged_from t d (m + 1) (drop (m + 1) srcs)) more
      ∙ append_assoc old (map (judge t lines m) (module_mutants body)) (judged_from t d (m + 1) (drop (m + 1) srcs))
      ∙ (λ i. old ++ (map (judge t (are i) m) (module_mutants (same i)) ++ judged_from t d (add-one m i) (drop (m + 1) srcs)))
      ∙ ap (λ ss. old ++ judged_from t d m ss) (sym here) ∙ h

  pub modules-end : (m : ℕ) (made : List JudgedView) → drop m srcs ≡ [] → made ++ judged_from t d m (drop m srcs) ≡ all → made ≡ all
  modules-end m made none h = sym (append-nil made) ∙ ap (λ ss. made ++ judged_from t d m ss) (sym none) ∙ h
