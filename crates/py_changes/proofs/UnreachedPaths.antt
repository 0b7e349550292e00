-- By the lines that were reached under each path, no changed line was reached.
use Rattle.std.proofs.Common.{◌≡◌, ℕ, suc, ℤ, pos, negsuc, Bool, true, false, List, [], ◌∷◌, refl, subst, sym, arith}
use Rattle.std.specs.Prelude.{Contains}
use Rattle.std.specs.List.{AllByRecursion}
use Rattle.py_meaning.specs.Activations.{Items, arcs_so_far}
use Rattle.py_meaning.specs.Crossings.{crossings}
use Rattle.py_meaning.specs.Modules.{LoadedModule}
use Rattle.py_changes.specs.Paths.{ReachedNoChange, UnreachedPaths, UnchangedByPaths}
use Rattle.py_changes.specs.Tests.{imported, tested, request_of, reaches, is_changed}
use Rattle.py_changes.proofs.Crossings.{SafeEnd, only-by-crossings}
use Rattle.py_changes.proofs.Law.{unchanged_test}
use Rattle.py_changes.proofs.Outside.{modules-unmarked, call-unmarked}
use Rattle.py_changes.proofs.Positive.{zero-unchanged}
use Rattle.py_changes.proofs.Unreached.{reach-none}

each-contained : {A : Type 0} (P : A → Type 0) (xs : List A) → ((x : A) → Contains xs x → P x)
    → AllByRecursion P xs
each-contained P [] h = tt
each-contained P (x ∷ xs) h = (
  h x (0, omega arith, refl),
  each-contained P xs (λ y at. h y (suc at.0, omega (arith, at.1), at.2)),
)

module _ (old new : List LoadedModule) (outside : (m : ℕ) → is_changed old new m 0 ≡ false) where
  -- the lines that are not changed
  abbrev Safe : ℕ → ℕ → Type 0
  Safe m l = is_changed old new m l ≡ false

  not-changed : (b : Bool) → (b ≡ true → ⊥) → b ≡ false
  not-changed true h = absurd (h refl)
  not-changed false h = refl

  safe-end : (m : ℕ) (z : ℤ) → ((l : ℕ) → z ≡ pos l → Safe m l) → SafeEnd Safe outside m z
  safe-end m (pos l) h = h l refl
  safe-end m (negsuc l) h = tt

  by-paths : (items : Items) → arcs_so_far items ≡ [] → ReachedNoChange old new items
      → reaches (is_changed old new) 0 items ≡ false
  by-paths items none h =
      reach-none (is_changed old new) 0 items
      (only-by-crossings Safe outside old items
      (λ m. each-contained (λ c. SafeEnd Safe outside m c.to) (crossings old m items) (λ c at.
      safe-end m c.to (λ l e. not-changed (is_changed old new m l) (λ changed.
      h m l changed (m, c, refl, at, e)))))
      (subst (λ arcs. AllByRecursion (λ a. Safe 0 a.to) arcs) (sym none) tt))

pub unreached_paths : UnreachedPaths
unreached_paths old new t lines =
    let outside : (m : ℕ) → is_changed old new m 0 ≡ false =
    λ m. zero-unchanged old new m (lines m) in (
      by-paths old new outside (imported old t).items
          (modules-unmarked old t.words [] t.import_budget),
      by-paths old new outside (tested old t).items
          (call-unmarked old (imported old t).world [] (request_of t) t.budget),
    )

pub unchanged_by_paths : UnchangedByPaths
unchanged_by_paths old new t regular lines ne import ne' test =
    let reached = unreached_paths old new t lines in
    unchanged_test old new t regular ne (reached.0 import) ne' (reached.1 test)
