-- A mutant whose line nothing reached under its path isn't noticed.
use Rattle.std.proofs.Common.{◌≡◌, ℕ, nat_eq, Bool, true, false, List, ap, subst, ◌∙◌, refl}
use Rattle.std.specs.Prelude.{◌<◌, All}
use Rattle.std.proofs.lemmas.Bool.{eqb-true}
use Rattle.std.proofs.lemmas.List.Elements.{All-from_recursion}
use Rattle.py_syntax.specs.Marks.{statement_lines}
use Rattle.py_syntax.specs.Tree.{Stmts}
use Rattle.py_builtins.specs.Outcomes.{finished}
use Rattle.py_meaning.specs.Activations.{Items}
use Rattle.py_meaning.specs.Modules.{LoadedModule, body_of}
use Rattle.py_changes.specs.Mutants.{module_mutants}
use Rattle.py_changes.specs.Paths.{path_of, HasReached, ReachedNoChange}
use Rattle.py_changes.specs.Regular.{IsRegular}
use Rattle.py_changes.specs.Tests.{Test, imported, tested, is_changed}
use Rattle.py_changes.proofs.Law.{unchanged_import}
use Rattle.py_changes.proofs.Lists.{all-weaker}
use Rattle.py_changes.proofs.SameLaws.{both}
use Rattle.py_changes.proofs.UnreachedChange.{unreached_change}
use Rattle.py_changes.proofs.UnreachedPaths.{unreached_paths}
use Rattle.py_mutants_laws.specs.Unreached.{with_body, is_line, IsUnnoticedByPath, UnreachedMutantsByPath}
use Rattle.py_mutants_laws.proofs.Mutants.{rows-mutants}
use Rattle.py_mutants_laws.proofs.Replaced.{line-alone}
use Rattle.py_mutants_laws.proofs.UnreachedMutants.{not-cut}
use Rattle.py_mutants_laws.proofs.Versions.{Rows}

-- a changed line is the one
the-line : (m l n k : ℕ) (x c : Bool) → is_line m l n k ≡ x → (x ≡ false → c ≡ false) → c ≡ true
    → (n ≡ m) × (k ≡ l)
the-line m l n k true c e h changed =
    let t = both (nat_eq n m) (nat_eq k l) e in (eqb-true n m t.0, eqb-true k l t.1)
the-line m l n k false c e h changed = let p = h refl in absurd cc

module _ (ms : List LoadedModule) (m l : ℕ) (b : Stmts) (regular : IsRegular ms)
    (rows : Rows l (body_of ms m) b) where
  no-change : (items : Items) → (HasReached ms items (path_of ms m) l → ⊥)
      → ReachedNoChange ms (with_body ms m b) items
  no-change items h n k changed reached =
      let line =
      the-line m l n k (is_line m l n k) (is_changed ms (with_body ms m b) n k) refl
      (λ e. line-alone l ms m b regular.tests rows n k e) changed in
      h (subst (λ z. HasReached ms items (path_of ms m) z) line.1
      (subst (λ z. HasReached ms items (path_of ms z) k) line.0 reached))

  pub unnoticed-by-path : (t : Test)
      → ((n : ℕ) → All (λ k. 0 < k) (statement_lines (body_of ms n)))
      → (imported ms t).outcome ≡ finished → IsUnnoticedByPath ms t m l b
  unnoticed-by-path t lines ended import =
      let paths = unreached_paths ms (with_body ms m b) t lines in
      let before = paths.0 (no-change (imported ms t).items import) in (
        ap (λ run. run.outcome)
            (unchanged_import ms (with_body ms m b) t regular (not-cut _ ended) before) ∙ ended,
        λ test passed.
            (unreached_change ms (with_body ms m b) t regular ended before
            (paths.1 (no-change (tested ms t).items test))).1 passed,
      )

pub unreached_mutants_by_path : UnreachedMutantsByPath
unreached_mutants_by_path ms t m regular lines ended =
    All-from_recursion (λ x. IsUnnoticedByPath ms t m x.0.0 x.1) (module_mutants (body_of ms m))
    (all-weaker (λ x. Rows x.0.0 (body_of ms m) x.1) (λ x. IsUnnoticedByPath ms t m x.0.0 x.1)
    (λ x h. unnoticed-by-path ms m x.0.0 x.1 regular h t lines ended)
    (module_mutants (body_of ms m)) (rows-mutants (body_of ms m)))
