-- The rows of a run have its arcs and its lines.
use Rattle.std.proofs.Common.{◌≡◌, ◌↔◌, inl, inr, ◌∙◌, ℕ, ◌<◌, ℤ, pos, Bool, true, false, List, Contains, Option, Some, None, refl, sym, ap, subst}
use Rattle.std.specs.Prelude.{slice_get, option_map}
use Rattle.std.proofs.lemmas.Option.{slice_get-map}
use Rattle.py_meaning.specs.Crossings.{crossings, lines_crossed}
use Rattle.py_meaning.specs.Modules.{LoadedModule}
use Rattle.cov_data.specs.DataSet.{Text as Bytes, DataSet}
use Rattle.cov_data.specs.Rows.{arcs_of, lines_of}
use Rattle.cov_data.proofs.ArcLists.{law_of_lines}
use Rattle.cov_measure_laws.specs.Foreseen.{IsForeseenArc, HasForeseen}
use Rattle.cov_measure_laws.specs.Meant.{tree_plan}
use Rattle.cov_measure_laws.specs.Units.{tree_names}
use Rattle.cov_measure_laws.specs.Whole.{HasAllSteps}
use Rattle.cov_recorder.specs.Plan.{path_of, path_in, unit_in}
use Rattle.cov_headline.specs.Origins.{PlainRun, items_of, module_path, path_at, Crosses, ComesTo, IsRecorded}

-- a line that an arc of a run leaves is one that an arc came to
abbrev pub CameLaw : Type 0
CameLaw =
    (r : PlainRun) (m line : ℕ) → 0 < line → (a : ℤ × ℤ) → Contains (lines_crossed (crossings r.modules m (items_of r))) a → a.0 ≡ pos line
    → (from : ℤ) × Contains (lines_crossed (crossings r.modules m (items_of r))) (from, pos line)

first-path : (o : Option LoadedModule) → path_in (unit_in (option_map tree_names o) 0) ≡ module_path o
first-path None = refl
first-path (Some m) = refl

-- the path of a module is that of its plan
pub plan-path : (ms : List LoadedModule) (arcs : Bool) (fixed : Bytes) (m : ℕ) → path_of (tree_plan ms arcs fixed) m ≡ path_at ms m
plan-path ms arcs fixed m = ap (λ o. path_in (unit_in o 0)) (slice_get-map tree_names ms m) ∙ first-path (slice_get ms m)

module _ (came : CameLaw) (r : PlainRun) (fixed : Bytes) (rows : DataSet) where
  of-arcs : (arcs : Bool) → HasAllSteps (tree_plan r.modules arcs fixed) (λ m. lines_crossed (crossings r.modules m (items_of r))) rows → arcs ≡ true → (path : Bytes) (a : ℤ × ℤ) → Contains (arcs_of rows path) a ↔ Crosses r path a
  of-arcs arcs has t path a =
      let s = has.arcs t path a in (
        λ h. let x = s.0 h in (x.0, sym (plan-path r.modules arcs fixed x.0) ∙ x.1, x.2),
        λ h. s.1 (h.0, plan-path r.modules arcs fixed h.0 ∙ h.1, h.2),
      )

  of-lines : (arcs : Bool) → rows.arcs ≡ arcs → HasAllSteps (tree_plan r.modules arcs fixed) (λ m. lines_crossed (crossings r.modules m (items_of r))) rows → (path : Bytes) (line : ℕ) → 0 < line → Contains (lines_of rows path) line ↔ ComesTo r path line
  of-lines false kind has path line some =
      let s = has.lines refl path line some in (
        λ h. let x = s.0 h in (x.1, (x.0, sym (plan-path r.modules false fixed x.0) ∙ x.2, x.3)),
        λ h. s.1 (h.1.0, h.0, plan-path r.modules false fixed h.1.0 ∙ h.1.1, h.1.2),
      )
  of-lines true kind has path line some =
      let s = law_of_lines rows kind path line some in
      let arcs = of-arcs true has refl path in (
        λ h.
            let at = s.0 h in
            let x = (arcs at.0).0 at.1 in
            elim at.2 [
              | inl e ↦ let c = came r x.0 line some at.0 x.2 e in (c.0, (x.0, x.1, c.1))
              | inr e ↦ (at.0.0, (x.0, x.1, subst (λ z. Contains (lines_crossed (crossings r.modules x.0 (items_of r))) (at.0.0, z)) e x.2))
            ],
        λ h. s.1 ((h.0, pos line), (arcs (h.0, pos line)).1 h.1, inr refl),
      )

  -- so the rows of a run have its arcs and lines
  pub recorded : (arcs : Bool) → rows.arcs ≡ arcs → HasAllSteps (tree_plan r.modules arcs fixed) (λ m. lines_crossed (crossings r.modules m (items_of r))) rows → IsRecorded r rows
  recorded arcs kind has = record {
    arcs = λ t path a. of-arcs arcs has (sym kind ∙ t) path a;
    lines = λ path line some. of-lines arcs kind has path line some;
  }

  -- and each arc of them is foreseen
  pub foreseen : (arcs : Bool) → HasForeseen (tree_plan r.modules arcs fixed) r.modules (items_of r) rows → arcs ≡ true → (path : Bytes) (a : ℤ × ℤ) → Contains (arcs_of rows path) a
      → (m : ℕ) × (path_at r.modules m ≡ path) × IsForeseenArc r.modules (items_of r) m a
  foreseen arcs has t path a h = let x = has.arcs t path a h in (x.0, sym (plan-path r.modules arcs fixed x.0) ∙ x.1, x.2)
