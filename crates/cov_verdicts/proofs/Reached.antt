-- The lines of the data of items are those that the items reached, in data of arcs and of lines.
--     plan-path         the path of a module in the plan of trees
--     reached-in        a line that was reached is one of the data
--     in-reached        a line of the data was reached
use Rattle.std.proofs.Common.{◌≡◌, inl, inr, ℕ, zero, suc, ◌<◌, ℤ, pos, Bool, true, false, List, map, Contains, encode_utf8_all, refl, ap, sym, subst, ◌∙◌, arith, [], ◌∷◌}
use Rattle.std.proofs.lemmas.Str.{encodes_same}
use Rattle.cov_arcs.specs.Laws.{firsts_of, ArcsAgree}
use Rattle.cov_arcs.specs.Told.{arcs_told}
use Rattle.cov_contexts.specs.declared.plugins.Plugin.{Ghosts as PluginOf}
use Rattle.cov_data.specs.DataSet.{Text as Bytes, DataSet}
use Rattle.cov_data.specs.Rows.{lines_of}
use Rattle.cov_measure_laws.proofs.RunLines.{comes, lines_of_arcs}
use Rattle.cov_measure_laws.specs.Units.{tree_units}
use Rattle.cov_recorder.specs.Plan.{path_at}
use Rattle.cov_recorder_laws.proofs.Law.{in_order}
use Rattle.cov_suite.proofs.DataLines.{mapped, unmapped}
use Rattle.cov_suite.specs.Meant.{IsMeantData}
use Rattle.py_changes.specs.Paths.{path_of, HasReached}
use Rattle.py_meaning.specs.Activations.{Items}
use Rattle.py_meaning.specs.Crossings.{ends, crossings, lines_crossed}
use Rattle.py_meaning.specs.Events.{events_in}
use Rattle.py_meaning.specs.Modules.{LoadedModule}

-- the path of a module in the plan of trees
pub plan-path : (ms : List LoadedModule) (m : ℕ) → path_at (tree_units ms) m ≡ encode_utf8_all (path_of ms m)
plan-path [] m = refl
plan-path (x ∷ ms) zero = refl
plan-path (x ∷ ms) (suc m) = plan-path ms m

-- the arcs that items cross in a module
abbrev arcs_in : List LoadedModule → Items → ℕ → List (ℤ × ℤ)
arcs_in ms items m = lines_crossed (crossings ms m items)

module _ {P : Type 0} (plugin : PluginOf P) (ms : List LoadedModule) (arcs : Bool) (fixed : Bytes) (items : Items) (d : DataSet) (old new : List P) (is : IsMeantData plugin ms arcs fixed old items d new) (m l : ℕ) (some : 0 < l) where
  abbrev path : Bytes
  path = encode_utf8_all (path_of ms m)

  -- a line that was reached is one of the data
  pub reached-in : HasReached ms items (path_of ms m) l → Contains (lines_of d path) l
  reached-in reached = by_case arcs refl where
    n : ℕ
    n = reached.0

    there : path_at (tree_units ms) n ≡ path
    there = plan-path ms n ∙ ap encode_utf8_all reached.2

    arc : Contains (arcs_in ms items n) (reached.1.from, pos l)
    arc =
        subst (λ (z : ℤ). Contains (arcs_in ms items n) (reached.1.from, z)) reached.4
        ((in_order (map ends (crossings ms n items)) (arcs_in ms items n) refl (ends reached.1)).0 (mapped ends (crossings ms n items) reached.1 reached.3))

    by_case : (b : Bool) → arcs ≡ b → Contains (lines_of d path) l
    by_case true k =
        (lines_of_arcs d (is.rows.counted.kind ∙ k) path l some).1
        ((reached.1.from, pos l), (is.steps.arcs k path (reached.1.from, pos l)).1 (n, there, arc), inr refl)
    by_case false k = (is.steps.lines k path l some).1 (n, reached.1.from, there, arc)

  -- an arc to the line, in a module of its path, is one that the items crossed
  crossed : (n : ℕ) → path_at (tree_units ms) n ≡ path → (from : ℤ) → Contains (arcs_in ms items n) (from, pos l) → HasReached ms items (path_of ms m) l
  crossed n there from at =
      let cs = crossings ms n items in
      let c = unmapped ends cs (from, pos l) ((in_order (map ends cs) (arcs_in ms items n) refl (from, pos l)).1 at) in
      (n, c.0, encodes_same (path_of ms n) (path_of ms m) (sym (plan-path ms n) ∙ there), c.1, ap (λ (e : ℤ × ℤ). e.1) c.2)

  -- a line that an arc leaves is one that an arc came to
  came : ArcsAgree ms items → (n k : ℕ) → 0 < k → (a : ℤ × ℤ) → Contains (arcs_in ms items n) a → a.0 ≡ pos k → (from : ℤ) × Contains (arcs_in ms items n) (from, pos k)
  came agree n zero low a at e = absurd (omega (arith, low))
  came agree n (suc k) low a at e =
      let s = in_order (arcs_told (firsts_of ms) n [] (events_in items)) (arcs_in ms items n) (agree.told n) in
      let c = comes (firsts_of ms) n k (events_in items) a ((s a).1 at) e in
      (c.0, (s (c.0, pos (suc k))).0 c.1)

  -- a line of the data was reached
  pub in-reached : ArcsAgree ms items → Contains (lines_of d path) l → HasReached ms items (path_of ms m) l
  in-reached agree at = by_case arcs refl where
    by_case : (b : Bool) → arcs ≡ b → HasReached ms items (path_of ms m) l
    by_case true k =
        let row = (lines_of_arcs d (is.rows.counted.kind ∙ k) path l some).0 at in
        let arc = (is.steps.arcs k path row.0).0 row.1 in
        elim row.2 [
          | inl e ↦ let c = came agree arc.0 l some row.0 arc.2 e in crossed arc.0 arc.1 c.0 c.1
          | inr e ↦ crossed arc.0 arc.1 row.0.0 (subst (λ z. Contains (arcs_in ms items arc.0) (row.0.0, z)) e arc.2)
        ]
    by_case false k = let arc = (is.steps.lines k path l some).0 at in crossed arc.0 arc.2 arc.1 arc.3
