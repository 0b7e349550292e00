-- The lists of an analysis rise.
use Rattle.std.proofs.Common.{◌≡◌, ℕ, ℤ, true, false, cond, if◌then◌else◌, List, [], ◌∷◌, ◌++◌, pos, negsuc, sym, ap, ◌∙◌}
use Rattle.std.specs.declared.cmp.Ordering.TheVariants.{Less}
use Rattle.std.specs.List.{AllByRecursion}
use Rattle.std.specs.List.Sorted.{IsStrictlySortedBy}
use Rattle.std.specs.Ordering.{int_cmp, ordering_then}
use Rattle.std.proofs.lemmas.List.Kept.{IsStrictlySortedBy-filter}
use Rattle.py_syntax.specs.Marks.{body_marks}
use Rattle.py_syntax.specs.Prediction.{Arc, by_ends, module_arcs}
use Rattle.py_syntax.specs.Tree.{Stmts}
use Rattle.cov_exclude.specs.Touched.{IsRising}
use Rattle.cov_analysis.specs.Branches.{Branch, branch_cmp, is_open, open_branch, open_branches, branches_of}
use Rattle.cov_analysis.specs.Analyses.{Source, Taken, source_of, analysis_of, branches_in, IsInOrder}
use Rattle.cov_analysis.proofs.Raising.{int_cmp-pos}
use Rattle.cov_analysis.proofs.Rising.{in_order-rises, arcs_in_order-rises, excluded_in-rises, filter-rises}

-- an arc from a line adds one branch or none
open-cases : (excluded : List ℕ) (n : ℕ) (to : ℤ) (P : List Branch → Type 0) → P [] → P ((n, to) ∷ []) → P (open_branch excluded (pos n, to))
open-cases excluded n to P none one = elim (is_open excluded (n, to)) as (λ b. P (cond b ((n, to) ∷ []) [])) [ true ↦ one | false ↦ none ]

-- branches stand in the order of their arcs
by_ends-lines : (a b : Branch) → by_ends (pos a.0, a.1) (pos b.0, b.1) ≡ branch_cmp a b
by_ends-lines a b = ap (λ r. ordering_then r (int_cmp a.1 b.1)) (int_cmp-pos a.0 b.0)

below-open : (excluded : List ℕ) (b : Branch) (arcs : List Arc) → AllByRecursion (λ a. by_ends (pos b.0, b.1) a ≡ Less) arcs → AllByRecursion (λ x. branch_cmp b x ≡ Less) (open_branches excluded arcs)
below-open excluded b [] h = h
below-open excluded b ((pos n, to) ∷ rest) h =
    open-cases excluded n to (λ bs. AllByRecursion (λ x. branch_cmp b x ≡ Less) (bs ++ open_branches excluded rest)) (below-open excluded b rest h.1) (sym (by_ends-lines b (n, to)) ∙ h.0, below-open excluded b rest h.1)
below-open excluded b ((negsuc n, to) ∷ rest) h = below-open excluded b rest h.1

open-rises : (excluded : List ℕ) (arcs : List Arc) → IsStrictlySortedBy by_ends arcs → IsStrictlySortedBy branch_cmp (open_branches excluded arcs)
unfolding IsStrictlySortedBy
open-rises excluded [] h = h
open-rises excluded ((pos n, to) ∷ rest) h =
    open-cases excluded n to (λ bs. IsStrictlySortedBy branch_cmp (bs ++ open_branches excluded rest)) (open-rises excluded rest h.1) (below-open excluded (n, to) rest h.0, open-rises excluded rest h.1)
open-rises excluded ((negsuc n, to) ∷ rest) h = open-rises excluded rest h.1

none-rises : IsStrictlySortedBy branch_cmp []
unfolding IsStrictlySortedBy
none-rises = tt

branches-rise : (source : Source) (taken : Taken) → IsStrictlySortedBy by_ends source.arcs → IsStrictlySortedBy branch_cmp (branches_in source taken)
branches-rise source taken h =
    elim taken.arcs as (λ b. IsStrictlySortedBy branch_cmp (if b then branches_of source.excluded source.arcs else [])) [
      | true ↦ IsStrictlySortedBy-filter branch_cmp _ (open_branches source.excluded source.arcs) (open-rises source.excluded source.arcs h)
      | false ↦ none-rises
    ]

pub rises : (path : List ℕ) (source : Source) (taken : Taken) → IsRising source.lines → IsRising source.excluded → IsStrictlySortedBy by_ends source.arcs → IsInOrder (analysis_of path source taken)
rises path source taken lines excluded arcs = record {
  statements = filter-rises _ source.lines lines;
  excluded = excluded;
  missing = filter-rises _ _ (filter-rises _ source.lines lines);
  branches = branches-rise source taken arcs;
  missing_branches = IsStrictlySortedBy-filter branch_cmp _ (branches_in source taken) (branches-rise source taken arcs);
}

-- the lists of the analysis of a module rise
pub rises_of : (path : List ℕ) (exclude partial : List (List ℕ)) (m : Stmts) (text : List ℕ) (taken : Taken) → IsInOrder (analysis_of path (source_of exclude partial m text) taken)
rises_of path exclude partial m text taken =
    rises path (source_of exclude partial m text) taken (in_order-rises (body_marks m)) (excluded_in-rises exclude m text) (arcs_in_order-rises (module_arcs false m))
