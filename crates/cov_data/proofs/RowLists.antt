-- The lists that data give: what stands in the entries of a map, of a path without rows, and that all rows are in range.
use Rattle.std.proofs.Common.{◌≡◌, ℤ, Bool, true, false, cond, List, [], ◌∷◌, map, length, Some, Ordering, All, refl, ap, sym, subst, ◌∙◌, arith}
use Rattle.std.specs.declared.cmp.Ordering.TheVariants.{Greater}
use Rattle.std.specs.Prelude.{T}
use Rattle.std.specs.Option.{unwrap_or}
use Rattle.std.specs.Ordering.{is_eq, ordering_reverse}
use Rattle.std.specs.Cmp.{IsTotalOrder, tied_itself}
use Rattle.std.specs.List.{AllByRecursion, flat_map}
use Rattle.std.specs.FinMap.{FinMap, empty, get, entries, find, is_sorted, entries_sorted, get-entries, len-empty, len-entries}
use Rattle.std.specs.FinMap.Entries.{below_all}
use Rattle.std.proofs.lemmas.List.Elements.{All-from_recursion, recursion_from_All, All-nil, All-append, All-map, All-weaker}
use Rattle.cov_data.specs.DataSet.{Text, place_cmp, File, DataSet, no_rows, file_of, IsInRange, IsSoundFile, IsSound}
use Rattle.cov_data.specs.Rows.{RowView, row_of, file_rows, file_arcs, arc_cmp, distinct_in_order, rows_of, arcs_of}
use Rattle.cov_data.proofs.FileViews.{place_cmp_total, text_cmp_total}
use Rattle.cov_data.proofs.MapViews.{first, second, less}

no_elements : {X : Type 0} (xs : List X) → length xs ≡ 0 → xs ≡ []
no_elements [] h = refl
no_elements (x ∷ xs) h = absurd (omega arith)

pub entries-empty : {K X : Type 0} (R : K → K → Ordering) → entries (empty {K = K} {X = X} {R = R}) ≡ []
entries-empty {K} {X} R = no_elements (entries (empty {R = R})) (sym (len-entries (empty {R = R})) ∙ len-empty R X)

pub file_rows-none : (p : Text) → file_rows p no_rows ≡ []
file_rows-none p = ap (map (row_of p)) (entries-empty place_cmp)

-- ---- each entry of a map is what a look-up finds

module _ {K X : Type 0} {R : K → K → Ordering} (o : IsTotalOrder R) where
  -- the entries after e are found after it
  found_after : (e : K × X) (all es : List (K × X)) → T (below_all R e.0 es) → AllByRecursion (λ f. find R f.0 all ≡ Some f.1) es → AllByRecursion (λ f. find R f.0 (e ∷ all) ≡ Some f.1) es
  found_after e all [] h found = tt
  found_after e all (f ∷ es) h found =
      let apart : R f.0 e.0 ≡ Greater = o.antisymm f.0 e.0 ∙ ap ordering_reverse (less (R e.0 f.0) (first _ _ h)) in
      (ap (λ r. cond (is_eq r) (Some e.1) (find R f.0 all)) apart ∙ found.0, found_after e all es (second _ _ h) found.1)

  found_all : (es : List (K × X)) → T (is_sorted R es) → AllByRecursion (λ f. find R f.0 es ≡ Some f.1) es
  found_all [] h = tt
  found_all (e ∷ es) h = (ap (λ r. cond (is_eq r) (Some e.1) (find R e.0 es)) (tied_itself o e.0), found_after e es es (first _ _ h) (found_all es (second _ _ h)))

  pub get-each : (m : FinMap R X) → All (λ e. get m e.0 ≡ Some e.1) (entries m)
  get-each m = All-weaker (λ e. find R e.0 (entries m) ≡ Some e.1) (λ e. get m e.0 ≡ Some e.1) (λ e h. get-entries m e.0 ∙ h) (entries m) (All-from_recursion (λ e. find R e.0 (entries m) ≡ Some e.1) (entries m) (found_all (entries m) (entries_sorted m)))

-- ---- all rows are in range

abbrev pub IsRowInRange : Bool → RowView → Type 0
IsRowInRange arcs r = IsInRange arcs r.from r.to r.count

pub file_rows-in_range : (arcs : Bool) (p : Text) (f : File) → IsSoundFile arcs f → All (IsRowInRange arcs) (file_rows p f)
file_rows-in_range arcs p f sound = All-map (IsRowInRange arcs) (row_of p) (entries f)
    (All-weaker (λ e. get f e.0 ≡ Some e.1) (λ e. IsRowInRange arcs (row_of p e)) (λ e h. (sound e.0 e.1 h).0) (entries f) (get-each place_cmp_total f))

flat_all : (arcs : Bool) (es : List (Text × File)) → AllByRecursion (λ e. IsSoundFile arcs e.1) es → All (IsRowInRange arcs) (flat_map (λ e. file_rows e.0 e.1) es)
flat_all arcs [] h = All-nil (IsRowInRange arcs)
flat_all arcs (e ∷ es) h = All-append (IsRowInRange arcs) (file_rows e.0 e.1) (flat_map (λ e. file_rows e.0 e.1) es) (file_rows-in_range arcs e.0 e.1 h.0) (flat_all arcs es h.1)

pub rows_of-in_range : (d : DataSet) → IsSound d → All (IsRowInRange d.arcs) (rows_of d)
rows_of-in_range d sound = flat_all d.arcs (entries d.files)
    (recursion_from_All (λ e. IsSoundFile d.arcs e.1) (entries d.files)
    (All-weaker (λ e. get d.files e.0 ≡ Some e.1) (λ e. IsSoundFile d.arcs e.1) (λ e h. subst (IsSoundFile d.arcs) (ap (λ o. unwrap_or o no_rows) h) (sound e.0)) (entries d.files) (get-each text_cmp_total d.files)))

pub arcs_of-absent : (d : DataSet) (p : Text) → file_of d p ≡ no_rows → arcs_of d p ≡ []
arcs_of-absent d p absent = ap (λ f. cond {A = List (ℤ × ℤ)} d.arcs (file_arcs f) []) absent ∙ ap (λ es. cond {A = List (ℤ × ℤ)} d.arcs (distinct_in_order arc_cmp (map (λ e. e.0.1) es)) []) (entries-empty place_cmp)
    ∙ elim d.arcs as (λ b. cond {A = List (ℤ × ℤ)} b [] [] ≡ []) [ true ↦ refl | false ↦ refl ]
