-- The rows of data: they rise by path, context, from and to, and each is in range.
--     row_cmp, rows_rise, paths_rise, contexts_rise     the order of rows; the rows, the paths and the contexts of data rise
--     IsSoundRow, rows_sound                            a row is in range, and so is its count
use Rattle.std.proofs.Common.{◌≡◌, ℕ, ◌≤◌, Bool, List, [], ◌∷◌, map, Some, ap, subst, ◌∙◌}
use Rattle.std.specs.declared.cmp.Ordering.{Ordering}
use Rattle.std.specs.declared.cmp.Ordering.TheVariants.{Less}
use Rattle.std.specs.Prelude.{T}
use Rattle.std.specs.Ordering.{ordering_then}
use Rattle.std.specs.Cmp.{tied_itself}
use Rattle.std.specs.Option.{unwrap_or}
use Rattle.std.specs.List.{AllByRecursion, flat_map}
use Rattle.std.specs.FinMap.{get, entries, entries_sorted, is_sorted}
use Rattle.std.proofs.lemmas.List.Elements.{recursion_from_All}
use Rattle.cov_data.specs.DataSet.{Text, text_cmp, Place, place_cmp, File, DataSet, no_rows, IsInRange, IsSoundFile, IsSound}
use Rattle.cov_data.specs.Rows.{RowView, row_of, file_rows, paths_of, rows_of}
use Rattle.cov_data.proofs.MapViews.{first, second}
use Rattle.cov_data.proofs.FileViews.{text_cmp_total, place_cmp_total}
use Rattle.cov_data.proofs.RowLists.{get-each}
use Rattle.cov_data.proofs.Distinct.{distinct_in_order-Rises}
use Rattle.cov_sql.specs.SavedData.{contexts_in}
use Rattle.cov_sql.proofs.Rising.{all_append, Rise, keys_below, entries_rise, map_rise, append_rise, rises_rise}

-- by path, then context, from and to
abbrev pub row_cmp : RowView → RowView → Ordering
row_cmp a b = ordering_then (text_cmp a.path b.path) (place_cmp (a.context, (a.from, a.to)) (b.context, (b.from, b.to)))

-- ---- they rise

entry_below : (p : Text) (x y : Place × ℕ) → place_cmp x.0 y.0 ≡ Less → row_cmp (row_of p x) (row_of p y) ≡ Less
entry_below p x y lt = ap (λ r. ordering_then r (place_cmp x.0 y.0)) (tied_itself text_cmp_total p) ∙ lt

file_rise : (p : Text) (f : File) → Rise row_cmp (file_rows p f)
file_rise p f = map_rise {A = Place × ℕ} {B = RowView} (λ x y. place_cmp x.0 y.0) row_cmp (row_of p) (entry_below p) (entries f) (entries_rise place_cmp (entries f) (entries_sorted f))

-- the rows of a later path
path_below : (p : Text) (x : Place × ℕ) (q : Text) (ys : List (Place × ℕ)) → text_cmp p q ≡ Less → AllByRecursion (λ r. row_cmp (row_of p x) r ≡ Less) (map (row_of q) ys)
path_below p x q [] lt = tt
path_below p x q (y ∷ ys) lt = (ap (λ r. ordering_then r (place_cmp x.0 y.0)) lt, path_below p x q ys lt)

paths_below : (p : Text) (x : Place × ℕ) (es : List (Text × File)) → AllByRecursion (λ e. text_cmp p e.0 ≡ Less) es → AllByRecursion (λ r. row_cmp (row_of p x) r ≡ Less) (flat_map (λ e. file_rows e.0 e.1) es)
paths_below p x [] h = tt
paths_below p x (e ∷ es) h = all_append (λ r. row_cmp (row_of p x) r ≡ Less) (file_rows e.0 e.1) (flat_map (λ e. file_rows e.0 e.1) es) (path_below p x e.0 (entries e.1) h.0) (paths_below p x es h.1)

each_below : (p : Text) (xs : List (Place × ℕ)) (es : List (Text × File)) → AllByRecursion (λ e. text_cmp p e.0 ≡ Less) es
    → AllByRecursion (λ r. AllByRecursion (λ s. row_cmp r s ≡ Less) (flat_map (λ e. file_rows e.0 e.1) es)) (map (row_of p) xs)
each_below p [] es h = tt
each_below p (x ∷ xs) es h = (paths_below p x es h, each_below p xs es h)

files_rise : (es : List (Text × File)) → T (is_sorted text_cmp es) → Rise row_cmp (flat_map (λ e. file_rows e.0 e.1) es)
files_rise [] h = tt
files_rise (e ∷ es) h =
    append_rise row_cmp (file_rows e.0 e.1) (flat_map (λ e. file_rows e.0 e.1) es) (file_rise e.0 e.1)
    (each_below e.0 (entries e.1) es (keys_below text_cmp e.0 es (first _ _ h))) (files_rise es (second _ _ h))

pub rows_rise : (d : DataSet) → Rise row_cmp (rows_of d)
rows_rise d = files_rise (entries d.files) (entries_sorted d.files)

pub paths_rise : (d : DataSet) → Rise text_cmp (paths_of d)
paths_rise d = map_rise {A = Text × File} {B = Text} (λ x y. text_cmp x.0 y.0) text_cmp (λ e. e.0) (λ x y lt. lt) (entries d.files) (entries_rise text_cmp (entries d.files) (entries_sorted d.files))

pub contexts_rise : (rs : List RowView) → Rise text_cmp (contexts_in rs)
contexts_rise rs = rises_rise text_cmp (contexts_in rs) (distinct_in_order-Rises text_cmp text_cmp_total (map (λ r. r.context) rs))

-- ---- in range

abbrev pub IsSoundRow : Bool → RowView → Type 0
IsSoundRow arcs r = IsInRange arcs r.from r.to r.count × (r.count ≤ 4294967295)

file_sound : (arcs : Bool) (p : Text) (f : File) → IsSoundFile arcs f → (es : List (Place × ℕ)) → AllByRecursion (λ e. get f e.0 ≡ Some e.1) es → AllByRecursion (IsSoundRow arcs) (map (row_of p) es)
file_sound arcs p f sound [] h = tt
file_sound arcs p f sound (e ∷ es) h = (sound e.0 e.1 h.0, file_sound arcs p f sound es h.1)

held : (p : Text) (arcs : Bool) (f : File) → IsSoundFile arcs f → AllByRecursion (IsSoundRow arcs) (file_rows p f)
held p arcs f sound = file_sound arcs p f sound (entries f) (recursion_from_All (λ e. get f e.0 ≡ Some e.1) (entries f) (get-each place_cmp_total f))

files_sound : (d : DataSet) → IsSound d → (es : List (Text × File)) → AllByRecursion (λ e. get d.files e.0 ≡ Some e.1) es → AllByRecursion (IsSoundRow d.arcs) (flat_map (λ e. file_rows e.0 e.1) es)
files_sound d sound [] h = tt
files_sound d sound (e ∷ es) h =
    all_append (IsSoundRow d.arcs) (file_rows e.0 e.1) (flat_map (λ e. file_rows e.0 e.1) es)
    (held e.0 d.arcs e.1 (subst (IsSoundFile d.arcs) (ap (λ o. unwrap_or o no_rows) h.0) (sound e.0))) (files_sound d sound es h.1)

pub rows_sound : (d : DataSet) → IsSound d → AllByRecursion (IsSoundRow d.arcs) (rows_of d)
rows_sound d sound = files_sound d sound (entries d.files) (recursion_from_All (λ e. get d.files e.0 ≡ Some e.1) (entries d.files) (get-each text_cmp_total d.files))
