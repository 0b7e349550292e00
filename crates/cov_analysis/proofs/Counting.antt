-- Counts of rows and of branches, one after the other.
use Rattle.std.proofs.Common.{◌≡◌, ℕ, ◌+◌, ◌<◌, min, Bool, true, false, if◌then◌else◌, List, [], ◌∷◌, ◌++◌, length, get_or, take, map, refl, sym, ap, ◌∙◌, arith}
use Rattle.std.specs.Prelude.{◌||◌}
use Rattle.std.specs.List.{list_any, sum_by, count_by}
use Rattle.std.proofs.lemmas.List.{map-append, take_more}
use Rattle.std.proofs.lemmas.List.Folds.{list_any-append}
use Rattle.std.proofs.lemmas.List.Sums.{sum_by-append, count_by_more_yes, count_by_more_no}
use Rattle.cov_data.specs.Rows.{RowView, row_view}
use Rattle.cov_data.specs.declared.rows.Row.{Row}
use Rattle.cov_analysis.specs.Branches.{Branch, leaves}
use Rattle.cov_analysis.specs.Hits.{count_where}
use Rattle.cov_analysis.specs.Lookups.{raised}

one_more : (passes : Bool) (sum count : ℕ) → min (sum + (if passes then count else 0)) 4294967295 ≡ raised passes (min sum 4294967295) count
one_more true sum count = omega arith
one_more false sum count = omega arith

single : (f : RowView → ℕ) (row : RowView) → sum_by f (row ∷ []) ≡ f row
single f row = omega arith

-- the counts of one more row
count_more : (p : RowView → Bool) (rows : List RowView) (row : RowView) → count_where p (rows ++ row ∷ []) ≡ raised (p row) (count_where p rows) row.count
count_more p rows row =
    let count = λ (r : RowView). if p r then r.count else 0 in
    ap (λ n. min n 4294967295) (sum_by-append count rows (row ∷ []) ∙ ap (λ n. sum_by count rows + n) (single count row)) ∙ one_more (p row) (sum_by count rows) row.count

views_more : (rows : List Row) (at : ℕ) (row : Row) → at < length rows → row ≡ get_or rows at row → map row_view (take (at + 1) rows) ≡ map row_view (take at rows) ++ row_view row ∷ []
views_more rows at row within is = ap (map row_view) (take_more rows at row within) ∙ map-append row_view (take at rows) (get_or rows at row ∷ []) ∙ ap (λ r. map row_view (take at rows) ++ row_view r ∷ []) (sym is)

-- a count of the rows so far, and one more
pub counted_more : (p : RowView → Bool) (rows : List Row) (at : ℕ) (row : Row) (old new : ℕ) → at < length rows → row ≡ get_or rows at row → old ≡ count_where p (map row_view (take at rows))
    → new ≡ raised (p (row_view row)) old (row_view row).count → new ≡ count_where p (map row_view (take (at + 1) rows))
counted_more p rows at row old new within is before after =
    after ∙ ap (λ n. raised (p (row_view row)) n (row_view row).count) before ∙ sym (ap (count_where p) (views_more rows at row within is) ∙ count_more p (map row_view (take at rows)) (row_view row))

or_none : (b : Bool) → (b || false) ≡ b
or_none true = refl
or_none false = refl

-- whether one of the rows so far passes, and one more
pub passed_more : (p : RowView → Bool) (rows : List Row) (at : ℕ) (row : Row) (old new : Bool) → at < length rows → row ≡ get_or rows at row → old ≡ list_any p (map row_view (take at rows))
    → new ≡ (old || p (row_view row)) → new ≡ list_any p (map row_view (take (at + 1) rows))
passed_more p rows at row old new within is before after =
    after ∙ ap (λ b. b || p (row_view row)) before
    ∙ sym (ap (list_any p) (views_more rows at row within is) ∙ list_any-append p (map row_view (take at rows)) (row_view row ∷ []) ∙ ap (λ b. list_any p (map row_view (take at rows)) || b) (or_none (p (row_view row))))

-- how many of the branches so far leave a line, and one more
leaves-more : (line : ℕ) (branches : List Branch) (at : ℕ) (d : Branch) (old new : ℕ) → at < length branches → old ≡ min (count_by (leaves line) (take at branches)) 4294967295
    → (b : Bool) → leaves line (get_or branches at d) ≡ b → new ≡ raised b old 1 → new ≡ min (count_by (leaves line) (take (at + 1) branches)) 4294967295
leaves-more line branches at d old new within before true passed after =
    let added = count_by_more_yes (leaves line) branches at d within passed in omega (arith, before, after, added)
leaves-more line branches at d old new within before false fails after =
    let same = count_by_more_no (leaves line) branches at d within fails in omega (arith, before, after, same)

pub leaving_more : (line : ℕ) (branches : List Branch) (at : ℕ) (d : Branch) (old new : ℕ) → at < length branches → old ≡ min (count_by (leaves line) (take at branches)) 4294967295
    → new ≡ raised (leaves line (get_or branches at d)) old 1 → new ≡ min (count_by (leaves line) (take (at + 1) branches)) 4294967295
leaving_more line branches at d old new within before after = leaves-more line branches at d old new within before (leaves line (get_or branches at d)) refl after

passes-more : {X : Type 0} (p : X → Bool) (xs : List X) (at : ℕ) (d : X) (old one : ℕ) → at < length xs → old ≡ count_by p (take at xs) → (b : Bool) → p (get_or xs at d) ≡ b → one ≡ (if b then 1 else 0)
    → old + one ≡ count_by p (take (at + 1) xs)
passes-more p xs at d old one within before true passed after = let added = count_by_more_yes p xs at d within passed in omega (arith, before, after, added)
passes-more p xs at d old one within before false fails after = let same = count_by_more_no p xs at d within fails in omega (arith, before, after, same)

-- how many of the items so far pass, and one more
pub passing_more : {X : Type 0} (p : X → Bool) (xs : List X) (at : ℕ) (d : X) (old one : ℕ) → at < length xs → old ≡ count_by p (take at xs) → one ≡ (if p (get_or xs at d) then 1 else 0)
    → old + one ≡ count_by p (take (at + 1) xs)
passing_more p xs at d old one within before after = passes-more p xs at d old one within before (p (get_or xs at d)) refl after
