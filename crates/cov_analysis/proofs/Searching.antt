-- What a search in rising lines finds.
use Rattle.std.proofs.Common.{◌≡◌, ℕ, ◌<◌, List, Result, Ok, Err, length, get_or, sym, arith, ⊎_elim}
use Rattle.std.specs.Prelude.{is_ok, nat_eq}
use Rattle.std.specs.List.Sorted.{IsBinarySearchResult}
use Rattle.std.specs.Ordering.{nat_cmp}
use Rattle.std.proofs.lemmas.Bool.{eq-eqb, ne_eqb, cases_lt}
use Rattle.std.proofs.lemmas.List.{get_or_default}
use Rattle.std.proofs.lemmas.List.Folds.{list_any_at, list_any_none}
use Rattle.std.proofs.lemmas.List.Sorted.{searched}
use Rattle.std.proofs.lemmas.Map.Keys.{non_decreasing_from_sorted}
use Rattle.cov_exclude.specs.Touched.{IsRising}
use Rattle.cov_analysis.specs.Lines.{is_among}

pub found : (xs : List ℕ) (x : ℕ) (r : Result ℕ ℕ) → IsRising xs → IsBinarySearchResult (λ y. nat_cmp y x) xs r → is_ok r ≡ is_among xs x
found xs x (Ok at) rises h =
    let there : (at < length xs) × (get_or xs at 0 ≡ x) = searched xs x (Ok at) h (λ i j le lt. non_decreasing_from_sorted xs rises.rises i j 0 le lt) in
    sym (list_any_at (nat_eq x) xs at 0 there.0 (eq-eqb x (get_or xs at 0) (sym there.1)))
found xs x (Err at) rises h =
    let apart = searched xs x (Err at) h (λ i j le lt. non_decreasing_from_sorted xs rises.rises i j 0 le lt) in
    sym (list_any_none (nat_eq x) xs (λ k d lt. ne_eqb x (get_or xs k d) (λ e.
    ⊎_elim
    (λ below. omega (arith, apart.1 k below, e, get_or_default xs k d 0 lt))
    (λ above. omega (arith, apart.2 k above lt, e, get_or_default xs k d 0 lt))
    (cases_lt k at))))
