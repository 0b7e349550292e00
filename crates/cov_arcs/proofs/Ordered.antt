-- Lists of arcs with the same elements are the same list once they are in order, each arc once.
use Rattle.std.proofs.Common.{◌≡◌, Bool, true, false, cond, List, [], ◌∷◌, map, Option, Some, ℤ, refl, ap, sym, subst, ◌∙◌}
use Rattle.std.specs.declared.cmp.Ordering.TheVariants.{Less, Equal, Greater}
use Rattle.std.specs.Prelude.{T, ◌||◌}
use Rattle.std.specs.Ordering.{eq_by_cmp, match_ordering, int_cmp}
use Rattle.std.specs.Cmp.{IsTotalOrder, then_total, on_total}
use Rattle.std.proofs.lemmas.Cmp.{int_cmp_total}
use Rattle.std.proofs.lemmas.Map.Lookups.{exact_pairs}
use Rattle.std.specs.List.{list_any}
use Rattle.std.specs.BTreeSet.{insert_key}
use Rattle.std.specs.FinMap.{IsAntisymmetric, find, put, is_sorted, int_cmp-IsAntisymmetric}
use Rattle.std.specs.FinMap.Entries.{by_order, is_sorted-put, find-put, same_entries}
use Rattle.py_meaning.specs.Crossings.{by_lines, ordered}

by_lines-total : IsTotalOrder by_lines
by_lines-total = then_total (on_total (λ a. a.0) int_cmp_total) (on_total (λ a. a.1) int_cmp_total)

by_lines-same : IsAntisymmetric by_lines
by_lines-same = exact_pairs int_cmp int_cmp int_cmp-IsAntisymmetric int_cmp-IsAntisymmetric

-- a list as the entries of a set
abbrev marked : List (ℤ × ℤ) → List ((ℤ × ℤ) × Unit {0})
marked arcs = map (λ a. (a, tt)) arcs

unmarked : (arcs : List (ℤ × ℤ)) → map (λ e. e.0) (marked arcs) ≡ arcs
unmarked [] = refl
unmarked (a ∷ arcs) = ap (λ rest. a ∷ rest) (unmarked arcs)

marked-insert : (a : ℤ × ℤ) (arcs : List (ℤ × ℤ)) → marked (insert_key by_lines arcs a) ≡ put by_lines a tt (marked arcs)
marked-insert a [] = refl
marked-insert a (b ∷ arcs) =
    elim (by_lines a b) as (λ r. marked (match_ordering r (a ∷ b ∷ arcs) (b ∷ arcs) (b ∷ insert_key by_lines arcs a)) ≡ by_order r ((a, tt) ∷ marked (b ∷ arcs)) ((b, tt) ∷ marked arcs) ((b, tt) ∷ put by_lines a tt (marked arcs))) [
      | Less ↦ refl
      | Equal ↦ refl
      | Greater ↦ ap (λ es. (b, tt) ∷ es) (marked-insert a arcs)
    ]

abbrev Rises : List (ℤ × ℤ) → Type 0
Rises arcs = T (is_sorted by_lines (marked arcs))

ordered-rises : (arcs found : List (ℤ × ℤ)) → Rises found → Rises (ordered found arcs)
unfolding ordered
ordered-rises [] found h = h
ordered-rises (a ∷ arcs) found h =
    ordered-rises arcs (insert_key by_lines found a) (subst (λ es. T (is_sorted by_lines es)) (sym (marked-insert a found)) (is_sorted-put by_lines by_lines-total a tt (marked found) h))

present : Bool → Option (Unit {0}) → Option (Unit {0})
present b o = cond b (Some tt) o

present-or : (a b : Bool) (o : Option (Unit {0})) → present b (present a o) ≡ present (a || b) o
unfolding present
present-or true true o = refl
present-or true false o = refl
present-or false b o = refl

find-ordered : (q : ℤ × ℤ) (arcs found : List (ℤ × ℤ)) → find by_lines q (marked (ordered found arcs)) ≡ present (list_any (eq_by_cmp by_lines q) arcs) (find by_lines q (marked found))
unfolding present ordered
find-ordered q [] found = refl
find-ordered q (a ∷ arcs) found =
    find-ordered q arcs (insert_key by_lines found a)
    ∙ ap (present (list_any (eq_by_cmp by_lines q) arcs)) (ap (find by_lines q) (marked-insert a found) ∙ find-put by_lines by_lines-total q a tt (marked found))
    ∙ present-or (eq_by_cmp by_lines q a) (list_any (eq_by_cmp by_lines q) arcs) (find by_lines q (marked found))

pub same-in_order : (xs ys : List (ℤ × ℤ)) → ((p : ℤ × ℤ → Bool) → list_any p xs ≡ list_any p ys) → ordered [] xs ≡ ordered [] ys
same-in_order xs ys alike =
    sym (unmarked (ordered [] xs))
    ∙ ap (λ es. map (λ e. e.0) es) (same_entries by_lines by_lines-total by_lines-same (marked (ordered [] xs)) (marked (ordered [] ys)) (ordered-rises xs [] tt) (ordered-rises ys [] tt)
    (λ q. find-ordered q xs [] ∙ ap (λ b. present b (find by_lines q [])) (alike (eq_by_cmp by_lines q)) ∙ sym (find-ordered q ys [])))
    ∙ unmarked (ordered [] ys)
