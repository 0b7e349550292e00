-- The order of columns and of entries is total, and only equal ones tie.
use Rattle.std.proofs.Common.{◌≡◌, ℕ, ℤ, pos, List, [], refl, ap, subst}
use Rattle.std.specs.declared.cmp.Ordering.{Ordering}
use Rattle.std.specs.declared.cmp.Ordering.TheVariants.{Less, Equal, Greater}
use Rattle.std.specs.Ordering.{nat_cmp, int_cmp, ordering_then}
use Rattle.std.specs.Cmp.{IsTotalOrder, then_total, on_total, int_cmp_total, nat_cmp_total}
use Rattle.std.specs.Cmp.Lexicographic.{slice_cmp, nat_list_cmp_total}
use Rattle.std.specs.FinMap.{IsAntisymmetric}
use Rattle.std.proofs.lemmas.Map.Lookups.{exact_bytes, exact_signed}
use Rattle.cov_tables.specs.Entries.{Column, number, bits, neither, column_cmp, entry_cmp}

rank : Column → ℕ
rank (number n) = 0
rank (bits b) = 1
rank neither = 2

value : Column → ℤ
value (number n) = n
value (bits b) = pos 0
value neither = pos 0

bytes : Column → List ℕ
bytes (number n) = []
bytes (bits b) = b
bytes neither = []

by_parts : Column → Column → Ordering
by_parts a b = ordering_then (nat_cmp (rank a) (rank b)) (ordering_then (int_cmp (value a) (value b)) (slice_cmp nat_cmp (bytes a) (bytes b)))

then_Equal : (r : Ordering) → ordering_then r Equal ≡ r
then_Equal Less = refl
then_Equal Equal = refl
then_Equal Greater = refl

by_parts-is : (a b : Column) → by_parts a b ≡ column_cmp a b
unfolding by_parts rank value bytes
by_parts-is (number a) (number b) = then_Equal (int_cmp a b)
by_parts-is (number a) (bits b) = refl
by_parts-is (number a) neither = refl
by_parts-is (bits a) (number b) = refl
by_parts-is (bits a) (bits b) = refl
by_parts-is (bits a) neither = refl
by_parts-is neither (number b) = refl
by_parts-is neither (bits b) = refl
by_parts-is neither neither = refl

by_parts-total : IsTotalOrder by_parts
unfolding by_parts
by_parts-total = then_total (on_total rank nat_cmp_total) (then_total (on_total value int_cmp_total) (on_total bytes nat_list_cmp_total))

pub column_cmp-total : IsTotalOrder column_cmp
column_cmp-total = subst IsTotalOrder (λ i a b. by_parts-is a b i) by_parts-total

pub column_cmp-same : IsAntisymmetric column_cmp
column_cmp-same (number a) (number b) h = ap number (exact_signed a b h)
column_cmp-same (number a) (bits b) h = absurd cc
column_cmp-same (number a) neither h = absurd cc
column_cmp-same (bits a) (number b) h = absurd cc
column_cmp-same (bits a) (bits b) h = ap bits (exact_bytes a b h)
column_cmp-same (bits a) neither h = absurd cc
column_cmp-same neither (number b) h = absurd cc
column_cmp-same neither (bits b) h = absurd cc
column_cmp-same neither neither h = refl

pub entry_cmp-total : IsTotalOrder entry_cmp
entry_cmp-total = then_total (on_total (λ e. e.file) int_cmp_total) (then_total (on_total (λ e. e.context) int_cmp_total) (then_total (on_total (λ e. e.first) column_cmp-total)
    (then_total (on_total (λ e. e.second) column_cmp-total) (then_total (on_total (λ e. e.path) nat_list_cmp_total) (on_total (λ e. e.label) nat_list_cmp_total)))))

pub both_Equal : (a b : Ordering) → ordering_then a b ≡ Equal → (a ≡ Equal) × (b ≡ Equal)
both_Equal Less b e = absurd cc
both_Equal Equal b e = (refl, e)
both_Equal Greater b e = absurd cc

pub entry_cmp-same : IsAntisymmetric entry_cmp
entry_cmp-same x y e =
    let a = both_Equal _ _ e in
    let b = both_Equal _ _ a.1 in
    let c = both_Equal _ _ b.1 in
    let d = both_Equal _ _ c.1 in
    let f = both_Equal _ _ d.1 in
    let file = exact_signed _ _ a.0 in
    let context = exact_signed _ _ b.0 in
    let first = column_cmp-same _ _ c.0 in
    let second = column_cmp-same _ _ d.0 in
    let path = exact_bytes _ _ f.0 in
    let label = exact_bytes _ _ f.1 in
    λ i. record { file = file i; context = context i; first = first i; second = second i; path = path i; label = label i }
