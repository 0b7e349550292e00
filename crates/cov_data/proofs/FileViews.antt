-- The orders of texts, of pairs of numbers and of places.
use Rattle.std.specs.Ordering.{int_cmp, ordering_then}
use Rattle.std.specs.Cmp.{IsTotalOrder, then_total, on_total, int_cmp_total}
use Rattle.std.specs.Cmp.Lexicographic.{nat_list_cmp_total}
use Rattle.std.specs.FinMap.{IsAntisymmetric}
use Rattle.std.proofs.lemmas.Map.Lookups.{exact_pairs, exact_bytes, exact_signed}
use Rattle.cov_data.specs.DataSet.{place_cmp, text_cmp}
use Rattle.cov_data.specs.Rows.{arc_cmp}

pub text_cmp_total : IsTotalOrder text_cmp
text_cmp_total = nat_list_cmp_total

pub text_cmp_same : IsAntisymmetric text_cmp
text_cmp_same = exact_bytes

pub arc_cmp_total : IsTotalOrder arc_cmp
arc_cmp_total = then_total (on_total (λ p. p.0) int_cmp_total) (on_total (λ p. p.1) int_cmp_total)

pub arc_cmp_same : IsAntisymmetric arc_cmp
arc_cmp_same = exact_pairs int_cmp int_cmp exact_signed exact_signed

pub place_cmp_total : IsTotalOrder place_cmp
place_cmp_total = then_total (on_total (λ p. p.0) nat_list_cmp_total) (then_total (on_total (λ p. p.1.0) int_cmp_total) (on_total (λ p. p.1.1) int_cmp_total))

pub place_cmp_same : IsAntisymmetric place_cmp
place_cmp_same = exact_pairs text_cmp (λ x y. ordering_then (int_cmp x.0 y.0) (int_cmp x.1 y.1)) exact_bytes (exact_pairs int_cmp int_cmp exact_signed exact_signed)
