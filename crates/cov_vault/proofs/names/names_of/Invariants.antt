use Rattle.std.proofs.Common.{◌≡◌, map, drop, string_bytes}
use Rattle.std.specs.List.{fold}
use Rattle.std.specs.BTreeSet.{insert_key}
use Rattle.cov_data.specs.DataSet.{text_cmp}
use Rattle.cov_data.specs.Rows.{distinct_in_order}
use Rattle.cov_vault.proofs.names.names_of.Given as goal

abbrev pub invariant-loop-pair : goal.invariant-loop-pair
invariant-loop-pair g l =
    fold (insert_key text_cmp) (map string_bytes l.names.keys) (map (λ e. string_bytes e.0) (drop l.pair-index l.pairs)) ≡ distinct_in_order text_cmp (map (λ e. string_bytes e.0) l.pairs)
