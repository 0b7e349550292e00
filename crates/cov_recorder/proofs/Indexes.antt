-- Numbers by labels, as a finite map over the tree that holds them.
use Rattle.std.proofs.Common.{◌≡◌, ℕ, List, String, string_bytes, ap, ◌∙◌}
use Rattle.std.specs.Ordering.{is_eq}
use Rattle.std.specs.Map.{lookup}
use Rattle.std.specs.String.{string_cmp}
use Rattle.std.specs.BTreeMap.{insert_entry}
use Rattle.std.specs.FinMap.{get, insert, from_entries, get-from_entries}
use Rattle.cov_data.specs.DataSet.{Text, text_cmp, rekeyed}
use Rattle.cov_data.proofs.MapViews.{find-rekeyed, rekeyed-insert_entry, from_entries-put}
use Rattle.cov_data.proofs.FileViews.{text_cmp_total, text_cmp_same}
use Rattle.cov_recorder.specs.Counters.{numbers_from}

module _ {Y : Type 0} where
  pub get-numbers_from : (es : List (String Y × ℕ)) (q : Text) → get (numbers_from es) q ≡ lookup (λ k. is_eq (text_cmp q (string_bytes k))) es
  get-numbers_from es q = get-from_entries text_cmp_total _ _ ∙ find-rekeyed text_cmp string_bytes q es

  pub numbers_from-insert_entry : (k : String Y) (n : ℕ) (es : List (String Y × ℕ)) → numbers_from (insert_entry string_cmp es k n) ≡ insert (numbers_from es) (string_bytes k) n
  numbers_from-insert_entry k n es = ap from_entries (rekeyed-insert_entry text_cmp string_bytes k n es) ∙ from_entries-put text_cmp_total text_cmp_same (string_bytes k) n (rekeyed string_bytes es)
