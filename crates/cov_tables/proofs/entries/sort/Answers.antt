use Rattle.std.proofs.Common.{◌≡◌, ◌+◌, get_or, refl, ap, sym, ◌∙◌}
use Rattle.std.specs.Ordering.{int_cmp, ordering_then, is_lt}
use Rattle.std.proofs.lemmas.Result.{on_ok_weaker}
use Rattle.cov_data.specs.DataSet.{text_cmp}
use Rattle.cov_tables.specs.declared.entries.Column.{Column}
use Rattle.cov_tables.specs.declared.entries.Column.TheVariants.{Int, Blob, Other}
use Rattle.cov_tables.specs.declared.entries.Entry.{Entry}
use Rattle.cov_tables.specs.contracts.entries.EntryOrd.TheImpl.{ghosts}
use Rattle.cov_tables.specs.contracts.entries.ColumnOrd.TheImpl as columns
use Rattle.cov_tables.specs.Entries.{column_view, column_cmp, entry_view, entry_cmp}
use Rattle.cov_tables.proofs.InOrder.{sorted-read}
use Rattle.cov_tables.proofs.Columns.{entry_cmp-total, entry_cmp-same}
use Rattle.cov_tables.proofs.entries.sort.Goals as goal

-- the derived order is the one of the definitions
column_alike : (a b : Column) → columns.ghosts.cmp a b ≡ column_cmp (column_view a) (column_view b)
column_alike (Int m) (Int n) = refl
column_alike (Int m) (Blob w) = refl
column_alike (Int m) Other = refl
column_alike (Blob v) (Int n) = refl
column_alike (Blob v) (Blob w) = refl
column_alike (Blob v) Other = refl
column_alike Other (Int n) = refl
column_alike Other (Blob w) = refl
column_alike Other Other = refl

entry_alike : (a b : Entry) → ghosts.cmp a b ≡ entry_cmp (entry_view a) (entry_view b)
entry_alike a b = λ i. ordering_then (int_cmp a.file_id b.file_id) (ordering_then (int_cmp a.context_id b.context_id) (ordering_then (column_alike a.first b.first i)
    (ordering_then (column_alike a.second b.second i) (ordering_then (text_cmp a.path.now b.path.now) (text_cmp a.context.now b.context.now)))))

pub returns : goal.returns
returns c = on_ok_weaker c.sort.result (λ up. sorted-read entry_cmp entry_cmp-total entry_cmp-same entry_view c.args.entries.now.items c.sort.new.self.items c.sort.ensures.permutation
    (λ k d low high. ap is_lt (sym (entry_alike (get_or c.sort.new.self.items (k + 1) d) (get_or c.sort.new.self.items k d))) ∙ up k d low high)) c.sort.ensures.sorted
