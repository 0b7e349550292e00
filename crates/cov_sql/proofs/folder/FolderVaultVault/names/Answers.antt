use Rattle.std.proofs.Common.{arith, refl, string_bytes}
use Rattle.cov_data.specs.DataSet.{text_cmp}
use Rattle.cov_sql.proofs.VaultCalls.{IsSorted-map}
use Rattle.cov_sql.proofs.folder.FolderVaultVault.names.Goals as goal

pub returns-in-Ok-clause-moved : goal.returns-in-Ok-clause-moved
returns-in-Ok-clause-moved c = record {
  in_order = IsSorted-map text_cmp string_bytes c.in-Ok.names.items c.in-Ok.ensures;
  not_absent = λ is. absurd cc;
  not_schema = λ is. absurd cc;
  not_bad_row = λ row is. absurd cc;
  call = record { same = refl; counts = record { count = omega arith; refused = λ is. absurd cc } };
}
