-- The contents of a vault: a map from names to what each holds. A name is the bytes of its text.
use Rattle.std.specs.Prelude.{List, String, string_bytes}
use Rattle.std.specs.declared.alloc.Global.{Global}
use Rattle.std.specs.FinMap.{FinMap, from_entries}
use Rattle.cov_data.specs.DataSet.{text_cmp, rekeyed}
use Rattle.cov_vault.specs.declared.vault.Content.{Content}

-- what each name holds
abbrev pub Contents : Type 0
Contents = FinMap text_cmp Content

-- the contents of a list of names with what they hold. Of two pairs with one name the first counts
abbrev pub contents_of : List (String Global × Content) → Contents
contents_of pairs = from_entries (rekeyed string_bytes pairs)
