-- What the tree of rules stands for, and the rules as they are given.
use Rattle.std.specs.Prelude.{cond, List, map, String, Vec, string_bytes}
use Rattle.std.specs.FinMap.{from_entries, contains_key, insert}
use Rattle.cov_data.specs.DataSet.{Text, rekeyed}
use Rattle.cov_combine.specs.Aliases.{Rule, Rules}

-- the rules of the entries of a tree
abbrev pub rules_by_name : {Y : Type 0} → List (String Y × Rule) → Rules
rules_by_name es = from_entries (rekeyed string_bytes es)

-- a rule more, unless there is one of that name
abbrev pub with_first : Rules → Text → Rule → Rules
with_first m name r = cond (contains_key m name) m (insert m name r)

-- a rule's name and its texts as bytes
abbrev pub given_view : {Y Z W : Type 0} → String Y × Vec (String Z) W → Text × List Text
given_view g = (string_bytes g.0, map string_bytes g.1.items)
