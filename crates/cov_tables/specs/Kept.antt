-- What the code keeps, as definitions see it.
--     texts_at                   the texts of an id
--     kept_at, count_at          the count of a spot, if any was read; and else 1
--     kept_after                 what is kept after a row more
--     key_view, seen, texts      keys, entries and texts
--     arcs_named, bits_named     rows with the texts of their ids, in order
use Rattle.std.specs.Prelude.{ℕ, ℤ, cond, List, [], ◌∷◌, map, Option, Some, None, String, string_bytes, Vec}
use Rattle.std.specs.declared.alloc.Global.{Global}
use Rattle.std.specs.List.{flat_map}
use Rattle.std.specs.Option.{unwrap_or}
use Rattle.std.specs.Ordering.{is_eq, int_cmp}
use Rattle.std.specs.BTreeMap.{get}
use Rattle.cov_data.specs.DataSet.{Text}
use Rattle.cov_tables.specs.Fields.{Row}
use Rattle.cov_tables.specs.Joins.{Key, arc_key, bits_key, joined_if}
use Rattle.cov_tables.specs.Order.{in_order}
use Rattle.cov_tables.specs.declared.entries.Entry.{Entry as StoredEntry}
use Rattle.cov_tables.specs.Entries.{column_view, Entry, entry_view, entry_cmp}
use Rattle.cov_tables.specs.Hits.{Spot, spot_cmp, counted}
use Rattle.cov_tables.specs.declared.names.Names.{Names}
use Rattle.cov_tables.specs.declared.hits.Hits.{Hits}
use Rattle.cov_tables.specs.declared.entries.Key.{Key as StoredKey}

-- the texts that are kept, if any
abbrev pub texts_in : Option (Vec (String Global) Global) → List Text
texts_in None = []
texts_in (Some v) = map string_bytes v.items

-- the texts of an id
abbrev pub texts_at : Names → ℤ → List Text
texts_at names id = texts_in (get int_cmp names.texts id)

-- the count that is kept of a spot
abbrev pub kept_at : Hits → Spot → Option ℕ
kept_at hits s = get spot_cmp hits.counts s

-- a second row makes the count 1
abbrev pub with_count : Option ℕ → ℕ → ℕ
with_count None n = n
with_count (Some m) n = 1

-- what a list of counts makes of the one that is kept
abbrev pub with_counts : Option ℕ → List (Option ℤ) → Option ℕ
with_counts o [] = o
with_counts o (c ∷ cs) = Some (with_count o (counted c))

-- the count of a spot: 1 where none is kept
abbrev pub count_at : Hits → Spot → ℕ
count_at hits s = unwrap_or (kept_at hits s) 1

-- what a key of the code stands for
abbrev pub key_view : StoredKey → Key
key_view k = record {
  file = k.file_id;
  context = k.context_id;
  first = column_view k.first;
  second = column_view k.second;
}

-- entries and texts, as definitions see them
abbrev pub seen : List StoredEntry → List Entry
seen es = map entry_view es

-- the bytes of texts
abbrev pub texts : List (String Global) → List Text
texts ss = map string_bytes ss

-- rows of `arc` with the texts of their ids, in order
abbrev pub arcs_named : Names → Names → List Row → List Entry
arcs_named files contexts rs =
    in_order entry_cmp
    (flat_map (λ r. joined_if (arc_key r) (texts_at files) (texts_at contexts)) rs)

-- the same of rows of `line_bits`
abbrev pub bits_named : Names → Names → List Row → List Entry
bits_named files contexts rs =
    in_order entry_cmp
    (flat_map (λ r. joined_if (bits_key r) (texts_at files) (texts_at contexts)) rs)

-- what is kept of a spot, after a row of another one
abbrev pub kept_after : Hits → Spot → ℕ → Spot → Option ℕ
kept_after hits s count other =
    cond (is_eq (spot_cmp other s)) (Some (with_count (kept_at hits s) count))
    (kept_at hits other)
