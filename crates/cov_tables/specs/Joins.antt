-- Rows joined by their ids.
--     same_whole                   whether two whole numbers are one
--     texts_of                     the texts of the rows with an id, as the paths of a file
--     arc_key, bits_key            a row of `arc` or of `line_bits` before it is joined
--     arc_entries, bits_entries    these rows, each with each of its paths and contexts
use Rattle.std.specs.Prelude.{ℤ, Bool, false, cond, List, [], map, Option, Some, None}
use Rattle.std.specs.List.{flat_map}
use Rattle.std.specs.Option.{option_to_list}
use Rattle.std.specs.Ordering.{is_eq, int_cmp}
use Rattle.cov_data.specs.DataSet.{Text}
use Rattle.cov_tables.specs.Fields.{Row, whole_at, text_at}
use Rattle.cov_tables.specs.Entries.{Column, neither, Entry, number_at, blob_at}

-- whether two whole numbers are one
abbrev pub same_whole : ℤ → ℤ → Bool
same_whole a b = is_eq (int_cmp a b)

-- whether it is this whole number
abbrev pub is_whole : ℤ → Option ℤ → Bool
is_whole a None = false
is_whole a (Some b) = same_whole a b

-- a row with another value there has no id, and one without a text names nothing
abbrev pub texts_with : ℤ → Row → List Text
texts_with id r = cond (is_whole id (whole_at r 0)) (option_to_list (text_at r 1)) []

-- the texts of the rows with an id
abbrev pub texts_of : List Row → ℤ → List Text
texts_of rs id = flat_map (texts_with id) rs

-- a row before it is joined, if its two ids are whole numbers
pub record Key : Type 0 where
  pub file : ℤ
  pub context : ℤ
  pub first : Column
  pub second : Column

-- the key of two ids and two columns, where both ids are there
abbrev pub key_with : Option ℤ → Option ℤ → Column → Column → Option Key
key_with None context a b = None
key_with (Some f) None a b = None
key_with (Some f) (Some c) a b = Some (record { file = f; context = c; first = a; second = b })

-- a row of `arc` before it is joined
abbrev pub arc_key : Row → Option Key
arc_key r = key_with (whole_at r 0) (whole_at r 1) (number_at r 2) (number_at r 3)

-- a row of `line_bits` before it is joined
abbrev pub bits_key : Row → Option Key
bits_key r = key_with (whole_at r 0) (whole_at r 1) (blob_at r 2) neither

-- a key with its path and the text of its context
abbrev pub entry : Key → Text → Text → Entry
entry k path label = record {
  file = k.file;
  context = k.context;
  first = k.first;
  second = k.second;
  path = path;
  label = label;
}

-- a key with each of its paths and contexts
abbrev pub joined : Key → List Text → List Text → List Entry
joined k paths labels = flat_map (λ p. map (entry k p) labels) paths

-- the same, where there is a key
abbrev pub joined_if : Option Key → (ℤ → List Text) → (ℤ → List Text) → List Entry
joined_if None paths labels = []
joined_if (Some k) paths labels = joined k (paths k.file) (labels k.context)

-- the rows of `arc`, each with each of its paths and contexts
abbrev pub arc_entries : (files contexts arcs : List Row) → List Entry
arc_entries files contexts arcs =
    flat_map (λ r. joined_if (arc_key r) (texts_of files) (texts_of contexts)) arcs

-- the rows of `line_bits`, each with each of its paths and contexts
abbrev pub bits_entries : (files contexts bits : List Row) → List Entry
bits_entries files contexts bits =
    flat_map (λ r. joined_if (bits_key r) (texts_of files) (texts_of contexts)) bits
