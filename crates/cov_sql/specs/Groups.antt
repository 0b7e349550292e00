-- Rows of data of lines in groups, each of one file and one context.
--     GroupView, group_view           a group; one as it is kept
--     line_in                         the line in a number
--     same_ids, is_of                 two groups are of one file and one context; a row is of a
--                                     group's
--     one_line, with_line             a group of one row; one with a row more
--     groups_from, groups             the groups of rows, where a group is begun; those of all rows
--     IsBlobOf                        a blob has the lines of a group
--     IsLine, AreLines                a row is of a line; rows are of lines, in order
use Rattle.std.specs.Prelude.{◌≡◌, ℕ, ℤ, pos, negsuc, ◌≤◌, Bool, cond, ◌&&◌, nat_le, List, [], ◌∷◌, ◌++◌}
use Rattle.std.specs.Ordering.{nat_cmp}
use Rattle.std.specs.List.{AllByRecursion}
use Rattle.std.specs.List.Sorted.{IsStrictlySortedBy}
use Rattle.cov_data.specs.DataSet.{most_number}
use Rattle.cov_data.specs.Numbits.{IsNumbits, lines_of_bits}
use Rattle.cov_data.specs.Rows.{distinct_in_order}
use Rattle.cov_tables.specs.Hits.{spot_cmp}
use Rattle.cov_tables.specs.Joins.{same_whole}
use Rattle.cov_sql.specs.declared.saved.SavedRow.{SavedRow}
use Rattle.cov_sql.specs.declared.saved.SavedBits.{SavedBits}
use Rattle.cov_sql.specs.declared.bits.Group.{Group}
use Rattle.cov_sql.specs.Blobs.{spot_of}

-- the lines of one file in one context
pub record GroupView : Type 0 where
  pub file_id : ℤ
  pub context_id : ℤ
  pub lines : List ℕ

-- what a group of the code stands for
abbrev pub group_view : Group → GroupView
group_view g = record { file_id = g.file_id; context_id = g.context_id; lines = g.lines.items }

-- 0 where there is none
abbrev pub line_in : ℤ → ℕ
line_in (pos n) = cond (nat_le n most_number) n 0
line_in (negsuc n) = 0

-- whether two groups are of one file and one context
abbrev pub same_ids : GroupView → GroupView → Bool
same_ids g h = same_whole g.file_id h.file_id && same_whole g.context_id h.context_id

-- whether a row is of the file and the context of a group
abbrev pub is_of : GroupView → SavedRow → Bool
is_of g r = same_whole g.file_id r.file_id && same_whole g.context_id r.context_id

-- the group of a row alone
abbrev pub one_line : SavedRow → GroupView
one_line r = record { file_id = r.file_id; context_id = r.context_id; lines = line_in r.from ∷ [] }

-- a group with the line of a row more
abbrev pub with_line : GroupView → SavedRow → GroupView
with_line g r = record {
  file_id = g.file_id;
  context_id = g.context_id;
  lines = g.lines ++ line_in r.from ∷ [];
}

-- the groups of rows after one that is begun
unfoldable pub groups_from : GroupView → List SavedRow → List GroupView
groups_from g [] = g ∷ []
groups_from g (r ∷ rs) = cond (is_of g r) (groups_from (with_line g r) rs)
    (g ∷ groups_from (one_line r) rs)

-- the groups of rows, where those of one group stand side by side
abbrev pub groups : List SavedRow → List GroupView
groups [] = []
groups (r ∷ rs) = groups_from (one_line r) rs

-- a blob has the lines of a group
pub record IsBlobOf (g : Group) (b : SavedBits) : Type 0 where
  pub file : b.file_id ≡ g.file_id
  pub context : b.context_id ≡ g.context_id
  pub packed : IsNumbits g.lines.items b.numbits.items
  pub back : lines_of_bits b.numbits.items ≡ distinct_in_order nat_cmp g.lines.items

-- a row is of one line, from 0 to the greatest
pub record IsLine (r : SavedRow) : Type 0 where
  pub line : ℕ
  pub from : r.from ≡ pos line
  pub to : r.to ≡ pos line
  pub within : line ≤ most_number

-- the rows are of lines, and rise
pub record AreLines (rows : List SavedRow) : Type 0 where
  pub rise : IsStrictlySortedBy (λ r s. spot_cmp (spot_of r) (spot_of s)) rows
  pub each : AllByRecursion IsLine rows
