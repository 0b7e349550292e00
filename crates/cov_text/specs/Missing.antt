-- What stands in the column `Missing`. (coverage.py documentation, "Reporting": `report -m`)
--     Item, item_cmp, in_order      a first line, its text and its end; by line, then by the bytes
--                                   of the text
--     runs, range_items             missing lines without other statements between them, as `5-11`
--     is_listed, branch_items       branches whose ends aren't missing, as `2->9` or `2->exit`
--     missing_text                  the items in order, with `, ` between them
use Rattle.std.specs.Prelude.{ℕ, ℤ, pos, negsuc, Bool, true, not, ◌&&◌, List, [], ◌∷◌, ◌++◌, map, filter, length, fold, flat_map, codes, decimal, slice_index_or}
use Rattle.std.specs.declared.cmp.Ordering.{Ordering}
use Rattle.std.specs.Ordering.{nat_cmp, int_cmp, ordering_then}
use Rattle.std.specs.Cmp.Lexicographic.{slice_cmp}
use Rattle.std.specs.List.{slice_split, join_by}
use Rattle.std.specs.BTreeSet.{insert_key}
use Rattle.cov_analysis.specs.Analyses.{AnalysisView}
use Rattle.cov_analysis.specs.Branches.{Branch}
use Rattle.cov_analysis.specs.Lines.{is_among}

-- a first line, a text, and where a branch goes, which tells two exits of one line apart
abbrev pub Item : Type 0
Item = ℕ × List ℕ × ℤ

-- the order of items: by line, then by the bytes of the text, then by the end
abbrev pub item_cmp : Item → Item → Ordering
item_cmp a b =
    ordering_then (ordering_then (nat_cmp a.0 b.0) (slice_cmp nat_cmp a.1 b.1)) (int_cmp a.2 b.2)

-- further items, each once and at its place in the order
abbrev pub with_items : List Item → List Item → List Item
with_items items more = fold (insert_key item_cmp) items more

-- items each once, in order
abbrev pub in_order : List Item → List Item
in_order items = with_items [] items

-- the statements between those that aren't missing
abbrev pub runs : (ℕ → Bool) → List ℕ → List (List ℕ)
runs is_missing statements = slice_split (λ line. not (is_missing line)) statements

-- a run as its first and its last line, or as the only one
abbrev pub run_items : List ℕ → List Item
run_items [] = []
run_items (line ∷ []) = (line, decimal line, pos 0) ∷ []
run_items (first ∷ second ∷ rest) =
    let last = slice_index_or (second ∷ rest) (length rest) first in
    (first, decimal first ++ (codes "-" ++ decimal last), pos 0) ∷ []

-- the missing statements as ranges
abbrev pub range_items : (ℕ → Bool) → List ℕ → List Item
range_items is_missing statements = flat_map run_items (runs is_missing statements)

-- whether where a branch goes is no missing line: the outside is none
abbrev pub goes_on : (ℕ → Bool) → ℤ → Bool
goes_on is_missing (pos line) = not (is_missing line)
goes_on is_missing (negsuc n) = true

-- whether neither end is a missing line
abbrev pub is_listed : (ℕ → Bool) → Branch → Bool
is_listed is_missing branch = not (is_missing branch.0) && goes_on is_missing branch.1

-- where a branch goes: a line, or out of the function or the module
abbrev pub end_text : ℤ → List ℕ
end_text (pos line) = decimal line
end_text (negsuc n) = codes "exit"

-- a branch as an item
abbrev pub branch_item : Branch → Item
branch_item branch = (branch.0, decimal branch.0 ++ (codes "->" ++ end_text branch.1), branch.1)

-- the missing branches that are listed
abbrev pub branch_items : (ℕ → Bool) → List Branch → List Item
branch_items is_missing branches = map branch_item (filter (is_listed is_missing) branches)

-- the items of a file
abbrev pub items_in : AnalysisView → List Item
items_in file =
    let is_missing = is_among file.missing in
    let ranges = range_items is_missing file.statements in
    in_order (ranges ++ branch_items is_missing file.missing_branches)

-- the texts, with `, ` between them
abbrev pub joined : List Item → List ℕ
joined items = join_by (λ item. item.1) (codes ", ") items

-- what stands in the column of a file
abbrev pub missing_text : AnalysisView → List ℕ
missing_text file = joined (items_in file)
