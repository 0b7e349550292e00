-- The law of entries in order.
use Rattle.std.specs.Prelude.{◌≡◌, ◌↔◌, List}
use Rattle.cov_tables.specs.Entries.{Entry, entry_cmp}
use Rattle.cov_tables.specs.Order.{IsInOrder, in_order}

-- entries in order are the one list that is sorted and a permutation of them
abbrev pub InOrderLaw : Type 0
InOrderLaw =
    (es list : List Entry) → (list ≡ in_order entry_cmp es) ↔ IsInOrder entry_cmp es list
