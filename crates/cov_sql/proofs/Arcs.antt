-- What is read of the rows of `arc` that are kept of data of arcs.
--     less_then, is_true, a_row     orders by four parts; a test that holds; a row by its parts
--     arcs_content                  the tables hold the data
use Rattle.std.proofs.Common.{◌≡◌, ◌≢◌, ℕ, ◌-◌, ℤ, pos, negsuc, Bool, true, false, cond, not, List, [], ◌∷◌, ◌++◌, map, refl, ap, subst, ◌∙◌, arith, lt-ltb, ne_eqb, leb→le}
use Rattle.std.specs.Prelude.{T, ◌&&◌, ◌||◌, nat_le}
use Rattle.std.specs.declared.cmp.Ordering.{Ordering}
use Rattle.std.specs.declared.cmp.Ordering.TheVariants.{Less, Equal, Greater}
use Rattle.std.specs.Ordering.{int_cmp, ordering_then}
use Rattle.std.specs.List.{AllByRecursion, AllZip, fold, flat_map}
use Rattle.cov_data.specs.DataSet.{most_number, Text, text_cmp, DataSet, no_data, with_path, IsNumber, IsSound}
use Rattle.cov_data.specs.Rows.{RowView, paths_of, rows_of}
use Rattle.cov_vault.specs.declared.vault.Content.TheVariants.{Good}
use Rattle.cov_tables.specs.Entries.{number, Entry, entry_cmp}
use Rattle.cov_tables.specs.Hits.{Spot, spot_cmp, count_of}
use Rattle.cov_tables.specs.Joins.{texts_of, arc_key, joined, joined_if, arc_entries}
use Rattle.cov_tables.specs.Order.{in_order}
use Rattle.cov_tables.specs.Content.{is_within, is_bad_arc, is_zero, row_with, arc_rows, read_entries, paths_only, content}
use Rattle.cov_tables.proofs.Columns.{entry_cmp-total, entry_cmp-same}
use Rattle.cov_sql.specs.declared.saved.SavedRow.{SavedRow}
use Rattle.cov_sql.specs.declared.saved.SavedBits.{SavedBits}
use Rattle.cov_sql.specs.SavedData.{contexts_in, IsSavedRow}
use Rattle.cov_sql.specs.Blobs.{spot_of}
use Rattle.cov_sql.proofs.Rising.{Rise, in_order-rise}
use Rattle.cov_sql.proofs.RowOrder.{rows_rise, paths_rise, contexts_rise, IsSoundRow, rows_sound}
use Rattle.cov_sql.proofs.KeptOrder.{kept_cmp, kept_rise}
use Rattle.cov_sql.proofs.Again.{made_again}
use Rattle.cov_sql.proofs.Numbered.{numbered_fields, paths_numbered, texts_numbered}
use Rattle.cov_sql.proofs.Places.{arc_fields, hits_fields, kept, each_counted, IsRowAt, rows_at, read_so}

pub less_then : (a b c d x : Ordering) → ordering_then a (ordering_then b (ordering_then c d)) ≡ Less → ordering_then a (ordering_then b (ordering_then c (ordering_then d x))) ≡ Less
less_then Less b c d x h = refl
less_then Equal Less c d x h = refl
less_then Equal Equal Less d x h = refl
less_then Equal Equal Equal d x h = ap (λ r. ordering_then r x) h
less_then Equal Equal Greater d x h = h
less_then Equal Greater c d x h = h
less_then Greater b c d x h = h

pub is_true : (b : Bool) → T b → b ≡ true
is_true true h = refl
is_true false h = absurd h

abbrev pub a_row : Text → Text → ℤ → ℤ → ℕ → RowView
a_row path context from to count = record { path = path; context = context; from = from; to = to; count = count }

within : (z : ℤ) → IsNumber z → is_within z ≡ true
within (pos n) h = is_true (nat_le n most_number) h.2.le
within (negsuc n) h = let low = leb→le n (most_number - 1) h.1.le in lt-ltb n most_number (omega (arith, low))

not_zero : (z : ℤ) → z ≢ pos 0 → is_zero z ≡ false
not_zero (pos n) h = ne_eqb n 0 (λ e. h (ap pos e))
not_zero (negsuc n) h = refl

-- ---- the entry of a row

abbrev entry_at : RowView → Spot → Entry
entry_at r q = record { file = q.file_id; context = q.context_id; first = number q.from; second = number q.to; path = r.path; label = r.context }

abbrev entries_at : List RowView → List Spot → List Entry
entries_at [] qs = []
entries_at (r ∷ rs) [] = []
entries_at (r ∷ rs) (q ∷ qs) = entry_at r q ∷ entries_at rs qs

entry_less : (r s : RowView) (p q : Spot) → spot_cmp p q ≡ Less → entry_cmp (entry_at r p) (entry_at s q) ≡ Less
entry_less r s p q lt =
    less_then (int_cmp p.file_id q.file_id) (int_cmp p.context_id q.context_id) (int_cmp p.from q.from) (int_cmp p.to q.to)
    (ordering_then (text_cmp r.path s.path) (text_cmp r.context s.context)) lt

entries_below : (r : RowView) (s : SavedRow) (rs : List RowView) (ss : List SavedRow) → AllByRecursion (λ t. kept_cmp s t ≡ Less) ss
    → AllByRecursion (λ e. entry_cmp (entry_at r (spot_of s)) e ≡ Less) (entries_at rs (map spot_of ss))
entries_below r s [] ss h = tt
entries_below r s (q ∷ rs) [] h = tt
entries_below r s (q ∷ rs) (t ∷ ss) h = (entry_less r q (spot_of s) (spot_of t) h.0, entries_below r s rs ss h.1)

entries_rise : (rs : List RowView) (ss : List SavedRow) → Rise kept_cmp ss → Rise entry_cmp (entries_at rs (map spot_of ss))
entries_rise [] ss h = tt
entries_rise (r ∷ rs) [] h = tt
entries_rise (r ∷ rs) (s ∷ ss) h = (entries_below r s rs ss h.0, entries_rise rs ss h.1)

module _ (ps cs : List Text) (counts : Spot → ℕ) where
  abbrev Stands : RowView → Spot → Type 0
  Stands r q = IsRowAt ps cs true counts r q

  joined_one : (r : RowView) (s : SavedRow) → Stands r (spot_of s)
      → joined_if (arc_key (arc_fields s)) (texts_of (numbered_fields 1 ps)) (texts_of (numbered_fields 1 cs)) ≡ entry_at r (spot_of s) ∷ []
  joined_one r s h = λ i. joined (record { file = s.file_id; context = s.context_id; first = number s.from; second = number s.to })
      (texts_numbered ps r.path s.file_id h.file i) (texts_numbered cs r.context s.context_id h.context i)

  joined_all : (rs : List RowView) (ss : List SavedRow) → AllZip Stands rs (map spot_of ss) → arc_entries (numbered_fields 1 ps) (numbered_fields 1 cs) (map arc_fields ss) ≡ entries_at rs (map spot_of ss)
  joined_all [] [] h = refl
  joined_all [] (s ∷ ss) h = absurd h
  joined_all (r ∷ rs) [] h = absurd h
  joined_all (r ∷ rs) (s ∷ ss) h = λ i. joined_one r s h.0 i ++ joined_all rs ss h.1 i

  good_one : (r : RowView) (q : Spot) → Stands r q → is_bad_arc (entry_at r q) ≡ false
  good_one r q h =
      (λ i. not (is_within (h.from i) && is_within (h.to i)))
      ∙ (λ i. not (within r.from h.sound.0.from_number i && within r.to h.sound.0.to_number i))

  all_good : (rs : List RowView) (qs : List Spot) → AllZip Stands rs qs → AllByRecursion (λ e. is_bad_arc e ≡ false) (entries_at rs qs)
  all_good [] qs h = tt
  all_good (r ∷ rs) [] h = tt
  all_good (r ∷ rs) (q ∷ qs) h = (good_one r q h.0, all_good rs qs h.1)

  row_again : (r : RowView) (q : Spot) → Stands r q → arc_rows counts (entry_at r q) ≡ r ∷ []
  row_again r q h =
      let row : RowView = row_with counts (entry_at r q) q.from q.to in
      (λ i. cond {A = List RowView} (is_zero (h.from i) || is_zero (h.to i)) [] (row ∷ []))
      ∙ (λ i. cond {A = List RowView} (not_zero r.from h.sound.0.from_number.0 i || not_zero r.to h.sound.0.to_number.0 i) [] (row ∷ []))
      ∙ (λ i. a_row r.path r.context (h.from i) (h.to i) (h.count i) ∷ [])

  rows_again : (rs : List RowView) (qs : List Spot) → AllZip Stands rs qs → flat_map (arc_rows counts) (entries_at rs qs) ≡ rs
  rows_again [] qs h = refl
  rows_again (r ∷ rs) [] h = absurd h
  rows_again (r ∷ rs) (q ∷ qs) h = λ i. row_again r q h.0 i ++ rows_again rs qs h.1 i

pub arcs_content : (d : DataSet) → IsSound d → d.arcs ≡ true → (ss : List SavedRow) (bs : List SavedBits)
    → AllZip (IsSavedRow (paths_of d) (contexts_in (rows_of d))) (rows_of d) ss → content (kept true (paths_of d) (contexts_in (rows_of d)) ss bs) ≡ Good d
arcs_content d sound is ss bs h =
    let ps = paths_of d in
    let rs = rows_of d in
    let cs = contexts_in rs in
    let counts = count_of (map hits_fields ss) in
    let up = kept_rise ps cs (paths_rise d) (contexts_rise rs) rs ss h (rows_rise d) in
    let stand = rows_at ps cs true ss rs ss h (each_counted ss up) (subst (λ b. AllByRecursion (IsSoundRow b) rs) is (rows_sound d sound)) in
    let es = entries_at rs (map spot_of ss) in
    let all : in_order entry_cmp (arc_entries (numbered_fields 1 ps) (numbered_fields 1 cs) (map arc_fields ss)) ≡ es =
    ap (in_order entry_cmp) (joined_all ps cs counts rs ss stand) ∙ in_order-rise entry_cmp entry_cmp-total entry_cmp-same es (entries_rise rs ss up) in
    let paths : paths_only true (numbered_fields 1 ps) ≡ fold with_path (no_data true) ps = ap (fold with_path (no_data true)) (paths_numbered ps 1) in
    (λ i. read_entries is_bad_arc (arc_rows counts) (all i) (paths i))
    ∙ read_so is_bad_arc (arc_rows counts) es (fold with_path (no_data true) ps) d rs (all_good ps cs counts rs (map spot_of ss) stand) (rows_again ps cs counts rs (map spot_of ss) stand) (made_again d true is)
