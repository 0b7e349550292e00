-- What is read of the blobs that are kept of data of lines.
--     lines_content      the tables hold the data
use Rattle.std.proofs.Common.{◌≡◌, ◌≢◌, ℕ, ◌+◌, ◌/◌, ◌≤◌, max, ℤ, pos, ◌<ℤ◌, ◌≤ℤ◌, true, false, cond, not, List, [], ◌∷◌, ◌++◌, map, length, refl, ap, sym, subst, ◌∙◌, arith, leb-true}
use Rattle.std.specs.Prelude.{◌&&◌, nat_eq, nat_lt, nat_le}
use Rattle.std.specs.declared.cmp.Ordering.{Ordering}
use Rattle.std.specs.declared.cmp.Ordering.TheVariants.{Less, Equal, Greater}
use Rattle.std.specs.Ordering.{int_cmp, ordering_then}
use Rattle.std.specs.List.{AllByRecursion, AllZip, fold, flat_map, list_all}
use Rattle.std.proofs.lemmas.List.{take_all, drop_all}
use Rattle.cov_data.specs.DataSet.{most_number, Text, text_cmp, DataSet, no_data, with_path, IsSound}
use Rattle.cov_data.specs.Numbits.{IsNumbits, lines_of_bits}
use Rattle.cov_data.specs.Rows.{RowView, paths_of, rows_of}
use Rattle.cov_vault.specs.declared.vault.Content.TheVariants.{Good}
use Rattle.cov_tables.specs.Entries.{bits, neither, column_cmp, Entry, entry_cmp}
use Rattle.cov_tables.specs.Hits.{Spot, count_of}
use Rattle.cov_tables.specs.Joins.{texts_of, bits_key, joined, joined_if, bits_entries}
use Rattle.cov_tables.specs.Order.{in_order}
use Rattle.cov_tables.specs.Content.{is_bad_bits, row_with, line_row, bits_rows, read_entries, paths_only, content}
use Rattle.cov_tables.proofs.Columns.{entry_cmp-total, entry_cmp-same}
use Rattle.cov_sql.specs.declared.saved.SavedRow.{SavedRow}
use Rattle.cov_sql.specs.declared.saved.SavedBits.{SavedBits}
use Rattle.cov_sql.specs.SavedData.{IsNumbered, contexts_in, IsSavedRow}
use Rattle.cov_sql.specs.Blobs.{line_spot, spots_in, bits_cmp, IsPacked, AreBitsOf}
use Rattle.cov_sql.proofs.Rising.{rise_from, map_rise, in_order-rise}
use Rattle.cov_sql.proofs.RowOrder.{rows_rise, paths_rise, contexts_rise, IsSoundRow, rows_sound}
use Rattle.cov_sql.proofs.KeptOrder.{kept_rise}
use Rattle.cov_sql.proofs.Again.{made_again}
use Rattle.cov_sql.proofs.Numbered.{numbered_fields, paths_numbered, texts_numbered}
use Rattle.cov_sql.proofs.Places.{bits_fields, hits_fields, kept, each_counted, IsRowAt, rows_at, read_so}
use Rattle.cov_sql.proofs.Arcs.{is_true, a_row}

-- ---- the text of a number

abbrev head_of : List Text → Text
head_of [] = []
head_of (t ∷ ts) = t

abbrev named : List Text → ℤ → Text
named ts id = head_of (texts_of (numbered_fields 1 ts) id)

named_is : (ts : List Text) (t : Text) (id : ℤ) → IsNumbered ts t id → named ts id ≡ t
named_is ts t id n = ap head_of (texts_numbered ts t id n)

abbrev IsKnown : List Text → ℤ → Type 0
IsKnown ts id = texts_of (numbered_fields 1 ts) id ≡ named ts id ∷ []

known : (ts : List Text) (t : Text) (id : ℤ) → IsNumbered ts t id → IsKnown ts id
known ts t id n = texts_numbered ts t id n ∙ ap (λ u. u ∷ []) (sym (named_is ts t id n))

-- ---- lists that are cut

record Cut {A B : Type 0} (R : A → B → Type 0) (rs : List A) (xs ys : List B) : Type 0 where
  front : List A
  back : List A
  whole : rs ≡ front ++ back
  left : AllZip R front xs
  right : AllZip R back ys

cut : {A B : Type 0} (R : A → B → Type 0) (xs ys : List B) (rs : List A) → AllZip R rs (xs ++ ys) → Cut R rs xs ys
cut R [] ys rs h = record { front = []; back = rs; whole = refl; left = tt; right = h }
cut R (x ∷ xs) ys [] h = absurd h
cut R (x ∷ xs) ys (r ∷ rs) h = let c = cut R xs ys rs h.1 in record { front = r ∷ c.front; back = c.back; whole = ap (λ ts. r ∷ ts) c.whole; left = (h.0, c.left); right = c.right }

-- ---- few bytes

-- the most bytes of the bits of lines up to `most_number`
abbrev most_bytes : ℕ
most_bytes = 8192

needed_few : (ns : List ℕ) (a : ℕ) → AllByRecursion (λ n. n ≤ most_number) ns → a ≤ most_bytes → fold (λ most n. max most (n / 8 + 1)) a ns ≤ most_bytes
needed_few [] a h few = few
needed_few (n ∷ ns) a h few = needed_few ns (max a (n / 8 + 1)) h.1 (omega (arith, h.0, few))

less_two : (a b x : Ordering) → ordering_then a b ≡ Less → ordering_then a (ordering_then b x) ≡ Less
less_two Less b x h = refl
less_two Equal b x h = ap (λ r. ordering_then r x) h
less_two Greater b x h = h

-- ---- the entry of a blob

module _ (ps cs : List Text) (counts : Spot → ℕ) where
  abbrev Stands : RowView → Spot → Type 0
  Stands r q = IsRowAt ps cs false counts r q

  abbrev blob_entry : SavedBits → Entry
  blob_entry b = record { file = b.file_id; context = b.context_id; first = bits b.numbits.items; second = neither; path = named ps b.file_id; label = named cs b.context_id }

  -- a blob whose ids are known, of few bytes
  abbrev IsRead : SavedBits → Type 0
  IsRead b = IsKnown ps b.file_id × IsKnown cs b.context_id × (length b.numbits.items ≤ most_bytes)

  line_at_most : (b : SavedBits) (n : ℕ) (r : RowView) → Stands r (line_spot b n) → nat_le n most_number ≡ true
  line_at_most b n r h = let high : pos n ≤ℤ pos most_number = subst (λ z. z ≤ℤ pos most_number) (sym h.from) h.sound.0.from_number.2 in is_true (nat_le n most_number) high.le

  line_some : (b : SavedBits) (n : ℕ) (r : RowView) → Stands r (line_spot b n) → nat_lt 0 n ≡ true
  line_some b n r h = let low : pos 0 <ℤ pos n = subst (λ z. pos 0 <ℤ z) (sym h.from) (h.sound.0.one_line refl).1 in is_true (nat_lt 0 n) low.lt

  lines_few : (b : SavedBits) (ns : List ℕ) (rs : List RowView) → AllZip Stands rs (map (line_spot b) ns) → AllByRecursion (λ n. n ≤ most_number) ns
  lines_few b [] rs h = tt
  lines_few b (n ∷ ns) [] h = absurd h
  lines_few b (n ∷ ns) (r ∷ rs) h = (leb-true n most_number (line_at_most b n r h.0), lines_few b ns rs h.1)

  is_read : (b : SavedBits) (ns : List ℕ) (rs : List RowView) → ns ≢ [] → IsNumbits ns b.numbits.items → AllZip Stands rs (map (line_spot b) ns) → IsRead b
  is_read b [] rs some packed h = absurd (some refl)
  is_read b (n ∷ ns) [] some packed h = absurd h
  is_read b (n ∷ ns) (r ∷ rs) some packed h = (
    known ps r.path b.file_id h.0.file,
    known cs r.context b.context_id h.0.context,
    subst (λ (m : ℕ). m ≤ most_bytes) (sym packed.size) (needed_few (n ∷ ns) 0 (lines_few b (n ∷ ns) (r ∷ rs) h) (omega arith)),
  )

  all_read : (bs : List SavedBits) (rs : List RowView) → AllByRecursion IsPacked bs → AllZip Stands rs (flat_map spots_in bs) → AllByRecursion IsRead bs
  all_read [] rs packed h = tt
  all_read (b ∷ bs) rs packed h =
      let c = cut Stands (spots_in b) (flat_map spots_in bs) rs h in
      (is_read b (lines_of_bits b.numbits.items) c.front packed.0.0 packed.0.1 c.left, all_read bs c.back packed.1 c.right)

  joined_one : (b : SavedBits) → IsRead b → joined_if (bits_key (bits_fields b)) (texts_of (numbered_fields 1 ps)) (texts_of (numbered_fields 1 cs)) ≡ blob_entry b ∷ []
  joined_one b h = λ i. joined (record { file = b.file_id; context = b.context_id; first = bits b.numbits.items; second = neither }) (h.0 i) (h.1 i)

  joined_all : (bs : List SavedBits) → AllByRecursion IsRead bs → bits_entries (numbered_fields 1 ps) (numbered_fields 1 cs) (map bits_fields bs) ≡ map blob_entry bs
  joined_all [] h = refl
  joined_all (b ∷ bs) h = λ i. joined_one b h.0 i ++ joined_all bs h.1 i

  entry_less : (a b : SavedBits) → bits_cmp a b ≡ Less → entry_cmp (blob_entry a) (blob_entry b) ≡ Less
  entry_less a b lt =
      less_two (int_cmp a.file_id b.file_id) (int_cmp a.context_id b.context_id)
      (ordering_then (column_cmp (bits a.numbits.items) (bits b.numbits.items)) (ordering_then (column_cmp neither neither)
      (ordering_then (text_cmp (named ps a.file_id) (named ps b.file_id)) (text_cmp (named cs a.context_id) (named cs b.context_id))))) lt

  all_good : (bs : List SavedBits) → AllByRecursion IsRead bs → AllByRecursion (λ e. is_bad_bits e ≡ false) (map blob_entry bs)
  all_good [] h = tt
  all_good (b ∷ bs) h = (ap (λ xs. not (list_all (λ byte. nat_eq byte 0) xs)) (drop_all most_bytes b.numbits.items h.0.2), all_good bs h.1)

  line_again : (b : SavedBits) (n : ℕ) (r : RowView) → Stands r (line_spot b n) → line_row counts (blob_entry b) n ≡ r ∷ []
  line_again b n r h =
      let row : RowView = row_with counts (blob_entry b) (pos n) (pos n) in
      (λ i. cond {A = List RowView} (line_some b n r h i && line_at_most b n r h i) (row ∷ []) [])
      ∙ (λ i. a_row (named_is ps r.path b.file_id h.file i) (named_is cs r.context b.context_id h.context i) (h.from i) (h.to i) (h.count i) ∷ [])

  lines_again : (b : SavedBits) (ns : List ℕ) (rs : List RowView) → AllZip Stands rs (map (line_spot b) ns) → flat_map (line_row counts (blob_entry b)) ns ≡ rs
  lines_again b [] [] h = refl
  lines_again b [] (r ∷ rs) h = absurd h
  lines_again b (n ∷ ns) [] h = absurd h
  lines_again b (n ∷ ns) (r ∷ rs) h = λ i. line_again b n r h.0 i ++ lines_again b ns rs h.1 i

  blob_again : (b : SavedBits) (rs : List RowView) → length b.numbits.items ≤ most_bytes → AllZip Stands rs (spots_in b) → bits_rows counts (blob_entry b) ≡ rs
  blob_again b rs few h =
      ap (λ xs. flat_map (line_row counts (blob_entry b)) (lines_of_bits xs)) (take_all most_bytes b.numbits.items few)
      ∙ lines_again b (lines_of_bits b.numbits.items) rs h

  rows_again : (bs : List SavedBits) (rs : List RowView) → AllByRecursion IsRead bs → AllZip Stands rs (flat_map spots_in bs) → flat_map (bits_rows counts) (map blob_entry bs) ≡ rs
  rows_again [] [] read h = refl
  rows_again [] (r ∷ rs) read h = absurd h
  rows_again (b ∷ bs) rs read h =
      let c = cut Stands (spots_in b) (flat_map spots_in bs) rs h in
      (λ i. blob_again b c.front read.0.2 c.left i ++ rows_again bs c.back read.1 c.right i) ∙ sym c.whole

pub lines_content : (d : DataSet) → IsSound d → d.arcs ≡ false → (ss : List SavedRow) (bs : List SavedBits)
    → AllZip (IsSavedRow (paths_of d) (contexts_in (rows_of d))) (rows_of d) ss → AreBitsOf ss bs → content (kept false (paths_of d) (contexts_in (rows_of d)) ss bs) ≡ Good d
lines_content d sound is ss bs h blobs =
    let ps = paths_of d in
    let rs = rows_of d in
    let cs = contexts_in rs in
    let counts = count_of (map hits_fields ss) in
    let up = kept_rise ps cs (paths_rise d) (contexts_rise rs) rs ss h (rows_rise d) in
    let stand = rows_at ps cs false ss rs ss h (each_counted ss up) (subst (λ b. AllByRecursion (IsSoundRow b) rs) is (rows_sound d sound)) in
    let told : AllZip (Stands ps cs counts) rs (flat_map spots_in bs) = subst (AllZip (Stands ps cs counts) rs) (sym blobs.lines) stand in
    let read = all_read ps cs counts bs rs blobs.packed told in
    let es = map (blob_entry ps cs counts) bs in
    let all : in_order entry_cmp (bits_entries (numbered_fields 1 ps) (numbered_fields 1 cs) (map bits_fields bs)) ≡ es =
    ap (in_order entry_cmp) (joined_all ps cs counts bs read)
    ∙ in_order-rise entry_cmp entry_cmp-total entry_cmp-same es (map_rise bits_cmp entry_cmp (blob_entry ps cs counts) (entry_less ps cs counts) bs (rise_from bits_cmp bs blobs.once)) in
    let paths : paths_only false (numbered_fields 1 ps) ≡ fold with_path (no_data false) ps = ap (fold with_path (no_data false)) (paths_numbered ps 1) in
    (λ i. read_entries is_bad_bits (bits_rows counts) (all i) (paths i))
    ∙ read_so is_bad_bits (bits_rows counts) es (fold with_path (no_data false) ps) d rs (all_good ps cs counts bs read) (rows_again ps cs counts bs rs read told) (made_again d false is)
