-- Rows that are kept of data: `hits` has the count of each.
--     arc_fields, bits_fields, hits_fields, kept      the fields of kept rows; the tables with them
--     IsRowAt, rows_at                                   a row of data stands at a spot, and is counted there; all do
--     none_bad, read_so                               entries without a bad one; what is read of them
use Rattle.std.proofs.Common.{◌≡◌, ℕ, ◌+◌, ◌<◌, ◌≤◌, ℤ, pos, Bool, true, false, cond, List, [], ◌∷◌, ◌++◌, map, codes, Option, Some, None, refl, ap, ◌∙◌, lt-ltb, le-leb}
use Rattle.std.specs.Prelude.{◌&&◌}
use Rattle.std.specs.declared.cmp.Ordering.TheVariants.{Less}
use Rattle.std.specs.Ordering.{is_eq, ordering_reverse}
use Rattle.std.specs.Cmp.{IsTotalOrder, then_total, on_total, int_cmp_total, tied_itself}
use Rattle.std.specs.List.{AllByRecursion, AllZip, fold, flat_map, position_from}
use Rattle.cov_data.specs.DataSet.{Text, DataSet}
use Rattle.cov_data.specs.Rows.{RowView, with_row}
use Rattle.cov_vault.specs.declared.vault.Content.TheVariants.{Good}
use Rattle.cov_tables.specs.Fields.{Row, whole, text, blob}
use Rattle.cov_tables.specs.Entries.{Entry}
use Rattle.cov_tables.specs.Hits.{Spot, spot_cmp, counts_at, counted, only_count, count_of}
use Rattle.cov_tables.specs.Content.{Tables, unless_bad, read_entries}
use Rattle.cov_sql.specs.declared.saved.SavedRow.{SavedRow}
use Rattle.cov_sql.specs.declared.saved.SavedBits.{SavedBits}
use Rattle.cov_sql.specs.SavedData.{IsNumbered, IsSavedRow}
use Rattle.cov_sql.specs.Blobs.{spot_of}
use Rattle.cov_sql.proofs.Rising.{Rise}
use Rattle.cov_sql.proofs.RowOrder.{IsSoundRow}
use Rattle.cov_sql.proofs.KeptOrder.{kept_cmp}
use Rattle.cov_sql.proofs.Numbered.{numbered_fields}

abbrev pub arc_fields : SavedRow → Row
arc_fields r = whole r.file_id ∷ whole r.context_id ∷ whole r.from ∷ whole r.to ∷ []

abbrev pub bits_fields : SavedBits → Row
bits_fields b = whole b.file_id ∷ whole b.context_id ∷ blob b.numbits.items ∷ []

abbrev pub hits_fields : SavedRow → Row
hits_fields r = whole r.file_id ∷ whole r.context_id ∷ whole r.from ∷ whole r.to ∷ whole r.count ∷ []

abbrev pub kept : Bool → (paths contexts : List Text) → List SavedRow → List SavedBits → Tables
kept arcs paths contexts rows blobs = record {
  coverage_schema = (whole (pos 7) ∷ []) ∷ [];
  meta = (text (codes "has_arcs") ∷ text (cond arcs (codes "1") (codes "0")) ∷ []) ∷ [];
  file = numbered_fields 1 paths;
  context = numbered_fields 1 contexts;
  line_bits = map bits_fields blobs;
  arc = cond arcs (map arc_fields rows) [];
  hits = map hits_fields rows;
}

-- ---- their counts

spot_total : IsTotalOrder spot_cmp
spot_total = then_total (on_total (λ s. s.file_id) int_cmp_total) (then_total (on_total (λ s. s.context_id) int_cmp_total) (then_total (on_total (λ s. s.from) int_cmp_total) (on_total (λ s. s.to) int_cmp_total)))

abbrev counts_of : List SavedRow → Spot → List (Option ℤ)
counts_of ss q = counts_at (map hits_fields ss) q

-- a row of `hits` has the one count of its spot
abbrev pub AreCounted : List SavedRow → List SavedRow → Type 0
AreCounted all ss = AllByRecursion (λ t. counts_of all (spot_of t) ≡ Some t.count ∷ []) ss

first_counted : (s : SavedRow) (q : Spot) (ss : List SavedRow) (b : Bool) → is_eq (spot_cmp q (spot_of s)) ≡ b → counts_of (s ∷ ss) q ≡ cond b (Some s.count ∷ []) [] ++ counts_of ss q
first_counted s q ss b e = ap (λ t. cond t (Some s.count ∷ []) [] ++ counts_of ss q) e

none_counted : (s : SavedRow) (ss : List SavedRow) → AllByRecursion (λ t. kept_cmp s t ≡ Less) ss → counts_of ss (spot_of s) ≡ []
none_counted s [] h = refl
none_counted s (t ∷ ss) h = first_counted t (spot_of s) ss false (ap is_eq h.0) ∙ none_counted s ss h.1

others_counted : (s : SavedRow) (ss ts : List SavedRow) → AllByRecursion (λ t. kept_cmp s t ≡ Less) ts → AreCounted ss ts → AreCounted (s ∷ ss) ts
others_counted s ss [] lt h = tt
others_counted s ss (t ∷ ts) lt h = (
  first_counted s (spot_of t) ss false (ap is_eq (spot_total.antisymm (spot_of t) (spot_of s) ∙ ap ordering_reverse lt.0)) ∙ h.0,
  others_counted s ss ts lt.1 h.1,
)

pub each_counted : (ss : List SavedRow) → Rise kept_cmp ss → AreCounted ss ss
each_counted [] h = tt
each_counted (s ∷ ss) h = (
  first_counted s (spot_of s) ss true (ap is_eq (tied_itself spot_total (spot_of s))) ∙ ap (λ cs. Some s.count ∷ cs) (none_counted s ss h.0),
  others_counted s ss ss h.0 (each_counted ss h.1),
)

in_bounds : (n : ℕ) → 0 < n → n ≤ 4294967295 → counted (Some (pos n)) ≡ n
in_bounds n low high = λ i. cond (lt-ltb 0 n low i && le-leb n 4294967295 high i) n 1

-- ---- rows of data at spots

pub record IsRowAt (ps cs : List Text) (arcs : Bool) (counts : Spot → ℕ) (r : RowView) (q : Spot) : Type 0 where
  pub file : IsNumbered ps r.path q.file_id
  pub context : IsNumbered cs r.context q.context_id
  pub from : q.from ≡ r.from
  pub to : q.to ≡ r.to
  pub count : counts q ≡ r.count
  pub sound : IsSoundRow arcs r

module _ (ps cs : List Text) (arcs : Bool) (all : List SavedRow) where
  row_at : (r : RowView) (s : SavedRow) → IsSavedRow ps cs r s → counts_of all (spot_of s) ≡ Some s.count ∷ [] → IsSoundRow arcs r → IsRowAt ps cs arcs (count_of (map hits_fields all)) r (spot_of s)
  row_at r s h one sound = record {
    file = h.file;
    context = h.context;
    from = h.from;
    to = h.to;
    count = ap only_count one ∙ ap (λ z. counted (Some z)) h.count ∙ in_bounds r.count sound.0.counted sound.1;
    sound = sound;
  }

  pub rows_at : (rs : List RowView) (ss : List SavedRow) → AllZip (IsSavedRow ps cs) rs ss → AreCounted all ss → AllByRecursion (IsSoundRow arcs) rs → AllZip (IsRowAt ps cs arcs (count_of (map hits_fields all))) rs (map spot_of ss)
  rows_at [] [] h one sound = tt
  rows_at [] (s ∷ ss) h one sound = absurd h
  rows_at (r ∷ rs) [] h one sound = absurd h
  rows_at (r ∷ rs) (s ∷ ss) h one sound = (row_at r s h.0 one.0 sound.0, rows_at rs ss h.1 one.1 sound.1)

-- ---- what is read of entries

pub none_bad : (bad : Entry → Bool) (es : List Entry) (i : ℕ) → AllByRecursion (λ e. bad e ≡ false) es → position_from bad i es ≡ None
none_bad bad [] i h = refl
none_bad bad (e ∷ es) i h = ap (λ b. cond b (Some i) (position_from bad (i + 1) es)) h.0 ∙ none_bad bad es (i + 1) h.1

pub read_so : (bad : Entry → Bool) (rows : Entry → List RowView) (es : List Entry) (bare d : DataSet) (rs : List RowView)
    → AllByRecursion (λ e. bad e ≡ false) es → flat_map rows es ≡ rs → fold with_row bare rs ≡ d → read_entries bad rows es bare ≡ Good d
read_so bad rows es bare d rs good are is = (λ i. unless_bad (none_bad bad es 0 good i) (fold with_row bare (are i))) ∙ ap Good is
