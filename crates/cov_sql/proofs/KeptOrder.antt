-- Rows that are kept of data rise as the rows do.
--     ids_cmp                  two numbers stand as their texts do
--     kept_cmp, kept_rise      the order of kept rows; they rise
--     lines_kept               of data of lines they are of lines
use Rattle.std.proofs.Common.{◌≡◌, ℕ, zero, suc, ◌+◌, ◌<◌, ◌≤◌, ℤ, pos, negsuc, ◌≤ℤ◌, ◌<ℤ◌, false, cond, List, [], ◌∷◌, slice_get, Some, refl, ap, sym, subst, ◌∙◌, arith, lt-ltb, leb→le}
use Rattle.std.specs.Prelude.{nat_lt}
use Rattle.std.specs.declared.cmp.Ordering.{Ordering}
use Rattle.std.specs.declared.cmp.Ordering.TheVariants.{Less, Equal, Greater}
use Rattle.std.specs.Ordering.{int_cmp, ordering_then, ordering_reverse}
use Rattle.std.specs.Cmp.{int_cmp_total, tied_itself}
use Rattle.std.specs.List.{AllByRecursion, AllZip}
use Rattle.std.proofs.lemmas.Option.{same_Some}
use Rattle.cov_data.specs.DataSet.{most_number, Text, text_cmp, DataSet, IsSound}
use Rattle.cov_data.specs.Rows.{RowView, paths_of, rows_of}
use Rattle.cov_data.proofs.FileViews.{text_cmp_total}
use Rattle.cov_tables.specs.Hits.{spot_cmp}
use Rattle.cov_sql.specs.declared.saved.SavedRow.{SavedRow}
use Rattle.cov_sql.specs.SavedData.{contexts_in, IsNumbered, IsSavedRow}
use Rattle.cov_sql.specs.Blobs.{spot_of}
use Rattle.cov_sql.specs.Groups.{IsLine, AreLines}
use Rattle.cov_sql.proofs.Rising.{all_at, Rise, sorted_from}
use Rattle.cov_sql.proofs.RowOrder.{row_cmp, rows_rise, paths_rise, contexts_rise, IsSoundRow, rows_sound}

-- ---- the order of numbers

less_id : (i j : ℕ) → i < j → int_cmp (pos i) (pos j) ≡ Less
less_id i j lt = ap (λ b. cond b Less (cond (nat_lt j i) Greater Equal)) (lt-ltb i j lt)

greater_id : (i j : ℕ) → j < i → int_cmp (pos i) (pos j) ≡ Greater
greater_id i j lt = int_cmp_total.antisymm (pos i) (pos j) ∙ ap ordering_reverse (less_id j i lt)

places_cmp : (ts : List Text) → Rise text_cmp ts → (k i j a b : ℕ) (t u : Text) → i ≡ k + a → j ≡ k + b → slice_get ts a ≡ Some t → slice_get ts b ≡ Some u → int_cmp (pos i) (pos j) ≡ text_cmp t u
places_cmp [] h k i j a b t u p q at there = absurd cc
places_cmp (x ∷ xs) h k i j zero zero t u p q at there =
    let same : i ≡ j = omega (arith, p, q) in
    ap (λ n. int_cmp (pos i) (pos n)) (sym same) ∙ tied_itself int_cmp_total (pos i) ∙ sym (tied_itself text_cmp_total x) ∙ (λ s. text_cmp (same_Some x t at s) (same_Some x u there s))
places_cmp (x ∷ xs) h k i j zero (suc b) t u p q at there =
    less_id i j (omega (arith, p, q)) ∙ sym (all_at (λ y. text_cmp x y ≡ Less) xs h.0 b u there) ∙ ap (λ y. text_cmp y u) (same_Some x t at)
places_cmp (x ∷ xs) h k i j (suc a) zero t u p q at there =
    greater_id i j (omega (arith, p, q))
    ∙ sym (text_cmp_total.antisymm t u ∙ ap ordering_reverse (ap (λ y. text_cmp y t) (sym (same_Some x u there)) ∙ all_at (λ y. text_cmp x y ≡ Less) xs h.0 a t at))
places_cmp (x ∷ xs) h k i j (suc a) (suc b) t u p q at there = places_cmp xs h.1 (k + 1) i j a b t u (omega (arith, p)) (omega (arith, q)) at there

pub ids_cmp : (ts : List Text) → Rise text_cmp ts → (t u : Text) (x y : ℤ) → IsNumbered ts t x → IsNumbered ts u y → int_cmp x y ≡ text_cmp t u
ids_cmp ts h t u x y a b = (λ s. int_cmp (a.is s) (b.is s)) ∙ places_cmp ts h 1 (a.at + 1) (b.at + 1) a.at b.at t u (omega arith) (omega arith) a.there b.there

-- ---- they rise

abbrev pub kept_cmp : SavedRow → SavedRow → Ordering
kept_cmp s t = spot_cmp (spot_of s) (spot_of t)

module _ (ps cs : List Text) (up : Rise text_cmp ps) (rise : Rise text_cmp cs) where
  kept_less : (r q : RowView) (s t : SavedRow) → IsSavedRow ps cs r s → IsSavedRow ps cs q t → row_cmp r q ≡ Less → kept_cmp s t ≡ Less
  kept_less r q s t h g lt =
      (λ i. ordering_then (ids_cmp ps up r.path q.path s.file_id t.file_id h.file g.file i)
      (ordering_then (ids_cmp cs rise r.context q.context s.context_id t.context_id h.context g.context i)
      (ordering_then (int_cmp (h.from i) (g.from i)) (int_cmp (h.to i) (g.to i)))))
      ∙ lt

  kept_below : (r : RowView) (s : SavedRow) (rs : List RowView) (ss : List SavedRow) → IsSavedRow ps cs r s → AllZip (IsSavedRow ps cs) rs ss → AllByRecursion (λ q. row_cmp r q ≡ Less) rs → AllByRecursion (λ t. kept_cmp s t ≡ Less) ss
  kept_below r s [] [] one h lt = tt
  kept_below r s [] (t ∷ ss) one h lt = absurd h
  kept_below r s (q ∷ rs) [] one h lt = tt
  kept_below r s (q ∷ rs) (t ∷ ss) one h lt = (kept_less r q s t one h.0 lt.0, kept_below r s rs ss one h.1 lt.1)

  pub kept_rise : (rs : List RowView) (ss : List SavedRow) → AllZip (IsSavedRow ps cs) rs ss → Rise row_cmp rs → Rise kept_cmp ss
  kept_rise [] [] h lt = tt
  kept_rise [] (s ∷ ss) h lt = absurd h
  kept_rise (r ∷ rs) [] h lt = tt
  kept_rise (r ∷ rs) (s ∷ ss) h lt = (kept_below r s rs ss h.0 h.1 lt.0, kept_rise rs ss h.1 lt.1)

-- ---- of data of lines

line_of : (z : ℤ) → pos 0 <ℤ z → z ≤ℤ pos most_number → (n : ℕ) × (z ≡ pos n) × (n ≤ most_number)
line_of (pos n) low high = (n, refl, leb→le n most_number high.le)
line_of (negsuc n) low high = absurd low.lt

kept_line : (ps cs : List Text) (r : RowView) (s : SavedRow) → IsSavedRow ps cs r s → IsSoundRow false r → IsLine s
kept_line ps cs r s h sound =
    let line = line_of r.from (sound.0.one_line refl).1 sound.0.from_number.2 in
    record { line = line.0; from = h.from ∙ line.1; to = h.to ∙ sym (sound.0.one_line refl).0 ∙ line.1; within = line.2 }

kept_lines : (ps cs : List Text) (rs : List RowView) (ss : List SavedRow) → AllZip (IsSavedRow ps cs) rs ss → AllByRecursion (IsSoundRow false) rs → AllByRecursion IsLine ss
kept_lines ps cs [] [] h sound = tt
kept_lines ps cs [] (s ∷ ss) h sound = absurd h
kept_lines ps cs (r ∷ rs) [] h sound = tt
kept_lines ps cs (r ∷ rs) (s ∷ ss) h sound = (kept_line ps cs r s h.0 sound.0, kept_lines ps cs rs ss h.1 sound.1)

pub lines_kept : (d : DataSet) (ss : List SavedRow) → IsSound d → d.arcs ≡ false → AllZip (IsSavedRow (paths_of d) (contexts_in (rows_of d))) (rows_of d) ss → AreLines ss
lines_kept d ss sound is h =
    let ps = paths_of d in
    let rs = rows_of d in
    let cs = contexts_in rs in
    record {
      rise = sorted_from kept_cmp ss (kept_rise ps cs (paths_rise d) (contexts_rise rs) rs ss h (rows_rise d));
      each = kept_lines ps cs rs ss h (subst (λ b. AllByRecursion (IsSoundRow b) rs) is (rows_sound d sound));
    }
