-- A count more in rows of counters; rows that stay what they are.
use Rattle.std.proofs.Common.{◌≡◌, ℕ, zero, suc, ◌+◌, ◌<◌, ◌≤◌, List, [], ◌∷◌, ◌++◌, length, map, set, get_or, Some, None, refl, ap, sym, subst, ◌∙◌, cond, arith}
use Rattle.std.specs.declared.cmp.Ordering.TheVariants.{Less, Equal, Greater}
use Rattle.std.specs.Prelude.{min, slice_get}
use Rattle.std.specs.Ordering.{is_eq}
use Rattle.std.specs.FinMap.{get, insert, empty, get-insert, get-empty}
use Rattle.cov_data.specs.DataSet.{Text, text_cmp}
use Rattle.cov_data.proofs.FileViews.{text_cmp_total, text_cmp_same}
use Rattle.cov_recorder.specs.declared.rows.Counters.{Counters}
use Rattle.cov_recorder.specs.Counters.{Numbers, Row, raised, bumped, HasRow, AreIndexed, no_counts}
use Rattle.cov_recorder.specs.Rows.{row_from}

pub raised-is : (ns : List ℕ) (p : ℕ) → p < length ns → (old new : ℕ) → old ≡ get_or ns p old → new ≡ min (old + 1) 4294967295 → set ns p new ≡ raised ns p
raised-is [] p h old new is e = absurd (omega (arith, h))
raised-is (n ∷ ns) zero h old new is e = ap (λ v. v ∷ ns) (e ∙ ap (λ m. min (m + 1) 4294967295) is)
raised-is (n ∷ ns) (suc p) h old new is e = ap (λ w. n ∷ w) (raised-is ns p (omega (arith, h)) old new is e)

pub raised-outside : (ns : List ℕ) (p : ℕ) → length ns ≤ p → ns ≡ raised ns p
raised-outside [] p h = refl
raised-outside (n ∷ ns) zero h = absurd (omega (arith, h))
raised-outside (n ∷ ns) (suc p) h = ap (λ w. n ∷ w) (raised-outside ns p (omega (arith, h)))

pub length-raised : (ns : List ℕ) (p : ℕ) → length (raised ns p) ≡ length ns
length-raised [] p = refl
length-raised (n ∷ ns) zero = refl
length-raised (n ∷ ns) (suc p) = ap suc (length-raised ns p)

-- a row of the code in place of another one
pub bumped-is : (rows : List Counters) (n p : ℕ) → n < length rows → (old new : Counters) → old ≡ get_or rows n old → row_from new ≡ record (row_from old) { counts = raised old.counts.items p }
    → map row_from (set rows n new) ≡ bumped (map row_from rows) n p
bumped-is [] n p h old new is e = absurd (omega (arith, h))
bumped-is (r ∷ rows) zero p h old new is e = ap (λ v. v ∷ map row_from rows) (e ∙ ap (λ (c : Counters). record (row_from c) { counts = raised c.counts.items p }) is)
bumped-is (r ∷ rows) (suc n) p h old new is e = ap (λ w. row_from r ∷ w) (bumped-is rows n p (omega (arith, h)) old new is e)

pub bumped-outside : (rows : List Counters) (n p : ℕ) → length rows ≤ n → map row_from rows ≡ bumped (map row_from rows) n p
bumped-outside [] n p h = refl
bumped-outside (r ∷ rows) zero p h = absurd (omega (arith, h))
bumped-outside (r ∷ rows) (suc n) p h = ap (λ w. row_from r ∷ w) (bumped-outside rows n p (omega (arith, h)))

-- ---- rows that stay

same_row : (r s : Row) → Some r ≡ Some s → r ≡ s
same_row r s e = cc

pub HasRow-bumped : (rows : List Row) (k p n m : ℕ) (label : Text) → HasRow rows n m label → HasRow (bumped rows k p) n m label
HasRow-bumped [] k p n m label h = h
HasRow-bumped (r ∷ rows) zero p zero m label h = record {
  row = record r { counts = raised r.counts p };
  at = refl;
  of_module = ap (λ (s : Row). s.module) (same_row r h.row h.at) ∙ h.of_module;
  of_label = ap (λ (s : Row). s.label) (same_row r h.row h.at) ∙ h.of_label;
}
HasRow-bumped (r ∷ rows) zero p (suc n) m label h = record { row = h.row; at = h.at; of_module = h.of_module; of_label = h.of_label }
HasRow-bumped (r ∷ rows) (suc k) p zero m label h = record { row = h.row; at = h.at; of_module = h.of_module; of_label = h.of_label }
HasRow-bumped (r ∷ rows) (suc k) p (suc n) m label h =
    let below = HasRow-bumped rows k p n m label (record { row = h.row; at = h.at; of_module = h.of_module; of_label = h.of_label }) in
    record { row = below.row; at = below.at; of_module = below.of_module; of_label = below.of_label }

slice_get-append : (rows more : List Row) (n : ℕ) (r : Row) → slice_get rows n ≡ Some r → slice_get (rows ++ more) n ≡ Some r
slice_get-append [] more n r e = cc
slice_get-append (x ∷ rows) more zero r e = e
slice_get-append (x ∷ rows) more (suc n) r e = slice_get-append rows more n r e

pub HasRow-append : (rows more : List Row) (n m : ℕ) (label : Text) → HasRow rows n m label → HasRow (rows ++ more) n m label
HasRow-append rows more n m label h = record { row = h.row; at = slice_get-append rows more n h.row h.at; of_module = h.of_module; of_label = h.of_label }

slice_get-last : (rows : List Row) (r : Row) → slice_get (rows ++ r ∷ []) (length rows) ≡ Some r
slice_get-last [] r = refl
slice_get-last (x ∷ rows) r = slice_get-last rows r

pub HasRow-last : (rows : List Row) (r : Row) (n m : ℕ) (label : Text) → n ≡ length rows → r.module ≡ m → r.label ≡ label → HasRow (rows ++ r ∷ []) n m label
HasRow-last rows r n m label at of_module of_label = record {
  row = r;
  at = ap (slice_get (rows ++ r ∷ [])) at ∙ slice_get-last rows r;
  of_module = of_module;
  of_label = of_label;
}

map-push : (rows : List Counters) (r : Counters) → map row_from (rows ++ r ∷ []) ≡ map row_from rows ++ row_from r ∷ []
map-push [] r = refl
map-push (x ∷ rows) r = ap (λ w. row_from x ∷ w) (map-push rows r)

length-rows : (rows : List Counters) → length (map row_from rows) ≡ length rows
length-rows [] = refl
length-rows (x ∷ rows) = ap suc (length-rows rows)

-- a new row of the code
module _ (rows all : List Counters) (r : Counters) (is : all ≡ rows ++ r ∷ []) where
  pub all-is : map row_from all ≡ map row_from rows ++ row_from r ∷ []
  all-is = ap (map row_from) is ∙ map-push rows r

  pub has_new : (n m : ℕ) (label : Text) (size : ℕ) → row_from r ≡ no_counts m label size → n ≡ length rows → HasRow (map row_from all) n m label
  has_new n m label size e at =
      subst (λ w. HasRow w n m label) (sym all-is)
      (HasRow-last (map row_from rows) (row_from r) n m label (at ∙ sym (length-rows rows)) (ap (λ (x : Row). x.module) e) (ap (λ (x : Row). x.label) e))

-- ---- numbers that lead to them

pub AreIndexed-bumped : (numbers : List Numbers) (rows : List Row) (k p : ℕ) → AreIndexed numbers rows → AreIndexed numbers (bumped rows k p)
AreIndexed-bumped numbers rows k p h = record { leads = λ m n label index at found. HasRow-bumped rows k p n m label (h.leads m n label index at found) }

pub AreIndexed-append : (numbers : List Numbers) (rows more : List Row) → AreIndexed numbers rows → AreIndexed numbers (rows ++ more)
AreIndexed-append numbers rows more h = record { leads = λ m n label index at found. HasRow-append rows more n m label (h.leads m n label index at found) }

pub AreIndexed-pushed : (numbers : List Numbers) (rows all : List Counters) (r : Counters) → all ≡ rows ++ r ∷ [] → AreIndexed numbers (map row_from rows) → AreIndexed numbers (map row_from all)
AreIndexed-pushed numbers rows all r is h = subst (AreIndexed numbers) (sym (all-is rows all r is)) (AreIndexed-append numbers (map row_from rows) (row_from r ∷ []) h)

-- what is in a list with one element written, at each place
at_written : {X : Type 0} (xs : List X) (k : ℕ) (old new : X) → k < length xs → old ≡ get_or xs k old → (m : ℕ) (x : X) → slice_get (set xs k new) m ≡ Some x
    → (A : Type 0) → (m ≡ k → x ≡ new → slice_get xs m ≡ Some old → A) → (slice_get xs m ≡ Some x → A) → A
at_written [] k old new h is m x e A here there = absurd (omega (arith, h))
at_written (y ∷ xs) zero old new h is zero x e A here there =
    let new_is : x ≡ new = cc in
    here refl new_is (ap Some (sym is))
at_written (y ∷ xs) zero old new h is (suc m) x e A here there = there e
at_written (y ∷ xs) (suc k) old new h is zero x e A here there = there e
at_written (y ∷ xs) (suc k) old new h is (suc m) x e A here there = at_written xs k old new (omega (arith, h)) is m x e A (λ same. here (ap suc same)) there

found_at : (rows : List Row) (old : Numbers) (key label : Text) (number n m : ℕ) → HasRow rows number m key → (get old label ≡ Some n → HasRow rows n m label) → get (insert old key number) label ≡ Some n → HasRow rows n m label
found_at rows old key label number n m made before found =
    elim (text_cmp label key) as (λ r. text_cmp label key ≡ r → cond (is_eq r) (Some number) (get old label) ≡ Some n → HasRow rows n m label) [
      | Less ↦ λ t e. before e
      | Equal ↦ λ t e.
          let same : number ≡ n = cc in
          let key_is : key ≡ label = sym (text_cmp_same label key t) in
          subst (λ k. HasRow rows k m label) same (subst (λ w. HasRow rows number m w) key_is made)
      | Greater ↦ λ t e. before e
    ] refl (sym (get-insert text_cmp_total old key number label) ∙ found)

pub AreIndexed-insert : (numbers : List Numbers) (rows : List Row) (k : ℕ) (old new : Numbers) (key : Text) (number : ℕ) → k < length numbers → old ≡ get_or numbers k old → new ≡ insert old key number
    → HasRow rows number k key → AreIndexed numbers rows → AreIndexed (set numbers k new) rows
AreIndexed-insert numbers rows k old new key number within is made has h = record {
  leads = λ m n label index at found.
      at_written numbers k old new within is m index at (HasRow rows n m label)
      (λ same written held.
      let in_new : get (insert old key number) label ≡ Some n = ap (λ w. get w label) (sym (written ∙ made)) ∙ found in
      found_at rows old key label number n m (subst (λ w. HasRow rows number w key) (sym same) has) (λ e. h.leads m n label old held e) in_new)
      (λ held. h.leads m n label index held found);
}

-- an empty map for each module leads nowhere
pub record AreEmpty (numbers : List Numbers) : Type 0 where
  pub empties : (m : ℕ) (index : Numbers) → slice_get numbers m ≡ Some index → index ≡ empty

pub AreEmpty-none : AreEmpty []
AreEmpty-none = record { empties = λ m index e. cc }

empty_last : (numbers : List Numbers) (m : ℕ) (index : Numbers) → slice_get (numbers ++ empty ∷ []) m ≡ Some index → ((k : ℕ) → slice_get numbers k ≡ Some index → index ≡ empty) → index ≡ empty
empty_last [] zero index e h = cc
empty_last [] (suc m) index e h = cc
empty_last (x ∷ numbers) zero index e h = h zero e
empty_last (x ∷ numbers) (suc m) index e h = empty_last numbers m index e (λ k. h (suc k))

pub AreEmpty-push : (numbers : List Numbers) (new : Numbers) → new ≡ empty → AreEmpty numbers → AreEmpty (numbers ++ new ∷ [])
AreEmpty-push numbers new is h = record { empties = λ m index e. empty_last numbers m index (ap (λ w. slice_get (numbers ++ w ∷ []) m) (sym is) ∙ e) (λ k at. h.empties k index at) }

pub AreIndexed-none : (numbers : List Numbers) (rows : List Row) → AreEmpty numbers → AreIndexed numbers rows
AreIndexed-none numbers rows h = record {
  leads = λ m n label index at found.
      let none : get index label ≡ None = ap (λ w. get w label) (h.empties m index at) ∙ get-empty text_cmp label in
      cc;
}
