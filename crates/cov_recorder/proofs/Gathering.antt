-- Counters that become rows of data, one after the other.
use Rattle.std.proofs.Common.{◌≡◌, ℕ, zero, suc, ◌+◌, ◌-◌, ◌<◌, Bool, List, [], ◌∷◌, length, map, drop, get_or, Some, refl, ap, sym, ◌∙◌, subst, add-one, arith}
use Rattle.std.specs.Prelude.{slice_get}
use Rattle.std.proofs.lemmas.Option.{slice_get-get_or}
use Rattle.cov_data.specs.DataSet.{Text, DataSet, IsInRange}
use Rattle.py_syntax.specs.Prediction.{Arc}
use Rattle.cov_recorder.specs.declared.rows.Counters.{Counters}
use Rattle.cov_recorder.specs.Plan.{Named, Plan, plan_with}
use Rattle.cov_recorder.specs.Rows.{row_from, with_count, with_counts, with_counters, with_rows, AreInRange, IsSoundRow, AreSound}

drop_suc : {X : Type 0} (xs : List X) (i : ℕ) (x : X) → slice_get xs i ≡ Some x → drop i xs ≡ x ∷ drop (suc i) xs
drop_suc [] i x e = cc
drop_suc (y ∷ xs) zero x e =
    let same : y ≡ x = cc in
    ap (λ z. z ∷ xs) same
drop_suc (y ∷ xs) (suc i) x e = drop_suc xs i x e

pub drop_at : {X : Type 0} (xs : List X) (i : ℕ) (x : X) → slice_get xs i ≡ Some x → drop i xs ≡ x ∷ drop (i + 1) xs
drop_at xs i x e = drop_suc xs i x e ∙ ap (λ n. x ∷ drop n xs) (sym (add-one i))

pub with_count-kind : (path context : Text) (a : Arc) (n : ℕ) (d : DataSet) → (with_count path context a n d).arcs ≡ d.arcs
with_count-kind path context a zero d = refl
with_count-kind path context a (suc n) d = refl

pub with_counts-kind : (path context : Text) (arcs : List Arc) (counts : List ℕ) (d : DataSet) → (with_counts path context arcs counts d).arcs ≡ d.arcs
with_counts-kind path context [] counts d = refl
with_counts-kind path context (a ∷ arcs) [] d = refl
with_counts-kind path context (a ∷ arcs) (n ∷ counts) d = with_counts-kind path context arcs counts (with_count path context a n d) ∙ with_count-kind path context a n d

-- the counts from a place on
pub counts_from : (path context : Text) (arcs : List Arc) (counts : List ℕ) (i : ℕ) (a : Arc) (d : DataSet) → slice_get arcs i ≡ Some a → i < length counts
    → with_counts path context (drop i arcs) (drop i counts) d ≡ with_counts path context (drop (i + 1) arcs) (drop (i + 1) counts) (with_count path context a (get_or counts i 0) d)
counts_from path context arcs counts i a d at h =
    let left = drop_at arcs i a at in
    let right = drop_at counts i (get_or counts i 0) (slice_get-get_or counts i 0 h) in
    λ k. with_counts path context (left k) (right k) d

pub counted_in_range : (arcs kind : Bool) (set : List Arc) (counts : List ℕ) (i : ℕ) (a : Arc) → kind ≡ arcs → AreInRange arcs set counts → slice_get set i ≡ Some a → i < length counts → 0 < get_or counts i 0 → IsInRange kind a.0 a.1 1
counted_in_range arcs kind set counts i a same h at within some =
    let n = get_or counts i 0 in
    let above : n ≡ suc (n - 1) = omega (arith, some) in
    let taken = h.taken i (n - 1) a (slice_get-get_or counts i 0 within ∙ ap (λ k. Some k) above) at in
    subst (λ (b : Bool). IsInRange b a.0 a.1 1) (sym same) taken

pub nothing_left : (path context : Text) (arcs : List Arc) (d : DataSet) → with_counts path context arcs [] d ≡ d
nothing_left path context [] d = refl
nothing_left path context (a ∷ arcs) d = refl

slice_get-rows : (rows : List Counters) (i : ℕ) (r : Counters) → slice_get rows i ≡ Some r → slice_get (map row_from rows) i ≡ Some (row_from r)
slice_get-rows [] i r e = cc
slice_get-rows (x ∷ rows) zero r e =
    let same : x ≡ r = cc in
    ap (λ y. Some (row_from y)) same
slice_get-rows (x ∷ rows) (suc i) r e = slice_get-rows rows i r e

pub sound_at : (units : List (List Named)) (sets : List (List Arc)) (arcs kind : Bool) (fixed : Text) (rows : List Counters) (i : ℕ) (r : Counters) → kind ≡ arcs → AreSound (plan_with units sets arcs fixed) (map row_from rows) → slice_get rows i ≡ Some r
    → IsSoundRow (plan_with units sets kind fixed) (row_from r)
sound_at units sets arcs kind fixed rows i r same h at = subst (λ (b : Bool). IsSoundRow (plan_with units sets b fixed) (row_from r)) (sym same) (h.each i (row_from r) (slice_get-rows rows i r at))

-- the rows from one on
pub rows_from : (plan : Plan) (rows : List Counters) (i : ℕ) (r : Counters) (d : DataSet) → slice_get rows i ≡ Some r → with_rows plan (map row_from (drop i rows)) d ≡ with_rows plan (map row_from (drop (i + 1) rows)) (with_counters plan (row_from r) d)
rows_from plan rows i r d at = ap (λ w. with_rows plan (map row_from w) d) (drop_at rows i r at)
