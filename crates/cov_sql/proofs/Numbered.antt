-- Texts that are numbered: each is the one of its number.
--     numbered_fields       the rows of texts with their numbers
--     texts_numbered        the texts of a number
--     paths_numbered        the texts of all rows
use Rattle.std.proofs.Common.{◌≡◌, ℕ, zero, suc, ◌+◌, ◌<◌, ℤ, pos, nat_abs, true, false, cond, List, [], ◌∷◌, ◌++◌, slice_get, Some, refl, ap, sym, ◌∙◌, arith}
use Rattle.std.specs.declared.cmp.Ordering.TheVariants.{Less, Equal, Greater}
use Rattle.std.specs.Ordering.{is_eq, int_cmp}
use Rattle.std.specs.Cmp.{int_cmp_total, tied_itself}
use Rattle.std.proofs.lemmas.Map.Lookups.{exact_signed}
use Rattle.std.proofs.lemmas.Option.{same_Some}
use Rattle.cov_data.specs.DataSet.{Text}
use Rattle.cov_tables.specs.Fields.{Row, whole, text}
use Rattle.cov_tables.specs.Joins.{same_whole, texts_of}
use Rattle.cov_tables.specs.Content.{paths_in}
use Rattle.cov_sql.specs.SavedData.{IsNumbered}

abbrev pub numbered_fields : ℕ → List Text → List Row
numbered_fields k [] = []
numbered_fields k (t ∷ ts) = (whole (pos k) ∷ text t ∷ []) ∷ numbered_fields (k + 1) ts

pub paths_numbered : (ts : List Text) (k : ℕ) → paths_in (numbered_fields k ts) ≡ ts
paths_numbered [] k = refl
paths_numbered (t ∷ ts) k = ap (λ us. t ∷ us) (paths_numbered ts (k + 1))

-- ---- the texts of a number

same_id : (j k : ℕ) → j ≡ k → same_whole (pos j) (pos k) ≡ true
same_id j k e = ap (λ n. same_whole (pos j) (pos n)) (sym e) ∙ ap is_eq (tied_itself int_cmp_total (pos j))

other_id : (j k : ℕ) → (j ≡ k → ⊥) → same_whole (pos j) (pos k) ≡ false
other_id j k apart = elim (int_cmp (pos j) (pos k)) as (λ r. int_cmp (pos j) (pos k) ≡ r → is_eq r ≡ false) [
  | Less ↦ λ e. refl
  | Equal ↦ λ e. absurd (apart (ap nat_abs (exact_signed (pos j) (pos k) e)))
  | Greater ↦ λ e. refl
] refl

texts_below : (ts : List Text) (k j : ℕ) → j < k → texts_of (numbered_fields k ts) (pos j) ≡ []
texts_below [] k j lt = refl
texts_below (t ∷ ts) k j lt =
    let rest = texts_of (numbered_fields (k + 1) ts) (pos j) in
    ap (λ b. cond b (t ∷ []) [] ++ rest) (other_id j k (λ e. absurd (omega (arith, e, lt)))) ∙ texts_below ts (k + 1) j (omega (arith, lt))

texts_at : (ts : List Text) (k j i : ℕ) (t : Text) → j ≡ k + i → slice_get ts i ≡ Some t → texts_of (numbered_fields k ts) (pos j) ≡ t ∷ []
texts_at [] k j i t e at = absurd cc
texts_at (u ∷ ts) k j zero t e at =
    let rest = texts_of (numbered_fields (k + 1) ts) (pos j) in
    ap (λ b. cond b (u ∷ []) [] ++ rest) (same_id j k (omega (arith, e))) ∙ ap (λ us. u ∷ us) (texts_below ts (k + 1) j (omega (arith, e))) ∙ ap (λ x. x ∷ []) (same_Some u t at)
texts_at (u ∷ ts) k j (suc i) t e at =
    let rest = texts_of (numbered_fields (k + 1) ts) (pos j) in
    ap (λ b. cond b (u ∷ []) [] ++ rest) (other_id j k (λ same. absurd (omega (arith, e, same)))) ∙ texts_at ts (k + 1) j i t (omega (arith, e)) at

pub texts_numbered : (ts : List Text) (t : Text) (id : ℤ) → IsNumbered ts t id → texts_of (numbered_fields 1 ts) id ≡ t ∷ []
texts_numbered ts t id n = ap (texts_of (numbered_fields 1 ts)) n.is ∙ texts_at ts 1 (n.at + 1) n.at t (omega arith) n.there
