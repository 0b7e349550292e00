-- The contexts of rows, one more each time.
use Rattle.std.proofs.Common.{Vec, Result, Ok, Err, IfOk, ◌≤◌, subst, ◌≡◌, ℕ, zero, suc, String, ◌+◌, ◌<◌, arith, List, [], ◌∷◌, map, drop, length, get_or, slice_get, Some, drop-cons, string_bytes, refl, sym, ap, ◌∙◌}
use Rattle.std.specs.declared.cmp.Ordering.{Ordering}
use Rattle.std.specs.declared.cmp.Ordering.TheVariants.{Less, Equal, Greater}
use Rattle.std.specs.Ordering.{match_ordering}
use Rattle.std.specs.List.{fold, AllZip, HoldsAt}
use Rattle.std.specs.declared.alloc.Global.{Global}
use Rattle.std.specs.Borrow.{Bor}
use Rattle.std.proofs.lemmas.Map.Lookups.{exact_bytes}
use Rattle.std.specs.BTreeSet.{insert_key}
use Rattle.cov_data.specs.DataSet.{Text, text_cmp}
use Rattle.cov_data.specs.Rows.{lent_view, RowView}
use Rattle.cov_data.specs.declared.rows.LentRow.{LentRow}
use Rattle.cov_data.specs.DataSet.{DataSet}
use Rattle.cov_data.specs.Rows.{rows_of, paths_of}
use Rattle.cov_sql.specs.declared.saved.SavedRow.{SavedRow}
use Rattle.cov_sql.specs.SavedData.{lent_texts, contexts_in, IsSavedRow}

pub map-insert_key : {K B : Type 0} (S : B → B → Ordering) (f : K → B) (ks : List K) (k : K) → map f (insert_key (λ x y. S (f x) (f y)) ks k) ≡ insert_key S (map f ks) (f k)
map-insert_key S f [] k = refl
map-insert_key S f (x ∷ xs) k =
    elim (S (f k) (f x)) as (λ r. map f (match_ordering r (k ∷ x ∷ xs) (x ∷ xs) (x ∷ insert_key (λ y z. S (f y) (f z)) xs k)) ≡ match_ordering r (f k ∷ f x ∷ map f xs) (f x ∷ map f xs) (f x ∷ insert_key S (map f xs) (f k))) [
      | Less ↦ refl
      | Equal ↦ refl
      | Greater ↦ ap (λ ys. f x ∷ ys) (map-insert_key S f xs k)
    ]

abbrev pub text_in : Bor (List ℕ) → Text
text_in t = t.now

abbrev pub context_of : LentRow → Text
context_of r = r.context.now

pub contexts_are : (rows : List LentRow) → fold (insert_key text_cmp) [] (map context_of rows) ≡ contexts_in (map lent_view rows)
contexts_are rows = ap (fold (insert_key text_cmp) []) (mapped rows)
  where
    mapped : (rs : List LentRow) → map context_of rs ≡ map (λ (r : RowView). r.context) (map lent_view rs)
    mapped [] = refl
    mapped (r ∷ rs) = ap (λ ts. context_of r ∷ ts) (mapped rs)

-- what is left of a list at an index
pub drop_at : {X : Type 0} (xs : List X) (i : ℕ) (x : X) → i < length xs → x ≡ get_or xs i x → drop i xs ≡ x ∷ drop (i + 1) xs
drop_at xs i x below is = let next : suc i ≡ i + 1 = omega arith in drop-cons xs i x below ∙ (λ k. sym is k ∷ drop (next k) xs)

-- a row's context more among them
pub contexts_next : (rows : List LentRow) (i : ℕ) (d : LentRow) (ks more : List (Bor (List ℕ))) (all : List Text) → i < length rows → more ≡ insert_key (λ x y. text_cmp x.now y.now) ks (get_or rows i d).context
    → fold (insert_key text_cmp) (lent_texts ks) (map context_of (drop i rows)) ≡ all → fold (insert_key text_cmp) (lent_texts more) (map context_of (drop (i + 1) rows)) ≡ all
contexts_next rows i d ks more all low is was =
    let put = insert_key text_cmp in
    let row = get_or rows i d in
    let next : suc i ≡ i + 1 = omega arith in
    let split : drop i rows ≡ row ∷ drop (i + 1) rows = drop-cons rows i d low ∙ (λ k. row ∷ drop (next k) rows) in
    ap (λ xs. fold put (lent_texts xs) (map context_of (drop (i + 1) rows))) is
    ∙ ap (λ xs. fold put xs (map context_of (drop (i + 1) rows))) (map-insert_key text_cmp text_in ks row.context)
    ∙ ap (λ xs. fold put (lent_texts ks) (map context_of xs)) (sym split)
    ∙ was

pub mapped_zip : {A B C : Type 0} (f : A → B) (R : B → C → Type 0) (xs : List A) (ys : List C) → AllZip (λ x y. R (f x) y) xs ys → AllZip R (map f xs) ys
mapped_zip f R [] [] h = h
mapped_zip f R [] (y ∷ ys) h = absurd h
mapped_zip f R (x ∷ xs) [] h = absurd h
mapped_zip f R (x ∷ xs) (y ∷ ys) h = (h.0, mapped_zip f R xs ys h.1)

-- ---- where a text stands

pub stands_at : (texts : List (Bor (List ℕ))) (at : ℕ) (t : Bor (List ℕ)) → at < length texts → HoldsAt (λ y. text_cmp y.now t.now ≡ Equal) texts at
    → slice_get (lent_texts texts) at ≡ Some t.now
stands_at [] at t below h = absurd (omega (arith, below))
stands_at (x ∷ xs) zero t below h = ap Some (exact_bytes x.now t.now (h x))
stands_at (x ∷ xs) (suc at) t below h = stands_at xs at t (omega (arith, below)) h

pub drop_past : {X : Type 0} (xs : List X) (i : ℕ) → length xs ≤ i → drop i xs ≡ []
drop_past [] zero past = refl
drop_past [] (suc i) past = refl
drop_past (x ∷ xs) zero past = absurd (omega (arith, past))
drop_past (x ∷ xs) (suc i) past = drop_past xs i (omega (arith, past))

pub as_listed : {E : Type 0} (r : Result (Vec (Bor (List ℕ)) Global) E) (ks : List (Bor (List ℕ))) (ts : List Text) → IfOk r (λ v. v.items ≡ ks) → lent_texts ks ≡ ts → IfOk r (λ v. lent_texts v.items ≡ ts)
as_listed (Ok v) ks ts h is = ap lent_texts h ∙ is
as_listed (Err e) ks ts h is = tt

-- rows with the numbers of their texts, as rows of the data
pub rows_kept : (d : DataSet) (ps cs : List Text) (given : List LentRow) (rows : List SavedRow) → ps ≡ paths_of d → map lent_view given ≡ rows_of d → cs ≡ contexts_in (map lent_view given)
    → AllZip (λ r s. IsSavedRow ps cs (lent_view r) s) given rows → AllZip (IsSavedRow (paths_of d) (contexts_in (rows_of d))) (rows_of d) rows
rows_kept d ps cs given rows paths_are rows_are are h =
    let zipped = mapped_zip lent_view (IsSavedRow ps cs) given rows h in
    subst (λ p. AllZip (IsSavedRow p (contexts_in (rows_of d))) (rows_of d) rows) paths_are
    (subst (λ rs. AllZip (IsSavedRow ps (contexts_in rs)) rs rows) rows_are (subst (λ c. AllZip (IsSavedRow ps c) (map lent_view given) rows) are zipped))

pub if_ok : {X E : Type 0} (r : Result X E) (P : X → Type 0) → ((x : X) → P x) → IfOk r P
if_ok (Ok x) P f = f x
if_ok (Err e) P f = tt

-- the same, with what the code reads of the lists
pub rows_as : (ps : List Text) (cs cs' : List Text) (given given' : List LentRow) (rows : List SavedRow) → cs' ≡ cs → given' ≡ given
    → AllZip (λ r s. IsSavedRow ps cs' (lent_view r) s) given' rows → AllZip (λ r s. IsSavedRow ps cs (lent_view r) s) given rows
rows_as ps cs cs' given given' rows c g h =
    subst (λ x. AllZip (λ r s. IsSavedRow ps x (lent_view r) s) given rows) c
    (subst (λ x. AllZip (λ r s. IsSavedRow ps cs' (lent_view r) s) x rows) g h)

-- a string has this text
abbrev pub IsCopyOf : Bor (List ℕ) → String Global → Type 0
IsCopyOf t s = string_bytes s ≡ t.now

-- a text is that of this string
abbrev pub IsLentOf : String Global → Bor (List ℕ) → Type 0
IsLentOf s t = t.now ≡ string_bytes s

-- each text is that of a string
pub texts_alike : (ts : List (Bor (List ℕ))) (ss : List (String Global)) → AllZip IsCopyOf ts ss → map string_bytes ss ≡ lent_texts ts
texts_alike [] [] h = refl
texts_alike [] (s ∷ ss) h = absurd h
texts_alike (t ∷ ts) [] h = absurd h
texts_alike (t ∷ ts) (s ∷ ss) h = λ i. h.0 i ∷ texts_alike ts ss h.1 i

-- and each string has that text
pub lent_alike : (ss : List (String Global)) (ts : List (Bor (List ℕ))) → AllZip IsLentOf ss ts → lent_texts ts ≡ map string_bytes ss
lent_alike [] [] h = refl
lent_alike [] (t ∷ ts) h = absurd h
lent_alike (s ∷ ss) [] h = absurd h
lent_alike (s ∷ ss) (t ∷ ts) h = λ i. h.0 i ∷ lent_alike ss ts h.1 i
