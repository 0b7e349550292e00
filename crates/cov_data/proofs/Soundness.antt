-- That every row is in range, through each change; and what a file holds after it.
use Rattle.std.proofs.Common.{◌≡◌, ℕ, ℤ, ◌<◌, ◌≤◌, Bool, true, false, cond, Option, Some, None, refl, ap, sym, subst, ◌∙◌, arith, Result, Ok, Err, OnOk, OnErr, is_some, pos, negsuc, rules}
use Rattle.std.specs.declared.cmp.Ordering.TheVariants.{Less, Equal, Greater}
use Rattle.std.specs.Prelude.{◌||◌, ◌≤ℤ◌}
use Rattle.std.specs.Option.{unwrap_or}
use Rattle.std.specs.Ordering.{is_eq, eq_by_cmp}
use Rattle.std.specs.FinMap.{get, insert, get-empty, get-insert}
use Rattle.cov_data.specs.DataSet.{Text, text_cmp, Place, place_cmp, File, Files, DataSet, add_counts, joined_count, add_count, merged, no_rows, no_files, file_in, file_of, all_files, union, has_path, count_at, with_path, with_file, IsNumber, IsInRange, IsSoundFile, IsSound}
use mir.Val.{SFits}
use mir.Syntax.{w32}
use Rattle.cov_data.proofs.FileViews.{place_cmp_total, place_cmp_same, text_cmp_total}
use Rattle.cov_data.proofs.Merging.{joined, joined_file, get-merged, get-all_files, none-merged}

-- ---- a file of a changed map

pub file_in-none : (p : Text) → file_in no_files p ≡ no_rows
file_in-none p = ap (λ o. unwrap_or o no_rows) (get-empty text_cmp p)

pub file_in-insert : (m : Files) (p : Text) (f : File) (q : Text) → file_in (insert m p f) q ≡ cond (eq_by_cmp text_cmp q p) f (file_in m q)
file_in-insert m p f q = ap (λ o. unwrap_or o no_rows) (get-insert text_cmp_total m p f q)
    ∙ elim (eq_by_cmp text_cmp q p) as (λ b. unwrap_or (cond b (Some f) (get m q)) no_rows ≡ cond b f (file_in m q)) [ true ↦ refl | false ↦ refl ]

file_joined : (x y : Option File) → unwrap_or (joined joined_file x y) no_rows ≡ merged (unwrap_or x no_rows) (unwrap_or y no_rows)
file_joined x None = sym (none-merged (unwrap_or x no_rows))
file_joined x (Some g) = refl

-- the file of a path in a union holds the rows of both
pub file_in-all_files : (a b : Files) (p : Text) → file_in (all_files a b) p ≡ merged (file_in a p) (file_in b p)
file_in-all_files a b p = ap (λ o. unwrap_or o no_rows) (get-all_files a b p) ∙ file_joined (get a p) (get b p)

-- ---- in range

pub none-sound : (arcs : Bool) → IsSoundFile arcs no_rows
none-sound arcs k n is = cc (get-empty {X = ℕ} place_cmp k)

pub no_files-sound : (arcs : Bool) (p : Text) → IsSoundFile arcs (file_in no_files p)
no_files-sound arcs p = subst (IsSoundFile arcs) (sym (file_in-none p)) (none-sound arcs)

module _ (arcs : Bool) (m : Files) (sound : (p : Text) → IsSoundFile arcs (file_in m p)) where
  pub insert-sound : (p : Text) (f : File) → IsSoundFile arcs f → (q : Text) → IsSoundFile arcs (file_in (insert m p f) q)
  insert-sound p f h q = subst (IsSoundFile arcs) (sym (file_in-insert m p f q))
      (elim (eq_by_cmp text_cmp q p) as (λ b. IsSoundFile arcs (cond b f (file_in m q))) [ true ↦ h | false ↦ sound q ])

joined_in_range : (x : Option ℕ) (n : ℕ) → 0 < n → n ≤ 4294967295 → (0 < joined_count x n) × (joined_count x n ≤ 4294967295)
joined_in_range None n low high = (low, high)
joined_in_range (Some m) n low high = (omega arith, omega arith)

in_range : (arcs : Bool) (f t : ℤ) (n m : ℕ) → IsInRange arcs f t n → 0 < m → IsInRange arcs f t m
in_range arcs f t n m h low = record { from_number = h.from_number; to_number = h.to_number; one_line = h.one_line; counted = low }

same_value : {X : Type 0} (x y : X) → Some x ≡ Some y → x ≡ y
same_value x y e = cc

pub add_count-sound : (arcs : Bool) (f : File) (k : Place) (n : ℕ) → IsSoundFile arcs f → IsInRange arcs k.1.0 k.1.1 n → n ≤ 4294967295 → IsSoundFile arcs (add_count f k n)
add_count-sound arcs f k n sound range high q v is =
    let joins = joined_in_range (get f k) n range.counted high in
    let w = joined_count (get f k) n in
    elim (place_cmp q k) as (λ r. place_cmp q k ≡ r → cond (is_eq r) (Some w) (get f q) ≡ Some v → IsInRange arcs q.1.0 q.1.1 v × (v ≤ 4294967295)) [
      | Less ↦ λ t e. sound q v e
      | Equal ↦ λ t e.
          subst (λ (x : ℕ). IsInRange arcs q.1.0 q.1.1 x × (x ≤ 4294967295)) (same_value w v e)
          (subst (λ (p : Place). IsInRange arcs p.1.0 p.1.1 w × (w ≤ 4294967295)) (sym (place_cmp_same q k t)) (in_range arcs k.1.0 k.1.1 n w range joins.0, joins.1))
      | Greater ↦ λ t e. sound q v e
    ] refl (sym (get-insert place_cmp_total f k w q) ∙ is)

merged_sound_at : (arcs : Bool) (k : Place) (x y : Option ℕ)
    → ((n : ℕ) → x ≡ Some n → IsInRange arcs k.1.0 k.1.1 n × (n ≤ 4294967295)) → ((n : ℕ) → y ≡ Some n → IsInRange arcs k.1.0 k.1.1 n × (n ≤ 4294967295))
    → (n : ℕ) → joined joined_count x y ≡ Some n → IsInRange arcs k.1.0 k.1.1 n × (n ≤ 4294967295)
merged_sound_at arcs k x None f g n is = f n is
merged_sound_at arcs k x (Some b) f g n is =
    let old = g b refl in
    let joins = joined_in_range x b old.0.counted old.1 in
    subst (λ (v : ℕ). IsInRange arcs k.1.0 k.1.1 v × (v ≤ 4294967295)) (same_value (joined_count x b) n is) (in_range arcs k.1.0 k.1.1 b (joined_count x b) old.0 joins.0, joins.1)

pub merged-sound : (arcs : Bool) (f g : File) → IsSoundFile arcs f → IsSoundFile arcs g → IsSoundFile arcs (merged f g)
merged-sound arcs f g a b k n is = merged_sound_at arcs k (get f k) (get g k) (a k) (b k) n (sym (get-merged f g k) ∙ is)

pub all_files-sound : (arcs : Bool) (a b : Files) → ((p : Text) → IsSoundFile arcs (file_in a p)) → ((p : Text) → IsSoundFile arcs (file_in b p)) → (p : Text) → IsSoundFile arcs (file_in (all_files a b) p)
all_files-sound arcs a b f g p = subst (IsSoundFile arcs) (sym (file_in-all_files a b p)) (merged-sound arcs (file_in a p) (file_in b p) (f p) (g p))

-- ---- what a union holds

has_joined : (x y : Option File) → is_some (joined joined_file x y) ≡ (is_some x || is_some y)
has_joined None None = refl
has_joined (Some f) None = refl
has_joined None (Some g) = refl
has_joined (Some f) (Some g) = refl

pub has_path-union : (a b : DataSet) (p : Text) → has_path (union a b) p ≡ (has_path a p || has_path b p)
has_path-union a b p = ap is_some (get-all_files a.files b.files p) ∙ has_joined (get a.files p) (get b.files p)

counts_joined : (x y : Option ℕ) → unwrap_or x 0 ≤ 4294967295 → unwrap_or y 0 ≤ 4294967295 → unwrap_or (joined joined_count x y) 0 ≡ add_counts (unwrap_or x 0) (unwrap_or y 0)
counts_joined None None a b = refl
counts_joined (Some m) None a b = omega arith
counts_joined None (Some n) a b = omega arith
counts_joined (Some m) (Some n) a b = refl

at_most : (x : Option ℕ) → ((n : ℕ) → x ≡ Some n → n ≤ 4294967295) → unwrap_or x 0 ≤ 4294967295
at_most None h = omega arith
at_most (Some n) h = h n refl

pub count_at-union : (a b : DataSet) → IsSound a → IsSound b → (p context : Text) (from to : ℤ) → count_at (union a b) p context from to ≡ add_counts (count_at a p context from to) (count_at b p context from to)
count_at-union a b f g p context from to =
    let k : Place = (context, (from, to)) in
    let x = get (file_of a p) k in
    let y = get (file_of b p) k in
    ap (λ h. unwrap_or (get h k) 0) (file_in-all_files a.files b.files p) ∙ ap (λ o. unwrap_or o 0) (get-merged (file_of a p) (file_of b p) k)
    ∙ counts_joined x y (at_most x (λ n e. (f p k n e).1)) (at_most y (λ n e. (g p k n e).1))

-- a map that is the next one or the old one
pub on_either : {T E : Type 0} (P : Files → Type 0) (r : Result T E) (new next old : Files) → OnOk r (new ≡ next) → OnErr r (new ≡ old) → P next → P old → P new
on_either P (Ok x) new next old ok err a b = subst P (sym ok) a
on_either P (Err e) new next old ok err a b = subst P (sym err) b

pub with_file-none : (d : DataSet) (p : Text) → with_file d p no_rows ≡ with_path d p
with_file-none d p = λ i. record d { files = insert d.files p (none-merged (file_in d.files p) i) }

-- a number of a row fits 32 bits
pub number_fits : (z : ℤ) → IsNumber z → SFits w32 z
number_fits (pos n) h = let high : pos n ≤ℤ pos 65535 = h.2 in search (rules, high)
number_fits (negsuc n) h = let low : negsuc 65534 ≤ℤ negsuc n = h.1 in search (rules, low)
