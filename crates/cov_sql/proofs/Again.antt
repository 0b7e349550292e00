-- Data are made again of their paths and their rows.
--     made_again      data without rows that have the paths, and then take the rows
use Rattle.std.proofs.Common.{◌≡◌, ℕ, Bool, true, false, cond, List, [], ◌∷◌, map, Option, Some, None, is_some, refl, ap, sym, ◌∙◌}
use Rattle.std.specs.Prelude.{◌||◌}
use Rattle.std.specs.Ordering.{eq_by_cmp, is_eq}
use Rattle.std.specs.Cmp.{tied_itself}
use Rattle.std.specs.Option.{unwrap_or}
use Rattle.std.specs.List.{AllByRecursion, fold, flat_map, list_any}
use Rattle.std.specs.FinMap.{get, insert, entries, keys, get-empty, get-insert, contains_key-keys, same_map}
use Rattle.std.proofs.lemmas.Grind.{fold-append}
use Rattle.std.proofs.lemmas.List.Elements.{recursion_from_All}
use Rattle.cov_data.specs.DataSet.{Text, text_cmp, Place, File, Files, DataSet, no_rows, no_files, no_data, merged, all_files, file_in, add_path, add_count, add_row, add_file, with_path}
use Rattle.cov_data.specs.Rows.{RowView, row_of, file_rows, files_rows, with_row, paths_of, rows_of}
use Rattle.cov_data.proofs.MapViews.{insert-same, some_from_is_some}
use Rattle.cov_data.proofs.FileViews.{text_cmp_total, text_cmp_same}
use Rattle.cov_data.proofs.Merging.{joined, joined_file, get-all_files, merged-none}
use Rattle.cov_data.proofs.Soundness.{file_in-none, file_in-insert}
use Rattle.cov_data.proofs.RowLists.{get-each}

-- ---- the files alone

abbrev take_row : Files → RowView → Files
take_row m r = add_row m r.path (r.context, (r.from, r.to)) r.count

with_rows : (d : DataSet) (rs : List RowView) → fold with_row d rs ≡ record d { files = fold take_row d.files rs }
with_rows d [] = refl
with_rows d (r ∷ rs) = with_rows (with_row d r) rs

with_paths : (d : DataSet) (ps : List Text) → fold with_path d ps ≡ record d { files = fold add_path d.files ps }
with_paths d [] = refl
with_paths d (p ∷ ps) = with_paths (with_path d p) ps

-- ---- the rows of one file

again : (b : Bool) (x y : File) (o : Option File) → cond b (Some y) (cond b (Some x) o) ≡ cond b (Some y) o
again true x y o = refl
again false x y o = refl

insert_again : (m : Files) (p : Text) (f g : File) → insert (insert m p f) p g ≡ insert m p g
insert_again m p f g = same_map text_cmp_total text_cmp_same _ _ (λ q.
    get-insert text_cmp_total (insert m p f) p g q ∙ ap (cond (eq_by_cmp text_cmp q p) (Some g)) (get-insert text_cmp_total m p f q)
    ∙ again (eq_by_cmp text_cmp q p) f g (get m q) ∙ sym (get-insert text_cmp_total m p g q))

inserted : (m : Files) (p : Text) (f : File) → get (insert m p f) p ≡ Some f
inserted m p f = get-insert text_cmp_total m p f p ∙ ap (λ r. cond (is_eq r) (Some f) (get m p)) (tied_itself text_cmp_total p)

abbrev count_more : File → Place × ℕ → File
count_more f x = add_count f x.0 x.1

rows_of_path : (p : Text) (xs : List (Place × ℕ)) (m : Files) (f : File) → get m p ≡ Some f → fold take_row m (map (row_of p) xs) ≡ insert m p (fold count_more f xs)
rows_of_path p [] m f here = sym (insert-same text_cmp_total text_cmp_same m p f here)
rows_of_path p (x ∷ xs) m f here =
    let is : add_row m p x.0 x.1 ≡ insert m p (count_more f x) = ap (λ o. insert m p (count_more (unwrap_or o no_rows) x)) here in
    ap (λ n. fold take_row n (map (row_of p) xs)) is
    ∙ rows_of_path p xs (insert m p (count_more f x)) (count_more f x) (inserted m p (count_more f x))
    ∙ insert_again m p (count_more f x) (fold count_more (count_more f x) xs)

file_taken : (p : Text) (f : File) (m : Files) (g : File) → get m p ≡ Some g → fold take_row m (file_rows p f) ≡ add_file m p f
unfolding merged
file_taken p f m g here = rows_of_path p (entries f) m g here ∙ sym (ap (λ o. insert m p (merged (unwrap_or o no_rows) f)) here)

-- ---- the rows of all files

abbrev IsPresent : Files → Text → Type 0
IsPresent m p = is_some (get m p) ≡ true

kept_present : (b : Bool) (f : File) (o : Option File) → is_some o ≡ true → is_some (cond b (Some f) o) ≡ true
kept_present true f o h = refl
kept_present false f o h = h

stay_present : (m : Files) (p : Text) (f : File) (es : List (Text × File)) → AllByRecursion (λ e. IsPresent m e.0) es → AllByRecursion (λ e. IsPresent (insert m p f) e.0) es
stay_present m p f [] h = tt
stay_present m p f (e ∷ es) h = (ap is_some (get-insert text_cmp_total m p f e.0) ∙ kept_present (eq_by_cmp text_cmp e.0 p) f (get m e.0) h.0, stay_present m p f es h.1)

abbrev file_more : Files → Text × File → Files
file_more m e = add_file m e.0 e.1

all_taken : (es : List (Text × File)) (m : Files) → AllByRecursion (λ e. IsPresent m e.0) es → fold take_row m (flat_map (λ e. file_rows e.0 e.1) es) ≡ fold file_more m es
all_taken [] m h = refl
all_taken (e ∷ es) m h =
    let held = some_from_is_some (get m e.0) h.0 in
    fold-append take_row m (file_rows e.0 e.1) (flat_map (λ e. file_rows e.0 e.1) es)
    ∙ ap (λ n. fold take_row n (flat_map (λ e. file_rows e.0 e.1) es)) (file_taken e.0 e.1 m held.0 held.1)
    ∙ all_taken es (file_more m e) (stay_present m e.0 (merged (file_in m e.0) e.1) es h.1)

-- ---- the paths first

or_swap : (a b c : Bool) → (b || (a || c)) ≡ ((a || b) || c)
or_swap true true c = refl
or_swap true false c = refl
or_swap false b c = refl

some_or : (b : Bool) (f : File) (o : Option File) → is_some (cond b (Some f) o) ≡ (b || is_some o)
some_or true f o = refl
some_or false f o = refl

paths_present : (ps : List Text) (m : Files) (q : Text) → is_some (get (fold add_path m ps) q) ≡ (list_any (eq_by_cmp text_cmp q) ps || is_some (get m q))
paths_present [] m q = refl
paths_present (p ∷ ps) m q =
    paths_present ps (add_path m p) q
    ∙ ap (λ b. list_any (eq_by_cmp text_cmp q) ps || b) (ap is_some (get-insert text_cmp_total m p (file_in m p) q) ∙ some_or (eq_by_cmp text_cmp q p) (file_in m p) (get m q))
    ∙ or_swap (eq_by_cmp text_cmp q p) (list_any (eq_by_cmp text_cmp q) ps) (is_some (get m q))

same_twice : (b : Bool) (f : File) → cond b f f ≡ f
same_twice true f = refl
same_twice false f = refl

paths_bare : (ps : List Text) (m : Files) → ((q : Text) → file_in m q ≡ no_rows) → (q : Text) → file_in (fold add_path m ps) q ≡ no_rows
paths_bare [] m h q = h q
paths_bare (p ∷ ps) m h q = paths_bare ps (add_path m p) (λ r.
    file_in-insert m p (file_in m p) r ∙ (λ i. cond (eq_by_cmp text_cmp r p) (h p i) (h r i)) ∙ same_twice (eq_by_cmp text_cmp r p) no_rows) q

abbrev bare : Files → Files
bare m = fold add_path no_files (keys m)

or_false : (b : Bool) → (b || false) ≡ b
or_false true = refl
or_false false = refl

bare_present : (m : Files) (q : Text) → is_some (get (bare m) q) ≡ is_some (get m q)
bare_present m q =
    paths_present (keys m) no_files q ∙ ap (λ (o : Option File). list_any (eq_by_cmp text_cmp q) (keys m) || is_some o) (get-empty text_cmp q)
    ∙ or_false (list_any (eq_by_cmp text_cmp q) (keys m)) ∙ sym (contains_key-keys m q)

-- what is joined to nothing
joined_bare : (x y : Option File) → is_some x ≡ is_some y → unwrap_or x no_rows ≡ no_rows → joined joined_file x y ≡ y
joined_bare None None same none = refl
joined_bare (Some f) None same none = absurd cc
joined_bare x (Some g) same none = ap Some (ap (λ f. merged f g) none ∙ merged-none g)

all_bare : (m : Files) → all_files (bare m) m ≡ m
all_bare m = same_map text_cmp_total text_cmp_same _ _ (λ q.
    get-all_files (bare m) m q ∙ joined_bare (get (bare m) q) (get m q) (bare_present m q) (paths_bare (keys m) no_files file_in-none q))

keys_present : (m n : Files) → ((q : Text) → is_some (get n q) ≡ is_some (get m q)) → (es : List (Text × File)) → AllByRecursion (λ e. get m e.0 ≡ Some e.1) es → AllByRecursion (λ e. IsPresent n e.0) es
keys_present m n same [] h = tt
keys_present m n same (e ∷ es) h = (same e.0 ∙ ap is_some h.0, keys_present m n same es h.1)

files_again : (m : Files) → fold take_row (bare m) (files_rows m) ≡ m
unfolding all_files
files_again m =
    all_taken (entries m) (bare m) (keys_present m (bare m) (bare_present m) (entries m) (recursion_from_All (λ e. get m e.0 ≡ Some e.1) (entries m) (get-each text_cmp_total m)))
    ∙ all_bare m

pub made_again : (d : DataSet) (arcs : Bool) → d.arcs ≡ arcs → fold with_row (fold with_path (no_data arcs) (paths_of d)) (rows_of d) ≡ d
made_again d arcs is =
    ap (λ e. fold with_row e (rows_of d)) (with_paths (no_data arcs) (paths_of d))
    ∙ with_rows (record { arcs = arcs; files = bare d.files }) (rows_of d)
    ∙ (λ i. record { arcs = sym is i; files = files_again d.files i })
