-- Combined data don't depend on the order of the inputs, hold the same rows whatever is repeated, and may be combined in groups.
use Rattle.std.proofs.Common.{◌≡◌, ℕ, suc, zero, ◌<◌, Bool, true, false, not, cond, List, [], ◌∷◌, ◌++◌, length, get_or, set, Option, Some, None, is_some, refl, ap, sym, ◌∙◌, arith}
use Rattle.std.specs.declared.cmp.Ordering.TheVariants.{Less, Equal, Greater}
use Rattle.std.specs.Prelude.{◌||◌, Contains, ◌↔◌}
use Rattle.std.specs.Bool.{beq}
use Rattle.std.specs.Ordering.{is_eq}
use Rattle.std.specs.Option.{unwrap_or}
use Rattle.std.specs.List.{fold, list_any, swap, AllByRecursion}
use Rattle.std.specs.List.Sorted.{IsPermutation}
use Rattle.std.specs.FinMap.{get, entries, get-insert, get-empty, get_tied, same_map}
use Rattle.std.proofs.lemmas.List.Sorted.{IsPermutation-keeps, list_any-IsPermutation, length_permutation}
use Rattle.std.proofs.lemmas.List.Sums.{fold-append}
use Rattle.std.proofs.lemmas.List.Folds.{Any-from_list_any, list_any_at}
use Rattle.std.proofs.lemmas.List.{get_or_default}
use Rattle.std.specs.Cmp.{both_ways}
use Rattle.std.proofs.lemmas.List.Elements.{recursion_from_All, All-weaker}
use Rattle.cov_data.specs.DataSet.{Text, text_cmp, Place, File, Files, DataSet, no_data, no_files, no_rows, joined_count, file_in, has_path, merged, add_file, with_file, all_files}
use Rattle.cov_data.proofs.FileViews.{text_cmp_total, text_cmp_same}
use Rattle.cov_data.proofs.Merging.{joined, joined_file, get-merged, get-all_files, merged-none, all_files-none, none-all_files, all_files-comm, all_files-assoc}
use Rattle.cov_data.proofs.Soundness.{file_in-none, file_in-all_files}
use Rattle.cov_data.proofs.RowLists.{get-each}
use Rattle.cov_combine.specs.Combined.{with_renamed, flag_of, combined, has_row, HoldsAlike}
use Rattle.cov_combine.proofs.Unions.{flag_at, flag_of-first}

-- ---- the files of one input under their aliases, by themselves

abbrev pub renamed : (Text → Text) → List (Text × File) → Files → Files
renamed alias es m = fold (λ m e. add_file m (alias e.0) e.1) m es

add_file-alone : (a : Files) (p : Text) (g : File) → add_file a p g ≡ all_files a (add_file no_files p g)
add_file-alone a p g =
    let alone : merged (file_in no_files p) g ≡ g = ap (λ f. merged f g) (file_in-none p) ∙ merged-none g in
    same_map text_cmp_total text_cmp_same _ _ (λ q.
    get-insert text_cmp_total a p (merged (file_in a p) g) q
    ∙ elim (text_cmp q p) as (λ r. text_cmp q p ≡ r → cond (is_eq r) (Some (merged (file_in a p) g)) (get a q) ≡ joined joined_file (get a q) (cond (is_eq r) (Some g) None)) [
      | Less ↦ λ t. refl
      | Equal ↦ λ t. ap (λ o. Some (merged (unwrap_or o no_rows) g)) (get_tied text_cmp_total a q p t)
      | Greater ↦ λ t. refl
    ] refl
    ∙ ap (joined joined_file (get a q)) (sym (get-insert text_cmp_total no_files p (merged (file_in no_files p) g) q
    ∙ ap (λ f. cond (is_eq (text_cmp q p)) (Some f) (get no_files q)) alone
    ∙ ap (cond (is_eq (text_cmp q p)) (Some g)) (get-empty text_cmp q)))
    ∙ sym (get-all_files a (add_file no_files p g) q))

renamed-alone : (alias : Text → Text) (es : List (Text × File)) (a : Files) → renamed alias es a ≡ all_files a (renamed alias es no_files)
renamed-alone alias [] a = sym (none-all_files a)
renamed-alone alias (e ∷ es) a =
    let s = add_file no_files (alias e.0) e.1 in
    renamed-alone alias es (add_file a (alias e.0) e.1)
    ∙ ap (λ m. all_files m (renamed alias es no_files)) (add_file-alone a (alias e.0) e.1)
    ∙ all_files-assoc a s (renamed alias es no_files)
    ∙ ap (all_files a) (sym (renamed-alone alias es s))

-- the files of an input, each under its alias
abbrev pub alone : (Text → Text) → DataSet → Files
alone alias d = renamed alias (entries d.files) no_files

abbrev pub joined_input : (Text → Text) → Files → DataSet → Files
joined_input alias m d = all_files m (alone alias d)

along : (alias : Text → Text) (es : List (Text × File)) (a : DataSet) → fold (λ m e. with_file m (alias e.0) e.1) a es ≡ record { arcs = a.arcs; files = renamed alias es a.files }
along alias [] a = refl
along alias (e ∷ es) a = along alias es (with_file a (alias e.0) e.1)

with_renamed-alone : (alias : Text → Text) (a d : DataSet) → with_renamed alias a d ≡ record { arcs = a.arcs; files = joined_input alias a.files d }
with_renamed-alone alias a d = along alias (entries d.files) a ∙ (λ i. record { arcs = a.arcs; files = renamed-alone alias (entries d.files) a.files i })

united_from : (alias : Text → Text) (ds : List DataSet) (a : DataSet) → fold (with_renamed alias) a ds ≡ record { arcs = a.arcs; files = fold (joined_input alias) a.files ds }
united_from alias [] a = refl
united_from alias (d ∷ ds) a = ap (λ m. fold (with_renamed alias) m ds) (with_renamed-alone alias a d) ∙ united_from alias ds (record { arcs = a.arcs; files = joined_input alias a.files d })

-- combined data are the union of the inputs' files
pub combined-alone : (alias : Text → Text) (ds : List DataSet) → combined alias ds ≡ record { arcs = flag_of ds; files = fold (joined_input alias) no_files ds }
combined-alone alias ds = united_from alias ds (no_data (flag_of ds))

-- ---- in any order

inputs-comm : (alias : Text → Text) (m : Files) (x y : DataSet) → joined_input alias (joined_input alias m x) y ≡ joined_input alias (joined_input alias m y) x
inputs-comm alias m x y = all_files-assoc m (alone alias x) (alone alias y) ∙ ap (all_files m) (all_files-comm (alone alias x) (alone alias y)) ∙ sym (all_files-assoc m (alone alias y) (alone alias x))

module _ {X Y : Type 0} (f : Y → X → Y) (comm : (a : Y) (x y : X) → f (f a x) y ≡ f (f a y) x) where
  fold-exchange : (xs : List X) (j : ℕ) (a : Y) (x d : X) → j < length xs → fold f (f a (get_or xs j d)) (set xs j x) ≡ fold f (f a x) xs
  fold-exchange [] j a x d h = absurd (omega arith)
  fold-exchange (y ∷ ys) zero a x d h = ap (λ b. fold f b ys) (comm a y x)
  fold-exchange (z ∷ zs) (suc j) a x d h =
      ap (λ b. fold f b (set zs j x)) (comm a (get_or zs j d) z) ∙ fold-exchange zs j (f a z) x d (omega arith) ∙ ap (λ b. fold f b zs) (comm a z x)

  fold-swapped : (xs : List X) (i j : ℕ) (a : Y) (d : X) → i < length xs → j < length xs → fold f a (set (set xs i (get_or xs j d)) j (get_or xs i d)) ≡ fold f a xs
  fold-swapped [] i j a d h k = absurd (omega arith)
  fold-swapped (x ∷ xs) zero zero a d h k = refl
  fold-swapped (x ∷ xs) zero (suc j) a d h k = fold-exchange xs j a x d (omega arith)
  fold-swapped (x ∷ xs) (suc i) zero a d h k = fold-exchange xs i a x d (omega arith)
  fold-swapped (x ∷ xs) (suc i) (suc j) a d h k = fold-swapped xs i j (f a x) d (omega arith) (omega arith)

  fold-swap : (xs : List X) (i j : ℕ) (a : Y) → i < length xs → j < length xs → fold f a (swap xs i j) ≡ fold f a xs
  fold-swap [] i j a h k = refl
  fold-swap (x ∷ xs) i j a h k = fold-swapped (x ∷ xs) i j a x h k

  pub fold-IsPermutation : (xs ys : List X) (a : Y) → IsPermutation xs ys → fold f a ys ≡ fold f a xs
  fold-IsPermutation xs ys a moved = IsPermutation-keeps xs (λ l. fold f a l ≡ fold f a xs) refl (λ l i j h k e. fold-swap l i j a h k ∙ e) ys moved

-- the inputs that are alike have one flag, in whatever order
flag_of-alike : (ds : List DataSet) (flag : Bool) (x : DataSet) → 0 < length ds → list_any (λ d. not (beq d.arcs flag)) ds ≡ false → flag_of ds ≡ flag
flag_of-alike ds flag x h alike = flag_of-first ds x h ∙ flag_at ds flag 0 x h alike

pub combined-any_order : (alias : Text → Text) (ds es : List DataSet) → 0 < length ds → list_any (λ d. not (beq d.arcs (flag_of ds))) ds ≡ false → IsPermutation ds es → combined alias ds ≡ combined alias es
combined-any_order alias ds es some alike moved =
    let flags : flag_of es ≡ flag_of ds = flag_of-alike es (flag_of ds) (no_data false) (omega (arith, length_permutation ds es moved, some)) (sym (list_any-IsPermutation (λ d. not (beq d.arcs (flag_of ds))) ds es moved) ∙ alike) in
    combined-alone alias ds
    ∙ (λ i. record { arcs = sym flags i; files = sym (fold-IsPermutation (joined_input alias) (inputs-comm alias) ds es no_files moved) i })
    ∙ sym (combined-alone alias es)

-- ---- whatever is repeated

is_some-joined : {X : Type 0} (op : Option X → X → X) (x y : Option X) → is_some (joined op x y) ≡ (is_some x || is_some y)
is_some-joined op None None = refl
is_some-joined op (Some x) None = refl
is_some-joined op None (Some y) = refl
is_some-joined op (Some x) (Some y) = refl

or-assoc : (a b c : Bool) → ((a || b) || c) ≡ (a || (b || c))
or-assoc true b c = refl
or-assoc false b c = refl

has_path-along : (alias : Text → Text) (p : Text) (ds : List DataSet) (m : Files)
    → is_some (get (fold (joined_input alias) m ds) p) ≡ (is_some (get m p) || list_any (λ d. is_some (get (alone alias d) p)) ds)
has_path-along alias p [] m = elim (is_some (get m p)) as (λ b. b ≡ (b || false)) [ true ↦ refl | false ↦ refl ]
has_path-along alias p (d ∷ ds) m =
    let rest = list_any (λ d. is_some (get (alone alias d) p)) ds in
    has_path-along alias p ds (joined_input alias m d)
    ∙ ap (λ b. b || rest) (ap is_some (get-all_files m (alone alias d) p) ∙ is_some-joined joined_file (get m p) (get (alone alias d) p))
    ∙ or-assoc (is_some (get m p)) (is_some (get (alone alias d) p)) rest

has_row-along : (alias : Text → Text) (p : Text) (k : Place) (ds : List DataSet) (m : Files)
    → is_some (get (file_in (fold (joined_input alias) m ds) p) k) ≡ (is_some (get (file_in m p) k) || list_any (λ d. is_some (get (file_in (alone alias d) p) k)) ds)
has_row-along alias p k [] m = elim (is_some (get (file_in m p) k)) as (λ b. b ≡ (b || false)) [ true ↦ refl | false ↦ refl ]
has_row-along alias p k (d ∷ ds) m =
    let rest = list_any (λ d. is_some (get (file_in (alone alias d) p) k)) ds in
    has_row-along alias p k ds (joined_input alias m d)
    ∙ ap (λ b. b || rest) (ap (λ f. is_some (get f k)) (file_in-all_files m (alone alias d) p) ∙ ap is_some (get-merged (file_in m p) (file_in (alone alias d) p) k)
    ∙ is_some-joined joined_count (get (file_in m p) k) (get (file_in (alone alias d) p) k))
    ∙ or-assoc (is_some (get (file_in m p) k)) (is_some (get (file_in (alone alias d) p) k)) rest

-- a test that some input passes depends on the members alone
member_passes : (t : DataSet → Bool) (ds es : List DataSet) → ((d : DataSet) → Contains ds d → Contains es d) → list_any t ds ≡ true → list_any t es ≡ true
member_passes t ds es members h =
    let passing = Any-from_list_any t ds h in
    let there = members passing.1 (passing.0, passing.2, passing.3) in
    list_any_at t es there.0 passing.1 there.1 (ap t there.2 ∙ passing.4)

same_members : (t : DataSet → Bool) (ds es : List DataSet) → ((d : DataSet) → Contains ds d ↔ Contains es d) → list_any t ds ≡ list_any t es
same_members t ds es members = both_ways (list_any t ds) (list_any t es) (member_passes t ds es (λ d. (members d).0)) (member_passes t es ds (λ d. (members d).1))

pub combined-repeats : (alias : Text → Text) (ds es : List DataSet) → 0 < length ds → list_any (λ d. not (beq d.arcs (flag_of ds))) ds ≡ false
    → ((d : DataSet) → Contains ds d ↔ Contains es d) → HoldsAlike (combined alias ds) (combined alias es)
combined-repeats alias ds es some alike members =
    let first = get_or ds 0 (no_data false) in
    let there = (members first).0 (0, some, get_or_default ds 0 first (no_data false) some) in
    let flags : flag_of es ≡ flag_of ds = flag_of-alike es (flag_of ds) (no_data false) (omega (arith, there.1)) (sym (same_members (λ d. not (beq d.arcs (flag_of ds))) ds es members) ∙ alike) in
    let alone_ds = combined-alone alias ds in
    let alone_es = combined-alone alias es in
    record {
      flag = ap (λ (d : DataSet). d.arcs) alone_ds ∙ sym flags ∙ sym (ap (λ (d : DataSet). d.arcs) alone_es);
      paths = λ p. ap (λ d. has_path d p) alone_ds ∙ has_path-along alias p ds no_files
          ∙ ap (λ b. is_some (get no_files p) || b) (same_members (λ d. is_some (get (alone alias d) p)) ds es members)
          ∙ sym (ap (λ d. has_path d p) alone_es ∙ has_path-along alias p es no_files);
      rows = λ p k. ap (λ d. has_row d p k) alone_ds ∙ has_row-along alias p k ds no_files
          ∙ ap (λ b. is_some (get (file_in no_files p) k) || b) (same_members (λ d. is_some (get (file_in (alone alias d) p) k)) ds es members)
          ∙ sym (ap (λ d. has_row d p k) alone_es ∙ has_row-along alias p k es no_files);
    }

-- ---- in groups

unmoved : (alias : Text → Text) (es : List (Text × File)) (m : Files) → AllByRecursion (λ e. alias e.0 ≡ e.0) es → renamed alias es m ≡ fold (λ m e. add_file m e.0 e.1) m es
unmoved alias [] m h = refl
unmoved alias (e ∷ es) m h = ap (λ p. renamed alias es (add_file m p e.1)) h.0 ∙ unmoved alias es (add_file m e.0 e.1) h.1

alone-unmoved : (alias : Text → Text) (d : DataSet) → ((p : Text) → has_path d p ≡ true → alias p ≡ p) → alone alias d ≡ d.files
unfolding all_files
alone-unmoved alias d fixed =
    unmoved alias (entries d.files) no_files (recursion_from_All (λ e. alias e.0 ≡ e.0) (entries d.files)
    (All-weaker (λ e. get d.files e.0 ≡ Some e.1) (λ e. alias e.0 ≡ e.0) (λ e held. fixed e.0 (ap is_some held)) (entries d.files) (get-each text_cmp_total d.files)))
    ∙ all_files-none d.files

flag_of-append : (ds more : List DataSet) → 0 < length ds → flag_of (ds ++ more) ≡ flag_of ds
flag_of-append [] more h = absurd (omega arith)
flag_of-append (d ∷ ds) more h = refl

pub combined-grouped : (alias : Text → Text) (ds more : List DataSet) → 0 < length ds → ((p : Text) → has_path (combined alias ds) p ≡ true → alias p ≡ p)
    → combined alias (combined alias ds ∷ more) ≡ combined alias (ds ++ more)
combined-grouped alias ds more some fixed =
    let all = combined alias ds in
    let flag : all.arcs ≡ flag_of ds = ap (λ (d : DataSet). d.arcs) (combined-alone alias ds) in
    let again : with_renamed alias (no_data all.arcs) all ≡ all =
    with_renamed-alone alias (no_data all.arcs) all ∙ (λ i. record { arcs = all.arcs; files = (all_files-none (alone alias all) ∙ alone-unmoved alias all fixed) i }) in
    ap (λ m. fold (with_renamed alias) m more) again
    ∙ sym (fold-append (with_renamed alias) (no_data (flag_of ds)) ds more)
    ∙ ap (λ b. fold (with_renamed alias) (no_data b) (ds ++ more)) (sym (flag_of-append ds more some))
