-- What a list of names holds, and what becomes of it where an entry is replaced, added or removed.
use Rattle.std.proofs.Common.{drop, drop-cons, Result, Ok, Err, IfOk, Vec, ◌≤◌, ◌≡◌, ℕ, suc, zero, ◌+◌, ◌<◌, Bool, true, false, cond, not, List, [], ◌∷◌, ◌++◌, length, get_or, set, map, Option, Some, None, String, string_bytes, refl, sym, ap, subst, ◌∙◌, arith}
use Rattle.std.specs.declared.alloc.Global.{Global}
use Rattle.std.specs.declared.cmp.Ordering.TheVariants.{Less, Equal, Greater}
use Rattle.std.specs.Prelude.{T, filter, is_some, ◌||◌}
use Rattle.std.specs.BTreeSet.{insert_key}
use Rattle.std.specs.String.{string_cmp}
use Rattle.std.specs.List.{position, position_from, list_any}
use Rattle.std.specs.Str.{bytes_eq}
use Rattle.std.specs.Ordering.{eq_by_cmp, match_ordering}
use Rattle.std.specs.Cmp.Lexicographic.{nat_list_eq_equiv}
use Rattle.std.specs.FinMap.{get, insert, from_entries, remove, keys, entries, entries_sorted, find, is_sorted, contains_key-keys, get-from_entries, get-insert, get-remove, from_entries_push, same_map}
use Rattle.std.specs.FinMap.Entries.{below_all}
use Rattle.std.proofs.lemmas.Map.Text.{is_eq-slice_cmp}
use Rattle.std.proofs.lemmas.List.{map-append}
use Rattle.std.proofs.lemmas.Iterator.Adapters.{position_from-zero}
use Rattle.std.proofs.lemmas.List.Quantifiers.{position-Some}
use Rattle.std.proofs.lemmas.Slice.Eq.{bytes_eq-Decides}
use Rattle.cov_data.specs.DataSet.{Text, text_cmp, rekeyed, DataSet, union, no_data}
use Rattle.cov_data.proofs.Merging.{all_files-none}
use Rattle.cov_data.proofs.FileViews.{text_cmp_total, text_cmp_same}
use Rattle.cov_data.specs.Rows.{distinct_in_order}
use Rattle.cov_data.proofs.MapViews.{first, second, both}
use Rattle.cov_data.proofs.Distinct.{marked, Rises, distinct_in_order-unique}
use Rattle.cov_vault.specs.declared.vault.Content.{Content}
use Rattle.cov_vault.specs.Contents.{contents_of}

abbrev pub Pair : Type 0
Pair = String Global × Content

-- the pair has this name
abbrev pub is_named : Text → Pair → Bool
is_named name pair = bytes_eq (string_bytes pair.0) name

-- what the first pair of the name holds
abbrev pub held : List Pair → Text → Option Content
held pairs name = find text_cmp name (rekeyed string_bytes pairs)

pub get-contents_of : (pairs : List Pair) (name : Text) → get (contents_of pairs) name ≡ held pairs name
get-contents_of pairs name = get-from_entries text_cmp_total (rekeyed string_bytes pairs) name

ties : (q key : Text) → eq_by_cmp text_cmp q key ≡ bytes_eq key q
ties q key = is_eq-slice_cmp q key ∙ nat_list_eq_equiv.symm q key

same_name : (name key : Text) → bytes_eq key name ≡ true → key ≡ name
same_name name key is = (bytes_eq-Decides key name).0 is

-- a key that differs from the name ties with nothing that ties with the name
apart : (name key q : Text) → bytes_eq key name ≡ false → bytes_eq name q ≡ true → bytes_eq key q ≡ false
apart name key q differs is = subst (λ x. bytes_eq key x ≡ false) (same_name q name is) differs

-- ---- the first pair of a name

none_from : (name : Text) (pairs : List Pair) (i : ℕ) → position_from (is_named name) i pairs ≡ None → held pairs name ≡ None
none_from name [] i none = refl
none_from name (pair ∷ pairs) i none =
    elim (is_named name pair) as (λ b. is_named name pair ≡ b → cond b (Some i) (position_from (is_named name) (i + 1) pairs) ≡ None → held (pair ∷ pairs) name ≡ None) [
      | true ↦ λ is h. absurd (cc)
      | false ↦ λ is h. rw (ties name (string_bytes pair.0), is) (none_from name pairs (i + 1) h)
    ] refl none

pub absent : (name : Text) (pairs : List Pair) → position (is_named name) pairs ≡ None → held pairs name ≡ None
absent name pairs none = none_from name pairs 0 (sym (position_from-zero (is_named name) pairs) ∙ none)

some_at : (name : Text) (pairs : List Pair) (i : ℕ) (d : Pair) → i < length pairs → is_named name (get_or pairs i d) ≡ true → ((k : ℕ) → k < i → is_named name (get_or pairs k d) ≡ false)
    → held pairs name ≡ Some (get_or pairs i d).1
some_at name [] i d low here before = absurd (omega arith)
some_at name (pair ∷ pairs) zero d low here before = rw (ties name (string_bytes pair.0), here) refl
some_at name (pair ∷ pairs) (suc i) d low here before =
    let other : is_named name pair ≡ false = before 0 (omega arith) in
    rw (ties name (string_bytes pair.0), other) (some_at name pairs i d (omega arith) here (λ k h. before (suc k) (omega arith)))

pub present : (name : Text) (pairs : List Pair) (i : ℕ) (d : Pair) → position (is_named name) pairs ≡ Some i → held pairs name ≡ Some (get_or pairs i d).1
present name pairs i d found = let at = position-Some (is_named name) pairs i d found in some_at name pairs i d at.0 at.1 at.2

-- ---- another content, another pair, a pair less

module _ (name : Text) (content : Content) (put : Pair) (named : string_bytes put.0 ≡ name) (holds : put.1 ≡ content) where
  after : (key q : Text) (c : Content) (old new : Option Content) → bytes_eq key name ≡ false → new ≡ cond (bytes_eq name q) (Some content) old
      → cond (bytes_eq key q) (Some c) new ≡ cond (bytes_eq name q) (Some content) (cond (bytes_eq key q) (Some c) old)
  after key q c old new differs rest =
      elim (bytes_eq name q) as (λ b. bytes_eq name q ≡ b → new ≡ cond b (Some content) old → cond (bytes_eq key q) (Some c) new ≡ cond b (Some content) (cond (bytes_eq key q) (Some c) old)) [
        | true ↦ λ is h. rw (apart name key q differs is) h
        | false ↦ λ is h. ap (cond (bytes_eq key q) (Some c)) h
      ] refl rest

  in_front : (key q : Text) (c : Content) (rest : Option Content) → key ≡ name
      → cond (bytes_eq (string_bytes put.0) q) (Some put.1) rest ≡ cond (bytes_eq name q) (Some content) (cond (bytes_eq key q) (Some c) rest)
  in_front key q c rest same =
      rw (named, holds, same) (elim (bytes_eq name q) as (λ b. cond b (Some content) rest ≡ cond b (Some content) (cond b (Some c) rest)) [ true ↦ refl | false ↦ refl ])

  held-set : (pairs : List Pair) (i : ℕ) (d : Pair) (q : Text) → i < length pairs → is_named name (get_or pairs i d) ≡ true → ((k : ℕ) → k < i → is_named name (get_or pairs k d) ≡ false)
      → held (set pairs i put) q ≡ cond (bytes_eq name q) (Some content) (held pairs q)
  held-set [] i d q low here before = absurd (omega arith)
  held-set (pair ∷ pairs) zero d q low here before =
      rw (ties q (string_bytes put.0), ties q (string_bytes pair.0)) (in_front (string_bytes pair.0) q pair.1 (held pairs q) (same_name name (string_bytes pair.0) here))
  held-set (pair ∷ pairs) (suc i) d q low here before =
      rw (ties q (string_bytes pair.0))
      (after (string_bytes pair.0) q pair.1 (held pairs q) _ (before 0 (omega arith)) (held-set pairs i d q (omega arith) here (λ k h. before (suc k) (omega arith))))

  -- the content of the first pair of the name is replaced
  pub replaced : (pairs : List Pair) (i : ℕ) (d : Pair) → position (is_named name) pairs ≡ Some i → contents_of (set pairs i put) ≡ insert (contents_of pairs) name content
  replaced pairs i d found = same_map text_cmp_total text_cmp_same _ _ (λ q.
      let at = position-Some (is_named name) pairs i d found in
      get-contents_of (set pairs i put) q ∙ held-set pairs i d q at.0 at.1 at.2
      ∙ (λ k. cond (sym (ties q name) k) (Some content) (sym (get-contents_of pairs q) k))
      ∙ sym (get-insert text_cmp_total (contents_of pairs) name content q))

  -- a pair of a new name is added
  pub added : (pairs : List Pair) → position (is_named name) pairs ≡ None → contents_of (pairs ++ put ∷ []) ≡ insert (contents_of pairs) name content
  added pairs none =
      ap from_entries (map-append (λ (e : Pair). (string_bytes e.0, e.1)) pairs (put ∷ []))
      ∙ from_entries_push text_cmp_total text_cmp_same (rekeyed string_bytes pairs) (string_bytes put.0) put.1 (subst (λ k. held pairs k ≡ None) (sym named) (absent name pairs none))
      ∙ (λ k. insert (contents_of pairs) (named k) (holds k))

module _ (name : Text) where
  abbrev pub is_other : Pair → Bool
  is_other pair = not (is_named name pair)

  gone : (key q : Text) (c : Content) (new old : Option Content) → new ≡ cond (bytes_eq name q) None old → (b : Bool) → bytes_eq key name ≡ b
      → cond (not b) (cond (bytes_eq key q) (Some c) new) new ≡ cond (bytes_eq name q) None (cond (bytes_eq key q) (Some c) old)
  gone key q c new old rest true is =
      rw (rest, same_name name key is) (elim (bytes_eq name q) as (λ b. cond b None old ≡ cond b None (cond b (Some c) old)) [ true ↦ refl | false ↦ refl ])
  gone key q c new old rest false is =
      elim (bytes_eq name q) as (λ b. bytes_eq name q ≡ b → new ≡ cond b None old → cond (bytes_eq key q) (Some c) new ≡ cond b None (cond (bytes_eq key q) (Some c) old)) [
        | true ↦ λ t h. rw (apart name key q is t) h
        | false ↦ λ t h. ap (cond (bytes_eq key q) (Some c)) h
      ] refl rest

  held-filter : (pairs : List Pair) (q : Text) → held (filter is_other pairs) q ≡ cond (bytes_eq name q) None (held pairs q)
  held-filter [] q = elim (bytes_eq name q) as (λ b. ◌≡◌ {A = Option Content} None (cond b None None)) [ true ↦ refl | false ↦ refl ]
  held-filter (pair ∷ pairs) q =
      elim (is_named name pair) as (λ b. held (cond (not b) (pair ∷ filter is_other pairs) (filter is_other pairs)) q ≡ cond (not b) (held (pair ∷ filter is_other pairs) q) (held (filter is_other pairs) q)) [ true ↦ refl | false ↦ refl ]
      ∙ rw (ties q (string_bytes pair.0)) (gone (string_bytes pair.0) q pair.1 (held (filter is_other pairs) q) (held pairs q) (held-filter pairs q) (is_named name pair) refl)

  pub removed : (pairs : List Pair) → contents_of (filter is_other pairs) ≡ remove (contents_of pairs) name
  removed pairs = same_map text_cmp_total text_cmp_same _ _ (λ q.
      get-contents_of (filter is_other pairs) q ∙ held-filter pairs q
      ∙ (λ k. cond (sym (ties q name) k) None (sym (get-contents_of pairs q) k))
      ∙ sym (get-remove text_cmp_total (contents_of pairs) name q))

-- ---- the names in order

any-names : (q : Text) (pairs : List Pair) → list_any (eq_by_cmp text_cmp q) (map (λ e. string_bytes e.0) pairs) ≡ is_some (held pairs q)
any-names q [] = refl
any-names q (pair ∷ pairs) =
    elim (eq_by_cmp text_cmp q (string_bytes pair.0)) as (λ b. (b || list_any (eq_by_cmp text_cmp q) (map (λ e. string_bytes e.0) pairs)) ≡ is_some (cond b (Some pair.1) (held pairs q))) [ true ↦ refl | false ↦ any-names q pairs ]

keys_below : (k : Text) (es : List (Text × Content)) → T (below_all text_cmp k es) → T (below_all text_cmp k (marked (map (λ e. e.0) es)))
keys_below k [] h = tt
keys_below k (e ∷ es) h = both _ _ (first _ _ h) (keys_below k es (second _ _ h))

keys_rise : (es : List (Text × Content)) → T (is_sorted text_cmp es) → Rises text_cmp (map (λ e. e.0) es)
keys_rise [] h = tt
keys_rise (e ∷ es) h = both _ _ (keys_below e.0 es (first _ _ h)) (keys_rise es (second _ _ h))

pub names_in_order : (pairs : List Pair) → distinct_in_order text_cmp (map (λ e. string_bytes e.0) pairs) ≡ keys (contents_of pairs)
names_in_order pairs =
    sym (distinct_in_order-unique text_cmp text_cmp_total text_cmp_same (keys (contents_of pairs)) (map (λ e. string_bytes e.0) pairs)
    (keys_rise (entries (contents_of pairs)) (entries_sorted (contents_of pairs)))
    (λ q. sym (contains_key-keys (contents_of pairs) q) ∙ ap is_some (get-contents_of pairs q) ∙ sym (any-names q pairs)))

-- a set of texts that takes a name more
pub names-insert_key : {Y : Type 0} (k : String Y) (ks : List (String Y)) → map string_bytes (insert_key string_cmp ks k) ≡ insert_key text_cmp (map string_bytes ks) (string_bytes k)
names-insert_key k [] = refl
names-insert_key k (x ∷ ks) =
    elim (text_cmp (string_bytes k) (string_bytes x)) as (λ r. map string_bytes (match_ordering r (k ∷ x ∷ ks) (x ∷ ks) (x ∷ insert_key string_cmp ks k)) ≡ match_ordering r (string_bytes k ∷ string_bytes x ∷ map string_bytes ks) (string_bytes x ∷ map string_bytes ks) (string_bytes x ∷ insert_key text_cmp (map string_bytes ks) (string_bytes k))) [
      | Less ↦ refl
      | Equal ↦ refl
      | Greater ↦ ap (λ xs. string_bytes x ∷ xs) (names-insert_key k ks)
    ]

-- ---- as the functions meet them

pub get-absent : (name : Text) (pairs : List Pair) → position (is_named name) pairs ≡ None → get (contents_of pairs) name ≡ None
get-absent name pairs none = get-contents_of pairs name ∙ absent name pairs none

pub get-present : (name : Text) (pairs : List Pair) (i : ℕ) (pair : Pair) → position (is_named name) pairs ≡ Some i → pair ≡ get_or pairs i pair → get (contents_of pairs) name ≡ Some pair.1
get-present name pairs i pair found is = get-contents_of pairs name ∙ present name pairs i pair found ∙ ap (λ (p : Pair). Some p.1) (sym is)

pub some_held : (name : Text) (pairs : List Pair) (i : ℕ) → position (is_named name) pairs ≡ Some i → get (contents_of pairs) name ≡ None → ⊥
some_held name [] i found none = let e : position (is_named name) [] ≡ None = refl in cc
some_held name (pair ∷ pairs) i found none = let e = get-contents_of (pair ∷ pairs) name ∙ present name (pair ∷ pairs) i pair found in cc

pub replaced_at : (name : Text) (content : Content) (pairs : List Pair) (i : ℕ) (pair : Pair) (copy : Content) → position (is_named name) pairs ≡ Some i → pair ≡ get_or pairs i pair → copy ≡ content
    → contents_of (set pairs i (pair.0, copy)) ≡ insert (contents_of pairs) name content
replaced_at name content pairs i pair copy found is holds =
    let at = position-Some (is_named name) pairs i pair found in
    let named : string_bytes pair.0 ≡ name = same_name name (string_bytes pair.0) (rw (← is) at at.1) in
    replaced name content (pair.0, copy) named holds pairs i pair found

pub copy_is : (d : DataSet) (arcs : Bool) → arcs ≡ d.arcs → union (no_data arcs) d ≡ d
copy_is d arcs is = λ i. record { arcs = is i; files = all_files-none d.files i }

pub next_pair : {X : Type 0} (pairs : List X) (i : ℕ) (pair : X) → i < length pairs → pair ≡ get_or pairs i pair → drop i pairs ≡ pair ∷ drop (i + 1) pairs
next_pair pairs i pair low is = let e : suc i ≡ i + 1 = omega arith in drop-cons pairs i pair low ∙ (λ k. sym is k ∷ drop (e k) pairs)

pub no_pairs : {X : Type 0} (pairs : List X) (i : ℕ) → length pairs ≤ i → drop i pairs ≡ []
no_pairs [] zero h = refl
no_pairs [] (suc i) h = refl
no_pairs (p ∷ pairs) zero h = absurd (omega arith)
no_pairs (p ∷ pairs) (suc i) h = no_pairs pairs i (omega arith)

pub names_listed : {E : Type 0} (r : Result (Vec (String Global) Global) E) (ks : List (String Global)) (texts : List Text) → map string_bytes ks ≡ texts
    → IfOk r (λ list. list.items ≡ ks) → IfOk r (λ list. map string_bytes list.items ≡ texts)
names_listed (Ok list) ks texts all is = ap (map string_bytes) is ∙ all
names_listed (Err e) ks texts all is = tt

pub names_so : {E : Type 0} (r : Result (Vec (String Global) Global) E) (one other : List Text) → one ≡ other
    → IfOk r (λ list. map string_bytes list.items ≡ one) → IfOk r (λ list. map string_bytes list.items ≡ other)
names_so (Ok list) one other same is = is ∙ same
names_so (Err e) one other same is = tt
