-- A map of texts, as the files by their paths, over the tree that holds it.
use Rattle.std.proofs.Common.{◌≡◌, true, cond, List, Option, Some, None, String, string_bytes, BTreeMap, ap, sym, subst, refl, ◌∙◌, IsSome}
use Rattle.std.specs.Ordering.{is_eq, eq_by_cmp, nat_cmp}
use Rattle.std.specs.Cmp.Lexicographic.{slice_cmp, nat_list_eq_equiv}
use Rattle.std.specs.Option.{unwrap_or, is_some}
use Rattle.std.specs.Map.{lookup, keys_of}
use Rattle.std.specs.List.Sorted.{IsStrictlySortedBy}
use Rattle.std.specs.String.{string_cmp}
use Rattle.std.specs.Str.{bytes_eq}
use Rattle.std.specs.BTreeMap.{insert_entry, UpdatesBy, get_by_text, WritesThrough}
use Rattle.std.specs.FinMap.{FinMap, get, insert, entries, from_entries, get-from_entries, get-insert, same_map}
use Rattle.std.proofs.lemmas.Map.Text.{btree_map_updates_text, is_eq-slice_cmp}
use Rattle.cov_data.specs.DataSet.{Text, text_cmp, File, Files, rekeyed, file_in, no_rows, add_path}
use Rattle.cov_data.specs.Stored.{files_from}
use Rattle.cov_data.proofs.MapViews.{find-rekeyed, rekeyed-insert_entry, is_sorted-rekeyed, from_entries-put, entries-from_entries, insert-same, some_from_is_some}
use Rattle.cov_data.proofs.FileViews.{text_cmp_total, text_cmp_same}

module _ {Y X : Type 0} where
  -- the map of the entries of a tree
  abbrev pub texts_from : List (String Y × X) → FinMap text_cmp X
  texts_from es = from_entries (rekeyed string_bytes es)

  pub get-files_from : (es : List (String Y × X)) (q : Text) → get (texts_from es) q ≡ lookup (λ k. is_eq (text_cmp q (string_bytes k))) es
  get-files_from es q = get-from_entries text_cmp_total _ _ ∙ find-rekeyed text_cmp string_bytes q es

  pub files_from-insert_entry : (k : String Y) (f : X) (es : List (String Y × X)) → texts_from (insert_entry string_cmp es k f) ≡ insert (texts_from es) (string_bytes k) f
  files_from-insert_entry k f es = ap from_entries (rekeyed-insert_entry text_cmp string_bytes k f es) ∙ from_entries-put text_cmp_total text_cmp_same (string_bytes k) f (rekeyed string_bytes es)

  entries-files_from : (es : List (String Y × X)) → IsStrictlySortedBy string_cmp (keys_of es) → entries (texts_from es) ≡ rekeyed string_bytes es
  entries-files_from es h = entries-from_entries text_cmp_total text_cmp_same (rekeyed string_bytes es) (is_sorted-rekeyed text_cmp string_bytes es h)

  -- what an iterator over the tree has left as a loop begins
  pub left_at_start : (es s : List (String Y × X)) (m : FinMap text_cmp X) → texts_from es ≡ m → s ≡ es → IsStrictlySortedBy string_cmp (keys_of es) → rekeyed string_bytes s ≡ entries m
  left_at_start es s m is at h = ap (rekeyed string_bytes) at ∙ sym (entries-files_from es h) ∙ ap entries is

  -- a value written at a text
  pub files_from-written : (m n : BTreeMap (String Y) X) (p : Text) (f : X) → UpdatesBy string_cmp (λ k. slice_cmp nat_cmp p (string_bytes k)) m n (Some f)
      → texts_from n.entries ≡ insert (texts_from m.entries) p f
  files_from-written m n p f writes = same_map text_cmp_total text_cmp_same _ _ (λ q.
      let test : bytes_eq p q ≡ eq_by_cmp text_cmp q p = nat_list_eq_equiv.symm p q ∙ sym (is_eq-slice_cmp q p) in
      get-files_from n.entries q ∙ btree_map_updates_text p m n (Some f) writes q
      ∙ (λ i. cond (test i) (Some f) (sym (get-files_from m.entries q) i))
      ∙ sym (get-insert text_cmp_total (texts_from m.entries) p f q))

  module _ (m : BTreeMap (String Y) X) (M : FinMap text_cmp X) (p : Text) (is : texts_from m.entries ≡ M) where
    pub get-held : (o : Option X) → get_by_text m p ≡ o → get M p ≡ o
    get-held o found = ap (λ x. get x p) (sym is) ∙ get-files_from m.entries p ∙ found

    pub held : (none f : X) → get_by_text m p ≡ Some f → unwrap_or (get M p) none ≡ f
    held none f found = ap (λ o. unwrap_or o none) (get-held (Some f) found)

    pub absent : (none : X) → get_by_text m p ≡ None → unwrap_or (get M p) none ≡ none
    absent none found = ap (λ o. unwrap_or o none) (get-held None found)

    -- a value written in place of the one that is there
    pub written : (f g : X) → get_by_text m p ≡ Some f → (n : BTreeMap (String Y) X) → WritesThrough string_cmp (λ k. slice_cmp nat_cmp p (string_bytes k)) m g n → texts_from n.entries ≡ insert M p g
    written f g found n writes = files_from-written m n p g (writes.3 (subst IsSome (sym found) refl)) ∙ ap (λ x. insert x p g) is

    -- the value that is there, written again
    pub kept : (f : X) → get_by_text m p ≡ Some f → (n : BTreeMap (String Y) X) → WritesThrough string_cmp (λ k. slice_cmp nat_cmp p (string_bytes k)) m f n → texts_from n.entries ≡ M
    kept f found n writes = written f f found n writes ∙ insert-same text_cmp_total text_cmp_same M p f (get-held (Some f) found)

module _ {Y : Type 0} (m : BTreeMap (String Y) File) (M : Files) (p : Text) (is : files_from m.entries ≡ M) where
  pub file_in-held : (f : File) → get_by_text m p ≡ Some f → file_in M p ≡ f
  file_in-held f found = held m M p is no_rows f found

  pub file_in-absent : get_by_text m p ≡ None → file_in M p ≡ no_rows
  file_in-absent found = absent m M p is no_rows found

  -- a path that is there, added again
  pub add_path-present : is_some (get_by_text m p) ≡ true → add_path M p ≡ M
  add_path-present h =
      let there = some_from_is_some (get_by_text m p) h in
      ap (insert M p) (file_in-held there.0 there.1) ∙ insert-same text_cmp_total text_cmp_same M p there.0 (get-held m M p is (Some there.0) there.1)
