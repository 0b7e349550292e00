-- Which arcs and lines data have that were made of others: those of a union, and those of combined data.
use Rattle.std.proofs.Common.{◌≡◌, ◌↔◌, inl, inr, ℕ, ℤ, Bool, true, false, cond, List, [], ◌∷◌, Option, Some, None, Contains, refl, ap, sym, subst, ◌∙◌}
use Rattle.std.specs.declared.cmp.Ordering.TheVariants.{Less, Equal, Greater}
use Rattle.std.specs.Prelude.{◌⊎◌, is_some, IsSome}
use Rattle.std.specs.Option.{unwrap_or}
use Rattle.std.specs.Ordering.{is_eq}
use Rattle.std.specs.List.{fold}
use Rattle.std.specs.FinMap.{get, get-empty, contains_key-keys}
use Rattle.std.proofs.lemmas.Cmp.{tied_itself}
use Rattle.cov_data.specs.DataSet.{Text, text_cmp, place_cmp, File, DataSet, no_data, no_rows, file_of, merged, with_file, joined_count, union}
use Rattle.cov_data.specs.Rows.{arcs_of, lines_of, paths_of}
use Rattle.cov_data.proofs.ArcLists.{HasPair, Has, arcs_of-has, end_lines, has_line, lines_of-has}
use Rattle.cov_data.proofs.FileViews.{text_cmp_total, text_cmp_same}
use Rattle.cov_data.proofs.Members.{member-Contains}
use Rattle.cov_data.proofs.Merging.{joined, get-merged}
use Rattle.cov_data.proofs.Soundness.{file_in-insert, file_in-none, file_in-all_files}
use Rattle.cov_combine.specs.Combined.{with_renamed, flag_of, combined}
use Rattle.cov_combine.proofs.Laws.{combined-alone}
use Rattle.cov_combine.proofs.Unions.{with_renamed-paths}
use Rattle.cov_headline.proofs.Lists.{never, first-or-later}

-- ---- two files as one

of_joined : (x y : Option ℕ) → IsSome (joined joined_count x y) → IsSome x ⊎ IsSome y
of_joined x None h = inl h
of_joined x (Some n) h = inr refl

left_joined : (x y : Option ℕ) → IsSome x → IsSome (joined joined_count x y)
left_joined x None h = h
left_joined x (Some n) h = refl

right_joined : (x y : Option ℕ) → IsSome y → IsSome (joined joined_count x y)
right_joined x None h = cc
right_joined x (Some n) h = refl

pair-merged : (f g : File) (a : ℤ × ℤ) → HasPair (merged f g) a ↔ (HasPair f a ⊎ HasPair g a)
pair-merged f g a = (
  λ h. elim (of_joined (get f (h.0, a)) (get g (h.0, a)) (sym (ap is_some (get-merged f g (h.0, a))) ∙ h.1)) [
    | inl s ↦ inl (h.0, s)
    | inr s ↦ inr (h.0, s)
  ],
  λ h. elim h [
    | inl s ↦ (s.0, ap is_some (get-merged f g (s.0, a)) ∙ left_joined (get f (s.0, a)) (get g (s.0, a)) s.1)
    | inr s ↦ (s.0, ap is_some (get-merged f g (s.0, a)) ∙ right_joined (get f (s.0, a)) (get g (s.0, a)) s.1)
  ],
)

-- ---- a union

has-union : (d e : DataSet) (path : Text) (a : ℤ × ℤ) → Has (union d e) path a ↔ (Has d path a ⊎ Has e path a)
has-union d e path a =
    let same : file_of (union d e) path ≡ merged (file_of d path) (file_of e path) = file_in-all_files d.files e.files path in
    let s = pair-merged (file_of d path) (file_of e path) a in (
      λ h. s.0 (subst (λ f. HasPair f a) same h),
      λ h. subst (λ f. HasPair f a) (sym same) (s.1 h),
    )

-- the arcs of two data of arcs
pub union-arcs : (d e : DataSet) → d.arcs ≡ true → e.arcs ≡ true → (path : Text) (a : ℤ × ℤ) → Contains (arcs_of (union d e) path) a ↔ (Contains (arcs_of d path) a ⊎ Contains (arcs_of e path) a)
union-arcs d e dk ek path a =
    let s = has-union d e path a in
    let all = arcs_of-has (union d e) dk path a in
    let l = arcs_of-has d dk path a in
    let r = arcs_of-has e ek path a in (
      λ h. elim (s.0 (all.0 h)) [ inl x ↦ inl (l.1 x) | inr x ↦ inr (r.1 x) ],
      λ h. all.1 (s.1 (elim h [ inl x ↦ inl (l.0 x) | inr x ↦ inr (r.0 x) ])),
    )

-- the lines of two data
pub union-lines : (d e : DataSet) (path : Text) (line : ℕ) → Contains (lines_of (union d e) path) line ↔ (Contains (lines_of d path) line ⊎ Contains (lines_of e path) line)
union-lines d e path line =
    let all = lines_of-has (union d e) path line in
    let l = lines_of-has d path line in
    let r = lines_of-has e path line in (
      λ h.
          let at = all.0 h in
          elim ((has-union d e path at.0).0 at.1) [ inl x ↦ inl (l.1 (at.0, x, at.2)) | inr x ↦ inr (r.1 (at.0, x, at.2)) ],
      λ h. elim h [
        | inl x ↦ let at = l.0 x in all.1 (at.0, (has-union d e path at.0).1 (inl at.1), at.2)
        | inr x ↦ let at = r.0 x in all.1 (at.0, (has-union d e path at.0).1 (inr at.1), at.2)
      ],
    )

-- ---- one file more, under its alias

module _ (alias : Text → Text) (path : Text) where
  -- under a name whose alias the path is
  abbrev pub Under : (Text → Type 0) → Type 0
  Under Q = (name : Text) × (alias name ≡ path) × Q name

  -- some of these data has it so
  abbrev pub Any : (DataSet → Text → Type 0) → List DataSet → Type 0
  Any Q [] = ⊥
  Any Q (d ∷ ds) = Under (Q d) ⊎ Any Q ds

  module _ (a : ℤ × ℤ) where
    -- a file of this name has the arc, and its alias is the path
    abbrev Renames : DataSet → Text → Type 0
    Renames d q = (alias q ≡ path) × Has d q a

    has-file : (m d : DataSet) (q : Text) → Has (with_file m (alias q) (file_of d q)) path a ↔ (Has m path a ⊎ Renames d q)
    has-file m d q =
        let p = alias q in
        let v = merged (file_of m p) (file_of d q) in
        let s = pair-merged (file_of m p) (file_of d q) a in
        let e : file_of (with_file m p (file_of d q)) path ≡ cond (is_eq (text_cmp path p)) v (file_of m path) = file_in-insert m.files p v path in (
          λ h.
              elim (text_cmp path p) as (λ r. text_cmp path p ≡ r → HasPair (cond (is_eq r) v (file_of m path)) a → Has m path a ⊎ Renames d q) [
                | Less ↦ λ t h. inl h
                | Equal ↦ λ t h. elim (s.0 h) [
                  | inl old ↦ inl (subst (λ x. Has m x a) (sym (text_cmp_same path p t)) old)
                  | inr new ↦ inr (sym (text_cmp_same path p t), new)
                ]
                | Greater ↦ λ t h. inl h
              ] refl (subst (λ f. HasPair f a) e h),
          λ h. subst (λ f. HasPair f a) (sym e) (elim h [
            | inl old ↦
                elim (text_cmp path p) as (λ r. text_cmp path p ≡ r → HasPair (cond (is_eq r) v (file_of m path)) a) [
                  | Less ↦ λ t. old
                  | Equal ↦ λ t. s.1 (inl (subst (λ x. Has m x a) (text_cmp_same path p t) old))
                  | Greater ↦ λ t. old
                ] refl
            | inr new ↦
                let same : is_eq (text_cmp path p) ≡ true = ap (λ x. is_eq (text_cmp x p)) (sym new.0) ∙ ap is_eq (tied_itself text_cmp_total p) in
                subst (λ b. HasPair (cond b v (file_of m path)) a) (sym same) (s.1 (inr new.1))
          ]),
        )

    -- some of these names has it so
    abbrev SomeRenames : DataSet → List Text → Type 0
    SomeRenames d [] = ⊥
    SomeRenames d (q ∷ qs) = Renames d q ⊎ SomeRenames d qs

    has-files : (qs : List Text) (m d : DataSet) → Has (fold (λ m q. with_file m (alias q) (file_of d q)) m qs) path a ↔ (Has m path a ⊎ SomeRenames d qs)
    has-files [] m d = (λ h. inl h, λ h. elim h [ inl h ↦ h | inr h ↦ absurd h ])
    has-files (q ∷ qs) m d =
        let s = has-files qs (with_file m (alias q) (file_of d q)) d in
        let t = has-file m d q in (
          λ h. elim (s.0 h) [
            | inl h ↦ elim (t.0 h) [ inl h ↦ inl h | inr is ↦ inr (inl is) ]
            | inr is ↦ inr (inr is)
          ],
          λ h. s.1 (elim h [
            | inl h ↦ inl (t.1 (inl h))
            | inr is ↦ elim is [ inl is ↦ inl (t.1 (inr is)) | inr is ↦ inr is ]
          ]),
        )

    one-of : (d : DataSet) (qs : List Text) → SomeRenames d qs → Under (λ q. Has d q a)
    one-of d [] h = absurd h
    one-of d (q ∷ qs) (inl h) = (q, h.0, h.1)
    one-of d (q ∷ qs) (inr h) = one-of d qs h

    among-them : (d : DataSet) (qs : List Text) (q : Text) → Contains qs q → Renames d q → SomeRenames d qs
    among-them d [] q h r = absurd (never q h)
    among-them d (x ∷ qs) q h r = elim (first-or-later x qs q h) [
      | inl same ↦ inl (subst (λ y. Renames d y) (sym same) r)
      | inr later ↦ inr (among-them d qs q later r)
    ]

    -- a path that has a row is there
    there : (d : DataSet) (q : Text) → Has d q a → Contains (paths_of d) q
    there d q h = member-Contains text_cmp text_cmp_total text_cmp_same q (paths_of d) (sym (contains_key-keys d.files q) ∙ some-there (get d.files q) h.0 h.1)
      where
        some-there : (o : Option File) (context : Text) → IsSome (get (unwrap_or o no_rows) (context, a)) → is_some o ≡ true
        some-there None context s =
            let none : get no_rows (context, a) ≡ None = get-empty place_cmp (context, a) in
            let bad : false ≡ true = sym (ap is_some none) ∙ s in
            cc
        some-there (Some f) context s = refl

    -- ---- all files of an input, and all inputs

    has-input : (m d : DataSet) → Has (with_renamed alias m d) path a ↔ (Has m path a ⊎ Under (λ q. Has d q a))
    has-input m d =
        let e = with_renamed-paths alias d m in
        let s = has-files (paths_of d) m d in (
          λ h. elim (s.0 (subst (λ x. Has x path a) (sym e) h)) [ inl x ↦ inl x | inr x ↦ inr (one-of d (paths_of d) x) ],
          λ h. subst (λ x. Has x path a) e (s.1 (elim h [ inl x ↦ inl x | inr x ↦ inr (among-them d (paths_of d) x.0 (there d x.0 x.2) (x.1, x.2)) ])),
        )

    has-inputs : (ds : List DataSet) (m : DataSet) → Has (fold (with_renamed alias) m ds) path a ↔ (Has m path a ⊎ Any (λ d q. Has d q a) ds)
    has-inputs [] m = (λ h. inl h, λ h. elim h [ inl h ↦ h | inr h ↦ absurd h ])
    has-inputs (d ∷ ds) m =
        let s = has-inputs ds (with_renamed alias m d) in
        let t = has-input m d in (
          λ h. elim (s.0 h) [
            | inl h ↦ elim (t.0 h) [ inl h ↦ inl h | inr is ↦ inr (inl is) ]
            | inr is ↦ inr (inr is)
          ],
          λ h. s.1 (elim h [
            | inl h ↦ inl (t.1 (inl h))
            | inr is ↦ elim is [ inl is ↦ inl (t.1 (inr is)) | inr is ↦ inr is ]
          ]),
        )

    has-none : (arcs : Bool) → Has (no_data arcs) path a → ⊥
    has-none arcs h =
        let none : get (file_of (no_data arcs) path) (h.0, a) ≡ None = ap (λ f. get f (h.0, a)) (file_in-none path) ∙ get-empty place_cmp (h.0, a) in
        let bad : false ≡ true = sym (ap is_some none) ∙ h.1 in
        cc

    pub has-combined : (ds : List DataSet) → Has (combined alias ds) path a ↔ Any (λ d q. Has d q a) ds
    has-combined ds =
        let s = has-inputs ds (no_data (flag_of ds)) in (
          λ h. elim (s.0 h) [ inl x ↦ absurd (has-none (flag_of ds) x) | inr x ↦ x ],
          λ h. s.1 (inr h),
        )

  -- ---- lines

  any-lines : (ds : List DataSet) (line : ℕ) (a : ℤ × ℤ) → has_line line (end_lines a) ≡ true → Any (λ d q. Has d q a) ds → Any (λ d q. Contains (lines_of d q) line) ds
  any-lines [] line a e h = h
  any-lines (d ∷ ds) line a e (inl h) = inl (h.0, h.1, (lines_of-has d h.0 line).1 (a, h.2, e))
  any-lines (d ∷ ds) line a e (inr h) = inr (any-lines ds line a e h)

  some-arc : (ds : List DataSet) (line : ℕ) → Any (λ d q. Contains (lines_of d q) line) ds → (a : ℤ × ℤ) × Any (λ d q. Has d q a) ds × (has_line line (end_lines a) ≡ true)
  some-arc [] line h = absurd h
  some-arc (d ∷ ds) line (inl h) = let at = (lines_of-has d h.0 line).0 h.2 in (at.0, inl (h.0, h.1, at.1), at.2)
  some-arc (d ∷ ds) line (inr h) = let at = some-arc ds line h in (at.0, inr at.1, at.2)

  -- the lines of combined data
  pub combined-lines : (ds : List DataSet) (line : ℕ) → Contains (lines_of (combined alias ds) path) line ↔ Any (λ d q. Contains (lines_of d q) line) ds
  combined-lines ds line =
      let all = lines_of-has (combined alias ds) path line in (
        λ h. let at = all.0 h in any-lines ds line at.0 at.2 ((has-combined at.0 ds).0 at.1),
        λ h. let at = some-arc ds line h in all.1 (at.0, (has-combined at.0 ds).1 at.1, at.2),
      )

-- combined data are of the kind of the first
pub combined-kind : (alias : Text → Text) (ds : List DataSet) → (combined alias ds).arcs ≡ flag_of ds
combined-kind alias ds = ap (λ (d : DataSet). d.arcs) (combined-alone alias ds)
