-- Texts that are put together piece by piece.
use Rattle.std.proofs.Common.{◌≡◌, ℕ, ◌+◌, ◌<◌, ◌≤◌, List, [], ◌∷◌, ◌++◌, length, take, drop, get_or, ap, sym, ◌∙◌, append_assoc, drop-cons, add-one, Bool, pos, map, arith, Result, Ok, Err, IfOk, codes, decimal, ◌-◌}
use Rattle.std.specs.BTreeSet.{contains}
use Rattle.std.specs.Ordering.{nat_cmp}
use Rattle.cov_analysis.specs.Lines.{is_among}
use Rattle.cov_analysis.specs.Analyses.{AnalysisView}
use Rattle.cov_lcov.specs.declared.annotating.Marks.{Marks}
use Rattle.std.specs.Borrow.{Bor}
use Rattle.std.specs.BTreeSet.{insert_key}
use Rattle.std.specs.List.{flat_map, fold, zip}
use Rattle.std.proofs.lemmas.List.Sums.{fold-append}
use Rattle.std.proofs.lemmas.Slice.Zip.{length-zip, get_or-zip}
use Rattle.cov_analysis.specs.Branches.{Branch}
use Rattle.cov_lcov.specs.Lcov.{Entry, entry_cmp, entry_of, branch_row, leaves_covered, statement_row}
use Rattle.std.proofs.Math.ListN.{drop_of_length-le}
use Rattle.std.proofs.lemmas.List.{append-nil, flat_map_more, get_or-map, map-append, take_more}
use Rattle.cov_lcov.specs.Annotated.{annotated_line, annotated_from, mark_by, mark_of}
use Rattle.cov_lcov.specs.Views.{mark_in, texts_view}

-- the same answer by another name
pub said : {A B E : Type 0} (f : A → B) (r : Result A E) (x y : B) → IfOk r (λ a. f a ≡ x) → x ≡ y → IfOk r (λ a. f a ≡ y)
said f (Ok a) x y h e = h ∙ e
said f (Err e') x y h e = tt

-- the view of an item at its place
pub item_of : {A B : Type 0} (f : A → B) (xs : List A) (at : ℕ) (x : A) → at < length xs → x ≡ get_or xs at x → f x ≡ get_or (map f xs) at (f x)
item_of f xs at x within is = ap f is ∙ sym (get_or-map f xs at x (f x) within)

-- the texts of the items so far, and one more
pub pieces_more : {X : Type 0} (f : X → List ℕ) (xs : List X) (at : ℕ) (d : X) (old mid new : List ℕ) → at < length xs → mid ≡ f (get_or xs at d) → new ≡ old ++ mid → old ≡ flat_map f (take at xs) → new ≡ flat_map f (take (at + 1) xs)
pieces_more f xs at d old mid new within m n h =
    n ∙ ap (λ o. o ++ mid) h ∙ ap (λ x. flat_map f (take at xs) ++ x) m ∙ flat_map_more f [] (take at xs) (get_or xs at d) ∙ ap (flat_map f) (sym (take_more xs at d within))

next : {X : Type 0} (xs : List X) (at : ℕ) (d : X) → at < length xs → drop at xs ≡ get_or xs at d ∷ drop (at + 1) xs
next xs at d within = drop-cons xs at d within ∙ ap (λ k. get_or xs at d ∷ drop k xs) (sym (add-one at))

-- the lines so far, and one more
pub lines_more : (mark : ℕ → List ℕ) (texts : List (Bor (List ℕ))) (at : ℕ) (d : Bor (List ℕ)) (old mid new was : List ℕ) → at < length texts → mid ≡ annotated_line (mark (at + 1)) (get_or texts at d).now → new ≡ old ++ mid
    → old ++ annotated_from mark (at + 1) (texts_view (drop at texts)) ≡ was → new ++ annotated_from mark (at + 1 + 1) (texts_view (drop (at + 1) texts)) ≡ was
lines_more mark texts at d old mid new was within m n h =
    let rest = annotated_from mark (at + 1 + 1) (texts_view (drop (at + 1) texts)) in
    ap (λ x. x ++ rest) (n ∙ ap (λ x. old ++ x) m) ∙ append_assoc old (annotated_line (mark (at + 1)) (get_or texts at d).now) rest
    ∙ ap (λ ts. old ++ annotated_from mark (at + 1) (texts_view ts)) (sym (next texts at d within)) ∙ h

pub lines_end : (mark : ℕ → List ℕ) (texts : List (Bor (List ℕ))) (at : ℕ) (text was : List ℕ) → length texts ≤ at → text ++ annotated_from mark (at + 1) (texts_view (drop at texts)) ≡ was → text ≡ was
lines_end mark texts at text was le h = sym (append-nil text) ∙ ap (λ ts. text ++ annotated_from mark (at + 1) (texts_view ts)) (sym (drop_of_length-le texts le)) ∙ h

-- sets that have the lines of an analysis mark as it does
pub marks_as : (marks : Marks) (file : AnalysisView) → ((line : ℕ) → contains nat_cmp marks.missing line ≡ is_among file.missing line) → ((line : ℕ) → contains nat_cmp marks.statements line ≡ is_among file.statements line)
    → ((line : ℕ) → contains nat_cmp marks.excluded line ≡ is_among file.excluded line) → mark_in marks ≡ mark_of file
marks_as marks file m s x i = mark_by (λ line. m line i) (λ line. s line i) (λ line. x line i)

-- the pairs of two lists so far, and one more
pub pairs_more : {A B : Type 0} (xs : List A) (ys : List B) (at : ℕ) (a : A) (b : B) → length ys ≡ length xs → at < length xs → take (at + 1) (zip xs ys) ≡ take at (zip xs ys) ++ (get_or xs at a, get_or ys at b) ∷ []
pairs_more xs ys at a b same within =
    let long = length-zip xs ys in
    take_more (zip xs ys) at (a, b) (omega (arith, long, same, within)) ∙ ap (λ p. take at (zip xs ys) ++ p ∷ []) (get_or-zip xs ys at (a, b) within (omega (arith, same, within)))

pub statements_more : (lines hits : List ℕ) (at : ℕ) (old mid new : List ℕ) → length hits ≡ length lines → at < length lines → mid ≡ statement_row (get_or lines at 0, get_or hits at 0) → new ≡ old ++ mid
    → old ≡ flat_map statement_row (take at (zip lines hits)) → new ≡ flat_map statement_row (take (at + 1) (zip lines hits))
statements_more lines hits at old mid new same within m n h =
    n ∙ ap (λ o. o ++ mid) h ∙ ap (λ x. flat_map statement_row (take at (zip lines hits)) ++ x) m
    ∙ flat_map_more statement_row [] (take at (zip lines hits)) (get_or lines at 0, get_or hits at 0) ∙ ap (flat_map statement_row) (sym (pairs_more lines hits at 0 0 same within))

abbrev pub entries_so_far : List (Branch × ℕ) → List Entry
entries_so_far branches = fold (insert_key entry_cmp) [] (map entry_of branches)

entries-one : (branches : List (Branch × ℕ)) (branch : Branch × ℕ) → entries_so_far (branches ++ branch ∷ []) ≡ insert_key entry_cmp (entries_so_far branches) (entry_of branch)
entries-one branches branch = ap (fold (insert_key entry_cmp) []) (map-append entry_of branches (branch ∷ [])) ∙ fold-append (insert_key entry_cmp) [] (map entry_of branches) (entry_of branch ∷ [])

pub entries_more : (branches : List Branch) (hits : List ℕ) (at : ℕ) (old new : List Entry) → length hits ≡ length branches → at < length branches
    → new ≡ insert_key entry_cmp old (entry_of (get_or branches at (0, pos 0), get_or hits at 0)) → old ≡ entries_so_far (take at (zip branches hits)) → new ≡ entries_so_far (take (at + 1) (zip branches hits))
entries_more branches hits at old new same within n h =
    let branch : Branch × ℕ = (get_or branches at (0, pos 0), get_or hits at 0) in
    n ∙ ap (λ es. insert_key entry_cmp es (entry_of branch)) h ∙ sym (ap entries_so_far (pairs_more branches hits at (0, pos 0) 0 same within) ∙ entries-one (take at (zip branches hits)) branch)

-- rows by tests that agree
pub leaves_as : (m n : Branch → Bool) → ((branch : Branch) → m branch ≡ n branch) → (branches : List Branch) (line : ℕ) → leaves_covered m branches line ≡ leaves_covered n branches line
leaves_as m n same branches line i = leaves_covered (λ branch. same branch i) branches line

pub rows_as : (m n : Branch → Bool) (l k : ℕ → Bool) (es fs : List Entry) → ((branch : Branch) → m branch ≡ n branch) → ((line : ℕ) → l line ≡ k line) → es ≡ fs → flat_map (branch_row m l) es ≡ flat_map (branch_row n k) fs
rows_as m n l k es fs same lines listed i = flat_map (branch_row (λ branch. same branch i) (λ line. lines line i)) (listed i)

-- the record of a file with these rows
abbrev pub record_with : AnalysisView → List ℕ → List ℕ → List ℕ
record_with file statements branches = codes "SF:" ++ (file.path ++ (codes "\n" ++ (statements
    ++ (codes "LF:" ++ (decimal file.numbers.statements ++ (codes "\nLH:" ++ (decimal (file.numbers.statements - file.numbers.missing) ++ (codes "\n" ++ (branches ++ codes "end_of_record\n")))))))))
