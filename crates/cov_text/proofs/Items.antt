-- Items in order.
use Rattle.std.proofs.Common.{◌≡◌, ℕ, Bool, true, false, List, [], ◌∷◌, ◌++◌, map, filter, ap, sym, ◌∙◌, refl, cond}
use Rattle.std.specs.declared.cmp.Ordering.{Ordering}
use Rattle.std.specs.declared.cmp.Ordering.TheVariants.{Less, Equal, Greater}
use Rattle.std.specs.Ordering.{match_ordering}
use Rattle.std.specs.BTreeSet.{insert_key}
use Rattle.std.specs.List.{flat_map}
use Rattle.std.proofs.lemmas.List.Sums.{fold-append}
use Rattle.cov_analysis.specs.Branches.{Branch}
use Rattle.cov_analysis.specs.Analyses.{AnalysisView}
use Rattle.cov_analysis.specs.Lines.{is_among}
use Rattle.cov_text.specs.Missing.{Item, item_cmp, with_items, in_order, run_items, range_items, is_listed, branch_item, branch_items, items_in}

of_order : {K L : Type 0} (v : K → L) (o : Ordering) (a b c : List K) (d : List L) → map v c ≡ d → map v (match_ordering o a b c) ≡ match_ordering o (map v a) (map v b) d
of_order v Less a b c d h = refl
of_order v Equal a b c d h = refl
of_order v Greater a b c d h = h

-- keys that are compared as what they stand for
pub insert_key-map : {K L : Type 0} (v : K → L) (cmp : L → L → Ordering) (ks : List K) (k : K) → map v (insert_key (λ a b. cmp (v a) (v b)) ks k) ≡ insert_key cmp (map v ks) (v k)
insert_key-map v cmp [] k = refl
insert_key-map v cmp (x ∷ xs) k =
    of_order v (cmp (v k) (v x)) (k ∷ x ∷ xs) (x ∷ xs) (x ∷ insert_key (λ a b. cmp (v a) (v b)) xs k) (v x ∷ insert_key cmp (map v xs) (v k)) (ap (λ ys. v x ∷ ys) (insert_key-map v cmp xs k))

-- one run more
pub run_added : (items more whole : List Item) (run : List ℕ) (left : List (List ℕ)) → more ≡ with_items items (run_items run) → with_items items (flat_map run_items (run ∷ left)) ≡ whole → with_items more (flat_map run_items left) ≡ whole
run_added items more whole run left grown is =
    ap (λ xs. with_items xs (flat_map run_items left)) grown ∙ sym (fold-append (insert_key item_cmp) items (run_items run) (flat_map run_items left)) ∙ is

of_test : (b : Bool) (branch : Branch) (left : List Branch) → map branch_item (cond b (branch ∷ left) left) ≡ map branch_item (cond b (branch ∷ []) []) ++ map branch_item left
of_test true branch left = refl
of_test false branch left = refl

-- one branch more
pub branch_added : (test : ℕ → Bool) (items more whole : List Item) (branch : Branch) (left : List Branch) → more ≡ with_items items (branch_items test (branch ∷ [])) → with_items items (branch_items test (branch ∷ left)) ≡ whole → with_items more (branch_items test left) ≡ whole
branch_added test items more whole branch left grown is =
    ap (λ xs. with_items xs (branch_items test left)) grown
    ∙ sym (fold-append (insert_key item_cmp) items (branch_items test (branch ∷ [])) (branch_items test left))
    ∙ ap (with_items items) (sym (of_test (is_listed test branch) branch (filter (is_listed test) left)))
    ∙ is

-- the ranges and then the branches
pub all_items : (file : AnalysisView) (test : ℕ → Bool) (none ranges all : List Item) (statements : List ℕ) (branches : List Branch) → test ≡ is_among file.missing → statements ≡ file.statements → branches ≡ file.missing_branches → none ≡ [] → ranges ≡ with_items none (range_items test statements) → all ≡ with_items ranges (branch_items test branches) → all ≡ items_in file
all_items file test none ranges all statements branches test-is statements-is branches-is none-is ranges-is all-is =
    all-is
    ∙ ap (λ (xs : List Item). with_items xs (branch_items test branches)) (ranges-is ∙ ap (λ (xs : List Item). with_items xs (range_items test statements)) none-is)
    ∙ sym (fold-append (insert_key item_cmp) [] (range_items test statements) (branch_items test branches))
    ∙ ap (λ (xs : List ℕ). in_order (range_items test xs ++ branch_items test branches)) statements-is
    ∙ ap (λ (bs : List Branch). in_order (range_items test file.statements ++ branch_items test bs)) branches-is
    ∙ ap (λ (t : ℕ → Bool). in_order (range_items t file.statements ++ branch_items t file.missing_branches)) test-is
