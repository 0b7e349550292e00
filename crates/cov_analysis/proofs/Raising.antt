-- A count that is raised in a map.
use Rattle.std.proofs.Common.{◌≡◌, ℕ, ℤ, Bool, true, false, cond, Option, Some, None, Result, Ok, Err, OnOk, refl, sym, ap, ap₂, ◌∙◌, ◌<◌, ◌<ℤ◌, pos, negsuc, arith}
use Rattle.std.specs.declared.cmp.Ordering.{Ordering}
use Rattle.std.specs.declared.cmp.Ordering.TheVariants.{Less, Equal, Greater}
use Rattle.std.specs.Prelude.{◌&&◌, ◌||◌, nat_eq, nat_lt, is_some, unwrap_or}
use Rattle.std.specs.BTreeMap.{BTreeMap, get, is_at}
use Rattle.std.specs.Cmp.{unsigned_ties, int_cmp_is}
use Rattle.std.specs.FinMap.{IsAntisymmetric, nat_cmp-IsAntisymmetric, int_cmp-IsAntisymmetric}
use Rattle.std.specs.Ordering.{MatchOrdering, nat_cmp, int_cmp, int_eq, is_eq, ordering_then}
use Rattle.std.proofs.lemmas.Bool.{eqb-true, eqb-false, ltb-true, ltb-false}
use Rattle.std.proofs.lemmas.Int.{ints}
use Rattle.std.proofs.lemmas.Map.Lookups.{exact_pairs}
use Rattle.cov_data.specs.DataSet.{add_counts}
use Rattle.cov_analysis.specs.Branches.{Branch, branch_cmp, same_branch}
use Rattle.cov_analysis.specs.Lookups.{line_at, count_in, is_counted, branch_count_in, raised}

-- ---- by line

raised-at : (old : ℕ → ℕ) (k q count sum : ℕ) (o : Option ℕ) → sum ≡ add_counts (old k) count → unwrap_or o 0 ≡ old q → (b : Bool) → nat_eq k q ≡ b
    → unwrap_or (cond b (Some sum) o) 0 ≡ raised b (old q) count
raised-at old k q count sum o is had true e = is ∙ ap (λ l. add_counts (old l) count) (eqb-true k q e)
raised-at old k q count sum o is had false e = had

pub line_raised : (old new : BTreeMap ℕ ℕ) (k count sum : ℕ) → sum ≡ add_counts (count_in old k) count → ((q : ℕ) → get nat_cmp new q ≡ cond (is_at (nat_cmp k) q) (Some sum) (get nat_cmp old q))
    → (q : ℕ) → count_in new q ≡ raised (nat_eq k q) (count_in old q) count
line_raised old new k count sum is h q =
    ap (λ o. unwrap_or o 0) (h q ∙ ap (λ b. cond b (Some sum) (get nat_cmp old q)) (sym (unsigned_ties k q)))
    ∙ raised-at (count_in old) k q count sum (get nat_cmp old q) is refl (nat_eq k q) refl

-- ---- by branch

both_eq : (r s : Ordering) → (is_eq r && is_eq s) ≡ is_eq (ordering_then r s)
both_eq Less s = refl
both_eq Equal s = refl
both_eq Greater s = refl

branch_ties : (x y : Branch) → same_branch x y ≡ is_eq (branch_cmp x y)
branch_ties x y = ap (λ b. b && int_eq x.1 y.1) (unsigned_ties x.0 y.0) ∙ both_eq (nat_cmp x.0 y.0) (int_cmp x.1 y.1)

branch_cmp-IsAntisymmetric : IsAntisymmetric branch_cmp
branch_cmp-IsAntisymmetric = exact_pairs nat_cmp int_cmp nat_cmp-IsAntisymmetric int_cmp-IsAntisymmetric

branch_raised-at : (old : BTreeMap Branch ℕ) (k q : Branch) (count sum : ℕ) → sum ≡ add_counts (branch_count_in old k) count → (r : Ordering) → branch_cmp k q ≡ r
    → unwrap_or (cond (is_eq r) (Some sum) (get branch_cmp old q)) 0 ≡ raised (is_eq r) (branch_count_in old q) count
branch_raised-at old k q count sum is Less e = refl
branch_raised-at old k q count sum is Equal e = is ∙ ap (λ b. add_counts (branch_count_in old b) count) (branch_cmp-IsAntisymmetric k q e)
branch_raised-at old k q count sum is Greater e = refl

pub branch_raised : (old new : BTreeMap Branch ℕ) (k : Branch) (count sum : ℕ) → sum ≡ add_counts (branch_count_in old k) count
    → ((q : Branch) → get branch_cmp new q ≡ cond (is_at (branch_cmp k) q) (Some sum) (get branch_cmp old q))
    → (q : Branch) → branch_count_in new q ≡ raised (same_branch k q) (branch_count_in old q) count
branch_raised old new k count sum is h q =
    ap (λ o. unwrap_or o 0) (h q) ∙ branch_raised-at old k q count sum is (branch_cmp k q) refl ∙ ap (λ b. raised b (branch_count_in old q) count) (sym (branch_ties k q))

some-or : (b : Bool) (x : ℕ) (o : Option ℕ) → is_some (cond b (Some x) o) ≡ (is_some o || b)
some-or true x None = refl
some-or true x (Some y) = refl
some-or false x None = refl
some-or false x (Some y) = refl

pub branch_added : (old new : BTreeMap Branch ℕ) (k : Branch) (sum : ℕ) → ((q : Branch) → get branch_cmp new q ≡ cond (is_at (branch_cmp k) q) (Some sum) (get branch_cmp old q))
    → (q : Branch) → is_counted new q ≡ (is_counted old q || same_branch k q)
branch_added old new k sum h q =
    ap is_some (h q) ∙ some-or (is_eq (branch_cmp k q)) sum (get branch_cmp old q) ∙ ap (λ b. is_counted old q || b) (sym (branch_ties k q))

-- ---- by a row

-- lines compare as numbers
in_turn : (a b : ℕ) (s t : Bool) → nat_lt a b ≡ s → nat_eq a b ≡ t → MatchOrdering (cond s Less (cond t Equal Greater)) (pos a <ℤ pos b) (pos a ≡ pos b) (pos b <ℤ pos a)
in_turn a b true t e f = let less : a < b = ltb-true a b e in omega (arith, ints, less)
in_turn a b false true e f = ap pos (eqb-true a b f)
in_turn a b false false e f = let above : b < a = omega (arith, ltb-false a b e, eqb-false a b f) in omega (arith, ints, above)

pub int_cmp-pos : (a b : ℕ) → int_cmp (pos a) (pos b) ≡ nat_cmp a b
int_cmp-pos a b = sym (int_cmp_is (pos a) (pos b) (nat_cmp a b) (in_turn a b (nat_lt a b) (nat_eq a b) refl refl))

pub int_eq-pos : (a b : ℕ) → int_eq (pos a) (pos b) ≡ nat_eq a b
int_eq-pos a b = ap is_eq (int_cmp-pos a b) ∙ sym (unsigned_ties a b)

goes : (to : ℤ) (k line : ℕ) → line_at to ≡ Some k → int_eq to (pos line) ≡ nat_eq k line
goes (pos n) k line is = let same : n ≡ k = cc in int_eq-pos n line ∙ ap (λ m. nat_eq m line) same
goes (negsuc n) k line is = absurd cc

goes-nowhere : (to : ℤ) (line : ℕ) → line_at to ≡ None → int_eq to (pos line) ≡ false
goes-nowhere (pos n) line is = absurd cc
goes-nowhere (negsuc n) line is = refl

pub by_line : {E : Type 0} (r : Result (Unit {0}) E) (old new : BTreeMap ℕ ℕ) (to : ℤ) (k count : ℕ) → line_at to ≡ Some k
    → OnOk r ((q : ℕ) → count_in new q ≡ raised (nat_eq k q) (count_in old q) count) → OnOk r ((q : ℕ) → count_in new q ≡ raised (int_eq to (pos q)) (count_in old q) count)
by_line (Ok u) old new to k count is h = λ q. h q ∙ ap (λ b. raised b (count_in old q) count) (sym (goes to k q is))
by_line (Err e) old new to k count is h = h

pub by_no_line : (old : BTreeMap ℕ ℕ) (to : ℤ) (count : ℕ) → line_at to ≡ None → (q : ℕ) → count_in old q ≡ raised (int_eq to (pos q)) (count_in old q) count
by_no_line old to count is q = ap (λ b. raised b (count_in old q) count) (sym (goes-nowhere to q is))

module _ (from to : ℤ) (old : BTreeMap Branch ℕ) (count : ℕ) where
  -- `read` is what the code reads of `to`
  pub counted_by : {E : Type 0} (r : Result (Unit {0}) E) (new : BTreeMap Branch ℕ) (k : ℕ) (read : ℤ) → read ≡ to → line_at from ≡ Some k
      → OnOk r ((q : Branch) → branch_count_in new q ≡ raised (same_branch (k, read) q) (branch_count_in old q) count)
      → OnOk r ((q : Branch) → branch_count_in new q ≡ raised (int_eq from (pos q.0) && int_eq to q.1) (branch_count_in old q) count)
  counted_by (Ok u) new k read same is h = λ q.
      h q ∙ ap₂ (λ b t. raised (b && int_eq t q.1) (branch_count_in old q) count) (sym (goes from k q.0 is)) same
  counted_by (Err e) new k read same is h = h

  pub taken_by : {E : Type 0} (r : Result (Unit {0}) E) (new : BTreeMap Branch ℕ) (k : ℕ) (read : ℤ) → read ≡ to → line_at from ≡ Some k
      → OnOk r ((q : Branch) → is_counted new q ≡ (is_counted old q || same_branch (k, read) q)) → OnOk r ((q : Branch) → is_counted new q ≡ (is_counted old q || (int_eq from (pos q.0) && int_eq to q.1)))
  taken_by (Ok u) new k read same is h = λ q. h q ∙ ap₂ (λ b t. is_counted old q || (b && int_eq t q.1)) (sym (goes from k q.0 is)) same
  taken_by (Err e) new k read same is h = h

  pub counted_by_none : line_at from ≡ None → (q : Branch) → branch_count_in old q ≡ raised (int_eq from (pos q.0) && int_eq to q.1) (branch_count_in old q) count
  counted_by_none is q = ap (λ b. raised (b && int_eq to q.1) (branch_count_in old q) count) (sym (goes-nowhere from q.0 is))

  pub taken_by_none : line_at from ≡ None → (q : Branch) → is_counted old q ≡ (is_counted old q || (int_eq from (pos q.0) && int_eq to q.1))
  taken_by_none is q = or_none (is_counted old q) ∙ ap (λ b. is_counted old q || (b && int_eq to q.1)) (sym (goes-nowhere from q.0 is))
    where
      or_none : (b : Bool) → b ≡ (b || false)
      or_none true = refl
      or_none false = refl
