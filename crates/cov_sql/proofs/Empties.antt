-- A DELETE of all rows leaves none.
use Rattle.std.proofs.Common.{◌≡◌, inl, inr, ℕ, ℤ, List, [], ◌∷◌, map, Bool, true, false, not, cond, refl, sym, ap, subst, ◌∙◌}
use Rattle.std.specs.List.{AllByRecursion}
use Rattle.std.specs.List.Sorted.{IsPermutation}
use Rattle.std.proofs.lemmas.List.Sorted.{All-permutation, IsPermutation-sym, IsPermutation-map}
use Rattle.std.proofs.Common.{All, zero, suc, arith}
use Rattle.std.specs.Ordering.{is_eq, int_cmp}
use Rattle.std.specs.Cmp.{tied_itself}
use Rattle.std.proofs.lemmas.Cmp.{int_cmp_total}
use Rattle.sqlite_value.specs.declared.value.Value.{Value}
use Rattle.sqlite_value.specs.declared.value.Value.TheVariants.{Int, Null}
use Rattle.sqlite_value.specs.Order.{Row, value_cmp, column}
use Rattle.sqlite_value.proofs.OrderLemmas.{value_cmp-Int}
use Rattle.sqlite_trees.specs.Tree.{Trees, rowid, has_rowid, without_rowid}
use Rattle.sqlite_sql.specs.Term.{Env}
use Rattle.sqlite_sql.specs.Query.{inner, end, matches, output, Output, IsAnswer, IsSureAnswer}
use Rattle.sqlite_sql.specs.Program.{overlay}
use Rattle.sqlite.specs.Effect.{Database}
use Rattle.cov_sql.specs.Written.{HasInteger}
use Rattle.cov_sql.proofs.Queried.{plain_tree, singles, mapped}
use Rattle.cov_sql.proofs.Deletes.{rowids, Removes}
use Rattle.sqlite_rules.specs.Lists.{Has}
use Rattle.sqlite_rules.specs.Calls.{ids_of}
use Rattle.sqlite_rules.specs.Edit.{without_all, id_in}

-- the row has an integer for its rowid, and that is among these
abbrev pub IsNamed : List ℤ → Row → Type 0
IsNamed ids r = (n : ℤ) × (rowid r ≡ Int n) × Has ids n

int_itself : (n : ℤ) → is_eq (int_cmp n n) ≡ true
int_itself n = ap is_eq (tied_itself int_cmp_total n)

has_itself : (id : ℤ) (r : Row) → rowid r ≡ Int id → has_rowid id r ≡ true
has_itself id r is = ap (λ v. is_eq (value_cmp v (Int id))) is ∙ ap is_eq (value_cmp-Int id id) ∙ int_itself id

still : (b : Bool) (id : ℤ) (ids : List ℤ) (r : Row) (rest : List Row) → has_rowid id r ≡ b → IsNamed (id ∷ ids) r → AllByRecursion (IsNamed ids) rest
    → AllByRecursion (IsNamed ids) (cond (not b) (r ∷ rest) rest)
still true id ids r rest at named more = more
still false id ids r rest at (n, is, inl same) more = absurd (let yes' : false ≡ true = sym at ∙ has_itself id r (is ∙ ap Int same) in cc)
still false id ids r rest at (n, is, inr later) more = ((n, is, later), more)

left : (id : ℤ) (ids : List ℤ) (rows : List Row) → AllByRecursion (IsNamed (id ∷ ids)) rows → AllByRecursion (IsNamed ids) (without_rowid id rows)
left id ids [] each = tt
left id ids (r ∷ rs) each = still (has_rowid id r) id ids r (without_rowid id rs) refl each.0 (left id ids rs each.1)

pub none_left : (ids : List ℤ) (rows : List Row) → AllByRecursion (IsNamed ids) rows → without_all rows ids ≡ []
none_left [] [] each = refl
none_left [] (r ∷ rs) each = absurd each.0.2
none_left (id ∷ ids) rows each = none_left ids (without_rowid id rows) (left id ids rows each)

-- ---- the rows that the query shows name all rows

named_one : (shown : List Row) (v : Value) (n : ℤ) → v ≡ Int n → Has shown (v ∷ []) → Has (ids_of shown) n
named_one (s ∷ ss) v n is (inl same) = inl (ap id_in (sym is) ∙ ap (λ r. id_in (rowid r)) same)
named_one (s ∷ ss) v n is (inr later) = inr (named_one ss v n is later)
named_one [] v n is h = absurd h

as_all : {X : Type 0} (P : X → Type 0) (xs : List X) → AllByRecursion P xs → All P xs
as_all P [] h i d low = absurd (omega (arith, low))
as_all P (x ∷ xs) h zero d low = h.0
as_all P (x ∷ xs) h (suc i) d low = as_all P xs h.1 i d (omega (arith, low))

pub from_all : {X : Type 0} (P : X → Type 0) (xs : List X) → All P xs → AllByRecursion P xs
from_all P [] h = tt
from_all P (x ∷ xs) h = (h 0 x (omega arith), from_all P xs (λ i d low. h (suc i) d (omega (arith, low))))

wider : {X : Type 0} (xs : List X) (P Q : X → Type 0) → ((x : X) → P x → Q x) → AllByRecursion P xs → AllByRecursion Q xs
wider [] P Q f h = tt
wider (x ∷ xs) P Q f h = (f x h.0, wider xs P Q f h.1)

has_each : {X : Type 0} (xs : List X) → AllByRecursion (Has xs) xs
has_each [] = tt
has_each (x ∷ xs) = (inl refl, wider xs (Has xs) (Has (x ∷ xs)) (λ y h. inr h) (has_each xs))

all_named : (shown rows : List Row) → AllByRecursion HasInteger rows → AllByRecursion (Has shown) (map (λ r. column r 0 ∷ []) rows) → AllByRecursion (IsNamed (ids_of shown)) rows
all_named shown [] ints named = tt
all_named shown (r ∷ rs) ints named = ((ints.0.0, ints.0.1, named_one shown (column r 0) ints.0.0 ints.0.1 named.0), all_named shown rs ints.1 named.1)

-- every row goes, where each rowid is an integer
pub empties : (rows shown : List Row) → AllByRecursion HasInteger rows → IsPermutation (map (λ r. column r 0 ∷ []) rows) shown → without_all rows (ids_of shown) ≡ []
empties rows shown ints same =
    let ones = map (λ r. column r 0 ∷ []) rows in
    let all = from_all (Has shown) ones (All-permutation (Has shown) shown ones (IsPermutation-sym ones shown same) (as_all (Has shown) shown (has_each shown))) in
    none_left (ids_of shown) rows (all_named shown rows ints all)

abbrev env_of : Row → Env
env_of row = [] ∷ row ∷ []

answer_ids : (tree : ℕ) (db : Trees) (shown : List Row) → IsSureAnswer (rowids tree) (overlay db []) [] shown → IsPermutation (map (λ r. column r 0 ∷ []) (db tree)) shown
answer_ids tree db shown h =
    let a : IsAnswer (rowids tree) (overlay db []) [] shown = h Null in
    let second : Output → Row = λ o. o.1 in
    let matched : matches (overlay db []) [] (inner tree end) ([] ∷ []) ≡ map env_of (db tree) = singles env_of (overlay db [] tree) ∙ ap (map env_of) (plain_tree db tree) in
    let kept : a.kept ≡ map (output (rowids tree)) (map env_of (db tree)) = a.distinct ∙ ap (map (output (rowids tree))) (a.grouped ∙ matched) in
    let ones : map second a.kept ≡ map (λ r. column r 0 ∷ []) (db tree) =
    ap (map second) kept ∙ mapped (output (rowids tree)) second (map env_of (db tree)) ∙ mapped env_of (λ e. second (output (rowids tree) e)) (db tree) in
    subst (λ xs. IsPermutation xs shown) ones (subst (IsPermutation (map second a.kept)) (sym a.shown) (IsPermutation-map second a.kept a.ordered a.same))

-- the table has no row left
pub emptied : (old new : Database) (tree : ℕ) → AllByRecursion HasInteger (old.trees tree) → Removes old new tree → new.trees tree ≡ []
emptied old new tree ints h = h.rows ∙ empties (old.trees tree) h.shown ints (answer_ids tree old.trees h.shown h.answer)
