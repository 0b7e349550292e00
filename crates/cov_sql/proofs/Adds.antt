-- A row with a new rowid, put into a tree.
use Rattle.std.proofs.Common.{◌≡◌, ◌≢◌, ◌⊎◌, inl, inr, ℕ, ℤ, List, [], ◌∷◌, Bool, true, false, not, ◌&&◌, ◌||◌, cond, Ok, Err, Result, refl}
use Rattle.std.specs.List.{AllByRecursion}
use Rattle.std.specs.List.Sorted.{IsPermutation}
use Rattle.std.proofs.lemmas.List.Sorted.{IsPermutation-refl, IsPermutation-trans, IsPermutation-cons, IsPermutation-middle}
use Rattle.std.proofs.Common.{Ordering, Less, Equal, Greater, is_eq}
use Rattle.std.specs.Ordering.{match_ordering}
use Rattle.sqlite_value.specs.Order.{Row, value_cmp}
use Rattle.sqlite_trees.specs.Tree.{rowid, put_row}
use Rattle.sqlite.specs.declared.types.Value.{Value}
use Rattle.sqlite.specs.declared.types.Value.TheVariants.{Null, Int}
use Rattle.sqlite.specs.Ops.{unary}
use Rattle.sqlite.specs.Kind.TheVariants.{Integer}
use Rattle.sqlite.specs.Cast.{cast}
use Rattle.sqlite_rules.specs.Edit.{is_taken}
use Rattle.sqlite.specs.Effect.{Database}
use Rattle.cov_sql.specs.Written.{HasInteger}

either : (b : Bool) (x : Value) → cond b x x ≡ x
either true x = refl
either false x = refl

pub cast_null : cast Integer Null ≡ Null
unfolding unary
cast_null = either _ Null

pub cast_int : (n : ℤ) → cast Integer (Int n) ≡ Int n
unfolding unary
cast_int n = either _ (Int n)

pub went : {B E R : Type 0} {b : B} {Stops : E → Type 0} → ((stop : E) × Stops stop × (Ok b ≡ Err stop)) ⊎ R → R
went (inl stopped) = absurd (let e = stopped.2 in cc)
went (inr on) = on

pub same_value : {B E : Type 0} {a b : B} → ◌≡◌ {A = Result B E} (Ok a) (Ok b) → a ≡ b
same_value e = cc

pub record Adds (old new : Database) (tree : ℕ) (row : Row) : Type 0 where
  pub schema : new.schema ≡ old.schema
  pub rows : new.trees tree ≡ put_row row (old.trees tree)
  pub is_new : is_taken (old.trees tree) row ≡ false
  pub others : AllByRecursion (λ t. t.tree ≢ tree → new.trees t.tree ≡ old.trees t.tree) old.schema.tables

pub free : (b : Bool) → (not b && true) ≡ true → b ≡ false
free true h = absurd cc
free false h = refl

neither : (a b : Bool) → (a || b) ≡ false → (a ≡ false) × (b ≡ false)
neither true b h = absurd cc
neither false b h = (refl, h)

put_at : (o : Ordering) (row r : Row) (rs : List Row) → is_eq o ≡ false → IsPermutation (row ∷ rs) (put_row row rs) → IsPermutation (row ∷ r ∷ rs) (match_ordering o (r ∷ put_row row rs) (row ∷ rs) (row ∷ r ∷ rs))
put_at Less row r rs not_same h = IsPermutation-trans (row ∷ r ∷ rs) (r ∷ row ∷ rs) (r ∷ put_row row rs) (IsPermutation-middle (row ∷ []) r rs) (IsPermutation-cons r (row ∷ rs) (put_row row rs) h)
put_at Equal row r rs not_same h = absurd cc
put_at Greater row r rs not_same h = IsPermutation-refl (row ∷ r ∷ rs)

-- a row with a new rowid is one more
pub put_new : (row : Row) (rows : List Row) → is_taken rows row ≡ false → IsPermutation (row ∷ rows) (put_row row rows)
put_new row [] h = IsPermutation-refl (row ∷ [])
put_new row (r ∷ rs) h = put_at (value_cmp (rowid r) (rowid row)) row r rs (neither _ (is_taken rs row) h).0 (put_new row rs (neither (is_eq (value_cmp (rowid r) (rowid row))) _ h).1)

integers_at : (o : Ordering) (row r : Row) (rs : List Row) → HasInteger row → HasInteger r → AllByRecursion HasInteger rs → AllByRecursion HasInteger (put_row row rs)
    → AllByRecursion HasInteger (match_ordering o (r ∷ put_row row rs) (row ∷ rs) (row ∷ r ∷ rs))
integers_at Less row r rs new first rest put = (first, put)
integers_at Equal row r rs new first rest put = (new, rest)
integers_at Greater row r rs new first rest put = (new, (first, rest))

-- rowids that are integers stay so
pub put_integers : (row : Row) (rows : List Row) → HasInteger row → AllByRecursion HasInteger rows → AllByRecursion HasInteger (put_row row rows)
put_integers row [] new h = (new, tt)
put_integers row (r ∷ rs) new h = integers_at (value_cmp (rowid r) (rowid row)) row r rs new h.0 h.1 (put_integers row rs new h.1)
