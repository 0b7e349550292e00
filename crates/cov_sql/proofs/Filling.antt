-- One step of filling tables after the other.
use Rattle.std.proofs.Common.{◌≡◌, ℕ, zero, suc, ◌+◌, pos, ◌<◌, ℤ, arith, Bool, true, false, cond, List, [], ◌∷◌, ◌++◌, map, take, length, get_or, append_assoc, string_bytes, String, Result, Ok, Err, OnOk, refl, sym, ap, subst, ◌∙◌}
use Rattle.std.specs.declared.alloc.Global.{Global}
use Rattle.std.specs.List.Sorted.{IsPermutation}
use Rattle.std.proofs.lemmas.List.{take_more, map-append}
use Rattle.std.proofs.lemmas.List.Sorted.{IsPermutation-refl, IsPermutation-trans, IsPermutation-middle}
use Rattle.sqlite_value.specs.Order.{Row}
use Rattle.sqlite_value.specs.declared.value.Value.TheVariants.{Int, Text}
use Rattle.sqlite_trees.specs.declared.store.Store.{Ghosts}
use Rattle.sqlite.specs.Effect.{Database}
use Rattle.sqlite.specs.Held.{Held, state}
use Rattle.sqlite.specs.declared.transaction.Transaction.{Transaction}
use Rattle.sqlite.specs.State.{State, HasCleanDisk, Survives}
use Rattle.cov_sql.specs.declared.statements.StatementError.{StatementError}
use Rattle.cov_sql.specs.declared.tables.Table.{Table as Name}
use Rattle.sqlite_schema.specs.declared.schema.Table.{Table}
use Rattle.cov_sql.specs.Tables.{Shape}
use Rattle.cov_sql.specs.Written.{Inserts}
use Rattle.cov_sql.specs.ByName.{shape_of, declared_as}
use Rattle.cov_sql.specs.Works.{Works}
use Rattle.cov_sql.specs.Steps.{WorksBy}
use Rattle.cov_sql.specs.Holding.{same_table, Rows, with_rows, Holds, Fills}
use Rattle.cov_sql.specs.declared.saved.SavedRow.{SavedRow}
use Rattle.cov_sql.specs.SavedRows.{numbered, arc_row}
use Rattle.cov_sql.proofs.Holding.{added, is_declared}

-- the same rows in another order
pub holds_as : (db : Database) (rows more : Rows) → ((n : Name) → IsPermutation (more n) (rows n)) → Holds db rows → Holds db more
holds_as db rows more same h = record {
  base = h.base;
  each = λ n. let one = h.each n in record { all = one.all; shown = one.shown; same = IsPermutation-trans (more n) (rows n) one.all (same n) one.same };
}

pub no_rows_more : (n : Name) (db : Database) (rows : Rows) → Holds db rows → Holds db (with_rows n [] rows)
no_rows_more n db rows h = holds_as db rows (with_rows n [] rows) (λ m. by m (same_table m n)) h
  where
    by : (m : Name) (b : Bool) → IsPermutation (cond b ([] ++ rows m) (rows m)) (rows m)
    by m true = IsPermutation-refl (rows m)
    by m false = IsPermutation-refl (rows m)

moved : (b : Bool) (xs ys : List Row) (row : Row) → IsPermutation (cond b ((xs ++ row ∷ []) ++ ys) ys) (cond b ((row ∷ []) ++ cond b (xs ++ ys) ys) (cond b (xs ++ ys) ys))
moved true xs ys row = subst (λ zs. IsPermutation zs (row ∷ (xs ++ ys))) (sym (append_assoc xs (row ∷ []) ys)) (IsPermutation-middle xs row ys)
moved false xs ys row = IsPermutation-refl ys

-- a row after those before it
pub one_more : (n : Name) (xs : List Row) (row : Row) (db : Database) (rows : Rows) → Holds db (with_rows n (row ∷ []) (with_rows n xs rows)) → Holds db (with_rows n (xs ++ row ∷ []) rows)
one_more n xs row db rows h = holds_as db _ (with_rows n (xs ++ row ∷ []) rows) (λ m. moved (same_table m n) xs (rows m) row) h

on_ok : {A B : Type 0} {X : Type 0} (r : Result X StatementError) → (A → B) → OnOk r A → OnOk r B
on_ok (Ok x) f a = f a
on_ok (Err e) f a = tt

module _ {S : Type 0} (g : Ghosts S) where
  pub no_fill : (change : Rows → Rows) (a b : Held S) (e : StatementError) (r : Result (Unit {0}) StatementError) → r ≡ Err e → Fills g change a b r
  no_fill change a b e r is clean inside rows h = rw is tt

  -- nothing was done yet
  pub fills_none : (n : Name) (a : Held S) → Fills g (with_rows n []) a a (Ok tt)
  fills_none n a clean inside rows h = no_rows_more n (state g a).now rows h

  -- a statement that adds a row
  pub fills_one : (n : Name) (row : Row) (a b : Held S) (r : Result (Unit {0}) StatementError) → Inserts (shape_of n) (declared_as n) row (state g a) (state g b) r → Fills g (with_rows n (row ∷ [])) a b r
  fills_one n row a b r told clean inside rows h = on_ok r (added n row (state g a).now (state g b).now rows h) (told clean inside (is_declared n (state g a).now h.base.stands))

  -- a step after one that went on
  pub fills_then : (f k : Rows → Rows) (a b c : Held S) (v : Unit {0}) (r : Result (Unit {0}) StatementError) → Survives (state g b) (state g c) (λ _. ⊥)
      → Works g a b (Ok v) → Fills g f a b (Ok v) → Fills g k b c r → Fills g (λ rows. k (f rows)) a c r
  fills_then f k a b c v r s works one two clean inside rows h =
      let before : HasCleanDisk (state g b) = omega (arith, clean, s.clean) in
      two clean ((works before inside).goes_on) (f rows) (one before inside rows h)

module _ {S Q : Type 0} {g : Ghosts S} {telling : Q → Type 0} {counted : Q → ℕ} where
  -- the same of steps by statements
  pub fills_on : (f k : Rows → Rows) {a b c : Transaction S} {p q s : Q} {v : Unit {0}} {r : Result (Unit {0}) StatementError} → WorksBy g telling counted a b p q (Ok v) → WorksBy g telling counted b c q s r
      → (telling p → Fills g f a.conn.now b.conn.now (Ok v)) → (telling q → Fills g k b.conn.now c.conn.now r) → telling p → Fills g (λ rows. k (f rows)) a.conn.now c.conn.now r
  fills_on f k {a = a} {b = b} {c = c} {v = v} {r = r} one two first second tells =
      let told = one.goes_on.tells tells in
      fills_then g f k a.conn.now b.conn.now c.conn.now v r (two.survives told) (one.works tells) (first tells) (second told)

  -- a row more of one table
  pub fills_more : (n : Name) (xs : List Row) (row : Row) {a b c : Transaction S} {p q s : Q} {v w : Unit {0}} → WorksBy g telling counted a b p q (Ok v) → WorksBy g telling counted b c q s (Ok w)
      → (telling p → Fills g (with_rows n xs) a.conn.now b.conn.now (Ok v)) → (telling q → Inserts (shape_of n) (declared_as n) row (state g b.conn.now) (state g c.conn.now) (Ok w)) → telling p
      → Fills g (with_rows n (xs ++ row ∷ [])) a.conn.now c.conn.now (Ok w)
  fills_more n xs row {b = b} {c = c} {w = w} one two first told tells clean inside rows h =
      one_more n xs row (state g c.conn.now).now rows
      (fills_on (with_rows n xs) (with_rows n (row ∷ [])) one two first (λ still. fills_one g n row b.conn.now c.conn.now (Ok w) (told still)) tells clean inside rows h)

-- ---- lists so far

pub take_at : {X : Type 0} (xs : List X) (i : ℕ) (x : X) → i < length xs → x ≡ get_or xs i x → take (i + 1) xs ≡ take i xs ++ x ∷ []
take_at xs i x below is = take_more xs i x below ∙ ap (λ y. take i xs ++ y ∷ []) (sym is)

pub take_got : {X : Type 0} (xs : List X) (i : ℕ) (d : X) → i < length xs → take (i + 1) xs ≡ take i xs ++ get_or xs i d ∷ []
take_got xs i d below = take_more xs i d below

pub map_at : {X Y : Type 0} (f : X → Y) (xs : List X) (i : ℕ) (x : X) → i < length xs → x ≡ get_or xs i x → map f (take (i + 1) xs) ≡ map f (take i xs) ++ f x ∷ []
map_at f xs i x below is = ap (map f) (take_at xs i x below is) ∙ map-append f (take i xs) (x ∷ [])

pub map_got : {X Y : Type 0} (f : X → Y) (xs : List X) (i : ℕ) (d : X) → i < length xs → map f (take (i + 1) xs) ≡ map f (take i xs) ++ f (get_or xs i d) ∷ []
map_got f xs i d below = ap (map f) (take_more xs i d below) ∙ map-append f (take i xs) (get_or xs i d ∷ [])

numbered-append : (k : ℕ) (ts : List (List ℕ)) (t : List ℕ) → numbered k (ts ++ t ∷ []) ≡ numbered k ts ++ (Int (pos (k + length ts)) ∷ Text t ∷ []) ∷ []
numbered-append k [] t = let none : k ≡ k + length {A = List ℕ} [] = omega arith in ap (λ j. (Int (pos j) ∷ Text t ∷ []) ∷ []) none
numbered-append k (u ∷ us) t = let on : (k + 1) + length us ≡ k + suc (length us) = omega arith in
    ap (λ rest. (Int (pos k) ∷ Text u ∷ []) ∷ rest) (numbered-append (k + 1) us t ∙ ap (λ j. numbered (k + 1) us ++ (Int (pos j) ∷ Text t ∷ []) ∷ []) on)

length_take : {X : Type 0} (xs : List X) (i : ℕ) → i < length xs → length (take i xs) ≡ i
length_take [] i below = absurd (omega (arith, below))
length_take (x ∷ xs) zero below = refl
length_take (x ∷ xs) (suc i) below = ap suc (length_take xs i (omega (arith, below)))

length_mapped : {X Y : Type 0} (f : X → Y) (xs : List X) → length (map f xs) ≡ length xs
length_mapped f [] = refl
length_mapped f (x ∷ xs) = ap suc (length_mapped f xs)

pub numbered_at : (texts : List (String Global)) (i : ℕ) (text : String Global) → i < length texts → text ≡ get_or texts i text
    → numbered 1 (map string_bytes (take (i + 1) texts)) ≡ numbered 1 (map string_bytes (take i texts)) ++ (Int (pos (i + 1)) ∷ Text (string_bytes text) ∷ []) ∷ []
numbered_at texts i text below is =
    let count : length (map string_bytes (take i texts)) ≡ i = length_mapped string_bytes (take i texts) ∙ length_take texts i below in
    let at : 1 + length (map string_bytes (take i texts)) ≡ i + 1 = omega (arith, count) in
    ap (numbered 1) (map_at string_bytes texts i text below is) ∙ numbered-append 1 (map string_bytes (take i texts)) (string_bytes text)
    ∙ ap (λ j. numbered 1 (map string_bytes (take i texts)) ++ (Int (pos j) ∷ Text (string_bytes text) ∷ []) ∷ []) at

-- the row that was inserted, by what its values are
pub as_row : (t : Shape) (table : ℕ → Table) (old new : State) (r : Result (Unit {0}) StatementError) {x : ℤ} {s : List ℕ} (y : ℤ) (u : List ℕ) → Inserts t table (Int x ∷ Text s ∷ []) old new r → x ≡ y → s ≡ u
    → Inserts t table (Int y ∷ Text u ∷ []) old new r
as_row t table old new r y u h is same = subst (λ row. Inserts t table row old new r) (λ k. Int (is k) ∷ Text (same k) ∷ []) h

pub arcs_if : (arcs : Bool) (rows : List SavedRow) → map arc_row (cond arcs rows []) ≡ cond arcs (map arc_row rows) []
arcs_if true rows = refl
arcs_if false rows = refl
