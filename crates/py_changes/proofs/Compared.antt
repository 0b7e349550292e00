-- What is compared of two versions, where no changed line is safe.
--     Bad                        lines none of which is safe
--     simple-is                  statements that are the same are equal
--     parted, judged             what is the same, or has changed
--     Compared                   two rows that are compared, or all marks of the old one are unsafe
use Rattle.std.proofs.Common.{◌≡◌, ℕ, nat_eq, Bool, true, false, not, ◌&&◌, ◌||◌, IsTrue, List, ◌++◌, refl, ap, ◌⊎◌, inl, inr}
use Rattle.std.specs.List.{AllByRecursion}
use Rattle.py_text.specs.Comparison.{is_same_text}
use Rattle.py_syntax.specs.Marks.{stmts_marks}
use Rattle.py_syntax.specs.Tree.{Stmts, no_stmts, stmt, Clauses, no_clauses, clause, StmtKind, expr, assign, aug_assign, pass, break, continue, return, raise, assert, global, import, from, def}
use Rattle.py_text.proofs.TestLaws.{both_true}
use Rattle.py_meaning.specs.Statements.{has_clauses}
use Rattle.py_changes.specs.Same.{same_texts, same_list, same_alias, same_expr, same_exprs, same_maybe, same_operator}
use Rattle.py_changes.specs.Changed.{Lines, where_not, same_heads, is_empty, same_silent, fits_stmts, fits_clauses, same_simple, by_parts, changed_stmts, changed_each}
use Rattle.py_changes.proofs.SameLaws.{no, both, operator-is, text-is, list-is, alias-is, expr-is, exprs-is, maybe-is, two, three}
use Rattle.py_changes.proofs.Lists.{all-left, all-right}

-- a statement that is compared as one
abbrev pub is_plain : StmtKind → Bool
is_plain (global xs) = false
is_plain (def x ps ds c s) = false
is_plain k = true

pub simple-is : (k j : StmtKind) → IsTrue (same_simple k j) → IsTrue (is_plain k) → k ≡ j
simple-is (expr e) (expr f) h g = ap expr (expr-is e f h)
simple-is (assign ts e) (assign us f) h g =
    let t = both (same_exprs ts us) (same_expr e f) h in two assign (exprs-is ts us t.0)
    (expr-is e f t.1)
simple-is (aug_assign x op e) (aug_assign y oq f) h g =
    let t = both (same_expr x y) (same_operator op oq && same_expr e f) h in
    let u = both (same_operator op oq) (same_expr e f) t.1 in
    three aug_assign (expr-is x y t.0) (operator-is op oq u.0) (expr-is e f u.1)
simple-is pass pass h g = refl
simple-is break break h g = refl
simple-is continue continue h g = refl
simple-is (return e) (return f) h g = ap return (maybe-is e f h)
simple-is (raise e) (raise f) h g = ap raise (maybe-is e f h)
simple-is (assert e w) (assert f v) h g =
    let t = both (same_expr e f) (same_maybe w v) h in two assert (expr-is e f t.0)
    (maybe-is w v t.1)
simple-is (global xs) (global ys) h g = no g
simple-is (import names) (import others) h g =
    ap import (list-is same_alias alias-is names others h)
simple-is (from k names) (from n others) h g =
    let t = both (is_same_text k n) (same_list same_alias names others) h in
    two from (text-is k n t.0) (list-is same_alias alias-is names others t.1)
simple-is (def x ps ds c s) (def y qs es e t) h g = no g
simple-is k j h g = no h

-- `global` statements that are the same agree in number, kind and line
pub silent-heads : (a b : Stmts) → IsTrue (same_silent a b) → IsTrue (same_heads a b)
silent-heads no_stmts no_stmts h = refl
silent-heads (stmt l a (global xs) e r) (stmt k b (global ys) f s) h =
    let t = both (nat_eq l k) (same_texts xs ys && same_silent r s) h in
    let u = both (same_texts xs ys) (same_silent r s) t.1 in
    both_true (nat_eq l k) (same_heads r s) t.0 (silent-heads r s u.1)
silent-heads a b h = no h

-- one of two ways
pub way : {A B R : Type 0} → A ⊎ B → (A → R) → (B → R) → R
way (inl a) f g = f a
way (inr b) f g = g b

pub has_same : (cs ds : Clauses) → IsTrue (fits_clauses cs ds) → has_clauses cs ≡ has_clauses ds
has_same no_clauses no_clauses h = refl
has_same (clause e x s q) (clause f y t p) h = refl
has_same no_clauses (clause f y t p) h = no h
has_same (clause e x s q) no_clauses h = no h

module _ (Safe : ℕ → ℕ → Type 0) (m : ℕ) where
  -- no line is safe
  abbrev pub Bad : List ℕ → Type 0
  Bad ls = AllByRecursion (λ l. Safe m l → ⊥) ls

  pub bad-left : (xs ys : List ℕ) → Bad (xs ++ ys) → Bad xs
  bad-left xs ys h = all-left (λ l. Safe m l → ⊥) xs ys h

  pub bad-right : (xs ys : List ℕ) → Bad (xs ++ ys) → Bad ys
  bad-right xs ys h = all-right (λ l. Safe m l → ⊥) xs ys h

  pub parted : (x : Bool) (parts all : Lines) → Bad (by_parts x parts all).0
      → (IsTrue x × Bad parts.0) ⊎ Bad all.0
  parted true parts all bad = inl (refl, bad)
  parted false parts all bad = inr bad

  pub judged : (x : Bool) (lines : Lines) → Bad (where_not x lines).0 → IsTrue x ⊎ Bad lines.0
  judged true lines bad = inl refl
  judged false lines bad = inr bad

  -- two rows are compared, or all marks of the old one are unsafe
  abbrev pub Compared : Stmts → Stmts → Type 0
  Compared a b =
      (IsTrue (same_heads a b) × Bad (changed_each a b).0)
      ⊎ (Bad (stmts_marks a) × (is_empty (stmts_marks a) ≡ false))

  row_marks : (a b : Stmts) (x : Bool) → is_empty (stmts_marks a) ≡ x
      → IsTrue (not x || same_silent a b) → Bad (stmts_marks a) → (IsTrue (same_heads a b) → ⊥)
      → Compared a b
  row_marks a b false e fit bad h = inr (bad, e)
  row_marks a b true e fit bad h = absurd (h (silent-heads a b fit))

  row_heads : (a b : Stmts) (x : Bool) → same_heads a b ≡ x
      → Bad (by_parts x (changed_each a b) (stmts_marks a, stmts_marks b)).0
      → IsTrue (fits_stmts a b) → Compared a b
  row_heads a b true e bad fit = inl (e, bad)
  row_heads a b false e bad fit =
      row_marks a b (is_empty (stmts_marks a)) refl fit bad (λ h. absurd cc)

  pub compared_row : (a b : Stmts) → Bad (changed_stmts a b).0 → IsTrue (fits_stmts a b)
      → Compared a b
  compared_row a b bad fit = row_heads a b (same_heads a b) refl bad fit
