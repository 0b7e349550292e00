-- Bodies of two versions: what is compared of them, and what marks nothing.
use Rattle.std.proofs.Common.{◌≡◌, ℕ, nat_eq, Bool, true, false, not, ◌&&◌, ◌||◌, IsTrue, List, [], ◌∷◌, ◌++◌, refl, sym, subst, ◌⊎◌, inl, inr}
use Rattle.std.specs.Prelude.{if◌then◌else◌, bytes_eq}
use Rattle.std.proofs.lemmas.Slice.Eq.{bytes_eq-Decides}
use Rattle.py_text.proofs.SameTexts.{same_answer}
use Rattle.py_syntax.specs.Functions.{is_docstring, without_docstring}
use Rattle.py_syntax.specs.Marks.{stmts_marks, kind_marks, body_marks}
use Rattle.py_syntax.specs.Names.{is_among}
use Rattle.py_syntax.specs.Tree.{Text, Stmts, no_stmts, stmt, StmtKind, global}
use Rattle.py_changes.specs.Same.{same_bool, same_texts}
use Rattle.py_changes.specs.Changed.{kind_number, same_heads, has_docstring, is_empty, same_silent, same_docstring, same_silent_body, fits_body, by_parts, changed_each, changed_body, are_among, same_names}
use Rattle.py_changes.proofs.SameLaws.{no, both}
use Rattle.py_changes.proofs.Compared.{Bad, silent-heads}

-- ---- names

among-step : (xs ys : List Text) (y x : Text) (b : Bool) → bytes_eq x y ≡ b → IsTrue (is_among ys y)
    → (IsTrue (is_among xs x) → IsTrue (is_among ys x)) → IsTrue (b || is_among xs x)
    → IsTrue (is_among ys x)
among-step xs ys y x true e h later g =
    subst (λ z. IsTrue (is_among ys z)) (sym ((bytes_eq-Decides x y).0 e)) h
among-step xs ys y x false e h later g = later g

-- a name of a list whose names are all among others
among : (xs ys : List Text) (x : Text) → IsTrue (are_among xs ys) → IsTrue (is_among xs x)
    → IsTrue (is_among ys x)
among [] ys x h g = no g
among (y ∷ xs) ys x h g =
    let t = both (is_among ys y) (are_among xs ys) h in among-step xs ys y x (bytes_eq x y) refl t.0
    (among xs ys x t.1) g

pub names-same : (xs ys : List Text) → IsTrue (same_names xs ys) → (x : Text)
    → is_among xs x ≡ is_among ys x
names-same xs ys h x =
    let t = both (are_among xs ys) (are_among ys xs) h in
    same_answer (is_among xs x) (is_among ys x) (IsTrue (is_among ys x)) (among xs ys x t.0)
    (among ys xs x t.1) (λ g. g) (λ g. g)

-- ---- docstrings

led-marks : (l b : ℕ) (k : StmtKind) (f : _) (r : Stmts) (x : Bool) → is_docstring k ≡ x
    → (if x then stmts_marks r else (kind_marks l k ++ stmts_marks r)) ≡ stmts_marks
    (if x then r else stmt l b k f r)
led-marks l b k f r true e = refl
led-marks l b k f r false e = refl

-- the marks of a body are those of its statements without the docstring
pub marks-of-body : (a : Stmts) → body_marks a ≡ stmts_marks (without_docstring a)
marks-of-body no_stmts = refl
marks-of-body (stmt l b k f r) = led-marks l b k f r (is_docstring k) refl

led-heads : (l l' b b' : ℕ) (k j : StmtKind) (f f' : _) (r s : Stmts) (x y : Bool)
    → IsTrue (same_bool x y) → IsTrue
    (nat_eq l l' && (nat_eq (kind_number k) (kind_number j) && same_heads r s))
    → IsTrue (same_heads (if x then r else stmt l b k f r) (if y then s else stmt l' b' j f' s))
led-heads l l' b b' k j f f' r s true true e h =
    (both (nat_eq (kind_number k) (kind_number j)) (same_heads r s)
    (both (nat_eq l l') (nat_eq (kind_number k) (kind_number j) && same_heads r s) h).1).1
led-heads l l' b b' k j f f' r s false false e h = h
led-heads l l' b b' k j f f' r s true false e h = no e
led-heads l l' b b' k j f f' r s false true e h = no e

-- the statements of bodies that agree agree without their docstrings
pub heads-of-bodies : (a b : Stmts)
    → IsTrue (same_heads a b && same_bool (has_docstring a) (has_docstring b))
    → IsTrue (same_heads (without_docstring a) (without_docstring b))
heads-of-bodies no_stmts no_stmts h = refl
heads-of-bodies (stmt l a k f r) (stmt l' a' j f' s) h =
    let t = both (nat_eq l l' && (nat_eq (kind_number k) (kind_number j) && same_heads r s))
    (same_bool (is_docstring k) (is_docstring j)) h in
    led-heads l l' a a' k j f f' r s (is_docstring k) (is_docstring j) t.1 t.0
heads-of-bodies no_stmts (stmt l a k f r) h = no h
heads-of-bodies (stmt l a k f r) no_stmts h = no h

-- ---- what marks nothing

pub silent-none : (a b : Stmts) → IsTrue (same_silent a b) → is_empty (stmts_marks b) ≡ true
silent-none no_stmts no_stmts h = refl
silent-none (stmt l a (global xs) e r) (stmt k b (global ys) f s) h =
    let t = both (nat_eq l k) (same_texts xs ys && same_silent r s) h in
    silent-none r s (both (same_texts xs ys) (same_silent r s) t.1).1
silent-none a b h = no h

silent-of-bodies : (a b : Stmts) → IsTrue (same_silent_body a b)
    → IsTrue (same_silent (without_docstring a) (without_docstring b))
silent-of-bodies a b h =
    (both (same_bool (has_docstring a) (has_docstring b) && same_docstring a b)
    (same_silent (without_docstring a) (without_docstring b)) h).1

module _ (Safe : ℕ → ℕ → Type 0) (m : ℕ) where
  silent-unchanged : (a b : Stmts) → IsTrue (same_silent a b) → Bad Safe m (changed_each a b).0
  silent-unchanged no_stmts no_stmts h = tt
  silent-unchanged (stmt l a (global xs) e r) (stmt k b (global ys) f s) h =
      let t = both (nat_eq l k) (same_texts xs ys && same_silent r s) h in
      silent-unchanged r s (both (same_texts xs ys) (same_silent r s) t.1).1
  silent-unchanged a b h = no h

  pub body-bad : (a : Stmts) → Bad Safe m (body_marks a)
      → Bad Safe m (stmts_marks (without_docstring a))
  body-bad a bad = subst (λ ls. Bad Safe m ls) (marks-of-body a) bad

  quiet-fits : (a b : Stmts) (x : Bool) → is_empty (body_marks a) ≡ x → x ≡ true
      → IsTrue (not x || same_silent_body a b)
      → IsTrue (same_silent (without_docstring a) (without_docstring b))
  quiet-fits a b true e g h = silent-of-bodies a b h
  quiet-fits a b false e g h = absurd cc

  -- a body that fits marks something, or the new one has the same statements
  pub quiet-or-not : (a b : Stmts) (x : Bool) → is_empty (body_marks a) ≡ x → IsTrue (fits_body a b)
      → (is_empty (stmts_marks (without_docstring a)) ≡ false)
      ⊎ ((is_empty (stmts_marks (without_docstring a)) ≡ true)
      × IsTrue (same_silent (without_docstring a) (without_docstring b)))
  quiet-or-not a b true e fit =
      inr (
        subst (λ ls. is_empty ls ≡ true) (marks-of-body a) e,
        quiet-fits a b
            (is_empty (body_marks a)) refl e fit,
      )
  quiet-or-not a b false e fit = inl (subst (λ ls. is_empty ls ≡ false) (marks-of-body a) e)

  all-marks : (a b : Stmts) → Bad Safe m (body_marks a)
      → (is_empty (stmts_marks (without_docstring a)) ≡ false)
      ⊎ ((is_empty (stmts_marks (without_docstring a)) ≡ true)
      × IsTrue (same_silent (without_docstring a) (without_docstring b)))
      → (IsTrue (same_heads (without_docstring a) (without_docstring b))
      × Bad Safe m (changed_each (without_docstring a) (without_docstring b)).0)
      ⊎ (Bad Safe m (stmts_marks (without_docstring a))
      × (is_empty (stmts_marks (without_docstring a)) ≡ false))
  all-marks a b bad (inl some) = inr (body-bad a bad, some)
  all-marks a b bad (inr q) =
      inl (
        silent-heads (without_docstring a) (without_docstring b) q.1,
        silent-unchanged
            (without_docstring a) (without_docstring b) q.1,
      )

  by-heads : (a b : Stmts) (x : Bool)
      → (same_heads a b && same_bool (has_docstring a) (has_docstring b)) ≡ x
      → Bad Safe m (by_parts x (changed_each (without_docstring a) (without_docstring b))
      (body_marks a, body_marks b)).0 → IsTrue (fits_body a b)
      → (IsTrue (same_heads (without_docstring a) (without_docstring b))
      × Bad Safe m (changed_each (without_docstring a) (without_docstring b)).0)
      ⊎ (Bad Safe m (stmts_marks (without_docstring a))
      × (is_empty (stmts_marks (without_docstring a)) ≡ false))
  by-heads a b true e bad fit = inl (heads-of-bodies a b e, bad)
  by-heads a b false e bad fit =
      all-marks a b bad (quiet-or-not a b (is_empty (body_marks a)) refl fit)

  -- two bodies are compared, or all marks of the old one are unsafe
  pub compared-bodies : (a b : Stmts) → Bad Safe m (changed_body a b).0 → IsTrue (fits_body a b)
      → (IsTrue (same_heads (without_docstring a) (without_docstring b))
      × Bad Safe m (changed_each (without_docstring a) (without_docstring b)).0)
      ⊎ (Bad Safe m (stmts_marks (without_docstring a))
      × (is_empty (stmts_marks (without_docstring a)) ≡ false))
  compared-bodies a b bad fit =
      by-heads a b (same_heads a b && same_bool (has_docstring a) (has_docstring b)) refl bad fit
