-- Modules of which one has a version in place of its body change no line but one of that module.
use Rattle.std.proofs.Common.{◌≡◌, ◌≢◌, ℕ, zero, suc, nat_eq, Bool, true, false, ◌&&◌, if◌then◌else◌, IsTrue, List, [], ◌∷◌, refl, sym, ap, subst, arith}
use Rattle.std.specs.List.{AllByRecursion}
use Rattle.std.proofs.lemmas.Bool.{eqb-true, eq-eqb}
use Rattle.py_text.specs.Comparison.{is_same_text}
use Rattle.py_text.proofs.SameTexts.{text_is_same}
use Rattle.py_text.proofs.TestLaws.{both_true}
use Rattle.py_syntax.specs.Marks.{body_marks}
use Rattle.py_syntax.specs.Tree.{Stmts}
use Rattle.py_meaning.specs.Activations.{Item, mark, again, throw, sub, Activation, activation, Items, no_items, more}
use Rattle.py_meaning.specs.Modules.{LoadedModule, body_of}
use Rattle.py_changes.specs.Changed.{fits_body, changed_module}
use Rattle.py_changes.specs.Changes.{same_modules, all_fit, are_compared, is_one_of}
use Rattle.py_changes.specs.Regular.{HasTest, AllExecuted}
use Rattle.py_changes.specs.Tests.{reaches, reaches_item, reaches_in, is_changed}
use Rattle.py_changes.proofs.Lists.{or-false, both-false}
use Rattle.py_mutants_laws.specs.Unreached.{with_body, is_line}
use Rattle.py_mutants_laws.proofs.Itself.{rows-self}
use Rattle.py_mutants_laws.proofs.Modules.{own-tests, body-fits, module-only}
use Rattle.py_mutants_laws.proofs.Versions.{Rows}

-- ---- what reaches no line of a kind reaches none of a narrower one

module _ (wide narrow : ℕ → ℕ → Bool) (less : (m k : ℕ) → wide m k ≡ false → narrow m k ≡ false)
  where
    mutual
      pub reaches-less : (m : ℕ) (items : Items) → reaches wide m items ≡ false
          → reaches narrow m items ≡ false
      reaches-less m no_items h = refl
      reaches-less m (more before i) h =
          let t = or-false (reaches_item wide m i) (reaches wide m before) h in
          both-false (reaches_item narrow m i) (reaches narrow m before) (item-less m i t.0)
          (reaches-less m before t.1)

      item-less : (m : ℕ) (i : Item) → reaches_item wide m i ≡ false
          → reaches_item narrow m i ≡ false
      item-less m (mark k) h = less m k h
      item-less m (again k) h = less m k h
      item-less m (throw kind) h = refl
      item-less m (sub a) h = activation-less a h

      activation-less : (a : Activation) → reaches_in wide a ≡ false → reaches_in narrow a ≡ false
      activation-less (activation code items ended) h = reaches-less code.module items h

-- ---- lists of modules

-- each `if` of all modules has a test
abbrev pub AllTested : List LoadedModule → Type 0
AllTested ms = (n : ℕ) → AllExecuted (λ l k. HasTest k) (body_of ms n)

names-self : (ms : List LoadedModule) → IsTrue (same_modules ms ms)
names-self [] = refl
names-self (x ∷ ms) =
    both_true (is_same_text x.name x.name) (same_modules ms ms) (text_is_same x.name)
    (names-self ms)

names-kept : (ms : List LoadedModule) (m : ℕ) (b : Stmts) → IsTrue
    (same_modules ms (with_body ms m b))
names-kept [] m b = refl
names-kept (x ∷ ms) zero b =
    both_true (is_same_text x.name x.name) (same_modules ms ms) (text_is_same x.name)
    (names-self ms)
names-kept (x ∷ ms) (suc m) b =
    both_true (is_same_text x.name x.name) (same_modules ms (with_body ms m b))
    (text_is_same x.name) (names-kept ms m b)

fit-self : (ms : List LoadedModule) → AllTested ms → IsTrue (all_fit ms ms)
fit-self [] t = refl
fit-self (x ∷ ms) t =
    both_true (fits_body x.body x.body) (all_fit ms ms)
    (body-fits 0 x.body x.body (rows-self 0 x.body) (own-tests 0 x.body (t 0)))
    (fit-self ms (λ n. t (suc n)))

module _ (l : ℕ) where
  fit-kept : (ms : List LoadedModule) (m : ℕ) (b : Stmts) → AllTested ms → Rows l (body_of ms m) b
      → IsTrue (all_fit ms (with_body ms m b))
  fit-kept [] m b t h = refl
  fit-kept (x ∷ ms) zero b t h =
      both_true (fits_body x.body b) (all_fit ms ms)
      (body-fits l x.body b h (own-tests l x.body (t 0))) (fit-self ms (λ n. t (suc n)))
  fit-kept (x ∷ ms) (suc m) b t h =
      both_true (fits_body x.body x.body) (all_fit ms (with_body ms m b))
      (body-fits l x.body x.body (rows-self l x.body) (own-tests l x.body (t 0)))
      (fit-kept ms m b (λ n. t (suc n)) h)

  rows-there : (ms : List LoadedModule) (m : ℕ) (b : Stmts) → Rows l (body_of ms m) b
      → Rows l (body_of ms m) (body_of (with_body ms m b) m)
  rows-there [] m b h = tt
  rows-there (x ∷ ms) zero b h = h
  rows-there (x ∷ ms) (suc m) b h = rows-there ms m b h

rows-other : (k : ℕ) (ms : List LoadedModule) (m : ℕ) (b : Stmts) (n : ℕ) → n ≢ m
    → Rows k (body_of ms n) (body_of (with_body ms m b) n)
rows-other k [] m b n e = tt
rows-other k (x ∷ ms) zero b zero e = absurd (e refl)
rows-other k (x ∷ ms) zero b (suc n) e = rows-self k (body_of ms n)
rows-other k (x ∷ ms) (suc m) b zero e = rows-self k x.body
rows-other k (x ∷ ms) (suc m) b (suc n) e = rows-other k ms m b n (λ p. e (ap suc p))

-- ---- lines

off-list : (l k : ℕ) (ls : List ℕ) → AllByRecursion (λ x. x ≡ l) ls → nat_eq k l ≡ false
    → is_one_of k ls ≡ false
off-list l k [] h e = refl
off-list l k (x ∷ xs) h e =
    both-false (nat_eq k x) (is_one_of k xs) (subst (λ z. nat_eq k z ≡ false) (sym h.0) e)
    (off-list l k xs h.1 e)

not-next : (k : ℕ) → nat_eq k (suc k) ≡ false
not-next k = go (nat_eq k (suc k)) refl
  where
    go : (x : Bool) → nat_eq k (suc k) ≡ x → x ≡ false
    go true e = let p : k ≡ suc k = eqb-true k (suc k) e in absurd (omega (arith, p))
    go false e = refl

not-equal : (n m : ℕ) → nat_eq n m ≡ false → n ≢ m
not-equal n m e p = let q = eq-eqb n m p in absurd cc

module _ (l : ℕ) (ms : List LoadedModule) (m : ℕ) (b : Stmts) (t : AllTested ms)
    (h : Rows l (body_of ms m) b) where
  compared : IsTrue (are_compared ms (with_body ms m b))
  compared =
      both_true (same_modules ms (with_body ms m b)) (all_fit ms (with_body ms m b))
      (names-kept ms m b) (fit-kept l ms m b t h)

  -- modules that are compared
  by-modules : (x : Bool) (n k : ℕ) (ls ks : List ℕ) → IsTrue x → is_one_of k ls ≡ false
      → is_one_of k (if x then ls else ks) ≡ false
  by-modules true n k ls ks e p = p
  by-modules false n k ls ks e p = absurd cc

  line-case : (n k : ℕ) (x : Bool) → nat_eq n m ≡ x → (x && nat_eq k l) ≡ false
      → is_one_of k (changed_module (body_of ms n) (body_of (with_body ms m b) n)).0 ≡ false
  line-case n k true e p =
      off-list l k (changed_module (body_of ms n) (body_of (with_body ms m b) n)).0
      (module-only l (body_of ms n) (body_of (with_body ms m b) n)
      (subst (λ z. Rows l (body_of ms z) (body_of (with_body ms m b) z)) (sym (eqb-true n m e))
      (rows-there l ms m b h)) (t n)).0 p
  line-case n k false e p =
      off-list (suc k) k (changed_module (body_of ms n) (body_of (with_body ms m b) n)).0
      (module-only (suc k) (body_of ms n) (body_of (with_body ms m b) n)
      (rows-other (suc k) ms m b n (not-equal n m e)) (t n)).0 (not-next k)

  -- no line is changed but the one
  pub line-alone : (n k : ℕ) → is_line m l n k ≡ false
      → is_changed ms (with_body ms m b) n k ≡ false
  line-alone n k p =
      by-modules (are_compared ms (with_body ms m b)) n k
      (changed_module (body_of ms n) (body_of (with_body ms m b) n)).0 (body_marks (body_of ms n))
      compared (line-case n k (nat_eq n m) refl p)
