-- The handler table of cells: each place has the handler of its cell.
use Rattle.std.proofs.Common.{◌≡◌, ℕ, ◌+◌, ◌<◌, ◌≤◌, ◌==◌, Bool, true, false, List, [], ◌∷◌, ◌++◌, length, Option, Some, None, refl, sym, ap, ◌∙◌, subst, arith}
use Rattle.std.specs.Prelude.{nat_lt, nat_le, ◌&&◌, if◌then◌else◌}
use Rattle.std.proofs.lemmas.Bool.Decides.{Decides-eqb, nat_tests}
use Rattle.py_code.specs.declared.unit.Handler.{Handler}
use Rattle.py_code.specs.Units.{guards, inner, handler_of}
use Rattle.py_compile_expr.specs.Cells.{Guard, Cell}
use Rattle.py_compile_expr.specs.Stands.{Guards}
use Rattle.py_compile.specs.Units.{is_same_guard, is_same, closed, ranges}

-- the handler at a place, where one is open in front of a place p and these cells come from p on
abbrev pub column : Option Guard → ℕ → List Cell → ℕ → Option Guard
column g p [] q = g
column g p (c ∷ cs) q = if nat_lt q p then g else column c.guard (p + 1) cs q

and_both : (a b : Bool) → (a && b) ≡ true → (a ≡ true) × (b ≡ true)
and_both true true e = (refl, refl)
and_both true false e = absurd cc
and_both false b e = absurd cc

same_guard : (a b : Guard) → is_same_guard a b ≡ true → a ≡ b
same_guard a b e =
    let k = and_both (a.target == b.target) (a.depth == b.depth) e in
    let t : a.target ≡ b.target = (Decides-eqb a.target b.target).0 k.0 in
    let d : a.depth ≡ b.depth = (Decides-eqb a.depth b.depth).0 k.1 in
    ap (λ n. record { target = n; depth = a.depth }) t ∙ ap (λ n. record { target = b.target; depth = n }) d

same_one : (g h : Option Guard) → is_same g h ≡ true → g ≡ h
same_one None None e = refl
same_one None (Some h) e = absurd cc
same_one (Some g) None e = absurd cc
same_one (Some g) (Some h) e = ap (λ k. Some k) (same_guard g h e)

-- ---- no range begins after a place in front of all

not_yet : (from p : ℕ) (g : Guard) (q : ℕ) → q < from → guards q (record { from = from; to = p; target = g.target; depth = g.depth }) ≡ false
not_yet from p g q lt = let no : nat_le from q ≡ false = grind (arith, nat_tests) in ap (λ b. b && nat_lt q p) no

skips : (q : ℕ) (h : Handler) (rest : List Handler) → guards q h ≡ false → handler_of q (h ∷ rest) ≡ handler_of q rest
skips q h rest e = ap (λ b. if b then Some (inner h (handler_of q rest)) else handler_of q rest) e

before_closed : (from p : ℕ) (g : Option Guard) (q : ℕ) (rest : List Handler) → q < from → handler_of q (closed from p g ++ rest) ≡ handler_of q rest
before_closed from p None q rest lt = refl
before_closed from p (Some g) q rest lt = skips q _ rest (not_yet from p g q lt)

before_all : (from : ℕ) (g : Option Guard) (p : ℕ) (cs : List Cell) (q : ℕ) → from ≤ p → q < from → handler_of q (ranges from g p cs) ≡ None
before_all from g p [] q le lt = alone g
  where
    alone : (k : Option Guard) → handler_of q (closed from p k) ≡ None
    alone None = refl
    alone (Some k) = skips q _ [] (not_yet from p k q lt)
before_all from g p (c ∷ cs) q le lt =
    by_case (is_same g c.guard) (before_all from g (p + 1) cs q (omega arith) lt) (before_all p c.guard (p + 1) cs q (omega arith) (omega arith))
  where
    by_case : (b : Bool) → handler_of q (ranges from g (p + 1) cs) ≡ None → handler_of q (ranges p c.guard (p + 1) cs) ≡ None
        → handler_of q (if b then ranges from g (p + 1) cs else closed from p g ++ ranges p c.guard (p + 1) cs) ≡ None
    by_case true h k = h
    by_case false h k = before_closed from p g q (ranges p c.guard (p + 1) cs) lt ∙ k

-- ---- a range that is closed

in_range : (from p : ℕ) (g : Guard) (q : ℕ) → from ≤ q → q < p → guards q (record { from = from; to = p; target = g.target; depth = g.depth }) ≡ true
in_range from p g q le lt = grind (arith, nat_tests)

past_range : (from p : ℕ) (g : Guard) (q : ℕ) → p ≤ q → guards q (record { from = from; to = p; target = g.target; depth = g.depth }) ≡ false
past_range from p g q le = let no : nat_lt q p ≡ false = grind (arith, nat_tests) in ap (λ b. nat_le from q && b) no ∙ never (nat_le from q)
  where
    never : (a : Bool) → (a && false) ≡ false
    never true = refl
    never false = refl

in_closed : (from p : ℕ) (g : Option Guard) (q : ℕ) (rest : List Handler) → from ≤ q → q < p → handler_of q rest ≡ None → Guards g (handler_of q (closed from p g ++ rest))
in_closed from p None q rest le lt e = subst (λ o. Guards None o) (sym e) tt
in_closed from p (Some g) q rest le lt e =
    let h : Handler = record { from = from; to = p; target = g.target; depth = g.depth } in
    subst (λ b. Guards (Some g) (if b then Some (inner h (handler_of q rest)) else handler_of q rest)) (sym (in_range from p g q le lt))
    (subst (λ o. Guards (Some g) (Some (inner h o))) (sym e) (refl, refl))

past_closed : (from p : ℕ) (g : Option Guard) (q : ℕ) (rest : List Handler) → p ≤ q → handler_of q (closed from p g ++ rest) ≡ handler_of q rest
past_closed from p None q rest le = refl
past_closed from p (Some g) q rest le = skips q _ rest (past_range from p g q le)

-- ---- all places

column_before : (g : Option Guard) (p : ℕ) (cs : List Cell) (q : ℕ) → q < p → column g p cs q ≡ g
column_before g p [] q lt = refl
column_before g p (c ∷ cs) q lt = let yes : nat_lt q p ≡ true = grind (arith, nat_tests) in ap (λ b. if b then g else column c.guard (p + 1) cs q) yes

-- a cell of the same handler, in front of others
column_same : (g : Option Guard) (p : ℕ) (c : Cell) (cs : List Cell) (q : ℕ) → g ≡ c.guard → column g p (c ∷ cs) q ≡ column g (p + 1) cs q
column_same g p c cs q e = by_case (nat_lt q p) refl
  where
    by_case : (b : Bool) → nat_lt q p ≡ b → (if b then g else column c.guard (p + 1) cs q) ≡ column g (p + 1) cs q
    by_case true h = sym (column_before g (p + 1) cs q (grind (arith, nat_tests)))
    by_case false h = ap (λ k. column k (p + 1) cs q) (sym e)

pub columns : (from : ℕ) (g : Option Guard) (p : ℕ) (cs : List Cell) (q : ℕ) → from ≤ p → from ≤ q → q < p + length cs → Guards (column g p cs q) (handler_of q (ranges from g p cs))
columns from g p [] q le lo hi = alone g
  where
    alone : (k : Option Guard) → Guards k (handler_of q (closed from p k))
    alone None = tt
    alone (Some k) =
        let h : Handler = record { from = from; to = p; target = k.target; depth = k.depth } in
        subst (λ b. Guards (Some k) (if b then Some (inner h (handler_of q [])) else handler_of q [])) (sym (in_range from p k q lo (omega arith))) (refl, refl)
columns from g p (c ∷ cs) q le lo hi =
    by_case (is_same g c.guard) refl (columns from g (p + 1) cs q (omega arith) lo (omega arith))
    (λ at. columns p c.guard (p + 1) cs q (omega arith) at (omega arith))
  where
    by_place : (b : Bool) → nat_lt q p ≡ b → ((p ≤ q) → Guards (column c.guard (p + 1) cs q) (handler_of q (ranges p c.guard (p + 1) cs)))
        → Guards (if b then g else column c.guard (p + 1) cs q) (handler_of q (closed from p g ++ ranges p c.guard (p + 1) cs))
    by_place true h k =
        let lt : q < p = grind (arith, nat_tests) in in_closed from p g q (ranges p c.guard (p + 1) cs) lo lt (before_all p c.guard (p + 1) cs q (omega arith) lt)
    by_place false h k =
        let at : p ≤ q = grind (arith, nat_tests) in
        subst (λ o. Guards (column c.guard (p + 1) cs q) o) (sym (past_closed from p g q (ranges p c.guard (p + 1) cs) at)) (k at)

    by_case : (b : Bool) → is_same g c.guard ≡ b → Guards (column g (p + 1) cs q) (handler_of q (ranges from g (p + 1) cs))
        → ((p ≤ q) → Guards (column c.guard (p + 1) cs q) (handler_of q (ranges p c.guard (p + 1) cs)))
        → Guards (column g p (c ∷ cs) q) (handler_of q (if b then ranges from g (p + 1) cs else closed from p g ++ ranges p c.guard (p + 1) cs))
    by_case true e h k = subst (λ o. Guards o (handler_of q (ranges from g (p + 1) cs))) (sym (column_same g p c cs q (same_one g c.guard e))) h
    by_case false e h k = by_place (nat_lt q p) refl k
