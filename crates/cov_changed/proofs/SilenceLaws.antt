-- What marks nothing is compared statement by statement.
use Rattle.std.proofs.Common.{◌≡◌, ◌≢◌, ◌⊎◌, inl, inr, ℕ, suc, nat_eq, Bool, true, false, not, ◌&&◌, ◌||◌, List, [], ◌∷◌, ◌++◌, Option, Some, None, is_none, Vec, Global, length, refl, ap, sym, ◌∙◌}
use Rattle.std.proofs.lemmas.Bool.{false≢true}
use Rattle.py_text.specs.Comparison.{is_same_text}
use Rattle.py_syntax.specs.declared.stmt.Arm.{Arm}
use Rattle.py_syntax.specs.declared.stmt.LineEnd.{LineEnd}
use Rattle.py_syntax.specs.declared.stmt.Stmt.{Stmt, out-Stmt}
use Rattle.py_syntax.specs.declared.stmt.Stmt as stmts_
use Rattle.py_syntax.specs.declared.stmt.StmtKind.{StmtKind as KindNode}
use Rattle.py_syntax.specs.declared.stmt.StmtKind as kind_
use Rattle.py_syntax.specs.declared.stmt.Suite.{Suite as SuiteNode}
use Rattle.py_syntax.specs.Functions.{is_docstring, without_docstring}
use Rattle.py_syntax.specs.Marks.{stmts_marks, kind_marks, arms_marks, opt_marks}
use Rattle.py_syntax.specs.Tree.{Text, str}
use Rattle.py_syntax.specs.Tree.{Stmts, no_stmts, stmt, StmtKind, expr, global, if'}
use Rattle.py_syntax.specs.View.{plain_stmts, plain_kind, plain_opt_suite, plain_arms}
use Rattle.py_changes.specs.Same.{same_bool, same_texts}
use Rattle.py_changes.specs.Changed.{is_empty, has_docstring, same_silent, same_docstring, fits_body}
use Rattle.cov_pieces.proofs.Agreeing.{body_marks-is}
use Rattle.cov_changed.proofs.Words.{and_assoc, second}
use Rattle.cov_changed.specs.Silence.{declared_by, docstring_in, are_both, alike, lead_alike}

-- ---- laws of tests and lists

-- whether a list has a line
abbrev pub some : List ℕ → Bool
some ls = not (is_empty ls)

pub some-both : (xs ys : List ℕ) → some (xs ++ ys) ≡ (some xs || some ys)
some-both [] ys = refl
some-both (x ∷ xs) ys = refl

-- ---- plain views

plain-stmts : (s : Stmt) (ss : List Stmt) → plain_stmts (s ∷ ss) ≡ stmt (out-Stmt s).first (out-Stmt s).last (plain_kind (out-Stmt s).kind) (out-Stmt s).end (plain_stmts ss)
plain-stmts s ss = search stmts_.the_lemmas

plain-If : (rest : Vec Arm Global) (o : Option SuiteNode) → plain_kind (kind_.If rest o) ≡ if' (plain_arms rest.items) (plain_opt_suite o)
plain-If rest None = search kind_.the_lemmas
plain-If rest (Some o) = search kind_.the_lemmas

-- ---- `global` statements

alone-kind : (l a : ℕ) (k : StmtKind) (e : LineEnd) (r : Stmts) → same_silent (stmt l a k e r) no_stmts ≡ false
alone-kind l a (global xs) e r = refl
alone-kind l a k e r = refl

pub silent-step : (l a : ℕ) (k : StmtKind) (e : LineEnd) (r : Stmts) (m b : ℕ) (j : StmtKind) (f : LineEnd) (s : Stmts)
    → same_silent (stmt l a k e r) (stmt m b j f s) ≡ (are_both l (declared_by k) m (declared_by j) && same_silent r s)
silent-step l a (global xs) e r m b (global ys) f s = sym (and_assoc (nat_eq l m) (same_texts xs ys) (same_silent r s))
silent-step l a k e r m b j f s = refl

pub rows-step : (a b : Stmt) (us vs : List Stmt) → same_silent (plain_stmts (a ∷ us)) (plain_stmts (b ∷ vs)) ≡ (are_both (out-Stmt a).first (declared_by (plain_kind (out-Stmt a).kind)) (out-Stmt b).first (declared_by (plain_kind (out-Stmt b).kind)) && same_silent (plain_stmts us) (plain_stmts vs))
rows-step a b us vs =
    ap (λ z. same_silent z (plain_stmts (b ∷ vs))) (plain-stmts a us) ∙ ap (λ z. same_silent (stmt (out-Stmt a).first (out-Stmt a).last (plain_kind (out-Stmt a).kind) (out-Stmt a).end (plain_stmts us)) z) (plain-stmts b vs)
    ∙ silent-step (out-Stmt a).first (out-Stmt a).last (plain_kind (out-Stmt a).kind) (out-Stmt a).end (plain_stmts us) (out-Stmt b).first (out-Stmt b).last (plain_kind (out-Stmt b).kind) (out-Stmt b).end (plain_stmts vs)

-- ---- docstrings

none-first : (j : StmtKind) → is_none (docstring_in j) ≡ (same_bool false (is_docstring j) && true)
none-first (expr (str qs)) = refl
none-first j = refl

none-second : (l a : ℕ) (k : StmtKind) (e : LineEnd) (r : Stmts) → is_none (docstring_in k) ≡ (same_bool (is_docstring k) false && same_docstring (stmt l a k e r) no_stmts)
none-second l a (expr (str qs)) e r = refl
none-second l a k e r = refl

-- a body marks a line, or its docstring is compared us a docstring
lead-kinds : (l a : ℕ) (k : StmtKind) (e : LineEnd) (r : Stmts) (m b : ℕ) (j : StmtKind) (f : LineEnd) (s : Stmts)
    → (some (stmts_marks (without_docstring (stmt l a k e r))) ≡ true)
    ⊎ (alike l (docstring_in k) m (docstring_in j) ≡ (same_bool (is_docstring k) (is_docstring j) && same_docstring (stmt l a k e r) (stmt m b j f s)))
lead-kinds l a (expr (str ps)) e r m b (expr (str qs)) f s = inr refl
lead-kinds l a (expr (str ps)) e r m b j f s = inr refl
lead-kinds l a (expr x) e r m b j f s = inl refl
lead-kinds l a k e r m b (expr (str qs)) f s = inr refl
lead-kinds l a k e r m b j f s = inr refl

leads : (a b : Stmts) → (some (stmts_marks (without_docstring a)) ≡ true) ⊎ (lead_alike a b ≡ (same_bool (has_docstring a) (has_docstring b) && same_docstring a b))
leads no_stmts no_stmts = inr refl
leads no_stmts (stmt m b j f s) = inr (none-first j)
leads (stmt l a k e r) no_stmts = inr (none-second l a k e r)
leads (stmt l a k e r) (stmt m b j f s) = lead-kinds l a k e r m b j f s

pub fits-law : (a b : Stmts) → (some (stmts_marks (without_docstring a)) || (lead_alike a b && same_silent (without_docstring a) (without_docstring b))) ≡ fits_body a b
fits-law a b = by_case (leads a b) ∙ ap (λ ls. some ls || (same_bool (has_docstring a) (has_docstring b) && same_docstring a b && same_silent (without_docstring a) (without_docstring b))) (body_marks-is a) where
  by_case : (some (stmts_marks (without_docstring a)) ≡ true) ⊎ (lead_alike a b ≡ (same_bool (has_docstring a) (has_docstring b) && same_docstring a b))
      → (some (stmts_marks (without_docstring a)) || (lead_alike a b && same_silent (without_docstring a) (without_docstring b))) ≡ (some (stmts_marks (without_docstring a)) || (same_bool (has_docstring a) (has_docstring b) && same_docstring a b && same_silent (without_docstring a) (without_docstring b)))
  by_case (inl e) = rw e refl
  by_case (inr e) = ap (λ t. some (stmts_marks (without_docstring a)) || (t && same_silent (without_docstring a) (without_docstring b))) e

-- ---- from the code to the laws

-- one of two lists of texts is longer
same-lengths : (xs ys : List Text) → same_texts xs ys ≡ true → length xs ≡ length ys
same-lengths [] [] h = refl
same-lengths (x ∷ xs) (y ∷ ys) h = ap suc (same-lengths xs ys (second (is_same_text x y) (same_texts xs ys) h))
same-lengths [] (y ∷ ys) h = absurd (false≢true h)
same-lengths (x ∷ xs) [] h = absurd (false≢true h)

pub unlike-texts : (xs ys : List Text) → length xs ≢ length ys → false ≡ same_texts xs ys
unlike-texts xs ys h = by_case (same_texts xs ys) refl where
  by_case : (b : Bool) → same_texts xs ys ≡ b → false ≡ same_texts xs ys
  by_case true e = absurd (h (same-lengths xs ys e))
  by_case false e = sym e

-- rows of statements of unequal length
silent-lengths : (us vs : List Stmt) → same_silent (plain_stmts us) (plain_stmts vs) ≡ true → length us ≡ length vs
silent-lengths [] [] h = refl
silent-lengths (a ∷ us) (b ∷ vs) h =
    ap suc (silent-lengths us vs (second (are_both (out-Stmt a).first (declared_by (plain_kind (out-Stmt a).kind)) (out-Stmt b).first (declared_by (plain_kind (out-Stmt b).kind))) (same_silent (plain_stmts us) (plain_stmts vs)) (sym (rows-step a b us vs) ∙ h)))
silent-lengths [] (b ∷ vs) h = absurd (false≢true (sym (ap (same_silent no_stmts) (plain-stmts b vs)) ∙ h))
silent-lengths (a ∷ us) [] h = absurd (false≢true (sym (ap (λ z. same_silent z no_stmts) (plain-stmts a us) ∙ alone-kind (out-Stmt a).first (out-Stmt a).last (plain_kind (out-Stmt a).kind) (out-Stmt a).end (plain_stmts us)) ∙ h))

pub unlike-rows : (us vs : List Stmt) → length us ≢ length vs → false ≡ same_silent (plain_stmts us) (plain_stmts vs)
unlike-rows us vs h = by_case (same_silent (plain_stmts us) (plain_stmts vs)) refl where
  by_case : (b : Bool) → same_silent (plain_stmts us) (plain_stmts vs) ≡ b → false ≡ same_silent (plain_stmts us) (plain_stmts vs)
  by_case true e = absurd (h (silent-lengths us vs e))
  by_case false e = sym e

-- a step of a loop that keeps whether all are the same
pub carries : (all one got now rest r total : Bool) → now ≡ (one && rest) → got ≡ one → r ≡ (all && got) → (all && now) ≡ total → (r && rest) ≡ total
carries all one got now rest r total e g f h =
    ap (λ t. t && rest) (f ∙ ap (λ t. all && t) g) ∙ and_assoc all one rest ∙ ap (λ t. all && t) (sym e) ∙ h

pub all_done : (all now total : Bool) → now ≡ true → (all && now) ≡ total → all ≡ total
all_done true now total e h = sym e ∙ h
all_done false now total e h = h

-- the marks of a row, and of an `if`
pub marks-step : (s : Stmt) (ss : List Stmt) → some (stmts_marks (plain_stmts (s ∷ ss))) ≡ (some (kind_marks (out-Stmt s).first (plain_kind (out-Stmt s).kind)) || some (stmts_marks (plain_stmts ss)))
marks-step s ss = ap (λ z. some (stmts_marks z)) (plain-stmts s ss) ∙ some-both (kind_marks (out-Stmt s).first (plain_kind (out-Stmt s).kind)) (stmts_marks (plain_stmts ss))

pub if-marks : (l : ℕ) (k : KindNode) (ws : Vec Arm Global) (o : Option SuiteNode) (xs : List Arm) (r t : Bool) → k ≡ kind_.If ws o → xs ≡ ws.items → r ≡ (some (arms_marks (plain_arms xs)) || t) → t ≡ some (opt_marks (plain_opt_suite o)) → r ≡ some (kind_marks l (plain_kind k))
if-marks l k ws o xs r t is p e f =
    e ∙ ap (λ z. some (arms_marks (plain_arms xs)) || z) f ∙ sym (some-both (arms_marks (plain_arms xs)) (opt_marks (plain_opt_suite o)))
    ∙ ap (λ (z : List Arm). some (arms_marks (plain_arms z) ++ opt_marks (plain_opt_suite o))) p ∙ sym (ap (λ z. some (kind_marks l (plain_kind z))) is ∙ ap (λ z. some (kind_marks l z)) (plain-If ws o))

-- whether a body fits, by its parts
pub by_parts : (a b x y : Stmts) (m d s : Bool) → x ≡ without_docstring a → y ≡ without_docstring b → m ≡ some (stmts_marks x) → d ≡ lead_alike a b → s ≡ same_silent x y → (m || (d && s)) ≡ fits_body a b
by_parts a b x y m d s p q e f g =
    ap (λ z. z || (d && s)) (e ∙ ap (λ z. some (stmts_marks z)) p)
    ∙ ap (λ z. some (stmts_marks (without_docstring a)) || (z && s)) f
    ∙ ap (λ z. some (stmts_marks (without_docstring a)) || (lead_alike a b && z)) (g ∙ ap (λ z. same_silent z y) p ∙ ap (λ z. same_silent (without_docstring a) z) q)
    ∙ fits-law a b
