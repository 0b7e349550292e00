-- Statements of two versions, among the old modules and the new: what is compared is followed.
use Rattle.std.proofs.Common.{◌≡◌, ℕ, nat_eq, Bool, false, ◌&&◌, IsTrue, cond, List, [], ◌∷◌, ◌++◌, Option, Some, None, refl, ap, inl, inr}
use Rattle.py_value.specs.declared.value.FuncId.{FuncId}
use Rattle.py_text.specs.Comparison.{is_same_text}
use Rattle.py_value.specs.Plain.{PlainValue, func_value, PlainRaised}
use Rattle.py_syntax.specs.Functions.{functions}
use Rattle.py_syntax.specs.Gathering.{gather, gather_kind, gather_opt, gather_arms, gather_clauses, gather_cases}
use Rattle.py_syntax.specs.Marks.{own_mark, kind_marks}
use Rattle.py_syntax.specs.Tree.{Text, Exprs, Stmts, no_stmts, stmt, Suite, suite, OptSuite, no_suite, has_suite, Arms, no_arms, arm, Clauses, no_clauses, clause, Cases, no_cases, case, StmtKind, expr, assign, aug_assign, pass, break, continue, return, raise, assert, global, import, from, if', while, for, try, def, match}
use Rattle.py_meaning.specs.Activations.{mark}
use Rattle.py_meaning.specs.Assignments.{assign_to}
use Rattle.py_meaning.specs.Computations.{M, give, chain, step, write, ask, branch}
use Rattle.py_meaning.specs.Expressions.{eval}
use Rattle.py_meaning.specs.Modules.{unit_at, body_of}
use Rattle.py_meaning.specs.Patterns.{matched, bind_all}
use Rattle.py_meaning.specs.Places.{bound}
use Rattle.py_meaning.specs.Statements.{Out, normal, using, next, loop, while_loop, for_loop, has_clauses, handle, caught_by, handled, on_match, guarded, exec, exec_kind, exec_opt, exec_arms, exec_clauses, exec_finally, exec_cases}
use Rattle.py_changes.proofs.Kept.{Suit, SuitsRaised}
use Rattle.py_changes.specs.Same.{same_bool, same_option, same_expr, same_exprs, same_maybe, same_pattern}
use Rattle.py_changes.specs.Changed.{where_not, kind_number, same_heads, is_empty, fits_stmts, fits_suite, fits_opt, fits_arms, fits_clauses, fits_cases, same_simple, changed_header, changed_stmts, changed_each, changed_kind, changed_opt, changed_arms, changed_clauses, changed_cases}
use Rattle.py_changes.proofs.SameLaws.{no, both, number-is, text-is, option-is, expr-is, exprs-is, maybe-is, pattern-is, two, three}
use Rattle.py_changes.proofs.Growth.{Grows, EachGrows}
use Rattle.py_changes.proofs.Follows.{OutSuits, Follows, follow-under, follow-give, follow-chain, follow-step, follow-write, follow-value, follow-if, follow-branch, follow-throw, follow-using, follow-next, follow-loop}
use Rattle.py_changes.proofs.Struck.{follow-struck, grow-opt, struck-own, struck-kind, struck-row, struck-arm, struck-clause, struck-case}
use Rattle.py_changes.proofs.Expressions.{Any, Sides, new_scope, old_place, new_place, follow-as, follow-bound, follow-eval, follow-assign_to, follow-assign_all, follow-augment, follow-import_each, follow-take_each, follow-module_of}
use Rattle.py_changes.proofs.Flow.{HandledSuits, WalkSuits, follow-settle, follow-handle, follow-for_header, follow-while_header}
use Rattle.py_changes.proofs.Patterns.{bind_all_same, follow-handled, follow-matched, follow-on_match}
use Rattle.py_changes.proofs.Parts.{follow-guarded, follow-caught, follow-failed, follow-defaults, follow-returned, follow-raised}
use Rattle.py_changes.proofs.Compared.{is_plain, simple-is, way, has_same, Bad, bad-left, bad-right, parted, judged, Compared, compared_row}
use Rattle.py_changes.proofs.Made.{IsMade, AreMade, some_arm}
use Rattle.py_changes.proofs.Lists.{all-left, all-right}
use Rattle.py_changes.specs.Regular.{all_statements}

module _ {Safe : ℕ → ℕ → Type 0} {K : FuncId → Type 0} (sides : Sides Safe K)
    (grow : EachGrows Safe sides.calls) where
  -- one computation is followed by another, as far as C holds
  abbrev Goes : Type 0 → M Out → M Out → Type 0
  Goes C f g = Follows Safe K C sides.number (OutSuits K) f g

  -- none of these lines is safe
  abbrev Unsafe : List ℕ → Type 0
  Unsafe ls = Bad Safe sides.number ls

  front : (xs ys : List ℕ) → Unsafe (xs ++ ys) → Unsafe xs
  front xs ys bad = bad-left Safe sides.number xs ys bad

  back : (xs ys : List ℕ) → Unsafe (xs ++ ys) → Unsafe ys
  back xs ys bad = bad-right Safe sides.number xs ys bad

  -- statements of the old body
  abbrev old_stmts : Option PlainRaised → Stmts → M Out
  old_stmts h a = exec sides.calls (old_place sides h) a

  -- statements of the new body
  abbrev new_stmts : Option PlainRaised → Stmts → M Out
  new_stmts h a = exec sides.others (new_place sides h) a

  -- a statement of the old body
  abbrev old_kind : Option PlainRaised → ℕ → StmtKind → M Out
  old_kind h l k = exec_kind sides.calls (old_place sides h) l k

  -- a statement of the new body
  abbrev new_kind : Option PlainRaised → ℕ → StmtKind → M Out
  new_kind h l k = exec_kind sides.others (new_place sides h) l k

  -- a suite of the new body that may be missing
  abbrev new_opt : Option PlainRaised → OptSuite → M Out
  new_opt h o = exec_opt sides.others (new_place sides h) o

  -- `Inside` says which lines begin a `def` of the module
  module _ (Inside : ℕ → Type 0)
      (made : (l : ℕ) → Safe sides.number l → Inside l
      → (unit_at l (functions (body_of sides.old sides.number)) ≡ unit_at l
      (functions (body_of sides.new sides.number)))
      × K (record {
        «module» = sides.number;
        unit = unit_at l
            (functions (body_of sides.old sides.number));
      })) where
    -- a statement as the laws ask
    abbrev Fine : ℕ × StmtKind → Type 0
    Fine s = IsMade Inside s.0 s.1

    -- statements as the laws ask
    abbrev Each : List (ℕ × StmtKind) → Type 0
    Each ss = AreMade Inside ss

    fine-front : (xs ys : List (ℕ × StmtKind)) → Each (xs ++ ys) → Each xs
    fine-front xs ys fine = all-left Fine xs ys fine

    fine-back : (xs ys : List (ℕ × StmtKind)) → Each (xs ++ ys) → Each ys
    fine-back xs ys fine = all-right Fine xs ys fine

    follow-bad : {C : Type 0} {g : M Out} (h : Option PlainRaised) (l : ℕ) (k : StmtKind)
        → Unsafe (kind_marks l k) → is_empty (kind_marks l k) ≡ false → Goes C (old_kind h l k) g
    follow-bad h l k bad some =
        follow-struck Safe sides.number
        (struck-kind Safe sides.number sides.calls sides.old grow sides.names h l k bad some)

    follow-own : {C : Type 0} {g : M Out} (h : Option PlainRaised) (l : ℕ) (k : StmtKind)
        → Unsafe (own_mark l k) → is_empty (own_mark l k) ≡ false → Goes C (old_kind h l k) g
    follow-own h l k bad some =
        follow-struck Safe sides.number
        (struck-own Safe sides.number sides.calls sides.old grow sides.names h l k bad some)

    -- a statement that is compared as one, where it follows itself
    follow-one : {C : Type 0} (h : Option PlainRaised) (l : ℕ) (k j : StmtKind)
        → IsTrue (is_plain k) → is_empty (own_mark l k) ≡ false
        → Unsafe (where_not (same_simple k j) (own_mark l k, own_mark l j)).0
        → Goes C (old_kind h l k) (new_kind h l k) → Goes C (old_kind h l k) (new_kind h l j)
    follow-one h l k j plain some bad self =
        way (judged Safe sides.number (same_simple k j) (own_mark l k, own_mark l j) bad)
        (λ t. follow-as _ (λ c. ap (λ x. new_kind h l x) (simple-is k j t plain)) self)
        (λ b. follow-own h l k b some)

    -- a `def`, where its defaults are the same
    follow-def : {C : Type 0} (h : Option PlainRaised) (l : ℕ) (x : Text) (ps qs : List Text)
        (ds : Exprs) (comma comma' : Bool) (s t : Suite) → Inside l
        → Goes C (old_kind h l (def x ps ds comma s)) (new_kind h l (def x qs ds comma' t))
    unfolding exec_kind
    follow-def h l x ps qs ds comma comma' s t inside =
        follow-step (mark l) (follow-using (follow-defaults sides h ds) (λ a.
        follow-as _
        (λ c. ap (λ u. write
        (bound (new_scope sides) x (func_value (record { «module» = sides.number; unit = u }) a))
        (give normal)) (made l c.0.1 inside).0)
        (follow-bound sides x
        (func_value
        (record {
          «module» = sides.number;
          unit = unit_at l
              (functions (body_of sides.old sides.number));
        }) a) (λ c. (made l c.0.1 inside).1)
        (follow-give _ (λ c. tt)))))

    def-same : {C : Type 0} (h : Option PlainRaised) (l : ℕ) (x x' : Text) (ps qs : List Text)
        (ds es : Exprs) (comma comma' : Bool) (s t : Suite) → x ≡ x' → Inside l → ds ≡ es
        → Goes C (old_kind h l (def x ps ds comma s)) (new_kind h l (def x' qs es comma' t))
    unfolding exec_kind
    def-same h l x x' ps qs ds es comma comma' s t e inside f =
        follow-as _ (λ k. two (λ y zs. new_kind h l (def y qs zs comma' t)) e f)
        (follow-def h l x ps qs ds comma comma' s t inside)

    mutual
      unfolding exec exec_kind exec_opt exec_arms exec_clauses exec_finally exec_cases

      pub follow-row : (h : Option PlainRaised) (a b : Stmts) {C : Type 0} → (C → HandledSuits K h)
          → Compared Safe sides.number a b → Each (gather all_statements a)
          → Goes C (old_stmts h a) (new_stmts h b)
      follow-row h a b hk (inr x) fine =
          follow-struck Safe sides.number
          (struck-row Safe sides.number sides.calls sides.old grow sides.names h a x.0 x.1)
      follow-row h no_stmts no_stmts hk (inl x) fine = follow-give _ (λ c. tt)
      follow-row h no_stmts (stmt l' b' k' e' q) hk (inl x) fine = no x.0
      follow-row h (stmt l b k e q) no_stmts hk (inl x) fine = no x.0
      follow-row h (stmt l b k e q) (stmt l' b' j e' q') hk (inl x) fine =
          let t = both (nat_eq l l') (nat_eq (kind_number k) (kind_number j) && same_heads q q') x.0
          in
          let u = both (nat_eq (kind_number k) (kind_number j)) (same_heads q q') t.1 in
          follow-as _ (λ c. ap (λ n. chain (new_kind h n j) (λ o. next o (new_stmts h q')))
          (number-is l l' t.0))
          (follow-chain
          (follow-kind h l k j hk u.0 (front (changed_kind l k j).0 (changed_each q q').0 x.1)
          (fine-front (gather_kind all_statements ((l, k) ∷ []) k) (gather all_statements q) fine))
          (λ o. follow-next o
          (follow-row h q q' hk (inl (u.1, back (changed_kind l k j).0 (changed_each q q').0 x.1))
          (fine-back (gather_kind all_statements ((l, k) ∷ []) k) (gather all_statements q) fine))))

      follow-kind : (h : Option PlainRaised) (l : ℕ) (k j : StmtKind) {C : Type 0}
          → (C → HandledSuits K h) → IsTrue (nat_eq (kind_number k) (kind_number j))
          → Unsafe (changed_kind l k j).0 → Each (gather_kind all_statements ((l, k) ∷ []) k)
          → Goes C (old_kind h l k) (new_kind h l j)
      follow-kind h l (expr e) j hk f bad fine =
          follow-one h l (expr e) j refl refl bad
          (follow-step (mark l)
          (follow-using (follow-eval sides h e) (λ v. follow-give _ (λ c. tt))))
      follow-kind h l (assign ts e) j hk f bad fine =
          follow-one h l (assign ts e) j refl refl bad
          (follow-step (mark l)
          (follow-using
          (follow-value (follow-eval sides h e) (λ v. follow-assign_all sides h ts v (λ c. c.1)))
          (λ u. follow-give _ (λ c. tt))))
      follow-kind h l (aug_assign t op e) j hk f bad fine =
          follow-one h l (aug_assign t op e) j refl refl bad
          (follow-step (mark l)
          (follow-using (follow-augment sides h t op e) (λ u. follow-give _ (λ c. tt))))
      follow-kind h l pass j hk f bad fine =
          follow-one h l pass j refl refl bad (follow-step (mark l) (follow-give _ (λ c. tt)))
      follow-kind h l break j hk f bad fine =
          follow-one h l break j refl refl bad (follow-step (mark l) (follow-give _ (λ c. tt)))
      follow-kind h l continue j hk f bad fine =
          follow-one h l continue j refl refl bad (follow-step (mark l) (follow-give _ (λ c. tt)))
      follow-kind h l (return e) j hk f bad fine =
          follow-one h l (return e) j refl refl bad
          (follow-step (mark l) (follow-returned sides h e))
      follow-kind h l (raise e) j hk f bad fine =
          follow-one h l (raise e) j refl refl bad
          (follow-step (mark l) (follow-raised sides h (λ c. hk c.0) e))
      follow-kind h l (assert t why) j hk f bad fine =
          follow-one h l (assert t why) j refl refl bad
          (follow-step (mark l)
          (follow-using (follow-eval sides h t)
          (λ v. follow-branch v (follow-give _ (λ c. tt)) (follow-failed sides h why))))
      follow-kind h l (global zs) (global zs') hk f bad fine = follow-give _ (λ c. tt)
      follow-kind h l (global zs) j hk f bad fine = no f
      follow-kind h l (import names) j hk f bad fine =
          follow-one h l (import names) j refl refl bad
          (follow-step (mark l)
          (follow-using (follow-import_each sides h names) (λ u. follow-give _ (λ c. tt))))
      follow-kind h l (from n names) j hk f bad fine =
          follow-one h l (from n names) j refl refl bad
          (follow-step (mark l)
          (follow-using
          (follow-value (follow-module_of sides n) (λ v. follow-take_each sides h n v names))
          (λ u. follow-give _ (λ c. tt))))
      follow-kind h l (if' us o) (if' bs q) hk f bad fine =
          way (parted Safe sides.number (fits_arms us bs && fits_opt o q) _ _ bad)
          (λ x. let t = both (fits_arms us bs) (fits_opt o q) x.0 in
          follow-arms h us bs hk (front (changed_arms us bs).0 (changed_opt o q).0 x.1) t.0
          (fine-front (gather_arms all_statements us) (gather_opt all_statements o) fine.1)
          (grow-opt Safe sides.number sides.calls sides.old grow sides.names h o)
          (follow-opt h o q hk (back (changed_arms us bs).0 (changed_opt o q).0 x.1) t.1
          (fine-back (gather_arms all_statements us) (gather_opt all_statements o) fine.1)))
          (λ b. follow-bad h l (if' us o) b (some_arm Inside l us o fine.0))
      follow-kind h l (if' us o) j hk f bad fine = no f
      follow-kind h l (while e (suite sl sg si b) o) (while e' (suite sl' sg' si' b') q) hk f bad
          fine =
          let ss = suite sl sg si b in let ss' = suite sl' sg' si' b' in
          way (parted Safe sides.number (fits_suite ss ss' && fits_opt o q) _ _ bad)
          (λ x. let t = both (fits_suite ss ss') (fits_opt o q) x.0 in
          let own = (changed_header (same_expr e e') l l).0 in
          let rest = back own ((changed_stmts b b').0 ++ (changed_opt o q).0) x.1 in
          way (judged Safe sides.number (nat_eq l l && same_expr e e') (l ∷ [], l ∷ [])
          (front own ((changed_stmts b b').0 ++ (changed_opt o q).0) x.1))
          (λ y. follow-as _
          (λ c. ap (λ z. loop
          (while_loop l (eval sides.others (new_place sides h) z) (new_stmts h b') (new_opt h q))
          (mark l) None) (expr-is e e' (both (nat_eq l l) (same_expr e e') y).1))
          (follow-loop {Q = Any} (mark l) (record {
            line = refl;
            header = λ z. follow-while_header (follow-eval sides h e);
            turn = λ z. follow-row h b b' (λ c. hk c.0)
                (compared_row Safe sides.number b b'
                (front (changed_stmts b b').0 (changed_opt o q).0 rest) t.0)
                (fine-front (gather all_statements b) (gather_opt all_statements o) fine.1);
            orelse = follow-opt h o q hk (back (changed_stmts b b').0 (changed_opt o q).0 rest) t.1
                (fine-back (gather all_statements b) (gather_opt all_statements o) fine.1);
          })))
          (λ y. follow-own h l (while e ss o) y refl))
          (λ y. follow-bad h l (while e ss o) y refl)
      follow-kind h l (while e s o) j hk f bad fine = no f
      follow-kind h l (for p e (suite sl sg si b) o) (for p' e' (suite sl' sg' si' b') q) hk f bad
          fine =
          let ss = suite sl sg si b in let ss' = suite sl' sg' si' b' in
          way (parted Safe sides.number (fits_suite ss ss' && fits_opt o q) _ _ bad)
          (λ x. let t = both (fits_suite ss ss') (fits_opt o q) x.0 in
          let own = (changed_header (same_expr p p' && same_expr e e') l l).0 in
          let rest = back own ((changed_stmts b b').0 ++ (changed_opt o q).0) x.1 in
          way (judged Safe sides.number (nat_eq l l && (same_expr p p' && same_expr e e'))
          (l ∷ [], l ∷ []) (front own ((changed_stmts b b').0 ++ (changed_opt o q).0) x.1))
          (λ y. let u = both (same_expr p p') (same_expr e e')
          (both (nat_eq l l) (same_expr p p' && same_expr e e') y).1 in
          follow-as _
          (λ c. two
          (λ z w. loop
          (for_loop l (eval sides.others (new_place sides h) w)
          (assign_to sides.others (new_place sides h) z) (new_stmts h b') (new_opt h q))
          (mark l) None) (expr-is p p' u.0) (expr-is e e' u.1))
          (follow-loop {Q = WalkSuits K} (mark l) (record {
            line = refl;
            header = λ z. follow-for_header z (λ c. c.1) (follow-eval sides h e);
            turn = λ z. follow-using (follow-assign_to sides h p z.item (λ c. c.1.1))
                (λ v. follow-row h b b' (λ c. hk c.0.0)
                (compared_row Safe sides.number b b'
                (front (changed_stmts b b').0 (changed_opt o q).0 rest) t.0)
                (fine-front (gather all_statements b) (gather_opt all_statements o) fine.1));
            orelse = follow-opt h o q hk (back (changed_stmts b b').0 (changed_opt o q).0 rest) t.1
                (fine-back (gather all_statements b) (gather_opt all_statements o) fine.1);
          })))
          (λ y. follow-own h l (for p e ss o) y refl))
          (λ y. follow-bad h l (for p e ss o) y refl)
      follow-kind h l (for p e s o) j hk f bad fine = no f
      follow-kind h l (try (suite sl sg si b) cs o fin) (try (suite sl' sg' si' b') ds q gin) hk f
          bad fine =
          let ss = suite sl sg si b in let ss' = suite sl' sg' si' b' in
          way (parted Safe sides.number
          (fits_suite ss ss' && (fits_clauses cs ds && (fits_opt o q && fits_opt fin gin))) _ _ bad)
          (λ x. let t = both (fits_suite ss ss')
          (fits_clauses cs ds && (fits_opt o q && fits_opt fin gin)) x.0 in
          let u = both (fits_clauses cs ds) (fits_opt o q && fits_opt fin gin) t.1 in
          let v = both (fits_opt o q) (fits_opt fin gin) u.1 in
          let later = back (changed_stmts b b').0 ((changed_clauses cs ds).0
          ++ ((changed_opt o q).0 ++ (changed_opt fin gin).0)) x.1 in
          let last = back (changed_clauses cs ds).0 ((changed_opt o q).0
          ++ (changed_opt fin gin).0) later in
          let fine' = fine-back (gather all_statements b) (gather_clauses all_statements cs
          ++ (gather_opt all_statements o ++ gather_opt all_statements fin)) fine.1 in
          let fine'' = fine-back (gather_clauses all_statements cs) (gather_opt all_statements o
          ++ gather_opt all_statements fin) fine' in
          follow-as _
          (λ c. ap (λ z. step (mark l)
          (chain (chain (new_stmts h b')
          (λ w. handle z w (exec_clauses sides.others (new_place sides h) ds) (new_opt h q)))
          (λ w. exec_finally sides.others (new_place sides h) gin w))) (has_same cs ds u.0))
          (follow-step (mark l) (follow-chain
          (follow-chain
          (follow-row h b b' (λ c. hk c.0)
          (compared_row Safe sides.number b b'
          (front (changed_stmts b b').0
          ((changed_clauses cs ds).0
          ++ ((changed_opt o q).0 ++ (changed_opt fin gin).0)) x.1) t.0)
          (fine-front (gather all_statements b)
          (gather_clauses all_statements cs
          ++ (gather_opt all_statements o ++ gather_opt all_statements fin)) fine.1))
          (λ w. follow-handle (has_clauses cs) w
          (λ z. follow-clauses h cs ds (λ c. hk c.0.0)
          (front (changed_clauses cs ds).0 ((changed_opt o q).0 ++ (changed_opt fin gin).0) later)
          u.0 (fine-front (gather_clauses all_statements cs)
          (gather_opt all_statements o ++ gather_opt all_statements fin) fine') z (λ c. c.1))
          (follow-opt h o q (λ c. hk c.0) (front (changed_opt o q).0 (changed_opt fin gin).0 last)
          v.0 (fine-front (gather_opt all_statements o) (gather_opt all_statements fin) fine''))))
          (λ w. follow-finally h fin gin (λ c. hk c.0.0)
          (back (changed_opt o q).0 (changed_opt fin gin).0 last) v.1
          (fine-back (gather_opt all_statements o) (gather_opt all_statements fin) fine'') w
          (λ c. c.1)))))
          (λ y. follow-bad h l (try ss cs o fin) y refl)
      follow-kind h l (try s cs o fin) j hk f bad fine = no f
      follow-kind h l (def x ps ds comma s) (def x' qs es comma' t) hk f bad fine =
          way (judged Safe sides.number
          (is_same_text x x' && (same_exprs ds es && same_bool comma comma')) (l ∷ [], l ∷ []) bad)
          (λ y. let z = both (is_same_text x x') (same_exprs ds es && same_bool comma comma') y in
          let w = both (same_exprs ds es) (same_bool comma comma') z.1 in
          def-same h l x x' ps qs ds es comma comma' s t (text-is x x' z.0) fine.0
          (exprs-is ds es w.0))
          (λ y. follow-own h l (def x ps ds comma s) y refl)
      follow-kind h l (def x ps ds comma s) j hk f bad fine = no f
      follow-kind h l (match e last cs) (match e' last' ds) hk f bad fine =
          way (parted Safe sides.number (fits_cases cs ds) _ _ bad)
          (λ x. let own = (changed_header (same_expr e e') l l).0 in
          way (judged Safe sides.number (nat_eq l l && same_expr e e') (l ∷ [], l ∷ [])
          (front own (changed_cases cs ds).0 x.1))
          (λ y. follow-as _
          (λ c. ap (λ z. step (mark l)
          (using (eval sides.others (new_place sides h) z)
          (λ v. exec_cases sides.others (new_place sides h) ds v)))
          (expr-is e e' (both (nat_eq l l) (same_expr e e') y).1))
          (follow-step (mark l)
          (follow-using (follow-eval sides h e)
          (λ v. follow-cases h cs ds (λ c. hk c.0.0) (back own (changed_cases cs ds).0 x.1) x.0
          fine.1 v (λ c. c.1)))))
          (λ y. follow-own h l (match e last cs) y refl))
          (λ y. follow-bad h l (match e last cs) y refl)
      follow-kind h l (match e last cs) j hk f bad fine = no f

      follow-opt : (h : Option PlainRaised) (o q : OptSuite) {C : Type 0} → (C → HandledSuits K h)
          → Unsafe (changed_opt o q).0 → IsTrue (fits_opt o q) → Each (gather_opt all_statements o)
          → Goes C (exec_opt sides.calls (old_place sides h) o) (new_opt h q)
      follow-opt h no_suite no_suite hk bad fit fine = follow-give _ (λ c. tt)
      follow-opt h (has_suite (suite f g i b)) (has_suite (suite f' g' i' b')) hk bad fit fine =
          follow-row h b b' hk (compared_row Safe sides.number b b' bad fit) fine
      follow-opt h no_suite (has_suite s) hk bad fit fine = no fit
      follow-opt h (has_suite s) no_suite hk bad fit fine = no fit

      follow-arms : (h : Option PlainRaised) (us bs : Arms) {C : Type 0} {e e' : M Out}
          → (C → HandledSuits K h) → Unsafe (changed_arms us bs).0 → IsTrue (fits_arms us bs)
          → Each (gather_arms all_statements us)
          → Grows Safe sides.number Out e → Goes C e e'
          → Goes C (exec_arms sides.calls (old_place sides h) us e)
          (exec_arms sides.others (new_place sides h) bs e')
      follow-arms h no_arms no_arms hk bad fit fine g k = k
      follow-arms h no_arms (arm t s q) hk bad fit fine g k = no fit
      follow-arms h (arm t s q) no_arms hk bad fit fine g k = no fit
      follow-arms h (arm t (suite f a i b) q) (arm t' (suite f' a' i' b') q') {e = e} {e' = e'} hk
          bad fit fine g k =
          let own = (changed_header (same_expr t t') f f').0 in
          let rest = back own ((changed_stmts b b').0 ++ (changed_arms q q').0) bad in
          let u = both (fits_stmts b b') (fits_arms q q') fit in
          way (judged Safe sides.number (nat_eq f f' && same_expr t t') (f ∷ [], f' ∷ [])
          (front own ((changed_stmts b b').0 ++ (changed_arms q q').0) bad))
          (λ y. let z = both (nat_eq f f') (same_expr t t') y in
          follow-as _
          (λ c. two
          (λ n x. step (mark n)
          (using (eval sides.others (new_place sides h) x)
          (λ v. branch v (new_stmts h b') (exec_arms sides.others (new_place sides h) q' e'))))
          (number-is f f' z.0) (expr-is t t' z.1))
          (follow-step (mark f) (follow-using (follow-eval sides h t) (λ v. follow-branch v
          (follow-row h b b' (λ c. hk c.0.0)
          (compared_row Safe sides.number b b'
          (front (changed_stmts b b').0 (changed_arms q q').0 rest) u.0)
          (fine-front (gather all_statements b) (gather_arms all_statements q) fine))
          (follow-arms h q q' (λ c. hk c.0.0)
          (back (changed_stmts b b').0 (changed_arms q q').0 rest) u.1
          (fine-back (gather all_statements b) (gather_arms all_statements q) fine) g
          (follow-under (λ c. c.0.0) k))))))
          (λ y. follow-struck Safe sides.number
          (struck-arm Safe sides.number sides.calls sides.old grow sides.names h t f a i b q e y.0
          g))

      follow-clauses : (h : Option PlainRaised) (cs ds : Clauses) {C : Type 0}
          → (C → HandledSuits K h) → Unsafe (changed_clauses cs ds).0 → IsTrue (fits_clauses cs ds)
          → Each (gather_clauses all_statements cs) → (e : PlainRaised) → (C → SuitsRaised K e)
          → Goes C (exec_clauses sides.calls (old_place sides h) cs e)
          (exec_clauses sides.others (new_place sides h) ds e)
      follow-clauses h no_clauses no_clauses hk bad fit fine e he = follow-throw e he
      follow-clauses h no_clauses (clause t x s q) hk bad fit fine e he = no fit
      follow-clauses h (clause t x s q) no_clauses hk bad fit fine e he = no fit
      follow-clauses h (clause t x (suite f a i b) q) (clause t' x' (suite f' a' i' b') q') hk bad
          fit fine e he =
          let own = (changed_header (same_maybe t t' && same_option is_same_text x x') f f').0 in
          let rest = back own ((changed_stmts b b').0 ++ (changed_clauses q q').0) bad in
          let u = both (fits_stmts b b') (fits_clauses q q') fit in
          way (judged Safe sides.number
          (nat_eq f f' && (same_maybe t t' && same_option is_same_text x x')) (f ∷ [], f' ∷ [])
          (front own ((changed_stmts b b').0 ++ (changed_clauses q q').0) bad))
          (λ y. let z = both (nat_eq f f') (same_maybe t t' && same_option is_same_text x x') y in
          let w = both (same_maybe t t') (same_option is_same_text x x') z.1 in
          follow-as _
          (λ c. three
          (λ n k xx. step (mark n)
          (using (caught_by sides.others (new_place sides h) k e)
          (λ yes. cond yes
          (handled (new_scope sides) xx e (exec sides.others (new_place sides (Some e)) b'))
          (exec_clauses sides.others (new_place sides h) q' e)))) (number-is f f' z.0)
          (maybe-is t t' w.0) (option-is is_same_text text-is x x' w.1))
          (follow-step (mark f) (follow-using (follow-caught sides h t e) (λ yes. follow-if yes
          (follow-handled sides x e (λ c. he c.0.0)
          (follow-row (Some e) b b' (λ c. he c.0.0)
          (compared_row Safe sides.number b b'
          (front (changed_stmts b b').0 (changed_clauses q q').0 rest) u.0)
          (fine-front (gather all_statements b) (gather_clauses all_statements q) fine)))
          (follow-clauses h q q' (λ c. hk c.0.0)
          (back (changed_stmts b b').0 (changed_clauses q q').0 rest) u.1
          (fine-back (gather all_statements b) (gather_clauses all_statements q) fine) e
          (λ c. he c.0.0))))))
          (λ y. follow-struck Safe sides.number
          (struck-clause Safe sides.number sides.calls sides.old grow sides.names h t x f a i b q e
          y.0))

      follow-finally : (h : Option PlainRaised) (o q : OptSuite) {C : Type 0}
          → (C → HandledSuits K h) → Unsafe (changed_opt o q).0 → IsTrue (fits_opt o q)
          → Each (gather_opt all_statements o) → (pending : Out) → (C → OutSuits K pending)
          → Goes C (exec_finally sides.calls (old_place sides h) o pending)
          (exec_finally sides.others (new_place sides h) q pending)
      follow-finally h no_suite no_suite hk bad fit fine pending hp = follow-give _ hp
      follow-finally h (has_suite (suite f g i b)) (has_suite (suite f' g' i' b')) hk bad fit fine
          pending hp =
          follow-chain (follow-row h b b' hk (compared_row Safe sides.number b b' bad fit) fine)
          (λ o. follow-settle o pending (λ c. (c.1, hp c.0)))
      follow-finally h no_suite (has_suite s) hk bad fit fine pending hp = no fit
      follow-finally h (has_suite s) no_suite hk bad fit fine pending hp = no fit

      follow-cases : (h : Option PlainRaised) (cs ds : Cases) {C : Type 0} → (C → HandledSuits K h)
          → Unsafe (changed_cases cs ds).0 → IsTrue (fits_cases cs ds)
          → Each (gather_cases all_statements cs) → (v : PlainValue) → (C → Suit K v)
          → Goes C (exec_cases sides.calls (old_place sides h) cs v)
          (exec_cases sides.others (new_place sides h) ds v)
      follow-cases h no_cases no_cases hk bad fit fine v hv = follow-give _ (λ c. tt)
      follow-cases h no_cases (case p g s q) hk bad fit fine v hv = no fit
      follow-cases h (case p g s q) no_cases hk bad fit fine v hv = no fit
      follow-cases h (case p g (suite f a i b) q) (case p' g' (suite f' a' i' b') q') hk bad fit
          fine v hv =
          let own = (changed_header (same_pattern p p' && same_maybe g g') f f').0 in
          let rest = back own ((changed_stmts b b').0 ++ (changed_cases q q').0) bad in
          let u = both (fits_stmts b b') (fits_cases q q') fit in
          way (judged Safe sides.number (nat_eq f f' && (same_pattern p p' && same_maybe g g'))
          (f ∷ [], f' ∷ []) (front own ((changed_stmts b b').0 ++ (changed_cases q q').0) bad))
          (λ y. let z = both (nat_eq f f') (same_pattern p p' && same_maybe g g') y in
          let w = both (same_pattern p p') (same_maybe g g') z.1 in
          follow-as _
          (λ c. three
          (λ n pp gg. step (mark n)
          (using (ask (λ s. matched (new_scope sides) s pp v))
          (λ found. on_match found
          (λ names. write (bind_all (new_scope sides) names)
          (guarded sides.others (new_place sides h) gg (new_stmts h b')
          (exec_cases sides.others (new_place sides h) q' v)))
          (exec_cases sides.others (new_place sides h) q' v)))) (number-is f f' z.0)
          (pattern-is p p' w.0) (maybe-is g g' w.1))
          (follow-step (mark f)
          (follow-using (follow-matched sides p v (λ c. hv c.0))
          (λ found. follow-under (λ c. c) (follow-on_match sides found
          (λ names. follow-write _ _ (λ s c kept. bind_all_same sides names s kept c.1)
          (follow-guarded sides h g
          (follow-row h b b' (λ c. hk c.0.0)
          (compared_row Safe sides.number b b'
          (front (changed_stmts b b').0 (changed_cases q q').0 rest) u.0)
          (fine-front (gather all_statements b) (gather_cases all_statements q) fine))
          (follow-cases h q q' (λ c. hk c.0.0)
          (back (changed_stmts b b').0 (changed_cases q q').0 rest) u.1
          (fine-back (gather all_statements b) (gather_cases all_statements q) fine) v
          (λ c. hv c.0.0))))
          (follow-cases h q q' (λ c. hk c.0)
          (back (changed_stmts b b').0 (changed_cases q q').0 rest) u.1
          (fine-back (gather all_statements b) (gather_cases all_statements q) fine) v
          (λ c. hv c.0)))))))
          (λ y. follow-struck Safe sides.number
          (struck-case Safe sides.number sides.calls sides.old grow sides.names h p g f a i b q v
          y.0))
