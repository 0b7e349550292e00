-- The code of a body makes functions as the units ask, so that its unit does.
use Rattle.std.proofs.Common.{◌≡◌, ℕ, zero, suc, ◌+◌, ◌<◌, false, List, [], ◌∷◌, length, Option, Some, None, sym, ap, ◌∙◌, subst, arith}
use Rattle.std.specs.Prelude.{slice_get}
use Rattle.std.proofs.lemmas.Option.{slice_get_within}
use Rattle.py_syntax.specs.Functions.{Function, without_docstring}
use Rattle.py_syntax.specs.Tree.{Text, Stmts}
use Rattle.py_code.specs.declared.instr.Instr.{Instr}
use Rattle.py_code.specs.declared.instr.Instr.TheVariants.{Return}
use Rattle.py_code.specs.declared.unit.Constant.TheVariants.{None as NoneConstant}
use Rattle.py_code.specs.declared.unit.Handler.{Handler}
use Rattle.py_code.specs.Units.{Code, handler_of}
use Rattle.py_compile_expr.specs.Cells.{constant, plain, Guard, Cell, cell, instr_of}
use Rattle.py_compile_expr.specs.Stands.{tables_in, Guards, HasAt}
use Rattle.py_compile_expr.proofs.Places.{has_behind}
use Rattle.py_compile.specs.Definitions.{definitions}
use Rattle.py_compile.specs.Faithful.{IsFaithful}
use Rattle.py_compile.specs.Laws.{SizesHold}
use Rattle.py_compile.specs.Proper.{AreProper}
use Rattle.py_compile.specs.Statements.{stmts_size, stmts_code}
use Rattle.py_compile.specs.Units.{body_cells}
use Rattle.py_compile.specs.Ways.{outermost}
use Rattle.py_world_laws.specs.Making.{MakesAt, MakesFunctions}
use Rattle.py_making_laws.proofs.Places.{Free, GuardFree, AllMake, Made, free_at, put_made, last_made, part_then}
use Rattle.py_making_laws.proofs.Lengths.{stmts_length}
use Rattle.py_making_laws.proofs.Forms.{StmtsMake}
use Rattle.py_making_laws.proofs.AllStatements.{stmts_make}
use Rattle.py_making_laws.proofs.Defaults.{AllAnswered, answered_without}

module _ (sizes : SizesHold) (us : List Code) (u : Code) where
  -- ---- a body, and the return of None after it

  body_make : (fs : List Function) (ss : Stmts) → StmtsMake us u fs ss → HasAt u 0 (body_cells fs ss) → Made us u 0 (body_cells fs ss)
  body_make fs ss b has =
      let n = stmts_size false ss in
      let w = outermost n in
      let xs = stmts_code fs w 0 ss in
      let long = stmts_length sizes fs w 0 ss in
      let h = has_behind u 0 n xs _ long has in
      let here : 0 + n ≡ n = omega arith in
      let given : Made us u (0 + n + 1) (cell None (plain Return) ∷ []) = last_made us u None (0 + n + 1) (plain Return) tt tt tt h.1.0 in
      let last = put_made us u None (0 + n) (constant NoneConstant) given tt tt (λ f. (f, tt)) h.0 in
      let end : Free u n = free_at u (0 + n) n here last.free in
      part_then us u 0 n xs long (λ free i. b w 0 n here (record { after = record { ends = end; guard = tt; past = tt }; breaks = end; continues = end; returns = tt }) i) last has

  -- ---- cells at their places

  cell_at : (q : ℕ) (cs : List Cell) → AllMake us u q cs → HasAt u q cs → (k : ℕ) → k < length cs → (i : Instr) → slice_get u.instrs (q + k) ≡ Some i → MakesAt us u (q + k) i
  cell_at q [] all has k lt i is = absurd (omega (arith, lt))
  cell_at q (c ∷ cs) all has zero lt i is =
      let here : q ≡ q + 0 = omega arith in
      let at : slice_get u.instrs (q + 0) ≡ Some (instr_of (tables_in u) c.op) = subst (λ r. slice_get u.instrs r ≡ Some (instr_of (tables_in u) c.op)) here has.0.instr in
      let same : instr_of (tables_in u) c.op ≡ i = one_of (sym at ∙ is) in
      subst (MakesAt us u (q + 0)) same (subst (λ r. MakesAt us u r (instr_of (tables_in u) c.op)) here all.0.at)
    where
      one_of : {A : Type 0} {x y : A} → Some x ≡ Some y → x ≡ y
      one_of h = cc
  cell_at q (c ∷ cs) all has (suc k) lt i is =
      let there : q + suc k ≡ q + 1 + k = omega arith in
      subst (λ r. MakesAt us u r i) (sym there) (cell_at (q + 1) cs all.1 has.1 k (omega (arith, lt)) i (subst (λ r. slice_get u.instrs r ≡ Some i) there is))

  landed : (g : Option Guard) (o : Option Handler) → Guards g o → GuardFree u g → (h : Handler) → o ≡ Some h → Free u h.target
  landed None None k free h is = absurd cc
  landed None (Some j) k free h is = absurd k
  landed (Some g) None k free h is = absurd k
  landed (Some g) (Some j) k free h is =
      let same : j ≡ h = cc in
      subst (λ (x : Handler). Free u x.target) same (free_at u g.target j.target (sym k.0) free)

  handler_free : (q : ℕ) (cs : List Cell) → AllMake us u q cs → HasAt u q cs → (k : ℕ) → k < length cs → (h : Handler) → handler_of (q + k) u.handlers ≡ Some h → Free u h.target
  handler_free q [] all has k lt h is = absurd (omega (arith, lt))
  handler_free q (c ∷ cs) all has zero lt h is =
      let here : q + 0 ≡ q = omega arith in
      landed c.guard (handler_of q u.handlers) has.0.guard all.0.handler h (ap (λ r. handler_of r u.handlers) (sym here) ∙ is)
  handler_free q (c ∷ cs) all has (suc k) lt h is =
      let there : q + 1 + k ≡ q + suc k = omega arith in
      handler_free (q + 1) cs all.1 has.1 k (omega (arith, lt)) h (ap (λ r. handler_of r u.handlers) there ∙ is)

  -- ---- the unit

  whole : (cs : List Cell) → length u.instrs ≡ length cs → HasAt u 0 cs → AllMake us u 0 cs → MakesFunctions us u
  whole cs long has all = record {
    each = λ p i is.
        let lt = slice_get_within u.instrs p i is in
        let same : p ≡ 0 + p = omega arith in
        subst (λ r. MakesAt us u r i) (sym same) (cell_at 0 cs all has p (omega (arith, lt, long)) i (subst (λ r. slice_get u.instrs r ≡ Some i) same is));
    handlers = λ p h lt is. let same : 0 + p ≡ p = omega arith in handler_free 0 cs all has p (omega (arith, lt, long)) h (ap (λ r. handler_of r u.handlers) same ∙ is);
  }

  pub unit_makes : (fs : List Function) (f : Function) (n : ℕ) (own : List Text) → IsFaithful fs f n own u → AreProper (without_docstring f.body) → AllAnswered us fs (definitions f.body) → MakesFunctions us u
  unit_makes fs f n own is ok h =
      let ss = without_docstring f.body in
      whole (body_cells fs ss) is.whole is.has (body_make fs ss (stmts_make sizes us u fs ss ok (answered_without us fs f.body h)) is.has).all
