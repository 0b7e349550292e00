-- What the code of an expression does is what the expression means.
use Rattle.std.proofs.Common.{◌≡◌, ℕ, suc, ◌+◌, ◌<◌, List, [], ◌∷◌, length, Option, Some, true, false, refl, sym, ap, ◌∙◌, arith}
use Rattle.std.specs.Prelude.{if◌then◌else◌, pos}
use Rattle.py_value.specs.Compared.{compared}
use Rattle.py_value.specs.Operators.{binary_of, index_of}
use Rattle.py_value.specs.Plain.{PlainValue, bool_value, int_value, str_value, PlainRaised}
use Rattle.py_syntax.specs.Tree.{Text, Expr, name, int, str, fstr, none, bool, tuple, list, dict, paren, not', and, or, unary, binary, compare, cond, call, index, slice, attr, Exprs, no_exprs, exprs, Pairs, no_pairs, pair, Links, no_links, link, OptExpr, absent, present, Fragments, no_fragments, plain as plain_piece, format, Parts, no_parts, text, field}
use Rattle.py_builtins.specs.Attributes.{attribute}
use Rattle.py_builtins.specs.Callees.{a_value, callee_of}
use Rattle.py_builtins.specs.Making.{extended, new_tuple, new_dict, stored}
use Rattle.py_builtins.specs.Methods.{new_list}
use Rattle.py_builtins.specs.Texts.{str_text}
use Rattle.py_builtins.specs.World.{Names}
use Rattle.py_meaning.specs.Asked.{asked as meant}
use Rattle.py_meaning.specs.Calls.{Calls, callee_in}
use Rattle.py_meaning.specs.Computations.{State, done, give, ask, work, branch}
use Rattle.py_meaning.specs.Expressions.{gives, eval, eval_each, eval_pairs, eval_links, eval_fragments, eval_parts}
use Rattle.py_meaning.specs.Literals.{run_together, sign_operator, signed}
use Rattle.py_meaning.specs.Modules.{LoadedModule}
use Rattle.py_meaning.specs.Places.{Place}
use Rattle.py_meaning.proofs.SteadyExpressions.{steady-each, steady-fragments, steady-parts}
use Rattle.py_code.specs.declared.instr.Instr.TheVariants.{Pop, Text as TextOf, Tuple, List as MakeList, Dict, AddPair, Binary, Compare, Index, IfFalse, And, Or, Link}
use Rattle.py_code.specs.declared.unit.Constant.TheVariants.{None as NoneConstant, Bool as BoolConstant, Int as IntConstant, Str as StrConstant}
use Rattle.py_code.specs.Configurations.{Operand, of_value, Locals}
use Rattle.py_code.specs.Machine.{answers, falls, pushes, where_found, makes, links}
use Rattle.py_code.specs.Operands.{operand_of}
use Rattle.py_code.specs.Run.{Goes}
use Rattle.py_code.specs.Slots.{by_names}
use Rattle.py_code.specs.Units.{Code, Module, unit_at}
use Rattle.py_compile_expr.specs.Cells.{Guard}
use Rattle.py_compile_expr.specs.Expressions.{question, count, expr_size, each_size, pairs_size, links_size, fragments_size, parts_size, expr_code, each_code, pairs_code, links_code, fragments_code, parts_code}
use Rattle.py_compile_expr.specs.Runs.{Spot, conf, from, thrown, after, on_top, Fits, Matches, part_of, CallsRun, ExpressionsRun}
use Rattle.py_compile_expr.specs.Stands.{HasAt}
use Rattle.py_compile_expr.proofs.Places.{has_front}
use Rattle.py_compile_expr.proofs.Pushed.{pushed, many_pushed}
use Rattle.py_compile_expr.proofs.Simulation.{fits_less, fits_more, Any, holds_any, at_most, text_on_top, truth_on_top, thrown_over, runs_on, led, answered, asks, works}
use Rattle.py_compile_expr.proofs.Sizes.{expr_length, each_length, parts_length}
use Rattle.py_compile_expr.proofs.InstructionRuns.{question_same, each_counts, ends_at, then_value, unchanged, then_asks, then_works, then_gives, constant_runs, name_runs, extend_runs}
use Rattle.py_compile_expr.proofs.PartRuns.{part_at, Runs, goto_after, not_runs, forks, forks_back, link_runs, asks_is, truth_is, links_some, OptRuns, at_two, at_two', slice_runs, arguments_run_on}

module _ (cs : List Module) (ms : List LoadedModule) (matches : Matches cs ms) (c : Calls) (k : ℕ) (calls : CallsRun cs c k)
    (w : Spot) (u : Code) (is : unit_at cs w.code ≡ Some u) (handled : Option PlainRaised) where
  abbrev pl : Place
  pl = part_of ms u w.code handled

  abbrev N : Locals Names
  N = by_names cs

  mutual
    unfolding eval eval_each eval_pairs eval_links eval_fragments eval_parts give

    pub eval_runs : (e : Expr) → Runs cs ms matches c k calls w u is handled e
    eval_runs (name x) g p has st fits s n lt = name_runs cs ms matches c k calls w u is handled x g p st s n has.0 fits
    eval_runs (int m) g p has st fits s n lt = constant_runs cs ms matches c k calls w u is handled (IntConstant m) g p st s n has.0
    eval_runs (str pieces) g p has st fits s n lt = constant_runs cs ms matches c k calls w u is handled (StrConstant (run_together pieces)) g p st s n has.0
    eval_runs (fstr pieces) g p has st fits s n lt =
        let mid = p + 1 + fragments_size pieces in
        constant_runs cs ms matches c k calls w u is handled (StrConstant []) g p st s n has.0
        ∙ runs_on cs w text_on_top on_top Any g mid (p + (1 + fragments_size pieces)) st st (eval_fragments c pl pieces []) _ (from cs w (p + 1) (of_value (str_value []) ∷ st) s n) s n
        (fragments_run pieces [] g (p + 1) has.1 st (fits_less g (p + (1 + fragments_size pieces)) mid (length st) (omega arith) fits) s n lt)
        (at_most _ (steady-fragments c calls.steady pl pieces []) s n) (holds_any _) (unchanged cs ms matches c k calls w u is handled g st)
        (λ x t j le q. ap (λ m. from cs w m (of_value (str_value x) ∷ st) t j) (omega arith))
    eval_runs none g p has st fits s n lt = constant_runs cs ms matches c k calls w u is handled NoneConstant g p st s n has.0
    eval_runs (bool b) g p has st fits s n lt = constant_runs cs ms matches c k calls w u is handled (BoolConstant b) g p st s n has.0
    eval_runs (tuple es comma) g p has st fits s n lt =
        let q = p + each_size es in
        let front = has_front u p (each_code g p es) _ has in
        let at = part_at cs ms matches c k calls w u is handled p (each_size es) (each_code g p es) _ (each_length g p es) has in
        let here : Fits g (q + 1) (length st) = fits_less g (p + (each_size es + 1)) (q + 1) (length st) (omega arith) fits in
        runs_on cs w pushed on_top (λ vs. length vs ≡ count es) g q (p + (each_size es + 1)) st st (eval_each c pl es) _ (from cs w p st s n) s n
        (each_runs es g p front st (fits_less g (q + 1) q (length st) (omega arith) here) s n lt) (at_most _ (steady-each c calls.steady pl es) s n) (each_counts c pl es s n) (unchanged cs ms matches c k calls w u is handled g st)
        (λ vs t j le many. ends_at cs ms matches c k calls w u is handled on_top g (q + 1) (p + (each_size es + 1)) st (done (new_tuple vs) t j) _ (omega arith)
        (answered cs w u is on_top g q (Tuple (count es)) (pushed vs st) st (new_tuple vs) t j at.0.instr at.0.guard here
        (many_pushed (count es) vs st (conf w q (pushed vs st) t j) (λ ws ys. answers N cs (new_tuple ws) ys (conf w q (pushed vs st) t j) (λ v. pushes v ys (conf w q (pushed vs st) t j))) many)))
    eval_runs (list es comma) g p has st fits s n lt =
        let q = p + each_size es in
        let front = has_front u p (each_code g p es) _ has in
        let at = part_at cs ms matches c k calls w u is handled p (each_size es) (each_code g p es) _ (each_length g p es) has in
        let here : Fits g (q + 1) (length st) = fits_less g (p + (each_size es + 1)) (q + 1) (length st) (omega arith) fits in
        runs_on cs w pushed on_top (λ vs. length vs ≡ count es) g q (p + (each_size es + 1)) st st (eval_each c pl es) _ (from cs w p st s n) s n
        (each_runs es g p front st (fits_less g (q + 1) q (length st) (omega arith) here) s n lt) (at_most _ (steady-each c calls.steady pl es) s n) (each_counts c pl es s n) (unchanged cs ms matches c k calls w u is handled g st)
        (λ vs t j le many. ends_at cs ms matches c k calls w u is handled on_top g (q + 1) (p + (each_size es + 1)) st (work (new_list vs) t j) _ (omega arith)
        (works cs w u is on_top g q (MakeList (count es)) (pushed vs st) st (new_list vs) t j at.0.instr at.0.guard here
        (many_pushed (count es) vs st (conf w q (pushed vs st) t j) (λ ws ys. makes N cs (new_list ws t.now.world.heap) ys (conf w q (pushed vs st) t j)) many)))
    eval_runs (dict ps comma) g p has st fits s n lt =
        let end = p + (1 + pairs_size ps) in
        then_works cs ms matches c k calls w u is handled on_top on_top g (p + 1) end st st new_dict _ (from cs w p st s n) s n
        (works cs w u is on_top g p Dict st st new_dict s n has.0.instr has.0.guard (fits_less g end (p + 1) (length st) (omega arith) fits) refl) (unchanged cs ms matches c k calls w u is handled g st)
        (λ d t j le. ends_at cs ms matches c k calls w u is handled on_top g (p + 1 + pairs_size ps) end st (eval_pairs c pl ps d t j) _ (omega arith)
        (pairs_run ps d g (p + 1) has.1 st (fits_less g end (p + 1 + pairs_size ps) (length st) (omega arith) fits) t j (omega arith)))
    eval_runs (paren e) g p has st fits s n lt = eval_runs e g p has st fits s n lt
    eval_runs (not' e) g p has st fits s n lt =
        let q = p + expr_size e in
        let front = has_front u p (expr_code g p e) _ has in
        let at = part_at cs ms matches c k calls w u is handled p (expr_size e) (expr_code g p e) _ (expr_length g p e) has in
        then_value cs ms matches c k calls w u is handled on_top g q (p + (expr_size e + 1)) st st e _ (from cs w p st s n) s n (eval_runs e g p front st (fits_less g (p + (expr_size e + 1)) q (length st) (omega arith) fits) s n lt) (unchanged cs ms matches c k calls w u is handled g st)
        (λ v t j le. ends_at cs ms matches c k calls w u is handled on_top g (q + 1) (p + (expr_size e + 1)) st (branch v (gives (bool_value false)) (gives (bool_value true)) t j) _ (omega arith) (not_runs cs ms matches c k calls w u is handled v g q st t j at.0))
    eval_runs (and a b) g p has st fits s n lt =
        let q = p + expr_size a in
        let end = p + (expr_size a + 1 + expr_size b) in
        let to = p + expr_size a + 1 + expr_size b in
        let same : to ≡ end = omega arith in
        let front = has_front u p (expr_code g p a) _ has in
        let at = part_at cs ms matches c k calls w u is handled p (expr_size a) (expr_code g p a) _ (expr_length g p a) has in
        let here : Fits g to (length st) = fits_less g end to (length st) (omega arith) fits in
        then_value cs ms matches c k calls w u is handled on_top g q end st st a _ (from cs w p st s n) s n (eval_runs a g p front st (fits_less g to q (length st) (omega arith) here) s n lt) (unchanged cs ms matches c k calls w u is handled g st)
        (λ v t j le. ends_at cs ms matches c k calls w u is handled on_top g to end st (branch v (eval c pl b) (gives v) t j) _ same
        (forks cs ms matches c k calls w u is handled v (And to) g q to to (of_value v ∷ st) st (of_value v ∷ st) st (eval c pl b) (gives v) t j at.0.instr (omega arith) refl (eval_runs b g (q + 1) at.1 st here t j (omega arith)) refl))
    eval_runs (or a b) g p has st fits s n lt =
        let q = p + expr_size a in
        let end = p + (expr_size a + 1 + expr_size b) in
        let to = p + expr_size a + 1 + expr_size b in
        let same : to ≡ end = omega arith in
        let front = has_front u p (expr_code g p a) _ has in
        let at = part_at cs ms matches c k calls w u is handled p (expr_size a) (expr_code g p a) _ (expr_length g p a) has in
        let here : Fits g to (length st) = fits_less g end to (length st) (omega arith) fits in
        then_value cs ms matches c k calls w u is handled on_top g q end st st a _ (from cs w p st s n) s n (eval_runs a g p front st (fits_less g to q (length st) (omega arith) here) s n lt) (unchanged cs ms matches c k calls w u is handled g st)
        (λ v t j le. ends_at cs ms matches c k calls w u is handled on_top g to end st (branch v (gives v) (eval c pl b) t j) _ same
        (forks_back cs ms matches c k calls w u is handled v (Or to) g q to to (of_value v ∷ st) st (of_value v ∷ st) st (gives v) (eval c pl b) t j at.0.instr (omega arith) refl refl (eval_runs b g (q + 1) at.1 st here t j (omega arith))))
    eval_runs (unary sign e) g p has st fits s n lt =
        let q = p + 1 + expr_size e in
        let end = p + (1 + expr_size e + 1) in
        let zero_on : List Operand = of_value (int_value (pos 0)) ∷ st in
        let here : Fits g (q + 1) (length st) = fits_less g end (q + 1) (length st) (omega arith) fits in
        let front = has_front u (p + 1) (expr_code g (p + 1) e) _ has.1 in
        let at = part_at cs ms matches c k calls w u is handled (p + 1) (expr_size e) (expr_code g (p + 1) e) _ (expr_length g (p + 1) e) has.1 in
        constant_runs cs ms matches c k calls w u is handled (IntConstant (pos 0)) g p st s n has.0
        ∙ then_value cs ms matches c k calls w u is handled on_top g q end zero_on st e _ (from cs w (p + 1) zero_on s n) s n
        (eval_runs e g (p + 1) front zero_on (fits_more g q (length st) (suc (length st)) (omega arith) (fits_less g (q + 1) q (length st) (omega arith) here)) s n lt)
        (thrown_over cs w g (q + 1) (of_value (int_value (pos 0))) st here)
        (λ v t j le. ends_at cs ms matches c k calls w u is handled on_top g (q + 1) end st (work (signed sign v) t j) _ (omega arith)
        (works cs w u is on_top g q (Binary (sign_operator sign)) (of_value v ∷ zero_on) st (signed sign v) t j at.0.instr at.0.guard here refl))
    eval_runs (binary op a b) g p has st fits s n lt =
        let q = p + expr_size a in
        let r = q + expr_size b in
        let end = p + (expr_size a + expr_size b + 1) in
        let here : Fits g (r + 1) (length st) = fits_less g end (r + 1) (length st) (omega arith) fits in
        let front = has_front u p (expr_code g p a) _ has in
        let back = part_at cs ms matches c k calls w u is handled p (expr_size a) (expr_code g p a) _ (expr_length g p a) has in
        let second = has_front u q (expr_code g q b) _ back in
        let at = part_at cs ms matches c k calls w u is handled q (expr_size b) (expr_code g q b) _ (expr_length g q b) back in
        then_value cs ms matches c k calls w u is handled on_top g q end st st a _ (from cs w p st s n) s n (eval_runs a g p front st (fits_less g (r + 1) q (length st) (omega arith) here) s n lt) (unchanged cs ms matches c k calls w u is handled g st)
        (λ x t j le. then_value cs ms matches c k calls w u is handled on_top g r end (of_value x ∷ st) st b _ (from cs w q (of_value x ∷ st) t j) t j
        (eval_runs b g q second (of_value x ∷ st) (fits_more g r (length st) (suc (length st)) (omega arith) (fits_less g (r + 1) r (length st) (omega arith) here)) t j (omega arith))
        (thrown_over cs w g (r + 1) (of_value x) st here)
        (λ y t' j' le'. ends_at cs ms matches c k calls w u is handled on_top g (r + 1) end st (work (binary_of op x y) t' j') _ (omega arith)
        (works cs w u is on_top g r (Binary op) (of_value y ∷ of_value x ∷ st) st (binary_of op x y) t' j' at.0.instr at.0.guard here refl)))
    eval_runs (compare a ls) g p has st fits s n lt =
        let q = p + expr_size a in
        let end = p + (expr_size a + links_size ls) in
        let to = p + expr_size a + links_size ls in
        let front = has_front u p (expr_code g p a) _ has in
        let back = part_at cs ms matches c k calls w u is handled p (expr_size a) (expr_code g p a) _ (expr_length g p a) has in
        let here : Fits g to (length st) = fits_less g end to (length st) (omega arith) fits in
        then_value cs ms matches c k calls w u is handled on_top g q end st st a _ (from cs w p st s n) s n (eval_runs a g p front st (fits_less g to q (length st) (omega arith) here) s n lt) (unchanged cs ms matches c k calls w u is handled g st)
        (λ v t j le. ends_at cs ms matches c k calls w u is handled on_top g to end st (eval_links c pl ls v t j) _ (omega arith) (links_run ls v g q to refl back st here t j (omega arith)))
    eval_runs (cond body test orelse) g p has st fits s n lt =
        let q = p + expr_size test in
        let yes = q + 1 in
        let skip = yes + expr_size body in
        let no = skip + 1 in
        let to = no + expr_size orelse in
        let end = p + (expr_size test + 1 + expr_size body + 1 + expr_size orelse) in
        let here : Fits g to (length st) = fits_less g end to (length st) (omega arith) fits in
        let front = has_front u p (expr_code g p test) _ has in
        let back = part_at cs ms matches c k calls w u is handled p (expr_size test) (expr_code g p test) _ (expr_length g p test) has in
        let first = has_front u yes (expr_code g yes body) _ back.1 in
        let rest = part_at cs ms matches c k calls w u is handled yes (expr_size body) (expr_code g yes body) _ (expr_length g yes body) back.1 in
        then_value cs ms matches c k calls w u is handled on_top g q end st st test _ (from cs w p st s n) s n (eval_runs test g p front st (fits_less g to q (length st) (omega arith) here) s n lt) (unchanged cs ms matches c k calls w u is handled g st)
        (λ v t j le. ends_at cs ms matches c k calls w u is handled on_top g to end st (branch v (eval c pl body) (eval c pl orelse) t j) _ (omega arith)
        (forks cs ms matches c k calls w u is handled v (IfFalse no) g q no to (of_value v ∷ st) st st st (eval c pl body) (eval c pl orelse) t j back.0.instr (omega arith) refl
        (eval_runs body g yes first st (fits_less g to skip (length st) (omega arith) here) t j (omega arith) ∙ goto_after cs ms matches c k calls w u is handled g skip to st (eval c pl body t j) rest.0 (omega arith))
        (eval_runs orelse g no rest.1 st here t j (omega arith))))
    eval_runs (call (attr e x) es comma) g p has st fits s n lt =
        let q = p + expr_size e in
        let r = q + 1 + each_size es in
        let end = p + (expr_size e + 1 + each_size es + 1) in
        let here : Fits g (r + 1) (length st) = fits_less g end (r + 1) (length st) (omega arith) fits in
        let front = has_front u p (expr_code g p e) _ has in
        let back = part_at cs ms matches c k calls w u is handled p (expr_size e) (expr_code g p e) _ (expr_length g p e) has in
        then_value cs ms matches c k calls w u is handled on_top g q end st st e _ (from cs w p st s n) s n (eval_runs e g p front st (fits_less g (r + 1) q (length st) (omega arith) here) s n lt) (unchanged cs ms matches c k calls w u is handled g st)
        (λ v t j le. then_asks cs ms matches c k calls w u is handled (λ f ys. operand_of f ∷ ys) on_top g (q + 1) end st st (callee_in v x) _ (from cs w q (of_value v ∷ st) t j) t j
        (asks cs w u is (λ f ys. operand_of f ∷ ys) g q _ (of_value v ∷ st) st (callee_in v x) t j back.0.instr back.0.guard (fits_less g (r + 1) (q + 1) (length st) (omega arith) here)
        (ap (λ o. where_found o (conf w q (of_value v ∷ st) t j) (λ y. answers N cs (callee_of v y t.now.world) st (conf w q (of_value v ∷ st) t j) (λ f. falls (operand_of f ∷ st) (conf w q (of_value v ∷ st) t j)))) back.0.knows))
        (unchanged cs ms matches c k calls w u is handled g st)
        (λ f t' j' le'. arguments_run_on cs ms matches c k calls w u is handled es (each_runs es) f g (q + 1) end st here back.1 t' j' (omega arith) (omega arith)))
    eval_runs (call f es comma) g p has st fits s n lt =
        let q = p + expr_size f in
        let r = q + each_size es in
        let end = p + (expr_size f + each_size es + 1) in
        let here : Fits g (r + 1) (length st) = fits_less g end (r + 1) (length st) (omega arith) fits in
        let front = has_front u p (expr_code g p f) _ has in
        let back = part_at cs ms matches c k calls w u is handled p (expr_size f) (expr_code g p f) _ (expr_length g p f) has in
        then_value cs ms matches c k calls w u is handled on_top g q end st st f _ (from cs w p st s n) s n (eval_runs f g p front st (fits_less g (r + 1) q (length st) (omega arith) here) s n lt) (unchanged cs ms matches c k calls w u is handled g st)
        (λ v t j le. arguments_run_on cs ms matches c k calls w u is handled es (each_runs es) (a_value v) g q end st here back t j (omega arith) (omega arith))
    eval_runs (index of at) g p has st fits s n lt =
        let q = p + expr_size of in
        let r = q + expr_size at in
        let end = p + (expr_size of + expr_size at + 1) in
        let here : Fits g (r + 1) (length st) = fits_less g end (r + 1) (length st) (omega arith) fits in
        let front = has_front u p (expr_code g p of) _ has in
        let back = part_at cs ms matches c k calls w u is handled p (expr_size of) (expr_code g p of) _ (expr_length g p of) has in
        let second = has_front u q (expr_code g q at) _ back in
        let here_at = part_at cs ms matches c k calls w u is handled q (expr_size at) (expr_code g q at) _ (expr_length g q at) back in
        then_value cs ms matches c k calls w u is handled on_top g q end st st of _ (from cs w p st s n) s n (eval_runs of g p front st (fits_less g (r + 1) q (length st) (omega arith) here) s n lt) (unchanged cs ms matches c k calls w u is handled g st)
        (λ x t j le. then_value cs ms matches c k calls w u is handled on_top g r end (of_value x ∷ st) st at _ (from cs w q (of_value x ∷ st) t j) t j
        (eval_runs at g q second (of_value x ∷ st) (fits_more g r (length st) (suc (length st)) (omega arith) (fits_less g (r + 1) r (length st) (omega arith) here)) t j (omega arith))
        (thrown_over cs w g (r + 1) (of_value x) st here)
        (λ y t' j' le'. ends_at cs ms matches c k calls w u is handled on_top g (r + 1) end st (ask (λ z. index_of x y z.world.heap) t' j') _ (omega arith)
        (asks cs w u is on_top g r Index (of_value y ∷ of_value x ∷ st) st (λ z. index_of x y z.world.heap) t' j' here_at.0.instr here_at.0.guard here refl)))
    eval_runs (slice of from' to') g p has st fits s n lt = slice_runs cs ms matches c k calls w u is handled of from' to' (eval_runs of) (opt_runs from') (opt_runs to') g p has st fits s n lt
    eval_runs (attr e x) g p has st fits s n lt =
        let q = p + expr_size e in
        let end = p + (expr_size e + 1) in
        let here : Fits g (q + 1) (length st) = fits_less g end (q + 1) (length st) (omega arith) fits in
        let front = has_front u p (expr_code g p e) _ has in
        let at = part_at cs ms matches c k calls w u is handled p (expr_size e) (expr_code g p e) _ (expr_length g p e) has in
        then_value cs ms matches c k calls w u is handled on_top g q end st st e _ (from cs w p st s n) s n (eval_runs e g p front st (fits_less g (q + 1) q (length st) (omega arith) here) s n lt) (unchanged cs ms matches c k calls w u is handled g st)
        (λ v t j le. ends_at cs ms matches c k calls w u is handled on_top g (q + 1) end st (ask (λ z. attribute v x z.world) t j) _ (omega arith)
        (asks cs w u is on_top g q _ (of_value v ∷ st) st (λ z. attribute v x z.world) t j at.0.instr at.0.guard here
        (ap (λ o. where_found o (conf w q (of_value v ∷ st) t j) (λ y. answers N cs (attribute v y t.now.world) st (conf w q (of_value v ∷ st) t j) (λ a. pushes a st (conf w q (of_value v ∷ st) t j)))) at.0.knows)))

    pub each_runs : (es : Exprs) (g : Option Guard) (p : ℕ) → HasAt u p (each_code g p es) → (st : List Operand) → Fits g (p + each_size es) (length st) → (s : State) (n : ℕ) → n < k
        → from cs w p st s n ≡ after cs w pushed g (p + each_size es) st (eval_each c pl es s n)
    each_runs no_exprs g p has st fits s n lt = ap (λ m. from cs w m st s n) (omega arith)
    each_runs (exprs e es) g p has st fits s n lt =
        let q = p + expr_size e in
        let r = q + each_size es in
        let end = p + (expr_size e + each_size es) in
        let front = has_front u p (expr_code g p e) _ has in
        let back = part_at cs ms matches c k calls w u is handled p (expr_size e) (expr_code g p e) _ (expr_length g p e) has in
        then_value cs ms matches c k calls w u is handled pushed g q end st st e _ (from cs w p st s n) s n (eval_runs e g p front st (fits_less g end q (length st) (omega arith) fits) s n lt) (unchanged cs ms matches c k calls w u is handled g st)
        (λ v t j le. runs_on cs w pushed pushed Any g r end (of_value v ∷ st) st (eval_each c pl es) _ (from cs w q (of_value v ∷ st) t j) t j
        (each_runs es g q back (of_value v ∷ st) (fits_more g r (length st) (suc (length st)) (omega arith) (fits_less g end r (length st) (omega arith) fits)) t j (omega arith))
        (at_most _ (steady-each c calls.steady pl es) t j) (holds_any _) (thrown_over cs w g end (of_value v) st fits)
        (λ vs t' j' le' any. ap (λ m. from cs w m (pushed vs (of_value v ∷ st)) t' j') (omega arith)))

    pairs_run : (ps : Pairs) (d : PlainValue) (g : Option Guard) (p : ℕ) → HasAt u p (pairs_code g p ps) → (st : List Operand) → Fits g (p + pairs_size ps) (length st) → (s : State) (n : ℕ) → n < k
        → from cs w p (of_value d ∷ st) s n ≡ after cs w on_top g (p + pairs_size ps) st (eval_pairs c pl ps d s n)
    pairs_run no_pairs d g p has st fits s n lt = ap (λ m. from cs w m (of_value d ∷ st) s n) (omega arith)
    pairs_run (pair key e rest) d g p has st fits s n lt =
        let q = p + expr_size key in
        let r = q + expr_size e in
        let end = p + (expr_size key + expr_size e + 1 + pairs_size rest) in
        let last = r + 1 + pairs_size rest in
        let one_on : List Operand = of_value d ∷ st in
        let here : Fits g last (length st) = fits_less g end last (length st) (omega arith) fits in
        let more : Fits g last (suc (length st)) = fits_more g last (length st) (suc (length st)) (omega arith) here in
        let front = has_front u p (expr_code g p key) _ has in
        let back = part_at cs ms matches c k calls w u is handled p (expr_size key) (expr_code g p key) _ (expr_length g p key) has in
        let second = has_front u q (expr_code g q e) _ back in
        let at = part_at cs ms matches c k calls w u is handled q (expr_size e) (expr_code g q e) _ (expr_length g q e) back in
        let below : (x : PlainRaised) (t : State) (j : ℕ) → thrown cs w g one_on x t j ≡ thrown cs w g st x t j = thrown_over cs w g last (of_value d) st here in
        then_value cs ms matches c k calls w u is handled on_top g q end one_on st key _ (from cs w p one_on s n) s n (eval_runs key g p front one_on (fits_less g last q (suc (length st)) (omega arith) more) s n lt) below
        (λ i t j le. then_value cs ms matches c k calls w u is handled on_top g r end (of_value i ∷ one_on) st e _ (from cs w q (of_value i ∷ one_on) t j) t j
        (eval_runs e g q second (of_value i ∷ one_on) (fits_more g r (suc (length st)) (suc (suc (length st))) (omega arith) (fits_less g last r (suc (length st)) (omega arith) more)) t j (omega arith))
        (λ x a b. thrown_over cs w g last (of_value i) one_on more x a b ∙ below x a b)
        (λ v t' j' le'. then_works cs ms matches c k calls w u is handled (λ nothing ys. of_value d ∷ ys) on_top g (r + 1) end st st (stored d i v) _ (from cs w r (of_value v ∷ of_value i ∷ one_on) t' j') t' j'
        (works cs w u is (λ nothing ys. of_value d ∷ ys) g r AddPair (of_value v ∷ of_value i ∷ one_on) st (stored d i v) t' j' at.0.instr at.0.guard (fits_less g last (r + 1) (length st) (omega arith) here) refl)
        (unchanged cs ms matches c k calls w u is handled g st)
        (λ nothing t'' j'' le''. ends_at cs ms matches c k calls w u is handled on_top g last end st (eval_pairs c pl rest d t'' j'') _ (omega arith) (pairs_run rest d g (r + 1) at.1 st here t'' j'' (omega arith)))))

    links_run : (ls : Links) (v : PlainValue) (g : Option Guard) (p end : ℕ) → p + links_size ls ≡ end → HasAt u p (links_code g p end ls) → (st : List Operand) → Fits g end (length st) → (s : State) (n : ℕ) → n < k
        → from cs w p (of_value v ∷ st) s n ≡ after cs w on_top g end st (eval_links c pl ls v s n)
    links_run no_links v g p end same has st fits s n lt =
        let next : suc p ≡ p + 1 = omega arith in
        let whole : p + 2 ≡ end = same in
        led cs w u is p (p + 1) Pop (of_value v ∷ st) st s s n has.0.instr (omega arith) (ap (λ q. Goes (conf w q st s n)) next)
        ∙ (constant_runs cs ms matches c k calls w u is handled (BoolConstant true) g (p + 1) st s n has.1.0 ∙ ap (λ m. from cs w m (of_value (bool_value true) ∷ st) s n) (omega arith))
    links_run (link op e no_links) v g p end same has st fits s n lt =
        let q = p + expr_size e in
        let whole : p + (expr_size e + 1) ≡ end = same in
        let base : List Operand = of_value v ∷ st in
        let front = has_front u p (expr_code g p e) _ has in
        let at = part_at cs ms matches c k calls w u is handled p (expr_size e) (expr_code g p e) _ (expr_length g p e) has in
        let here : Fits g (q + 1) (length st) = fits_less g end (q + 1) (length st) (omega arith) fits in
        then_value cs ms matches c k calls w u is handled on_top g q end base st e _ (from cs w p base s n) s n (eval_runs e g p front base (fits_more g q (length st) (suc (length st)) (omega arith) (fits_less g end q (length st) (omega arith) fits)) s n lt)
        (thrown_over cs w g end (of_value v) st fits)
        (λ y t j le. then_asks cs ms matches c k calls w u is handled truth_on_top on_top g (q + 1) end st st (λ z. compared (meant op) v y z.world.heap) _ (from cs w q (of_value y ∷ base) t j) t j
        (asks cs w u is truth_on_top g q (Compare (question op)) (of_value y ∷ base) st (λ z. compared (meant op) v y z.world.heap) t j at.0.instr at.0.guard here
        (ap (λ m. answers N cs (compared m v y t.now.world.heap) st (conf w q (of_value y ∷ base) t j) (λ b. pushes (bool_value b) st (conf w q (of_value y ∷ base) t j))) (question_same op)))
        (unchanged cs ms matches c k calls w u is handled g st)
        (λ b t' j' le'. ap (λ m. from cs w m (of_value (bool_value b) ∷ st) t' j') (omega arith) ∙ ap (after cs w on_top g end st) (truth_is cs ms matches c k calls w u is handled b t' j')))
    links_run (link op e (link op2 e2 rest)) v g p end same has st fits s n lt =
        let q = p + expr_size e in
        let base : List Operand = of_value v ∷ st in
        let front = has_front u p (expr_code g p e) _ has in
        let at = part_at cs ms matches c k calls w u is handled p (expr_size e) (expr_code g p e) _ (expr_length g p e) has in
        let whole : p + (expr_size e + 1 + links_size (link op2 e2 rest)) ≡ end = same in
        let ahead : q + 1 + links_size (link op2 e2 rest) ≡ end = omega arith in
        let some : 0 < links_size (link op2 e2 rest) = links_some cs ms matches c k calls w u is handled op2 e2 rest in
        let here : Fits g (q + 1) (length st) = fits_less g end (q + 1) (length st) (omega arith) fits in
        then_value cs ms matches c k calls w u is handled on_top g q end base st e _ (from cs w p base s n) s n (eval_runs e g p front base (fits_more g q (length st) (suc (length st)) (omega arith) (fits_less g end q (length st) (omega arith) fits)) s n lt)
        (thrown_over cs w g end (of_value v) st fits)
        (λ y t j le. link_runs cs ms matches c k calls w u is handled (compared (meant op) v y t.now.world.heap) (Link (question op) end) g q end (of_value y ∷ base) st y (eval_links c pl (link op2 e2 rest) y) t j at.0.instr at.0.guard here (omega arith)
        (ap (λ m. answers N cs (compared m v y t.now.world.heap) st (conf w q (of_value y ∷ base) t j) (λ b. links N cs b (of_value y) end st (conf w q (of_value y ∷ base) t j))) (question_same op))
        (links_run (link op2 e2 rest) y g (q + 1) end ahead at.1 st fits t j (omega arith))
        ∙ ap (after cs w on_top g end st) (sym (asks_is cs ms matches c k calls w u is handled (λ z. compared (meant op) v y z.world.heap) (λ b. if b then eval_links c pl (link op2 e2 rest) y else gives (bool_value false)) t j)))

    opt_runs : (o : OptExpr) → OptRuns cs ms matches c k calls w u is handled o
    opt_runs absent = tt
    opt_runs (present e) = eval_runs e

    fragments_run : (fs : Fragments) (x : Text) (g : Option Guard) (p : ℕ) → HasAt u p (fragments_code g p fs) → (st : List Operand) → Fits g (p + fragments_size fs) (length st) → (s : State) (n : ℕ) → n < k
        → from cs w p (of_value (str_value x) ∷ st) s n ≡ after cs w text_on_top g (p + fragments_size fs) st (eval_fragments c pl fs x s n)
    fragments_run no_fragments x g p has st fits s n lt = ap (λ m. from cs w m (of_value (str_value x) ∷ st) s n) (omega arith)
    fragments_run (plain_piece y rest) x g p has st fits s n lt =
        let end = p + (2 + fragments_size rest) in
        let last = p + 1 + 1 + fragments_size rest in
        let here : Fits g last (length st) = fits_less g end last (length st) (omega arith) fits in
        constant_runs cs ms matches c k calls w u is handled (StrConstant y) g p (of_value (str_value x) ∷ st) s n has.0
        ∙ then_gives cs ms matches c k calls w u is handled text_on_top text_on_top g (p + 1 + 1) end st st (extended x y) _ (from cs w (p + 1) (of_value (str_value y) ∷ of_value (str_value x) ∷ st) s n) s n
        (extend_runs cs ms matches c k calls w u is handled x y g (p + 1) st s n has.1.0 (fits_less g last (p + 1 + 1) (length st) (omega arith) here)) (unchanged cs ms matches c k calls w u is handled g st)
        (λ z t j le. ends_at cs ms matches c k calls w u is handled text_on_top g last end st (eval_fragments c pl rest z t j) _ (omega arith) (fragments_run rest z g (p + 1 + 1) (at_two cs ms matches c k calls w u is handled g p (λ q. fragments_code g q rest) has.1.1) st here t j (omega arith)))
    fragments_run (format parts rest) x g p has st fits s n lt =
        let q = p + parts_size parts in
        let end = p + (parts_size parts + fragments_size rest) in
        let last = q + fragments_size rest in
        let front = has_front u p (parts_code g p parts) _ has in
        let back = part_at cs ms matches c k calls w u is handled p (parts_size parts) (parts_code g p parts) _ (parts_length g p parts) has in
        runs_on cs w text_on_top text_on_top Any g q end st st (eval_parts c pl parts x) _ (from cs w p (of_value (str_value x) ∷ st) s n) s n
        (parts_run parts x g p front st (fits_less g end q (length st) (omega arith) fits) s n lt) (at_most _ (steady-parts c calls.steady pl parts x) s n) (holds_any _) (unchanged cs ms matches c k calls w u is handled g st)
        (λ z t j le any. ends_at cs ms matches c k calls w u is handled text_on_top g last end st (eval_fragments c pl rest z t j) _ (omega arith) (fragments_run rest z g q back st (fits_less g end last (length st) (omega arith) fits) t j (omega arith)))

    parts_run : (ps : Parts) (x : Text) (g : Option Guard) (p : ℕ) → HasAt u p (parts_code g p ps) → (st : List Operand) → Fits g (p + parts_size ps) (length st) → (s : State) (n : ℕ) → n < k
        → from cs w p (of_value (str_value x) ∷ st) s n ≡ after cs w text_on_top g (p + parts_size ps) st (eval_parts c pl ps x s n)
    parts_run no_parts x g p has st fits s n lt = ap (λ m. from cs w m (of_value (str_value x) ∷ st) s n) (omega arith)
    parts_run (text y rest) x g p has st fits s n lt =
        let end = p + (2 + parts_size rest) in
        let last = p + 1 + 1 + parts_size rest in
        let here : Fits g last (length st) = fits_less g end last (length st) (omega arith) fits in
        constant_runs cs ms matches c k calls w u is handled (StrConstant y) g p (of_value (str_value x) ∷ st) s n has.0
        ∙ then_gives cs ms matches c k calls w u is handled text_on_top text_on_top g (p + 1 + 1) end st st (extended x y) _ (from cs w (p + 1) (of_value (str_value y) ∷ of_value (str_value x) ∷ st) s n) s n
        (extend_runs cs ms matches c k calls w u is handled x y g (p + 1) st s n has.1.0 (fits_less g last (p + 1 + 1) (length st) (omega arith) here)) (unchanged cs ms matches c k calls w u is handled g st)
        (λ z t j le. ends_at cs ms matches c k calls w u is handled text_on_top g last end st (eval_parts c pl rest z t j) _ (omega arith) (parts_run rest z g (p + 1 + 1) (at_two cs ms matches c k calls w u is handled g p (λ q. parts_code g q rest) has.1.1) st here t j (omega arith)))
    parts_run (field e rest) x g p has st fits s n lt =
        let q = p + expr_size e in
        let end = p + (expr_size e + 2 + parts_size rest) in
        let last = q + 1 + 1 + parts_size rest in
        let base : List Operand = of_value (str_value x) ∷ st in
        let here : Fits g last (length st) = fits_less g end last (length st) (omega arith) fits in
        let more : Fits g last (suc (length st)) = fits_more g last (length st) (suc (length st)) (omega arith) here in
        let below : (z : PlainRaised) (t : State) (j : ℕ) → thrown cs w g base z t j ≡ thrown cs w g st z t j = thrown_over cs w g last (of_value (str_value x)) st here in
        let front = has_front u p (expr_code g p e) _ has in
        let at = part_at cs ms matches c k calls w u is handled p (expr_size e) (expr_code g p e) _ (expr_length g p e) has in
        then_value cs ms matches c k calls w u is handled text_on_top g q end base st e _ (from cs w p base s n) s n (eval_runs e g p front base (fits_less g last q (suc (length st)) (omega arith) more) s n lt) below
        (λ v t j le. then_asks cs ms matches c k calls w u is handled text_on_top text_on_top g (q + 1) end base st (λ z. str_text v z.world.heap) _ (from cs w q (of_value v ∷ base) t j) t j
        (asks cs w u is text_on_top g q TextOf (of_value v ∷ base) base (λ z. str_text v z.world.heap) t j at.0.instr at.0.guard (fits_less g last (q + 1) (suc (length st)) (omega arith) more) refl) below
        (λ y t' j' le'. then_gives cs ms matches c k calls w u is handled text_on_top text_on_top g (q + 1 + 1) end st st (extended x y) _ (from cs w (q + 1) (of_value (str_value y) ∷ base) t' j') t' j'
        (extend_runs cs ms matches c k calls w u is handled x y g (q + 1) st t' j' at.1.0 (fits_less g last (q + 1 + 1) (length st) (omega arith) here)) (unchanged cs ms matches c k calls w u is handled g st)
        (λ z t'' j'' le''. ends_at cs ms matches c k calls w u is handled text_on_top g last end st (eval_parts c pl rest z t'' j'') _ (omega arith)
        (parts_run rest z g (q + 1 + 1) (at_two' cs ms matches c k calls w u is handled g p (expr_size e) (λ m. parts_code g m rest) at.1.1) st here t'' j'' (omega arith)))))

pub expressions_run : ExpressionsRun
expressions_run cs ms matches c k calls w u is handled e g p has st fits s n lt = eval_runs cs ms matches c k calls w u is handled e g p has st fits s n lt
