-- A `try` with its clauses, and its `finally`, through which each way goes.
use Rattle.std.proofs.Common.{◌≡◌, ℕ, pos, Bool, true, false, if◌then◌else◌, List, [], ◌∷◌, ◌++◌, refl, ap, sym, ◌∙◌}
use Rattle.std.specs.Prelude.{◌||◌, ◌&&◌, not}
use Rattle.std.specs.Bool.{beq}
use Rattle.std.proofs.lemmas.Bool.{false≢true}
use Rattle.std.specs.Cmp.{signed_Decides, booleans_Decides}
use Rattle.std.specs.List.{list_any}
use Rattle.std.specs.Ordering.{int_eq}
use Rattle.std.proofs.Math.Bool.{or_assoc}
use Rattle.py_syntax.specs.FirstMarks.{only}
use Rattle.py_syntax.specs.LastMarks.{Way, onward, breaking, continuing, returning, raising, may_raise, past_try, past_finally, comes}
use Rattle.py_syntax.specs.Neighbours.{Pair, joined, by_each_way}
use Rattle.py_syntax.specs.Prediction.{Arc}
use Rattle.cov_predict.specs.Walk.{Target, Targets, own_walk, entering, same_target, with_target, with_targets, with_way, united}
use Rattle.cov_predict.proofs.Hits.{choices, or_false, hits, hits-append, from, from-entering, firsts, all_from, all_from-one, all_from-none, all_from-append, all_from-only, all_from-both, all_from-nowhere, all_from-entering, has_pair, has_pair-append, has_pair-joined}
use Rattle.cov_predict.proofs.ByWay.{ways, ways-append, ways-may_raise, hits-own_walk}

same_pair : (t u : Target) → same_target t u ≡ true → t ≡ u
same_pair t u e = both (int_eq t.0 u.0) (beq t.1 u.1) e (λ a b. λ i. ((signed_Decides t.0 u.0).0 a i, (booleans_Decides t.1 u.1).0 b i))
  where
    both : {X : Type 0} (a b : Bool) → (a && b) ≡ true → (a ≡ true → b ≡ true → X) → X
    both true b e k = k refl e
    both false b e k = k e (absurd (false≢true e))

or_again : (a b : Bool) → ((a || b) || a) ≡ (a || b)
or_again true b = refl
or_again false true = refl
or_again false false = refl

first_so : (fm x ar bp wb cp wc op wo hf : Bool) → (((fm || x) || ar) || ((bp || wb) || ((cp || wc) || ((op || wo) || hf)))) ≡ ((fm || (ar || (bp || (cp || op)))) || ((x || wb) || (wc || (wo || hf))))
first_so fm x ar bp wb cp wc op wo hf = simp choices

then_so : (a j wp wc wo hf : Bool) → (a || ((j || wp) || (wc || (wo || hf)))) ≡ (a || (j || ((wp || (wc || wo)) || hf)))
then_so a j wp wc wo hf = simp choices

last_so : (fm ar bp cp op jc jo jf fp wf : Bool) → ((fm || (ar || (bp || (cp || op)))) || ((jc || jo) || (jf || (fp || wf)))) ≡ ((fm || (jc || (jo || (jf || (bp || (cp || (op || fp))))))) || (ar || wf))
last_so fm ar bp cp op jc jo jf fp wf = simp choices

try-is : (fm x ar bp wb cp wc op wo hf jc jo wp jf fp wf wcame : Bool)
    → (x || wb) ≡ ((jc || jo) || wp) → (wp || (wc || wo)) ≡ wcame → (wcame || hf) ≡ (jf || (fp || wf))
    → (((fm || x) || ar) || ((bp || wb) || ((cp || wc) || ((op || wo) || hf)))) ≡ ((fm || (jc || (jo || (jf || (bp || (cp || (op || fp))))))) || (ar || wf))
try-is fm x ar bp wb cp wc op wo hf jc jo wp jf fp wf wcame e1 e2 e3 =
    first_so fm x ar bp wb cp wc op wo hf
    ∙ ap (λ z. (fm || (ar || (bp || (cp || op)))) || (z || (wc || (wo || hf)))) e1
    ∙ then_so (fm || (ar || (bp || (cp || op)))) (jc || jo) wp wc wo hf
    ∙ ap (λ z. (fm || (ar || (bp || (cp || op)))) || ((jc || jo) || (z || hf))) e2
    ∙ ap (λ z. (fm || (ar || (bp || (cp || op)))) || ((jc || jo) || z)) e3
    ∙ last_so fm ar bp cp op jc jo jf fp wf

module _ (q : Arc) where
  stands-more : (xs : List ℕ) (t u : Target) (us : List Target) (b : Bool) → same_target u t ≡ b → (b || list_any (λ v. same_target v t) us) ≡ true
      → (list_any (λ v. same_target v t) us ≡ true → (all_from q xs us || all_from q xs (t ∷ [])) ≡ all_from q xs us)
      → (all_from q xs (u ∷ us) || all_from q xs (t ∷ [])) ≡ all_from q xs (u ∷ us)
  stands-more xs t u us true s e ih =
      ap (λ z. z || all_from q xs (t ∷ [])) (all_from-both q xs (u ∷ []) us)
      ∙ ap (λ v. (all_from q xs (u ∷ []) || all_from q xs us) || all_from q xs (v ∷ [])) (sym (same_pair u t s))
      ∙ or_again (all_from q xs (u ∷ [])) (all_from q xs us)
      ∙ sym (all_from-both q xs (u ∷ []) us)
  stands-more xs t u us false s e ih =
      ap (λ z. z || all_from q xs (t ∷ [])) (all_from-both q xs (u ∷ []) us)
      ∙ or_assoc (all_from q xs (u ∷ [])) (all_from q xs us) (all_from q xs (t ∷ []))
      ∙ ap (λ z. all_from q xs (u ∷ []) || z) (ih e)
      ∙ sym (all_from-both q xs (u ∷ []) us)

  -- a target that stands in the list adds nothing
  stands : (xs : List ℕ) (t : Target) (ts : List Target) → list_any (λ u. same_target u t) ts ≡ true → (all_from q xs ts || all_from q xs (t ∷ [])) ≡ all_from q xs ts
  stands xs t [] e = absurd (false≢true e)
  stands xs t (u ∷ us) e = stands-more xs t u us (same_target u t) refl e (stands xs t us)

  from-with_target : (xs : List ℕ) (ts : List Target) (t : Target) → all_from q xs (with_target ts t) ≡ (all_from q xs ts || all_from q xs (t ∷ []))
  from-with_target xs ts t =
      elim (list_any (λ u. same_target u t) ts) as (λ b. list_any (λ u. same_target u t) ts ≡ b → all_from q xs (if b then ts else ts ++ t ∷ []) ≡ (all_from q xs ts || all_from q xs (t ∷ []))) [
        | true ↦ λ e. sym (stands xs t ts e)
        | false ↦ λ e. all_from-both q xs ts (t ∷ [])
      ] refl

  from-with_targets : (xs : List ℕ) (ts us : List Target) → all_from q xs (with_targets ts us) ≡ (all_from q xs ts || all_from q xs us)
  from-with_targets xs ts [] = sym (ap (λ b. all_from q xs ts || b) (all_from-nowhere q xs) ∙ or_false (all_from q xs ts))
  from-with_targets xs ts (u ∷ us) =
      from-with_targets xs (with_target ts u) us
      ∙ ap (λ b. b || all_from q xs us) (from-with_target xs ts u)
      ∙ or_assoc (all_from q xs ts) (all_from q xs (u ∷ [])) (all_from q xs us)
      ∙ ap (λ b. all_from q xs ts || b) (sym (all_from-both q xs (u ∷ []) us))

  from-with_way : (xs : List ℕ) (b : Bool) (ts us : List Target) → all_from q xs (with_way b ts us) ≡ (all_from q xs ts || (b && all_from q xs us))
  from-with_way xs true ts us = from-with_targets xs ts us
  from-with_way xs false ts us = sym (or_false (all_from q xs ts))

  pub from-united : (xs : List ℕ) (came : Way → Bool) (t : Targets) → all_from q xs (united came t)
      ≡ (((((false || (came onward && all_from q xs t.onward)) || (came breaking && all_from q xs t.breaking)) || (came continuing && all_from q xs t.continuing)) || (came returning && all_from q xs t.returning)) || (came raising && all_from q xs t.raising))
  from-united xs came t =
      let o = with_way (came onward) [] t.onward in
      let b = with_way (came breaking) o t.breaking in
      let c = with_way (came continuing) b t.continuing in
      let r = with_way (came returning) c t.returning in
      from-with_way xs (came raising) r t.raising
      ∙ ap (λ z. z || (came raising && all_from q xs t.raising)) (from-with_way xs (came returning) c t.returning
      ∙ ap (λ z. z || (came returning && all_from q xs t.returning)) (from-with_way xs (came continuing) b t.continuing
      ∙ ap (λ z. z || (came continuing && all_from q xs t.continuing)) (from-with_way xs (came breaking) o t.breaking
      ∙ ap (λ z. z || (came breaking && all_from q xs t.breaking)) (from-with_way xs (came onward) [] t.onward
      ∙ ap (λ z. z || (came onward && all_from q xs t.onward)) (all_from-nowhere q xs)))))

  through-is : (ms : List ℕ) (e : Bool) (o b c r x : List ℕ) (to tb tc tr tx : List Target)
      → (all_from q o (entering ms e to) || (all_from q b (entering ms e tb) || (all_from q c (entering ms e tc) || (all_from q r (entering ms e tr) || all_from q x (entering ms e tx)))))
      ≡ (has_pair q (joined (o ++ (b ++ (c ++ (r ++ x)))) ms) || (e && (all_from q o to || (all_from q b tb || (all_from q c tc || (all_from q r tr || all_from q x tx))))))
  through-is ms e o b c r x to tb tc tr tx = simp (has_pair-joined, all_from-append, all_from-entering, choices)

  -- each way goes through a `finally` suite with this first mark
  pub through : (ms : List ℕ) (e : Bool) (came : Way → List ℕ) (t : Targets)
      → ways q came (record { onward = entering ms e t.onward; breaking = entering ms e t.breaking; continuing = entering ms e t.continuing; returning = entering ms e t.returning; raising = entering ms e t.raising })
      ≡ (has_pair q (joined (by_each_way came) ms) || (e && ways q came t))
  unfolding ways
  through ms e came t = through-is ms e (came onward) (came breaking) (came continuing) (came returning) (came raising) t.onward t.breaking t.continuing t.returning t.raising

  left-finally-is : (e : Bool) (ko kb kc kr kx : Bool) (o b c r x : List ℕ) (lo lb lc lr lx : List ℕ) (to tb tc tr tx : List Target)
      → (all_from q (only ko lo ++ (only e o ++ [])) to || (all_from q (only kb lo ++ (only e b ++ lb)) tb || (all_from q (only kc lo ++ (only e c ++ lc)) tc || (all_from q (only kr lo ++ (only e r ++ lr)) tr || all_from q (only kx lo ++ (only e x ++ lx)) tx))))
      ≡ ((e && (all_from q o to || (all_from q b tb || (all_from q c tc || (all_from q r tr || all_from q x tx)))))
      || ((((((false || (ko && all_from q lo to)) || (kb && all_from q lo tb)) || (kc && all_from q lo tc)) || (kr && all_from q lo tr)) || (kx && all_from q lo tx)) || (all_from q lb tb || (all_from q lc tc || (all_from q lr tr || all_from q lx tx)))))
  left-finally-is e ko kb kc kr kx o b c r x lo lb lc lr lx to tb tc tr tx = simp (all_from-append, all_from-only, all_from-none, choices)

  -- where a `finally` suite is left
  pub left-finally : (e : Bool) (came last : Way → List ℕ) (t : Targets)
      → ways q (λ w. past_finally w e (came w) (last onward) (last w)) t
      ≡ ((e && ways q came t) || ways q last (record t { onward = united (λ w. comes (came w)) t }))
  unfolding ways
  left-finally e came last t =
      left-finally-is e (comes (came onward)) (comes (came breaking)) (comes (came continuing)) (comes (came returning)) (comes (came raising))
      (came onward) (came breaking) (came continuing) (came returning) (came raising)
      (last onward) (last breaking) (last continuing) (last returning) (last raising)
      t.onward t.breaking t.continuing t.returning t.raising
      ∙ ap (λ z. (e && ways q came t) || (z || (all_from q (last breaking) t.breaking || (all_from q (last continuing) t.continuing || (all_from q (last returning) t.returning || all_from q (last raising) t.raising)))))
      (sym (from-united (last onward) (λ w. comes (came w)) t))

  left-try-is : (tried passed : Bool) (mc mo : List ℕ) (o b c r x : List ℕ) (to tb tc tr tx : List Target)
      → (all_from q o (entering mo passed to) || (all_from q b tb || (all_from q c tc || (all_from q r tr || all_from q x (entering mc (not tried) tx)))))
      ≡ ((has_pair q (joined x mc) || has_pair q (joined o mo)) || (all_from q (only passed o) to || (all_from q b tb || (all_from q c tc || (all_from q r tr || all_from q (only (not tried) x) tx)))))
  left-try-is tried passed mc mo o b c r x to tb tc tr tx = simp (has_pair-joined, all_from-entering, all_from-only, choices)

  ended-is : (l : ℕ) (eb : Bool) (o : List ℕ) (x : List Target) (others : Bool) → ((eb && from q l x) || (all_from q o x || others)) ≡ (all_from q (o ++ only eb (l ∷ [])) x || others)
  ended-is l eb o x others = simp (all_from-append, all_from-only, all_from-one, choices)

  -- where a `try` suite is left, with its own mark, and the first marks of the clauses and of the `else`
  pub left-try : (tried passed eb : Bool) (l : ℕ) (mc mo : List ℕ) (last : Way → List ℕ) (t : Targets)
      → ((eb && from q l (entering mo passed t.onward)) || ways q last (record t { onward = entering mo passed t.onward; raising = entering mc (not tried) t.raising }))
      ≡ ((has_pair q (joined (last raising) mc) || has_pair q (joined (last onward ++ only eb (l ∷ [])) mo)) || ways q (λ w. past_try w tried passed (last onward ++ only eb (l ∷ [])) (last w)) t)
  unfolding ways
  left-try tried passed eb l mc mo last t =
      ended-is l eb (last onward) (entering mo passed t.onward) (all_from q (last breaking) t.breaking || (all_from q (last continuing) t.continuing || (all_from q (last returning) t.returning || all_from q (last raising) (entering mc (not tried) t.raising))))
      ∙ left-try-is tried passed mc mo (last onward ++ only eb (l ∷ [])) (last breaking) (last continuing) (last returning) (last raising) t.onward t.breaking t.continuing t.returning t.raising

  five : {a b c o : Bool} (own body clauses orelse fin : List Arc) → hits q own ≡ a → hits q body ≡ b → hits q clauses ≡ c → hits q orelse ≡ o
      → hits q ((own ++ body) ++ (clauses ++ (orelse ++ fin))) ≡ (a || (b || (c || (o || hits q fin))))
  five {a = a} {b = b} {c = c} {o = o} own body clauses orelse fin ha hb hc ho =
      hits-append q (own ++ body) (clauses ++ (orelse ++ fin))
      ∙ ap (λ z. z || hits q (clauses ++ (orelse ++ fin))) (hits-append q own body ∙ ap (λ z. z || hits q body) ha ∙ ap (λ z. a || z) hb)
      ∙ ap (λ z. (a || b) || z) (hits-append q clauses (orelse ++ fin) ∙ ap (λ z. z || hits q (orelse ++ fin)) hc
      ∙ ap (λ z. c || z) (hits-append q orelse fin ∙ ap (λ z. z || hits q fin) ho))
      ∙ or_assoc a b (c || (o || hits q fin))

  eight-pairs : {f : Bool} (a b c d e g h k : List Pair) → has_pair q a ≡ f
      → has_pair q (a ++ (b ++ (c ++ (d ++ (e ++ (g ++ (h ++ k)))))))
      ≡ (f || (has_pair q b || (has_pair q c || (has_pair q d || (has_pair q e || (has_pair q g || (has_pair q h || has_pair q k)))))))
  eight-pairs {f = f} a b c d e g h k is =
      has_pair-append q a (b ++ (c ++ (d ++ (e ++ (g ++ (h ++ k)))))) ∙ ap (λ z. z || has_pair q (b ++ (c ++ (d ++ (e ++ (g ++ (h ++ k))))))) is
      ∙ ap (λ z. f || z) (has_pair-append q b (c ++ (d ++ (e ++ (g ++ (h ++ k))))) ∙ ap (λ z. has_pair q b || z) (has_pair-append q c (d ++ (e ++ (g ++ (h ++ k)))) ∙ ap (λ z. has_pair q c || z) (has_pair-append q d (e ++ (g ++ (h ++ k)))
      ∙ ap (λ z. has_pair q d || z) (has_pair-append q e (g ++ (h ++ k)) ∙ ap (λ z. has_pair q e || z) (has_pair-append q g (h ++ k) ∙ ap (λ z. has_pair q g || z) (has_pair-append q h k))))))

  -- a `try`
  pub a-try : (any eb passed tried : Bool) (l : ℕ) (t g : Targets) (mb mc mo mf : List ℕ) (body clauses orelse fin : List Arc) (bps cps ops fps : List Pair) (bl cl ol fl : Way → List ℕ)
      → hits q body ≡ (has_pair q bps || ways q bl (record g { onward = entering mo passed g.onward; raising = entering mc (not tried) g.raising }))
      → hits q clauses ≡ (has_pair q cps || ways q cl g)
      → hits q orelse ≡ (has_pair q ops || ways q ol g)
      → (ways q (λ w. past_try w tried passed (bl onward ++ only eb (l ∷ [])) (bl w) ++ (cl w ++ ol w)) g || hits q fin)
      ≡ (has_pair q (joined (by_each_way (λ w. past_try w tried passed (bl onward ++ only eb (l ∷ [])) (bl w) ++ (cl w ++ ol w))) mf) || (has_pair q fps || ways q fl t))
      → hits q ((own_walk any t (pos l) (entering mb eb (entering mo passed g.onward)) ++ body) ++ (clauses ++ (orelse ++ fin)))
      ≡ (has_pair q (joined (l ∷ []) mb ++ (joined (bl raising) mc ++ (joined (bl onward ++ only eb (l ∷ [])) mo
      ++ (joined (by_each_way (λ w. past_try w tried passed (bl onward ++ only eb (l ∷ [])) (bl w) ++ (cl w ++ ol w))) mf ++ (bps ++ (cps ++ (ops ++ fps)))))))
      || ways q (λ w. may_raise any w l ++ fl w) t)
  a-try any eb passed tried l t g mb mc mo mf body clauses orelse fin bps cps ops fps bl cl ol fl hb hc ho hf =
      let ended : List ℕ = bl onward ++ only eb (l ∷ []) in
      let inner : Way → List ℕ = λ w. past_try w tried passed (bl onward ++ only eb (l ∷ [])) (bl w) in
      let behind : Way → List ℕ = λ w. cl w ++ ol w in
      let own : hits q (own_walk any t (pos l) (entering mb eb (entering mo passed g.onward))) ≡ ((from q l (firsts q mb) || (eb && from q l (entering mo passed g.onward))) || (any && from q l t.raising)) =
      hits-own_walk q any t l (entering mb eb (entering mo passed g.onward)) ∙ ap (λ z. z || (any && from q l t.raising)) (from-entering q l mb eb (entering mo passed g.onward)) in
      five (own_walk any t (pos l) (entering mb eb (entering mo passed g.onward))) body clauses orelse fin own hb hc ho
      ∙ try-is (from q l (firsts q mb)) (eb && from q l (entering mo passed g.onward)) (any && from q l t.raising)
      (has_pair q bps) (ways q bl (record g { onward = entering mo passed g.onward; raising = entering mc (not tried) g.raising }))
      (has_pair q cps) (ways q cl g) (has_pair q ops) (ways q ol g) (hits q fin)
      (has_pair q (joined (bl raising) mc)) (has_pair q (joined ended mo)) (ways q inner g)
      (has_pair q (joined (by_each_way (λ w. inner w ++ behind w)) mf)) (has_pair q fps) (ways q fl t) (ways q (λ w. inner w ++ behind w) g)
      (left-try tried passed eb l mc mo bl g)
      (sym (ways-append q inner behind g ∙ ap (λ z. ways q inner g || z) (ways-append q cl ol g)))
      hf
      ∙ ap (λ z. z || ((any && from q l t.raising) || ways q fl t)) (sym (eight-pairs (joined (l ∷ []) mb) (joined (bl raising) mc) (joined ended mo) (joined (by_each_way (λ w. inner w ++ behind w)) mf) bps cps ops fps (has_pair-joined q (l ∷ []) mb ∙ all_from-one q l (firsts q mb))))
      ∙ ap (λ z. has_pair q (joined (l ∷ []) mb ++ (joined (bl raising) mc ++ (joined ended mo ++ (joined (by_each_way (λ w. inner w ++ behind w)) mf ++ (bps ++ (cps ++ (ops ++ fps))))))) || z) (sym (ways-append q (λ w. may_raise any w l) fl t ∙ ap (λ z. z || ways q fl t) (ways-may_raise q any l t)))
