-- What each form adds to a walk and to a prediction.
use Rattle.std.proofs.Common.{◌≡◌, ℕ, pos, Bool, true, false, if◌then◌else◌, List, [], ◌∷◌, ◌++◌, refl, ap, sym, ◌∙◌}
use Rattle.std.specs.Prelude.{◌||◌, ◌&&◌, not}
use Rattle.std.proofs.Math.Bool.{or_assoc}
use Rattle.py_syntax.specs.FirstMarks.{only}
use Rattle.py_syntax.specs.LastMarks.{Way, onward, breaking, continuing, is_onward, may_raise, onward_only, past_loop}
use Rattle.py_syntax.specs.Neighbours.{Pair, joined, turned}
use Rattle.py_syntax.specs.Prediction.{Arc}
use Rattle.cov_predict.specs.Walk.{Targets, arcs_to, entering, turn, in_loop, before, own_walk}
use Rattle.cov_predict.proofs.Hits.{choices, or_left, hits, hits-append, hits-unless, hits-arcs_to, from-none, from-entering, all_from-one, all_from-append, all_from-only, has_pair, has_pair-none, has_pair-append, has_pair-joined, followed-is, has_pair-turned}
use Rattle.cov_predict.proofs.ByWay.{ways, ways-append, ways-may_raise, ways-onward_only, hits-raises, ways-before, ways-in_loop}

not_not : (a : Bool) → not (not a) ≡ a
not_not true = refl
not_not false = refl

module _ (q : Arc) where
  pub in-a-row : (ms : List ℕ) (e : Bool) (t : Targets) (walk rest : List Arc) (ps rest_ps : List Pair) (last rest_last : Way → List ℕ)
      → hits q walk ≡ (has_pair q ps || ways q last (before ms e t))
      → hits q rest ≡ (has_pair q rest_ps || ways q rest_last t)
      → hits q (walk ++ rest) ≡ (has_pair q (ps ++ (joined (last onward) ms ++ rest_ps)) || ways q (λ w. only (not (is_onward w) || e) (last w) ++ rest_last w) t)
  in-a-row ms e t walk rest ps rest_ps last rest_last h k =
      simp (hits-append, h, k, has_pair-append, has_pair-joined, followed-is, has_pair-none, ways-before, ways-append, choices)

  pub a-loop : (any c eb eo : Bool) (l : ℕ) (t : Targets) (mb mo : List ℕ) (body orelse : List Arc) (bps ops : List Pair) (bl ol : Way → List ℕ)
      → hits q body ≡ (has_pair q bps || ways q bl (in_loop (pos l) t))
      → hits q orelse ≡ (has_pair q ops || ways q ol t)
      → hits q ((own_walk any t (pos l) (entering mb eb (turn (pos l))) ++ body) ++ ((if c then [] else arcs_to (pos l) (entering mo eo t.onward)) ++ orelse))
      ≡ (has_pair q (joined (l ∷ []) mb ++ (turned l (bl onward ++ (bl continuing ++ only eb (l ∷ []))) ++ (joined (only (not c) (l ∷ [])) mo ++ (bps ++ ops))))
      || ways q (λ w. may_raise any w l ++ (past_loop w (bl breaking) (bl w) ++ (onward_only w (only (not c && eo) (l ∷ [])) ++ ol w))) t)
  a-loop any c eb eo l t mb mo body orelse bps ops bl ol h k =
      simp (hits-append, hits-unless, hits-raises, hits-arcs_to, h, k, from-entering, has_pair-append, has_pair-joined, followed-is, has_pair-none, has_pair-turned, ways-in_loop, ways-append, ways-may_raise, ways-onward_only, all_from-append, all_from-only, all_from-one, choices)

  -- a test: onward into its suite, or to what comes after it; the marks of what is left count with those of the `else`
  pub an-arm : (any eb er : Bool) (l : ℕ) (t : Targets) (mb mr : List ℕ) (body rest : List Arc) (bps rps : List Pair) (bl rl : Way → List ℕ) (orelse : Bool)
      → hits q body ≡ (has_pair q bps || ways q bl t)
      → (hits q rest || orelse) ≡ (has_pair q rps || ways q rl t)
      → (hits q ((own_walk any t (pos l) (entering mb eb t.onward) ++ body) ++ (arcs_to (pos l) (entering mr er t.onward) ++ rest)) || orelse)
      ≡ (has_pair q (joined (l ∷ []) mb ++ (joined (l ∷ []) mr ++ (bps ++ rps)))
      || ways q (λ w. may_raise any w l ++ (onward_only w (only eb (l ∷ []) ++ only er (l ∷ [])) ++ (bl w ++ rl w))) t)
  an-arm any eb er l t mb mr body rest bps rps bl rl orelse h k =
      let A = own_walk any t (pos l) (entering mb eb t.onward) ++ body in
      let B = arcs_to (pos l) (entering mr er t.onward) in
      ap (λ b. b || orelse) (hits-append q A (B ++ rest) ∙ ap (λ b. hits q A || b) (hits-append q B rest))
      ∙ or_assoc (hits q A) (hits q B || hits q rest) orelse
      ∙ ap (λ b. hits q A || b) (or_assoc (hits q B) (hits q rest) orelse ∙ ap (λ b. hits q B || b) k)
      ∙ simp (hits-append, hits-raises, hits-arcs_to, h, from-entering, has_pair-append, has_pair-joined, followed-is, has_pair-none, ways-append, ways-may_raise, ways-onward_only, all_from-append, all_from-only, all_from-one, choices)

  -- an `if` with its `else`
  pub an-if : (t : Targets) (arms orelse : List Arc) (aps ops : List Pair) (al ol : Way → List ℕ)
      → (hits q arms || ways q ol t) ≡ (has_pair q aps || ways q al t)
      → hits q orelse ≡ (has_pair q ops || ways q ol t)
      → hits q (arms ++ orelse) ≡ (has_pair q (aps ++ ops) || ways q al t)
  an-if t arms orelse aps ops al ol h k =
      hits-append q arms orelse ∙ ap (λ b. hits q arms || b) k
      ∙ or_left (hits q arms) (has_pair q ops) (ways q ol t)
      ∙ ap (λ b. has_pair q ops || b) h
      ∙ or_left (has_pair q ops) (has_pair q aps) (ways q al t)
      ∙ sym (or_assoc (has_pair q aps) (has_pair q ops) (ways q al t))
      ∙ ap (λ b. b || ways q al t) (sym (has_pair-append q aps ops))

  -- a clause
  pub a-clause : (any eb er named : Bool) (l : ℕ) (t : Targets) (mb mr : List ℕ) (body rest : List Arc) (bps rps : List Pair) (bl rl : Way → List ℕ)
      → hits q body ≡ (has_pair q bps || ways q bl t)
      → hits q rest ≡ (has_pair q rps || ways q rl t)
      → hits q ((own_walk any t (pos l) (entering mb eb t.onward) ++ body) ++ ((if not named then [] else arcs_to (pos l) (entering mr er [])) ++ rest))
      ≡ (has_pair q (joined (l ∷ []) mb ++ (joined (only named (l ∷ [])) mr ++ (bps ++ rps)))
      || ways q (λ w. may_raise any w l ++ (onward_only w (only eb (l ∷ [])) ++ (bl w ++ rl w))) t)
  a-clause any eb er named l t mb mr body rest bps rps bl rl h k =
      simp (hits-append, hits-unless, not_not, from-none, hits-raises, hits-arcs_to, h, k, from-entering, has_pair-append, has_pair-joined, followed-is, has_pair-none, ways-append, ways-may_raise, ways-onward_only, all_from-only, all_from-one, choices)

  -- a case
  pub a-case : (any eb er sure : Bool) (l : ℕ) (t : Targets) (mb mr : List ℕ) (body rest : List Arc) (bps rps : List Pair) (bl rl : Way → List ℕ)
      → hits q body ≡ (has_pair q bps || ways q bl t)
      → hits q rest ≡ (has_pair q rps || ways q rl t)
      → hits q ((own_walk any t (pos l) (entering mb eb t.onward) ++ body) ++ ((if sure then [] else arcs_to (pos l) (entering mr er t.onward)) ++ rest))
      ≡ (has_pair q (joined (l ∷ []) mb ++ (joined (only (not sure) (l ∷ [])) mr ++ (bps ++ rps)))
      || ways q (λ w. may_raise any w l ++ (onward_only w (only eb (l ∷ []) ++ only (not sure && er) (l ∷ [])) ++ (bl w ++ rl w))) t)
  a-case any eb er sure l t mb mr body rest bps rps bl rl h k =
      simp (hits-append, hits-unless, hits-raises, hits-arcs_to, h, k, from-entering, has_pair-append, has_pair-joined, followed-is, has_pair-none, ways-append, ways-may_raise, ways-onward_only, all_from-append, all_from-only, all_from-one, choices)

  -- a `match`
  pub a-match : (any er : Bool) (l : ℕ) (t : Targets) (mr : List ℕ) (rest : List Arc) (rps : List Pair) (rl : Way → List ℕ)
      → hits q rest ≡ (has_pair q rps || ways q rl t)
      → hits q (own_walk any t (pos l) (entering mr er t.onward) ++ rest)
      ≡ (has_pair q (joined (l ∷ []) mr ++ rps) || ways q (λ w. may_raise any w l ++ (onward_only w (only er (l ∷ [])) ++ rl w)) t)
  a-match any er l t mr rest rps rl k =
      simp (hits-append, hits-raises, hits-arcs_to, k, from-entering, has_pair-append, has_pair-joined, followed-is, has_pair-none, ways-append, ways-may_raise, ways-onward_only, all_from-only, all_from-one, choices)
