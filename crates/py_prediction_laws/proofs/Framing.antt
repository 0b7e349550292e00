-- Bodies in frames of their own leave arcs of their module.
use Rattle.std.proofs.Common.{◌≡◌, ℕ, zero, suc, ◌<◌, Bool, true, false, if◌then◌else◌, IsTrue, List, [], ◌∷◌, ◌++◌, map, slice_get, ℤ, pos, Ok, Err, refl, sym, ap, subst, ◌⊎◌, inl, inr, not-suc-le-zero}
use Rattle.cov_event.specs.declared.event.CodeId.{CodeId}
use Rattle.py_value.specs.Plain.{PlainValue}
use Rattle.py_syntax.specs.FirstMarks.{stmts_empty, stmts_first}
use Rattle.py_syntax.specs.Functions.{Function, functions, without_docstring}
use Rattle.py_syntax.specs.LastMarks.{onward, returning, raising, stmts_last}
use Rattle.py_syntax.specs.Neighbours.{Pair, stmts_pairs}
use Rattle.py_syntax.specs.Prediction.{Arc as Crossed, outside, body_arcs, functions_arcs, module_arcs}
use Rattle.py_syntax.specs.Tree.{Stmts}
use Rattle.py_builtins.specs.World.{Names}
use Rattle.py_meaning.specs.Activations.{no_items}
use Rattle.py_meaning.specs.Calls.{Calls}
use Rattle.py_meaning.specs.Computations.{State, Res, done, cut, Ans, M}
use Rattle.py_meaning.specs.Crossings.{shown_line}
use Rattle.py_meaning.specs.Frames.{in_frame, left_by, framed, exec_unit, place_of, in_unit, ended, calls}
use Rattle.py_meaning.specs.Modules.{LoadedModule, body_of, function_or, unit_in, unit_of}
use Rattle.py_meaning.specs.Statements.{Out, normal, breaks, continues, returns, raises}
use Rattle.py_prediction_laws.proofs.Members.{In, in-left, in-right, in-map, Mark, left, right, untrue}
use Rattle.py_prediction_laws.proofs.Tracks.{Rule, Fact, Good, Follows, follows-weaken, IsQuiet, AreQuiet, Stays, quiet-give, quiet-stop, quiet-chain, quiet-tick, quiet-write}
use Rattle.py_prediction_laws.proofs.Posts.{Holds, Frame, Post}
use Rattle.py_prediction_laws.proofs.Soundness.{sound-exec}
use Rattle.py_prediction_laws.proofs.Escapes.{Fits, OnDone, Ends}
use Rattle.py_prediction_laws.proofs.Units.{IsFine}

-- ---- the arcs of a unit are arcs of its module

among-functions : (any : Bool) (b : Stmts) (fs : List Function) (k : ℕ) (x : Crossed) → In x (body_arcs any (function_or b (slice_get fs k)).line (without_docstring (function_or b (slice_get fs k)).body))
    → In x (body_arcs any 1 (without_docstring b)) ⊎ In x (functions_arcs any fs)
among-functions any b [] k x h = inl h
among-functions any b (f ∷ fs) zero x h = inr (in-left x (body_arcs any f.line (without_docstring f.body)) (functions_arcs any fs) h)
among-functions any b (f ∷ fs) (suc k) x h = go (among-functions any b fs k x h)
  where
    go : In x (body_arcs any 1 (without_docstring b)) ⊎ In x (functions_arcs any fs) → In x (body_arcs any 1 (without_docstring b)) ⊎ In x (functions_arcs any (f ∷ fs))
    go (inl q) = inl q
    go (inr q) = inr (in-right x (body_arcs any f.line (without_docstring f.body)) (functions_arcs any fs) q)

among-module : (any : Bool) (b : Stmts) (x : Crossed) → In x (body_arcs any 1 (without_docstring b)) ⊎ In x (functions_arcs any (functions b)) → In x (module_arcs any b)
among-module any b x (inl h) = in-left x (body_arcs any 1 (without_docstring b)) (functions_arcs any (functions b)) h
among-module any b x (inr h) = in-right x (body_arcs any 1 (without_docstring b)) (functions_arcs any (functions b)) h

unit-arcs : (any : Bool) (b : Stmts) (u : ℕ) (x : Crossed) → In x (body_arcs any (unit_in b u).line (without_docstring (unit_in b u).body)) → In x (module_arcs any b)
unit-arcs any b zero x h = among-module any b x (inl h)
unit-arcs any b (suc k) x h = among-module any b x (among-functions any b (functions b) k x h)

-- ---- the arcs of a body

shown-up : (first k : ℕ) → 0 < k → pos k ≡ shown_line first k
shown-up first zero up = absurd (not-suc-le-zero up)
shown-up first (suc k) up = refl

crossed-equal : (a b c d : ℤ) → a ≡ c → b ≡ d → ◌≡◌ {A = Crossed} (a, b) (c, d)
crossed-equal a b c d e f i = (e i, f i)

in-if : (b : Bool) (x : Crossed) → IsTrue b → In x (if b then x ∷ [] else [])
unfolding In
in-if true x e = inl refl
in-if false x e = absurd (untrue e)

module _ (any : Bool) (first : ℕ) (b : Stmts) where
  abbrev Firsts : List Crossed
  Firsts = map (λ l. (outside first, pos l)) (stmts_first b)

  abbrev Pairs : List Crossed
  Pairs = map (λ p. (pos p.0, pos p.1)) (stmts_pairs any b)

  abbrev Ending : List ℕ
  Ending = stmts_last any onward b ++ (stmts_last any returning b ++ stmts_last any raising b)

  abbrev Lasts : List Crossed
  Lasts = map (λ l. (pos l, outside first)) Ending

  abbrev Nothing : List Crossed
  Nothing = if stmts_empty b then (outside first, outside first) ∷ [] else []

  -- between these lines
  abbrev pub Has : ℕ → ℕ → Type 0
  Has k l = In {A = Crossed} (shown_line first k, shown_line first l) (body_arcs any first b)

  entering : (k x : ℕ) → k ≡ 0 → Mark x (stmts_first b) → Has k x
  entering k x e m =
      subst (λ y. In {A = Crossed} y (body_arcs any first b)) (crossed-equal (outside first) (pos x) (shown_line first k) (shown_line first x) (ap (shown_line first) (sym e)) (shown-up first x m.up))
      (in-left {A = Crossed} (outside first, pos x) Firsts (Pairs ++ (Lasts ++ Nothing)) (in-map {B = Crossed} (λ l. (outside first, pos l)) x (stmts_first b) m.found))

  inside : (k x : ℕ) → 0 < k → 0 < x → In {A = Pair} (k, x) (stmts_pairs any b) → Has k x
  inside k x p q m =
      subst (λ y. In {A = Crossed} y (body_arcs any first b)) (crossed-equal (pos k) (pos x) (shown_line first k) (shown_line first x) (shown-up first k p) (shown-up first x q))
      (in-right {A = Crossed} (pos k, pos x) Firsts (Pairs ++ (Lasts ++ Nothing)) (in-left {A = Crossed} (pos k, pos x) Pairs (Lasts ++ Nothing) (in-map {A = Pair} {B = Crossed} (λ p. (pos p.0, pos p.1)) (k, x) (stmts_pairs any b) m)))

  leaving : (k : ℕ) → Mark k Ending → Has k 0
  leaving k m =
      subst (λ y. In {A = Crossed} y (body_arcs any first b)) (crossed-equal (pos k) (outside first) (shown_line first k) (outside first) (shown-up first k m.up) refl)
      (in-right {A = Crossed} (pos k, outside first) Firsts (Pairs ++ (Lasts ++ Nothing)) (in-right {A = Crossed} (pos k, outside first) Pairs (Lasts ++ Nothing) (in-left {A = Crossed} (pos k, outside first) Lasts Nothing (in-map {B = Crossed} (λ l. (pos l, outside first)) k Ending m.found))))

  passing : (k : ℕ) → IsTrue (stmts_empty b) → k ≡ 0 → Has k 0
  passing k i e =
      subst (λ y. In {A = Crossed} y (body_arcs any first b)) (crossed-equal (outside first) (outside first) (shown_line first k) (outside first) (ap (shown_line first) (sym e)) refl)
      (in-right {A = Crossed} (outside first, outside first) Firsts (Pairs ++ (Lasts ++ Nothing)) (in-right {A = Crossed} (outside first, outside first) Pairs (Lasts ++ Nothing) (in-right {A = Crossed} (outside first, outside first) Lasts Nothing (in-if (stmts_empty b) (outside first, outside first) i))))

-- ---- activations

module _ (any : Bool) (ms : List LoadedModule) where
  abbrev pub asked : Rule
  asked c x = Holds x.thrown any → In {A = Crossed} (shown_line (unit_of ms c).line x.from, shown_line (unit_of ms c).line x.to) (module_arcs any (body_of ms c.module))

  abbrev own_body : CodeId → Stmts
  own_body c = without_docstring (unit_of ms c).body

  abbrev frame : CodeId → Frame
  frame c = record { any = any; rule = asked; code = c; Claim = λ k l. In {A = Crossed} (shown_line (unit_of ms c).line k, shown_line (unit_of ms c).line l) (module_arcs any (body_of ms c.module)); claims = λ x h. h }

  -- a body is entered from outside it
  abbrev Outside : Fact
  Outside k t = (k ≡ 0) × (t ≡ false)

  abbrev Exit : CodeId → Out → Fact
  Exit c o k t = Fits false o → Holds t any → In {A = Crossed} (shown_line (unit_of ms c).line k, shown_line (unit_of ms c).line 0) (module_arcs any (body_of ms c.module))

  own : (c : CodeId) (k l : ℕ) → Has any (unit_of ms c).line (own_body c) k l → In {A = Crossed} (shown_line (unit_of ms c).line k, shown_line (unit_of ms c).line l) (module_arcs any (body_of ms c.module))
  own c k l h = unit-arcs any (body_of ms c.module) c.unit (shown_line (unit_of ms c).line k, shown_line (unit_of ms c).line l) h

  exits : (c : CodeId) (o : Out) (k : ℕ) (t : Bool) → Post (frame c) (stmts_empty (own_body c)) (λ w. stmts_last any w (own_body c)) Outside o k t → Exit c o k t
  exits c normal k t (inl m) f ok = own c k 0 (leaving any (unit_of ms c).line (own_body c) k (left _ m))
  exits c normal k t (inr h) f ok = own c k 0 (passing any (unit_of ms c).line (own_body c) k h.0 h.1.0)
  exits c breaks k t m f ok = absurd f
  exits c continues k t m f ok = absurd f
  exits c (returns v) k t m f ok = own c k 0 (leaving any (unit_of ms c).line (own_body c) k (right (stmts_last any onward (own_body c)) (left _ m)))
  exits c (raises e false) k t m f ok = own c k 0 (leaving any (unit_of ms c).line (own_body c) k (right (stmts_last any onward (own_body c)) (right (stmts_last any returning (own_body c)) m)))
  exits c (raises e true) k t h f ok =
      own c k 0 (leaving any (unit_of ms c).line (own_body c) k (right (stmts_last any onward (own_body c)) (right (stmts_last any returning (own_body c)) (h.1 (subst (λ b. Holds b any) h.0 ok)))))

  module _ (fine : (m u : ℕ) → IsFine (unit_in (body_of ms m) u).body) where
    body-goes : (c : Calls) → AreQuiet asked c → (code : CodeId) → Follows asked code Outside (exec_unit c ms code) (Exit code)
    body-goes c h code =
        follows-weaken asked code Outside Outside (exec_unit c ms code) (Post (frame code) (stmts_empty (own_body code)) (λ w. stmts_last any w (own_body code)) Outside) (Exit code) (λ k t q. q) (exits code)
        (sound-exec (frame code) c h (place_of ms code) (own_body code) (fine code.module code.unit).0 Outside
        (λ k x p q m. own code k x (inside any (unit_of ms code).line (own_body code) k x p q m))
        (λ k t x q ok apart m. own code k x (entering any (unit_of ms code).line (own_body code) k x q.0 m)))

    framed-quiet : (code : CodeId) (names : Names) (body : M Out) → Follows asked code Outside body (Exit code) → Ends false body → IsQuiet asked (framed code names body)
    unfolding IsQuiet Follows framed Ends
    framed-quiet code names body h e c s n l =
        let start : State = record { now = in_frame names s.now; out = s.out; items = no_items } in
        go (body start n) (h start n tt (refl, refl)) (e start n)
      where
        go : (r : Res Out) → Good asked code (Exit code) r → OnDone (Fits false) r → Stays asked c s (left_by code s r)
        go (done o t i) g f = ((l, (g.0, g.1 f)), refl, refl)
        go (cut t) g f = (l, g)

    quiet-unit : (m u : ℕ) (body : M (Ans PlainValue)) → IsQuiet asked body → IsQuiet asked (in_unit ms m u body)
    unfolding in_unit
    quiet-unit m zero body h = quiet-write asked _ _ (quiet-chain asked body _ h go)
      where
        go : (a : Ans PlainValue) → IsQuiet asked (ended m a)
        go (Ok v) = quiet-give asked _
        go (Err e) = quiet-write asked _ _ (quiet-give asked _)
    quiet-unit m (suc k) body h = h

    pub quiet-calls : (depth : ℕ) → AreQuiet asked (calls ms depth)
    unfolding calls
    quiet-calls zero m u vs = quiet-stop asked (Ans PlainValue)
    quiet-calls (suc n) m u vs =
        quiet-tick asked _ (quiet-unit m u _ (framed-quiet _ _ _ (body-goes (calls ms n) (quiet-calls n) _) ((fine m u).1 (calls ms n) _)))
