-- Prediction is sound.
use Rattle.std.proofs.Common.{◌≡◌, ℕ, zero, suc, ◌<◌, Bool, true, false, if◌then◌else◌, nat_eq, nat_lt, IsTrue, List, [], ◌∷◌, All, Contains, refl, sym, subst, ◌⊎◌, inl, inr}
use Rattle.std.proofs.lemmas.Bool.{eqb-true}
use Rattle.std.proofs.lemmas.List.Elements.{All-head, All-tail, All-contains}
use Rattle.cov_event.specs.declared.event.CodeId.{CodeId}
use Rattle.py_value.specs.Plain.{PlainValue}
use Rattle.py_scope.specs.Faults.{module_place, findings, late_globals}
use Rattle.py_scope.specs.Occurrences.{occurrences}
use Rattle.py_syntax.specs.Marks.{body_marks, in_order, with_line, statement_lines}
use Rattle.py_syntax.specs.Prediction.{module_arcs, predicted, possible}
use Rattle.py_syntax.specs.Tree.{no_stmts}
use Rattle.py_builtins.specs.World.{World}
use Rattle.py_meaning.specs.Activations.{Arc, Items}
use Rattle.py_meaning.specs.Computations.{State, Res, done, cut, Ans, M}
use Rattle.py_meaning.specs.Crossings.{Crossing, crossing, ends}
use Rattle.py_meaning.specs.Loading.{loaded}
use Rattle.py_meaning.specs.Modules.{LoadedModule, body_of, unit_in, unit_of}
use Rattle.py_meaning.specs.Program.{run_of, answer_in, first_world, at_rest, script_body, run_modules, meaning, call_global, called}
use Rattle.py_prediction_laws.specs.Sound.{IsProper, IsForeseen, AreForeseen, ProgramSoundness, ModulesSoundness, CallSoundness}
use Rattle.py_prediction_laws.proofs.Members.{In, in-none, contains, in-order}
use Rattle.py_prediction_laws.proofs.Tracks.{Rule, Linked, IsQuiet, Stays, quiet-value, quiet-ask}
use Rattle.py_prediction_laws.proofs.Quiet.{quiet-enter, quiet-call_value}
use Rattle.py_prediction_laws.proofs.Posts.{Holds}
use Rattle.py_prediction_laws.proofs.Escapes.{back-nil}
use Rattle.py_prediction_laws.proofs.Units.{IsFine, units-fine}
use Rattle.py_prediction_laws.proofs.Framing.{asked, quiet-calls}
use Rattle.py_prediction_laws.proofs.Crossed.{all-crossed}

-- ---- proper modules

with-new : (l : ℕ) (ls : List ℕ) → In l (with_line l ls)
unfolding In
with-new l [] = inl refl
with-new l (k ∷ ks) = go (nat_lt l k) (nat_eq l k) refl (with-new l ks)
  where
    go : (a b : Bool) → nat_eq l k ≡ b → In l (with_line l ks) → In l (if a then l ∷ k ∷ ks else (if b then k ∷ ks else k ∷ with_line l ks))
    go true b e h = inl refl
    go false true e h = inl (eqb-true l k e)
    go false false e h = inr h

with-old : (x l : ℕ) (ls : List ℕ) → In x ls → In x (with_line l ls)
unfolding In
with-old x l [] h = absurd h
with-old x l (k ∷ ks) h = go (nat_lt l k) (nat_eq l k) h (with-old x l ks)
  where
    go : (a b : Bool) → (x ≡ k) ⊎ In x ks → (In x ks → In x (with_line l ks)) → In x (if a then l ∷ k ∷ ks else (if b then k ∷ ks else k ∷ with_line l ks))
    go true b q on = inr q
    go false true q on = q
    go false false (inl e) on = inl e
    go false false (inr q) on = inr (on q)

ordered-has : (x : ℕ) (ls : List ℕ) → In x ls → In x (in_order ls)
unfolding In
ordered-has x [] h = absurd h
ordered-has x (l ∷ ls) (inl e) = subst (λ y. In y (with_line l (in_order ls))) (sym e) (with-new l (in_order ls))
ordered-has x (l ∷ ls) (inr h) = with-old x l (in_order ls) (ordered-has x ls h)

proper-fine : (m : LoadedModule) → IsProper m → (u : ℕ) → IsFine (unit_in m.body u).body
proper-fine m p u =
    units-fine module_place m.body
    (record { all = λ x h. All-contains (λ l. 0 < l) (statement_lines m.body) x p.numbered (contains x (statement_lines m.body) (ordered-has x (body_marks m.body) h)) })
    (back-nil (late_globals [] (occurrences m.body)) (findings module_place m.body).faults p.well_formed) refl u

missing-fine : (u : ℕ) → IsFine (unit_in no_stmts u).body
missing-fine u = units-fine module_place no_stmts (record { all = λ x h. absurd (in-none x h) }) refl refl u

modules-fine : (ms : List LoadedModule) → All IsProper ms → (m u : ℕ) → IsFine (unit_in (body_of ms m) u).body
modules-fine [] h m u = missing-fine u
modules-fine (x ∷ xs) h zero u = proper-fine x (All-head IsProper x xs h) u
modules-fine (x ∷ xs) h (suc m) u = modules-fine xs (All-tail IsProper x xs h) m u

-- ---- runs

-- what is asked of an arc of a module where everything may raise, or where raise alone does
abbrev Listed : Bool → List LoadedModule → ℕ → Crossing → Type 0
Listed any ms m c = Holds c.thrown any → Contains (Rattle.py_syntax.specs.Prediction.arcs_in_order (module_arcs any (body_of ms m))) (ends c)

shows : (any : Bool) (ms : List LoadedModule) (c : CodeId) (x : Arc) → asked any ms c x → Listed any ms c.module (crossing (unit_of ms c).line x)
shows any ms c x h ok = contains _ _ (in-order _ (module_arcs any (body_of ms c.module)) (h ok))

both : (ms : List LoadedModule) (m : ℕ) (c : Crossing) → Listed true ms m c → Listed false ms m c → IsForeseen (body_of ms m) c
both ms m c p q = go c.thrown p q
  where
    go : (t : Bool) → (Holds t true → Contains (possible (body_of ms m)) (ends c)) → (Holds t false → Contains (predicted (body_of ms m)) (ends c)) → Contains (possible (body_of ms m)) (ends c) × (Contains (predicted (body_of ms m)) (ends c) ⊎ IsTrue t)
    go true p q = (p refl, inr refl)
    go false p q = (p tt, inl (q tt))

foreseen : (ms : List LoadedModule) (items : Items) → ((any : Bool) (c : CodeId) → Linked (asked any ms) c items) → (c : CodeId) → AreForeseen ms items
foreseen ms items h c m = λ k d lt. both ms m _ (all-crossed (asked true ms) ms (Listed true ms) (shows true ms) c m items (h true c) k d lt) (all-crossed (asked false ms) ms (Listed false ms) (shows false ms) c m items (h false c) k d lt)

abbrev some_code : CodeId
some_code = record { «module» = 0; unit = 0 }

abbrev run_items : Res (Ans PlainValue) → Items
run_items (done a s n) = s.items
run_items (cut s) = s.items

stays-linked : (R : Rule) (c : CodeId) (s : State) (r : Res (Ans PlainValue)) → Stays R c s r → Linked R c (run_items r)
stays-linked R c s (done a t n) h = h.0
stays-linked R c s (cut t) h = h

-- what is quiet leaves arcs as asked, from no item on
begins-linked : (R : Rule) (m : M (Ans PlainValue)) → IsQuiet R m → (w : World) (input : List ℕ) (budget : ℕ) (c : CodeId) → Linked R c (run_items (m (at_rest w input) budget))
unfolding IsQuiet
begins-linked R m h w input budget c = stays-linked R c (at_rest w input) (m (at_rest w input) budget) (h c (at_rest w input) budget tt)

run-items : (budget : ℕ) (r : Res (Ans PlainValue)) → (run_of budget r).items ≡ run_items r
run-items budget (done a s n) = refl
run-items budget (cut s) = refl

answer-items : (budget : ℕ) (r : Res (Ans PlainValue)) → (answer_in budget r).items ≡ run_items r
answer-items budget (done a s n) = refl
answer-items budget (cut s) = refl

pub modules_sound : ModulesSoundness
unfolding run_modules
modules_sound ms h words input budget =
    subst (AreForeseen ms) (sym (run-items budget (script_body ms budget (at_rest (first_world ms words) input) budget)))
    (foreseen ms _ (λ any c. begins-linked (asked any ms) (script_body ms budget) (quiet-enter (asked any ms) _ (quiet-calls any ms (modules-fine ms h) (suc budget) 0 0 [])) (first_world ms words) input budget c) some_code)

pub program_sound : ProgramSoundness
unfolding meaning
program_sound program h words input budget = modules_sound (loaded program) h words input budget

pub call_sound : CallSoundness
unfolding called
call_sound ms h w input r budget =
    subst (AreForeseen ms) (sym (answer-items budget (call_global ms r budget (at_rest w input) budget)))
    (foreseen ms _ (λ any c. begins-linked (asked any ms) (call_global ms r budget) (quiet-value (asked any ms) _ _ (quiet-ask (asked any ms) _) (λ f. quiet-call_value (asked any ms) _ (quiet-calls any ms (modules-fine ms h) (suc budget)) ms f r.values)) w input budget c) some_code)
