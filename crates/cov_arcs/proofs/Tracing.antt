-- What a tracer keeps after events are the arcs that they told.
use Rattle.std.proofs.Common.{◌≡◌, ℕ, zero, suc, ◌<◌, nat_eq, if◌then◌else◌, Bool, true, false, List, [], ◌∷◌, ◌++◌, length, replicate, ℤ, Option, Some, None, refl, sym, ap, ◌∙◌, subst, true≢false, eq-eqb, arith}
use Rattle.std.specs.Prelude.{slice_get}
use Rattle.std.proofs.lemmas.Bool.{eqb-true}
use Rattle.std.specs.Option.{option_map}
use Rattle.std.specs.BTreeSet.{insert_key}
use Rattle.cov_event.specs.declared.event.Event.{Event}
use Rattle.cov_event.specs.Moves.{Takes}
use Rattle.py_meaning.specs.Crossings.{by_lines, ordered}
use Rattle.cov_arcs.specs.Told.{after, closed, in_module, arcs_told}
use Rattle.cov_arcs.specs.Tracing.{Tracing, at_first, with_arc, with_closed, next, IsNext, TracingLaw}

in-order-append : (found xs ys : List (ℤ × ℤ)) → ordered found (xs ++ ys) ≡ ordered (ordered found xs) ys
unfolding ordered
in-order-append found [] ys = refl
in-order-append found (x ∷ xs) ys = in-order-append (insert_key by_lines found x) xs ys

-- one set of several, with an arc more in one of them
added-here : (arcs : List (List (ℤ × ℤ))) (m : ℕ) (a : ℤ × ℤ) (found : List (ℤ × ℤ)) → slice_get arcs m ≡ Some found → slice_get (with_arc arcs m a) m ≡ Some (insert_key by_lines found a)
unfolding with_arc
added-here [] m a found e = cc
added-here (x ∷ arcs) zero a found e = ap (option_map (λ w. insert_key by_lines w a)) e
added-here (x ∷ arcs) (suc m) a found e = added-here arcs m a found e

added-there : (arcs : List (List (ℤ × ℤ))) (n m : ℕ) (a : ℤ × ℤ) → (n ≡ m → ⊥) → slice_get (with_arc arcs n a) m ≡ slice_get arcs m
unfolding with_arc
added-there [] n m a apart = refl
added-there (x ∷ arcs) zero zero a apart = absurd (apart refl)
added-there (x ∷ arcs) zero (suc m) a apart = refl
added-there (x ∷ arcs) (suc n) zero a apart = refl
added-there (x ∷ arcs) (suc n) (suc m) a apart = added-there arcs n m a (λ e. apart (ap suc e))

added-at : (arcs : List (List (ℤ × ℤ))) (n m : ℕ) (a : ℤ × ℤ) (found : List (ℤ × ℤ)) → slice_get arcs m ≡ Some found
    → (b : Bool) → nat_eq n m ≡ b → slice_get (with_arc arcs n a) m ≡ Some (ordered found (if b then a ∷ [] else []))
unfolding ordered
added-at arcs n m a found e true same = ap (λ k. slice_get (with_arc arcs k a) m) (eqb-true n m same) ∙ added-here arcs m a found e
added-at arcs n m a found e false same = added-there arcs n m a (λ is. true≢false (sym (eq-eqb n m is) ∙ same)) ∙ e

closed-at : (arcs : List (List (ℤ × ℤ))) (c : Option (ℕ × (ℤ × ℤ))) (m : ℕ) (found : List (ℤ × ℤ)) → slice_get arcs m ≡ Some found → slice_get (with_closed arcs c) m ≡ Some (ordered found (in_module m c))
unfolding ordered
closed-at arcs None m found e = e
closed-at arcs (Some a) m found e = added-at arcs a.0 m a.1 found e (nat_eq a.0 m) refl

kept-from : (old : Tracing) (events : List Event) (new : Tracing) → Takes IsNext old events new → (m : ℕ) (found : List (ℤ × ℤ)) → slice_get old.arcs m ≡ Some found
    → slice_get new.arcs m ≡ Some (ordered found (arcs_told old.firsts m old.frames events))
unfolding arcs_told ordered
kept-from old [] new h m found e = ap (λ (t : Tracing). slice_get t.arcs m) h ∙ e
kept-from old (event ∷ events) new h m found e =
    let mid : Tracing = next old event in
    let rest : Takes IsNext mid events new = subst (λ t. Takes IsNext t events new) h.1 h.2 in
    kept-from mid events new rest m (ordered found (in_module m (closed old.frames event))) (closed-at old.arcs (closed old.frames event) m found e)
    ∙ ap Some (sym (in-order-append found (in_module m (closed old.frames event)) (arcs_told old.firsts m (after old.firsts old.frames event) events)))

empty-at : (n m : ℕ) → m < n → slice_get (replicate {A = List (ℤ × ℤ)} n []) m ≡ Some []
empty-at zero m h = absurd (omega (arith, h))
empty-at (suc n) zero h = refl
empty-at (suc n) (suc m) h = empty-at n m (omega (arith, h))

pub tracing_law : TracingLaw
tracing_law = record {
  from_first = λ firsts events new h m within. kept-from (at_first firsts) events new h m [] (empty-at (length firsts) m within);
  from_any = kept-from;
}
