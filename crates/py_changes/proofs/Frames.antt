-- Bodies in frames of their own, and modules that begin, among the old modules and among the new.
use Rattle.std.proofs.Common.{◌≡◌, ℕ, zero, suc, List, [], ◌∷◌, ◌++◌, Ok, Err, refl, sym, ap, subst}
use Rattle.cov_event.specs.declared.event.CodeId.{CodeId}
use Rattle.py_value.specs.declared.value.FuncId.{FuncId}
use Rattle.py_value.specs.Plain.{PlainValue}
use Rattle.py_syntax.specs.Tree.{Text}
use Rattle.py_builtins.specs.Parameters.{parameters}
use Rattle.py_builtins.specs.World.{Names, first_names, with_names_at}
use Rattle.py_meaning.specs.Activations.{no_items}
use Rattle.py_meaning.specs.Computations.{Setting, State, Res, done, cut, M, Ans}
use Rattle.py_meaning.specs.Frames.{in_frame, answer_of, left_by, framed, begun, ended, in_unit}
use Rattle.py_meaning.specs.Modules.{LoadedModule, name_of}
use Rattle.py_meaning.specs.Statements.{Out, normal, breaks, continues, returns, raises}
use Rattle.py_meaning.proofs.Budget.{end_of}
use Rattle.py_changes.proofs.Kept.{Suit, SuitAll, NamesSuit}
use Rattle.py_changes.proofs.Reached.{ReachOnly}
use Rattle.py_changes.proofs.Names.{names_changed}
use Rattle.py_changes.proofs.Results.{ResultSuits}
use Rattle.py_changes.proofs.Follows.{Kept, OutSuits, Held, Follows, follow-give, follow-chain, follow-write}

module _ (K : FuncId → Type 0) where
  answer_suits : (o : Out) → OutSuits K o → ResultSuits K (Suit K) (answer_of o)
  answer_suits normal h = tt
  answer_suits breaks h = tt
  answer_suits continues h = tt
  answer_suits (returns v) h = h
  answer_suits (raises e t) h = h

  pub parameters_suit : (xs : List Text) (vs : List PlainValue) → SuitAll K vs
      → NamesSuit K (parameters xs vs)
  parameters_suit [] vs h = tt
  parameters_suit (x ∷ xs) [] h = tt
  parameters_suit (x ∷ xs) (v ∷ vs) h = (h.0, parameters_suit xs vs h.1)

  module _ (old new : List LoadedModule) (names : (m : ℕ) → name_of old m ≡ name_of new m) where
    begun_same : (m : ℕ) (w : Setting) → Kept K w
        → (begun new m w ≡ begun old m w) × Kept K (begun old m w)
    begun_same m w kept = (
      ap (λ x.
          record w {
            world = record w.world {
              globals = with_names_at m (λ ns. first_names x) w.world.globals;
              begun = w.world.begun
                  ++ m ∷ [];
            };
          }) (sym (names m)),
      (
        (
          names_changed K m (λ ns. first_names (name_of old m)) w.world.globals
              (λ ns j. (tt, tt)) kept.0.0,
          kept.0.1,
        ),
        kept.1,
      ),
    )

module _ {Safe : ℕ → ℕ → Type 0} {K : FuncId → Type 0} where
  -- two that do nothing
  pub follow-quiet : {C : Type 0} (m : ℕ) (f g : M Out)
      → ((s : State) (n : ℕ) → f s n ≡ done normal s n)
      → ((s : State) (n : ℕ) → g s n ≡ done normal s n) → Follows Safe K C m (OutSuits K) f g
  follow-quiet m f g hf hg = record {
    run = λ s n. (
      subst (λ r. ReachOnly Safe m (end_of r).items → ReachOnly Safe m s.items) (sym (hf s n))
          (λ c. c),
      λ c kept. subst (λ r. Held Safe K m (OutSuits K) r (g s n)) (sym (hf s n))
          (λ clean. (hg s n, kept, tt)),
    );
  }

  -- ---- frames

  -- a body in a frame of its own, whatever the module of its caller
  pub follow-framed : {C : Type 0} {m : ℕ} {f g : M Out} (code : CodeId) (names : Names)
      → (C → NamesSuit K names) → Follows Safe K C code.module (OutSuits K) f g
      → Follows Safe K C m (ResultSuits K (Suit K)) (framed code names f) (framed code names g)
  unfolding framed
  follow-framed {C = C} {m = m} {f = f} {g = g} code names hn h =
      record { run = λ s n. go s (f (inside s) n) (g (inside s) n) (h.run (inside s) n).1 }
    where
      inside : State → State
      inside s = record { now = in_frame names s.now; out = s.out; items = no_items }

      left : (s t u : State) (o p : Out) (k l : ℕ) → done p u l ≡ done o t k
          → left_by code s (done p u l) ≡ left_by code s (done o t k)
      left s t u o p k l e = ap (λ r. left_by code s r) e

      go : (s : State) (r q : Res Out)
          → (C → Kept K (inside s).now → Held Safe K code.module (OutSuits K) r q)
          → (ReachOnly Safe m (end_of (left_by code s r)).items → ReachOnly Safe m s.items)
          × (C → Kept K s.now → Held Safe K m (ResultSuits K (Suit K)) (left_by code s r)
          (left_by code s q))
      go s (cut t) q e = (λ c. c.0, λ c kept. tt)
      go s (done o t k) q e = (
        λ c. c.0,
        λ c kept clean.
            let held = e c (kept.0, hn c) clean.1 in
            (ap (λ r. left_by code s r) held.0, (held.1.0, kept.1), answer_suits K o held.2),
      )

  -- ---- modules

  module _ (old new : List LoadedModule) (names : (m : ℕ) → name_of old m ≡ name_of new m) where
    follow-ended : {C : Type 0} {m : ℕ} (k : ℕ) (a : Ans PlainValue)
        → (C → ResultSuits K (Suit K) a)
        → Follows Safe K C m (ResultSuits K (Suit K)) (ended k a) (ended k a)
    follow-ended k (Ok v) h = follow-give _ h
    follow-ended k (Err e) h = follow-write _ _ (λ w c kept. (refl, kept)) (follow-give _ h)

    pub follow-in_unit : {C : Type 0} {m : ℕ} {f g : M (Ans PlainValue)} (k u : ℕ)
        → Follows Safe K C m (ResultSuits K (Suit K)) f g
        → Follows Safe K C m (ResultSuits K (Suit K)) (in_unit old k u f) (in_unit new k u g)
    unfolding in_unit
    follow-in_unit k zero h =
        follow-write _ _ (λ w c kept. begun_same K old new names k w kept)
        (follow-chain h (λ a. follow-ended k a (λ c. c.1)))
    follow-in_unit k (suc u) h = h
