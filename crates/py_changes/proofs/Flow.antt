-- Outcomes of statements, exceptions that are handled, and the headers of loops.
use Rattle.std.proofs.Common.{ℕ, Bool, true, false, Option, Some, None}
use Rattle.py_value.specs.declared.value.FuncId.{FuncId}
use Rattle.py_value.specs.Plain.{PlainValue, none_value, bool_value, int_value, str_value, tuple_value, list_at, dict_at, func_value, module_value, kind_value, exc_value, builtin_value, PlainRaised}
use Rattle.py_builtins.specs.Items.{walk_length, item_of}
use Rattle.py_meaning.specs.Computations.{Ans, M}
use Rattle.py_meaning.specs.Patterns.{Match}
use Rattle.py_meaning.specs.Statements.{Out, normal, breaks, continues, returns, raises, while_header, Walked, walked, at_item, for_header, raise_value, handle, settle}
use Rattle.py_changes.proofs.Kept.{Suits, Suit, SuitsRaised, NamesSuit}
use Rattle.py_changes.proofs.Values.{ThroughOption}
use Rattle.py_changes.proofs.Results.{ResultSuits}
use Rattle.py_changes.proofs.Builtins.{length_plainly, item_suits}
use Rattle.py_changes.proofs.Follows.{OutSuits, Follows, follow-under, follow-give, follow-value, follow-asked, follow-branch, follow-throw, TurnSuits}
use Rattle.py_changes.proofs.Expressions.{Any}

-- the exception that a clause handles
abbrev pub HandledSuits : (FuncId → Type 0) → Option PlainRaised → Type 0
HandledSuits K None = Unit {0}
HandledSuits K (Some e) = SuitsRaised K e

-- the names of a match
abbrev pub MatchSuits : (FuncId → Type 0) → Match → Type 0
MatchSuits K None = Unit {0}
MatchSuits K (Some names) = NamesSuit K names

-- a turn of a `for`
abbrev pub WalkSuits : (FuncId → Type 0) → Walked → Type 0
WalkSuits K t = Suit K t.value × Suit K t.item

module _ (K : FuncId → Type 0) where
  walked_suits : (v : PlainValue) (n i : ℕ) (o : Option PlainValue) → Suit K v
      → ThroughOption (Suits K) o → TurnSuits (WalkSuits K) (walked v n i o)
  walked_suits v n i None g h = tt
  walked_suits v n i (Some x) g h = (g, h)

module _ {Safe : ℕ → ℕ → Type 0} {K : FuncId → Type 0} where
  pub follow-settle : {C : Type 0} {m : ℕ} (o p : Out) → (C → OutSuits K o × OutSuits K p)
      → Follows Safe K C m (OutSuits K) (settle o p) (settle o p)
  follow-settle normal (raises e true) h = follow-throw e (λ c. (h c).1)
  follow-settle normal normal h = follow-give _ (λ c. tt)
  follow-settle normal breaks h = follow-give _ (λ c. tt)
  follow-settle normal continues h = follow-give _ (λ c. tt)
  follow-settle normal (returns v) h = follow-give _ (λ c. (h c).1)
  follow-settle normal (raises e false) h = follow-give _ (λ c. (h c).1)
  follow-settle breaks p h = follow-give _ (λ c. tt)
  follow-settle continues p h = follow-give _ (λ c. tt)
  follow-settle (returns v) p h = follow-give _ (λ c. (h c).0)
  follow-settle (raises e t) p h = follow-give _ (λ c. (h c).0)

  pub follow-handle : {C : Type 0} {m : ℕ} {f g : PlainRaised → M Out} {e e' : M Out} (has : Bool)
      (o : Out) → ((x : PlainRaised)
      → Follows Safe K (C × SuitsRaised K x) m (OutSuits K) (f x) (g x)) → Follows Safe K C m
      (OutSuits K) e e'
      → Follows Safe K (C × OutSuits K o) m (OutSuits K) (handle has o f e) (handle has o g e')
  follow-handle has normal h k = follow-under (λ c. c.0) k
  follow-handle has breaks h k = follow-give _ (λ c. tt)
  follow-handle has continues h k = follow-give _ (λ c. tt)
  follow-handle has (returns v) h k = follow-give _ (λ c. c.1)
  follow-handle true (raises x t) h k = h x
  follow-handle false (raises x t) h k = follow-give _ (λ c. c.1)

  pub follow-raise : {C : Type 0} {m : ℕ} (v : PlainValue) → (C → Suit K v)
      → Follows Safe K C m (OutSuits K) (raise_value v) (raise_value v)
  follow-raise (exc_value kind a) h = follow-give _ (λ c. (h c).1)
  follow-raise (kind_value kind) h = follow-give _ (λ c. tt)
  follow-raise none_value h = follow-throw _ (λ c. tt)
  follow-raise (bool_value b) h = follow-throw _ (λ c. tt)
  follow-raise (int_value n) h = follow-throw _ (λ c. tt)
  follow-raise (str_value x) h = follow-throw _ (λ c. tt)
  follow-raise (tuple_value vs) h = follow-throw _ (λ c. tt)
  follow-raise (list_at a) h = follow-throw _ (λ c. tt)
  follow-raise (dict_at a) h = follow-throw _ (λ c. tt)
  follow-raise (func_value f a) h = follow-throw _ (λ c. tt)
  follow-raise (module_value k) h = follow-throw _ (λ c. tt)
  follow-raise (builtin_value which) h = follow-throw _ (λ c. tt)

  follow-at_item : {C : Type 0} {m : ℕ} (v : PlainValue) (n i : ℕ) → (C → Suit K v)
      → Follows Safe K C m (ResultSuits K (TurnSuits (WalkSuits K))) (at_item v n i) (at_item v n i)
  follow-at_item v n i h =
      follow-value (follow-asked {Q = ThroughOption (Suits K)} (λ w. item_of v n i w.world.heap)
      (λ w c kept. item_suits K w.world.heap kept.0.1 v n i (h c))) (λ x.
      follow-give _ (λ c. walked_suits K v n i x (h c.0) c.1))

  pub follow-for_header : {C : Type 0} {m : ℕ} {f g : M (Ans PlainValue)} (b : Option Walked)
      → (C → TurnSuits (WalkSuits K) b) → Follows Safe K C m (ResultSuits K (Suit K)) f g
      → Follows Safe K C m (ResultSuits K (TurnSuits (WalkSuits K))) (for_header f b)
      (for_header g b)
  follow-for_header None h fg =
      follow-value fg
      (λ v. follow-value
      (follow-asked {Q = Any} (λ w. walk_length v w.world.heap)
      (λ w c kept. length_plainly K w.world.heap kept.0.1 v c.1))
      (λ n. follow-at_item v n 0 (λ c. c.0.1)))
  follow-for_header (Some t) h fg = follow-at_item t.value t.length t.place (λ c. (h c).0)

  pub follow-while_header : {C : Type 0} {m : ℕ} {f g : M (Ans PlainValue)}
      → Follows Safe K C m (ResultSuits K (Suit K)) f g
      → Follows Safe K C m (ResultSuits K (TurnSuits Any)) (while_header f) (while_header g)
  follow-while_header fg =
      follow-value fg (λ v. follow-branch v (follow-give _ (λ c. tt)) (follow-give _ (λ c. tt)))
