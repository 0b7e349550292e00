-- What a whole source does: its blocks, its last line, and its run.
use Rattle.std.proofs.Common.{◌≡◌, ℕ, zero, suc, ◌+◌, ◌-◌, ◌*◌, ◌<◌, ◌≤◌, ◌^◌, true, List, [], ◌∷◌, refl, arith, ap, ◌∙◌, ℤ, pos, negsuc, Option, Some, None, Result, Ok}
use Rattle.std.specs.Prelude.{encode_utf8_all, length, nat_le, map}
use Rattle.std.specs.Fmt.{signed_decimal}
use Rattle.std.proofs.lemmas.Fmt.{length_signed_le}
use Rattle.cov_event.specs.declared.event.CodeId.{CodeId}
use Rattle.cov_make.specs.Source.{number_after, drawn}
use Rattle.py_value.specs.declared.cause.Cause.{Cause}
use Rattle.py_value.specs.Answers.{◌>>=◌, in_words}
use Rattle.py_value.specs.Causes.{raised_by}
use Rattle.py_value.specs.Plain.{PlainValue, str_value, list_object, PlainHeap, PlainRaised}
use Rattle.py_value.specs.Sequences.{within_limit, most_items}
use Rattle.py_builtins.specs.Builtins.{printed, str_texts, line_of}
use Rattle.py_builtins.specs.World.{first_names}
use Rattle.py_syntax.specs.Tree.{Stmts}
use Rattle.py_meaning.specs.Activations.{Items, no_items, more, mark}
use Rattle.py_meaning.specs.Calls.{Calls, as_done}
use Rattle.py_meaning.specs.Computations.{State, Res, done, bind, Ans, give, chain, step, read}
use Rattle.py_meaning.specs.Frames.{calls, left_by, ended}
use Rattle.py_meaning.specs.Modules.{LoadedModule}
use Rattle.py_meaning.specs.Program.{run_of, run_modules, script_body, at_rest, first_world}
use Rattle.py_meaning.specs.Statements.{Out, normal, next, simply, exec, exec_kind}
use Rattle.cov_make_laws.specs.Endings.{EndsWell, MadeFinish, MadeFinishByDefault}
use Rattle.cov_make_laws.specs.Loadings.{module_alone}
use Rattle.cov_make_laws.specs.Trees.{Form, If, For, Try, While, form_drawn, number_drawn, line_after, statement, statements}
use Rattle.cov_make_laws.proofs.Draws.{small}
use Rattle.cov_make_laws.proofs.Fors.{for_block}
use Rattle.cov_make_laws.proofs.Ifs.{if_block}
use Rattle.cov_make_laws.proofs.Integers.{Side, up, down, side, val}
use Rattle.cov_make_laws.proofs.States.{set_to, at_t, place, Ended}
use Rattle.cov_make_laws.proofs.Tries.{try_block}
use Rattle.cov_make_laws.proofs.Unfolds.{runs}
use Rattle.cov_make_laws.proofs.Whiles.{while_block}

-- ---- the number that is written

number_short : (u : ℕ) → u < 2 ^ 39 → Side u → length (signed_decimal (val u)) ≤ 14
number_short u low (up n e h) =
    rw h (omega (
      arith,
      e,
      low,
      length_signed_le 13 (pos n) (omega (arith, e, low)) (omega (arith, e, low)),
    ))
number_short u low (down m e h) =
    rw h (omega (
      arith,
      e,
      low,
      length_signed_le 13 (negsuc m) (omega (arith, e, low)) (omega (arith, e, low)),
    ))

number_fits : (z : ℤ) → length (signed_decimal z) ≤ 14
    → within_limit (signed_decimal z) ≡ Ok (signed_decimal z)
number_fits z h =
    let e : nat_le (length (signed_decimal z)) most_items ≡ true = grind arith in
    rw e refl

-- what is written
abbrev written : ℤ → List ℕ
written z = encode_utf8_all (line_of (signed_decimal z ∷ []))

-- the state after that
abbrev printed_at : List ℕ → List ℕ → ℤ → Option ℤ → PlainHeap → Items → State
printed_at x input t i h items =
    record { now = set_to x input t i h; out = written t; items = items }

-- the statements ended, and what they took is paid for
record Finished (x input : List ℕ) (u n cost : ℕ) (r : Res Out) : Type 0 where
  w : ℕ
  i : Option ℤ
  h : PlainHeap
  items : Items
  left : ℕ
  is : r ≡ done normal (printed_at x input (val w) i h items) left
  paid : 7 * n + 2 * w ≤ 7 * left + 2 * u + cost

module _ (c : Calls) (ms : List LoadedModule) (e : Option PlainRaised) (x input : List ℕ) where
  -- ---- a block

  block_ends : (f : Form) (v l u : ℕ) (i : Option ℤ) (h : PlainHeap) (items : Items) (n : ℕ)
      → v < 7 → u < 2 ^ 39 → 2 * u + 151 ≤ 7 * n
      → Ended x input u n 151
      (exec_kind c (place ms e) l (statement f v l) (at_t x input (val u) i h items) n)
  block_ends If v l u i h items n few low enough =
      if_block c ms e x input v l u i h items n low (omega (arith, enough))
  block_ends For v l u i h items n few low enough =
      for_block c ms e x input l v u i h items n few low (omega (arith, enough))
  block_ends Try v l u i h items n few low enough =
      try_block c ms e x input l v u i h items n low (omega (arith, enough))
  block_ends While v l u i h items n few low enough =
      while_block c ms e x input v l u i h items n few low (omega (arith, enough))

  -- ---- the last line

  -- it, by the text of the number
  unfoldable by_text : ℕ → Result (List ℕ) Cause → State → ℕ → Res Out
  by_text l r s n =
      chain (step (mark l) (simply (read (λ w. as_done (printed
      (in_words raised_by r >>= λ y. str_texts [] w.world.heap >>= λ ys. Ok (y ∷ ys))
      w.world.heap w.input))))) (λ o. next o (give normal)) s n

  print_ends : (s l : ℕ) (t : ℤ) (i : Option ℤ) (h : PlainHeap) (items : Items) (n : ℕ)
      → within_limit (signed_decimal t) ≡ Ok (signed_decimal t)
      → exec c (place ms e) (statements s l 0) (at_t x input t i h items) (suc n)
      ≡ done normal (printed_at x input t i h (more items (mark l))) n
  unfolding runs statements by_text
  print_ends s l t None h items n is =
      ap (λ r. by_text l r (at_t x input t None h items) (suc n)) is
  print_ends s l t (Some i) h items n is =
      ap (λ r. by_text l r (at_t x input t (Some i) h items) (suc n)) is

  -- ---- all lines after the first

  first_of_all : (s l size : ℕ) (t : State) (n : ℕ)
      → let q = drawn (number_after s) in
      exec c (place ms e) (statements s l (suc size)) t n
      ≡ bind (exec_kind c (place ms e) l (statement (form_drawn q) (number_drawn q) l) t n)
      (λ o. next o (exec c (place ms e)
      (statements (number_after s) (line_after (form_drawn q) l) size)))
  unfolding runs statements
  first_of_all s l size t n = refl

  -- a first statement that ended, and then others
  after_one : (size u n : ℕ) (rest : Stmts) (r q : Res Out) → u + 76 * suc size < 2 ^ 39
      → 2 * u + 151 * suc size + 7 ≤ 7 * n
      → q ≡ bind r (λ o. next o (exec c (place ms e) rest)) → Ended x input u n 151 r
      → ((w : ℕ) (i : Option ℤ) (h : PlainHeap) (items : Items) (m : ℕ)
      → w + 76 * size < 2 ^ 39 → 2 * w + 151 * size + 7 ≤ 7 * m
      → Finished x input w m (151 * size + 7)
      (exec c (place ms e) rest (at_t x input (val w) i h items) m))
      → Finished x input u n (151 * suc size + 7) q
  after_one size u n rest r q low enough so d others =
      let g = others d.w d.i d.h d.items d.left (omega (arith, low, d.fewer, d.paid))
      (omega (arith, enough, d.paid)) in
      record {
        w = g.w;
        i = g.i;
        h = g.h;
        items = g.items;
        left = g.left;
        is = so ∙ ap (λ r. bind r (λ o. next o (exec c (place ms e) rest))) d.is ∙ g.is;
        paid = omega (arith, d.paid, g.paid);
      }

  all_end : (size s l u : ℕ) (i : Option ℤ) (h : PlainHeap) (items : Items) (n : ℕ)
      → u + 76 * size < 2 ^ 39 → 2 * u + 151 * size + 7 ≤ 7 * n
      → Finished x input u n (151 * size + 7)
      (exec c (place ms e) (statements s l size) (at_t x input (val u) i h items) n)
  all_end zero s l u i h items zero low enough = absurd (omega (arith, enough))
  all_end zero s l u i h items (suc n) low enough = record {
    w = u;
    i = i;
    h = h;
    items = more items (mark l);
    left = n;
    is = print_ends s l (val u) i h items n
        (number_fits (val u) (number_short u (omega (arith, low)) (side u)));
    paid = omega arith;
  }
  all_end (suc size) s l u i h items n low enough =
      after_one size u n _ _ _ low enough
      (first_of_all s l size (at_t x input (val u) i h items) n)
      (block_ends (form_drawn (drawn (number_after s))) (number_drawn (drawn (number_after s))) l
      u i h items n (small (drawn (number_after s))) (omega (arith, low))
      (omega (arith, enough)))
      (λ w i h items m a b. all_end size (number_after s)
      (line_after (form_drawn (drawn (number_after s))) l) w i h items m a b)

-- ---- the run

abbrev script_unit : CodeId
script_unit = record { «module» = 0; unit = 0 }

-- what follows the body of the script
unfoldable left_to : State → Res Out → Res (Ans PlainValue)
left_to s r = bind (left_by script_unit s r) (ended 0)

-- the heap and the state in which the body of the module begins
abbrev begun_heap : List (List ℕ) → PlainHeap
begun_heap words = list_object (map str_value words) ∷ []

abbrev begun_state : List ℕ → List ℕ → List (List ℕ) → State
begun_state x input words = record {
  now = record {
    world = record {
      globals = first_names x ∷ [];
      begun = 0 ∷ [];
      heap = begun_heap words;
      words = 0;
    };
    locals = [];
    frames = 0;
    input = input;
  };
  out = [];
  items = no_items;
}

-- the first line takes two steps with the call of the body
begins : (x y input : List ℕ) (words : List (List ℕ)) (seed size budget : ℕ)
    → let ms = module_alone x y seed size in
    script_body ms (suc (suc budget)) (at_rest (first_world ms words) input) (suc (suc budget))
    ≡ left_to (begun_state x input words)
    (exec (calls ms (suc (suc budget))) (place ms None) (statements seed 2 size)
    (at_t x input (val 6) None (begun_heap words) (more no_items (mark 1))) budget)
unfolding runs left_to
begins x y input words seed size budget = refl

of_result : (x input : List ℕ) (size budget : ℕ) (s : State) (r : Res Out)
    (q : Res (Ans PlainValue)) → q ≡ left_to s r → 151 * size + 33 ≤ 7 * suc (suc budget)
    → Finished x input 6 budget (151 * size + 7) r
    → EndsWell size (run_of (suc (suc budget)) q)
unfolding runs left_to
of_result x input size budget s r q so enough d =
    let is = so ∙ ap (left_to s) d.is in
    let e : (run_of (suc (suc budget)) q).steps ≡ suc (suc budget) - d.left =
    ap (λ q. (run_of (suc (suc budget)) q).steps) is in
    record {
      outcome = ap (λ q. (run_of (suc (suc budget)) q).outcome) is;
      steps = omega (arith, e, d.paid);
    }

pub made_finish : MadeFinish
unfolding runs
made_finish x y words input seed size zero low enough = absurd (omega (arith, enough))
made_finish x y words input seed size (suc zero) low enough = absurd (omega (arith, enough))
made_finish x y words input seed size (suc (suc budget)) low enough =
    let ms = module_alone x y seed size in
    of_result x input size budget (begun_state x input words) _ _
    (begins x y input words seed size budget) (omega (arith, enough))
    (all_end (calls ms (suc (suc budget))) ms None x input size seed 2 6 None (begun_heap words)
    (more no_items (mark 1)) budget (omega (arith, low)) (omega (arith, enough)))

pub made_finish_by_default : MadeFinishByDefault
made_finish_by_default name path words input seed size low =
    let d = made_finish name path words input seed size 1000000 low (omega (arith, low)) in
    record { outcome = d.outcome; steps = omega (arith, d.steps, low) }
