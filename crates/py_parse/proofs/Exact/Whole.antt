-- The machine of statements is exact over lists of tokens with lines, under either limit and without.
use Rattle.std.proofs.Common.{◌≡◌, ℕ, ◌+◌, ◌≤◌, max, List, [], ◌∷◌, Option, Some, None, refl, sym, ap, subst, ◌∙◌, arith}
use Rattle.py_syntax.specs.Tree.{Stmts}
use Rattle.py_syntax.specs.Headers.{Marked}
use Rattle.py_syntax.specs.Statements.{EndLines, NormalStmts, stmts_height, stmts_nesting}
use Rattle.py_syntax.specs.Spelling.{module_tokens}
use Rattle.py_grammar.proofs.Exact as exact
use Rattle.py_statements.specs.Machine.{State, Line, at, After, Choosing, Over, begun, done}
use Rattle.py_parse.specs.Least.{finished, least_nesting}
use Rattle.py_parse.specs.Places.{run, relined}
use Rattle.py_parse.proofs.Sound.Before.{before}
use Rattle.py_parse.proofs.Sound.Valid.{Valid}
use Rattle.py_parse.proofs.Sound.EachStep.{step_reads}
use Rattle.py_parse.proofs.Sound.Keeps.{step_keeps, valid_begun}
use Rattle.py_parse.proofs.Least.GrowthSteps.{grows}
use Rattle.py_parse.proofs.Least.Finish.{finish, last_line}
use Rattle.py_parse.proofs.Least.Finishes.{state_ends}
use Rattle.py_parse.proofs.Exact.WholeLists.{Lexeme, next, reading, marks, source, agrees, reading_run, lined, lined_reads}
use Rattle.py_parse.proofs.Complete as complete_

-- The list is that of this tree, with its lines.
abbrev pub Spelled : Stmts → List Lexeme → Type 0
Spelled m ts = EndLines m × NormalStmts m × (module_tokens m ≡ marks ts) × (relined (source ts) m 0 ≡ m)

-- at most 200 exactly where the tree is within both limits
abbrev pub size : Stmts → ℕ
size m = max (stmts_height m) (stmts_nesting m + 136)

abbrev pub least_size : State → ℕ
least_size s = size (finished s)

-- ---- what the machine reads

valid_next : (s : State) (t : Lexeme) (n : State) → Valid s → next s t ≡ Some n → Valid n
valid_next s t n h is = step_keeps s n t.mark t.first t.last h is

-- Over a whole list, what was read stays before the state, which stays valid.
reads : (s last : State) (ts : List Lexeme) → Valid s → reading s ts ≡ Some last → Valid last × (before last [] ≡ before s (marks ts))
reads s last [] valid h = let same : s ≡ last = cc in (subst Valid same valid, ap (λ (x : State). before x []) (sym same))
reads s last (t ∷ ts) valid h = go (λ n. reads n last ts) (next s t) refl h
  where
    go : ((n : State) → Valid n → reading n ts ≡ Some last → Valid last × (before last [] ≡ before n (marks ts))) → (o : Option State) → next s t ≡ o → (elim o as (λ (w : Option State). Option State) [ None ↦ None | Some n ↦ reading n ts ]) ≡ Some last → Valid last × (before last [] ≡ before s (t.mark ∷ marks ts))
    go rec None is h = absurd cc
    go rec (Some n) is h = let r = rec n (valid_next s t n valid is) h in (r.0, r.1 ∙ step_reads s n t.mark t.first t.last (marks ts) valid is)

done_over : (s : State) (m : Stmts) → done s ≡ Some m → s ≡ Over m
done_over (Line b) m h = absurd cc
done_over (at p n b) m h = absurd cc
done_over (After k first last b) m h = absurd cc
done_over (Choosing e last cs first b) m h = absurd cc
done_over (Over ss) m h = let same : ss ≡ m = cc in ap Over same

-- A normal tree is read from its tokens, with the lines of the list.
pub read_relined : (m : Stmts) (ts : List Lexeme) → EndLines m → NormalStmts m → module_tokens m ≡ marks ts → reading begun ts ≡ Some (Over (relined (source ts) m 0))
read_relined m ts ends normal is = reading_run (source ts) begun ts 0 (agrees ts) ∙ ap (λ (x : List Marked). run (source ts) begun x 0) (sym is) ∙ complete_.complete (source ts) m ends normal

complete : (m : Stmts) (ts : List Lexeme) → Spelled m ts → (s : State) × (reading begun ts ≡ Some s) × (done s ≡ Some m)
complete m ts h = (Over m, read_relined m ts h.0 h.1 h.2 ∙ ap (λ (x : Stmts). Some (Over x)) h.3, refl)

pub sound_over : (ts : List Lexeme) (m : Stmts) → reading begun ts ≡ Some (Over m) → Spelled m ts
sound_over ts m h =
    let r = reads begun (Over m) ts valid_begun h in
    let both : Some (Over (relined (source ts) m 0)) ≡ Some (Over m) = sym (read_relined m ts r.0.0 r.0.1 r.1) ∙ h in
    (r.0.0, r.0.1, r.1, over both)
  where
    over : Some (Over (relined (source ts) m 0)) ≡ Some (Over m) → relined (source ts) m 0 ≡ m
    over both = cc

sound : (ts : List Lexeme) (s : State) (m : Stmts) → reading begun ts ≡ Some s → done s ≡ Some m → Spelled m ts
sound ts s m h d = sound_over ts m (h ∙ ap (λ (x : State). Some x) (done_over s m d))

-- ---- for any measure of trees that no step makes less

module _ (measure : Stmts → ℕ) (rises : (s : State) (t : Lexeme) (n : State) → next s t ≡ Some n → measure (finished s) ≤ measure (finished n)) where
  abbrev lowest : State → ℕ
  lowest s = measure (finished s)

  done_lowest : (s : State) (m : Stmts) → done s ≡ Some m → lowest s ≡ measure m
  done_lowest s m h = ap lowest (done_over s m h)

  completes : (s : State) → Valid s → (more : List Lexeme) × (last : State) × (m : Stmts) × (reading s more ≡ Some last) × (done last ≡ Some m) × (measure m ≡ lowest s)
  completes s valid = (lined (last_line s) (finish s), Over (finished s), finished s, lined_reads (last_line s) s (finish s) ∙ state_ends s valid, refl, refl)

  viable_from : (limit : ℕ) (front : List Lexeme) (s : State) → reading begun front ≡ Some s → lowest s ≤ limit → exact.Viable Spelled measure limit front
  viable_from = exact.viable_from Spelled measure begun next done lowest Valid valid_begun valid_next rises done_lowest complete sound completes

  viable_to : (limit : ℕ) (front : List Lexeme) → exact.Viable Spelled measure limit front → (s : State) × (reading begun front ≡ Some s) × (lowest s ≤ limit)
  viable_to = exact.viable_to Spelled measure begun next done lowest Valid valid_begun valid_next rises done_lowest complete sound completes

-- ---- both limits, and suites alone

size_rises : (s : State) (t : Lexeme) (n : State) → next s t ≡ Some n → least_size s ≤ least_size n
size_rises s t n h = let g = grows s n t.mark t.first t.last h in let g0 = g.0 in let g1 = g.1 in omega arith

nesting_rises : (s : State) (t : Lexeme) (n : State) → next s t ≡ Some n → least_nesting s ≤ least_nesting n
nesting_rises s t n h = (grows s n t.mark t.first t.last h).1

pub within_from : (limit : ℕ) (front : List Lexeme) (s : State) → reading begun front ≡ Some s → least_size s ≤ limit → exact.Viable Spelled size limit front
within_from = viable_from size size_rises

pub within_to : (limit : ℕ) (front : List Lexeme) → exact.Viable Spelled size limit front → (s : State) × (reading begun front ≡ Some s) × (least_size s ≤ limit)
within_to = viable_to size size_rises

pub nests_from : (limit : ℕ) (front : List Lexeme) (s : State) → reading begun front ≡ Some s → least_nesting s ≤ limit → exact.Viable Spelled stmts_nesting limit front
nests_from = viable_from stmts_nesting nesting_rises

pub nests_to : (limit : ℕ) (front : List Lexeme) → exact.Viable Spelled stmts_nesting limit front → (s : State) × (reading begun front ≡ Some s) × (least_nesting s ≤ limit)
nests_to = viable_to stmts_nesting nesting_rises

-- ---- without limits

pub begins_from : (front : List Lexeme) (s : State) → reading begun front ≡ Some s → exact.Begins Spelled front
begins_from = exact.begins_from Spelled size begun next done least_size Valid valid_begun valid_next size_rises (done_lowest size size_rises) complete sound (completes size size_rises)

pub begins_to : (front : List Lexeme) → exact.Begins Spelled front → (s : State) × (reading begun front ≡ Some s)
begins_to = exact.begins_to Spelled size begun next done least_size Valid valid_begun valid_next size_rises (done_lowest size size_rises) complete sound (completes size size_rises)

pub one_tree : (m n : Stmts) (ts : List Lexeme) → Spelled m ts → Spelled n ts → m ≡ n
one_tree = exact.one_tree Spelled size begun next done least_size Valid valid_begun valid_next size_rises (done_lowest size size_rises) complete sound (completes size size_rises)
