-- The machine with the end of the list, and what its states say of all trees.
use Rattle.std.proofs.Common.{◌≡◌, ℕ, ◌≤◌, List, [], ◌∷◌, ◌++◌, Option, Some, None, refl, sym, ap, subst, ◌∙◌, arith}
use Rattle.py_syntax.specs.Tree.{Expr}
use Rattle.py_syntax.specs.Kinds.{Kind, End}
use Rattle.py_syntax.specs.Tokens.{tokens}
use Rattle.py_syntax.specs.Normal.{Normal, height}
use Rattle.py_grammar.specs.Machine.{any, Outside, State, Out, Next, Stuck, Left, step, start, class, Leaves, run}
use Rattle.py_grammar.specs.Least.{finished, least}
use Rattle.py_grammar.specs.Refusal.{Spells, IsViable, IsViableWithin, OneTree}
use Rattle.py_grammar.proofs.Sound.{before, Reads, step_reads}
use Rattle.py_grammar.proofs.Sound.Valid.{Sound, Keeps}
use Rattle.py_grammar.proofs.Sound.Keeps.{step_keeps}
use Rattle.py_grammar.proofs.Sound.Spelled.{outcome, class_spells, class_valid, start_any}
use Rattle.py_grammar.proofs.Complete.Enclosed.{read_all}
use Rattle.py_grammar.proofs.Complete.{back}
use Rattle.py_grammar.proofs.Least.Finish.{finish}
use Rattle.py_grammar.proofs.Least.Finishes.{finishes}
use Rattle.py_grammar.proofs.Least.LeastNeverFalls.{Grows, step_grows}
use Rattle.py_grammar.proofs.Exact as exact

-- a state inside the expression, or the whole expression with the end after it
pub data Whole : Type 0 where
  Inside : State → Whole
  Over : Expr → Whole

abbrev pub over_at : Expr → Kind → Option Whole
over_at e End = Some (Over e)
over_at e t = None

abbrev pub goes : Out → Kind → Option Whole
goes (Next s) t = Some (Inside s)
goes Stuck t = None
goes (Left e) t = over_at e t

abbrev pub next : Whole → Kind → Option Whole
next (Inside s) t = goes (step s (class t)) t
next (Over e) t = None

abbrev pub done : Whole → Option Expr
done (Inside s) = None
done (Over e) = Some e

abbrev pub lowest : Whole → ℕ
lowest (Inside s) = least s
lowest (Over e) = height e

abbrev pub ValidWhole : Whole → Type 0
ValidWhole (Inside s) = Sound any s
ValidWhole (Over e) = Normal e

abbrev pub begun : Whole
begun = Inside (start any)

abbrev pub reading : Whole → List Kind → Option Whole
reading = exact.run next

abbrev pub onward : Option Whole → List Kind → Option Whole
onward o ts = elim o as (λ (w : Option Whole). Option Whole) [ None ↦ None | Some n ↦ exact.run next n ts ]

valid_goes : (o : Out) (t : Kind) (n : Whole) → Keeps any o → goes o t ≡ Some n → ValidWhole n
valid_goes (Next s) t n keeps h = let same : Inside s ≡ n = cc in subst ValidWhole same keeps
valid_goes Stuck t n keeps h = absurd cc
valid_goes (Left e) End n keeps h = let same : Over e ≡ n = cc in subst ValidWhole same keeps.0
valid_goes (Left e) t n keeps h = absurd cc

pub valid_step : (s : Whole) (t : Kind) (n : Whole) → ValidWhole s → next s t ≡ Some n → ValidWhole n
valid_step (Inside s) t n valid h = valid_goes (step s (class t)) t n (step_keeps any s (class t) (class_valid t) valid) h
valid_step (Over e) t n valid h = absurd cc

grows_goes : (o : Out) (t : Kind) (n : Whole) (h : ℕ) → Grows h o → goes o t ≡ Some n → h ≤ lowest n
grows_goes (Next s) t n h grows is = let same : Inside s ≡ n = cc in subst (λ (x : Whole). h ≤ lowest x) same grows
grows_goes Stuck t n h grows is = absurd cc
grows_goes (Left e) End n h grows is = let same : Over e ≡ n = cc in subst (λ (x : Whole). h ≤ lowest x) same grows
grows_goes (Left e) t n h grows is = absurd cc

pub grows : (s : Whole) (t : Kind) (n : Whole) → next s t ≡ Some n → lowest s ≤ lowest n
grows (Inside s) t n h = grows_goes (step s (class t)) t n (least s) (step_grows s (class t)) h
grows (Over e) t n h = absurd cc

pub done_lowest : (s : Whole) (e : Expr) → done s ≡ Some e → lowest s ≡ height e
done_lowest (Inside s) e h = absurd cc
done_lowest (Over f) e h = let same : f ≡ e = cc in ap height same

-- what the machine for expressions reads, this one reads
pub leaves_over : (s : State) (ts : List Kind) (e : Expr) → run s ts ≡ Leaves e (End ∷ []) → reading (Inside s) ts ≡ Some (Over e)
leaves_over s [] e h = absurd cc
leaves_over s (t ∷ ts) e h = go (λ n. leaves_over n ts e) (step s (class t)) h
  where
    left_over : (f : Expr) (t : Kind) (ts : List Kind) → f ≡ e → t ≡ End → ts ≡ [] → onward (over_at f t) ts ≡ Some (Over e)
    left_over f t ts fe te tse = ap (λ (x : Kind). onward (over_at f x) ts) te ∙ ap (λ (x : List Kind). exact.run next (Over f) x) tse ∙ ap (λ (x : Expr). Some (Over x)) fe

    go : ((n : State) → run n ts ≡ Leaves e (End ∷ []) → reading (Inside n) ts ≡ Some (Over e)) → (o : Out) → outcome o t ts ≡ Leaves e (End ∷ []) → onward (goes o t) ts ≡ Some (Over e)
    go rec (Next n) h = rec n h
    go rec Stuck h = absurd cc
    go rec (Left f) h = let one_is : f ≡ e = cc in let two : t ≡ End = cc in let three : ts ≡ [] = cc in left_over f t ts one_is two three

-- the whole of a normal tree is read
pub reads_whole : (e : Expr) → Normal e → run (start any) (tokens e (End ∷ [])) ≡ Leaves e (End ∷ [])
reads_whole e n = read_all e (back e n) (Outside any) (End ∷ []) (omega arith, refl)

pub complete : (e : Expr) (ts : List Kind) → Spells e ts → (s : Whole) × (reading begun ts ≡ Some s) × (done s ≡ Some e)
complete e ts h = (Over e, ap (reading begun) h.1 ∙ leaves_over (start any) (tokens e (End ∷ [])) e (reads_whole e h.0), refl)

over_ends : (e : Expr) (ts : List Kind) (last : Whole) (m : Expr) → reading (Over e) ts ≡ Some last → done last ≡ Some m → (ts ≡ []) × (e ≡ m)
over_ends e [] last m h d = let same : Over e ≡ last = cc in let all = ap done same ∙ d in (refl, cc)
over_ends e (t ∷ ts) last m h d = absurd cc

pub sound_from : (s : State) (ts : List Kind) (last : Whole) (m : Expr) → Sound any s → reading (Inside s) ts ≡ Some last → done last ≡ Some m → Normal m × (before s ts ≡ tokens m (End ∷ []))
sound_from s [] last m valid h d = let same : Inside s ≡ last = cc in let all = ap done same ∙ d in absurd cc
sound_from s (t ∷ ts) last m valid h d = go (λ n. sound_from n ts last m) (step s (class t)) (step_keeps any s (class t) (class_valid t) valid) (step_reads s (class t)) h
  where
    over : (f : Expr) (t : Kind) → Normal f → ((r : List Kind) → tokens f r ≡ before s r) → onward (over_at f t) ts ≡ Some last → Normal m × (before s (t ∷ ts) ≡ tokens m (End ∷ []))
    over f End keeps reads h =
        let o = over_ends f ts last m h d in
        (subst Normal o.1 keeps, sym (reads (End ∷ ts)) ∙ ap (λ (x : List Kind). tokens f (End ∷ x)) o.0 ∙ ap (λ (x : Expr). tokens x (End ∷ [])) o.1)
    over f t keeps reads h = absurd cc

    go : ((n : State) → Sound any n → reading (Inside n) ts ≡ Some last → done last ≡ Some m → Normal m × (before n ts ≡ tokens m (End ∷ []))) → (o : Out) → Keeps any o → Reads (class t) (before s) o → onward (goes o t) ts ≡ Some last → Normal m × (before s (t ∷ ts) ≡ tokens m (End ∷ []))
    go rec (Next n) keeps reads h = let r = rec n keeps h d in (r.0, ap (before s) (sym (class_spells t ts)) ∙ sym (reads ts) ∙ r.1)
    go rec Stuck keeps reads h = absurd cc
    go rec (Left f) keeps reads h = over f t keeps.0 reads h

pub sound : (ts : List Kind) (s : Whole) (m : Expr) → reading begun ts ≡ Some s → done s ≡ Some m → Spells m ts
sound ts s m h d = sound_from (start any) ts s m start_any h d

pub completes : (s : Whole) → ValidWhole s → (more : List Kind) × (last : Whole) × (m : Expr) × (reading s more ≡ Some last) × (done last ≡ Some m) × (height m ≡ lowest s)
completes (Inside s) valid = (finish s (End ∷ []), Over (finished s), finished s, leaves_over s (finish s (End ∷ [])) (finished s) (finishes any s End [] valid (omega arith, refl, refl)), refl, refl)
completes (Over e) valid = ([], Over e, e, refl, refl, refl)

-- ---- viable prefixes

pub viable_within : (limit : ℕ) (front : List Kind) (s : Whole) → reading begun front ≡ Some s → lowest s ≤ limit → IsViableWithin limit front
viable_within = exact.viable_from Spells height begun next done lowest ValidWhole start_any valid_step grows done_lowest complete sound completes

pub within_viable : (limit : ℕ) (front : List Kind) → IsViableWithin limit front → (s : Whole) × (reading begun front ≡ Some s) × (lowest s ≤ limit)
within_viable = exact.viable_to Spells height begun next done lowest ValidWhole start_any valid_step grows done_lowest complete sound completes

pub viable_from : (front : List Kind) (s : Whole) → reading begun front ≡ Some s → IsViable front
viable_from = exact.begins_from Spells height begun next done lowest ValidWhole start_any valid_step grows done_lowest complete sound completes

pub viable_to : (front : List Kind) → IsViable front → (s : Whole) × (reading begun front ≡ Some s)
viable_to = exact.begins_to Spells height begun next done lowest ValidWhole start_any valid_step grows done_lowest complete sound completes

pub one_tree : OneTree
one_tree = exact.one_tree Spells height begun next done lowest ValidWhole start_any valid_step grows done_lowest complete sound completes

pub run_append : (s : Whole) (front back : List Kind) → reading s (front ++ back) ≡ onward (reading s front) back
run_append = exact.run_append Spells height begun next done lowest ValidWhole start_any valid_step grows done_lowest complete sound completes
