-- Names that are a unit's own, and other ones.
use Rattle.std.proofs.Common.{◌≡◌, ℕ, Bool, true, false, List, refl, sym, ap, ◌∙◌}
use Rattle.std.specs.Prelude.{if◌then◌else◌}
use Rattle.py_text.specs.Comparison.{is_same_text}
use Rattle.py_syntax.specs.Names.{is_among}
use Rattle.py_syntax.specs.Tree.{Text}
use Rattle.py_code.specs.declared.instr.Instr.{Instr}
use Rattle.py_code.specs.declared.instr.Instr.TheVariants.{LoadLocal, StoreLocal, UnsetLocal, LoadGlobal, StoreGlobal, UnsetGlobal, Take}
use Rattle.py_compile_expr.specs.Cells.{Op, load, store, unset, takes, Tables, place_in, name_at, add_new, instr_of, with_global_name, with_name, tables_with}
use Rattle.py_compile_expr.specs.CellView.{plain_op}
use Rattle.py_compile_expr.specs.declared.cells.Op.{Op as OpNode}
use Rattle.py_compile_unit.specs.Lists.{variable_of}
use Rattle.py_compile_unit.specs.declared.numbering.Variable.{Variable}
use Rattle.py_compile_unit.specs.declared.numbering.Variable.TheVariants.{Local, Global}
use Rattle.py_compile_unit.proofs.Numbers.{first_stays}
use Rattle.py_compile_unit.proofs.OwnNames.{no_more}

-- a name that is the unit's own
pub own_lists : (t : Tables) (o : List Text) (x : Text) → is_among t.own x ≡ true → o ≡ add_new is_same_text t.own x → record t { own = o } ≡ with_global_name t x
own_lists t o x e f = ap (λ l. record t { own = l }) (f ∙ no_more t.own x e) ∙ ap (λ b. if b then t else with_name t x) (sym e)

pub own_variable : (t : Tables) (n : ℕ) (x : Text) (o : List Text) → is_among t.own x ≡ true → o ≡ add_new is_same_text t.own x → n ≡ place_in is_same_text o x
    → Local n ≡ variable_of (with_global_name t x) x
own_variable t n x o e f h =
    ap Local (h ∙ ap (λ k. place_in is_same_text k x) (f ∙ no_more t.own x e))
    ∙ ap (λ b. if b then Local (place_in is_same_text t.own x) else Global (name_at t x)) (sym e)
    ∙ ap (λ (v : Tables). variable_of v x) (ap (λ b. if b then t else with_name t x) (sym e))

-- another name
pub other_lists : (t : Tables) (ns : List Text) (x : Text) → is_among t.own x ≡ false → ns ≡ add_new is_same_text t.names x → record t { names = ns } ≡ with_global_name t x
other_lists t ns x e f = ap (λ l. record t { names = l }) f ∙ ap (λ b. if b then t else with_name t x) (sym e)

pub other_variable : (t : Tables) (n : ℕ) (x : Text) (ns : List Text) → is_among t.own x ≡ false → ns ≡ add_new is_same_text t.names x → n ≡ place_in is_same_text ns x
    → Global n ≡ variable_of (with_global_name t x) x
other_variable t n x ns e f h =
    ap Global (h ∙ ap (λ k. place_in is_same_text k x) f)
    ∙ ap (λ b. if b then Local (place_in is_same_text t.own x) else Global (name_at (with_name t x) x)) (sym e)
    ∙ ap (λ (v : Tables). variable_of v x) (ap (λ b. if b then t else with_name t x) (sym e))

-- two names, one after the other
pub takes_instr : (t : Tables) (m x : Text) (a b : ℕ) (ms xs : List Text) → ms ≡ add_new is_same_text t.names m → xs ≡ add_new is_same_text ms x
    → a ≡ place_in is_same_text ms m → b ≡ place_in is_same_text xs x → Take a b ≡ instr_of (tables_with t (takes m x)) (takes m x)
takes_instr t m x a b ms xs e f g h =
    ap (λ n. Take n b) (g ∙ ap (λ l. place_in is_same_text l m) e ∙ first_stays t m x)
    ∙ ap (Take (place_in is_same_text (with_name (with_name t m) x).names m)) (h ∙ ap (λ l. place_in is_same_text l x) (f ∙ ap (λ l. add_new is_same_text l x) e))

-- the lists and the instruction, by a node of which the form is known
pub lists_as : (t v : Tables) (node form : OpNode) → node ≡ form → v ≡ tables_with t (plain_op form) → v ≡ tables_with t (plain_op node)
lists_as t v node form is h = h ∙ ap (λ o. tables_with t (plain_op o)) (sym is)

pub instr_as : (t : Tables) (i : Instr) (node form : OpNode) → node ≡ form → i ≡ instr_of (tables_with t (plain_op form)) (plain_op form) → i ≡ instr_of (tables_with t (plain_op node)) (plain_op node)
instr_as t i node form is h = h ∙ ap (λ o. instr_of (tables_with t (plain_op o)) (plain_op o)) (sym is)

-- ---- instructions by where the value of a name is kept

abbrev pub by_place : (local global : ℕ → Instr) → Variable → Instr
by_place l g (Local n) = l n
by_place l g (Global n) = g n

either : (l g : ℕ → Instr) (b : Bool) (m n : ℕ) → by_place l g (if b then Local m else Global n) ≡ (if b then l m else g n)
either l g true m n = refl
either l g false m n = refl

-- the instruction that loads, stores or unsets a name, by the variable that it names
pub loads : (t : Tables) (x : Text) (v w : Variable) (op : Op) → v ≡ w → v ≡ variable_of (with_global_name t x) x → op ≡ load x → by_place LoadLocal LoadGlobal w ≡ instr_of (tables_with t op) op
loads t x v w op is e o =
    let u = with_global_name t x in
    ap (by_place LoadLocal LoadGlobal) (sym is ∙ e) ∙ either LoadLocal LoadGlobal (is_among u.own x) (place_in is_same_text u.own x) (name_at u x)
    ∙ ap (λ k. instr_of (tables_with t k) k) (sym o)

pub stores : (t : Tables) (x : Text) (v w : Variable) (op : Op) → v ≡ w → v ≡ variable_of (with_global_name t x) x → op ≡ store x → by_place StoreLocal StoreGlobal w ≡ instr_of (tables_with t op) op
stores t x v w op is e o =
    let u = with_global_name t x in
    ap (by_place StoreLocal StoreGlobal) (sym is ∙ e) ∙ either StoreLocal StoreGlobal (is_among u.own x) (place_in is_same_text u.own x) (name_at u x)
    ∙ ap (λ k. instr_of (tables_with t k) k) (sym o)

pub unsets : (t : Tables) (x : Text) (v w : Variable) (op : Op) → v ≡ w → v ≡ variable_of (with_global_name t x) x → op ≡ unset x → by_place UnsetLocal UnsetGlobal w ≡ instr_of (tables_with t op) op
unsets t x v w op is e o =
    let u = with_global_name t x in
    ap (by_place UnsetLocal UnsetGlobal) (sym is ∙ e) ∙ either UnsetLocal UnsetGlobal (is_among u.own x) (place_in is_same_text u.own x) (name_at u x)
    ∙ ap (λ k. instr_of (tables_with t k) k) (sym o)
