-- Pieces of code without a `def`: whatever stands round them, they lead to places of their own, to
-- their end, and to where others are told to stand. So much their numbers of operands say.
--     FreeAfter, earlier    what a piece needs of its end and its handler
--     leaf                  a piece that is told how many operands stand elsewhere
--     even                  one for which as many operands stand wherever no function is made
use Rattle.std.proofs.Common.{◌≡◌, ℕ, suc, ◌+◌, ◌<◌, ◌≤◌, Bool, true, false, List, [], ◌∷◌, length, map, Option, Some, None, refl, sym, ap, ◌∙◌, arith}
use Rattle.std.specs.Prelude.{nat_eq, slice_get, if◌then◌else◌}
use Rattle.std.proofs.lemmas.Bool.Decides.{nat_tests}
use Rattle.std.proofs.lemmas.List.{length-map}
use Rattle.py_code.specs.Footprints.{Exit}
use Rattle.py_code.specs.Units.{Code}
use Rattle.py_compile_expr.specs.Cells.{Guard, Cell}
use Rattle.py_compile_expr.specs.Stands.{HasAt}
use Rattle.py_code_laws.proofs.Blocks.{Layout, print, marks_line, GoAll, LiesAhead, Fits, AllFit, Stands, MarksLines, Block}
use Rattle.py_code_laws.proofs.Pieces.{Handles, Run, At}
use Rattle.py_world_laws.specs.Making.{made_with, LeadElsewhere}
use Rattle.py_making_laws.proofs.Places.{Free, GuardFree, Makes, AllMake, Made, op_free, op_at, free_at}

-- ---- numbers

pub same_number : (a b : ℕ) → nat_eq a b ≡ true → b ≡ a
same_number a b h = grind (arith, nat_tests)

pub own_number : (a : ℕ) → nat_eq a a ≡ true
own_number a = by_case (nat_eq a a) refl
  where
    by_case : (b : Bool) → nat_eq a a ≡ b → b ≡ true
    by_case true h = refl
    by_case false h = absurd (grind (arith, nat_tests))

pub other_number : (a b : ℕ) → (b ≡ a → ⊥) → nat_eq a b ≡ false
other_number a b ne = by_case (nat_eq a b) refl
  where
    by_case : (c : Bool) → nat_eq a b ≡ c → c ≡ false
    by_case true h = absurd (ne (same_number a b h))
    by_case false h = refl

-- ---- a list from a place on

-- what stands in the list at a place, or else what is said of the place
abbrev pick : {A : Type 0} → (ℕ → A) → ℕ → List A → ℕ → A
pick rest p [] r = rest r
pick rest p (x ∷ xs) r = if nat_eq r p then x else pick rest (p + 1) xs r

pick_here : {A : Type 0} (rest : ℕ → A) (p : ℕ) (x : A) (xs : List A) → pick rest p (x ∷ xs) p ≡ x
pick_here rest p x xs = ap (λ b. if b then x else pick rest (p + 1) xs p) (own_number p)

pick_beyond : {A : Type 0} (rest : ℕ → A) (p : ℕ) (x : A) (xs : List A) (r : ℕ) → p < r → pick rest p (x ∷ xs) r ≡ pick rest (p + 1) xs r
pick_beyond rest p x xs r lt = ap (λ b. if b then x else pick rest (p + 1) xs r) (other_number r p (λ e. absurd (omega (arith, lt, e))))

pick_after : {A : Type 0} (rest : ℕ → A) (p : ℕ) (xs : List A) (r : ℕ) → p + length xs ≤ r → pick rest p xs r ≡ rest r
pick_after rest p [] r le = refl
pick_after rest p (x ∷ xs) r le = pick_beyond rest p x xs r (omega (arith, le)) ∙ pick_after rest (p + 1) xs r (omega (arith, le))

-- ---- the layout of a piece

abbrev some_depth : ℕ → Option ℕ
some_depth d = Some d

abbrev cell_marks : Cell → Bool
cell_marks c = marks_line c.op

abbrev no_mark : ℕ → Bool
no_mark r = false

abbrev lay : (ℕ → Option ℕ) → ℕ → List Cell → List ℕ → Layout
lay rest p cs ds = record { depth = pick rest p (map some_depth ds); marked = pick no_mark p (map cell_marks cs) }

stand : (l : Layout) (rest : ℕ → Option ℕ) (q : ℕ) (ds : List ℕ) → ((r : ℕ) → q ≤ r → l.depth r ≡ pick rest q (map some_depth ds) r) → Stands l q ds
stand l rest q [] h = tt
stand l rest q (d ∷ ds) h = (
  h q (omega arith) ∙ pick_here rest q (Some d) (map some_depth ds),
  stand l rest (q + 1) ds (λ r le. h r (omega (arith, le)) ∙ pick_beyond rest q (Some d) (map some_depth ds) r (omega (arith, le))),
)

mark : (l : Layout) (q : ℕ) (cs : List Cell) → ((r : ℕ) → q ≤ r → l.marked r ≡ pick no_mark q (map cell_marks cs) r) → MarksLines l q cs
mark l q [] h = tt
mark l q (c ∷ cs) h = (
  h q (omega arith) ∙ pick_here no_mark q (marks_line c.op) (map cell_marks cs),
  mark l (q + 1) cs (λ r le. h r (omega (arith, le)) ∙ pick_beyond no_mark q (marks_line c.op) (map cell_marks cs) r (omega (arith, le))),
)

-- where nothing is made at a place that isn't one of the piece, nothing is made where operands stand
opened : (u : Code) (rest : ℕ → Option ℕ) → ((r d : ℕ) → rest r ≡ Some d → Free u r) → (l : Layout) (cs : List Cell) (ds : List ℕ) (p : ℕ) → length ds ≡ length cs → AllFit l 0 p cs ds → HasAt u p cs
    → (r d : ℕ) → pick rest p (map some_depth ds) r ≡ Some d → Free u r
opened u rest opens l [] [] p long all has r d is = opens r d is
opened u rest opens l [] (x ∷ ds) p long all has r d is = absurd (omega (arith, long))
opened u rest opens l (c ∷ cs) [] p long all has r d is = absurd all
opened u rest opens l (c ∷ cs) (x ∷ ds) p long all has r d is = by_case (nat_eq r p) refl (opened u rest opens l cs ds (p + 1) (omega (arith, long)) all.1 has.1 r d) is
  where
    by_case : (b : Bool) → nat_eq r p ≡ b → (pick rest (p + 1) (map some_depth ds) r ≡ Some d → Free u r) → (if b then Some x else pick rest (p + 1) (map some_depth ds) r) ≡ Some d → Free u r
    by_case true h next k = free_at u p r (same_number r p h) (op_free u p c all.0.named has.0)
    by_case false h next k = next k

-- ---- cells that fit a layout where nothing is made

module _ (us : List Code) (u : Code) (l : Layout) (opens : (r d : ℕ) → l.depth r ≡ Some d → Free u r) where
  lead_free : (p rest : ℕ) (es : List Exit) → GoAll l p rest es → LeadElsewhere u es
  lead_free p rest [] h = tt
  lead_free p rest (e ∷ es) h = (opens e.to (e.leaves + rest) h.0.stands, lead_free p rest es h.1)

  guard_free : (p : ℕ) (g : Option Guard) → LiesAhead l p g → GuardFree u g
  guard_free p None h = tt
  guard_free p (Some g) h = opens g.target (suc g.depth) h.0

  cell_makes : (p d : ℕ) (c : Cell) → Fits l 0 p d c → Makes us u p c
  cell_makes p d c f = record { at = op_at us u p c.op f.named (lead_free p f.rest (print p c.op).exits f.leads); handler = guard_free p c.guard f.handler }

  cells_make : (p : ℕ) (cs : List Cell) (ds : List ℕ) → AllFit l 0 p cs ds → AllMake us u p cs
  cells_make p [] ds h = tt
  cells_make p (c ∷ cs) [] h = absurd h
  cells_make p (c ∷ cs) (d ∷ ds) h = (cell_makes p d c h.0, cells_make (p + 1) cs ds h.1)

-- ---- pieces

-- so many operands stand where the handler begins, which is no earlier than the end of the piece
abbrev pub LandsBy : (ℕ → Option ℕ) → Option Guard → (q m : ℕ) → Type 0
LandsBy rest None q m = Unit {0}
LandsBy rest (Some g) q m = (g.depth ≤ m) × (rest g.target ≡ Some (suc g.depth)) × (q ≤ g.target)

handles_by : (rest : ℕ → Option ℕ) (l : Layout) (g : Option Guard) (q m : ℕ) → ((r : ℕ) → q ≤ r → l.depth r ≡ rest r) → LandsBy rest g q m → Handles g q m l
handles_by rest l None q m out h = tt
handles_by rest l (Some g) q m out h = (h.0, out g.target h.2 ∙ h.1, h.2)

pub leaf : (us : List Code) (u : Code) {z y : Layout → Type 0} {g : Option Guard} {m p d q f n : ℕ} {cs : List Cell} → Block 0 (Run g m q f z) (At p d y) p n cs → p + n ≡ q
    → (rest : ℕ → Option ℕ) → ((r k : ℕ) → rest r ≡ Some k → Free u r) → rest q ≡ Some f → LandsBy rest g q m → ((l : Layout) → ((r : ℕ) → q ≤ r → l.depth r ≡ rest r) → z l) → HasAt u p cs → Made us u p cs
leaf us u {z} {y} {g} {m} {p} {d} {q} {f} {n} {cs} b at rest opens ends lands also has =
    let ds = b.depths in
    let l = lay rest p cs ds in
    let size : length (map some_depth ds) ≡ length ds = length-map ds some_depth in
    let long : length ds ≡ n = b.long in
    let out : (r : ℕ) → q ≤ r → l.depth r ≡ rest r = λ r le. pick_after rest p (map some_depth ds) r (omega (arith, le, size, long, at)) in
    let s : Stands l p ds = stand l rest p ds (λ r le. refl) in
    let k : MarksLines l p cs = mark l p cs (λ r le. refl) in
    let needs : Run g m q f z l = record { ends = out q (omega arith) ∙ ends; handles = handles_by rest l g q m out lands; also = also l out } in
    let all : AllFit l 0 p cs ds = b.fits l s k needs in
    let open_at : (r j : ℕ) → l.depth r ≡ Some j → Free u r = opened u rest opens l cs ds p (b.long ∙ sym b.size) all has in
    record { free = open_at p d (b.gives l s k needs).0; all = cells_make us u l open_at p cs ds all }

-- ---- pieces at whose end as many operands stand as where their handler begins

-- how many operands the handler keeps
abbrev pub below : Option Guard → ℕ
below None = 0
below (Some g) = g.depth

abbrev pub Past : ℕ → Option Guard → Type 0
Past q None = Unit {0}
Past q (Some g) = q ≤ g.target

-- no function is made at the end of a piece, nor where its handler begins, there or further on
pub record FreeAfter (u : Code) (g : Option Guard) (q : ℕ) : Type 0 where
  pub ends : Free u q
  pub guard : GuardFree u g
  pub past : Past q g

past_before : (g : Option Guard) (p q : ℕ) → p ≤ q → Past q g → Past p g
past_before None p q le h = tt
past_before (Some g) p q le h = omega (arith, le, h)

pub earlier : (u : Code) (g : Option Guard) (p q : ℕ) → p ≤ q → Free u p → FreeAfter u g q → FreeAfter u g p
earlier u g p q le free k = record { ends = free; guard = k.guard; past = past_before g p q le k.past }

-- so many operands, unless a function is made
abbrev pub here_if : ℕ → Option ℕ → Option ℕ
here_if c None = Some c
here_if c (Some k) = None

pub not_made : (c d : ℕ) (o : Option ℕ) → here_if c o ≡ Some d → o ≡ None
not_made c d None h = refl
not_made c d (Some k) h = absurd cc

abbrev pub where_free : Code → ℕ → ℕ → Option ℕ
where_free u c r = here_if c (made_with (slice_get u.instrs r))

lands_free : (u : Code) (g : Option Guard) (q : ℕ) → GuardFree u g → Past q g → LandsBy (where_free u (suc (below g))) g q (below g)
lands_free u None q free past = tt
lands_free u (Some g) q free past = (omega arith, ap (here_if (suc g.depth)) free, past)

pub even : (us : List Code) (u : Code) {z y : Layout → Type 0} {g : Option Guard} {p d q n : ℕ} {cs : List Cell} → Block 0 (Run g (below g) q (suc (below g)) z) (At p d y) p n cs → p + n ≡ q
    → ((l : Layout) → ((r : ℕ) → q ≤ r → Free u r → l.depth r ≡ Some (suc (below g))) → z l) → FreeAfter u g q → HasAt u p cs → Made us u p cs
even us u {z} {y} {g} {p} {d} {q} {n} {cs} b at also k has =
    let c = suc (below g) in
    leaf us u b at (where_free u c) (λ r j is. not_made c j (made_with (slice_get u.instrs r)) is) (ap (here_if c) k.ends) (lands_free u g q k.guard k.past)
    (λ l out. also l (λ r le free. out r le ∙ ap (here_if c) free)) has
