-- A reader that takes one token at a time is exact, whatever its states are.
use Rattle.std.proofs.Common.{◌≡◌, ℕ, ◌≤◌, List, [], ◌∷◌, ◌++◌, Option, Some, None, refl, sym, ap, subst, ◌∙◌, arith}
pub mod Whole
pub mod Stands
pub mod ExprTokens
pub mod ExprLeft
pub mod ExprStuck
pub mod ExprExact
pub mod ExprPlaces

abbrev pub run : {S Tok : Type 0} → (S → Tok → Option S) → S → List Tok → Option S
run step s [] = Some s
run step s (t ∷ ts) = elim (step s t) [ None ↦ None | Some next ↦ run step next ts ]

-- A prefix that begins a tree of at most that height.
abbrev pub Viable : {Tree Tok : Type 0} → (Tree → List Tok → Type 0) → (Tree → ℕ) → ℕ → List Tok → Type 0
Viable {Tree = Tree} {Tok = Tok} Spells height limit front = (m : Tree) × (more : List Tok) × Spells m (front ++ more) × (height m ≤ limit)

abbrev pub Begins : {Tree Tok : Type 0} → (Tree → List Tok → Type 0) → List Tok → Type 0
Begins {Tree = Tree} {Tok = Tok} Spells front = (m : Tree) × (more : List Tok) × Spells m (front ++ more)

module _ {S Tree Tok : Type 0} (Spells : Tree → List Tok → Type 0) (height : Tree → ℕ) (start : S) (step : S → Tok → Option S) (done : S → Option Tree) (least : S → ℕ) (Valid : S → Type 0)
    (valid_start : Valid start)
    (valid_step : (s : S) (t : Tok) (next : S) → Valid s → step s t ≡ Some next → Valid next)
    (grows : (s : S) (t : Tok) (next : S) → step s t ≡ Some next → least s ≤ least next)
    (done_least : (s : S) (m : Tree) → done s ≡ Some m → least s ≡ height m)
    (complete : (m : Tree) (ts : List Tok) → Spells m ts → (s : S) × (run step start ts ≡ Some s) × (done s ≡ Some m))
    (sound : (ts : List Tok) (s : S) (m : Tree) → run step start ts ≡ Some s → done s ≡ Some m → Spells m ts)
    (finish : (s : S) → Valid s → (more : List Tok) × (last : S) × (m : Tree) × (run step s more ≡ Some last) × (done last ≡ Some m) × (height m ≡ least s))
  where
    pub run_append : (s : S) (front back : List Tok) → run step s (front ++ back) ≡ elim (run step s front) as (λ (w : Option S). Option S) [ None ↦ None | Some next ↦ run step next back ]
    run_append s [] back = refl
    run_append s (t ∷ ts) back = go (λ next. run_append next ts back) (step s t)
      where
        go : ((next : S) → run step next (ts ++ back) ≡ elim (run step next ts) as (λ (w : Option S). Option S) [ None ↦ None | Some next ↦ run step next back ]) → (o : Option S) → (elim o as (λ (w : Option S). Option S) [ None ↦ None | Some next ↦ run step next (ts ++ back) ]) ≡ elim (elim o as (λ (w : Option S). Option S) [ None ↦ None | Some next ↦ run step next ts ]) as (λ (w : Option S). Option S) [ None ↦ None | Some next ↦ run step next back ]
        go rec None = refl
        go rec (Some next) = rec next

    -- what a whole reading passes, its beginning passes
    passes : (s last : S) (front back : List Tok) → run step s (front ++ back) ≡ Some last → (mid : S) × (run step s front ≡ Some mid) × (run step mid back ≡ Some last)
    passes s last front back h = go (run step s front) refl
      where
        go : (o : Option S) → run step s front ≡ o → (mid : S) × (run step s front ≡ Some mid) × (run step mid back ≡ Some last)
        go None is = let both = sym h ∙ run_append s front back ∙ ap (λ (o : Option S). elim o as (λ (w : Option S). Option S) [ None ↦ None | Some next ↦ run step next back ]) is in absurd cc
        go (Some mid) is = (mid, is, sym (ap (λ (o : Option S). elim o as (λ (w : Option S). Option S) [ None ↦ None | Some next ↦ run step next back ]) is) ∙ sym (run_append s front back) ∙ h)

    valid_run : (s : S) (ts : List Tok) (last : S) → Valid s → run step s ts ≡ Some last → Valid last
    valid_run s [] last valid h = let same : s ≡ last = cc in subst Valid same valid
    valid_run s (t ∷ ts) last valid h = go (λ next. valid_run next ts last) (step s t) refl h
      where
        go : ((next : S) → Valid next → run step next ts ≡ Some last → Valid last) → (o : Option S) → step s t ≡ o → (elim o as (λ (w : Option S). Option S) [ None ↦ None | Some next ↦ run step next ts ]) ≡ Some last → Valid last
        go rec None is h = absurd cc
        go rec (Some next) is h = rec next (valid_step s t next valid is) h

    least_run : (s : S) (ts : List Tok) (last : S) → run step s ts ≡ Some last → least s ≤ least last
    least_run s [] last h = let same : s ≡ last = cc in subst (λ (x : S). least s ≤ least x) same (omega arith)
    least_run s (t ∷ ts) last h = go (λ next. least_run next ts last) (step s t) refl h
      where
        go : ((next : S) → run step next ts ≡ Some last → least next ≤ least last) → (o : Option S) → step s t ≡ o → (elim o as (λ (w : Option S). Option S) [ None ↦ None | Some next ↦ run step next ts ]) ≡ Some last → least s ≤ least last
        go rec None is h = absurd cc
        go rec (Some next) is h = let one = grows s t next is in let two = rec next h in omega arith

    -- A prefix is viable under a limit exactly where the machine passes it at no greater least height.
    pub viable_from : (limit : ℕ) (front : List Tok) (s : S) → run step start front ≡ Some s → least s ≤ limit → Viable Spells height limit front
    viable_from limit front s h low =
        let f = finish s (valid_run start front s valid_start h) in
        let all : run step start (front ++ f.0) ≡ Some f.1 = run_append start front f.0 ∙ ap (λ (o : Option S). elim o as (λ (w : Option S). Option S) [ None ↦ None | Some next ↦ run step next f.0 ]) h ∙ f.3 in
        let is = f.5 in
        (f.2, f.0, sound (front ++ f.0) f.1 f.2 all f.4, omega arith)

    pub viable_to : (limit : ℕ) (front : List Tok) → Viable Spells height limit front → (s : S) × (run step start front ≡ Some s) × (least s ≤ limit)
    viable_to limit front v =
        let c = complete v.0 (front ++ v.1) v.2 in
        let p = passes start c.0 front v.1 c.1 in
        let grown = least_run p.0 v.1 c.0 p.2 in
        let is = done_least c.0 v.0 c.2 in
        let low = v.3 in
        (p.0, p.1, omega arith)

    pub begins_from : (front : List Tok) (s : S) → run step start front ≡ Some s → Begins Spells front
    begins_from front s h = let v = viable_from (least s) front s h (omega arith) in (v.0, v.1, v.2)

    pub begins_to : (front : List Tok) → Begins Spells front → (s : S) × (run step start front ≡ Some s)
    begins_to front b = let v = viable_to (height b.0) front (b.0, b.1, b.2, omega arith) in (v.0, v.1)

    -- Two trees of one list are one tree.
    pub one_tree : (m n : Tree) (ts : List Tok) → Spells m ts → Spells n ts → m ≡ n
    one_tree m n ts a b =
        let c = complete m ts a in
        let d = complete n ts b in
        let same : c.0 ≡ d.0 = let e = sym c.1 ∙ d.1 in cc in
        let e = sym c.2 ∙ ap done same ∙ d.2 in
        cc
