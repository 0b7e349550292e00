-- What `combine` may call, part by part, and what these calls leave of a vault.
use Rattle.std.proofs.Common.{◌≡◌, ◌≢◌, ◌⊎◌, inl, inr, ℕ, Bool, true, false, not, ◌&&◌, ◌||◌, cond, if◌then◌else◌, List, [], ◌∷◌, ◌++◌, map, filter, Option, Some, None, Result, Ok, Err, refl, sym, ap, subst, ◌∙◌}
use Rattle.std.specs.FinMap.{get, insert, remove, get-insert, get-remove}
use Rattle.std.specs.Str.{bytes_eq}
use Rattle.std.proofs.lemmas.Bool.{and_parts, false≢true}
use Rattle.std.proofs.lemmas.Map.Text.{is_eq-slice_cmp}
use Rattle.std.proofs.lemmas.Slice.Eq.{bytes_eq-Decides}
use Rattle.cov_outside.specs.declared.shelf.Shelf.{Ghosts as ShelfOf}
use Rattle.cov_outside.specs.declared.shelf.ShelfError.{ShelfError}
use Rattle.cov_outside.specs.declared.shelf.ShelfError.TheVariants as shelf_error
use Rattle.cov_combine.specs.Aliases.{alias_of, rules_from}
use Rattle.cov_combine.specs.Combined.{combined, has_both_kinds}
use Rattle.cov_config.specs.Settings.{Settings, defaults}
use Rattle.cov_data.specs.DataSet.{DataSet}
use Rattle.cov_data.proofs.FileViews.{text_cmp_total}
use Rattle.cov_file_names.specs.Forms.{Text}
use Rattle.cov_programs.specs.Ends.{Ends}
use Rattle.cov_programs.specs.Laws.{OnlyKeeps, Parted}
use Rattle.cov_programs.specs.Objects.{Moves, beside}
use Rattle.cov_programs.specs.Programs.{Program, give, settle, refuse, ask, bind, each}
use Rattle.cov_programs.proofs.Folding.{parted}
use Rattle.cov_programs.proofs.Parts.{then-keeps, each-keeps}
use Rattle.cov_step.specs.Answers.{Before, nothing, there, bad_row, before_of, bytes_of, bytes_if_any, given_or, load_refusal, on, removed, vault_refusal}
use Rattle.cov_step.specs.Calls.{Call, spells, checks, reads, puts, opens, lists, loads, saves, removes, makes, writes, crosses, measures, tries, tests, selects, judges, says, Answer, IsNoMemory, Step}
use Rattle.cov_step.specs.Calls as calls
use Rattle.cov_step.specs.Names.{data_name, is_named, removable}
use Rattle.cov_step.specs.Objects.{on_shelf, on_vault}
use Rattle.cov_step.specs.Phases.{before, has_own, inputs, is_part_of, needed, own_input, own_name, removing, saving, settings, settings_file, some_input}
use Rattle.cov_vault.specs.Contents.{Contents}
use Rattle.cov_vault.specs.declared.vault.Content.{Content}
use Rattle.cov_vault.specs.declared.vault.Content.TheVariants.{Good}
use Rattle.cov_vault.specs.declared.vault.Vault.{Ghosts as VaultOf}
use Rattle.cov_vault.specs.declared.vault.VaultError.{VaultError}
use Rattle.cov_vault.specs.declared.vault.VaultError.TheVariants as vault_error
use Rattle.cov_why.specs.Answers.{Refusal, PlainWhy}
use Rattle.cov_step.specs.Promises.{keeps}
use Rattle.cov_step.proofs.Kept.{vault-kept, vault-tells}
use Rattle.cov_joins.specs.Left.{is_input, IsGone, IsLeft, CombineLeavesLaw}
use Rattle.cov_joins.specs.Parts.{Rules, finishing, joining, gathering, combining}

-- only the data file is saved, and only inputs besides it are removed
abbrev pub allowed : Bool → Text → List Text → (call : Call) → Answer call → Bool
allowed keep own named (spells words) answer = true
allowed keep own named (checks bytes) reading = true
allowed keep own named (reads name most) answer = true
allowed keep own named (puts name bytes) refusal = true
allowed keep own named (opens name script) answer = true
allowed keep own named lists answer = true
allowed keep own named (loads name) answer = true
allowed keep own named (saves name content) refusal = bytes_eq name own
allowed keep own named (removes name) refusal = not keep && (not (bytes_eq name own) && is_input own named name)
allowed keep own named (makes texts) refusal = true
allowed keep own named (writes bytes) refusal = true
allowed keep own named (crosses modules words budget) answer = true
allowed keep own named (measures asked modules hook) answer = true
allowed keep own named (tries modules words budget) answer = true
allowed keep own named (tests asked modules) answer = true
allowed keep own named (selects budget before after) answer = true
allowed keep own named (judges budget modules) answer = true
allowed keep own named (says text) answer = true

-- ---- names

same-name : (n : Text) → bytes_eq n n ≡ true
same-name n = (bytes_eq-Decides n n).1 refl

abbrev AreInputs : Text → List Text → List Text → Type 0
AreInputs own named [] = Unit {0}
AreInputs own named (n ∷ ns) = (is_input own named n ≡ true) × AreInputs own named ns

abbrev AreRemoved : Text → List Text → List Text → Type 0
AreRemoved own named [] = Unit {0}
AreRemoved own named (n ∷ ns) = ((not (bytes_eq n own) && is_input own named n) ≡ true) × AreRemoved own named ns

found-at : (own n : Text) (found : List Text) (b : Bool) → is_part_of own n ≡ b → AreInputs own [] found → AreInputs own [] (cond b (n ∷ found) found)
found-at own n found true e h = (e, h)
found-at own n found false e h = h

found-inputs : (own : Text) (names : List Text) → AreInputs own [] (filter (is_part_of own) names)
found-inputs own [] = tt
found-inputs own (n ∷ ns) = found-at own n (filter (is_part_of own) ns) (is_part_of own n) refl (found-inputs own ns)

or-right : (a b : Bool) → b ≡ true → (a || b) ≡ true
or-right true b h = refl
or-right false b h = h

named-among : (own x : Text) (xs : List Text) (ns : List Text) → ((q : Text) → is_named ns q ≡ true → is_named (map data_name (x ∷ xs)) q ≡ true) → AreInputs own (x ∷ xs) ns
named-among own x xs [] h = tt
named-among own x xs (n ∷ ns) h = (
  h n (ap (λ (b : Bool). b || is_named ns n) (same-name n)),
  named-among own x xs ns (λ q k. h q (or-right (bytes_eq q n) (is_named ns q) k)),
)

named-inputs : (own x : Text) (xs : List Text) → AreInputs own (x ∷ xs) (map data_name (x ∷ xs))
named-inputs own x xs = named-among own x xs (map data_name (x ∷ xs)) (λ q h. h)

removed-at : (own n : Text) (named done ns : List Text) (a b : Bool) → bytes_eq n own ≡ a → is_input own named n ≡ true
    → AreRemoved own named (removable own done ns) → AreRemoved own named (removable own (n ∷ done) ns)
    → AreRemoved own named (if a || b then removable own done ns else n ∷ removable own (n ∷ done) ns)
removed-at own n named done ns true b e i left more = left
removed-at own n named done ns false true e i left more = left
removed-at own n named done ns false false e i left more = (ap (λ (t : Bool). not t && is_input own named n) e ∙ i, more)

removable-so : (own : Text) (named done ns : List Text) → AreInputs own named ns → AreRemoved own named (removable own done ns)
removable-so own named done [] h = tt
removable-so own named done (n ∷ ns) h = removed-at own n named done ns (bytes_eq n own) (is_named done n) refl h.0 (removable-so own named done ns h.1) (removable-so own named (n ∷ done) ns h.1)

-- ---- what is called

module _ (keep : Bool) (own : Text) (named : List Text) where
  given-keeps : {A E : Type 0} (why : E → Refusal) (x : Result A E) → OnlyKeeps (allowed keep own named) (given_or why x)
  given-keeps why (Ok a) = tt
  given-keeps why (Err e) = tt

  on-keeps : {E : Type 0} (why : E → Refusal) (x : Option E) → OnlyKeeps (allowed keep own named) (on why x)
  on-keeps why None = tt
  on-keeps why (Some e) = tt

  removed-keeps : (x : Option VaultError) → OnlyKeeps (allowed keep own named) (removed (give (tt {0})) x)
  removed-keeps None = tt
  removed-keeps (Some vault_error.Absent) = tt
  removed-keeps (Some vault_error.NotSchema7) = tt
  removed-keeps (Some (vault_error.BadRow i)) = tt
  removed-keeps (Some vault_error.Failed) = tt
  removed-keeps (Some vault_error.NoMemory) = tt

  before-keeps : (name : Text) (x : Result DataSet VaultError) → OnlyKeeps (allowed keep own named) (before_of name x)
  before-keeps name (Ok d) = tt
  before-keeps name (Err vault_error.Absent) = tt
  before-keeps name (Err vault_error.NotSchema7) = tt
  before-keeps name (Err (vault_error.BadRow i)) = tt
  before-keeps name (Err vault_error.Failed) = tt
  before-keeps name (Err vault_error.NoMemory) = tt

  some-keeps : (name : Text) (b : Bool) (names : List Text) → OnlyKeeps (allowed keep own named) (some_input name b names)
  some-keeps name b (n ∷ ns) = tt
  some-keeps name true [] = tt
  some-keeps name false [] = tt

  own-keeps : (append : Bool) (name : Text) (was : Before) → OnlyKeeps (allowed keep own named) (own_input append name was)
  own-keeps false name was = tt
  own-keeps true name nothing = tt
  own-keeps true name (there d) = tt
  own-keeps true name (bad_row i) = tt

  kind-keeps : (b : Bool) (r : Refusal) (ds : List DataSet) → OnlyKeeps (allowed keep own named) (if b then calls.refuse r else give ds)
  kind-keeps true r ds = tt
  kind-keeps false r ds = tt

  may-go : keep ≡ false → (t : Bool) → t ≡ true → (not keep && t) ≡ true
  may-go e t h = ap (λ k. not k && t) e ∙ h

  removing-keeps : keep ≡ false → (ns : List Text) → AreRemoved own named ns → OnlyKeeps (allowed keep own named) (each removing ns)
  removing-keeps k [] h = tt
  removing-keeps k (n ∷ ns) h =
      then-keeps (allowed keep own named) (removing n) (λ b. bind (each removing ns) (λ more. give (b ∷ more))) (λ x. (may-go k _ h.0, removed-keeps x))
      (λ b. then-keeps (allowed keep own named) (each removing ns) (λ more. give (b ∷ more)) (removing-keeps k ns h.1) (λ more. tt))

  finishing-at : (k : Bool) → keep ≡ k → (others : List Text) → AreInputs own named others → OnlyKeeps (allowed keep own named) (finishing k own others)
  finishing-at true e others h = tt
  finishing-at false e others h = then-keeps (allowed keep own named) (each removing (removable own [] others)) (λ ys. give _) (removing-keeps e (removable own [] others) (removable-so own named [] others h)) (λ ys. tt)

  finishing-keeps : (others : List Text) → AreInputs own named others → OnlyKeeps (allowed keep own named) (finishing keep own others)
  finishing-keeps others h = finishing-at keep refl others h

  joining-keeps : (paths : Rules) (others : List Text) (ds : List DataSet) → AreInputs own named others → OnlyKeeps (allowed keep own named) (joining keep own paths others ds)
  joining-keeps paths others ds h =
      then-keeps (allowed keep own named) (if has_both_kinds ds then calls.refuse _ else give ds) _ (kind-keeps (has_both_kinds ds) _ ds)
      (λ all. then-keeps (allowed keep own named) (saving own (combined (alias_of (rules_from paths)) all)) (λ b. finishing keep own others) (λ x. (same-name own, on-keeps (vault_refusal own) x)) (λ b. finishing-keeps others h))

  gathering-keeps : (append : Bool) (paths : Rules) (was : Before) (others : List Text) → AreInputs own named others → OnlyKeeps (allowed keep own named) (gathering append keep own paths was others)
  gathering-keeps append paths was others h =
      then-keeps (allowed keep own named) (some_input own (has_own append was) others) _ (some-keeps own (has_own append was) others)
      (λ a. then-keeps (allowed keep own named) (own_input append own was) _ (own-keeps append own was)
      (λ first. then-keeps (allowed keep own named) (each needed others) _ (each-keeps (allowed keep own named) needed (λ n x. (refl, given-keeps (load_refusal n) x)) others)
      (λ rest. joining-keeps paths others (first ++ rest) h)))

listed-keeps : (own : Text) (append keep : Bool) (paths : Rules) (was : Before) (answer : Result (List Text) VaultError)
    → OnlyKeeps (allowed keep own []) (bind (bind (given_or (vault_refusal own) answer) (λ found. give (filter (is_part_of own) found))) (λ others. gathering append keep own paths was others))
listed-keeps own append keep paths was (Ok found) = gathering-keeps keep own [] append paths was (filter (is_part_of own) found) (found-inputs own found)
listed-keeps own append keep paths was (Err e) = tt

inputs-keeps : (own : Text) (append keep : Bool) (paths : Rules) (was : Before) (named : List Text) → OnlyKeeps (allowed keep own named) (bind (inputs own named) (λ others. gathering append keep own paths was others))
inputs-keeps own append keep paths was [] = λ answer. (refl, listed-keeps own append keep paths was answer)
inputs-keeps own append keep paths was (n ∷ ns) = gathering-keeps keep own (n ∷ ns) append paths was (map data_name (n ∷ ns)) (named-inputs own n ns)

pub combining-keeps : (own : Text) (append keep : Bool) (paths : Rules) (named : List Text) → OnlyKeeps (allowed keep own named) (combining append keep own paths named)
combining-keeps own append keep paths named =
    then-keeps (allowed keep own named) (before own) (λ was. bind (inputs own named) (λ others. gathering append keep own paths was others)) (λ x. (refl, before-keeps keep own named own x)) (λ was. inputs-keeps own append keep paths was named)

-- the settings
bytes-keeps : (keep : Bool) (own : Text) (named : List Text) (absent : Refusal) (x : Result (List ℕ) ShelfError) → OnlyKeeps (allowed keep own named) (bytes_of absent x)
bytes-keeps keep own named absent (Ok bytes) = tt
bytes-keeps keep own named absent (Err shelf_error.Absent) = tt
bytes-keeps keep own named absent (Err shelf_error.TooLarge) = tt
bytes-keeps keep own named absent (Err shelf_error.Failed) = tt
bytes-keeps keep own named absent (Err shelf_error.NoMemory) = tt

any-keeps : (keep : Bool) (own : Text) (named : List Text) (x : Result (List ℕ) ShelfError) → OnlyKeeps (allowed keep own named) (bytes_if_any x)
any-keeps keep own named (Ok bytes) = tt
any-keeps keep own named (Err shelf_error.Absent) = tt
any-keeps keep own named (Err shelf_error.TooLarge) = tt
any-keeps keep own named (Err shelf_error.Failed) = tt
any-keeps keep own named (Err shelf_error.NoMemory) = tt

file-keeps : (keep : Bool) (own : Text) (named : List Text) (rcfile : Option Text) → OnlyKeeps (allowed keep own named) (settings_file rcfile)
file-keeps keep own named (Some name) = λ x. (refl, bytes-keeps keep own named _ x)
file-keeps keep own named None = λ x. (refl, any-keeps keep own named x)

pub settings-keeps : (keep : Bool) (own : Text) (named : List Text) (rcfile : Option Text) → OnlyKeeps (allowed keep own named) (settings rcfile)
settings-keeps keep own named rcfile = then-keeps (allowed keep own named) (settings_file rcfile) _ (file-keeps keep own named rcfile) (λ bytes. given-keeps keep own named _ _)

-- ---- what calls leave

module _ {C : Type 0} {Answer : C → Type 0} {R W : Type 0} (moves : Moves C Answer W) (wants : R → Type 0) (P : W → Type 0) (keeps : (call : C) → Answer call → Bool)
    (onward : (u : W) (call : C) (x : Answer call) (v : W) → moves u call x v → keeps call x ≡ true → P u → P v) where
  pub stays-so : {A : Type 0} (p : Program C Answer R A) (old new : W) (e : Result A R) → OnlyKeeps keeps p → Ends moves wants p old e new → P old → P new
  stays-so (give a) old new e c (inl s) h = subst P (sym s.same) h
  stays-so (give a) old new e c (inr (is, same)) h = subst P (sym same) h
  stays-so (settle a) old new e c (is, same) h = subst P (sym same) h
  stays-so (refuse r) old new e c (inl s) h = subst P (sym s.same) h
  stays-so (refuse r) old new e c (inr (is, same)) h = subst P (sym same) h
  stays-so (ask call f) old new e c (inl s) h = subst P (sym s.same) h
  stays-so (ask call f) old new e c (inr (x, u, m, rest)) h = stays-so (f x) u new e (c x).1 rest (onward old call x u m (c x).0 h)

differs : (a b : Text) → a ≢ b → bytes_eq a b ≡ false
differs a b h = no-true (bytes_eq a b) (λ e. h ((bytes_eq-Decides a b).0 e))
  where
    no-true : (t : Bool) → (t ≡ true → ⊥) → t ≡ false
    no-true true k = absurd (k refl)
    no-true false k = refl

inserted-same : (m : Contents) (n : Text) (c : Content) → get (insert m n c) n ≡ Some c
inserted-same m n c = get-insert text_cmp_total m n c n ∙ ap (λ (b : Bool). cond b (Some c) (get m n)) (is_eq-slice_cmp n n ∙ same-name n)

inserted-else : (m : Contents) (n q : Text) (c : Content) → q ≢ n → get (insert m n c) q ≡ get m q
inserted-else m n q c h = get-insert text_cmp_total m n c q ∙ ap (λ (b : Bool). cond b (Some c) (get m q)) (is_eq-slice_cmp q n ∙ differs q n h)

gone-same : (m : Contents) (n : Text) → get (remove m n) n ≡ None
gone-same m n = get-remove text_cmp_total m n n ∙ ap (λ (b : Bool). cond b None (get m n)) (is_eq-slice_cmp n n ∙ same-name n)

gone-else : (m : Contents) (n q : Text) → q ≢ n → get (remove m n) q ≡ get m q
gone-else m n q h = get-remove text_cmp_total m n q ∙ ap (λ (b : Bool). cond b None (get m q)) (is_eq-slice_cmp q n ∙ differs q n h)

pub left-none : (keep : Bool) (own : Text) (named : List Text) (old : Contents) → IsLeft keep own named old old
left-none keep own named old = record { data_file = inl refl; others = λ q h. inl refl }

-- a name that is as it was just before
as-now : (keep : Bool) (own : Text) (named : List Text) (old now new : Contents) (q : Text) → get new q ≡ get now q → (get now q ≡ get old q) ⊎ IsGone keep own named q now → (get new q ≡ get old q) ⊎ IsGone keep own named q new
as-now keep own named old now new q e (inl same) = inl (e ∙ same)
as-now keep own named old now new q e (inr g) = inr (record { not_kept = g.not_kept; input = g.input; gone = e ∙ g.gone })

-- data are saved under the data file's name
left-saved : (keep : Bool) (own n : Text) (named : List Text) (old now new : Contents) (d : DataSet) → bytes_eq n own ≡ true → new ≡ insert now n (Good d) → IsLeft keep own named old now → IsLeft keep own named old new
left-saved keep own n named old now new d e is h =
    let same : n ≡ own = (bytes_eq-Decides n own).0 e in
    record {
      data_file = inr (d, ap (λ (m : Contents). get m own) is ∙ ap (λ (q : Text). get (insert now n (Good d)) q) (sym same) ∙ inserted-same now n (Good d));
      others = λ q k. as-now keep own named old now new q (ap (λ (m : Contents). get m q) is ∙ inserted-else now n q (Good d) (λ t. k (t ∙ same))) (h.others q k);
    }

-- an input is removed
left-removed : (keep : Bool) (own n : Text) (named : List Text) (old now new : Contents) → (not keep && (not (bytes_eq n own) && is_input own named n)) ≡ true → new ≡ remove now n → IsLeft keep own named old now → IsLeft keep own named old new
left-removed keep own n named old now new e is h =
    let two = and_parts (not keep) (not (bytes_eq n own) && is_input own named n) e in
    let both = and_parts (not (bytes_eq n own)) (is_input own named n) two.1 in
    let apart : own ≢ n = λ t. not-both (bytes_eq n own) both.0 (ap (λ (q : Text). bytes_eq n q) t ∙ same-name n) in
    record {
      data_file = either-data (ap (λ (m : Contents). get m own) is ∙ gone-else now n own apart) h.data_file;
      others = λ q k. by-name q (bytes_eq q n) refl (not-so keep two.0) both.1 (h.others q k);
    }
  where
    not-both : (t : Bool) → not t ≡ true → t ≡ true → ⊥
    not-both true a b = false≢true a
    not-both false a b = false≢true b

    not-so : (t : Bool) → not t ≡ true → t ≡ false
    not-so true a = absurd (false≢true a)
    not-so false a = refl

    either-data : {A : Type 0} {D : Type 0} {a b c : A} {z : D → A} → a ≡ b → (b ≡ c) ⊎ ((x : D) × (b ≡ z x)) → (a ≡ c) ⊎ ((x : D) × (a ≡ z x))
    either-data p (inl q) = inl (p ∙ q)
    either-data p (inr (x, q)) = inr (x, p ∙ q)

    by-name : (q : Text) (t : Bool) → bytes_eq q n ≡ t → keep ≡ false → is_input own named n ≡ true → (get now q ≡ get old q) ⊎ IsGone keep own named q now → (get new q ≡ get old q) ⊎ IsGone keep own named q new
    by-name q true s k i at =
        let same : q ≡ n = (bytes_eq-Decides q n).0 s in
        inr (record { not_kept = k; input = ap (λ (x : Text). is_input own named x) same ∙ i; gone = ap (λ (m : Contents). get m q) is ∙ ap (λ (x : Text). get (remove now n) x) same ∙ gone-same now n })
    by-name q false s k i at = as-now keep own named old now new q (ap (λ (m : Contents). get m q) is ∙ gone-else now n q (λ t. false≢true (sym s ∙ (bytes_eq-Decides q n).1 t))) at

module _ {V : Type 0} (vault : VaultOf V) (keep : Bool) (own : Text) (named : List Text) (old : Contents) where
  -- the vault tells its contents, and nothing but the data file and the inputs has changed
  abbrev pub Leaves : V → Type 0
  Leaves w = vault.tells w × IsLeft keep own named old (vault.contents w)

  kept-so : (u v : V) (call : Call) (x : Answer call) → on_vault vault u call x v → keeps call x ≡ true → Leaves u → Leaves v
  kept-so u v call x m e h = (vault-tells vault u call x v m h.0, subst (λ c. IsLeft keep own named old c) (sym (vault-kept vault u call x v m h.0 e)) h.1)

  vault-step : (u : V) (call : Call) (x : Answer call) (v : V) → on_vault vault u call x v → allowed keep own named call x ≡ true → Leaves u → Leaves v
  vault-step u (spells words) x v m e h = absurd m
  vault-step u (checks bytes) x v m e h = absurd m
  vault-step u (reads name most) x v m e h = absurd m
  vault-step u (puts name bytes) x v m e h = absurd m
  vault-step u (opens name script) x v m e h = absurd m
  vault-step u lists x v m e h = kept-so u v lists x m refl h
  vault-step u (loads name) x v m e h = kept-so u v (loads name) x m refl h
  vault-step u (saves name content) None v m e h = (vault-tells vault u (saves name content) None v m h.0, left-saved keep own name named old (vault.contents u) (vault.contents v) content e (vault.saves_whole u name content None v h.0 m.moved).1.1 h.1)
  vault-step u (saves name content) (Some r) v m e h = kept-so u v (saves name content) (Some r) m refl h
  vault-step u (removes name) None v m e h = (vault-tells vault u (removes name) None v m h.0, left-removed keep own name named old (vault.contents u) (vault.contents v) e (vault.removes_whole u name None v h.0 m.moved).1.1 h.1)
  vault-step u (removes name) (Some r) v m e h = kept-so u v (removes name) (Some r) m refl h
  vault-step u (makes texts) x v m e h = absurd m
  vault-step u (writes bytes) x v m e h = absurd m
  vault-step u (crosses modules words budget) x v m e h = absurd m
  vault-step u (measures asked modules hook) x v m e h = absurd m
  vault-step u (tries modules words budget) x v m e h = absurd m
  vault-step u (tests asked modules) x v m e h = absurd m
  vault-step u (selects budget before after) x v m e h = absurd m
  vault-step u (judges budget modules) x v m e h = absurd m
  vault-step u (says text) x v m e h = absurd m

  pub both-step : {H : Type 0} (shelf : ShelfOf H) (u : H × V) (call : Call) (x : Answer call) (v : H × V) → beside (on_shelf shelf) (on_vault vault) u call x v → allowed keep own named call x ≡ true → Leaves u.1 → Leaves v.1
  both-step shelf u call x v (inl (m, same)) e h = subst Leaves (sym same) h
  both-step shelf u call x v (inr (m, same)) e h = vault-step u.1 call x v.1 m e h

-- ---- all of it

pub leaves-law : {H V : Type 0} (shelf : ShelfOf H) (vault : VaultOf V) → CombineLeavesLaw shelf vault
leaves-law {H = H} {V = V} shelf vault append keep data_file rcfile named old new ending f t =
    either (parted (beside (on_shelf shelf) (on_vault vault)) IsNoMemory (settings rcfile) (λ s. combining append keep (own_name data_file s) s.paths named) old new ending f.ends)
  where
    moved : (own : Text) {A : Type 0} (p : Step A) (u v : H × V) (e : Result A PlainWhy) → OnlyKeeps (allowed keep own named) p → Ends (beside (on_shelf shelf) (on_vault vault)) IsNoMemory p u e v → Leaves vault keep own named (vault.contents old.1) u.1 → Leaves vault keep own named (vault.contents old.1) v.1
    moved own p u v e k h l = stays-so (beside (on_shelf shelf) (on_vault vault)) IsNoMemory (λ (w : H × V). Leaves vault keep own named (vault.contents old.1) w.1) (allowed keep own named) (both-step vault keep own named (vault.contents old.1) shelf) p u v e k h l

    begun : (own : Text) → Leaves vault keep own named (vault.contents old.1) old.1
    begun own = (t, left-none keep own named (vault.contents old.1))

    either : Parted (beside (on_shelf shelf) (on_vault vault)) IsNoMemory (settings rcfile) (λ s. combining append keep (own_name data_file s) s.paths named) old ending new → (s : Settings) × IsLeft keep (own_name data_file s) named (vault.contents old.1) (vault.contents new.1)
    either (inl (s, mid, first, rest)) =
        let own = own_name data_file s in
        (s, (moved own (combining append keep own s.paths named) mid new ending (combining-keeps own append keep s.paths named) rest (moved own (settings rcfile) old mid (Ok s) (settings-keeps keep own named rcfile) first (begun own))).1)
    either (inr (r, first, is)) =
        let own = own_name data_file defaults in
        (defaults, (moved own (settings rcfile) old new (Err r) (settings-keeps keep own named rcfile) first (begun own)).1)
