-- Reads one after another, and the contents that agree with their answers.
use Rattle.std.proofs.Common.{◌≡◌, ℕ, suc, ◌≤◌, Bool, true, false, cond, List, [], ◌∷◌, ◌++◌, map, length, Option, Some, None, Result, Ok, Err, IfOk, refl, sym, ap, ◌∙◌, subst, arith, codes, encode_utf8_all, replicate}
use Rattle.std.specs.Prelude.{filter}
use Rattle.std.specs.Str.{bytes_eq}
use Rattle.std.proofs.lemmas.Bool.{false≢true, or_parts}
use Rattle.std.proofs.lemmas.List.{append_cancel_left, append_cancel_right, length-replicate}
use Rattle.std.proofs.lemmas.Slice.Eq.{bytes_eq-Decides}
use Rattle.std.proofs.lemmas.Str.{encodes_same}
use Rattle.cov_outside.specs.declared.shelf.ShelfError.{ShelfError}
use Rattle.cov_outside.specs.declared.shelf.ShelfError.TheVariants.{Absent, TooLarge, Failed, NoMemory}
use Rattle.cov_outside.specs.Files.{Files}
use Rattle.cov_outside.specs.Prefixes.{IsPrefix}
use Rattle.cov_outside.specs.Reads.{IsTold, Read, Reads}
use Rattle.py_syntax.specs.Names.{is_among}
use Rattle.py_syntax.specs.Tree.{Text}
use Rattle.py_meaning.specs.Loading.{folder_of, file_of}
use Rattle.cov_run.specs.Asking.{has_own_file, file_name, asked_for, names_read, AreTold, Agrees}
use Rattle.cov_run.specs.Loading.{Told, told_by}

-- how a shelf moves from one state to another by reads
abbrev pub Moves : Type 0 → Type 1
Moves H = H → List ℕ → ℕ → Result (List ℕ) ShelfError → H → Type 0

-- ---- reads

pub reads-more : {H : Type 0} (moves : Moves H) (old mid new : H) (rs : List Read) (r : Read) → Reads moves old rs mid → moves mid r.name r.most r.answer new → Reads moves old (rs ++ r ∷ []) new
reads-more moves old mid new [] r h m = (new, subst (λ s. moves s r.name r.most r.answer new) h m, refl)
reads-more moves old mid new (q ∷ rs) r h m = (h.0, h.1, reads-more moves h.0 mid new rs r h.2 m)

-- ---- contents that agree

told-more : (files : Files) (rs : List Read) (r : Read) → AreTold files (rs ++ r ∷ []) → AreTold files rs × IsTold (files r.name) r.most r.answer
told-more files [] r h = (tt, h.0)
told-more files (q ∷ rs) r h = let k = told-more files rs r h.1 in ((h.0, k.0), k.1)

told-with : (files : Files) (rs : List Read) (r : Read) → AreTold files rs → IsTold (files r.name) r.most r.answer → AreTold files (rs ++ r ∷ [])
told-with files [] r h k = (k, tt)
told-with files (q ∷ rs) r h k = (h.0, told-with files rs r h.1 k)

-- the answer to a read after that of the script is told by the files of modules
pub agrees-more : (told : Told) (n : List ℕ) (ns : List (List ℕ)) (rs : List Read) (r : Read) → names_read rs ≡ n ∷ ns → Agrees told (rs ++ r ∷ []) → Agrees told rs × IsTold (told.modules r.name) r.most r.answer
agrees-more told n ns [] r e h = absurd (cc)
agrees-more told n ns (q ∷ rs) r e h = let k = told-more told.modules rs r h.1 in ((h.0, k.0), k.1)

-- each answer is told by some content
pub content-for : (most : ℕ) (answer : Result (List ℕ) ShelfError) → IfOk answer (λ bytes. length bytes ≤ most) → (content : Option (List ℕ)) × IsTold content most answer
content-for most (Ok bytes) h = (Some bytes, (refl, h))
content-for most (Err Absent) h = (None, refl)
content-for most (Err TooLarge) h = (Some (replicate (suc most) 0), (replicate (suc most) 0, refl, (let l = length-replicate {A = ℕ} (suc most) 0 in omega (arith, l))))
content-for most (Err Failed) h = (None, tt)
content-for most (Err NoMemory) h = (None, tt)

-- ---- one file is told anew

-- none of the names is this one
abbrev NoneIs : List ℕ → List (List ℕ) → Type 0
NoneIs name [] = Unit {0}
NoneIs name (n ∷ ns) = (bytes_eq name n ≡ false) × NoneIs name ns

-- the files, of which this one holds what is given
with_content : List ℕ → Option (List ℕ) → Files → Files
with_content name content files = λ other. cond (bytes_eq name other) content (files other)

same-content : (name : List ℕ) (content : Option (List ℕ)) (files : Files) → with_content name content files name ≡ content
unfolding with_content
same-content name content files = ap (λ b. cond b content (files name)) ((bytes_eq-Decides name name).1 refl)

other-content : (name other : List ℕ) (content : Option (List ℕ)) (files : Files) → bytes_eq name other ≡ false → with_content name content files other ≡ files other
unfolding with_content
other-content name other content files h = ap (λ b. cond b content (files other)) h

told-kept : (files : Files) (name : List ℕ) (content : Option (List ℕ)) (rs : List Read) → AreTold files rs → NoneIs name (names_read rs) → AreTold (with_content name content files) rs
told-kept files name content [] h n = tt
told-kept files name content (r ∷ rs) h n =
    (subst (λ (c : Option (List ℕ)). IsTold c r.most r.answer) (sym (other-content name r.name content files n.0)) h.0, told-kept files name content rs h.1 n.1)

told-anew : (files : Files) (content : Option (List ℕ)) (rs : List Read) (r : Read) → AreTold files rs → NoneIs r.name (names_read rs) → IsTold content r.most r.answer → AreTold (with_content r.name content files) (rs ++ r ∷ [])
told-anew files content rs r h n t =
    told-with (with_content r.name content files) rs r (told-kept files r.name content rs h n) (subst (λ (c : Option (List ℕ)). IsTold c r.most r.answer) (sym (same-content r.name content files)) t)

-- contents that agree with one read more, of a file that wasn't read for a module before
agrees-anew : (told : Told) (content : Option (List ℕ)) (n : List ℕ) (ns : List (List ℕ)) (rs : List Read) (r : Read) → names_read rs ≡ n ∷ ns → NoneIs r.name ns → Agrees told rs → IsTold content r.most r.answer
    → (new : Told) × Agrees new (rs ++ r ∷ [])
agrees-anew told content n ns [] r e fresh h t = absurd (cc)
agrees-anew told content n ns (q ∷ rs) r e fresh h t =
    let same : names_read rs ≡ ns = tails q.name n (names_read rs) ns e in
    (record { script = told.script; modules = with_content r.name content told.modules }, (h.0, told-anew told.modules content rs r h.1 (subst (NoneIs r.name) (sym same) fresh) t))
  where
    tails : (a b : List ℕ) (as' bs : List (List ℕ)) → (a ∷ as') ≡ (b ∷ bs) → as' ≡ bs
    tails a b as' bs e = cc

-- ---- the files of names

name-same : (script x y : Text) → file_name script x ≡ file_name script y → x ≡ y
name-same script x y e =
    let folder = folder_of script in
    append_cancel_left folder x y (append_cancel_right (folder ++ x) (folder ++ y) (codes ".py") (encodes_same (file_of folder x) (file_of folder y) e))

-- a new name has a file of its own
none-is : (script : Text) (xs : List Text) (x : Text) → is_among xs x ≡ false → NoneIs (file_name script x) (map (file_name script) (filter has_own_file xs))
none-is script [] x h = tt
none-is script (y ∷ xs) x h =
    let parts = or_parts (bytes_eq x y) (is_among xs x) h in
    by_own (has_own_file y) (filter has_own_file xs) (other (bytes_eq (file_name script x) (file_name script y)) refl parts.0) (none-is script xs x parts.1)
  where
    other : (b : Bool) → bytes_eq (file_name script x) (file_name script y) ≡ b → bytes_eq x y ≡ false → b ≡ false
    other false e h = refl
    other true e h =
        let same : x ≡ y = name-same script x y ((bytes_eq-Decides (file_name script x) (file_name script y)).0 e) in
        absurd (false≢true (sym h ∙ (bytes_eq-Decides x y).1 same))

    by_own : (b : Bool) (ys : List Text) → bytes_eq (file_name script x) (file_name script y) ≡ false → NoneIs (file_name script x) (map (file_name script) ys) → NoneIs (file_name script x) (map (file_name script) (cond b (y ∷ ys) ys))
    by_own true ys e h = (e, h)
    by_own false ys e h = h

pub some-more : (some : Told) (script : Text) (xs : List Text) (x : Text) (rs : List Read) (r : Read) → names_read rs ≡ asked_for script xs → is_among xs x ≡ false → r.name ≡ file_name script x → Agrees some rs → IfOk r.answer (λ bytes. length bytes ≤ r.most)
    → (told : Told) × Agrees told (rs ++ r ∷ [])
some-more some script xs x rs r e new is h fits =
    let c = content-for r.most r.answer fits in
    agrees-anew some c.0 (encode_utf8_all script) (map (file_name script) (filter has_own_file xs)) rs r e (subst (λ (n : List ℕ). NoneIs n (map (file_name script) (filter has_own_file xs))) (sym is) (none-is script xs x new)) h c.1

-- ---- a shelf that tells its files

pub tells : {H : Type 0} (moves : Moves H) (files : H → Files) → ((old : H) (name : List ℕ) (most : ℕ) (answer : Result (List ℕ) ShelfError) (new : H) → moves old name most answer new → IsTold (files old name) most answer × (files new ≡ files old))
    → (old new : H) (rs : List Read) → Reads moves old rs new → AreTold (files old) rs × (files new ≡ files old)
tells moves files truth old new [] h = (tt, ap files h)
tells moves files truth old new (r ∷ rs) h =
    let one = truth old r.name r.most r.answer h.0 h.1 in
    let more = tells moves files truth h.0 new rs h.2 in
    ((one.0, subst (λ (f : Files). AreTold f rs) one.1 more.0), more.1 ∙ one.1)

-- the first of the reads, where there is one, is of this file
abbrev pub FirstIs : List ℕ → List Read → Type 0
FirstIs name [] = Unit {0}
FirstIs name (r ∷ rs) = r.name ≡ name

pub first-is : (n : List ℕ) (ns : List (List ℕ)) (rs : List Read) → IsPrefix (names_read rs) (n ∷ ns) → FirstIs n rs
first-is n ns [] p = tt
first-is n ns (r ∷ rs) p = heads r.name n (names_read rs ++ p.rest) ns p.is
  where
    heads : (a b : List ℕ) (as' bs : List (List ℕ)) → (b ∷ bs) ≡ (a ∷ as') → a ≡ b
    heads a b as' bs e = cc

pub agrees-by : (files : Files) (script : Text) (rs : List Read) → AreTold files rs → FirstIs (encode_utf8_all script) rs → Agrees (told_by files script) rs
agrees-by files script [] h f = tt
agrees-by files script (r ∷ rs) h f = (subst (λ (n : List ℕ). IsTold (files n) r.most r.answer) f h.0, h.1)
