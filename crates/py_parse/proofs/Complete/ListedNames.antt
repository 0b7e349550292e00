-- Listed names: the machine reads them up to the semicolon or the line end after them.
use Rattle.std.proofs.Common.{◌≡◌, ℕ, suc, Bool, true, false, List, [], ◌∷◌, ◌++◌, Option, Some, None, refl, sym, ap, ◌∙◌, append_assoc}
use Rattle.std.proofs.lemmas.List.{append-nil}
use Rattle.py_token.specs.declared.token.Keyword.TheVariants as word
use Rattle.py_token.specs.declared.token.Mark.TheVariants as mark
use Rattle.py_syntax.specs.Tree.{Text, Alias}
use Rattle.py_syntax.specs.Tree.{global, import, from}
use Rattle.py_syntax.specs.Kinds.{Kind, Name, Word, Sign}
use Rattle.py_syntax.specs.Normal.{IsSomething}
use Rattle.py_syntax.specs.Headers.{Marked, put}
use Rattle.py_syntax.specs.Statements.{more_names, name_list, as_tokens, more_aliases, alias_list, AreSome}
use Rattle.py_statements.specs.Open.{SuiteStack}
use Rattle.py_statements.specs.Machine.{Place, NameRead, BoundRead, Span, State, at, end_simple, after_name, act}
use Rattle.py_statements.specs.Listed.{Listed, globals, imports, froms, listed, alias}
use Rattle.py_parse.specs.Places.{Source, kinds_past, run}
use Rattle.py_parse.proofs.Complete.OnLines.{plain, lines, after}
use Rattle.py_parse.proofs.Complete.Simple.{stop, whole, Told, word_begins}

-- ---- names alone

name_stop : (ys : List Text) (y : Text) (z : Bool) (n : Span) (b : SuiteStack) (f l : ℕ) → act (NameRead (globals ys) y) n b (stop z) f l ≡ end_simple (global (ys ++ y ∷ [])) n b (stop z) l
name_stop ys y true n b f l = refl
name_stop ys y false n b f l = refl

names_read : (xs ys : List Text) (y : Text) (z : Bool) (src : Source) (c f : ℕ) (b : SuiteStack) (rest : List Marked) (p : ℕ) →
    run src (at (NameRead (globals ys) y) (lines src c f p) b) (put (more_names xs) (plain (stop z) ∷ rest)) p ≡ whole src (global (ys ++ y ∷ xs)) c f b z rest (kinds_past (more_names xs) p)
names_read [] ys y z src c f b rest p = ap (λ (o : Option State). after src o rest (suc p)) (name_stop ys y z (lines src c f p) b (src.first p) (src.last p))
names_read (x ∷ xs) ys y z src c f b rest p =
    names_read xs (ys ++ y ∷ []) x z src c f b rest (suc (suc p))
    ∙ ap (λ (v : List Text). whole src (global v) c f b z rest (kinds_past (more_names xs) (suc (suc p)))) (append_assoc ys (y ∷ []) (x ∷ xs))

pub told_global : (xs : List Text) → IsSomething xs → Told (Word word.Global ∷ name_list xs) (global xs)
told_global [] n src s b takes z rest p = absurd n
told_global (x ∷ xs) n src s b takes z rest p =
    word_begins (Word word.Global) _ refl src s b takes (put (name_list (x ∷ xs)) (plain (stop z) ∷ rest)) p
    ∙ names_read xs [] x z src (src.first p) (src.first p) b rest (suc (suc p))

-- ---- names with what they are bound to

-- what is imported, from a module where one is named
abbrev importing : Option Text → List Alias → Listed
importing None ns = imports ns
importing (Some m) ns = froms m ns

-- what may stand after a listed name: a comma, or what ends the statement
abbrev later : Option Bool → Kind
later None = Sign mark.Comma
later (Some z) = stop z

-- A place after these names.
abbrev IsAfter : Place → Listed → Type 0
IsAfter P l = (d : Option Bool) (n : Span) (b : SuiteStack) (f last : ℕ) → act P n b (later d) f last ≡ after_name l n b (later d) last

abbrev MoreRead : List Alias → Type 0
MoreRead others = (o : Option Text) (ns : List Alias) (P : Place) → IsAfter P (importing o ns) → (z : Bool) (src : Source) (c f : ℕ) (b : SuiteStack) (rest : List Marked) (p : ℕ) →
    run src (at P (lines src c f p) b) (put (more_aliases others) (plain (stop z) ∷ rest)) p ≡ whole src (listed (importing o (ns ++ others))) c f b z rest (kinds_past (more_aliases others) p)

name_after : (o : Option Text) (ns : List Alias) (x : Text) → IsAfter (NameRead (importing o ns) x) (importing o (ns ++ alias x None ∷ []))
name_after None ns x None n b f last = refl
name_after None ns x (Some true) n b f last = refl
name_after None ns x (Some false) n b f last = refl
name_after (Some m) ns x None n b f last = refl
name_after (Some m) ns x (Some true) n b f last = refl
name_after (Some m) ns x (Some false) n b f last = refl

-- from after a name through what it is bound to
alias_read : (others : List Alias) → MoreRead others → (x : Text) (y : Option Text) (o : Option Text) (ns : List Alias) (z : Bool) (src : Source) (c f : ℕ) (b : SuiteStack) (rest : List Marked) (p : ℕ) →
    run src (at (NameRead (importing o ns) x) (lines src c f p) b) (put (as_tokens y (more_aliases others)) (plain (stop z) ∷ rest)) p ≡ whole src (listed (importing o (ns ++ alias x y ∷ others))) c f b z rest (kinds_past (as_tokens y (more_aliases others)) p)
alias_read others more x None o ns z src c f b rest p =
    more o (ns ++ alias x None ∷ []) (NameRead (importing o ns) x) (name_after o ns x) z src c f b rest p
    ∙ ap (λ (v : List Alias). whole src (listed (importing o v)) c f b z rest (kinds_past (more_aliases others) p)) (append_assoc ns (alias x None ∷ []) others)
alias_read others more x (Some y) None ns z src c f b rest p =
    more None (ns ++ alias x (Some y) ∷ []) (BoundRead (imports (ns ++ alias x (Some y) ∷ []))) (λ d n b f last. refl) z src c f b rest (suc (suc p))
    ∙ ap (λ (v : List Alias). whole src (import v) c f b z rest (kinds_past (more_aliases others) (suc (suc p)))) (append_assoc ns (alias x (Some y) ∷ []) others)
alias_read others more x (Some y) (Some m) ns z src c f b rest p =
    more (Some m) (ns ++ alias x (Some y) ∷ []) (BoundRead (froms m (ns ++ alias x (Some y) ∷ []))) (λ d n b f last. refl) z src c f b rest (suc (suc p))
    ∙ ap (λ (v : List Alias). whole src (from m v) c f b z rest (kinds_past (more_aliases others) (suc (suc p)))) (append_assoc ns (alias x (Some y) ∷ []) others)

listed_stop : (l : Listed) (z : Bool) (n : Span) (b : SuiteStack) (last : ℕ) → after_name l n b (stop z) last ≡ end_simple (listed l) n b (stop z) last
listed_stop l true n b last = refl
listed_stop l false n b last = refl

more_read : (others : List Alias) → MoreRead others
more_read [] o ns P is z src c f b rest p =
    ap (λ (w : Option State). after src w rest (suc p)) (is (Some z) (lines src c f p) b (src.first p) (src.last p) ∙ listed_stop (importing o ns) z (lines src c f p) b (src.last p))
    ∙ ap (λ (v : List Alias). whole src (listed (importing o v)) c f b z rest p) (sym (append-nil ns))
more_read (a ∷ others) o ns P is z src c f b rest p =
    ap (λ (w : Option State). after src w (put (Name a.name ∷ as_tokens a.bound (more_aliases others)) (plain (stop z) ∷ rest)) (suc p)) (is None (lines src c f p) b (src.first p) (src.last p))
    ∙ alias_read others (more_read others) a.name a.bound o ns z src c f b rest (suc (suc p))

pub told_import : (names : List Alias) → AreSome names → Told (Word word.Import ∷ alias_list names) (import names)
told_import [] n src s b takes z rest p = absurd n
told_import (a ∷ names) n src s b takes z rest p =
    word_begins (Word word.Import) _ refl src s b takes (put (alias_list (a ∷ names)) (plain (stop z) ∷ rest)) p
    ∙ alias_read names (more_read names) a.name a.bound None [] z src (src.first p) (src.first p) b rest (suc (suc p))

pub told_from : (m : Text) (names : List Alias) → AreSome names → Told (Word word.From ∷ Name m ∷ Word word.Import ∷ alias_list names) (from m names)
told_from m [] n src s b takes z rest p = absurd n
told_from m (a ∷ names) n src s b takes z rest p =
    word_begins (Word word.From) _ refl src s b takes (put (Name m ∷ Word word.Import ∷ alias_list (a ∷ names)) (plain (stop z) ∷ rest)) p
    ∙ alias_read names (more_read names) a.name a.bound (Some m) [] z src (src.first p) (src.first p) b rest (suc (suc (suc (suc p))))
