-- Names of data. `./.coverage` and `.coverage` are one name.
--     once, bare, data_name       a name of data as it is taken
--     or_else                     words go before settings
--     removable                   the inputs that are removed
use Rattle.std.specs.Prelude.{ℕ, ◌&&◌, ◌||◌, ◌==◌, Bool, if◌then◌else◌, List, [], ◌∷◌, Option, Some, None}
use Rattle.std.specs.List.{list_any}
use Rattle.std.specs.Str.{bytes_eq}
use Rattle.cov_words.specs.Values.{Word}

-- a name with one `/` for several
abbrev pub once : Word → Word
once [] = []
once (b ∷ []) = b ∷ []
once (b ∷ c ∷ bs) = if b == 47 && c == 47 then once (c ∷ bs) else b ∷ once (c ∷ bs)

-- a name without leading `./`
abbrev pub bare : Word → Word
bare [] = []
bare (b ∷ []) = b ∷ []
bare (b ∷ c ∷ bs) = if b == 46 && c == 47 then bare bs else b ∷ c ∷ bs

-- a name of data in words and settings, as it is taken
abbrev pub data_name : Word → Word
data_name name = bare (once name)

-- words go before settings
abbrev pub or_else : {A : Type 0} → Option A → A → A
or_else None a = a
or_else (Some b) a = b

-- whether a name is among others
abbrev pub is_named : List Word → Word → Bool
is_named names name = list_any (bytes_eq name) names

-- Of these inputs those that are removed: each once, and never the data file. Some are done.
abbrev pub removable : Word → List Word → List Word → List Word
removable own done [] = []
removable own done (n ∷ ns) =
    if bytes_eq n own || is_named done n then removable own done ns
    else n ∷ removable own (n ∷ done) ns
