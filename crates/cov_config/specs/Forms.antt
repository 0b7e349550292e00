-- The forms of values. A form gives what a value sets, or nothing where the value isn't of it.
--     or_default                        an absent key has its default
--     filled, test_function, up_to      forms of texts and numbers that TOML has no word for
--     hook_text, texts, rule_texts      those of a hook, a list and a rule
use Rattle.std.specs.Prelude.{ℕ, ℤ, pos, negsuc, nat_le, Bool, true, ◌||◌, if◌then◌else◌, List, [], ◌∷◌, codes, Option, Some, None, option_map, option_and_then}
use Rattle.std.specs.List.{list_any}
use Rattle.std.specs.Str.{bytes_eq}
use Rattle.toml.specs.Data.{Data, Items, no_items, item, as_str, as_integer, as_array}
use Rattle.cov_file_names.specs.Forms.{Text, is_empty, file_and_name}

-- an absent key has its default
abbrev pub or_default : {A : Type 0} → A → (Data → Option A) → Option Data → Option A
or_default default form None = Some default
or_default default form (Some d) = form d

-- a text that isn't empty
abbrev pub filled : Data → Option Text
filled d = option_and_then (λ t. if is_empty t then None else Some t) (as_str d)

-- the text `test_function`, which sets a flag
abbrev pub test_function : Data → Option Bool
test_function d =
    option_and_then (λ t. if bytes_eq t (codes "test_function") then Some true else None)
    (as_str d)

-- a number from 0 to this one
abbrev pub within : ℕ → ℤ → Option ℕ
within most (pos n) = if nat_le n most then Some n else None
within most (negsuc n) = None

-- a whole number from 0 to this one
abbrev pub up_to : ℕ → Data → Option ℕ
up_to most d = option_and_then (within most) (as_integer d)

-- a text FILE:NAME
abbrev pub hook_text : Data → Option (Option (Text × Text))
hook_text d = option_map Some (option_and_then file_and_name (as_str d))

-- the texts of a list's items, if all are texts
abbrev pub texts_in : Items → Option (List Text)
texts_in no_items = Some []
texts_in (item d ds) = option_and_then (λ t. option_map (λ ts. t ∷ ts) (texts_in ds)) (as_str d)

-- a list of texts
abbrev pub texts : Data → Option (List Text)
texts d = option_and_then texts_in (as_array d)

-- a list of at least one text, none of them empty
abbrev pub rule_texts : Data → Option (List Text)
rule_texts d =
    option_and_then (λ ts. if is_empty ts || list_any is_empty ts then None else Some ts)
    (texts d)
