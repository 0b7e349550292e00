-- Aliases of paths, as the section `paths` of coverage.py's settings gives them.
--     components, cut        the parts of a path between / and \, and those of a pattern
--     left_by                what is left of a path after a pattern that matches it
--     joined, after          components as a path again
--     Rule, rule_from        where paths go, and the patterns of the paths that go there
--     Rules, rules_from      the rules in the byte order of their names
--     alias_of               the alias of a path
use Rattle.std.specs.Prelude.{ℕ, ◌-◌, Bool, true, false, ◌&&◌, ◌||◌, nat_eq, nat_lt, cond, List, [], ◌∷◌, ◌++◌, map, length, take, drop, Option, Some, None, slice_index_or}
use Rattle.std.specs.Option.{unwrap_or, option_map, option_or}
use Rattle.std.specs.Str.{bytes_eq}
use Rattle.std.specs.List.{slice_split, join_with_byte}
use Rattle.std.specs.FinMap.{FinMap, from_entries, values, code}
use Rattle.std.specs.Coded.{Coded, coded×, coded_list, coded_ℕ}
use Rattle.cov_data.specs.DataSet.{Text, text_cmp}

-- `/` or `\`
abbrev pub is_separator : ℕ → Bool
is_separator b = nat_eq b 47 || nat_eq b 92

-- the parts of a path between / and \
abbrev pub components : Text → List Text
components text = slice_split is_separator text

-- a text that ends with a separator has an empty last component
abbrev pub ends_empty : List Text → Bool
ends_empty parts =
    nat_lt 1 (length parts)
    && nat_eq (length (slice_index_or parts (length parts - 1) [])) 0

-- the components of a pattern or of a place, without a separator at its end
abbrev pub cut : Text → List Text
cut text =
    let parts = components text in
    cond (ends_empty parts) (take (length parts - 1) parts) parts

-- `*`
abbrev pub star : Text
star = 42 ∷ []

-- whether the components of a pattern are a path's first ones. `*` is any one component
abbrev pub fits : List Text → List Text → Bool
fits [] parts = true
fits (p ∷ ps) [] = false
fits (p ∷ ps) (c ∷ cs) = (bytes_eq p star || bytes_eq p c) && fits ps cs

-- the components after those of a pattern: a match leaves at least one
abbrev pub left_after : List Text → List Text → Option (List Text)
left_after ps parts =
    cond (fits ps parts && nat_lt (length ps) (length parts))
    (Some (drop (length ps) parts)) None

-- after a `*` that leads a pattern: it is the fewest leading components that let the rest match
abbrev pub after_star : List Text → List Text → Option (List Text)
after_star ps [] = None
after_star ps (c ∷ cs) = option_or (left_after ps cs) (after_star ps cs)

-- the components after a pattern that matches
abbrev pub left_by : List Text → List Text → Option (List Text)
left_by [] parts = left_after [] parts
left_by (p ∷ ps) parts = cond (bytes_eq p star) (after_star ps parts) (left_after (p ∷ ps) parts)

-- after the first pattern that matches
abbrev pub first_left : List (List Text) → List Text → Option (List Text)
first_left [] parts = None
first_left (p ∷ ps) parts = option_or (left_by p parts) (first_left ps parts)

-- components with `/` between them
abbrev pub joined : List Text → Text
joined parts = join_with_byte 47 parts

-- components, each after a `/`
abbrev pub after : List Text → Text
after [] = []
after (part ∷ parts) = 47 ∷ (part ++ after parts)

-- where the paths go, and the patterns of those that go there
abbrev pub Rule : Type 0
Rule = Text × List (List Text)

-- the first text is the place, the others are the patterns. A rule without a text matches nothing
abbrev pub rule_from : List Text → Rule
rule_from [] = ([], [])
rule_from (place ∷ patterns) = (joined (cut place), map cut patterns)

-- the rules by their names
abbrev pub Rules : Type 0
Rules = FinMap text_cmp Rule

-- rules, coded by their texts
abbrev pub rule_code : Coded Rule
rule_code = coded× (coded_list coded_ℕ) (coded_list (coded_list (coded_list coded_ℕ)))

-- rules by name, coded likewise
abbrev pub rules_code : Coded Rules
rules_code = code (coded_list coded_ℕ) rule_code

-- of two rules with one name the first counts
abbrev pub rules_from : List (Text × List Text) → Rules
rules_from given = from_entries (map (λ e. (e.0, rule_from e.1)) given)

-- a place with the components that are left
abbrev pub moved : Text → List Text → Text
moved place left = place ++ after left

-- by the first rule with a pattern that matches
abbrev pub alias_among : List Rule → List Text → Option Text
alias_among [] parts = None
alias_among (r ∷ rs) parts =
    option_or (option_map (moved r.0) (first_left r.1 parts)) (alias_among rs parts)

-- a path that nothing matches stays as it is
abbrev pub alias_of : Rules → Text → Text
alias_of rules path = unwrap_or (alias_among (values rules) (components path)) path
