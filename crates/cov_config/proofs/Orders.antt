-- The entries of a map stand in the byte order of their names.
use Rattle.std.proofs.Common.{◌≡◌, true, List, [], ◌∷◌, refl, ap, ◌∙◌, String, Global}
use Rattle.std.specs.Prelude.{if◌then◌else◌}
use Rattle.std.specs.Cmp.Lexicographic.{slice_cmp}
use Rattle.std.specs.Ordering.{nat_cmp, is_lt}
use Rattle.std.specs.List.Sorted.{IsStrictlySortedBy}
use Rattle.std.specs.Map.{keys_of}
use Rattle.std.specs.String.{string_cmp}
use Rattle.toml.specs.Data.{Data, Members, no_members, member}
use Rattle.toml.specs.View.{members_view}
use Rattle.toml.specs.declared.value.Value.{Value}
use Rattle.cov_file_names.specs.Forms.{Text}
use Rattle.cov_config.specs.Settings.{placed, in_order}

-- each name is below the next one
abbrev IsAscending : Members → Type 0
IsAscending no_members = Unit {0}
IsAscending (member k d no_members) = Unit {0}
IsAscending (member k d (member l e ms)) = (is_lt (slice_cmp nat_cmp k l) ≡ true) × IsAscending (member l e ms)

put_first : (k : Text) (d : Data) (l : Text) (e : Data) (ms : Members) → is_lt (slice_cmp nat_cmp k l) ≡ true → placed k d (member l e ms) ≡ member k d (member l e ms)
put_first k d l e ms h = ap (λ b. if b then member k d (member l e ms) else member l e (placed k d ms)) h

same : (ms : Members) → IsAscending ms → in_order ms ≡ ms
same no_members h = refl
same (member k d no_members) h = refl
same (member k d (member l e ms)) h = ap (placed k d) (same (member l e ms) h.1) ∙ put_first k d l e ms h.0

ascending : (es : List (String Global × Value)) → IsStrictlySortedBy string_cmp (keys_of es) → IsAscending (members_view es)
unfolding IsStrictlySortedBy
ascending [] h = tt
ascending (e ∷ []) h = tt
ascending (e ∷ f ∷ es) h = (ap is_lt h.0.0, ascending (f ∷ es) h.1)

pub as_they_stand : (es : List (String Global × Value)) → IsStrictlySortedBy string_cmp (keys_of es) → in_order (members_view es) ≡ members_view es
as_they_stand es h = same (members_view es) (ascending es h)
