-- Sets of lines packed into bytes, as the column `numbits` of coverage.py's data files holds them.
--     has_line          line n is bit n % 8, counted from the low bit, of byte n / 8
--     bytes_needed      as many bytes as the greatest line needs
--     IsNumbits         the bytes of some lines
--     lines_of_bits     the lines of some bytes
use Rattle.std.specs.Prelude.{◌≡◌, ℕ, ◌+◌, ◌*◌, ◌/◌, ◌%◌, max, nat_eq, Bool, List, length, slice_index, filter}
use Rattle.std.specs.Int.{bit_at}
use Rattle.std.specs.List.{fold, list_any, range_with_len}

-- whether the bit of this line is set
abbrev pub has_line : List ℕ → ℕ → Bool
has_line bytes n = nat_eq (bit_at (slice_index bytes (n / 8)) (n % 8)) 1

-- none for no line
abbrev pub bytes_needed : List ℕ → ℕ
bytes_needed lines = fold (λ most n. max most (n / 8 + 1)) 0 lines

-- each line's bit is set and no other, in as few bytes as hold them
pub record IsNumbits (lines bytes : List ℕ) : Type 0 where
  pub size : length bytes ≡ bytes_needed lines
  pub bits : (n : ℕ) → has_line bytes n ≡ list_any (nat_eq n) lines

-- the lines whose bits are set, which rise
abbrev pub lines_of_bits : List ℕ → List ℕ
lines_of_bits bytes = filter (has_line bytes) (range_with_len 0 (8 * length bytes))
