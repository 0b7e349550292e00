-- Bytes that are moved from the front of what is left into the front of a buffer.
use Rattle.std.proofs.Common.{◌≡◌, ℕ, ◌+◌, ◌-◌, ◌≤◌, List, ◌++◌, length, take, drop, arith, sym, length-drop}
use Rattle.std.proofs.lemmas.List.{take-append-drop, drop-drop, take_at, length-take-le, take_all}

pub moved_parts : (whole bytes front buf : List ℕ) (at n : ℕ) → whole ≡ bytes → n ≤ length (take (length whole - at) (drop at whole)) → front ≡ take n (take (length whole - at) (drop at whole))
    → drop at bytes ≡ take n (front ++ drop n buf) ++ drop (at + n) bytes
moved_parts whole bytes front buf at n same fits is =
    let all : take (length whole - at) (drop at whole) ≡ drop at whole = take_all (length whole - at) (drop at whole) (omega (arith, length-drop at whole)) in
    let short : n ≤ length (drop at whole) = rw all at fits in
    rw (← same, is, all, take_at (take n (drop at whole)) (drop n buf) n (length-take-le n (drop at whole) short), ← drop-drop n at whole) (sym (take-append-drop n (drop at whole)))
