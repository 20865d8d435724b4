-- A write to a part of a slice is a run of stores.
-- Assumes nothing.
use mathlib.Core.Path.{◌≡◌, sym, ap, ◌∙◌}
use mathlib.Core.List.{List, append_assoc}
use Prim.Native.Nat.{ℕ, ◌+◌, ◌-◌, ◌≤◌}
use native.Mathlib.Omega.{arith}
use lib.ListN.{length, take, drop}
use lib.Seq.{sets, sets-eq, drop-drop}
use borrow.Rule.Slice.PartMut.{put_mid}

-- k elements from place a on
pub put_sets : (a k : ℕ) (xs ys : List ℕ) → length ys ≡ k → a + k ≤ length xs → put_mid a k xs ys ≡ sets xs a ys
put_sets a k xs ys n h =
    let e : drop k (drop a xs) ≡ drop (a + length ys) xs = drop-drop k a xs ∙ ap (λ (m : ℕ). drop (a + m) xs) (sym n) in
    rw e (sym (sets-eq ys xs a (omega arith) ∙ append_assoc (take a xs) ys _))

-- all of zs, copied there
pub put_copied : (a : ℕ) (xs ys zs : List ℕ) → ys ≡ zs → a + length zs ≤ length xs → put_mid a (a + length zs - a) xs ys ≡ sets xs a zs
put_copied a xs ys zs e h = rw e (put_sets a (a + length zs - a) xs zs (omega arith) (omega arith))
