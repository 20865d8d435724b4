-- Bytes of 80 or more, the type's range, and calls that are aliases.
-- Assumes nothing.
use mathlib.Core.Path.{◌≡◌, refl, ap, ap₂}
use mathlib.Core.Bool.{Bool, true, false}
use mathlib.Core.List.{List, [], ◌∷◌, ◌++◌}
use Rattle.std.proofs.Common.{Some}
use Prim.Native.Nat.{ℕ, zero, suc, ◌≤◌, ◌<◌}
use native.Mathlib.Nat.{not-suc-le-zero, le_of_suc-le-suc}
use native.Mathlib.Omega.{arith}
use lib.ListN.{length, get_or, length-append}
use lib.Seq.{take_at, drop_at}
use lib.Dec.{leb}
use borrow.Author.Tests.{le-leb, leb-false}
use Rattle.laws.specs.Pick.{pick}
use Rattle.laws.specs.Text.{same}
use Rattle.laws.proofs.Cases.{by_test, and_left, and_right, or_left, or_right}
use Rattle.laws.proofs.TextLaws.{same_eq}
use Rattle.ax25_address.specs.Classify.{any_high, is_position, is_timestamped, is_message, is_third, classify_of}
use Rattle.ax25_address.specs.Parse.{split_off, same_all}
use Rattle.ax25_address.specs.Types.{Binary}

-- ---- the front of a list

pub split_off_lem : {A : Type 0} (n : ℕ) (s t : List A) → length s ≡ n → split_off n (s ++ t) ≡ Some (s, t)
unfolding split_off pick
split_off_lem n s t e =
    let h : n ≤ length (s ++ t) = omega (arith, length-append s t) in
    rw (le-leb n (length (s ++ t)) h, take_at s t n e, drop_at s t n e)

-- ---- bytes below 80

pub none_high : (s : List ℕ) → any_high s ≡ false → (i : ℕ) → i < length s → get_or s i 0 < 128
unfolding any_high
none_high [] e i h = absurd (not-suc-le-zero h)
none_high (x ∷ s) e zero h = leb-false 0x80 x (or_left (leb 0x80 x) (any_high s) e)
none_high (x ∷ s) e (suc i) h = none_high s (or_right (leb 0x80 x) (any_high s) e) i (le_of_suc-le-suc h)

-- ---- the type

pick_lt : (b : Bool) (x y n : ℕ) → x < n → y < n → pick b x y < n
unfolding pick
pick_lt true x y n h k = h
pick_lt false x y n h k = k

pub type_wide : (d : List ℕ) → classify_of true d < 8
unfolding classify_of
type_wide d =
    pick_lt (any_high d) 1 _ 8 (omega arith)
    (unfold pick in pick_lt (is_position d) 2 _ 8 (omega arith)
    (pick_lt (is_timestamped d) 3 _ 8 (omega arith)
    (pick_lt (is_message d) 4 _ 8 (omega arith)
    (pick_lt (is_third d) 6 0 8 (omega arith) (omega arith)))))

pub type_narrow : (d : List ℕ) → classify_of false d < 2
unfolding classify_of
type_narrow d = pick_lt (any_high d) 1 _ 2 (omega arith) (unfold pick in omega arith)

-- a type other than Binary has no byte of 80 or more
pub not_binary : (ap : Bool) (d : List ℕ) → (classify_of ap d ≡ Binary → ⊥) → any_high d ≡ false
unfolding classify_of pick
not_binary ap d h = by_test (any_high d) (λ e. absurd (h (simp e))) (λ e. e)

-- ---- lists of calls

pub all_eq : (a b : List (List ℕ)) → same_all a b ≡ true → a ≡ b
unfolding same_all
all_eq [] [] e = refl
all_eq [] (y ∷ b) e = cc
all_eq (x ∷ a) [] e = cc
all_eq (x ∷ a) (y ∷ b) e =
    ap₂ (λ (z : List ℕ) (zs : List (List ℕ)). z ∷ zs) (same_eq x y (and_left (same x y) (same_all a b) e)) (all_eq a b (and_right (same x y) (same_all a b) e))
