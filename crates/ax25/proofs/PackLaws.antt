-- A message as it is written: one byte, then bits after it up to a whole byte.
-- Assumes nothing.
use mathlib.Core.Path.{◌≡◌, refl, sym, ap, ◌∙◌}
use mathlib.Core.Bool.{Bool, false}
use mathlib.Core.List.{List, [], ◌∷◌, ◌++◌}
use Prim.Native.Nat.{ℕ, zero, suc, ◌+◌, ◌-◌, ◌*◌, ◌/◌, ◌%◌, ◌^◌, ◌<◌}
use native.Mathlib.Nat.{zero-div}
use native.Mathlib.Omega.{arith}
use lib.ListN.{length, replicate, length-append, length-replicate}
use Rattle.laws.specs.Bits.{Bytes, odd, bits_of, pack, unpack}
use Rattle.laws.specs.Wrote.{Wrote}
use Rattle.laws.proofs.ByteLaws.{length_pack, unpack_pack, bytes_set, bytes_stored, bytes_pack}
use Rattle.laws.proofs.WroteLaws.{wrote_then, wrote_as}

-- the low bits of 0
zero_bits : (n : ℕ) → bits_of n 0 ≡ replicate n false
unfolding bits_of odd
zero_bits zero = refl
zero_bits (suc n) = rw (zero-div (2 ^ n)) (ap (λ (b : List Bool). false ∷ b) (zero_bits n))

-- one byte at the front, and more after it
pub behind_byte : {s t u v : List ℕ} {x p next : ℕ} → Wrote s 0 (x ∷ []) t p → Wrote t 1 v u next → Wrote s 0 (x ∷ v) u next
behind_byte {s} {t} {x = x} f g =
    let h : Wrote s 0 (x ∷ []) t 1 = record { stored = f.stored; next_is = refl } in
    wrote_then h g

-- a byte that is written leaves bytes
pub byte_leaves : {s t : List ℕ} {x p : ℕ} → x < 256 → Bytes s → Wrote s 0 (x ∷ []) t p → Bytes t
byte_leaves {s} {x = x} l h f = rw f.stored (bytes_set s 0 x h l)

-- the bits of packed bytes, written after one byte
pub pack_wrote : (b : List Bool) {t u : List ℕ} {next : ℕ} → Bytes t → Bytes u → Wrote (unpack t) 8 (unpack (pack b)) (unpack u) next → Wrote t 1 (pack b) u (next / 8)
pack_wrote b {t} {u} ht hu w =
    record {
      stored = bytes_stored t u 1 (pack b) ht hu (bytes_pack b) w.stored;
      next_is = omega (arith, w.next_is, ap length (unpack_pack b), length_pack b, length-append b (replicate ((length b + 7) / 8 * 8 - length b) false), length-replicate ((length b + 7) / 8 * 8 - length b) false);
    }

-- zeros up to a whole byte
pub pad_wrote : (b : List Bool) {t u v : List Bool} {q next : ℕ} → Wrote t 8 b u q → Wrote u q (bits_of ((8 - q % 8) % 8) 0) v next → Wrote t 8 (unpack (pack b)) v next
pad_wrote b {q = q} f g =
    let k : (8 - q % 8) % 8 ≡ (length b + 7) / 8 * 8 - length b = omega (arith, f.next_is) in
    let e : b ++ bits_of ((8 - q % 8) % 8) 0 ≡ unpack (pack b) =
    ap (λ (z : List Bool). b ++ z) (zero_bits ((8 - q % 8) % 8) ∙ ap (λ (n : ℕ). replicate n false) k) ∙ sym (unpack_pack b) in
    wrote_as e (wrote_then f g)
