-- `bits_write::put_bytes` meets its contract.
-- Assumes nothing.
use mathlib.Core.Path.{◌≡◌, sym, ap, ◌∙◌}
use mathlib.Core.List.{List}
use Prim.Native.Nat.{ℕ, ◌+◌, ◌-◌, ◌*◌}
use native.Mathlib.Omega.{arith}
use lib.ListN.{length, take, drop}
use lib.Seq.{sets}
use Rattle.std.specs.Int.{bytes_high_first}
use Rattle.laws.specs.Bits.{unpack}
use Rattle.laws.proofs.ByteLaws.{sets_bits}
use Rattle.laws.proofs.ListLaws.{from_place}
use Rattle.bits_write.proofs.CopyLaws.{put_mid_sets, unpack_high, drop_high, length_high}
use Rattle.bits_write.proofs.put_bytes.Goals as goal

pub returns : goal.returns
returns c =
    let a = c.args in
    let v = c.copy_from_slice.new.self in
    let e : (8 - a.n) + a.n ≡ 8 = omega arith in
    let last : v ≡ bytes_high_first a.n a.w =
    c.copy_from_slice.ensures.after
    ∙ ap (λ (l : List ℕ). take (8 - (8 - a.n)) (drop (8 - a.n) l)) c.to_be_bytes.ensures
    ∙ from_place (bytes_high_first 8 a.w) (8 - a.n)
    ∙ ap (λ (k : ℕ). drop (8 - a.n) (bytes_high_first k a.w)) (sym e)
    ∙ drop_high (8 - a.n) a.n a.w in
    ap unpack (put_mid_sets a.out.now v a.i (a.i + a.n) (omega (arith, ap length last, length_high a.n a.w)) (omega arith))
    ∙ sets_bits a.out.now a.i v
    ∙ ap (λ (l : List ℕ). sets (unpack a.out.now) (a.i * 8) (unpack l)) last
    ∙ ap (sets (unpack a.out.now) (a.i * 8)) (unpack_high a.n a.w)
