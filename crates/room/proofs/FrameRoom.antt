-- How many bytes a frame of at most 39,992 bits is decoded to: the sums of what its parts take and give.
-- Assumes nothing.
use mathlib.Core.Path.{◌≡◌}
use mathlib.Core.Bool.{Bool, true, false}
use mathlib.Core.List.{List, [], ◌∷◌, ◌++◌}
use Rattle.std.proofs.Common.{Some}
use Rattle.std.proofs.lemmas.Option.{same_Some}
use Prim.Native.Nat.{ℕ, ◌+◌, ◌-◌, ◌*◌, ◌/◌, ◌≤◌}
use native.Mathlib.Omega.{arith}
use lib.ListN.{length, length-append}
use lib.Dec.{eqb}
use borrow.Author.Tests.{eqb-true}
use Rattle.laws.specs.Bits.{odd}
use Rattle.laws.specs.Pick.{pick}
use Rattle.laws.proofs.ByteLaws.{length_pack_n}
use Rattle.laws.proofs.Cases.{by_test, by_le, from_some}
use Rattle.ax25_address.specs.Types.{Text, Binary, ThirdParty}
use Rattle.ax25.specs.Decode.{digi_count, bytes_in, read_head, read_info, addresses, read_frame}
use Rattle.ax25_decode.proofs.HeadLaws.{addresses_size}
use Rattle.room.specs.Room.{most_decoded}
use Rattle.room.proofs.TextRoom.{text7_room}
use Rattle.room.proofs.BodyRoom.{Short, body_room, Passed, third_room}
use Rattle.room.proofs.HeadRoom.{head_room}

-- ---- the body

info_room : (mended : Bool) (l typ : ℕ) (all b : List Bool) (i : List ℕ) {P : Type 0} → read_info mended l typ all b ≡ Some i → (Short b i → P) → (typ ≡ ThirdParty → Passed b i → P) → P
unfolding read_info bytes_in pick
info_room mended l typ all b i e f g =
    by_test (eqb typ Text)
    (λ t. let h = text7_room all (length all - length b) i (rw t at e) in f (omega arith))
    (λ t. by_test (eqb typ Binary)
    (λ u. f (rw (← same_Some (bytes_in b) i (rw (t, u) at e)) (omega (arith, length_pack_n (length b / 8) b))))
    (λ u. by_test (eqb typ ThirdParty)
    (λ v. g (eqb-true typ ThirdParty v) (third_room mended l b i (rw (t, u, v) at e)))
    (λ v. f (body_room mended typ l b i (rw (t, u, v) at e)))))

-- ---- the frame

few_digis : (header : ℕ) → digi_count header ≤ 8
unfolding pick
few_digis header = by_test (odd (header / 8)) (λ e. rw e (omega arith)) (λ e. rw e (omega arith))

ui_size : (t : Bool) → length {A = ℕ} (pick t (0x03 ∷ 0xF0 ∷ []) []) ≤ 2
unfolding pick
ui_size true = omega arith
ui_size false = omega arith

-- the sums: addresses of eight bytes, n of them digipeaters, control and PID, and information of k bytes from e of b bits
short_sum : (n k b e : ℕ) → n ≤ 8 → b ≤ 39992 → 3 * n + 26 + 2 * e ≤ 2 * b → k ≤ 11 + 8 * ((e - 6) / 7) → (n + 2) * 8 + 2 + k ≤ most_decoded
short_sum n k b e few long h s = omega arith

-- with 7 or 8 digipeaters the text has at most 5,705 words of seven bits
third_sum : (n k b e bits letters : ℕ) → n ≤ 8 → b ≤ 39992 → 3 * n + 30 + 2 * e ≤ 2 * b → 18 ≤ bits → 3 * letters ≤ 2 * bits + 18 → bits + 2 ≤ e
    → k ≤ 22 + letters + 8 * ((e - (bits + 8)) / 7) → (n + 2) * 8 + 2 + k ≤ most_decoded
third_sum n k b e bits letters few long h three each within s =
    let q = (e - (bits + 8)) / 7 in
    by_le n 6 (λ m. omega arith) (λ m. let most : q ≤ 5705 = omega arith in omega arith)

pub frame_room : (mended : Bool) (l header : ℕ) (b : List Bool) (d : List ℕ) → l ≤ 7 → length b ≤ 39992 → read_frame mended l header b ≡ Some d → length d ≤ most_decoded
unfolding read_frame
frame_room mended l header b d low long e =
    from_some (read_head mended l (digi_count header) b) _ d e
    (λ r er f. from_some (read_info mended l r.0.typ b r.1) _ d f
    (λ i ei g.
    let n = digi_count header in
    let few = few_digis header in
    let h = head_room mended l n b r few er in
    let calls = r.0.dest ∷ r.0.src ∷ r.0.digis in
    let heard = false ∷ false ∷ r.0.heard in
    let ui : List ℕ = pick (odd (header / 64)) (0x03 ∷ 0xF0 ∷ []) [] in
    let most : (n + 2) * 8 + 2 + length i ≤ most_decoded =
    info_room mended l r.0.typ b r.1 i ei
    (λ s. short_sum n (length i) (length b) (length r.1) few long h.head s)
    (λ t s. third_sum n (length i) (length b) (length r.1) s.bits s.letters few long (h.third_head t) s.three s.each s.within s.size) in
    rw (← same_Some (addresses l calls heard ++ (ui ++ i)) d g)
    (omega (arith, length-append (addresses l calls heard) (ui ++ i), length-append ui i, addresses_size l low calls heard, ui_size (odd (header / 64)), h.count))))
