-- How many bits stand before the body of a frame with so many digipeaters.
-- Assumes nothing.
use mathlib.Core.Path.{◌≡◌, refl, ap}
use mathlib.Core.Bool.{Bool, true, false}
use mathlib.Core.List.{List, [], ◌∷◌}
use Rattle.std.proofs.Common.{Some}
use Rattle.std.proofs.lemmas.Option.{none-some, same_Some}
use Prim.Native.Nat.{ℕ, zero, suc, ◌+◌, ◌*◌, ◌≤◌}
use native.Mathlib.Omega.{arith}
use lib.ListN.{length, drop, length-drop}
use Rattle.laws.specs.Pick.{pick}
use Rattle.laws.specs.Text.{ascii, starts}
use Rattle.laws.proofs.Cases.{from_some}
use Rattle.bits.specs.Read.{take_bits}
use Rattle.ax25_token.specs.Token.{read_token}
use Rattle.ax25_address.specs.Parse.{split_off, aliases, alias_calls}
use Rattle.ax25_address.specs.Types.{ThirdParty}
use Rattle.ax25_address.proofs.SizeLaws.{split_is}
use Rattle.ax25.specs.Encode.{type_width}
use Rattle.ax25.specs.Decode.{name_at, known, Head, read_tokens, read_alias, read_aliased, read_digis, read_head}
use Rattle.ax25_decode.proofs.ReaderLaws.{tokens_count, alias_count}
use Rattle.room.proofs.TokenRoom.{let_through, take_left, token_room}

-- ---- digipeaters

-- n calls, half a bit each at least: eight by an alias take four
abbrev Named : ℕ → List Bool → List (List ℕ) × List Bool → Type 0
Named n b v = (length v.0 ≡ n) × (n + 2 * length v.1 ≤ 2 * length b)

module _ (mended : Bool) (l : ℕ) where
  tokens_room : (n : ℕ) (b : List Bool) (v : List (List ℕ) × List Bool) → read_tokens mended l n b ≡ Some v → n + length v.1 ≤ length b
  unfolding read_tokens
  tokens_room zero b v e = rw (← same_Some ([], b) v e) (omega arith)
  tokens_room (suc n) b v e =
      from_some (read_token mended l b) _ v e
      (λ c ec f. from_some (read_tokens mended l n c.1) _ v f
      (λ w ew g.
      let t = token_room mended l b c ec in
      let r = tokens_room n c.1 w ew in
      rw (← same_Some (c.0 ∷ w.0, w.1) v g) (omega arith)))

  tokens_named : (n : ℕ) (b : List Bool) (v : List (List ℕ) × List Bool) → read_tokens mended l n b ≡ Some v → Named n b v
  tokens_named n b v e = (tokens_count mended l n b v e, omega (arith, tokens_room n b v e))

  alias_room : (n : ℕ) (b : List Bool) (v : List (List ℕ) × List Bool) → read_alias n b ≡ Some v → (length v.0 ≡ n) × (3 + length v.1 ≤ length b)
  unfolding read_alias
  alias_room n b v e =
      from_some (take_bits 3 b) _ v e
      (λ k ek f. from_some (name_at k.0 aliases) _ v f
      (λ a ea g. rw (← same_Some (alias_calls a 1 n, k.1) v g) (alias_count a 1 n, omega (arith, (take_left 3 b k ek).0))))

  aliased_room : (n : ℕ) (b : List Bool) (v : List (List ℕ) × List Bool) → n ≤ 8 → read_aliased mended l n b ≡ Some v → Named n b v
  unfolding read_aliased pick
  aliased_room n [] v h e = absurd (none-some v e)
  aliased_room n (true ∷ b) v h e = let a = alias_room n b v e in (a.0, omega (arith, a.1))
  aliased_room n (false ∷ b) v h e = let t = tokens_named n b v e in (t.0, omega (arith, t.1))

  digis_room : (ap : Bool) (n : ℕ) (b : List Bool) (v : List (List ℕ) × List Bool) → n ≤ 8 → read_digis mended l ap n b ≡ Some v → Named n b v
  unfolding read_digis pick
  digis_room ap zero b v h e = rw (← same_Some ([], b) v e) (refl, omega arith)
  digis_room true (suc n) b v h e = aliased_room (suc n) b v h e
  digis_room false (suc n) b v h e = tokens_named (suc n) b v e

-- ---- the type

-- one bit, and three where it is a third party's
type_room : (ap : Bool) (b : List Bool) (t : ℕ × List Bool) → take_bits (type_width ap) b ≡ Some t
    → (1 + length t.1 ≤ length b) × (t.0 ≡ ThirdParty → 3 + length t.1 ≤ length b)
unfolding pick
type_room true b t e = let h = take_left 3 b t e in (omega (arith, h.0), λ _. omega (arith, h.0))
type_room false b t e = let h = take_left 1 b t e in (omega (arith, h.0), λ k. absurd (omega (arith, h.1)))

-- ---- all of it

-- n calls; three halves of a bit for each digipeater, 12 bits for destination and source, and the type
pub record Headed (n : ℕ) (b : List Bool) (p : Head × List Bool) : Type 0 where
  pub count : length p.0.digis ≡ n
  pub head : 3 * n + 26 + 2 * length p.1 ≤ 2 * length b
  pub third_head : p.0.typ ≡ ThirdParty → 3 * n + 30 + 2 * length p.1 ≤ 2 * length b

pub head_room : (mended : Bool) (l n : ℕ) (b : List Bool) (p : Head × List Bool) → n ≤ 8 → read_head mended l n b ≡ Some p → Headed n b p
unfolding read_head
head_room mended l n b p few e =
    from_some (split_off n b) _ p e
    (λ h eh f. from_some (read_token mended l h.1) _ p f
    (λ d ed g. from_some (read_token mended l d.1) _ p g
    (λ s es j. from_some (read_digis mended l (starts (ascii "AP") d.0) n s.1) _ p j
    (λ v ev k. from_some (take_bits (type_width (starts (ascii "AP") d.0)) v.1) _ p k
    (λ t et m.
    let w = split_is n b h eh in
    let left : length h.1 ≡ length (drop n b) = ap length w.2 in
    let x = token_room mended l h.1 d ed in
    let y = token_room mended l d.1 s es in
    let z = digis_room mended l (starts (ascii "AP") d.0) n s.1 v few ev in
    let u = type_room (starts (ascii "AP") d.0) v.1 t et in
    rw (← (let_through (known t.0) (record { dest = d.0; src = s.0; digis = v.0; heard = h.0; typ = t.0 }, t.1) p m).1)
    (record {
      count = z.0;
      head = omega (arith, w.0, length-drop n b, u.0);
      third_head = λ q. omega (arith, w.0, length-drop n b, u.1 q);
    }))))))
