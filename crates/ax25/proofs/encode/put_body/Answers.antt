-- `ax25::encode::put_body` meets its contract.
-- Assumes nothing.
use native.Mathlib.Omega.{arith}
use mathlib.Core.Path.{◌≡◌, ap}
use Prim.Native.Nat.{ℕ, ◌+◌, ◌*◌, ◌^◌, ◌≤◌, ◌<◌}
use lib.ListN.{length, length-drop}
use lib.Dec.{eqb}
use mathlib.Core.Bool.{◌&&◌}
use mathlib.Core.List.{List}
use Rattle.std.proofs.Common.{Some}
use Rattle.ax25_address.specs.declared.record.Record.{Record}
use Rattle.ax25_address.specs.declared.classify.AprsType.{AprsType}
use Rattle.ax25_address.specs.declared.classify.AprsType.TheVariants.{ThirdParty}
use Rattle.laws.specs.Pick.{pick}
use Rattle.laws.proofs.ListLaws.{from_place}
use Rattle.ax25_address.specs.Kind.{type_number}
use Rattle.ax25_address.specs.Parse.{parse_of}
use Rattle.ax25_address.specs.Record.{record_of, seen_of}
use Rattle.ax25_address.proofs.DigiLaws.{end_size}
use Rattle.ax25_address.proofs.RecordLaws.{Known, known}
use Rattle.ax25.proofs.HeadCode.{from}
use Rattle.ax25.proofs.InfoLaws.{own_type, typed_room, start_room, text_does, binary_does, third_does, own_does}
use borrow.Author.Rules.{rules}
use Rattle.ax25.proofs.encode.put_body.Goals as goal

-- where the body starts, by where the address fields end
at_end : (r : Record) (end start : ℕ) {e : ℕ} → end ≡ e → start ≡ pick (eqb r.ctrl 0x03 && eqb r.pid 0xF0) (end + 2) end
    → start ≡ pick (eqb r.ctrl 0x03 && eqb r.pid 0xF0) (e + 2) e
at_end r end start e f = rw (← e) f

third_more : (t : AprsType) → t ≡ ThirdParty → 2 ≤ type_number t
third_more t e = rw e (omega arith)

-- where the parts of a frame that has a record stand
module _ (command l : ℕ) (d : List ℕ) (r : Record) (is : Some (record_of r) ≡ seen_of command (parse_of l d)) where
  abbrev seen : Known command l d (record_of r)
  seen = known command l d (record_of r) is

  start_within : (end start : ℕ) → end ≡ (r.digis + 2) * (l + 1) → start ≡ pick (eqb r.ctrl 0x03 && eqb r.pid 0xF0) (end + 2) end → start ≤ length d
  start_within end start e f = start_room command l d (record_of r) seen start (at_end r end start e f)

  end_small : (end : ℕ) → l ≤ 7 → end ≡ (r.digis + 2) * (l + 1) → end ≤ 80
  end_small end h e = omega (arith, e, end_size r.digis l seen.few h)

  -- the information of a type of its own has a first byte
  typed_within : (end : ℕ) → 2 ≤ type_number r.aprs_type → end ≡ (r.digis + 2) * (l + 1) → end + 3 ≤ length d
  typed_within end h e = omega (arith, e, typed_room command l d (record_of r) seen h)

  typed_some : (end : ℕ) → 2 ≤ type_number r.aprs_type → end ≡ (r.digis + 2) * (l + 1) → 0 < length (from (end + 2) d)
  typed_some end h e = rw (from_place d (end + 2)) (omega (arith, typed_within end h e, length-drop (end + 2) d))

-- a part is no longer than the whole
part_small : (d : List ℕ) (n : ℕ) → length d ≤ 4999 → length (from n d) < 2 ^ 56
part_small d n h = rw (from_place d n) (omega (arith, h, length-drop n d))

pub addr_end-end-requires : goal.addr_end-end-requires
addr_end-end-requires c =
    let a = c.args in
    ((seen a.command a.l a.frame.now a.r c.requires.4).few, c.requires.1)

pub body_start-body-requires : goal.body_start-body-requires
body_start-body-requires c =
    let a = c.args in
    omega (arith, end_small a.command a.l a.frame.now a.r c.requires.4 _ c.requires.1 c.addr_end-end.ensures)

pub overflow_add-start : goal.overflow_add-start
overflow_add-start c =
    let a = c.args in
    omega (arith, end_small a.command a.l a.frame.now a.r c.requires.4 _ c.requires.1 c.addr_end-end.ensures)

pub slice_bounds-push_text7-count : goal.slice_bounds-push_text7-count
slice_bounds-push_text7-count c =
    let a = c.args in
    start_within a.command a.l a.frame.now a.r c.requires.4 _ _ c.addr_end-end.ensures c.body_start-body.ensures

pub slice_bounds-push_text7-start : goal.slice_bounds-push_text7-start
slice_bounds-push_text7-start c =
    let a = c.args in
    start_within a.command a.l a.frame.now a.r c.requires.4 _ _ c.addr_end-end.ensures c.body_start-body.ensures

pub slice_bounds-push_bytes-count : goal.slice_bounds-push_bytes-count
slice_bounds-push_bytes-count c =
    let a = c.args in
    start_within a.command a.l a.frame.now a.r c.requires.4 _ _ c.addr_end-end.ensures c.body_start-body.ensures

pub slice_bounds-push_bytes-start : goal.slice_bounds-push_bytes-start
slice_bounds-push_bytes-start c =
    let a = c.args in
    start_within a.command a.l a.frame.now a.r c.requires.4 _ _ c.addr_end-end.ensures c.body_start-body.ensures

pub slice_bounds-third_encode-count : goal.slice_bounds-third_encode-count
slice_bounds-third_encode-count c =
    let a = c.args in
    omega (arith, typed_within a.command a.l a.frame.now a.r c.requires.4 _ (third_more _ c.in-ThirdParty.is) c.addr_end-end.ensures)

pub slice_bounds-third_encode-start : goal.slice_bounds-third_encode-start
slice_bounds-third_encode-start c =
    let a = c.args in
    omega (arith, typed_within a.command a.l a.frame.now a.r c.requires.4 _ (third_more _ c.in-ThirdParty.is) c.addr_end-end.ensures)

pub third_encode-requires : goal.third_encode-requires
third_encode-requires c =
    let a = c.args in
    let e = c.addr_end-end in (
      typed_some a.command a.l a.frame.now a.r c.requires.4 e.result (third_more _ c.in-ThirdParty.is) e.ensures,
      part_small a.frame.now (e.result + 2) c.requires.2,
      omega (arith, c.requires.3),
      c.requires.0,
      c.requires.1,
    )

pub slice_bounds-aprs_encode-count : goal.slice_bounds-aprs_encode-count
slice_bounds-aprs_encode-count c =
    let a = c.args in
    omega (arith, typed_within a.command a.l a.frame.now a.r c.requires.4 _ (own_type a.r.aprs_type (c.in_default.not-Text, c.in_default.not-Binary, c.in_default.not-ThirdParty)).more c.addr_end-end.ensures)

pub slice_bounds-aprs_encode-start : goal.slice_bounds-aprs_encode-start
slice_bounds-aprs_encode-start c =
    let a = c.args in
    omega (arith, typed_within a.command a.l a.frame.now a.r c.requires.4 _ (own_type a.r.aprs_type (c.in_default.not-Text, c.in_default.not-Binary, c.in_default.not-ThirdParty)).more c.addr_end-end.ensures)

pub aprs_encode-requires : goal.aprs_encode-requires
aprs_encode-requires c =
    let a = c.args in
    let e = c.addr_end-end in (
      typed_some a.command a.l a.frame.now a.r c.requires.4 e.result (own_type a.r.aprs_type (c.in_default.not-Text, c.in_default.not-Binary, c.in_default.not-ThirdParty)).more e.ensures,
      part_small a.frame.now (e.result + 2) c.requires.2,
      omega (arith, c.requires.3),
      c.requires.0,
      c.requires.1,
    )

pub returns-in-Text : goal.returns-in-Text
returns-in-Text c = λ p head e at last.
    let a = c.args in
    let d = a.frame.now in
    let k = known a.command a.l d (record_of a.r) c.requires.4 in
    let s = c.body_start-body in
    text_does a.command a.l d (record_of a.r) k p e head _ a.at _ (ap type_number c.in-Text.is) at last s.result (at_end a.r _ _ c.addr_end-end.ensures s.ensures) _ c.push_text7.ensures.wrote

pub returns-in-Binary : goal.returns-in-Binary
returns-in-Binary c = λ p head e at last.
    let a = c.args in
    let d = a.frame.now in
    let k = known a.command a.l d (record_of a.r) c.requires.4 in
    let s = c.body_start-body in
    binary_does a.command a.l d (record_of a.r) k p e head _ a.at _ (ap type_number c.in-Binary.is) s.result (at_end a.r _ _ c.addr_end-end.ensures s.ensures) _ c.push_bytes.ensures

pub returns-in-ThirdParty : goal.returns-in-ThirdParty
returns-in-ThirdParty c = λ p head e at last.
    let a = c.args in
    let d = a.frame.now in
    let k = known a.command a.l d (record_of a.r) c.requires.4 in
    third_does a.command a.l d (record_of a.r) k p e head _ a.at _ (ap type_number c.in-ThirdParty.is) (c.addr_end-end.result + 2) (ap (λ (n : ℕ). n + 2) c.addr_end-end.ensures) _ c.third_encode.ensures

pub returns-in_default : goal.returns-in_default
returns-in_default c = λ p head e at last.
    let a = c.args in
    let d = a.frame.now in
    let k = known a.command a.l d (record_of a.r) c.requires.4 in
    own_does a.command a.l d (record_of a.r) k p e head _ a.at _ (own_type a.r.aprs_type (c.in_default.not-Text, c.in_default.not-Binary, c.in_default.not-ThirdParty)) (c.addr_end-end.result + 2) (ap (λ (n : ℕ). n + 2) c.addr_end-end.ensures) _ c.aprs_encode.ensures
