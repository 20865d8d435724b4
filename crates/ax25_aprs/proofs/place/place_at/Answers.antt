-- `ax25_aprs::place::place_at` meets its contract: each reading starts where the one before it ended.
-- Assumes nothing.
use native.Mathlib.Omega.{arith}
use mathlib.Core.Path.{◌≡◌, sym, ap, ◌∙◌}
use mathlib.Core.Bool.{Bool, false}
use Prim.Native.Nat.{ℕ, ◌+◌}
use lib.Dec.{eqb}
use lib.ListN.{drop, get_or, length-drop}
use Rattle.laws.specs.Bits.{unpack}
use Rattle.laws.specs.Pick.{pick}
use Rattle.ax25_aprs.specs.LatLon.{table_end}
use Rattle.ax25_aprs.proofs.PlaceLaws.{end_around}
use Rattle.ax25_aprs.proofs.PlacedLaws.{first_got, next_got, next_few, end_width, bit_is, placed}
use Rattle.ax25_aprs.proofs.ValueLaws.{told_few}
use Rattle.ax25_aprs.proofs.place.place_at.Goals as goal

pub returns-in_err-lat : goal.returns-in_err-lat
returns-in_err-lat c =
    let u = unpack c.args.s.now in
    let b = drop c.args.at u in
    let few = told_few u c.args.at 20 (sym c.take.ensures.0 ∙ c.in_err-lat.was) in
    rw c.from_residual.ensures (omega (arith, few, end_around b))

pub returns-in_err-north : goal.returns-in_err-north
returns-in_err-north c =
    let u = unpack c.args.s.now in
    let b = drop c.args.at u in
    let g₁ = first_got u c.args.at 20 c.take.result c.in_ok-lat.lat c.in_ok-lat.field-0-1 c.take.ensures.0 c.in_ok-lat.was in
    let few = next_few u _ 1 c.take.result c.bit.result c.in_ok-lat.lat c.in_ok-lat.field-0-1 c.in_ok-lat.was (rw (c.take.ensures.1) at c.bit.ensures.0) c.in_err-north.was in
    rw c.from_residual-in_err-north.ensures (omega (arith, few, end_around b, length-drop c.args.at u, length-drop c.in_ok-lat.field-0-1 u))

pub returns-in_err-listed : goal.returns-in_err-listed
returns-in_err-listed c =
    let u = unpack c.args.s.now in
    let b = drop c.args.at u in
    let g₁ = first_got u c.args.at 20 c.take.result c.in_ok-lat.lat c.in_ok-lat.field-0-1 c.take.ensures.0 c.in_ok-lat.was in
    let g₂ = next_got u _ 1 c.take.result c.bit.result c.in_ok-lat.lat c.in_ok-lat.field-0-1 c.in_ok-lat.was (rw (c.take.ensures.1) at c.bit.ensures.0) c.in_ok-north.north c.in_ok-north.field-0-1 c.in_ok-north.was in
    let few = next_few u _ 1 c.bit.result c.bit-2.result c.in_ok-north.north c.in_ok-north.field-0-1 c.in_ok-north.was (rw (c.bit.ensures.1, c.take.ensures.1) at c.bit-2.ensures.0) c.in_err-listed.was in
    rw c.from_residual-in_err-listed.ensures (omega (arith, few, end_around b, length-drop c.args.at u, length-drop c.in_ok-north.field-0-1 u))

pub returns-in_err-table : goal.returns-in_err-table
returns-in_err-table c =
    let u = unpack c.args.s.now in
    let b = drop c.args.at u in
    let g₁ = first_got u c.args.at 20 c.take.result c.in_ok-lat.lat c.in_ok-lat.field-0-1 c.take.ensures.0 c.in_ok-lat.was in
    let g₂ = next_got u _ 1 c.take.result c.bit.result c.in_ok-lat.lat c.in_ok-lat.field-0-1 c.in_ok-lat.was (rw (c.take.ensures.1) at c.bit.ensures.0) c.in_ok-north.north c.in_ok-north.field-0-1 c.in_ok-north.was in
    let g₃ = next_got u _ 1 c.bit.result c.bit-2.result c.in_ok-north.north c.in_ok-north.field-0-1 c.in_ok-north.was (rw (c.bit.ensures.1, c.take.ensures.1) at c.bit-2.ensures.0) c.in_ok-listed.listed c.in_ok-listed.field-0-1 c.in_ok-listed.was in
    let few = next_few u _ c.width.result c.bit-2.result c.take-2.result c.in_ok-listed.listed c.in_ok-listed.field-0-1 c.in_ok-listed.was (rw (c.bit-2.ensures.1, c.bit.ensures.1, c.take.ensures.1) at c.take-2.ensures.0) c.in_err-table.was in
    let listed : eqb c.in_ok-listed.listed 1 ≡ get_or b 21 false = bit_is u c.args.at 21 _ c.in_ok-listed.listed (omega arith) g₃.enough g₃.value_is in
    let end : table_end b ≡ 22 + c.width.result = end_width b ∙ ap (λ (x : ℕ). 22 + x) (ap (λ (x : Bool). pick x 3 7) (sym listed) ∙ sym c.width.ensures.0) in
    rw c.from_residual-in_err-table.ensures (omega (arith, few, end, length-drop c.args.at u, length-drop c.in_ok-listed.field-0-1 u))

pub returns-in_err-lon : goal.returns-in_err-lon
returns-in_err-lon c =
    let u = unpack c.args.s.now in
    let b = drop c.args.at u in
    let g₁ = first_got u c.args.at 20 c.take.result c.in_ok-lat.lat c.in_ok-lat.field-0-1 c.take.ensures.0 c.in_ok-lat.was in
    let g₂ = next_got u _ 1 c.take.result c.bit.result c.in_ok-lat.lat c.in_ok-lat.field-0-1 c.in_ok-lat.was (rw (c.take.ensures.1) at c.bit.ensures.0) c.in_ok-north.north c.in_ok-north.field-0-1 c.in_ok-north.was in
    let g₃ = next_got u _ 1 c.bit.result c.bit-2.result c.in_ok-north.north c.in_ok-north.field-0-1 c.in_ok-north.was (rw (c.bit.ensures.1, c.take.ensures.1) at c.bit-2.ensures.0) c.in_ok-listed.listed c.in_ok-listed.field-0-1 c.in_ok-listed.was in
    let g₄ = next_got u _ c.width.result c.bit-2.result c.take-2.result c.in_ok-listed.listed c.in_ok-listed.field-0-1 c.in_ok-listed.was (rw (c.bit-2.ensures.1, c.bit.ensures.1, c.take.ensures.1) at c.take-2.ensures.0) c.in_ok-table.table c.in_ok-table.field-0-1 c.in_ok-table.was in
    let few = next_few u _ 21 c.take-2.result c.take-3.result c.in_ok-table.table c.in_ok-table.field-0-1 c.in_ok-table.was (rw (c.take-2.ensures.1, c.bit-2.ensures.1, c.bit.ensures.1, c.take.ensures.1) at c.take-3.ensures.0) c.in_err-lon.was in
    let listed : eqb c.in_ok-listed.listed 1 ≡ get_or b 21 false = bit_is u c.args.at 21 _ c.in_ok-listed.listed (omega arith) g₃.enough g₃.value_is in
    let end : table_end b ≡ 22 + c.width.result = end_width b ∙ ap (λ (x : ℕ). 22 + x) (ap (λ (x : Bool). pick x 3 7) (sym listed) ∙ sym c.width.ensures.0) in
    rw c.from_residual-in_err-lon.ensures (omega (arith, few, end, length-drop c.args.at u, length-drop c.in_ok-table.field-0-1 u))

pub returns-in_err-west : goal.returns-in_err-west
returns-in_err-west c =
    let u = unpack c.args.s.now in
    let b = drop c.args.at u in
    let g₁ = first_got u c.args.at 20 c.take.result c.in_ok-lat.lat c.in_ok-lat.field-0-1 c.take.ensures.0 c.in_ok-lat.was in
    let g₂ = next_got u _ 1 c.take.result c.bit.result c.in_ok-lat.lat c.in_ok-lat.field-0-1 c.in_ok-lat.was (rw (c.take.ensures.1) at c.bit.ensures.0) c.in_ok-north.north c.in_ok-north.field-0-1 c.in_ok-north.was in
    let g₃ = next_got u _ 1 c.bit.result c.bit-2.result c.in_ok-north.north c.in_ok-north.field-0-1 c.in_ok-north.was (rw (c.bit.ensures.1, c.take.ensures.1) at c.bit-2.ensures.0) c.in_ok-listed.listed c.in_ok-listed.field-0-1 c.in_ok-listed.was in
    let g₄ = next_got u _ c.width.result c.bit-2.result c.take-2.result c.in_ok-listed.listed c.in_ok-listed.field-0-1 c.in_ok-listed.was (rw (c.bit-2.ensures.1, c.bit.ensures.1, c.take.ensures.1) at c.take-2.ensures.0) c.in_ok-table.table c.in_ok-table.field-0-1 c.in_ok-table.was in
    let g₅ = next_got u _ 21 c.take-2.result c.take-3.result c.in_ok-table.table c.in_ok-table.field-0-1 c.in_ok-table.was (rw (c.take-2.ensures.1, c.bit-2.ensures.1, c.bit.ensures.1, c.take.ensures.1) at c.take-3.ensures.0) c.in_ok-lon.lon c.in_ok-lon.field-0-1 c.in_ok-lon.was in
    let few = next_few u _ 1 c.take-3.result c.bit-3.result c.in_ok-lon.lon c.in_ok-lon.field-0-1 c.in_ok-lon.was (rw (c.take-3.ensures.1, c.take-2.ensures.1, c.bit-2.ensures.1, c.bit.ensures.1, c.take.ensures.1) at c.bit-3.ensures.0) c.in_err-west.was in
    let listed : eqb c.in_ok-listed.listed 1 ≡ get_or b 21 false = bit_is u c.args.at 21 _ c.in_ok-listed.listed (omega arith) g₃.enough g₃.value_is in
    let end : table_end b ≡ 22 + c.width.result = end_width b ∙ ap (λ (x : ℕ). 22 + x) (ap (λ (x : Bool). pick x 3 7) (sym listed) ∙ sym c.width.ensures.0) in
    rw c.from_residual-in_err-west.ensures (omega (arith, few, end, length-drop c.args.at u, length-drop c.in_ok-lon.field-0-1 u))

pub returns-in_err-symbol : goal.returns-in_err-symbol
returns-in_err-symbol c =
    let u = unpack c.args.s.now in
    let b = drop c.args.at u in
    let g₁ = first_got u c.args.at 20 c.take.result c.in_ok-lat.lat c.in_ok-lat.field-0-1 c.take.ensures.0 c.in_ok-lat.was in
    let g₂ = next_got u _ 1 c.take.result c.bit.result c.in_ok-lat.lat c.in_ok-lat.field-0-1 c.in_ok-lat.was (rw (c.take.ensures.1) at c.bit.ensures.0) c.in_ok-north.north c.in_ok-north.field-0-1 c.in_ok-north.was in
    let g₃ = next_got u _ 1 c.bit.result c.bit-2.result c.in_ok-north.north c.in_ok-north.field-0-1 c.in_ok-north.was (rw (c.bit.ensures.1, c.take.ensures.1) at c.bit-2.ensures.0) c.in_ok-listed.listed c.in_ok-listed.field-0-1 c.in_ok-listed.was in
    let g₄ = next_got u _ c.width.result c.bit-2.result c.take-2.result c.in_ok-listed.listed c.in_ok-listed.field-0-1 c.in_ok-listed.was (rw (c.bit-2.ensures.1, c.bit.ensures.1, c.take.ensures.1) at c.take-2.ensures.0) c.in_ok-table.table c.in_ok-table.field-0-1 c.in_ok-table.was in
    let g₅ = next_got u _ 21 c.take-2.result c.take-3.result c.in_ok-table.table c.in_ok-table.field-0-1 c.in_ok-table.was (rw (c.take-2.ensures.1, c.bit-2.ensures.1, c.bit.ensures.1, c.take.ensures.1) at c.take-3.ensures.0) c.in_ok-lon.lon c.in_ok-lon.field-0-1 c.in_ok-lon.was in
    let g₆ = next_got u _ 1 c.take-3.result c.bit-3.result c.in_ok-lon.lon c.in_ok-lon.field-0-1 c.in_ok-lon.was (rw (c.take-3.ensures.1, c.take-2.ensures.1, c.bit-2.ensures.1, c.bit.ensures.1, c.take.ensures.1) at c.bit-3.ensures.0) c.in_ok-west.west c.in_ok-west.field-0-1 c.in_ok-west.was in
    let few = next_few u _ 7 c.bit-3.result c.take-4.result c.in_ok-west.west c.in_ok-west.field-0-1 c.in_ok-west.was (rw (c.bit-3.ensures.1, c.take-3.ensures.1, c.take-2.ensures.1, c.bit-2.ensures.1, c.bit.ensures.1, c.take.ensures.1) at c.take-4.ensures.0) c.in_err-symbol.was in
    let listed : eqb c.in_ok-listed.listed 1 ≡ get_or b 21 false = bit_is u c.args.at 21 _ c.in_ok-listed.listed (omega arith) g₃.enough g₃.value_is in
    let end : table_end b ≡ 22 + c.width.result = end_width b ∙ ap (λ (x : ℕ). 22 + x) (ap (λ (x : Bool). pick x 3 7) (sym listed) ∙ sym c.width.ensures.0) in
    rw c.from_residual-in_err-symbol.ensures (omega (arith, few, end, length-drop c.args.at u, length-drop c.in_ok-west.field-0-1 u))

pub returns : goal.returns
returns c =
    let u = unpack c.args.s.now in
    let b = drop c.args.at u in
    let g₁ = first_got u c.args.at 20 c.take.result c.in_ok-lat.lat c.in_ok-lat.field-0-1 c.take.ensures.0 c.in_ok-lat.was in
    let g₂ = next_got u _ 1 c.take.result c.bit.result c.in_ok-lat.lat c.in_ok-lat.field-0-1 c.in_ok-lat.was (rw (c.take.ensures.1) at c.bit.ensures.0) c.in_ok-north.north c.in_ok-north.field-0-1 c.in_ok-north.was in
    let g₃ = next_got u _ 1 c.bit.result c.bit-2.result c.in_ok-north.north c.in_ok-north.field-0-1 c.in_ok-north.was (rw (c.bit.ensures.1, c.take.ensures.1) at c.bit-2.ensures.0) c.in_ok-listed.listed c.in_ok-listed.field-0-1 c.in_ok-listed.was in
    let g₄ = next_got u _ c.width.result c.bit-2.result c.take-2.result c.in_ok-listed.listed c.in_ok-listed.field-0-1 c.in_ok-listed.was (rw (c.bit-2.ensures.1, c.bit.ensures.1, c.take.ensures.1) at c.take-2.ensures.0) c.in_ok-table.table c.in_ok-table.field-0-1 c.in_ok-table.was in
    let g₅ = next_got u _ 21 c.take-2.result c.take-3.result c.in_ok-table.table c.in_ok-table.field-0-1 c.in_ok-table.was (rw (c.take-2.ensures.1, c.bit-2.ensures.1, c.bit.ensures.1, c.take.ensures.1) at c.take-3.ensures.0) c.in_ok-lon.lon c.in_ok-lon.field-0-1 c.in_ok-lon.was in
    let g₆ = next_got u _ 1 c.take-3.result c.bit-3.result c.in_ok-lon.lon c.in_ok-lon.field-0-1 c.in_ok-lon.was (rw (c.take-3.ensures.1, c.take-2.ensures.1, c.bit-2.ensures.1, c.bit.ensures.1, c.take.ensures.1) at c.bit-3.ensures.0) c.in_ok-west.west c.in_ok-west.field-0-1 c.in_ok-west.was in
    let g₇ = next_got u _ 7 c.bit-3.result c.take-4.result c.in_ok-west.west c.in_ok-west.field-0-1 c.in_ok-west.was (rw (c.bit-3.ensures.1, c.take-3.ensures.1, c.take-2.ensures.1, c.bit-2.ensures.1, c.bit.ensures.1, c.take.ensures.1) at c.take-4.ensures.0) c.in_ok-symbol.symbol c.in_ok-symbol.next c.in_ok-symbol.was in
    placed u c.args.at _ _ _ _ _ _ _ _ _ _ _ _ _ _ c.width.result g₁ g₂ g₃ c.width.ensures.0 g₄ g₅ g₆ g₇
