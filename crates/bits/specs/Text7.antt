-- `text7` of bits.rs: text of seven bits a byte, without the pad that closes it.
-- Assumes nothing.
use Rattle.std.specs.Prelude.{Bool, true, false, not, List, [], ◌∷◌, ℕ, zero, suc, ◌+◌, ◌-◌, ◌/◌, length, drop}
use Rattle.std.specs.Prelude.{Option, None, Some}
use Rattle.std.proofs.lemmas.List.Edits.{sets}
use Rattle.laws.specs.Bits.{num}
use Rattle.bits_write.specs.Text7.{last_or}
use Rattle.bits.specs.Read.{numbers}

unfoldable pub differ : Bool → Bool → Bool
differ true b = not b
differ false b = b

-- the count of bits with one more in front: it counts where one after it does, or where it differs
unfoldable pub counted : Bool → ℕ → ℕ
counted d zero = num d
counted d (suc e) = suc (suc e)

-- how many bits there are up to the last that differs from p: without "the trailing run of equal bits"
unfoldable pub end_of : Bool → List Bool → ℕ
end_of p [] = 0
end_of p (x ∷ xs) = counted (differ x p) (end_of p xs)

-- what `text7` reads from a place of a message's bits: it "drops the trailing run of equal bits and reads sevens; on no bits at all it gives `None`"
unfoldable pub text7_of : List Bool → ℕ → Option (List ℕ)
text7_of [] at = None
text7_of (x ∷ xs) at = Some (numbers 7 ((end_of (last_or x xs) (x ∷ xs) - at) / 7) (drop at (x ∷ xs)))

-- the answer, with the next place of an output that is written from `to` on, and the output then
unfoldable pub text7_next : ℕ → Option (List ℕ) → Option ℕ
text7_next to None = None
text7_next to (Some t) = Some (to + length t)

unfoldable pub text7_left : List ℕ → ℕ → Option (List ℕ) → List ℕ
text7_left out to None = out
text7_left out to (Some t) = sets out to t
