-- The library's bytes of a number are the document's.
use Rattle.std.proofs.Common.{◌≡◌, ℕ, ◌/◌, refl, arith}
use Rattle.std.specs.Int.{w16, w32, to_le_bytes}
use Rattle.model.specs.Writing.{number_bytes}

pub number_bytes_2 : (x : ℕ) → to_le_bytes w16 x ≡ number_bytes 2 x
number_bytes_2 x = refl

pub number_bytes_4 : (x : ℕ) → to_le_bytes w32 x ≡ number_bytes 4 x
number_bytes_4 x =
    let third : x / 65_536 ≡ x / 256 / 256 = omega arith in
    let fourth : x / 16_777_216 ≡ x / 256 / 256 / 256 = omega arith in
    rw (third, fourth)
