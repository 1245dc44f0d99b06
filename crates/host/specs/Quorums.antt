-- How many equal acks accept a transfer.
use Rattle.std.specs.Prelude.{ℕ, ◌<◌, ◌≡◌, true, false}
use Rattle.model.specs.Acks.{enough}

-- the fewest acks that are enough in a group of n seats of which f may misbehave
pub record Fewest (n f r : ℕ) : Type 0 where
  pub accepts : enough n f r ≡ true
  pub fewest : (c : ℕ) → c < r → enough n f c ≡ false
