-- What the code of a pair means by a side. Assumes nothing.
use Rattle.std.specs.Prelude.{◌≡◌, ℕ, ◌+◌, ◌-◌, ◌<◌, ◌≤◌, Option, Some, None}
use Rattle.memory.specs.Meaning.{memory_end}
use Rattle.memory.specs.declared.side.Side.{Side}
use Rattle.memory.specs.declared.side.Side.TheVariants.{First, Second}

-- The side that an access of w bytes at the address a goes to, if any, where the first memory has n bytes.
abbrev pub Goes : ℕ → ℕ → ℕ → ℕ → Option Side → Type 0
Goes f n a w (Some First) = (a + w ≤ memory_end f) × (a + w ≤ n)
Goes f n a w (Some (Second b)) = (a + w ≤ memory_end f) × (n < a + w) × (n ≤ a) × (b ≡ a - n)
Goes f n a w None = (a + w ≤ memory_end f → (a < n) × (n < a + w))
