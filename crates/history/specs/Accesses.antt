-- The parts of an access, and what it gives where it passes. Assumes nothing.
use Rattle.std.specs.Prelude.{ℕ, ◌-◌, Bool, false}
use Rattle.access.specs.declared.access.Kind.{Kind}
use Rattle.memory.specs.Effects.{value_at, byte_of, covers}
use Rattle.history.specs.declared.call.Access.{Access}
use Rattle.history.specs.declared.call.Access.TheVariants.{Load, Store, Fetch}
use Rattle.history.specs.declared.call.Answer.{Answer}
use Rattle.history.specs.declared.call.Answer.TheVariants.{Done, Value}

abbrev pub kind_of : Access → Kind
kind_of (Load a w) = Kind.Load
kind_of (Store a w v) = Kind.Store
kind_of (Fetch a w) = Kind.Fetch

abbrev pub address_of : Access → ℕ
address_of (Load a w) = a
address_of (Store a w v) = a
address_of (Fetch a w) = a

abbrev pub width_of : Access → ℕ
width_of (Load a w) = w
width_of (Store a w v) = w
width_of (Fetch a w) = w

-- A load or a fetch gives the little-endian value of its bytes, a store nothing.
abbrev pub given : (ℕ → ℕ) → Access → Answer
given byte (Load a w) = Value (value_at byte a w)
given byte (Store a w v) = Done
given byte (Fetch a w) = Value (value_at byte a w)

-- Whether the access is a store that has the byte at x.
abbrev pub stores_at : Access → ℕ → Bool
stores_at (Load a w) x = false
stores_at (Store a w v) x = covers a w x
stores_at (Fetch a w) x = false

-- The byte that a store puts at x, the lowest byte of its value at its address.
abbrev pub stored_byte : Access → ℕ → ℕ
stored_byte (Load a w) x = 0
stored_byte (Store a w v) x = byte_of v (x - a)
stored_byte (Fetch a w) x = 0
