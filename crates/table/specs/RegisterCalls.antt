-- What reads and writes of registers answer. Assumes nothing.
use Rattle.std.specs.Prelude.{◌≡◌, ℕ, zero, suc, ◌+◌, ◌-◌, ◌*◌, ◌/◌, ◌%◌, ◌^◌, ◌<◌, cond, not, ◌&&◌, [], ◌∷◌, Option, nat_lt}
use Rattle.access.specs.Cases.{Report, refused, first_of}
use Rattle.book.specs.Bits.{bit, without_reserved}
use Rattle.book.specs.Books.{Book}
use Rattle.table.specs.Registers.{Registers, put, with_address_at, with_config_at, with_switch}
use Rattle.table.specs.declared.refusal.RegisterRefusal.{RegisterRefusal}
use Rattle.table.specs.declared.refusal.RegisterRefusal.TheVariants.{NoSuchRegister, ShortBuffer}

-- The number of each refusal; none carries a value.
abbrev pub register_report : RegisterRefusal → Report
register_report NoSuchRegister = refused 31 []
register_report ShortBuffer = refused 32 []

-- There are `count` registers, numbered from 0: 31 for any other number.
abbrev pub no_register : ℕ → ℕ → Option Report
no_register count n = first_of ((not (nat_lt n count), refused 31 []) ∷ [])

-- What a configuration byte is after a write: the new one without its reserved bits, if the book holds that for legal; else as it was.
abbrev pub kept_byte : Book → ℕ → ℕ → ℕ
kept_byte b old new = cond (b.legal (without_reserved new)) (without_reserved new) old

-- An entry written whole: its byte by the book's rule, and of the address the f bits that a register keeps.
abbrev pub entry_written : ℕ → Book → Registers → ℕ → ℕ → ℕ → Registers
entry_written f b r i c a = with_address_at (with_config_at r i (kept_byte b (r.config i) c)) i (a % 2 ^ f)

-- The configuration bytes of `count` entries from `start` on, lowest byte first.
abbrev pub packed : Registers → ℕ → ℕ → ℕ
packed r start zero = 0
packed r start (suc count) = packed r start count + r.config (start + count) * 256 ^ count

-- The lowest `count` bytes of a word written to the entries from `start` on, each by the book's rule.
abbrev pub bytes_written : Book → Registers → ℕ → ℕ → ℕ → Registers
bytes_written b r start w count = record {
  config = λ i. cond (not (nat_lt i start) && nat_lt i (start + count)) (kept_byte b (r.config i) (w / 256 ^ (i - start) % 256)) (r.config i);
  address = r.address;
  switch = r.switch;
}

-- Switch word j of the two of RV32.
abbrev pub switch_word : Registers → ℕ → ℕ
switch_word r j = r.switch / 2 ^ (32 * j) % 2 ^ 32

-- The switch bits of two words.
abbrev pub joined : (ℕ → ℕ) → ℕ
joined word = word 0 + word 1 * 2 ^ 32

-- Switch word n written, and the other as it was.
abbrev pub switch_written : Registers → ℕ → ℕ → Registers
switch_written r n w = with_switch r (joined (put (switch_word r) n w))

-- The switch bit of an entry, found in the two words: 32 entries to a word, the lowest bit first.
abbrev pub SwitchBits : Registers → Type 0
SwitchBits r = (i : ℕ) → i < 64 → bit (switch_word r (i / 32)) (i % 32) ≡ bit r.switch i
