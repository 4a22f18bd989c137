-- Worked cases, on the definitions. Assumes nothing.
use Rattle.std.specs.Prelude.{◌≡◌, ◌-◌, ◌^◌, true, false, [], Some, None}
use Rattle.access.specs.Cases.{refused}
use Rattle.access.specs.Formed.{WellFormed, ill_formed}
use Rattle.access.specs.declared.access.Kind.TheVariants.{Load, Store}
use Rattle.access.specs.declared.access.Mode.TheVariants.{Supervisor, User}
use Rattle.book.specs.SpmpBook.{spmp_book}
use Rattle.grants.specs.Worked.{WorkedGrants, WorkedLayout}
use Rattle.table.specs.Bounds.{resolved}
use Rattle.table.specs.RegisterCalls.{kept_byte}
use Rattle.table.specs.declared.matching.Matching.TheVariants.{Napot}

pub record WorkedCases : Type 0 where
  -- what NAPOT registers cover: a page, half of the largest block, and all of it
  pub page : resolved Napot 0x200001ff 0 ≡ (0x80000000, 0x80001000)
  pub half : resolved Napot 0x7fffffff 0 ≡ (0, 2 ^ 34)
  pub all : resolved Napot 0xffffffff 0 ≡ (0, 2 ^ 35)
  -- an illegal byte does not replace a legal one
  pub byte_stays : kept_byte spmp_book 0x0b 0x80 ≡ 0x0b
  -- data that the user may read and the supervisor may also write
  pub user_store : spmp_book.permits 0x0a User false Store ≡ false
  pub user_load : spmp_book.permits 0x0a User false Load ≡ true
  pub supervisor_store : spmp_book.permits 0x0a Supervisor false Store ≡ true
  -- the last eight bytes can be loaded at once, and nothing beyond them
  pub last_load : WellFormed 32 Load (2 ^ 34 - 8) 8
  pub last_accepted : ill_formed 32 Load (2 ^ 34 - 8) 8 ≡ None
  pub past_the_end : ill_formed 32 Load (2 ^ 34 - 7) 8 ≡ Some (refused 42 [])
  -- regions at the end of the addresses, and the entries of the example layout
  pub grants : WorkedGrants
  pub layout : WorkedLayout
