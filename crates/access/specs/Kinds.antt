-- The kinds of access in words, and those that read. Assumes nothing.
use Rattle.std.specs.Prelude.{ℕ, List, codes}
use Rattle.access.specs.declared.access.Kind.{Kind}
use Rattle.access.specs.declared.access.Reading.{Reading}
use Rattle.access.specs.declared.access.Reading.TheVariants.{Load, Fetch}

-- The kind of an access that reads.
abbrev pub kind_of : Reading → Kind
kind_of Load = Kind.Load
kind_of Fetch = Kind.Fetch

-- A kind as it is printed.
abbrev pub word_of : Kind → List ℕ
word_of Kind.Load = codes "load"
word_of Kind.Store = codes "store"
word_of Kind.Fetch = codes "fetch"
