-- What an address owns.
use Rattle.std.specs.Prelude.{Bool, true, false}
use Rattle.std.specs.Box.Ownership.{box_owns}
use Rattle.std.specs.Global.{Global}
use Rattle.std.specs.contracts.impls.GlobalAllocator.TheImpl as heap
use base.Fml.{Fml, ftrue}
use denote.RawPtr.{Ptr}
use Rattle.amm_ffi.specs.Progress.{Progress}
use Rattle.amm_ffi.specs.contracts.session.Session.{the_row}

-- a handle to the heap: all of them are equal
abbrev pub the_heap : Global
the_heap = record { memory = record { seal = tt } }

-- the box of a session that has come so far, or nothing where there is none
abbrev pub address_owns : Bool → Ptr → Progress → Fml
address_owns true at held = box_owns (heap.ghosts.dealloc_token the_heap) the_row at held
address_owns false at held = ftrue
