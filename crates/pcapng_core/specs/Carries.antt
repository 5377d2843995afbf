-- The state that a reader carries from block to block.
use Rattle.std.specs.Prelude.{Bool, Option, Some, None, [], ◌∷◌, ◌++◌}
use Rattle.pcapng_defs.specs.declared.interface.Interface.{Interface}
use Rattle.pcapng_defs.specs.declared.interface.Unit.{Unit}
use Rattle.pcapng_defs.specs.Block.{Carried, past}
use Rattle.pcapng_core.specs.declared.carry.Carry.{Carry}
use Rattle.pcapng_core.specs.declared.body.Packet.{Packet}
use Rattle.pcapng_core.specs.declared.body.Body.{Body}
use Rattle.pcapng_core.specs.declared.body.Body.TheVariants as body

-- the state in terms of the grammar
abbrev pub carried_of : Carry → Carried
carried_of carry = record { big = carry.big; described = carry.described.items; moment = carry.moment; blocks = carry.blocks }

-- the state with one more interface
abbrev pub described_also : Carried → Interface → Carried
described_also c i = record c { described = c.described ++ i ∷ [] }

-- the packet of a whole block with this body, if it is one, and the next state, unless the block is
-- at fault; its options give the unit
abbrev pub went : Carried → Bool → Unit → Body → Option (Option Packet × Carried)
went c big unit body.Section = Some (None, record (past c) { big = big; described = [] })
went c big unit (body.Interface link snapshot) = Some (None, past (described_also c (record { link = link; snapshot = snapshot; unit = unit })))
went c big unit (body.Packet p) = Some (Some p, record (past c) { moment = p.moment })
went c big unit body.Other = Some (None, past c)
went c big unit (body.Faulty e) = None
