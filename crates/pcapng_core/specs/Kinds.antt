-- The kinds of blocks that a reader distinguishes.
use Rattle.pcapng_defs.specs.Block.{BlockKind, section, interface, enhanced, simple, other}
use Rattle.pcapng_core.specs.declared.start.Kind.{Kind}
use Rattle.pcapng_core.specs.declared.start.Kind.TheVariants.{Section, Interface, Enhanced, Simple, Other}

-- the kinds in terms of the grammar
abbrev pub kind_said : Kind → BlockKind
kind_said Section = section
kind_said Interface = interface
kind_said Enhanced = enhanced
kind_said Simple = simple
kind_said Other = other
