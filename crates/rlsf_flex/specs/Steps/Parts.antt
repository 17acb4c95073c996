-- The parts that an allocator over a source is made of, as its functions have them.
use Rattle.std.specs.Prelude.{ℕ}
use Rattle.rlsf_flex.specs.declared.parts.Parts.{Parts}
use Rattle.rlsf_flex.specs.StandsFor.{FlexContents, flex_contents}

-- the allocator over a source, by its parts
abbrev pub flex_over : {S : Type 0} {fllen sllen : ℕ} → Parts S fllen sllen → FlexContents S
flex_over p = flex_contents p.tlsf p.kept p.source p.owed.ranges
